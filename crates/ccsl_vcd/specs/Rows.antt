-- The rows of a recorded trace: the times at which a bound clock ticks. This project's profile.
use Rattle.std.specs.Prelude.{◌≡◌, ℕ, List, [], ◌∷◌, length, Bool, true, false, not, Option, Some, None, nat_lt, ◌==◌, ◌&&◌, if◌then◌else◌, bytes_eq, filter}
use Rattle.std.specs.Prelude.{map}
use Rattle.std.specs.List.{list_any}
use Rattle.std.specs.Option.{option_or}
use Rattle.ccsl_base.specs.declared.rows.Row.{Row}
use Rattle.ccsl_vcd.specs.declared.limits.Limits.{Limits}
use Rattle.ccsl_vcd.specs.Binding.{Wanted, Bound}
use Rattle.ccsl_vcd.specs.Places.{Change, Where, header, body}
use Rattle.ccsl_vcd.specs.Reading.{Story, reading}

-- whether the last value that some changes give a code is 1
abbrev pub last_value : List ℕ → List Change → Option Bool
last_value code [] = None
last_value code (c ∷ cs) = option_or (last_value code cs) (if bytes_eq c.code code then Some c.one else None)

-- the changes before a time, and those at it
abbrev pub before : ℕ → List Change → List Change
before time cs = filter (λ c. nat_lt c.time time) cs

abbrev pub at : ℕ → List Change → List Change
at time cs = filter (λ c. c.time == time) cs

abbrev pub is_value : Bool → Option Bool → Bool
is_value v None = false
is_value true (Some w) = w
is_value false (Some w) = not w

-- an event clock ticks at a time with a change outside a dump block, whatever the value
abbrev pub event_ticks : List ℕ → List Change → Bool
event_ticks code now = list_any (λ c. bytes_eq c.code code && not c.dumped) now

-- a net ticks at a time that leaves it 1 where an earlier one left it at another value: its first value makes no tick
abbrev pub net_ticks : List ℕ → List Change → List Change → Bool
net_ticks code now earlier = is_value true (last_value code now) && is_value false (last_value code earlier)

-- whether a clock ticks at a time with these changes, behind earlier ones
abbrev pub ticks : List Change → List Change → Bound → Bool
ticks now earlier b = if b.event then event_ticks b.code now else net_ticks b.code now earlier

-- the row of a time with these changes, behind earlier ones
abbrev pub row : List Bound → ℕ → List Change → List Change → Row
row bound time now earlier = record { time = time; ticks = map (λ b. b.clock) (filter (ticks now earlier) bound) }

abbrev pub row_at : List Bound → List Change → ℕ → Row
row_at bound cs time = row bound time (at time cs) (before time cs)

-- the times of the changes, each once
abbrev pub put_time : ℕ → List ℕ → List ℕ
put_time t [] = t ∷ []
put_time t (u ∷ us) = if u == t then u ∷ us else t ∷ u ∷ us

abbrev pub times : List Change → List ℕ
times [] = []
times (c ∷ cs) = put_time c.time (times cs)

abbrev pub has_ticks : Row → Bool
has_ticks r = nat_lt 0 (length r.ticks)

-- the rows of changes
unfoldable pub rows : List Bound → List Change → List Row
rows bound cs = filter has_ticks (map (row_at bound cs) (times cs))

-- the bound clocks and the present time of a place; in the header none is bound yet
abbrev pub bound_at : Where → List Bound
bound_at (header h) = []
bound_at (body b) = b.bound

-- all rows of a story, and those that a greater time has completed
abbrev pub rows_of : Story → List Row
rows_of s = rows (bound_at s.place) s.changes

-- the rows of a whole file
unfoldable pub recorded : Wanted → Limits → List ℕ → List Row
recorded wanted limits file = rows_of (reading wanted limits file)

-- a file that is read without a fault
abbrev pub IsRead : Wanted → Limits → List ℕ → Type 0
IsRead wanted limits file = (reading wanted limits file).fault ≡ None
