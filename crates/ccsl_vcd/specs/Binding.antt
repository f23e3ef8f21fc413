-- Declarations, and the clocks that they bind. All of it is this project's profile: a dump knows of no clocks.
use Rattle.std.specs.Prelude.{ℕ, ◌+◌, List, [], ◌∷◌, ◌++◌, Bool, not, Result, Ok, Err, nat_lt, min, ◌==◌, ◌&&◌, ◌||◌, if◌then◌else◌, codes, bytes_eq, filter}
use Rattle.std.specs.List.{list_all}
use Rattle.ccsl_vcd.specs.declared.fault.VcdFault.{VcdFault}
use Rattle.ccsl_vcd.specs.declared.fault.VcdFault.TheVariants.{Unbound, Ambiguous}

-- what a $var declares, and in how many scopes it stands
pub record Declaration : Type 0 where
  pub depth : ℕ
  pub kind : List ℕ
  pub size : ℕ
  pub code : List ℕ
  pub reference : List ℕ

abbrev pub is_event : Declaration → Bool
is_event d = bytes_eq d.kind (codes "event")

-- a type whose values are no bits
abbrev pub has_numbers : Declaration → Bool
has_numbers d = bytes_eq d.kind (codes "real") || (bytes_eq d.kind (codes "realtime") || bytes_eq d.kind (codes "string"))

-- the names of the clocks that a trace may bind, by number, and how many of them it has to bind
pub record Wanted : Type 0 where
  pub names : List (List ℕ)
  pub declared : ℕ

-- an event of any size, or a net of one bit, whose reference is the name
abbrev pub qualifies : List ℕ → Declaration → Bool
qualifies name d = bytes_eq d.reference name && (is_event d || (d.size == 1 && not (has_numbers d)))

abbrev pub least_depth : Declaration → List Declaration → ℕ
least_depth d [] = d.depth
least_depth d (e ∷ es) = min d.depth (least_depth e es)

-- those of the least depth, so that an outer scope wins over an inner one
abbrev pub outermost : List Declaration → List Declaration
outermost [] = []
outermost (d ∷ ds) = filter (λ e. e.depth == least_depth d ds) (d ∷ ds)

abbrev pub candidates : List ℕ → List Declaration → List Declaration
candidates name ds = outermost (filter (qualifies name) ds)

-- a bound clock, and the code whose changes make it tick
pub record Bound : Type 0 where
  pub clock : ℕ
  pub code : List ℕ
  pub event : Bool

-- what a clock with these candidates is bound to, where it must be bound or not
abbrev pub bind_one : ℕ → Bool → List Declaration → Result (List Bound) VcdFault
bind_one clock must [] = if must then Err (Unbound clock) else Ok []
bind_one clock must (d ∷ ds) =
    if list_all (λ e. bytes_eq e.code d.code) ds then Ok (record { clock = clock; code = d.code; event = is_event d } ∷ [])
    else Err (Ambiguous clock)

-- the first fault
abbrev pub joined : Result (List Bound) VcdFault → Result (List Bound) VcdFault → Result (List Bound) VcdFault
joined (Err f) r = Err f
joined (Ok b) (Err f) = Err f
joined (Ok b) (Ok bs) = Ok (b ++ bs)

-- the clocks from a number on
abbrev pub bind_from : ℕ → ℕ → List (List ℕ) → List Declaration → Result (List Bound) VcdFault
bind_from clock declared [] ds = Ok []
bind_from clock declared (name ∷ names) ds =
    joined (bind_one clock (nat_lt clock declared) (candidates name ds)) (bind_from (clock + 1) declared names ds)

-- the bound clocks in order, or the fault of the first clock that has one
unfoldable pub bind : Wanted → List Declaration → Result (List Bound) VcdFault
bind wanted ds = bind_from 0 wanted.declared wanted.names ds
