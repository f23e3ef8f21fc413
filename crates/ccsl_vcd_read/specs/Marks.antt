-- What a reader keeps of the changes, for each bound clock.
use Rattle.std.specs.Prelude.{ℕ, List, Bool, true, false, not, Option, Some, None, ◌==◌, ◌&&◌, ◌||◌, if◌then◌else◌, filter, map, unwrap_or}
use Rattle.std.specs.Option.{option_or}
use Rattle.ccsl_vcd.specs.Binding.{Bound}
use Rattle.ccsl_vcd.specs.Places.{Change}
use Rattle.ccsl_vcd.specs.Rows.{last_value, event_ticks}
use Rattle.ccsl_bind.specs.Codes.{number_of}
use Rattle.ccsl_vcd_read.specs.declared.marks.Mark.{Mark}

-- a change of a code, by its number
abbrev pub put : ℕ → Bool → Bool → Mark → Mark
put code one dumped m =
    if m.code == code
    then (if m.event then record m { now = m.now || not dumped } else record m { now = one })
    else m

-- the clocks that tick
abbrev pub is_ticking : Mark → Bool
is_ticking m = m.now && not m.before

abbrev pub ticking : List Mark → List ℕ
ticking ms = map (λ m. m.clock) (filter is_ticking ms)

-- a mark as a later time finds it
abbrev pub aged : Mark → Mark
aged m = record m { now = not m.event && m.now; before = not m.event && m.now }

-- A net without a value counts as 1, so that its first value makes no tick.
abbrev pub stands : Option Bool → Bool
stands None = true
stands (Some one) = one

-- the mark of a bound clock, behind earlier changes and those at the present time
abbrev pub mark_of : List (List ℕ) → List Change → List Change → Bound → Mark
mark_of codes old cur b = record {
  clock = b.clock;
  code = unwrap_or (number_of b.code codes) 0;
  event = b.event;
  now = if b.event then event_ticks b.code cur else stands (option_or (last_value b.code cur) (last_value b.code old));
  before = if b.event then false else stands (last_value b.code old);
}
