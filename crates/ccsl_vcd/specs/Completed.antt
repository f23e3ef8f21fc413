-- The rows that the first bytes of a trace complete.
use Rattle.std.specs.Prelude.{ℕ, List, Bool, nat_lt, filter}
use Rattle.ccsl_base.specs.declared.rows.Row.{Row}
use Rattle.ccsl_vcd.specs.declared.limits.Limits.{Limits}
use Rattle.ccsl_vcd.specs.Binding.{Wanted}
use Rattle.ccsl_vcd.specs.Places.{Where, header, body}
use Rattle.ccsl_vcd.specs.Reading.{Story, so_far}
use Rattle.ccsl_vcd.specs.Rows.{rows_of}

abbrev pub now_at : Where → ℕ
now_at (header h) = 0
now_at (body b) = b.now

abbrev pub is_before : ℕ → Row → Bool
is_before now r = nat_lt r.time now

abbrev pub complete : Story → List Row
complete s = filter (is_before (now_at s.place)) (rows_of s)

-- the rows that these bytes of a file complete: a token with a greater time has ended
unfoldable pub done : Wanted → Limits → List ℕ → List Row
done wanted limits bytes = complete (so_far wanted limits bytes)
