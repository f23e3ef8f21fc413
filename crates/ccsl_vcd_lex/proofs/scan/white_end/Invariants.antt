use Rattle.std.proofs.Common.{◌≡◌, ◌+◌, ◌-◌, ◌≤◌, length, drop}
use Rattle.std.specs.List.{prefix_len}
use Rattle.ccsl_vcd_lex.specs.Tokens.{is_white}
use Rattle.ccsl_vcd_lex.proofs.scan.white_end.Given as goal

abbrev pub invariant-loop-i : goal.invariant-loop-i
invariant-loop-i l = (l.from + prefix_len is_white (drop l.from l.bytes) ≡ l.i + prefix_len is_white (drop l.i l.bytes)) × (l.i ≤ length l.bytes)

abbrev pub decreases-loop-i : goal.decreases-loop-i
decreases-loop-i l = length l.bytes - l.i
