use Rattle.std.proofs.Common.{◌≡◌, take, true}
use Rattle.std.specs.List.{list_all}
use Rattle.ccsl_vcd.specs.Words.{is_scalar}
use Rattle.ccsl_events.proofs.word.are_bits.Given as goal

abbrev pub invariant-loop-b : goal.invariant-loop-b
invariant-loop-b l = l.others ≡ 0 → list_all is_scalar (take l.b-index l.text) ≡ true
