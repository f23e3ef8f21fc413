-- The greatest so far and that of the rest are the whole.
use Rattle.std.proofs.Common.{◌≡◌, ◌≤◌, List, drop, map, max, length}
use Rattle.ccsl_ast.specs.Trees.{PlainMember}
use Rattle.ccsl_ast.specs.Plain.{plain_member}
use Rattle.ccsl_ast.specs.declared.definition.Member.{Member}
use Rattle.ccsl_kernel.specs.Cells.{saturated, greatest}
use Rattle.ccsl_elaborate.proofs.cells.most_params.Given as goal

abbrev pub invariant-loop-member : goal.invariant-loop-member
invariant-loop-member l = let f =
    λ (ms : List Member). greatest (map (λ (m : PlainMember). length m.params) (map plain_member ms)) in
    record { small : l.most ≤ 4294967295; whole : saturated (max l.most (f (drop l.member-index l.members))) ≡ saturated (f l.members) }
