use Rattle.std.proofs.Common.{◌≡◌, ◌≤◌, [], map, drop}
use Rattle.std.specs.Prelude.{All}
use Rattle.ccsl_base.specs.declared.limits.TheConstants.{MAX_CALL_LEVELS}
use Rattle.ccsl_kernel.specs.Plain.{plain_group}
use Rattle.ccsl_kernel.specs.Accepted.{group_levels}
use Rattle.ccsl_kernel.proofs.accepted.levels.are_low.Given as goal

abbrev pub invariant-loop-group : goal.invariant-loop-group
invariant-loop-group l = record {
  rest : group_levels l.levels.items (map plain_group (drop l.group-index l.groups)) ≡ group_levels [] (map plain_group l.groups);
  low : All (λ n. n ≤ MAX_CALL_LEVELS) l.levels.items;
}
