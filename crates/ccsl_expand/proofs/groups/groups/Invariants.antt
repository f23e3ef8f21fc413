-- What stands in the list, and what the rest adds, is the whole.
use Rattle.std.proofs.Common.{◌≡◌, ◌++◌, drop, map}
use Rattle.ccsl_kernel.specs.Plain.{plain_group}
use Rattle.ccsl_expand.specs.Numbered.{numbered_groups}
use Rattle.ccsl_expand.specs.Seen.{seen_tables, seen_block}
use Rattle.ccsl_expand.proofs.groups.groups.Given as goal

abbrev pub invariant-loop-block : goal.invariant-loop-block
invariant-loop-block l =
    map plain_group l.groups.items ++ numbered_groups (seen_tables l.tables) (map seen_block (drop l.block-index l.blocks)) ≡ numbered_groups
    (seen_tables l.tables) (map seen_block l.blocks)
