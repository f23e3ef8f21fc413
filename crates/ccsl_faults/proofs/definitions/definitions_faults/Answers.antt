-- The next definition.
use Rattle.std.proofs.Common.{◌+◌, ◌++◌, map, arith, ap}
use Rattle.ccsl_ast.specs.Plain.{plain_definition}
use Rattle.ccsl_rules.specs.Blocks.{block_faults, blocks_faults}
use Rattle.ccsl_spaces.specs.Callees.{seen_call}
use Rattle.ccsl_faults.specs.Levels.{seen_heights}
use Rattle.ccsl_faults.proofs.Walks.{walk-step}
use Rattle.ccsl_faults.proofs.definitions.definitions_faults.Goals as goal

pub loop-i-preserved : goal.loop-i-preserved
loop-i-preserved c =
    let calls = map seen_call c.args.calls.now in
    let heights = seen_heights c.args.heights.now in
    walk-step (λ i ds. blocks_faults calls heights (c.args.first + i) (map plain_definition ds))
    (λ i d. block_faults calls heights (c.args.first + i) (plain_definition d))
    (λ i d ds. ap (λ n. block_faults calls heights (c.args.first + i) (plain_definition d) ++ blocks_faults calls heights n (map plain_definition ds))
    (omega arith))
    c.args.definitions.now c.loop-i.worst c.loop-i-test.true c.index-definitions-i.is c.earlier-worst.ensures c.in_ok-found.ensures c.loop-i.invariant
