-- One definition more: its number stands with the clocks that it names, where it is followed.
use Rattle.std.proofs.lemmas.Grind.{common_steps}
use Rattle.std.proofs.Common.{arith}
use Rattle.std.proofs.lemmas.Option.{slice_get_within}
use Rattle.ccsl_kernel.specs.Plain.{plain_expr}
use Rattle.ccsl_state.proofs.ReachLaws.{names_few, definition_names, definition_at}
use Rattle.ccsl_state.proofs.Visiting.{named_alone, read_all}
use Rattle.ccsl_state.proofs.readers.Readers.open.Goals as goal

pub add_named-requires : goal.add_named-requires
add_named-requires c = names_few c.args.system.now c.definition.ensures.accepted c.loop-i.i (plain_expr c.definition.result.now) c.definition.ensures.definition

pub add_reader-requires : goal.add_reader-requires
add_reader-requires c = grind (arith, common_steps, slice_get_within, named_alone, definition_names, definition_at)

pub returns-clause-readers : goal.returns-clause-readers
returns-clause-readers c =
    read_all c.args.system.now c.args.followed c.loop-i.sets.items c.loop-i.i
    (let upto = c.loop-i.auto.i-end in let past = c.loop-i-test.false in let all =
    c.definitions-i-end.ensures in omega (arith, upto, past, all)) c.loop-i.invariant.count c.loop-i.invariant.before

pub loop-i-preserved : goal.loop-i-preserved
loop-i-preserved c = grind (arith, common_steps)
