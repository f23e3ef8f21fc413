-- One place more.
use Rattle.std.proofs.Common.{arith}
use Rattle.ccsl_kernel.specs.Plain.{plain_expr}
use Rattle.ccsl_state.proofs.Each.{next_place, more_places}
use Rattle.ccsl_state.proofs.items.places.Goals as goal

pub size_of-requires : goal.size_of-requires
size_of-requires c = let r =
    (next_place c.args.lay.now.earlier.now c.args.lay.now.system.now.definitions c.loop-i.i (plain_expr c.definition.result.now)
    c.definition.ensures.definition).1 in let few = c.requires in omega arith

pub overflow_cast-place : goal.overflow_cast-place
overflow_cast-place c = let r =
    (next_place c.args.lay.now.earlier.now c.args.lay.now.system.now.definitions c.loop-i.i (plain_expr c.definition.result.now)
    c.definition.ensures.definition).1 in let few = c.requires in let size = c.size_of.ensures in omega arith

pub overflow_add-place : goal.overflow_add-place
overflow_add-place c = let r =
    (next_place c.args.lay.now.earlier.now c.args.lay.now.system.now.definitions c.loop-i.i (plain_expr c.definition.result.now)
    c.definition.ensures.definition).1 in let few = c.requires in let size = c.size_of.ensures in let here = c.loop-i.invariant.next in omega arith

pub loop-i-preserved : goal.loop-i-preserved
loop-i-preserved c =
    rw c.in_ok-push.ensures.items
    (more_places c.args.lay.now.earlier.now c.args.lay.now.system.now.definitions c.loop-i.i (plain_expr c.definition.result.now) c.loop-i.places.items
    c.loop-i.place c.size_of.result c.definition.ensures.definition c.loop-i.invariant c.size_of.ensures)
