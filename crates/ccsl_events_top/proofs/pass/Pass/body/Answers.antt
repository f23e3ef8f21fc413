use Rattle.std.proofs.Common.{refl}
use Rattle.std.proofs.lemmas.Result.{err_from_is_err_and}
use Rattle.ccsl_events_top.specs.declared.stop.Stop.TheVariants as stops
use Rattle.ccsl_events_top.proofs.Bodies.{nearer-body}
use Rattle.ccsl_events_top.proofs.Ending.{flushed, unflushed}
use Rattle.ccsl_events_top.proofs.pass.Pass.body.Goals as goal

pub end-requires-clause-over : goal.end-requires-clause-over
end-requires-clause-over g c =
    let w = c.requires.begins in
    let k = rw c.in-Ok-false.field-0-test at (c.in-Ok-false.ensures.body c.args.sink w.0 w.1 w.2 w.3 (c.loop-self.invariant.1 w.0 w.1 w.2 w.3 w.4)) in
    k.1

pub returns-in-Ok-false : goal.returns-in-Ok-false
returns-in-Ok-false g c start plan head text i =
    let k = rw c.in-Ok-false.field-0-test at (c.in-Ok-false.ensures.body c.args.sink start plan head text (c.loop-self.invariant.1 start plan head text i)) in
    c.end.ensures start plan head text k.0

pub returns-in-Err : goal.returns-in-Err
returns-in-Err g c start plan head text i =
    c.stop.ensures start plan head text c.loop-self.self.reader.taken
    (c.in-Err.ensures.body c.args.sink start plan head text (c.loop-self.invariant.1 start plan head text i))

pub loop-self-smaller-in-Continue-1 : goal.loop-self-smaller-in-Continue-1
loop-self-smaller-in-Continue-1 g c =
    let w = c.requires.begins in
    let k = rw c.in-Ok-true.field-0-test at (c.in-Ok-true.ensures.body c.args.sink w.0 w.1 w.2 w.3 (c.loop-self.invariant.1 w.0 w.1 w.2 w.3 w.4)) in
    nearer-body g.W.World.told c.args.sink w.0 (g.W.World.state c.step.new.world) w.1 w.2 w.3 c.step.new.self c.loop-self.self.reader.taken k.0 k.1

pub loop-self-preserved-in-Continue-1 : goal.loop-self-preserved-in-Continue-1
loop-self-preserved-in-Continue-1 g c = (
  c.in_ok-write_block.ensures.open,
  λ start plan head text i.
      let k = rw c.in-Ok-true.field-0-test at (c.in-Ok-true.ensures.body c.args.sink start plan head text (c.loop-self.invariant.1 start plan head text i)) in
      flushed g.W.World.told c.args.sink start _ _ plan head text c.step.new.self _ k.0 c.in_ok-write_block.ensures.ok refl
      c.in_ok-write_block.ensures.empty,
)

pub returns-in_err-write_block : goal.returns-in_err-write_block
returns-in_err-write_block g c =
    let q = err_from_is_err_and c.from_residual.result c.from_residual.ensures.1 in
    rw (q.1, q.2) (λ start plan head text i.
    let k = rw c.in-Ok-true.field-0-test at (c.in-Ok-true.ensures.body c.args.sink start plan head text (c.loop-self.invariant.1 start plan head text i)) in
    unflushed g.W.World.told c.args.sink start _ _ plan head text c.step.new.self stops.Fault k.0 c.in_err-write_block.ensures.err refl)

pub loop-self-smaller : goal.loop-self-smaller
loop-self-smaller g c =
    let w = c.requires.begins in
    let k = rw c.in-Ok-true.field-0-test at (c.in-Ok-true.ensures.body c.args.sink w.0 w.1 w.2 w.3 (c.loop-self.invariant.1 w.0 w.1 w.2 w.3 w.4)) in
    nearer-body g.W.World.told c.args.sink w.0 (g.W.World.state c.step.new.world) w.1 w.2 w.3 c.step.new.self c.loop-self.self.reader.taken k.0 k.1
