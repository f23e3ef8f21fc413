use Rattle.std.proofs.Common.{length, refl}
use Rattle.std.proofs.lemmas.Result.{err_from_is_err_and}
use Rattle.ccsl_events_top.specs.declared.stop.Stop.TheVariants as stops
use Rattle.ccsl_events_top.proofs.Ending.{ends-well, ends-cut, ends-badly}
use Rattle.ccsl_events_top.proofs.pass.Pass.end.Goals as goal

pub returns-in-Err : goal.returns-in-Err
returns-in-Err g c start plan head text i =
    c.stop.ensures start plan head text 0
    (ends-badly g.W.World.told c.args.sink start _ plan head text c.args.self.now _ c.finish.new.self c.in-Err.fault c.from.result i c.requires.over
    (c.in-Err.ensures plan (length head) i.given i.place i.taken) c.from.ensures)

pub returns-in_err-write_block : goal.returns-in_err-write_block
returns-in_err-write_block g c =
    let q = err_from_is_err_and c.from_residual.result c.from_residual.ensures.1 in
    rw (q.1, q.2) (λ start plan head text i.
    ends-cut g.W.World.told c.args.sink start _ plan head text c.args.self.now c.finish.new.self c.finish.new.out.items stops.Fault i c.requires.over
    (c.in-Ok.ensures plan (length head) i.given i.place i.taken) _ c.in_err-write_block.ensures.err refl)

pub returns : goal.returns
returns g c start plan head text i =
    ends-well g.W.World.told c.args.sink start _ plan head text c.args.self.now c.finish.new.self c.finish.new.out.items i c.requires.over
    (c.in-Ok.ensures plan (length head) i.given i.place i.taken) _ c.in_ok-write_block.ensures.ok c.times.result
    (λ p body has s. c.times.ensures plan p body has s)
