use Rattle.std.proofs.Common.{◌≡◌, length, arith}
use Rattle.ccsl_edge.proofs.Sources.{Takes-source}
use Rattle.ccsl_edge.proofs.steady.SteadyWorldWorld.read.Goals as goal

pub returns-clause-ok : goal.returns-clause-ok
returns-clause-ok c =
    let long : length c.self.inside.sources ≡ 7 = omega arith in
    rw (← c.self.view_is)
    (Takes-source c.self.inside.files.items c.self.inside.sources c.args.slot c.index.result c.index-2.result c.after.result _ _ _ _
    c.index.ensures c.index-2.ensures long
    (rw c.as_slice-2.ensures.value at c.after.ensures)
    (rw (c.left-left.ensures, c.as_slice.ensures.value) at c.move_front-count.ensures.moved)
    c.self.invariant c.requires.room c.move_front-count.auto.buf
    (rw (c.left-left.ensures, c.as_slice.ensures.value) at c.move_front-count.ensures.count))
