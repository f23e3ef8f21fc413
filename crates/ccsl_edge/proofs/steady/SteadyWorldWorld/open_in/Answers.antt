use Rattle.std.proofs.Common.{◌≡◌, ◌∙◌, ap, length, arith}
use Rattle.ccsl_edge.specs.World.{held}
use Rattle.ccsl_edge.proofs.Sources.{OpensIn-source, left-held}
use Rattle.ccsl_edge.proofs.steady.SteadyWorldWorld.open_in.Goals as goal

pub returns-clause-ok : goal.returns-clause-ok
returns-clause-ok c =
    let long : length c.self.inside.sources ≡ 7 = omega arith in
    rw (← c.self.view_is)
    (OpensIn-source c.self.inside.files.items c.self.inside.sources c.args.slot c.index.result c.index-2.result c.args.name.now c.position_of-file.result
    c.index.ensures c.index-2.ensures long)

pub returns-clause-bytes : goal.returns-clause-bytes
returns-clause-bytes c =
    let long : length c.self.inside.sources ≡ 7 = omega arith in
    left-held c.self.inside.files.items c.self.inside.sources c.args.slot c.index.result c.index-2.result c.args.name.now c.position_of-file.result
    c.index.ensures c.index-2.ensures long
    (rw c.as_slice.ensures.value at c.position_of-file.ensures)
    ∙ ap (λ w. held w.files c.args.name.now) c.self.view_is
