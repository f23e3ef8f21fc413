use Rattle.std.proofs.Common.{◌≡◌, length, arith}
use Rattle.ccsl_edge.proofs.Sources.{OpensOut-source}
use Rattle.ccsl_edge.proofs.steady.SteadyWorldWorld.open_out.Goals as goal

pub returns-clause-ok : goal.returns-clause-ok
returns-clause-ok c =
    let long : length c.self.inside.sources ≡ 7 = omega arith in
    rw (← c.self.view_is)
    (OpensOut-source c.self.inside.files.items c.self.inside.sources c.args.slot c.index.result c.index-2.result c.args._name.now c.index.ensures
    c.index-2.ensures long)
