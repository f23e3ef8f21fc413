use Rattle.ccsl_spaces.proofs.Looking.{repeated-at}
use Rattle.ccsl_spaces.proofs.space.Space.is_repeated.Goals as goal

pub returns-in-None : goal.returns-in-None
returns-in-None g c =
    repeated-at c.self.inside.declared.items c.args.self.now c.index.result.now c.args.place c.self.inside.first c.self.view_is c.requires c.index.ensures
    c.bytes.ensures c.in-None.ensures c.self.invariant

pub returns-in-Some : goal.returns-in-Some
returns-in-Some g c =
    repeated-at c.self.inside.declared.items c.args.self.now c.index.result.now c.args.place c.self.inside.first c.self.view_is c.requires c.index.ensures
    c.bytes.ensures c.in-Some.ensures c.self.invariant
