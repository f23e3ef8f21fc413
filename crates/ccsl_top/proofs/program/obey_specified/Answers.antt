use Rattle.std.proofs.Common.{sym, ◌∙◌, refl, subst}
use Rattle.ccsl_edge.specs.World.{held}
use Rattle.ccsl_spec.specs.Specifications.{IsSystemOf}
use Rattle.ccsl_top.proofs.Specified.{some-same, some-none, spec-allowed, unread, refused}
use Rattle.ccsl_top.proofs.program.obey_specified.Goals as goal

pub read_specification-requires : goal.read_specification-requires
read_specification-requires g c = spec-allowed g.W.World.allows c.args.command.now c.args.spec.now c.requires.named c.requires.allowed

pub obey_on-requires-clause-named : goal.obey_on-requires-clause-named
obey_on-requires-clause-named g c = λ κs b. some-none c.args.spec.now c.requires.named

pub returns-in-Ok-Accepted : goal.returns-in-Ok-Accepted
returns-in-Ok-Accepted g c = λ words means.
    let old = g.W.World.state c.args.world.now in
    c.obey_on.ensures words old means (record {
      reads = c.in-Ok-Accepted.ensures.reads;
      system = λ spec named files left.
          subst (λ name. IsSystemOf (held old.files name) c.in-Ok-Accepted.system) (some-same c.args.spec.now spec (sym c.requires.named ∙ named))
          ((rw c.in-Ok-Accepted.field-0-is at c.in-Ok-Accepted.ensures.spec) files left);
    })

pub returns-in-Ok-Refused : goal.returns-in-Ok-Refused
returns-in-Ok-Refused g c = λ words means.
    let old = g.W.World.state c.args.world.now in
    c.report.ensures words old
    (refused g.W.World.told c.args.command.now c.args.spec.now c.requires.named old (g.W.World.state c.read_specification.new.world)
    c.in-Ok-Refused.ensures.reads _ refl
    (rw c.in-Ok-Refused.field-0-is at c.in-Ok-Refused.ensures.spec) words means) (record {})

pub returns-in-Err : goal.returns-in-Err
returns-in-Err g c = λ words means.
    let old = g.W.World.state c.args.world.now in
    c.report-in-Err.ensures words old (record {})
    (unread g.W.World.told c.args.command.now c.args.spec.now c.requires.named old (g.W.World.state c.read_specification.new.world) c.in-Err.stop
    c.in-Err.ensures.stop words means)
