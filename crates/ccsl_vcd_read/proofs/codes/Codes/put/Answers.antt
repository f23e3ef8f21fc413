use Rattle.std.proofs.Common.{ap, ◌∙◌, arith}
use Rattle.ccsl_bind.specs.Bindings.{Bindings}
use Rattle.ccsl_bind.specs.Codes.{number_of}
use Rattle.ccsl_vcd_read.proofs.Places.{one-found, still-found}
use Rattle.ccsl_vcd_read.proofs.codes.Codes.put.Goals as goal

pub invariant_of-self : goal.invariant_of-self
invariant_of-self c =
    let far = c.reach in
    let low = c.if-place-lt-SHORT.true in (
      far.ensures.most low c.self.invariant.0,
      omega (arith, far.ensures.room, c.self.invariant.1),
      one-found far.new.table.items c.self.inside.binding.codes c.requires.0 c.args.place c.args.number
          (still-found c.self.inside.table.items far.new.table.items c.self.inside.binding.codes c.self.invariant.2 far.ensures.same)
          c.requires.1 (omega (arith, far.ensures.reaches)) low
          (ap (λ (v : Bindings). number_of c.requires.0 v.codes) c.self.view_is ∙ c.requires.2),
    )
