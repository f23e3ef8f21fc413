use Rattle.std.proofs.Common.{◌≡◌, true, subst}
use Rattle.ccsl_bind.specs.Bindings.{Bindings, are_declared}
use Rattle.ccsl_bind.proofs.Binds.{all-declared}
use Rattle.ccsl_bind.proofs.binding.Binding.are_declared.Goals as goal

pub returns-clause-declared : goal.returns-clause-declared
returns-clause-declared c =
    subst (λ (v : Bindings). are_declared v ≡ true) c.self.view_is (all-declared 0 c.self.inside.codes c.self.inside.slots.items c.self.invariant.1)
