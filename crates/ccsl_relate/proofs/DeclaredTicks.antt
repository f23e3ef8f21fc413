-- The ticks of a row without the undeclared clocks are those of the declared clocks.
use Rattle.std.proofs.lemmas.Grind.{common_steps}
use Rattle.std.proofs.Common.{arith, ◌≡◌, ℕ, List, true, not, ◌&&◌, nat_lt, sym, ◌∙◌}
use Rattle.ccsl_base.specs.declared.limits.TheConstants.{MAX_CLOCKS}
use Rattle.ccsl_base.specs.Clocks.{ticks_in, is_ascending, are_below}
use Rattle.ccsl_base.proofs.Sets.{ticks_in-filter}
use Rattle.ccsl_base.proofs.Ascending.{same-members}
use Rattle.ccsl_kernel.specs.Syntax.{System}
use Rattle.ccsl_kernel.specs.Runs.{declared_part}
use Rattle.ccsl_kernel.proofs.Sets.{below-ascending, NoneFrom-are_below}
use Rattle.ccsl_relate.specs.Watching.{IsUndeclared}

pub declared-are : (K : System) (undeclared ticks declared : List ℕ) → IsUndeclared K undeclared → is_ascending ticks ≡ true → are_below MAX_CLOCKS ticks ≡ true
    → is_ascending declared ≡ true
    → ((x : ℕ) → ticks_in x declared ≡ (ticks_in x ticks && not (ticks_in x undeclared))) → declared ≡ declared_part K ticks
declared-are K undeclared ticks declared u a b d h =
    same-members declared (declared_part K ticks) d (below-ascending K.declared ticks a)
    (λ x. h x ∙ masked x ∙ sym (ticks_in-filter (λ y. nat_lt y K.declared) x ticks))
  where
    masked : (x : ℕ) → (ticks_in x ticks && not (ticks_in x undeclared)) ≡ (ticks_in x ticks && nat_lt x K.declared)
    masked x = grind (arith, common_steps, u x, NoneFrom-are_below)
