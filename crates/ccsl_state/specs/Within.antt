-- Which clocks a state tree names, with the expressions that are still to be born: those with P alone.
use Rattle.std.specs.Prelude.{ℕ}
use Rattle.ccsl_kernel.specs.Within.{NamesWithin, ActualsWithin}
use Rattle.ccsl_state.specs.Tree.{Tree, TName, TNever, TOne, TTwo, TThen}

abbrev pub TreeWithin : (ℕ → Type 0) → Tree → Type 0
TreeWithin P (TName x) = P x
TreeWithin P TNever = Unit {0}
TreeWithin P (TOne o a) = TreeWithin P a
TreeWithin P (TTwo o a d) = TreeWithin P a × TreeWithin P d
TreeWithin P (TThen a d ρ) = TreeWithin P a × NamesWithin P d × ActualsWithin P ρ
