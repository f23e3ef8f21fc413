-- A file without faults and with no total above its limit is not refused.
use Rattle.std.proofs.Common.{◌≡◌, ◌≤◌, Bool, false, nat_lt, Option, Some, None, length, ap, ◌∙◌, le-ltb, if◌then◌else◌}
use Rattle.ccsl_base.specs.declared.limits.TheConstants.{MAX_CLOCKS, MAX_CONSTRAINTS, MAX_CELLS}
use Rattle.ccsl_ast.specs.Trees.{PlainFile}
use Rattle.ccsl_kernel.specs.Syntax.{System}
use Rattle.ccsl_kernel.specs.Cells.{saturated, cells}
use Rattle.ccsl_rules.specs.declared.refusal.Refusal.{Refusal}
use Rattle.ccsl_rules.specs.declared.refusal.Refusal.TheVariants as refused
use Rattle.ccsl_rules.specs.Blocks.{first_fault}
use Rattle.ccsl_rules.specs.Expansion.{expand}
use Rattle.ccsl_rules.specs.Elaborated.{totals_refusal, refusal_with, refusal}
use Rattle.ccsl_accepts.specs.Acceptance.{IsFaultless}

-- the first of three totals, by their tests
abbrev first_of_three : (a b d : Bool) → Refusal → Refusal → Refusal → Option Refusal
first_of_three a b d x y z = if a then Some x else if b then Some y else if d then Some z else None

tests : (a b d a' b' d' : Bool) (x y z : Refusal) → a ≡ a' → b ≡ b' → d ≡ d' → first_of_three a b d x y z ≡ first_of_three a' b' d' x y z
tests a b d a' b' d' x y z p q r = ap (λ t. first_of_three t b d x y z) p ∙ (ap (λ t. first_of_three a' t d x y z) q ∙ ap (λ t. first_of_three a' b' t x y z) r)

module _ (library file : PlainFile) where
  abbrev K : System
  K = expand library file

  abbrev clocks_test : Bool
  clocks_test = nat_lt MAX_CLOCKS (length K.names)

  abbrev constraints_test : Bool
  constraints_test = nat_lt MAX_CONSTRAINTS (length K.constraints)

  abbrev cells_test : Bool
  cells_test = nat_lt MAX_CELLS (cells K)

  no-fault : first_fault library file ≡ None → refusal library file ≡ totals_refusal K
  no-fault e = ap (λ f. refusal_with f K) e

  totals : (a b d : Bool) → clocks_test ≡ a → constraints_test ≡ b → cells_test ≡ d →
      totals_refusal K ≡ first_of_three a b d (refused.TooManyClocks (saturated (length K.names)))
      (refused.TooManyConstraints (saturated (length K.constraints))) (refused.StateTooLarge (saturated (cells K)))
  totals a b d p q r = tests clocks_test constraints_test cells_test a b d _ _ _ p q r

  pub not-refused : IsFaultless library file → cells K ≤ MAX_CELLS → refusal library file ≡ None
  not-refused s h =
      no-fault s.no_fault ∙ totals false false false (le-ltb MAX_CLOCKS (length K.names) s.few_clocks)
      (le-ltb MAX_CONSTRAINTS (length K.constraints) s.few_constraints) (le-ltb MAX_CELLS (cells K) h)
