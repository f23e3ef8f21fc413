-- One partial assignment within another. This project's own.
use Rattle.std.specs.Prelude.{ℕ, zero, suc, Bool, true, false, not, ◌≡◌, ◌≤◌, ◌⊎◌, if◌then◌else◌}
use Rattle.ccsl_formula.specs.declared.truth3.Truth3.{Truth3}
use Rattle.ccsl_formula.specs.declared.truth3.Truth3.TheVariants.{Yes, No, Open}
use Rattle.ccsl_formula.specs.Truth.{Part, Assignment, with_value}
use Rattle.ccsl_formula.specs.Agreement.{is_open}
use Rattle.ccsl_refute.specs.declared.line.Lit.{Lit}

-- each value of q is that of p
pub record Under (q p : Part) : Type 0 where
  pub at : (x : ℕ) → (q x ≡ Open) ⊎ (q x ≡ p x)

-- nothing is known of a clock that is not named
pub record IsInside (n : ℕ) (p : Part) : Type 0 where
  pub outside : (x : ℕ) → n ≤ x → p x ≡ Open

-- the values of p, and the one that makes the literal true
abbrev pub with_lit : Part → Lit → Part
with_lit p l = with_value p l.clock l.positive

abbrev pub negated : Lit → Lit
negated l = record { clock = l.clock; positive = not l.positive }

-- how many clocks below n have no value
abbrev pub open_count : ℕ → Part → ℕ
open_count zero p = zero
open_count (suc n) p = if is_open (p n) then suc (open_count n p) else open_count n p

abbrev pub is_yes : Truth3 → Bool
is_yes Yes = true
is_yes No = false
is_yes Open = false

-- the values of all clocks that a partial assignment gives, where an open clock does not tick
abbrev pub filled : Part → Assignment
filled p x = is_yes (p x)
