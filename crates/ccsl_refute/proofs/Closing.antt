-- Clauses that close, from the first hint on.
use Rattle.std.proofs.Common.{◌≡◌, ℕ, zero, suc, ◌<◌, ◌≤◌, List, [], ◌∷◌, length, drop, get_or, true, false, cond, Some, None, refl, ap, ◌∙◌, subst, arith}
use Rattle.std.proofs.Common.{slice_get, length-drop}
use Rattle.ccsl_formula.specs.declared.truth3.Truth3.TheVariants.{Yes, No, Open}
use Rattle.ccsl_formula.specs.Truth.{Part, with_value}
use Rattle.ccsl_refute.specs.declared.line.Lit.{Lit}
use Rattle.ccsl_refute.specs.declared.line.Line.{Line}
use Rattle.ccsl_refute.specs.Literals.{lit_value, all_false, unit}
use Rattle.ccsl_refute.specs.Validity.{clause, unit_at, closes, unit_line}
use Rattle.ccsl_refute.specs.Below.{AreBelow, ClausesBelow}
use Rattle.ccsl_refute.proofs.Lists.{drop-read}

pub closes-unit : (d : ℕ) (lines : List Line) (p : Part) (j : ℕ) (js : List ℕ) (l : Lit) → (length js ≡ 0 → ⊥) → unit_at d lines p j ≡ Some l →
    closes d lines p (j ∷ js) ≡ closes d lines (with_value p l.clock l.positive) js
closes-unit d lines p j [] l n e = absurd (n refl)
closes-unit d lines p j (k ∷ js) l n e = ap (λ o. elim o [ None ↦ false | Some m ↦ closes d lines (with_value p m.clock m.positive) (k ∷ js) ]) e

left : (hs : List ℕ) (k : ℕ) → k ≤ length hs → (k ≡ length hs → ⊥) → length (drop k hs) ≡ 0 → ⊥
left hs k l n e = omega (arith, length-drop k hs)

pub closes-at_unit : (d : ℕ) (lines : List Line) (p : Part) (hs : List ℕ) (i k : ℕ) (lit : Lit) → i < length hs → k ≡ suc i → (k ≡ length hs → ⊥) →
    unit_at d lines p (get_or hs i 0) ≡ Some lit → closes d lines p (drop i hs) ≡ closes d lines (with_value p lit.clock lit.positive) (drop k hs)
closes-at_unit d lines p hs i k lit l e f u =
    ap (closes d lines p) (drop-read hs i k 0 l e) ∙ closes-unit d lines p (get_or hs i 0) (drop k hs) lit (left hs k (omega arith) f) u

-- the literal that a clause gives is one of its own
pub unit-below : (n : ℕ) (p : Part) (ls : List Lit) (l : Lit) → AreBelow n ls → unit p ls ≡ Some l → l.clock < n
unit-below n p [] l b e = absurd (cc)
unit-below n p (m ∷ ls) l b e =
    (elim (lit_value p m) as (λ t. elim t [ Yes ↦ None | No ↦ unit p ls | Open ↦ cond (all_false p ls) (Some m) None ] ≡ Some l → l.clock < n) [
      | Yes ↦ λ h. absurd (cc)
      | No ↦ λ h. unit-below n p ls l b.1 h
      | Open ↦ elim (all_false p ls) as (λ u. cond u (Some m) None ≡ Some l → l.clock < n)
          [ true ↦ λ h. let q : m ≡ l = cc in subst (λ (k : Lit). k.clock < n) q b.0 | false ↦ λ h. absurd (cc) ]
    ]) e

-- the clock of a literal that a line gives
pub unit_at-below : (n d : ℕ) (lines : List Line) (p : Part) (j : ℕ) (l : Lit) → ClausesBelow n d lines → unit_at d lines p j ≡ Some l → l.clock < n
unit_at-below n d lines p zero l b u = absurd (cc)
unit_at-below n d lines p (suc i) l b u =
    (elim (slice_get lines i) as (λ o. slice_get lines i ≡ o → unit_line d p o ≡ Some l → l.clock < n) [
      | None ↦ λ g h. absurd (cc)
      | Some e ↦ λ g h. unit-below n p (clause d e) l (b.below i e g) h
    ]) refl u
