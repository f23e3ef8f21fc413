-- A question about one clock: it is fixed to tick, and the sets that are found answer it.
use Rattle.std.proofs.Common.{⊎_elim, inl, inr, ◌≡◌, ℕ, ◌+◌, ◌<◌, List, [], Bool, true, false, if◌then◌else◌, refl, sym, ap, ◌∙◌, subst, arith}
use Rattle.std.proofs.lemmas.Bool.{cases_eq, eq-eqb, ne_eqb}
use Rattle.ccsl_base.specs.Clocks.{ticks_in, with_clock, is_ascending}
use Rattle.ccsl_base.proofs.Sets.{ticks_in-with_same, ticks_in-with_other}
use Rattle.ccsl_formula.specs.declared.scope.Scope.{Scope}
use Rattle.ccsl_formula.specs.declared.truth3.Truth3.TheVariants.{Yes, Open}
use Rattle.ccsl_formula.specs.Truth.{known_as, Part, Assignment}
use Rattle.ccsl_formula.specs.Agreement.{Agrees}
use Rattle.ccsl_formula.specs.Formula.{Formula, in_set}
use Rattle.ccsl_refute.specs.declared.line.Line.{Line}
use Rattle.ccsl_solve.specs.Under.{IsInside}
use Rattle.ccsl_solve.specs.Answers.{IsStep, IsRefuted}
use Rattle.ccsl_possible.specs.Ticking.{fixed_at, SolvesWith, MayTick, AllMayTick, AreThoseBelow}

-- what is fixed, at the clock and off it
at-x : (x y : ℕ) → y ≡ x → fixed_at x y ≡ Yes
at-x x y e = ap (λ t. if t then Yes else Open) (eq-eqb y x e)

off-x : (x y : ℕ) → (y ≡ x → ⊥) → fixed_at x y ≡ Open
off-x x y n = ap (λ t. if t then Yes else Open) (ne_eqb y x n)

pub fixed-inside : (n x : ℕ) → x < n → IsInside n (fixed_at x)
fixed-inside n x l = record { outside = λ y u. off-x x y (λ e. omega arith) }

-- values agree with it exactly where the clock ticks
pub agrees-fixed : (v : Assignment) (x : ℕ) → v x ≡ true → Agrees v (fixed_at x)
agrees-fixed v x h = record {
  fits = λ y.
      ⊎_elim
      (λ e. inr (at-x x y e ∙ ap known_as (sym (ap v e ∙ h))))
      (λ n. inl (off-x x y n))
      (cases_eq y x);
}

yes-true : (b : Bool) → Yes ≡ known_as b → b ≡ true
yes-true true e = refl
yes-true false e = absurd (cc)

pub fixed-ticks : (v : Assignment) (x : ℕ) → Agrees v (fixed_at x) → v x ≡ true
fixed-ticks v x a =
    ⊎_elim
    (λ e. let bad : Yes ≡ Open = sym (at-x x x refl) ∙ e in absurd (cc))
    (λ e. yes-true (v x) (sym (at-x x x refl) ∙ e))
    (a.fits x)

module _ (scope : Scope) (formulas : List Formula) where
  -- a set that was found has the clock
  pub step-with : (x : ℕ) (p : Part) (set : List ℕ) → p ≡ fixed_at x → IsStep scope formulas p set → is_ascending set ≡ true →
      SolvesWith scope formulas x set
  step-with x p set e h a = record {
    member = fixed-ticks (in_set set) x (rw e at h.agrees);
    ascending = a;
    inside = h.inside;
    solves = h.solves;
  }

  -- where none was found, no set has it
  pub refuted-none : (x : ℕ) (p : Part) (lines : List Line) → p ≡ fixed_at x → IsRefuted scope formulas p lines → MayTick scope formulas x → ⊥
  refuted-none x p lines e h m = h.none (in_set m.0) (rw e (agrees-fixed (in_set m.0) x m.1.member)) m.1.solves

  -- the members of a set that solves the formulas may tick
  pub members-may : (x : ℕ) (set : List ℕ) → SolvesWith scope formulas x set → AllMayTick scope formulas set
  members-may x set h y t = (set, record { member = t; ascending = h.ascending; inside = h.inside; solves = h.solves })

  -- THE CLOCKS BELOW A BOUND, one more at a time
  pub those-none : AreThoseBelow scope formulas 0 []
  those-none = record { below = λ x t. absurd (cc); may = λ x t. absurd (cc); all = λ x l m. absurd (omega arith) }

  pub those-with : (n : ℕ) (clocks : List ℕ) → AreThoseBelow scope formulas n clocks → MayTick scope formulas n →
      AreThoseBelow scope formulas (n + 1) (with_clock n clocks)
  those-with n clocks h m = record {
    below = λ x t. ⊎_elim (λ e. omega arith) (λ ne. let l = h.below x (sym (ticks_in-with_other n x clocks ne) ∙ t) in omega arith) (cases_eq x n);
    may = λ x t. ⊎_elim (λ e. subst (MayTick scope formulas) (sym e) m) (λ ne. h.may x (sym (ticks_in-with_other n x clocks ne) ∙ t)) (cases_eq x n);
    all = λ x l w.
        ⊎_elim
        (λ e. ap (λ y. ticks_in y (with_clock n clocks)) e ∙ ticks_in-with_same n clocks)
        (λ ne. ticks_in-with_other n x clocks ne ∙ h.all x (omega (arith, ne)) w)
        (cases_eq x n);
  }

  pub those-without : (n : ℕ) (clocks : List ℕ) → AreThoseBelow scope formulas n clocks → (MayTick scope formulas n → ⊥) →
      AreThoseBelow scope formulas (n + 1) clocks
  those-without n clocks h none = record {
    below = λ x t. let l = h.below x t in omega arith;
    may = h.may;
    all = λ x l w. ⊎_elim (λ e. absurd (none (subst (MayTick scope formulas) e w))) (λ ne. h.all x (omega (arith, ne)) w) (cases_eq x n);
  }
