-- From a model to a set, and from a conflict to an answer.
use Rattle.std.proofs.Common.{◌≡◌, ℕ, zero, suc, ◌<◌, ◌≤◌, List, [], ◌∷◌, length, true, false, not, ◌&&◌, Some, nat_lt, slice_get}
use Rattle.std.proofs.Common.{refl, sym, ap, ◌∙◌, ⊎_elim, inl, inr, subst, arith}
use Rattle.std.proofs.lemmas.Bool.{ltb-true, ltb-false}
use Rattle.std.proofs.Math.Path.{fun_ext}
use Rattle.ccsl_base.specs.Clocks.{ticks_in}
use Rattle.ccsl_formula.specs.declared.scope.Scope.{Scope}
use Rattle.ccsl_formula.specs.declared.truth3.Truth3.{Truth3}
use Rattle.ccsl_formula.specs.declared.truth3.Truth3.TheVariants.{Yes, No, Open}
use Rattle.ccsl_formula.specs.Truth.{known_as, Part, Assignment}
use Rattle.ccsl_formula.specs.Agreement.{Agrees, Fits}
use Rattle.ccsl_formula.specs.Formula.{Formula, in_set}
use Rattle.ccsl_formula.proofs.Kleene.{yes_true}
use Rattle.ccsl_refute.specs.declared.line.Lit.{Lit}
use Rattle.ccsl_refute.specs.declared.line.Line.{Line}
use Rattle.ccsl_refute.specs.Literals.{falsified}
use Rattle.ccsl_refute.specs.Validity.{clause, line_at, ends_empty, are_valid}
use Rattle.ccsl_base.specs.Empty.{is_empty}
use Rattle.ccsl_refute.specs.Meaning.{AllTrue}
use Rattle.ccsl_refute.proofs.Checking.{ends-last}
use Rattle.ccsl_refute.proofs.Sound.{valid-clauses, all-false}
use Rattle.ccsl_guide.specs.declared.problem.Problem.{Problem}
use Rattle.ccsl_solve.specs.Under.{Under, is_yes, filled}
use Rattle.ccsl_solve.specs.Better.{is_better}
use Rattle.ccsl_solve.specs.Posed.{asked}
use Rattle.ccsl_solve.specs.Conflict.{IsClause}
use Rattle.ccsl_solve.specs.Finds.{AllYes, IsBestModel}
use Rattle.ccsl_solve.specs.Answers.{IsBestStep, IsRefuted}
use Rattle.ccsl_solve.proofs.Tests.{known-not_open}
use Rattle.ccsl_solve.proofs.Units.{denial-fails}
use Rattle.ccsl_formula.proofs.Kept.{test_same}

fits-yes : (t : Truth3) → Fits t (is_yes t)
fits-yes Yes = inr refl
fits-yes No = inr refl
fits-yes Open = inl refl

agrees-under : (v : Assignment) (p m : Part) → Under p m → Agrees v m → Agrees v p
agrees-under v p m u a = record { fits = λ x. ⊎_elim inl (λ e. subst (λ t. Fits t (v x)) (sym e) (a.fits x)) (u.at x) }

all-true : (fs : List Formula) (m : Part) (v : Assignment) → Agrees v m → AllYes fs m → AllTrue fs v
all-true [] m v a h = tt
all-true (f ∷ fs) m v a h = (yes_true f m v a h.0, all-true fs m v a h.1)

-- a set with the values of a model
pub model-step : (q : Problem) (p m : Part) (s : List ℕ) → IsBestModel q p m →
    ((x : ℕ) → x < q.scope.named → ticks_in x s ≡ is_yes (m x)) → ((x : ℕ) → q.scope.named ≤ x → ticks_in x s ≡ false) →
    q.scope.declared ≤ q.scope.named → IsBestStep q.scope (asked q) q.wishes.now p s
model-step q p m s h below above d =
    let filled-is : filled m ≡ in_set s =
    fun_ext (λ x. (elim (nat_lt x q.scope.named) as (λ t. nat_lt x q.scope.named ≡ t → is_yes (m x) ≡ ticks_in x s) [
      | true ↦ λ e. sym (below x (ltb-true x q.scope.named e))
      | false ↦ λ e. let past : q.scope.named ≤ x = ltb-false x q.scope.named e in ap is_yes (h.inside.outside x past) ∙ sym (above x past)
    ]) refl)
    in
    let agrees : Agrees (in_set s) m = record { fits = λ x. subst (λ (v : Assignment). Fits (m x) (v x)) filled-is (fits-yes (m x)) } in
    let x = h.member.0 in
    let named : x < q.scope.named = omega (arith, h.member.1) in
    record {
      solves = record { member = (x, h.member.1, below x named ∙ ap is_yes h.member.2); all = all-true (asked q) m (in_set s) agrees h.all };
      agrees = agrees-under (in_set s) p m h.within agrees;
      inside = λ y t. (elim (nat_lt y q.scope.named) as (λ b. nat_lt y q.scope.named ≡ b → y < q.scope.named)
          [ true ↦ λ e. ltb-true y q.scope.named e | false ↦ λ e. let bad : true ≡ false = sym t ∙ above y (ltb-false y q.scope.named e) in absurd (cc) ]) refl;
      best = λ t a g. subst (λ (v : Assignment). is_better q.wishes.now t v ≡ false) filled-is (h.best t a g);
    }

nothing-known : (ls : List Lit) (q : Part) → falsified ls ≡ q → ((x : ℕ) → q x ≡ Open) → is_empty ls ≡ true
nothing-known [] q e h = refl
nothing-known (l ∷ ls) q e h =
    absurd
    (known-not_open (known_as (not l.positive)) (not l.positive) refl
    (sym (test_same l.clock l.clock (known_as (not l.positive)) (falsified ls l.clock) refl) ∙ ap (λ (r : Part). r l.clock) e ∙ h l.clock))

last-line : (lines : List Line) (j : ℕ) (e : Line) → line_at lines j ≡ Some e → j ≡ length lines →
    (i : ℕ) × (suc i ≡ length lines) × (slice_get lines i ≡ Some e)
last-line lines zero e f s = absurd (cc)
last-line lines (suc i) e f s = (i, s, f)

-- the answer where a last line says that some of the fixed values can't hold
pub refuted : (scope : Scope) (fs : List Formula) {p q : Part} {lines : List Line} {j : ℕ} → are_valid scope fs lines ≡ true →
    IsClause scope lines j q → Under q p → j ≡ length lines → IsRefuted scope fs p lines
refuted scope fs {p} {q} {lines} {j} v c u s =
    let last = last-line lines j c.line c.found s in
    record {
      none = λ w a solved.
          let clauses = valid-clauses scope fs lines w solved v in
          let t = clauses.at last.0 c.line last.2 in
          let f = all-false w p (clause scope.declared c.line) a (denial-fails scope.named p q (clause scope.declared c.line) c.proper c.part u) in
          let bad : true ≡ false = sym t ∙ f in
          absurd (cc);
      valid = v;
      certificate = λ free.
          let closed : (x : ℕ) → q x ≡ Open = λ x. ⊎_elim (λ o. o) (λ e. e ∙ free x) (u.at x) in
          ap (λ b. b && ends_empty scope.declared lines) v
          ∙ ends-last scope.declared lines last.0 c.line last.1 last.2 ∙ nothing-known (clause scope.declared c.line) q c.part closed;
    }
