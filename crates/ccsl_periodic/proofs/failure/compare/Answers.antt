use Rattle.std.proofs.Common.{◌≡◌, ℕ, ◌+◌, ◌<◌, ◌≤◌, ◌⊎◌, Bool, true, false, Option, Some, None, refl, sym, ap, subst, ◌∙◌, ⊎_elim}
use Rattle.std.specs.Prelude.{IfSome, IfNone}
use Rattle.std.proofs.lemmas.Bool.{false≢true}
use denote.Enum.Bare.{sameb}
use Rattle.ccsl_words.specs.Word.{BinaryWord}
use Rattle.ccsl_periodic.specs.contracts.between.Between.{the_type}
use Rattle.ccsl_periodic.specs.declared.between.Between.{Between}
use Rattle.ccsl_periodic.specs.declared.between.Between.TheVariants.{Precedes, Subclock, Excludes}
use Rattle.ccsl_periodic.specs.Failures.{fails_at, IsFirstFailure, NeverFails}
use Rattle.ccsl_periodic.specs.Filters.{FiltersAreRelated}
use Rattle.ccsl_periodic.proofs.Failing.{never_fails}
use Rattle.ccsl_periodic.proofs.Filtering.{related_until, related_always}
use Rattle.ccsl_periodic.proofs.failure.compare.Goals as goal

subclock≢precedes : Subclock ≡ Precedes → ⊥
subclock≢precedes e = false≢true (ap (λ (r : Between). sameb the_type r Precedes) e)

excludes≢precedes : Excludes ≡ Precedes → ⊥
excludes≢precedes e = false≢true (ap (λ (r : Between). sameb the_type r Precedes) e)

-- precedence is asked for only where the right word does not gain
not_asked : (r : Between) (eq : Bool) (P : Type 0) → eq ≡ sameb the_type r Precedes → ((eq ≡ true) × P) ⊎ (eq ≡ false) → r ≡ Precedes → P
not_asked Precedes eq P is either same = ⊎_elim (λ (p : (eq ≡ true) × P). p.1) (λ (f : eq ≡ false). absurd (false≢true (sym f ∙ is))) either
not_asked Subclock eq P is either same = absurd (subclock≢precedes same)
not_asked Excludes eq P is either same = absurd (excludes≢precedes same)

asked : (r : Between) (eq : Bool) → eq ≡ sameb the_type r Precedes → eq ≡ true → r ≡ Precedes
asked Precedes eq is e = refl
asked Subclock eq is e = let z : ⊥ = cc in absurd z
asked Excludes eq is e = let z : ⊥ = cc in absurd z

either_way : (r : Between) (u v : BinaryWord) (first : Option ℕ) → IfSome first (IsFirstFailure r u v) → IfNone first (NeverFails r u v)
    → FiltersAreRelated r u v first
either_way r u v (Some k) some none = related_until r u v k some
either_way r u v None some none = related_always r u v none

pub returns-clause-holds : goal.returns-clause-holds
returns-clause-holds c = none c.first_below.result c.first_below.ensures.holds
  where
    none : (first : Option ℕ)
        → IfNone first ((k : ℕ) → k < c.of-turn.result.start + c.of-turn.result.letters → fails_at c.args.relation c.args.left.now c.args.right.now k ≡ false) →
        IfNone first (NeverFails c.args.relation c.args.left.now c.args.right.now)
    none (Some k) h = h
    none None h =
        never_fails c.args.left.now c.args.right.now c.of-turn.result c.of-turn.ensures c.args.relation
        (not_asked c.args.relation c.eq.result (c.of-turn.result.right ≤ c.of-turn.result.left) c.eq.ensures c.else-eq.either) h

pub returns-then-turn-clause-filters : goal.returns-then-turn-clause-filters
returns-then-turn-clause-filters c =
    related_until c.args.relation c.args.left.now c.args.right.now c.first_overtaking.result
    (subst (λ (r : Between). IsFirstFailure r c.args.left.now c.args.right.now c.first_overtaking.result)
    (sym (asked c.args.relation c.eq.result c.eq.ensures c.if-eq.true)) c.first_overtaking.ensures.fails)

pub returns-clause-filters : goal.returns-clause-filters
returns-clause-filters c = either_way c.args.relation c.args.left.now c.args.right.now c.first_below.result c.first_below.ensures.fails (returns-clause-holds c)
