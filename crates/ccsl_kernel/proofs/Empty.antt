-- The empty set satisfies the formula of every item at every step: no expression asks for a tick where nothing ticks.
use Rattle.std.proofs.Common.{◌≡◌, ℕ, suc, ◌+◌, ◌-◌, ◌<◌, ◌≤◌, List, [], length, Bool, true, false, ◌&&◌, ◌||◌, Option, Some, None, slice_get, nat_eq, nat_lt}
use Rattle.std.proofs.Common.{nat_le, refl, sym, ap, ap₂, ◌∙◌, arith, if◌then◌else◌}
use Rattle.ccsl_formula.specs.Formula.{Formula, FTrue, FFalse, FVar, FAnd, FOr, FNot, eval, same}
use Rattle.ccsl_words.specs.Word.{letter}
use Rattle.ccsl_kernel.specs.declared.expr.ExprOp.{ExprOp}
use Rattle.ccsl_kernel.specs.declared.actual.Actual.{Actual}
use Rattle.ccsl_kernel.specs.declared.constraint.Constraint.{Constraint}
use Rattle.ccsl_kernel.specs.declared.constraint.RelationKind.{RelationKind}
use Rattle.ccsl_kernel.specs.declared.expr.ExprOp.TheVariants as op
use Rattle.ccsl_kernel.specs.declared.actual.Actual.TheVariants as actual
use Rattle.ccsl_kernel.specs.declared.constraint.RelationKind.TheVariants as kind
use Rattle.ccsl_kernel.specs.Syntax.{Expression, System}
use Rattle.ccsl_kernel.specs.Actuals.{place_of, number_of, suffix_of, test_of, word_of}
use Rattle.ccsl_kernel.specs.Ticks.{count, ever, waits, waits_weakly, waits_since}
use Rattle.ccsl_kernel.specs.Table.{Now}
use Rattle.ccsl_kernel.specs.Lives.{Step, Life, operand, end_of, at_end, joined}
use Rattle.ccsl_kernel.specs.Meaning.{named, life_given, dead_below}
use Rattle.ccsl_kernel.specs.Items.{relation_formula, clock_count, constraint_or_true, item_or_constraint, item_formula}
use Rattle.ccsl_kernel.specs.Guarded.{IsAllowed}
use Rattle.ccsl_kernel.proofs.GuardedCalls.{AreGuarded, IsGuarded}
use Rattle.ccsl_kernel.proofs.Steps.{find-within}
use Rattle.ccsl_kernel.proofs.Induction.{IsClosed, induct}
use Rattle.ccsl_kernel.proofs.TableHolds.{meaning_calls}
use Rattle.ccsl_kernel.proofs.Definitions.{definitions-are, definition_allowed}

-- a formula that the empty set does not satisfy
abbrev Idle : Formula → Type 0
Idle f = eval f [] ≡ false

chosen : (c : Bool) (f g : Formula) → Idle f → Idle g → Idle (if c then f else g)
chosen true f g p q = p
chosen false f g p q = q

-- a conjunction asks for its left side, a disjunction for one of its sides
and_idle : (f g : Formula) → Idle f → Idle (FAnd f g)
and_idle f g p = ap (λ t. t && eval g []) p

or_idle : (f g : Formula) → Idle f → Idle g → Idle (FOr f g)
or_idle f g p q = ap₂ (λ t u. t || u) p q

module _ (K : System) (T : List Step) (gone : ℕ → ℕ → Bool) (ok : AreGuarded K) where
  -- a life asks for no tick where nothing ticks
  abbrev IdleFrom : ℕ → Life → Type 0
  IdleFrom b L = (n : ℕ) → b ≤ n → n ≤ length T → Idle (L b n).formula

  named_idle : (v : Actual) (b n : ℕ) → Idle (named K T gone v b n).formula
  named_idle (actual.Clock x) b n = refl
  named_idle (actual.Number k) b n = refl
  named_idle (actual.Word w o) b n = refl

  joined_idle : (o : ExprOp) (L M : Life) (b n : ℕ) → IdleFrom b L → ((k : ℕ) → b ≤ k → k ≤ length T → (o ≡ op.Then → b < k) → IdleFrom k M) → b ≤ n
      → n ≤ length T → Idle (joined T o L M b n).formula
  joined_idle op.Then L M b n h h' l u = on (end_of L b n) refl
    where
      on : (e : Option ℕ) → end_of L b n ≡ e → Idle (at_end e (record { formula = (L b n).formula; dead = false }) (λ k. M k n)).formula
      on None e = h n l u
      on (Some k) e = let w = find-within _ (suc b) (suc n) k e in h' k (omega (arith, w.0)) (omega (arith, w.1)) (λ _. w.0) n (omega (arith, w.1)) u
  joined_idle op.Union L M b n h h' l u =
      or_idle (L b n).formula (M b n).formula (h n l u) (h' b (omega arith) (omega arith) (λ e. let z : ⊥ = cc in absurd z) n l u)
  joined_idle op.Inter L M b n h h' l u = and_idle (L b n).formula (M b n).formula (h n l u)
  joined_idle op.Minus L M b n h h' l u = and_idle (L b n).formula (FNot (M b n).formula) (h n l u)
  joined_idle op.Inf L M b n h h' l u =
      let a = operand T L b n in let d = operand T M b n in
      let p = h n l u in let q = h' b (omega arith) (omega arith) (λ e. let z : ⊥ = cc in absurd z) n l u in
      chosen (nat_lt (count d.ticks) (count a.ticks)) a.formula (if nat_lt (count a.ticks) (count d.ticks) then d.formula else FOr a.formula d.formula) p
      (chosen (nat_lt (count a.ticks) (count d.ticks)) d.formula (FOr a.formula d.formula) q (or_idle a.formula d.formula p q))
  joined_idle op.Sup L M b n h h' l u =
      let a = operand T L b n in let d = operand T M b n in
      let p = h n l u in let q = h' b (omega arith) (omega arith) (λ e. let z : ⊥ = cc in absurd z) n l u in
      chosen (nat_lt (count a.ticks) (count d.ticks)) a.formula (if nat_lt (count d.ticks) (count a.ticks) then d.formula else FAnd a.formula d.formula) p
      (chosen (nat_lt (count d.ticks) (count a.ticks)) d.formula (FAnd a.formula d.formula) q (and_idle a.formula d.formula p))
  joined_idle op.Upto L M b n h h' l u =
      chosen (ever (operand T M b n).ticks) FFalse (FAnd (L b n).formula (FNot (M b n).formula)) refl
      (and_idle (L b n).formula (FNot (M b n).formula) (h n l u))
  joined_idle op.UptoWeakly L M b n h h' l u = chosen (ever (operand T M b n).ticks) FFalse (L b n).formula refl (h n l u)
  joined_idle op.Sampled L M b n h h' l u =
      chosen (waits (operand T L b n).ticks (operand T M b n).ticks) (M b n).formula FFalse
      (h' b (omega arith) (omega arith) (λ e. let z : ⊥ = cc in absurd z) n l u) refl
  joined_idle op.SampledWeakly L M b n h h' l u =
      let q = h' b (omega arith) (omega arith) (λ e. let z : ⊥ = cc in absurd z) n l u in
      chosen (waits_weakly (operand T L b n).ticks (operand T M b n).ticks) (M b n).formula (FAnd (M b n).formula (L b n).formula) q
      (and_idle (M b n).formula (L b n).formula q)

  choose : (t : Bool) (L M : Life) (b n : ℕ) → Idle (L b n).formula → Idle (M b n).formula → Idle ((if t then L else M) b n).formula
  choose true L M b n p q = p
  choose false L M b n p q = q

  idle_closed : IsClosed K (length T) (λ b e ρ. IdleFrom b (life_given K T gone e ρ))
  idle_closed = record {
    name = λ x ρ b u n l u'. named_idle (place_of x ρ) b n;
    never = λ ρ b u n l u'. refl;
    binary = λ o a d ρ b u ra rd n l u'. joined_idle o (life_given K T gone a ρ) (life_given K T gone d ρ) b n ra rd l u';
    delay = λ a m ρ b u ra n l u'. let x =
        operand T (life_given K T gone a ρ) b n in chosen (nat_le (number_of m ρ) (count x.ticks)) x.formula FFalse (ra n l u') refl;
    await = λ a m ρ b u ra n l u'. let x =
        operand T (life_given K T gone a ρ) b n in chosen (nat_eq (suc (count x.ticks)) (number_of m ρ)) x.formula FFalse (ra n l u') refl;
    filter = λ a w ρ b u ra n l u'. let x = operand T (life_given K T gone a ρ) b n in let s =
        suffix_of K.words w ρ in chosen (letter (word_of K.words s.word) (s.offset + count x.ticks)) x.formula FFalse (ra n l u') refl;
    delayed = λ a m d ρ b u pos ra rd n l u'. let x = operand T (life_given K T gone a ρ) b n in let y =
        operand T (life_given K T gone d ρ) b n in chosen (waits_since (m - 1) x.ticks y.ticks) y.formula FFalse (rd n l u') refl;
    choice = λ q a d ρ b u ra rd n l u'. choose (test_of K.words q ρ) (life_given K T gone a ρ) (life_given K T gone d ρ) b n (ra n l u') (rd n l u');
  }

  idle : (e : Expression) (ρ : List Actual) (b : ℕ) → IsAllowed K e → b ≤ length T → IdleFrom b (life_given K T gone e ρ)
  idle e ρ b ok_e u =
      induct K (length T) (λ b e ρ. IdleFrom b (life_given K T gone e ρ)) idle_closed ok
      (λ group m args v b g u h n l u'. ap (λ (now : Now). eval now.formula []) (meaning_calls K T gone ok group m args v g b n l u') ∙ h n l u')
      e ρ b ok_e u

relation_holds : (k : RelationKind) (a b m n : ℕ) → eval (relation_formula k a b m n) [] ≡ true
relation_holds kind.Subclock a b m n = refl
relation_holds kind.Coincides a b m n = refl
relation_holds kind.Excludes a b m n = refl
relation_holds kind.Precedes a b m n = elim (nat_eq m n) as (λ t. eval (if t then FNot (FVar b) else FTrue) [] ≡ true) [ true ↦ refl | false ↦ refl ]
relation_holds kind.PrecedesWeakly a b m n =
    elim (nat_eq m n) as (λ t. eval (if t then FOr (FNot (FVar b)) (FVar a) else FTrue) [] ≡ true) [ true ↦ refl | false ↦ refl ]
relation_holds (kind.PrecedesWithin k) a b m n =
    ap₂ (λ x y. x && y)
    (elim (nat_eq m n) as (λ t. eval (if t then FNot (FVar b) else FTrue) [] ≡ true) [ true ↦ refl | false ↦ refl ])
    (elim (nat_le (n + k) m) as (λ t. eval (if t then FOr (FNot (FVar a)) (FVar b) else FTrue) [] ≡ true) [ true ↦ refl | false ↦ refl ])

module _ (K : System) (ok : IsGuarded K) (T : List Step) where
  definition_holds : (n i : ℕ) (e : Expression) → slice_get K.definitions i ≡ Some e → n ≤ length T → eval (item_or_constraint K T n i (Some e)) [] ≡ true
  definition_holds n i e is u =
      let x = K.declared + i in
      let allowed = definition_allowed K ok x e (sym (definitions-are K i) ∙ is) in
      ap (same false) (idle K T (dead_below K T x) ok.bodies e [] 0 allowed (omega arith) n (omega arith) u)

  constraint_holds : (n : ℕ) (o : Option Constraint) → eval (constraint_or_true T n o) [] ≡ true
  constraint_holds n None = refl
  constraint_holds n (Some c) = relation_holds c.kind c.left c.right (clock_count T c.left n) (clock_count T c.right n)

  -- THE EMPTY SET SATISFIES EVERY ITEM
  pub empty_holds : (n i : ℕ) → n ≤ length T → eval (item_formula K T n i) [] ≡ true
  empty_holds n i u = on (slice_get K.definitions i) refl
    where
      on : (o : Option Expression) → slice_get K.definitions i ≡ o → eval (item_or_constraint K T n i o) [] ≡ true
      on (Some e) is = definition_holds n i e is u
      on None is = constraint_holds n (slice_get K.constraints (i - length K.definitions))
