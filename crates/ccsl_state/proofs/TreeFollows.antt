-- The state tree follows the meaning: its life obeys each row of the table, and so is the meaning.
use Rattle.std.proofs.lemmas.Grind.{common_steps}
use Rattle.std.proofs.Common.{◌≡◌, ℕ, zero, suc, ◌≤◌, List, find, length, Bool, true, false, Option, Some, None, refl, sym, ap, ◌∙◌, arith}
use Rattle.std.proofs.Common.{nat_le, le-leb, if◌then◌else◌, length-append, ◌<◌, inl, inr, map, replicate, ap₂}
use Rattle.std.proofs.lemmas.Bool.{lt-leb, cond_both}
use Rattle.ccsl_kernel.specs.declared.expr.ExprOp.{ExprOp}
use Rattle.ccsl_kernel.specs.declared.actual.Actual.{Actual}
use Rattle.ccsl_kernel.specs.declared.expr.ExprOp.TheVariants as op
use Rattle.ccsl_kernel.specs.declared.actual.Actual.TheVariants as actual
use Rattle.ccsl_kernel.specs.Syntax.{Expression, EBinary, System, EName, ECall, ENever, EDelay, EAwait, EFilter, EDelayed, EIf, root_of}
use Rattle.ccsl_kernel.specs.Actuals.{place_of, number_of, suffix_of, test_of, word_of, value_of}
use Rattle.ccsl_kernel.specs.Table.{Now, Operand}
use Rattle.ccsl_kernel.specs.Lives.{Step, steps, step_at, ticks_at, over_one, over_two, end_of, at_end, followed_by, joined}
use Rattle.ccsl_kernel.specs.Meaning.{named, life_given}
use Rattle.ccsl_kernel.specs.Guarded.{IsAllowed, Allowed}
use Rattle.ccsl_kernel.proofs.GuardedCalls.{AreGuarded, tail_guarded, inner_guarded}
use Rattle.ccsl_kernel.specs.Rows.{IsTable, CallsAreBodies}
use Rattle.ccsl_kernel.proofs.Steps.{steps-suc, steps-empty, find-steps-suc, find-within, from_birth, or_else, if_at}
use Rattle.ccsl_kernel.proofs.Agree.{unique}
use Rattle.ccsl_kernel.proofs.TableHolds.{meaning_rows, meaning_calls}
use Rattle.ccsl_state.specs.Tree.{most, leaf, Tree, TName, TNever, TOne, TTwo, TThen, One, Two, opening, then_or_right, next, formula_of, dead_of, Delaying}
use Rattle.ccsl_state.specs.Tree.{Awaiting, Filtering, Lagging, over, two_opened, open_with, open_bodies}
use Rattle.ccsl_state.specs.Grown.{grown, life_of, grown_meaning}
use Rattle.ccsl_state.proofs.Keeping.{one_after, two_after, one_after-snoc, two_after-snoc, IsOne, IsTwo, await_is, delay_is, filter_is, union_is, inter_is}
use Rattle.ccsl_state.proofs.Keeping.{minus_is, inf_is, sup_is, upto_is, upto_weakly_is, sampled_is, sampled_weakly_is, delayed_is}
use Rattle.ccsl_kernel.specs.declared.expr.Value.{Value}
use Rattle.ccsl_kernel.specs.declared.position.Position.{Position}
use Rattle.ccsl_kernel.specs.declared.position.Position.TheVariants.{Inner, Tail, Guarded}

-- Opening a call: its body, under what its arguments stand for.

-- Opening an expression that is in no guarded tail position opens members of earlier groups alone.
module _ (K : System) (calls calls' : ℕ → ℕ → List Actual → Tree) (g : ℕ)
    (same : (group member : ℕ) (ρ : List Actual) → group < g → calls group member ρ ≡ calls' group member ρ) where
  pub open_same : (e : Expression) (p : Position) (ρ : List Actual) → Allowed g p e → (p ≡ Guarded → ⊥) → open_with K calls e ρ ≡ open_with K calls' e ρ
  open_same (EName x) p ρ ok nog = refl
  open_same (ECall group member args) p ρ (inl l) nog = same group member (map (value_of K.words ρ) args) l
  open_same (ECall group member args) p ρ (inr h) nog = absurd (nog h.1)
  open_same ENever p ρ ok nog = refl
  open_same (EBinary op.Then a d) p ρ ok nog = ap (λ t. TThen t d ρ) (open_same a Inner ρ ok.0 inner_guarded)
  open_same (EBinary o a d) p ρ ok nog =
      ap₂ (λ a' d'. over (two_opened o) a' d' d ρ) (open_same a Inner ρ ok.0 inner_guarded) (open_same d Inner ρ ok.1 inner_guarded)
  open_same (EDelay a m) p ρ ok nog = ap (λ a'. TOne (Delaying (number_of m ρ) 0) a') (open_same a Inner ρ ok inner_guarded)
  open_same (EAwait a m) p ρ ok nog = ap (λ a'. TOne (Awaiting (number_of m ρ) 0) a') (open_same a Inner ρ ok inner_guarded)
  open_same (EFilter a w) p ρ ok nog = let s =
      suffix_of K.words w ρ in ap (λ a'. TOne (Filtering (word_of K.words s.word) s.offset) a') (open_same a Inner ρ ok inner_guarded)
  open_same (EDelayed a m d) p ρ ok nog =
      ap₂ (λ a' d'. TTwo (Lagging m (replicate m false)) a' d') (open_same a Inner ρ ok.2 inner_guarded) (open_same d Inner ρ ok.3 inner_guarded)
  open_same (EIf q a d) p ρ ok nog = ap₂ (λ s t. if test_of K.words q ρ then s else t) (open_same a p ρ ok.0 nog) (open_same d p ρ ok.1 nog)

module _ (K : System) (guarded_bodies : AreGuarded K) where
  -- levels enough are as good as any
  pub open_levels : (f f' g member : ℕ) (ρ : List Actual) → g < f → g < f' → open_bodies K f g member ρ ≡ open_bodies K f' g member ρ
  open_levels zero f' g member ρ h h' = let z : ⊥ = omega arith in absurd z
  open_levels (suc f) zero g member ρ h h' = let z : ⊥ = omega arith in absurd z
  open_levels (suc f) (suc f') g member ρ h h' =
      open_same K (open_bodies K f) (open_bodies K f') g (λ group m v l. open_levels f f' group m v (omega arith) (omega arith)) (root_of K g member) Tail ρ
      (guarded_bodies g member) tail_guarded

  -- a call of any group opens its member
  pub opening_call : (g member : ℕ) (args : List Value) (ρ : List Actual) → g < length K.groups →
      opening K (ECall g member args) ρ ≡ opening K (root_of K g member) (map (value_of K.words ρ) args)
  opening_call g member args ρ l = open_levels (length K.groups) (suc (length K.groups)) g member (map (value_of K.words ρ) args) l (omega arith)

-- so many steps at most
steps_len : (b n : ℕ) → length (steps b n) ≤ n
steps_len b zero = omega arith
steps_len b (suc n) = grind (arith, common_steps, length-append, steps_len b n)

module _ (K : System) (T : List Step) (gone : ℕ → ℕ → Bool) where
  pub grown-suc : (t : Tree) (b n : ℕ) → b ≤ n → grown K T gone t b (suc n) ≡ next K (step_at T n) (gone (suc n)) (grown K T gone t b n)
  grown-suc t b n l = ap (λ c. if c then next K (step_at T n) (gone (suc n)) (grown K T gone t b n) else t) (le-leb b n l)

  pub grown-first : (t : Tree) (b n : ℕ) → n ≤ b → grown K T gone t b n ≡ t
  grown-first t b zero l = refl
  grown-first t b (suc n) l = ap (λ c. if c then next K (step_at T n) (gone (suc n)) (grown K T gone t b n) else t) (lt-leb b n l)

  -- whether the state that was a at b ticks at i
  abbrev pub tick : Tree → ℕ → ℕ → Bool
  tick a b i = ticks_at T (life_of K T gone a) b i

  pub grown-one : (o : One) (a : Tree) (b n : ℕ) → b ≤ n → grown K T gone (TOne o a) b n ≡ TOne (one_after o (tick a b) (steps b n)) (grown K T gone a b n)
  grown-one o a b n l =
      from_birth (λ n. grown K T gone (TOne o a) b n ≡ TOne (one_after o (tick a b) (steps b n)) (grown K T gone a b n)) b
      (grind (arith, common_steps, grown-first, steps-empty)) (λ n l ih. grind (arith, common_steps, grown-suc, steps-suc, one_after-snoc)) n l

  pub grown-two : (o : Two) (a d : Tree) (b n : ℕ) → b ≤ n
      → grown K T gone (TTwo o a d) b n ≡ TTwo (two_after o (tick a b) (tick d b) (steps b n)) (grown K T gone a b n) (grown K T gone d b n)
  grown-two o a d b n l =
      from_birth (λ n. grown K T gone (TTwo o a d) b n ≡ TTwo (two_after o (tick a b) (tick d b) (steps b n)) (grown K T gone a b n) (grown K T gone d b n)) b
      (grind (arith, common_steps, grown-first, steps-empty)) (λ n l ih. grind (arith, common_steps, grown-suc, steps-suc, two_after-snoc)) n l

  abbrev now_of : ℕ → Tree → Now
  now_of n t = record { formula = formula_of t; dead = dead_of (gone n) t }

  one_life : {o : One} {row : Operand → Now} → IsOne o row → (a : Tree) (b n : ℕ) → b ≤ n → n ≤ most
      → life_of K T gone (TOne o a) b n ≡ over_one T row (life_of K T gone a) b n
  one_life h a b n l u = grind (arith, common_steps, grown-one, steps_len)

  two_life : {o : Two} {row : Operand → Operand → Now} → IsTwo o row → (a d : Tree) (b n : ℕ) → b ≤ n → n ≤ most
      → life_of K T gone (TTwo o a d) b n ≡ over_two T row (life_of K T gone a) (life_of K T gone d) b n
  two_life h a d b n l u = grind (arith, common_steps, grown-two, steps_len)

  -- the step at which a state dies, seen at one more step
  end-first : (a : Tree) (b : ℕ) → end_of (life_of K T gone a) b b ≡ None
  end-first a b = ap (find _) (steps-empty (suc b) (suc b) (omega arith))

  end-suc : (a : Tree) (b n : ℕ) → b ≤ n
      → end_of (life_of K T gone a) b (suc n) ≡ or_else (end_of (life_of K T gone a) b n) (if_at (dead_of (gone (suc n)) (grown K T gone a b (suc n))) (suc n))
  end-suc a b n l = find-steps-suc _ (suc b) (suc n) (omega arith)

  -- a then is its left operand until that dies, and its right operand from then on
  pub grown-then : (a : Tree) (d : Expression) (ρ : List Actual) (b n : ℕ) → b ≤ n →
      grown K T gone (TThen a d ρ) b n ≡ at_end (end_of (life_of K T gone a) b n) (TThen (grown K T gone a b n) d ρ) (λ k. grown K T gone (opening K d ρ) k n)
  grown-then a d ρ b n l =
      from_birth (λ n. grown K T gone (TThen a d ρ) b n ≡ at_end (end_of (life_of K T gone a) b n) (TThen (grown K T gone a b n) d ρ)
      (λ k. grown K T gone (opening K d ρ) k n)) b
      (grind (arith, common_steps, grown-first, end-first))
      (λ n l ih.
      grown-suc (TThen a d ρ) b n l
      ∙ ap (next K (step_at T n) (gone (suc n))) ih
      ∙ on n l (end_of (life_of K T gone a) b n) refl
      ∙ ap (λ o. at_end o (TThen (grown K T gone a b (suc n)) d ρ) (λ k. grown K T gone (opening K d ρ) k (suc n))) (sym (end-suc a b n l)))
      n l
    where
      dies : (n : ℕ) (t : Tree) (x : Bool) →
          then_or_right K x t d ρ ≡ at_end (if_at x (suc n)) (TThen t d ρ) (λ k. grown K T gone (opening K d ρ) k (suc n))
      dies n t true = sym (grown-first (opening K d ρ) (suc n) (suc n) (omega arith))
      dies n t false = refl

      on : (n : ℕ) → b ≤ n → (o : Option ℕ) → end_of (life_of K T gone a) b n ≡ o →
          next K (step_at T n) (gone (suc n)) (at_end o (TThen (grown K T gone a b n) d ρ) (λ k. grown K T gone (opening K d ρ) k n))
          ≡ at_end (or_else o (if_at (dead_of (gone (suc n)) (grown K T gone a b (suc n))) (suc n))) (TThen (grown K T gone a b (suc n)) d ρ)
          (λ k. grown K T gone (opening K d ρ) k (suc n))
      on n l (Some k) e = let w = find-within _ (suc b) (suc n) k e in sym (grown-suc (opening K d ρ) k n (omega (arith, w.1)))
      on n l None e =
          ap (λ t. then_or_right K (dead_of (gone (suc n)) t) t d ρ) (sym (grown-suc a b n l))
          ∙ dies n (grown K T gone a b (suc n)) (dead_of (gone (suc n)) (grown K T gone a b (suc n)))

  then_life : (a : Tree) (d : Expression) (ρ : List Actual) (b n : ℕ) → b ≤ n
      → life_of K T gone (TThen a d ρ) b n ≡ followed_by (life_of K T gone a) (life_of K T gone (opening K d ρ)) b n
  then_life a d ρ b n l = ap (now_of n) (grown-then a d ρ b n l) ∙ at (end_of (life_of K T gone a) b n)
    where
      at : (o : Option ℕ) →
          now_of n (at_end o (TThen (grown K T gone a b n) d ρ) (λ k. grown K T gone (opening K d ρ) k n))
          ≡ at_end o (record { formula = formula_of (grown K T gone a b n); dead = false }) (λ k. life_of K T gone (opening K d ρ) k n)
      at None = refl
      at (Some k) = refl

  -- a tree that no step changes
  grown-still : (t : Tree) → ((s : Step) (gone' : ℕ → Bool) → next K s gone' t ≡ t) → (b n : ℕ) → grown K T gone t b n ≡ t
  grown-still t still b zero = refl
  grown-still t still b (suc n) = cond_both (nat_le b n) _ _ (λ u. u ≡ t)
      (λ _. ap (next K (step_at T n) (gone (suc n))) (grown-still t still b n) ∙ still (step_at T n) (gone (suc n))) (λ _. refl)

  leaf_life : (v : Actual) (b n : ℕ) → life_of K T gone (leaf v) b n ≡ named K T gone v b n
  leaf_life (actual.Clock x) b n = ap (now_of n) (grown-still (TName x) (λ s g. refl) b n)
  leaf_life v b n = ap (now_of n) (grown-still TNever (λ s g. refl) b n)

  binary_life : (o : ExprOp) (a d : Expression) (ρ : List Actual) (b n : ℕ) → b ≤ n → n ≤ most →
      grown_meaning K T gone (EBinary o a d) ρ b n ≡ joined T o (grown_meaning K T gone a ρ) (grown_meaning K T gone d ρ) b n
  binary_life op.Union a d ρ b n l u = two_life union_is (opening K a ρ) (opening K d ρ) b n l u
  binary_life op.Inter a d ρ b n l u = two_life inter_is (opening K a ρ) (opening K d ρ) b n l u
  binary_life op.Minus a d ρ b n l u = two_life minus_is (opening K a ρ) (opening K d ρ) b n l u
  binary_life op.Inf a d ρ b n l u = two_life inf_is (opening K a ρ) (opening K d ρ) b n l u
  binary_life op.Sup a d ρ b n l u = two_life sup_is (opening K a ρ) (opening K d ρ) b n l u
  binary_life op.Upto a d ρ b n l u = two_life upto_is (opening K a ρ) (opening K d ρ) b n l u
  binary_life op.UptoWeakly a d ρ b n l u = two_life upto_weakly_is (opening K a ρ) (opening K d ρ) b n l u
  binary_life op.Then a d ρ b n l u = then_life (opening K a ρ) d ρ b n l
  binary_life op.Sampled a d ρ b n l u = two_life sampled_is (opening K a ρ) (opening K d ρ) b n l u
  binary_life op.SampledWeakly a d ρ b n l u = two_life sampled_weakly_is (opening K a ρ) (opening K d ρ) b n l u

  -- THE ROWS HOLD OF THE STATE TREE
  pub grown_rows : length T ≤ most → IsTable K T gone (grown_meaning K T gone)
  grown_rows few = record {
    name = λ x ρ b n l u. leaf_life (place_of x ρ) b n;
    never = λ ρ b n l u. ap (now_of n) (grown-still TNever (λ s g. refl) b n);
    binary = λ o a d ρ b n l u. binary_life o a d ρ b n l (omega (arith, u, few));
    delay = λ a m ρ b n l u. one_life (delay_is (number_of m ρ)) (opening K a ρ) b n l (omega (arith, u, few));
    await = λ a m ρ b n l u. one_life (await_is (number_of m ρ)) (opening K a ρ) b n l (omega (arith, u, few));
    filter = λ a w ρ b n l u. let s = suffix_of K.words w ρ in
        one_life (filter_is (word_of K.words s.word) s.offset) (opening K a ρ) b n l (omega (arith, u, few));
    delayed = λ a m d ρ pos b n l u. two_life (delayed_is m pos) (opening K a ρ) (opening K d ρ) b n l (omega (arith, u, few));
    choice = λ q a d ρ b n l u. elim (test_of K.words q ρ) as (λ t. life_of K T gone (if t then opening K a ρ else opening K d ρ) b n
        ≡ (if t then grown_meaning K T gone a ρ b n else grown_meaning K T gone d ρ b n)) [ true ↦ refl | false ↦ refl ];
  }

module _ (K : System) (guarded_bodies : AreGuarded K) where
  -- THE ROW OF CALLS HOLDS OF THE STATE TREE
  pub grown_calls : (T : List Step) (gone : ℕ → ℕ → Bool) → CallsAreBodies K T (grown_meaning K T gone)
  grown_calls T gone group member args ρ g b n l u = ap (λ t. life_of K T gone t b n) (opening_call K guarded_bodies group member args ρ g)

  -- THE STATE TREE GIVES THE MEANING: its formula and its death, at every step of every list that counts can hold
  pub tree_theorem : (T : List Step) (gone : ℕ → ℕ → Bool) (e : Expression) (ρ : List Actual) (b n : ℕ) → length T ≤ most → IsAllowed K e → b ≤ n → n ≤ length T
      → grown_meaning K T gone e ρ b n ≡ life_given K T gone e ρ b n
  tree_theorem T gone e ρ b n few ok_e l u =
      (unique K T T (length T) (omega arith) (omega arith) (λ i h. refl) gone gone (λ n x h. refl) (grown_meaning K T gone) (life_given K T gone)
      (grown_rows K T gone few) (meaning_rows K T gone) guarded_bodies (grown_calls T gone) (meaning_calls K T gone guarded_bodies) e ρ b ok_e
      (omega (arith, l, u))).at n l u
