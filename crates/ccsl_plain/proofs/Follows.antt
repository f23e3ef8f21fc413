-- The course of an expression follows its meaning: its life obeys each row of the table, and so is the meaning.
use Rattle.std.proofs.Common.{◌≡◌, ℕ, zero, suc, ◌<◌, ◌≤◌, inl, inr, List, [], ◌∷◌, ◌++◌, map, find, length, Bool, true, false, Option, Some, None, refl, sym}
use Rattle.std.proofs.Common.{ap, ap₂, ◌∙◌, arith, le-leb, if◌then◌else◌}
use Rattle.std.proofs.lemmas.Bool.{lt-leb}
use Rattle.ccsl_kernel.specs.declared.expr.ExprOp.{ExprOp}
use Rattle.ccsl_kernel.specs.declared.actual.Actual.{Actual}
use Rattle.ccsl_kernel.specs.declared.expr.ExprOp.TheVariants as op
use Rattle.ccsl_kernel.specs.declared.actual.Actual.TheVariants as actual
use Rattle.ccsl_kernel.specs.Syntax.{Expression, EName, ECall, ENever, EBinary, EDelay, EAwait, EFilter, EDelayed, EIf, System, root_of}
use Rattle.ccsl_kernel.specs.Actuals.{place_of, number_of, suffix_of, value_of, test_of, word_of}
use Rattle.ccsl_kernel.specs.Table.{Now, Operand, union_row, inter_row, minus_row, inf_row, sup_row, upto_row, upto_weakly_row, sampled_row, sampled_weakly_row}
use Rattle.ccsl_kernel.specs.Table.{delay_row, await_row, filter_row, delayed_row}
use Rattle.ccsl_kernel.specs.Lives.{Step, steps, step_at, ticks_at, over_one, over_two, end_of, at_end, followed_by, joined}
use Rattle.ccsl_kernel.specs.Meaning.{named, life_given}
use Rattle.ccsl_kernel.specs.declared.position.Position.{Position}
use Rattle.ccsl_kernel.specs.declared.position.Position.TheVariants.{Inner, Tail, Guarded}
use Rattle.ccsl_kernel.specs.Guarded.{Allowed, IsAllowed}
use Rattle.ccsl_kernel.specs.Rows.{IsTable, CallsAreBodies}
use Rattle.ccsl_plain.specs.Course.{Course, CName, CNever, CUnary, CBinary, CThen, now_of, operator_row, over, leaf, open_with, open_bodies, opening}
use Rattle.ccsl_plain.specs.Course.{then_or_right, next, grown, life_of, course_life}
use Rattle.ccsl_kernel.proofs.GuardedCalls.{AreGuarded, tail_guarded, inner_guarded}
use Rattle.ccsl_kernel.proofs.Steps.{map-steps-suc, steps-empty, find-steps-suc, find-within, from_birth, or_else, if_at}
use Rattle.ccsl_kernel.proofs.Agree.{unique}
use Rattle.ccsl_kernel.proofs.TableHolds.{meaning_rows, meaning_calls}

module _ (K : System) (T : List Step) (gone : ℕ → ℕ → Bool) where
  pub grown-suc : (c : Course) (b n : ℕ) → b ≤ n → grown K T gone c b (suc n) ≡ next K (step_at T n) (gone n) (gone (suc n)) (grown K T gone c b n)
  grown-suc c b n l = ap (λ t. if t then next K (step_at T n) (gone n) (gone (suc n)) (grown K T gone c b n) else c) (le-leb b n l)

  pub grown-first : (c : Course) (b n : ℕ) → n ≤ b → grown K T gone c b n ≡ c
  grown-first c b zero l = refl
  grown-first c b (suc n) l = ap (λ t. if t then next K (step_at T n) (gone n) (gone (suc n)) (grown K T gone c b n) else c) (lt-leb b n l)

  -- at which steps the course that was a at b ticks
  abbrev ticks : Course → ℕ → ℕ → List Bool
  ticks a b n = map (ticks_at T (life_of K T gone a) b) (steps b n)

  ticks-first : (a : Course) (b : ℕ) → ticks a b b ≡ []
  ticks-first a b = ap (map (ticks_at T (life_of K T gone a) b)) (steps-empty b b (omega arith))

  ticks-suc : (a : Course) (b n : ℕ) → b ≤ n → ticks a b (suc n) ≡ ticks a b n ++ ticks_at T (life_of K T gone a) b n ∷ []
  ticks-suc a b n l = map-steps-suc (ticks_at T (life_of K T gone a) b) b n l

  -- what a node's operands come to, each for itself
  grown-one : (row : Operand → Now) (a : Course) (b n : ℕ) → b ≤ n → grown K T gone (CUnary row a []) b n ≡ CUnary row (grown K T gone a b n) (ticks a b n)
  grown-one row a b n l =
      from_birth (λ n. grown K T gone (CUnary row a []) b n ≡ CUnary row (grown K T gone a b n) (ticks a b n)) b
      (grown-first (CUnary row a []) b b (omega arith) ∙ ap₂ (CUnary row) (sym (grown-first a b b (omega arith))) (sym (ticks-first a b)))
      (λ n l ih.
      grown-suc (CUnary row a []) b n l
      ∙ ap (next K (step_at T n) (gone n) (gone (suc n))) ih
      ∙ ap₂ (CUnary row) (sym (grown-suc a b n l)) (sym (ticks-suc a b n l)))
      n l

  grown-two : (row : Operand → Operand → Now) (a d : Course) (b n : ℕ) → b ≤ n →
      grown K T gone (CBinary row a d [] []) b n ≡ CBinary row (grown K T gone a b n) (grown K T gone d b n) (ticks a b n) (ticks d b n)
  grown-two row a d b n l =
      from_birth (λ n. grown K T gone (CBinary row a d [] []) b n ≡ CBinary row (grown K T gone a b n) (grown K T gone d b n) (ticks a b n) (ticks d b n)) b
      (grown-first (CBinary row a d [] []) b b (omega arith)
      ∙ ap₂ (λ a' d'. CBinary row a' d' [] []) (sym (grown-first a b b (omega arith))) (sym (grown-first d b b (omega arith)))
      ∙ ap₂ (CBinary row (grown K T gone a b b) (grown K T gone d b b)) (sym (ticks-first a b)) (sym (ticks-first d b)))
      (λ n l ih.
      grown-suc (CBinary row a d [] []) b n l
      ∙ ap (next K (step_at T n) (gone n) (gone (suc n))) ih
      ∙ ap₂ (λ a' d'. CBinary row a' d' (ticks a b n ++ ticks_at T (life_of K T gone a) b n ∷ []) (ticks d b n ++ ticks_at T (life_of K T gone d) b n ∷ []))
      (sym (grown-suc a b n l)) (sym (grown-suc d b n l))
      ∙ ap₂ (CBinary row (grown K T gone a b (suc n)) (grown K T gone d b (suc n))) (sym (ticks-suc a b n l)) (sym (ticks-suc d b n l)))
      n l

  one_life : (row : Operand → Now) (a : Course) (b n : ℕ) → b ≤ n → life_of K T gone (CUnary row a []) b n ≡ over_one T row (life_of K T gone a) b n
  one_life row a b n l = ap (now_of (gone n)) (grown-one row a b n l)

  two_life : (row : Operand → Operand → Now) (a d : Course) (b n : ℕ) → b ≤ n
      → life_of K T gone (CBinary row a d [] []) b n ≡ over_two T row (life_of K T gone a) (life_of K T gone d) b n
  two_life row a d b n l = ap (now_of (gone n)) (grown-two row a d b n l)

  -- the step at which a course dies, seen at one more step
  end-first : (a : Course) (b : ℕ) → end_of (life_of K T gone a) b b ≡ None
  end-first a b = ap (find _) (steps-empty (suc b) (suc b) (omega arith))

  end-suc : (a : Course) (b n : ℕ) → b ≤ n
      → end_of (life_of K T gone a) b (suc n) ≡ or_else (end_of (life_of K T gone a) b n) (if_at (life_of K T gone a b (suc n)).dead (suc n))
  end-suc a b n l = find-steps-suc _ (suc b) (suc n) (omega arith)

  -- a then is its left operand until that dies, and its right operand from then on
  grown-then : (a : Course) (d : Expression) (ρ : List Actual) (b n : ℕ) → b ≤ n →
      grown K T gone (CThen a d ρ) b n ≡ at_end (end_of (life_of K T gone a) b n) (CThen (grown K T gone a b n) d ρ) (λ k. grown K T gone (opening K d ρ) k n)
  grown-then a d ρ b n l =
      from_birth (λ n. grown K T gone (CThen a d ρ) b n ≡ at_end (end_of (life_of K T gone a) b n) (CThen (grown K T gone a b n) d ρ)
      (λ k. grown K T gone (opening K d ρ) k n)) b
      (grown-first (CThen a d ρ) b b (omega arith)
      ∙ ap (λ t. CThen t d ρ) (sym (grown-first a b b (omega arith)))
      ∙ ap (λ o. at_end o (CThen (grown K T gone a b b) d ρ) (λ k. grown K T gone (opening K d ρ) k b)) (sym (end-first a b)))
      (λ n l ih.
      grown-suc (CThen a d ρ) b n l
      ∙ ap (next K (step_at T n) (gone n) (gone (suc n))) ih
      ∙ on n l (end_of (life_of K T gone a) b n) refl
      ∙ ap (λ o. at_end o (CThen (grown K T gone a b (suc n)) d ρ) (λ k. grown K T gone (opening K d ρ) k (suc n))) (sym (end-suc a b n l)))
      n l
    where
      dies : (n : ℕ) (c : Course) (x : Bool) → then_or_right K x c d ρ ≡ at_end (if_at x (suc n)) (CThen c d ρ) (λ k. grown K T gone (opening K d ρ) k (suc n))
      dies n c true = sym (grown-first (opening K d ρ) (suc n) (suc n) (omega arith))
      dies n c false = refl

      on : (n : ℕ) → b ≤ n → (o : Option ℕ) → end_of (life_of K T gone a) b n ≡ o →
          next K (step_at T n) (gone n) (gone (suc n)) (at_end o (CThen (grown K T gone a b n) d ρ) (λ k. grown K T gone (opening K d ρ) k n))
          ≡ at_end (or_else o (if_at (life_of K T gone a b (suc n)).dead (suc n))) (CThen (grown K T gone a b (suc n)) d ρ)
          (λ k. grown K T gone (opening K d ρ) k (suc n))
      on n l (Some k) e = let w = find-within _ (suc b) (suc n) k e in sym (grown-suc (opening K d ρ) k n (omega (arith, w.1)))
      on n l None e =
          ap (λ c. then_or_right K (now_of (gone (suc n)) c).dead c d ρ) (sym (grown-suc a b n l))
          ∙ dies n (grown K T gone a b (suc n)) (life_of K T gone a b (suc n)).dead

  then_life : (a : Course) (d : Expression) (ρ : List Actual) (b n : ℕ) → b ≤ n
      → life_of K T gone (CThen a d ρ) b n ≡ followed_by (life_of K T gone a) (life_of K T gone (opening K d ρ)) b n
  then_life a d ρ b n l = ap (now_of (gone n)) (grown-then a d ρ b n l) ∙ at (end_of (life_of K T gone a) b n)
    where
      at : (o : Option ℕ) →
          now_of (gone n) (at_end o (CThen (grown K T gone a b n) d ρ) (λ k. grown K T gone (opening K d ρ) k n))
          ≡ at_end o (record { formula = (life_of K T gone a b n).formula; dead = false }) (λ k. life_of K T gone (opening K d ρ) k n)
      at None = refl
      at (Some k) = refl

  -- a name and never stay as they are
  grown-still : (c : Course) → ((s : Step) (g g' : ℕ → Bool) → next K s g g' c ≡ c) → (b n : ℕ) → b ≤ n → grown K T gone c b n ≡ c
  grown-still c still b n l =
      from_birth (λ n. grown K T gone c b n ≡ c) b (grown-first c b b (omega arith))
      (λ n l ih. grown-suc c b n l ∙ ap (next K (step_at T n) (gone n) (gone (suc n))) ih ∙ still (step_at T n) (gone n) (gone (suc n)))
      n l

  leaf_life : (v : Actual) (b n : ℕ) → b ≤ n → life_of K T gone (leaf v) b n ≡ named K T gone v b n
  leaf_life (actual.Clock x) b n l = ap (now_of (gone n)) (grown-still (CName x) (λ s g g'. refl) b n l)
  leaf_life (actual.Number k) b n l = ap (now_of (gone n)) (grown-still CNever (λ s g g'. refl) b n l)
  leaf_life (actual.Word w o) b n l = ap (now_of (gone n)) (grown-still CNever (λ s g g'. refl) b n l)

  binary_life : (o : ExprOp) (a d : Expression) (ρ : List Actual) (b n : ℕ) → b ≤ n →
      course_life K T gone (EBinary o a d) ρ b n ≡ joined T o (course_life K T gone a ρ) (course_life K T gone d ρ) b n
  binary_life op.Then a d ρ b n l = then_life (opening K a ρ) d ρ b n l
  binary_life op.Union a d ρ b n l = two_life union_row (opening K a ρ) (opening K d ρ) b n l
  binary_life op.Inter a d ρ b n l = two_life inter_row (opening K a ρ) (opening K d ρ) b n l
  binary_life op.Minus a d ρ b n l = two_life minus_row (opening K a ρ) (opening K d ρ) b n l
  binary_life op.Inf a d ρ b n l = two_life inf_row (opening K a ρ) (opening K d ρ) b n l
  binary_life op.Sup a d ρ b n l = two_life sup_row (opening K a ρ) (opening K d ρ) b n l
  binary_life op.Upto a d ρ b n l = two_life upto_row (opening K a ρ) (opening K d ρ) b n l
  binary_life op.UptoWeakly a d ρ b n l = two_life upto_weakly_row (opening K a ρ) (opening K d ρ) b n l
  binary_life op.Sampled a d ρ b n l = two_life sampled_row (opening K a ρ) (opening K d ρ) b n l
  binary_life op.SampledWeakly a d ρ b n l = two_life sampled_weakly_row (opening K a ρ) (opening K d ρ) b n l

  -- THE ROWS HOLD OF THE COURSE
  course_rows : IsTable K T gone (course_life K T gone)
  course_rows = record {
    name = λ x ρ b n l u. leaf_life (place_of x ρ) b n l;
    never = λ ρ b n l u. ap (now_of (gone n)) (grown-still CNever (λ s g g'. refl) b n l);
    binary = λ o a d ρ b n l u. binary_life o a d ρ b n l;
    delay = λ a m ρ b n l u. one_life (delay_row (number_of m ρ)) (opening K a ρ) b n l;
    await = λ a m ρ b n l u. one_life (await_row (number_of m ρ)) (opening K a ρ) b n l;
    filter = λ a w ρ b n l u. let s = suffix_of K.words w ρ in one_life (filter_row (word_of K.words s.word) s.offset) (opening K a ρ) b n l;
    delayed = λ a m d ρ pos b n l u. two_life (delayed_row m) (opening K a ρ) (opening K d ρ) b n l;
    choice = λ q a d ρ b n l u. choose (test_of K.words q ρ) (opening K a ρ) (opening K d ρ) b n;
  }
    where
      choose : (t : Bool) (a d : Course) (b n : ℕ) → life_of K T gone (if t then a else d) b n ≡ (if t then life_of K T gone a b n else life_of K T gone d b n)
      choose true a d b n = refl
      choose false a d b n = refl

-- Opening an expression that is in no guarded tail position opens members of earlier groups alone.
module _ (K : System) (calls calls' : ℕ → ℕ → List Actual → Course) (g : ℕ)
    (same : (group member : ℕ) (ρ : List Actual) → group < g → calls group member ρ ≡ calls' group member ρ) where
  open_same : (e : Expression) (p : Position) (ρ : List Actual) → Allowed g p e → (p ≡ Guarded → ⊥) → open_with K calls e ρ ≡ open_with K calls' e ρ
  open_same (EName x) p ρ ok nog = refl
  open_same (ECall group member args) p ρ (inl l) nog = same group member (map (value_of K.words ρ) args) l
  open_same (ECall group member args) p ρ (inr h) nog = absurd (nog h.1)
  open_same ENever p ρ ok nog = refl
  open_same (EBinary op.Then a d) p ρ ok nog = ap (λ t. CThen t d ρ) (open_same a Inner ρ ok.0 inner_guarded)
  open_same (EBinary o a d) p ρ ok nog =
      ap₂ (λ a' d'. over (operator_row o) a' d' d ρ) (open_same a Inner ρ ok.0 inner_guarded) (open_same d Inner ρ ok.1 inner_guarded)
  open_same (EDelay a m) p ρ ok nog = ap (λ a'. CUnary (delay_row (number_of m ρ)) a' []) (open_same a Inner ρ ok inner_guarded)
  open_same (EAwait a m) p ρ ok nog = ap (λ a'. CUnary (await_row (number_of m ρ)) a' []) (open_same a Inner ρ ok inner_guarded)
  open_same (EFilter a w) p ρ ok nog = let s =
      suffix_of K.words w ρ in ap (λ a'. CUnary (filter_row (word_of K.words s.word) s.offset) a' []) (open_same a Inner ρ ok inner_guarded)
  open_same (EDelayed a m d) p ρ ok nog =
      ap₂ (λ a' d'. CBinary (delayed_row m) a' d' [] []) (open_same a Inner ρ ok.2 inner_guarded) (open_same d Inner ρ ok.3 inner_guarded)
  open_same (EIf q a d) p ρ ok nog = ap₂ (λ s t. if test_of K.words q ρ then s else t) (open_same a p ρ ok.0 nog) (open_same d p ρ ok.1 nog)

module _ (K : System) (guarded_bodies : AreGuarded K) where
  -- levels enough are as good as any
  open_levels : (f f' g member : ℕ) (ρ : List Actual) → g < f → g < f' → open_bodies K f g member ρ ≡ open_bodies K f' g member ρ
  open_levels zero f' g member ρ h h' = let z : ⊥ = omega arith in absurd z
  open_levels (suc f) zero g member ρ h h' = let z : ⊥ = omega arith in absurd z
  open_levels (suc f) (suc f') g member ρ h h' =
      open_same K (open_bodies K f) (open_bodies K f') g (λ group m v l. open_levels f f' group m v (omega arith) (omega arith)) (root_of K g member) Tail ρ
      (guarded_bodies g member) tail_guarded

  -- THE ROW OF CALLS HOLDS OF THE COURSE: the course of a call is that of its body
  course_calls : (T : List Step) (gone : ℕ → ℕ → Bool) → CallsAreBodies K T (course_life K T gone)
  course_calls T gone group member args ρ g b n l u =
      ap (λ t. life_of K T gone t b n) (open_levels (length K.groups) (suc (length K.groups)) group member (map (value_of K.words ρ) args) g (omega arith))

  -- THE COURSE GIVES THE MEANING: its formula and its death, at every step of every list
  pub course_is : (T : List Step) (gone : ℕ → ℕ → Bool) (e : Expression) (ρ : List Actual) (b n : ℕ) → IsAllowed K e → b ≤ n → n ≤ length T →
      course_life K T gone e ρ b n ≡ life_given K T gone e ρ b n
  course_is T gone e ρ b n ok_e l u =
      (unique K T T (length T) (omega arith) (omega arith) (λ i h. refl) gone gone (λ n x h. refl) (course_life K T gone) (life_given K T gone)
      (course_rows K T gone) (meaning_rows K T gone) guarded_bodies (course_calls T gone) (meaning_calls K T gone guarded_bodies) e ρ b ok_e
      (omega (arith, l, u))).at n l u
