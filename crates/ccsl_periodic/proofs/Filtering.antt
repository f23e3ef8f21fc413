-- How filters tick: by the letters that the ticks of the filtered clock have.
use Rattle.std.proofs.Common.{◌≡◌, ℕ, zero, suc, ◌+◌, ◌<◌, ◌≤◌, List, [], ◌∷◌, ◌++◌, map, length, take, Bool, true, false, not, ◌&&◌, ◌||◌, cond, Some, None}
use Rattle.std.proofs.Common.{refl, sym, ap, ap₂, ◌∙◌, arith, ⊎_elim, nat_eq, if◌then◌else◌}
use Rattle.std.proofs.Math.Seq.{take-suc}
use Rattle.std.proofs.lemmas.Bool.{cases_Bool, cases_lt, and_left, and_right, and_from, not_from_true, not_from_false}
use Rattle.ccsl_base.specs.Clocks.{ticks_in}
use Rattle.ccsl_formula.specs.Formula.{Formula, FTrue, FFalse, FVar, FNot, eval}
use Rattle.ccsl_words.specs.Word.{BinaryWord, letter}
use Rattle.ccsl_kernel.specs.declared.actual.Actual.{Actual}
use Rattle.ccsl_kernel.specs.declared.expr.Place.TheVariants as place
use Rattle.ccsl_kernel.specs.Syntax.{Expression, EName, System}
use Rattle.ccsl_kernel.specs.Actuals.{word_of, word_or_empty}
use Rattle.ccsl_kernel.specs.Ticks.{count}
use Rattle.ccsl_kernel.specs.Table.{filter_row}
use Rattle.ccsl_kernel.specs.Lives.{Step, Life, steps, step_at, ticks_at, over_one}
use Rattle.ccsl_kernel.specs.Meaning.{meaning}
use Rattle.ccsl_kernel.specs.Items.{clock_count, relation_formula}
use Rattle.ccsl_kernel.specs.Runs.{ObeysDefinitions}
use Rattle.ccsl_kernel.proofs.Steps.{map-steps-suc, map-snoc, steps-empty}
use Rattle.ccsl_kernel.proofs.Quiet.{count-snoc}
use Rattle.ccsl_periodic.specs.declared.between.Between.{Between}
use Rattle.ccsl_periodic.specs.declared.between.Between.TheVariants.{Precedes, Subclock, Excludes}
use Rattle.ccsl_periodic.specs.Ones.{ones}
use Rattle.ccsl_periodic.specs.Failures.{fails_at, IsFirstFailure, NeverFails}
use Rattle.ccsl_periodic.specs.Filtered.{IsOn}
use Rattle.ccsl_periodic.specs.Filters.{kind_of, IsWordAt, filter_by_word, IsFilter, relation_holds, FiltersAreRelated, ExpressionsTick, ClocksTick}
use Rattle.ccsl_periodic.specs.Filters.{FiltersCompose}
use Rattle.ccsl_kernel.proofs.Counts.{count_from, count-next, count-none}

-- at the ticks of t from b on, m ticks with the ones of w, as far as n
abbrev Filters : (ℕ → Bool) → (ℕ → Bool) → BinaryWord → ℕ → ℕ → Type 0
Filters m t w b n = (i : ℕ) → b ≤ i → i < n → m i ≡ (letter w (count_from t b i) && t i)

one_more : (l t : Bool) (w : BinaryWord) (k m : ℕ) → l ≡ letter w k → m ≡ ones w k → (if l && t then suc m else m) ≡ ones w (if t then suc k else k)
one_more true true w k m e f = ap suc f ∙ ap (λ x. cond x (suc (ones w k)) (ones w k)) e
one_more false true w k m e f = f ∙ ap (λ x. cond x (suc (ones w k)) (ones w k)) e
one_more true false w k m e f = f
one_more false false w k m e f = f

-- THE TICKS OF A FILTER are the ones among the letters so far
count-filter : (m t : ℕ → Bool) (w : BinaryWord) (b n : ℕ) → Filters m t w b n → count_from m b n ≡ ones w (count_from t b n)
count-filter m t w b zero f = count-none m b zero (omega arith) ∙ ap (ones w) (sym (count-none t b zero (omega arith)))
count-filter m t w b (suc n) f =
    ⊎_elim
    (λ (l : n < b). count-none m b (suc n) (omega arith) ∙ ap (ones w) (sym (count-none t b (suc n) (omega arith))))
    (λ (l : b ≤ n).
    count-next m b n l
    ∙ ap (λ x. if x then suc (count_from m b n) else count_from m b n) (f n l (omega arith))
    ∙ one_more (letter w (count_from t b n)) (t n) w (count_from t b n) (count_from m b n) refl (count-filter m t w b n (λ i l' u. f i l' (omega arith)))
    ∙ ap (ones w) (sym (count-next t b n l)))
    (cases_lt n b)

-- a filter of a filter ticks by the word on the other
twice : (m o t : ℕ → Bool) (u v w : BinaryWord) (b n : ℕ) → IsOn u v w → b ≤ n → Filters m t u b n → m n ≡ (letter u (count_from t b n) && t n) →
    o n ≡ (letter v (count_from m b n) && m n) → o n ≡ (letter w (count_from t b n) && t n)
twice m o t u v w b n is l f here outer =
    outer
    ∙ ap₂ (λ (k : ℕ) (x : Bool). letter v k && x) (count-filter m t u b n f) here
    ∙ shuffled (letter u (count_from t b n)) (letter v (ones u (count_from t b n))) (t n)
    ∙ ap (λ x. x && t n) (sym (is.letters (count_from t b n)))
  where
    shuffled : (x y z : Bool) → (y && (x && z)) ≡ ((x && y) && z)
    shuffled true true z = refl
    shuffled true false z = refl
    shuffled false true z = refl
    shuffled false false z = refl

-- EXPRESSIONS
module _ (T : List Step) where
  -- a filter's row by ticks
  row_ticks : (w : BinaryWord) (L : Life) (b n : ℕ)
      → ticks_at T (over_one T (filter_row w 0) L) b n ≡ (letter w (count_from (ticks_at T L b) b n) && ticks_at T L b n)
  row_ticks w L b n = chosen (letter w (0 + k)) (letter w k) (L b n).formula (ap (letter w) (let s : 0 + k ≡ k = omega arith in s))
    where
      k : ℕ
      k = count_from (ticks_at T L b) b n

      chosen : (x y : Bool) (f : Formula) → x ≡ y → eval (if x then f else FFalse) (step_at T n) ≡ (y && eval f (step_at T n))
      chosen true y f e = ap (λ z. z && eval f (step_at T n)) e
      chosen false y f e = ap (λ z. z && eval f (step_at T n)) e

-- the word number i of the table
word_at : (K : System) (i : ℕ) (w : BinaryWord) → IsWordAt K i w → word_of K.words i ≡ w
word_at K i w e = ap word_or_empty e

module _ (K : System) (T : List Step) where
  -- a filter ticks by the letters of its word
  expression_ticks : (i : ℕ) (w : BinaryWord) → IsWordAt K i w → (x : ℕ) (e : Expression) (ρ : List Actual) (b n : ℕ) →
      ticks_at T (meaning K T x (filter_by_word e i) ρ) b
      n ≡ (letter w (count_from (ticks_at T (meaning K T x e ρ) b) b n) && ticks_at T (meaning K T x e ρ) b n)
  expression_ticks i w at x e ρ b n =
      row_ticks T (word_of K.words i) (meaning K T x e ρ) b n
      ∙ ap (λ (z : BinaryWord). letter z (count_from (ticks_at T (meaning K T x e ρ) b) b n) && ticks_at T (meaning K T x e ρ) b n) (word_at K i w at)

  -- A CLOCK as a function of the step
  abbrev pub clock_ticks : ℕ → ℕ → Bool
  clock_ticks c i = ticks_in c (step_at T i)

  pub clock_count-is : (c n : ℕ) → n ≤ length T → clock_count T c n ≡ count_from (clock_ticks c) 0 n
  clock_count-is c n l = ap count (as_steps n l)
    where
      as_steps : (n : ℕ) → n ≤ length T → map (ticks_in c) (take n T) ≡ map (clock_ticks c) (steps 0 n)
      as_steps zero l = refl
      as_steps (suc n) l =
          ap (map (ticks_in c)) (take-suc T n [] (omega arith))
          ∙ map-snoc (ticks_in c) (take n T) (step_at T n)
          ∙ ap (λ xs. xs ++ clock_ticks c n ∷ []) (as_steps n (omega arith))
          ∙ sym (map-steps-suc (clock_ticks c) 0 n (omega arith))

  pub clock_count-more : (c n : ℕ) → n < length T → clock_count T c (suc n) ≡ (if clock_ticks c n then suc (clock_count T c n) else clock_count T c n)
  clock_count-more c n l =
      clock_count-is c (suc n) (omega arith)
      ∙ count-next (clock_ticks c) 0 n (omega arith)
      ∙ ap (λ (k : ℕ). if clock_ticks c n then suc k else k) (sym (clock_count-is c n (omega arith)))

  module _ (obeys : ObeysDefinitions K T) where
    clock_filters : (x c : ℕ) (w : BinaryWord) → IsFilter K x c w → Filters (clock_ticks x) (clock_ticks c) w 0 (length T)
    clock_filters x c w is i from l =
        obeys x (filter_by_word (EName (place.Clock c)) is.number) i is.definition l
        ∙ expression_ticks is.number w is.word x (EName (place.Clock c)) [] 0 i

    pub filter_ticks : (x c : ℕ) (w : BinaryWord) → IsFilter K x c w → (n : ℕ) → n < length T
        → clock_ticks x n ≡ (letter w (clock_count T c n) && clock_ticks c n)
    filter_ticks x c w is n l =
        clock_filters x c w is n (omega arith) l
        ∙ ap (λ (k : ℕ). letter w k && clock_ticks c n) (sym (clock_count-is c n (omega arith)))

    pub filter_count : (x c : ℕ) (w : BinaryWord) → IsFilter K x c w → (n : ℕ) → n ≤ length T → clock_count T x n ≡ ones w (clock_count T c n)
    filter_count x c w is n l =
        clock_count-is x n l
        ∙ count-filter (clock_ticks x) (clock_ticks c) w 0 n (λ i from below. clock_filters x c w is i from (omega arith))
        ∙ ap (ones w) (sym (clock_count-is c n l))

    -- THE FORMULA OF A RELATION between two filters holds unless their words fail at a tick
    pub relation_is : (r : Between) (x y c : ℕ) (u v : BinaryWord) → IsFilter K x c u → IsFilter K y c v → (n : ℕ) → n < length T →
        relation_holds T r x y n ≡ not (clock_ticks c n && fails_at r u v (clock_count T c n))
    relation_is r x y c u v is_x is_y n l =
        ap₂ (λ (i j : ℕ). eval (relation_formula (kind_of r) x y i j) (step_at T n)) (filter_count x c u is_x n (omega arith))
        (filter_count y c v is_y n (omega arith))
        ∙ by_relation r
      where
        k : ℕ
        k = clock_count T c n

        subclock : (p q l m t : Bool) → p ≡ (l && t) → q ≡ (m && t) → (not p || q) ≡ not (t && (l && not m))
        subclock p q true true true f g = ap₂ (λ a b. not a || b) f g
        subclock p q true true false f g = ap₂ (λ a b. not a || b) f g
        subclock p q true false true f g = ap₂ (λ a b. not a || b) f g
        subclock p q true false false f g = ap₂ (λ a b. not a || b) f g
        subclock p q false true true f g = ap₂ (λ a b. not a || b) f g
        subclock p q false true false f g = ap₂ (λ a b. not a || b) f g
        subclock p q false false true f g = ap₂ (λ a b. not a || b) f g
        subclock p q false false false f g = ap₂ (λ a b. not a || b) f g

        excludes : (p q l m t : Bool) → p ≡ (l && t) → q ≡ (m && t) → not (p && q) ≡ not (t && (l && m))
        excludes p q true true true f g = ap₂ (λ a b. not (a && b)) f g
        excludes p q true true false f g = ap₂ (λ a b. not (a && b)) f g
        excludes p q true false true f g = ap₂ (λ a b. not (a && b)) f g
        excludes p q true false false f g = ap₂ (λ a b. not (a && b)) f g
        excludes p q false true true f g = ap₂ (λ a b. not (a && b)) f g
        excludes p q false true false f g = ap₂ (λ a b. not (a && b)) f g
        excludes p q false false true f g = ap₂ (λ a b. not (a && b)) f g
        excludes p q false false false f g = ap₂ (λ a b. not (a && b)) f g

        precedes : (q m t e : Bool) (y : ℕ) → q ≡ (m && t) → clock_ticks y n ≡ q → eval (if e then FNot (FVar y) else FTrue) (step_at T n) ≡ not (t && (m && e))
        precedes q true true true y g h = ap not (h ∙ g)
        precedes q true false true y g h = ap not (h ∙ g)
        precedes q false true true y g h = ap not (h ∙ g)
        precedes q false false true y g h = ap not (h ∙ g)
        precedes q true true false y g h = refl
        precedes q true false false y g h = refl
        precedes q false true false y g h = refl
        precedes q false false false y g h = refl

        by_relation : (r : Between) → eval (relation_formula (kind_of r) x y (ones u k) (ones v k)) (step_at T n) ≡ not (clock_ticks c n && fails_at r u v k)
        by_relation Precedes = precedes (clock_ticks y n) (letter v k) (clock_ticks c n) (nat_eq (ones u k) (ones v k)) y (filter_ticks y c v is_y n l) refl
        by_relation Subclock = subclock (clock_ticks x n) (clock_ticks y n) (letter u k) (letter v k) (clock_ticks c n) (filter_ticks x c u is_x n l)
            (filter_ticks y c v is_y n l)
        by_relation Excludes = excludes (clock_ticks x n) (clock_ticks y n) (letter u k) (letter v k) (clock_ticks c n) (filter_ticks x c u is_x n l)
            (filter_ticks y c v is_y n l)

-- THE LAWS
pub related_until : (r : Between) (u v : BinaryWord) (k : ℕ) → IsFirstFailure r u v k → FiltersAreRelated r u v (Some k)
related_until r u v k first K T x y c obeys is_x is_y = record { before = before; fails = fails }
  where
    is : (n : ℕ) → n < length T → relation_holds T r x y n ≡ not (clock_ticks K T c n && fails_at r u v (clock_count T c n))
    is = relation_is K T obeys r x y c u v is_x is_y

    before : (n : ℕ) → n < length T → clock_count T c (suc n) ≤ k → relation_holds T r x y n ≡ true
    before n l below = is n l ∙ ⊎_elim ticking resting (cases_Bool (clock_ticks K T c n))
      where
        resting : clock_ticks K T c n ≡ false → not (clock_ticks K T c n && fails_at r u v (clock_count T c n)) ≡ true
        resting t = not_from_false (clock_ticks K T c n && fails_at r u v (clock_count T c n))
            (and_left (clock_ticks K T c n) (fails_at r u v (clock_count T c n)) t)

        ticking : clock_ticks K T c n ≡ true → not (clock_ticks K T c n && fails_at r u v (clock_count T c n)) ≡ true
        ticking t =
            let more : clock_count T c (suc n) ≡ suc (clock_count T c n) =
            clock_count-more K T c n l ∙ ap (λ z. cond z (suc (clock_count T c n)) (clock_count T c n)) t in
            not_from_false (clock_ticks K T c n && fails_at r u v (clock_count T c n))
            (and_right (clock_ticks K T c n) (fails_at r u v (clock_count T c n)) (first.least (clock_count T c n) (omega arith)))

    fails : (n : ℕ) → n < length T → clock_count T c n ≡ k → ticks_in c (step_at T n) ≡ true → relation_holds T r x y n ≡ false
    fails n l at t =
        is n l
        ∙ not_from_true (clock_ticks K T c n && fails_at r u v (clock_count T c n))
        (and_from (clock_ticks K T c n) (fails_at r u v (clock_count T c n)) t (ap (fails_at r u v) at ∙ first.fails))

pub related_always : (r : Between) (u v : BinaryWord) → NeverFails r u v → FiltersAreRelated r u v None
related_always r u v never K T x y c obeys is_x is_y n l =
    relation_is K T obeys r x y c u v is_x is_y n l
    ∙ not_from_false (clock_ticks K T c n && fails_at r u v (clock_count T c n))
    (and_right (clock_ticks K T c n) (fails_at r u v (clock_count T c n)) (never (clock_count T c n)))

pub composed : (u v w : BinaryWord) → IsOn u v w → FiltersCompose u v w
composed u v w is = record { expressions = expressions; clocks = clocks }
  where
    expressions : ExpressionsTick u v w
    expressions K T i j k at_u at_v at_w x e ρ b n l within =
        let t = ticks_at T (meaning K T x e ρ) b in
        let m = ticks_at T (meaning K T x (filter_by_word e i) ρ) b in
        let o = ticks_at T (meaning K T x (filter_by_word (filter_by_word e i) j) ρ) b in
        twice m o t u v w b n is l (λ i' from below. expression_ticks K T i u at_u x e ρ b i') (expression_ticks K T i u at_u x e ρ b n)
        (expression_ticks K T j v at_v x (filter_by_word e i) ρ b n)
        ∙ sym (expression_ticks K T k w at_w x e ρ b n)

    clocks : ClocksTick u v w
    clocks K T x y z c obeys is_x is_y is_z n l =
        twice (clock_ticks K T x) (clock_ticks K T y) (clock_ticks K T c) u v w 0 n is (omega arith)
        (λ i from below. clock_filters K T obeys x c u is_x i from (omega arith))
        (clock_filters K T obeys x c u is_x n (omega arith) l)
        (clock_filters K T obeys y x v is_y n (omega arith) l)
        ∙ sym (clock_filters K T obeys z c w is_z n (omega arith) l)
