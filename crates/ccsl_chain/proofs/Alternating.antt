-- In every run of a chain each clock is ahead of the next one by 0 or 1.
use Rattle.std.proofs.Common.{◌≡◌, ℕ, zero, suc, ◌+◌, ◌-◌, ◌*◌, ◌<◌, ◌≤◌, List, [], map, take, length, Bool, true, false, not, nat_eq, nat_le, slice_get, refl}
use Rattle.std.proofs.Common.{sym, ap, ap₂, ◌∙◌, arith, zero-add, eq-eqb, if◌then◌else◌}
use Rattle.std.proofs.Math.Seq.{take-suc}
use Rattle.std.proofs.lemmas.Bool.{cond-true, not-true}
use Rattle.std.proofs.lemmas.Bool.Decides.{nat_tests}
use Rattle.std.proofs.lemmas.List.FromFn.{length-map-range_with_len}
use Rattle.ccsl_base.specs.Clocks.{ticks_in}
use Rattle.ccsl_formula.specs.Formula.{FFalse, FTrue, FVar, FNot, FIff, eval, same}
use Rattle.ccsl_kernel.specs.declared.constraint.RelationKind.TheVariants.{Precedes}
use Rattle.ccsl_kernel.specs.Syntax.{item_count}
use Rattle.ccsl_kernel.specs.Ticks.{count}
use Rattle.ccsl_kernel.specs.Lives.{Step, steps, step_at}
use Rattle.ccsl_kernel.specs.Items.{clock_count, relation_formula, item_formula}
use Rattle.ccsl_kernel.specs.Runs.{IsRun}
use Rattle.ccsl_kernel.proofs.Steps.{map-snoc, map-steps-suc}
use Rattle.ccsl_kernel.proofs.Quiet.{eval_cond, count-snoc}
use Rattle.ccsl_kernel.proofs.ItemCases.{item-definition, item-constraint}
use Rattle.ccsl_chain.specs.Chain.{all_but_first, precedes, chain}
use Rattle.ccsl_chain.proofs.Pieces.{length-two_each, first-two_each, second-two_each, slice_get-range}
use Rattle.ccsl_formula.proofs.Same.{same-values}

-- ## Counts

-- a count where one more may be counted
abbrev pub counted : Bool → ℕ → ℕ
counted t k = if t then suc k else k

module _ (T : List Step) where
  pub count-next : (x m : ℕ) → m < length T → clock_count T x (suc m) ≡ counted (ticks_in x (step_at T m)) (clock_count T x m)
  count-next x m l =
      ap (λ U. count (map (ticks_in x) U)) (take-suc T m [] l)
      ∙ ap count (map-snoc (ticks_in x) (take m T) (step_at T m))
      ∙ count-snoc (map (ticks_in x) (take m T)) (ticks_in x (step_at T m))

  -- the ticks that an expression that names the clock has counted
  pub count-operand : (x m : ℕ) → m ≤ length T → count (map (λ j. ticks_in x (step_at T j)) (steps 0 m)) ≡ clock_count T x m
  count-operand x zero l = refl
  count-operand x (suc m) l =
      ap count (map-steps-suc (λ j. ticks_in x (step_at T j)) 0 m (omega arith))
      ∙ count-snoc (map (λ j. ticks_in x (step_at T j)) (steps 0 m)) (ticks_in x (step_at T m))
      ∙ ap (counted (ticks_in x (step_at T m))) (count-operand x m (omega arith))
      ∙ sym (count-next x m (omega arith))

-- ## The formulas of a chain's items

abbrev pub first_item : ℕ → ℕ → ℕ
first_item n i = n - 1 + 2 * i

abbrev pub second_item : ℕ → ℕ → ℕ
second_item n i = n - 1 + (2 * i + 1)

module _ (n : ℕ) where
  pub length-definitions : length (chain n).definitions ≡ n - 1
  unfolding chain
  length-definitions = length-map-range_with_len all_but_first 0 (n - 1)

  length-constraints : length (chain n).constraints ≡ 2 * (n - 1)
  unfolding chain
  length-constraints = length-two_each _ _ 0 (n - 1)

  pub item_count-chain : item_count (chain n) ≡ n - 1 + 2 * (n - 1)
  item_count-chain = ap₂ ◌+◌ length-definitions length-constraints

  module _ (T : List Step) (m i : ℕ) (l : i < n - 1) where
    pub hidden-formula : m ≤ length T → item_formula (chain n) T m i ≡ FIff (FVar (n + i)) (if nat_le 1 (clock_count T i m) then FVar i else FFalse)
    unfolding chain
    hidden-formula u =
        item-definition (chain n) T m i (all_but_first i) (slice_get-range all_but_first 0 (n - 1) i i l (zero-add i))
        ∙ ap (λ k. FIff (FVar (n + i)) (if nat_le 1 k then FVar i else FFalse)) (count-operand T i m u)

    pub first-formula : item_formula (chain n) T m (first_item n i) ≡ relation_formula Precedes i (i + 1) (clock_count T i m) (clock_count T (i + 1) m)
    unfolding chain
    first-formula =
        item-constraint (chain n) T m (first_item n i) (precedes i i (i + 1)) (omega (arith, length-definitions))
        (ap (slice_get (chain n).constraints) (let s : first_item n i - length (chain n).definitions ≡ 2 * i = omega (arith, length-definitions) in s)
        ∙ first-two_each (λ i. precedes i i (i + 1)) (λ i. precedes i (i + 1) (n + i)) 0 (n - 1) i i l (zero-add i))

    pub second-formula : item_formula (chain n) T m (second_item n i) ≡ relation_formula Precedes (i + 1) (n + i) (clock_count T (i + 1) m)
        (clock_count T (n + i) m)
    unfolding chain
    second-formula =
        item-constraint (chain n) T m (second_item n i) (precedes i (i + 1) (n + i)) (omega (arith, length-definitions))
        (ap (slice_get (chain n).constraints) (let s : second_item n i - length (chain n).definitions ≡ 2 * i + 1 = omega (arith, length-definitions) in s)
        ∙ second-two_each (λ i. precedes i i (i + 1)) (λ i. precedes i (i + 1) (n + i)) 0 (n - 1) i i l (zero-add i))

-- ## What a step does

-- where precedence holds, its right clock does not tick at equal counts
held : (a b p q : ℕ) (s : Step) → eval (relation_formula Precedes a b p q) s ≡ true → p ≡ q → ticks_in b s ≡ false
held a b p q s h e =
    not-true (ticks_in b s)
    (sym (cond-true (nat_eq p q) (not (ticks_in b s)) true (eq-eqb p q e)) ∙ sym (eval_cond (nat_eq p q) (FNot (FVar b)) FTrue s) ∙ h)

-- the counts of a clock, of the next one and of the hidden one
pub record Alternate (p q h : ℕ) : Type 0 where
  pub next : q ≤ p
  pub hidden_next : h ≤ q
  pub hidden : h ≡ p - 1

-- a step in which they tick or not
kept : (p q h : ℕ) (a b g : Bool) → Alternate p q h → g ≡ (if nat_le 1 p then a else false) → (p ≡ q → b ≡ false) → (q ≡ h → g ≡ false) →
    Alternate (counted a p) (counted b q) (counted g h)
kept p q h a b g before hidden first second = record {
  next = grind (arith, nat_tests);
  hidden_next = grind (arith, nat_tests);
  hidden = grind (arith, nat_tests);
}

module _ (n : ℕ) (T : List Step) (run : IsRun (chain n) T) (i : ℕ) (l : i < n - 1) where
  item : (m j : ℕ) → m < length T → j < n - 1 + 2 * (n - 1) → eval (item_formula (chain n) T m j) (step_at T m) ≡ true
  item m j u k = run m j u (omega (arith, item_count-chain n))

  -- the counts after m steps
  abbrev AlternateAt : ℕ → Type 0
  AlternateAt m = Alternate (clock_count T i m) (clock_count T (i + 1) m) (clock_count T (n + i) m)

  alternates-next : (m : ℕ) → m < length T → AlternateAt m → AlternateAt (suc m)
  alternates-next m u before =
      let s = step_at T m in
      let p = clock_count T i m in
      let q = clock_count T (i + 1) m in
      let h = clock_count T (n + i) m in
      let hidden : ticks_in (n + i) s ≡ (if nat_le 1 p then ticks_in i s else false) =
      same-values (ticks_in (n + i) s) (eval (if nat_le 1 p then FVar i else FFalse) s)
      (sym (ap (λ f. eval f s) (hidden-formula n T m i l (omega arith))) ∙ item m i u (omega arith))
      ∙ eval_cond (nat_le 1 p) (FVar i) FFalse s in
      let first = held i (i + 1) p q s (sym (ap (λ f. eval f s) (first-formula n T m i l)) ∙ item m (first_item n i) u (omega arith)) in
      let second = held (i + 1) (n + i) q h s (sym (ap (λ f. eval f s) (second-formula n T m i l)) ∙ item m (second_item n i) u (omega arith)) in
      let after = kept p q h (ticks_in i s) (ticks_in (i + 1) s) (ticks_in (n + i) s) before hidden first second in
      record {
        next = omega (arith, after.next, count-next T i m u, count-next T (i + 1) m u);
        hidden_next = omega (arith, after.hidden_next, count-next T (i + 1) m u, count-next T (n + i) m u);
        hidden = count-next T (n + i) m u ∙ after.hidden ∙ ap (λ k. k - 1) (sym (count-next T i m u));
      }

  pub alternates : (m : ℕ) → m ≤ length T → AlternateAt m
  alternates zero u = record { next = omega arith; hidden_next = omega arith; hidden = refl }
  alternates (suc m) u = alternates-next m (omega arith) (alternates m (omega arith))
