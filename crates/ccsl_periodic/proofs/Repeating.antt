-- After how many letters a word comes again, and its shortest spelling.
use mathlib.Core.Bool.{beq}
use Rattle.std.proofs.Common.{◌≡◌, ℕ, ◌+◌, ◌-◌, ◌*◌, ◌/◌, ◌%◌, ◌<◌, ◌≤◌, length, Bool, true, false, not, refl, sym, ap, ◌∙◌, subst, arith, ⊎_elim}
use Rattle.std.proofs.lemmas.Bool.{cases_lt}
use Rattle.std.proofs.Math.Nat.{mul-le-mul_left}
use Rattle.ccsl_words.specs.Word.{BinaryWord, letter, is_finite, word_len}
use Rattle.ccsl_words.proofs.Letters.{letter_turn, infinite_len}
use Rattle.ccsl_periodic.specs.Canonical.{Spells, IsCanonical}
use Rattle.ccsl_periodic.specs.Repeats.{RepeatsFrom}
use Rattle.ccsl_periodic.specs.Ones.{period_ones}
use Rattle.ccsl_periodic.proofs.Counts.{repeats-period}
use Rattle.ccsl_periodic.proofs.Spelled.{spelled, prefix-spelled, period-spelled, infinite-spelled, letter-spelled}
use Rattle.ccsl_periodic.proofs.Turning.{letter-turns}

module _ (w : BinaryWord) (infinite : is_finite w ≡ false) where
  pub own_turns : (n k : ℕ) → length w.prefix ≤ k → letter w (k + n * length w.period) ≡ letter w k
  own_turns = letter-turns w (length w.prefix) (length w.period) (period_ones w) (repeats-period w infinite)

  pub own_period : RepeatsFrom w (length w.prefix) (length w.period)
  own_period k l = letter_turn w k infinite l

  -- letters that come again in one turn of the period do so for ever
  pub repeats_for_ever : (q : ℕ) → ((k : ℕ) → length w.prefix ≤ k → k < word_len w → letter w (k + q) ≡ letter w k) → RepeatsFrom w (length w.prefix) q
  repeats_for_ever q once k l =
      let p = length w.prefix in
      let len = length w.period in
      let some = infinite_len w infinite in
      let n = (k - p) / len in
      let j = p + (k - p) % len in
      let small : (k - p) % len < len = omega arith in
      let whole : k ≡ j + n * len = omega arith in
      let moved : k + q ≡ j + q + n * len = omega arith in
      ap (letter w) moved
      ∙ own_turns n (j + q) (omega arith)
      ∙ once j (omega arith) (omega arith)
      ∙ sym (own_turns n j (omega arith))
      ∙ ap (letter w) (sym whole)

  -- the period of any spelling is one behind the own prefix
  pub spelled_repeats : (x : BinaryWord) → Spells x w → RepeatsFrom w (length w.prefix) (length x.period)
  spelled_repeats x is k l =
      let some = infinite_len w infinite in
      let n = length x.prefix in
      let far : n * 1 ≤ n * length w.period = mul-le-mul_left n some in
      let late = k + n * length w.period in
      let moved : k + length x.period + n * length w.period ≡ late + length x.period = omega arith in
      sym (own_turns n (k + length x.period) (omega arith))
      ∙ ap (letter w) moved
      ∙ sym (is.letters (late + length x.period))
      ∙ letter_turn x late is.infinite (omega arith)
      ∙ is.letters late
      ∙ own_turns n k l

  pub spelled_from : (x : BinaryWord) (q : ℕ) → Spells x w → length x.period ≡ q → RepeatsFrom w (length x.prefix) q
  spelled_from x q is e k l =
      ap (λ n. letter w (k + n)) (sym e)
      ∙ sym (is.letters (k + length x.period))
      ∙ letter_turn x k is.infinite l
      ∙ is.letters k

  -- THE SHORTEST PERIOD and then the shortest prefix make the canonical spelling
  pub shortest_is_canonical : (p q : ℕ) → 0 < q → RepeatsFrom w p q → ((n : ℕ) → 0 < n → RepeatsFrom w (length w.prefix) n → q ≤ n)
      → ((n : ℕ) → RepeatsFrom w n q → p ≤ n) →
      IsCanonical (spelled (letter w) p q) w
  shortest_is_canonical p q some repeats shortest first = record {
    spells = record { infinite = infinite-spelled (letter w) p q some repeats; letters = letter-spelled (letter w) p q some repeats };
    period = λ x is. let n = period-spelled (letter w) p q some repeats in let m =
        shortest (length x.period) (infinite_len x is.infinite) (spelled_repeats x is) in omega (arith, n, m);
    prefix = λ x is e.
        let n = prefix-spelled (letter w) p q some repeats in
        let m = first (length x.prefix) (spelled_from x q is (e ∙ period-spelled (letter w) p q some repeats)) in
        omega (arith, n, m);
  }

-- ONE NUMBER MORE after which the letters don't come again
pub none_more : (w : BinaryWord) (q : ℕ) → ((n : ℕ) → 0 < n → n < q → RepeatsFrom w (length w.prefix) n → ⊥) → (RepeatsFrom w (length w.prefix) q → ⊥) →
    (n : ℕ) → 0 < n → n < q + 1 → RepeatsFrom w (length w.prefix) n → ⊥
none_more w q none here n some below h =
    ⊎_elim
    (λ (l : n < q). none n some l h)
    (λ (l : q ≤ n). let same : n ≡ q = omega arith in here (subst (RepeatsFrom w (length w.prefix)) same h))
    (cases_lt n q)

-- ONE PLACE BEFORE from which on the letters come again
pub one_before : (w : BinaryWord) (p q : ℕ) → RepeatsFrom w p q → (a b : Bool) → a ≡ letter w (p - 1 + q) → b ≡ letter w (p - 1) → not (beq a b) ≡ false
    → RepeatsFrom w (p - 1) q
one_before w p q repeats a b e f same k l =
    ⊎_elim
    (λ (here : k < p).
    let at : k ≡ p - 1 = omega arith in
    ap (λ n. letter w (n + q)) at ∙ sym e ∙ equal a b same ∙ f ∙ ap (letter w) (sym at))
    (λ (later : p ≤ k). repeats k later)
    (cases_lt k p)
  where
    equal : (a b : Bool) → not (beq a b) ≡ false → a ≡ b
    equal true true h = refl
    equal false false h = refl
    equal true false h = let z : ⊥ = cc in absurd z
    equal false true h = let z : ⊥ = cc in absurd z
