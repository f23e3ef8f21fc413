-- The plain spelling of one word on another.
use Rattle.std.proofs.Common.{◌≡◌, ℕ, zero, suc, ◌+◌, ◌*◌, ◌/◌, ◌<◌, ◌≤◌, length, Bool, true, false, ◌&&◌, refl, sym, ap, ap₂, ◌∙◌, subst, arith, ⊎_elim}
use Rattle.std.proofs.lemmas.Bool.{cases_Bool, cases_lt}
use Rattle.std.proofs.lemmas.List.{length-take, length-drop}
use Rattle.std.proofs.Math.Nat.{mul-le-mul_left, mul_comm}
use Rattle.ccsl_words.specs.Word.{BinaryWord, letter, is_finite, word_len}
use Rattle.ccsl_words.proofs.Letters.{infinite_len}
use Rattle.ccsl_periodic.specs.Ones.{ones, period_ones}
use Rattle.ccsl_periodic.specs.Filtered.{on_letter, IsOn, IsBehindBoth, IsCommonTurn, IsShapeBy, IsPlainShape}
use Rattle.ccsl_periodic.proofs.Counts.{as_number, ones-more, ones-monotone, ones-turn, repeats-period}
use Rattle.ccsl_periodic.proofs.Divisors.{same_turn}
use Rattle.ccsl_periodic.proofs.Spelled.{front, front_len, spelled, infinite-spelled, letter-spelled}
use Rattle.ccsl_periodic.proofs.Turning.{letter-turns, ones-turns}

-- ONE LETTER, as a program reads it
pub on_yes : (u v : BinaryWord) (k : ℕ) (a : Bool) → letter u k ≡ true → a ≡ letter v (ones u k) → a ≡ on_letter u v k
on_yes u v k a ticks e = e ∙ ap (λ x. x && letter v (ones u k)) (sym ticks)

pub on_no : (u v : BinaryWord) (k : ℕ) (a : Bool) → letter u k ≡ false → a ≡ false → a ≡ on_letter u v k
on_no u v k a rests e = e ∙ ap (λ x. x && letter v (ones u k)) (sym rests)

-- THE PLACE BEHIND BOTH PREFIXES
module _ (u v : BinaryWord) where
  abbrev IsNotBehind : ℕ → Type 0
  IsNotBehind k = (j : ℕ) → length u.prefix ≤ j → j < k → ones u j < length v.prefix

  pub first_behind : (k : ℕ) → length u.prefix ≤ k → length v.prefix ≤ ones u k → IsNotBehind k → IsBehindBoth u v k
  first_behind k left right before = record {
    behind_left = left;
    behind_right = right;
    least = λ j l m.
        ⊎_elim (λ (b : j < k). let few = before j l b in absurd (omega (arith, few, m))) (λ (b : k ≤ j). b) (cases_lt j k);
  }

  pub one_not_behind : (k : ℕ) → IsNotBehind k → ones u k < length v.prefix → IsNotBehind (k + 1)
  one_not_behind k before here j l w =
      ⊎_elim
      (λ (b : j < k). before j l b)
      (λ (b : k ≤ j). let same : k ≡ j = omega arith in subst (λ n. ones u n < length v.prefix) same here)
      (cases_lt j k)

  pub behind_at_end : is_finite u ≡ false → 0 < period_ones u → (k : ℕ) → length u.prefix + length v.prefix * length u.period ≤ k → IsNotBehind k →
      IsBehindBoth u v (length u.prefix + length v.prefix * length u.period)
  behind_at_end infinite some k past before =
      let n = length v.prefix in
      let e = ones-turns u (length u.prefix) (length u.period) (period_ones u) (repeats-period u infinite) n (length u.prefix) (omega arith) in
      let grows = mul-le-mul_left n some in
      first_behind (length u.prefix + n * length u.period) (omega arith) (omega (arith, e, grows)) (λ j l w. before j l (omega (arith, w, past)))

-- THE SHAPE
pub shape_still : (n : ℕ) (u v : BinaryWord) (p q : ℕ) → n ≡ 0 → p ≡ length u.prefix → q ≡ length u.period → IsShapeBy n u v p q
shape_still zero u v p q z e f = (e, f)
shape_still (suc n) u v p q z e f = let z' : ⊥ = omega (arith, z) in absurd z'

pub shape_turns : (n : ℕ) (u v : BinaryWord) (p q : ℕ) → 0 < n → IsBehindBoth u v p → IsCommonTurn u v q → IsShapeBy n u v p q
shape_turns zero u v p q some b t = let z' : ⊥ = omega (arith, some) in absurd z'
shape_turns (suc n) u v p q some b t = (b, t)

module _ (u v : BinaryWord) (left : is_finite u ≡ false) (right : is_finite v ≡ false) where
  -- behind the prefix u has no one where its period has none
  no_ones : period_ones u ≡ 0 → (k : ℕ) → length u.prefix ≤ k → letter u k ≡ false
  no_ones none k l =
      ⊎_elim
      (λ (ticks : letter u k ≡ true).
      let some = infinite_len u left in
      let turn = ones-turn u left k l in
      let more = ones-more u k in
      let one = ap as_number ticks in
      let within = ones-monotone u (k + 1) (k + length u.period) (omega arith) in
      absurd (omega (arith, none, turn, more, one, within)))
      (λ (rests : letter u k ≡ false). rests)
      (cases_Bool (letter u k))

  still : (n : ℕ) → period_ones u ≡ 0 → (k : ℕ) → length u.prefix ≤ k → on_letter u v (k + n) ≡ on_letter u v k
  still n none k l =
      sym (on_no u v (k + n) false (no_ones none (k + n) (omega arith)) refl)
      ∙ on_no u v k false (no_ones none k l) refl

  -- so many turns of u have as many ones as some turns of v have letters
  turning : (p q : ℕ) → IsBehindBoth u v p → IsCommonTurn u v q → (k : ℕ) → p ≤ k → on_letter u v (k + q) ≡ on_letter u v k
  turning p q behind (g, is_gcd, is) k l =
      let h = period_ones u in
      let d = length v.period in
      let n = d / g in
      let q_is : q ≡ n * length u.period = is ∙ mul_comm (length u.period) n in
      let from : length u.prefix ≤ k = omega (arith, behind.behind_left, l) in
      let letter_u : letter u (k + q) ≡ letter u k =
      ap (λ m. letter u (k + m)) q_is ∙ letter-turns u (length u.prefix) (length u.period) h (repeats-period u left) n k from in
      let ones_u : ones u (k + q) ≡ ones u k + n * h =
      ap (λ m. ones u (k + m)) q_is ∙ ones-turns u (length u.prefix) (length u.period) h (repeats-period u left) n k from in
      let same : n * h ≡ h / g * d = same_turn h d g (is_gcd.1, is_gcd.0, λ e a b. is_gcd.2 e b a) in
      let far = ones-monotone u p k l in
      let letter_v : letter v (ones u (k + q)) ≡ letter v (ones u k) =
      ap (letter v) (ones_u ∙ ap (λ m. ones u k + m) same)
      ∙ letter-turns v (length v.prefix) d (period_ones v) (repeats-period v right) (h / g) (ones u k) (omega (arith, far, behind.behind_right)) in
      ap₂ (λ (a b : Bool). a && b) letter_u letter_v

  by_shape : (n p q : ℕ) → n ≡ period_ones u → IsShapeBy n u v p q → (k : ℕ) → p ≤ k → on_letter u v (k + q) ≡ on_letter u v k
  by_shape zero p q e (is_p, is_q) k l = still q (sym e) k (omega (arith, is_p, l))
  by_shape (suc n) p q e (behind, turn) k l = turning p q behind turn k l

  pub on_repeats : (p q : ℕ) → IsPlainShape u v p q → (k : ℕ) → p ≤ k → on_letter u v (k + q) ≡ on_letter u v k
  on_repeats p q shape = by_shape (period_ones u) p q refl shape

  pub spelled_on : (p q : ℕ) → 0 < q → IsPlainShape u v p q → IsOn u v (spelled (on_letter u v) p q)
  spelled_on p q some shape = record {
    infinite = infinite-spelled (on_letter u v) p q some (on_repeats p q shape);
    letters = letter-spelled (on_letter u v) p q some (on_repeats p q shape);
  }

-- the length of what is spelled so
pub len-spelled : (f : ℕ → Bool) (p q : ℕ) → word_len (spelled f p q) ≡ p + q
len-spelled f p q =
    let n = front_len f (p + q) in
    let a = length-take p (front f (p + q)) in
    let b = length-drop p (front f (p + q)) in
    omega arith
