-- Where words repeat: after several turns, and where two words fail one another.
use Rattle.std.proofs.Common.{◌≡◌, ℕ, zero, suc, ◌+◌, ◌*◌, ◌/◌, ◌≤◌, length, false, sym, ap, ◌∙◌, subst, arith}
use Rattle.std.specs.Int.{IsGcd}
use Rattle.std.proofs.lemmas.Nat.{mul-le}
use Rattle.std.proofs.Math.Nat.{div-le_self, mul-pos}
use Rattle.ccsl_base.specs.declared.limits.TheConstants.{MAX_LETTERS}
use Rattle.ccsl_words.specs.Word.{BinaryWord, letter, is_finite}
use Rattle.ccsl_words.proofs.Letters.{infinite_len}
use Rattle.ccsl_periodic.specs.Ones.{ones, period_ones}
use Rattle.ccsl_periodic.specs.Turns.{Repeats, IsTurn}
use Rattle.ccsl_periodic.proofs.Counts.{repeats-period}
use Rattle.ccsl_periodic.proofs.Divisors.{same_turn, quotient_pos}

-- AFTER SEVERAL TURNS
module _ (w : BinaryWord) (start turn gain : ℕ) (repeats : Repeats w start turn gain) where
  pub letter-turns : (n k : ℕ) → start ≤ k → letter w (k + n * turn) ≡ letter w k
  letter-turns zero k l = ap (letter w) (let s : k + zero * turn ≡ k = omega arith in s)
  letter-turns (suc n) k l =
      ap (letter w) (let s : k + suc n * turn ≡ k + n * turn + turn = omega arith in s)
      ∙ repeats.letters (k + n * turn) (omega arith)
      ∙ letter-turns n k l

  pub ones-turns : (n k : ℕ) → start ≤ k → ones w (k + n * turn) ≡ ones w k + n * gain
  ones-turns zero k l = ap (ones w) (let s : k + zero * turn ≡ k = omega arith in s) ∙ (let s : ones w k ≡ ones w k + zero * gain = omega arith in s)
  ones-turns (suc n) k l =
      ap (ones w) (let s : k + suc n * turn ≡ k + n * turn + turn = omega arith in s)
      ∙ repeats.ones (k + n * turn) (omega arith)
      ∙ ap (λ m. m + gain) (ones-turns n k l)
      ∙ (let s : ones w k + n * gain + gain ≡ ones w k + suc n * gain = omega arith in s)

  pub repeats-turns : (n : ℕ) → Repeats w start (n * turn) (n * gain)
  repeats-turns n = record { letters = letter-turns n; ones = ones-turns n }

  pub repeats-later : (later : ℕ) → start ≤ later → Repeats w later turn gain
  repeats-later later le = record { letters = λ k l. repeats.letters k (omega arith); ones = λ k l. repeats.ones k (omega arith) }

-- BOTH WORDS repeat after the least common multiple of their periods
pub common_turn : (u v : BinaryWord) (g start : ℕ) → is_finite u ≡ false → is_finite v ≡ false → IsGcd (length u.period) (length v.period) g →
    length u.prefix ≤ start → length v.prefix ≤ start → start ≤ MAX_LETTERS → length u.period ≤ MAX_LETTERS → length v.period ≤ MAX_LETTERS →
    IsTurn u v (record {
      start = start;
      letters = length v.period / g * length u.period;
      left = length v.period / g * period_ones u;
      right =
          length u.period / g * period_ones v;
    })
common_turn u v g start inf_u inf_v is_gcd left right small small_u small_v =
    let a = length u.period in
    let b = length v.period in
    let later_u = repeats-later u (length u.prefix) (b / g * a) (b / g * period_ones u)
    (repeats-turns u (length u.prefix) a (period_ones u) (repeats-period u inf_u) (b / g)) start left in
    let later_v = repeats-later v (length v.prefix) (a / g * b) (a / g * period_ones v)
    (repeats-turns v (length v.prefix) b (period_ones v) (repeats-period v inf_v) (a / g)) start right in
    let same = same_turn a b g is_gcd in
    let pos_turns = quotient_pos a b g is_gcd (infinite_len v inf_v) in
    let turns_small : b / g ≤ MAX_LETTERS = omega (arith, div-le_self b g) in
    record {
      left = later_u;
      right = subst (λ n. Repeats v start n (a / g * period_ones v)) (sym same) later_v;
      some = mul-pos pos_turns (infinite_len u inf_u);
      start_small = small;
      letters_small = mul-le (b / g) a MAX_LETTERS MAX_LETTERS turns_small small_u;
    }
