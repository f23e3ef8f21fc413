-- The ones of a word, one letter after another.
use Rattle.std.proofs.Common.{◌≡◌, ℕ, zero, suc, ◌+◌, ◌-◌, ◌≤◌, length, Bool, true, false, cond, ap, ◌∙◌, subst, arith}
use mir.Val.{bool_byte}
use Rattle.ccsl_words.specs.Word.{BinaryWord, letter, word_len, is_finite}
use Rattle.ccsl_words.proofs.Letters.{letter_turn}
use Rattle.ccsl_periodic.specs.Ones.{ones, period_ones}
use Rattle.ccsl_periodic.specs.Turns.{Repeats}

-- a letter as a number
abbrev pub as_number : Bool → ℕ
as_number false = 0
as_number true = 1

bump : (b : Bool) (n : ℕ) → cond b (suc n) n ≡ n + as_number b
bump true n = omega arith
bump false n = omega arith

pub ones-suc : (w : BinaryWord) (k : ℕ) → ones w (suc k) ≡ ones w k + as_number (letter w k)
ones-suc w k = bump (letter w k) (ones w k)

pub ones-more : (w : BinaryWord) (k : ℕ) → ones w (k + 1) ≡ ones w k + as_number (letter w k)
ones-more w k = ap (ones w) (let s : k + 1 ≡ suc k = omega arith in s) ∙ ones-suc w k

as_number-le : (b : Bool) → as_number b ≤ 1
as_number-le true = omega arith
as_number-le false = omega arith

pub ones-mono : (w : BinaryWord) (j n : ℕ) → ones w j ≤ ones w (j + n)
ones-mono w j zero = omega (arith, ap (ones w) (let s : j + 0 ≡ j = omega arith in s))
ones-mono w j (suc n) =
    omega (arith, ap (ones w) (let s : j + suc n ≡ suc (j + n) = omega arith in s), ones-suc w (j + n), ones-mono w j n)

pub ones-monotone : (w : BinaryWord) (j k : ℕ) → j ≤ k → ones w j ≤ ones w k
ones-monotone w j k l = subst (λ n. ones w j ≤ ones w n) (let s : j + (k - j) ≡ k = omega arith in s) (ones-mono w j (k - j))

pub ones-within : (w : BinaryWord) (j n : ℕ) → ones w (j + n) ≤ ones w j + n
ones-within w j zero = omega (arith, ap (ones w) (let s : j + 0 ≡ j = omega arith in s))
ones-within w j (suc n) =
    omega (arith, ap (ones w) (let s : j + suc n ≡ suc (j + n) = omega arith in s), ones-suc w (j + n), ones-within w j n, as_number-le (letter w (j + n)))

pub period_ones-le : (w : BinaryWord) → period_ones w ≤ length w.period
period_ones-le w = let most = ones-within w (length w.prefix) (length w.period) in omega (arith, most)

-- ONE TURN OF THE PERIOD
module _ (w : BinaryWord) (infinite : is_finite w ≡ false) where
  one_turn : (i : ℕ) → ones w (length w.prefix + i + length w.period) ≡ ones w (length w.prefix + i) + period_ones w
  one_turn zero =
      ap (ones w) (let s : length w.prefix + 0 + length w.period ≡ word_len w = omega arith in s)
      ∙ (let mono = ones-mono w (length w.prefix) (length w.period) in
      let same = ap (ones w) (let s : length w.prefix + 0 ≡ length w.prefix = omega arith in s) in omega arith)
  one_turn (suc i) =
      let here = length w.prefix + i in
      let there = here + length w.period in
      let e : ones w (length w.prefix + suc i + length w.period) ≡ ones w (suc there) = let s : length w.prefix + suc i + length w.period ≡ suc there =
      omega arith in ap (ones w) s in
      let f : ones w (length w.prefix + suc i) ≡ ones w (suc here) = let s : length w.prefix + suc i ≡ suc here = omega arith in ap (ones w) s in
      let g : as_number (letter w there) ≡ as_number (letter w here) = ap as_number (letter_turn w here infinite (omega arith)) in
      omega (arith, e, f, g, ones-suc w there, ones-suc w here, one_turn i)

  pub ones-turn : (k : ℕ) → length w.prefix ≤ k → ones w (k + length w.period) ≡ ones w k + period_ones w
  ones-turn k l = subst (λ n. ones w (n + length w.period) ≡ ones w n + period_ones w) (let s : length w.prefix + (k - length w.prefix) ≡ k = omega arith in s)
      (one_turn (k - length w.prefix))

  pub repeats-period : Repeats w (length w.prefix) (length w.period) (period_ones w)
  repeats-period = record { letters = λ k l. letter_turn w k infinite l; ones = ones-turn }

-- ONE MORE LETTER, as a program counts it
pub byte-le : (b : Bool) → bool_byte b ≤ 1
byte-le true = omega arith
byte-le false = omega arith

pub ones-next : (w : BinaryWord) (k count byte : ℕ) (b : Bool) → count ≡ ones w k → b ≡ letter w k → byte ≡ bool_byte b → count + byte ≡ ones w (k + 1)
ones-next w k count byte true e l n = omega (arith, e, n, ones-more w k, ap as_number l)
ones-next w k count byte false e l n = omega (arith, e, n, ones-more w k, ap as_number l)
