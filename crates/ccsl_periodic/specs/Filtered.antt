-- THE WORD u on v, which filters what u lets through by v (affine and n-synchronous clocks: Cohen and others, POPL 2006), of infinite words.
use Rattle.std.specs.Prelude.{◌≡◌, ℕ, zero, suc, ◌+◌, ◌*◌, ◌/◌, ◌≤◌, length, Bool, false, ◌&&◌}
use Rattle.std.specs.Int.{IsGcd}
use Rattle.ccsl_words.specs.Word.{BinaryWord, letter, is_finite}
use Rattle.ccsl_periodic.specs.Ones.{ones, period_ones}

-- u has a 1 there, and so has v at the place that counts the ones of u before it
abbrev pub on_letter : BinaryWord → BinaryWord → ℕ → Bool
on_letter u v k = letter u k && letter v (ones u k)

pub record IsOn (u v w : BinaryWord) : Type 0 where
  pub infinite : is_finite w ≡ false
  pub letters : (k : ℕ) → letter w k ≡ on_letter u v k

-- place p is the first behind the prefix of u at which u has had a 1 for each letter of v's prefix
pub record IsBehindBoth (u v : BinaryWord) (p : ℕ) : Type 0 where
  pub behind_left : length u.prefix ≤ p
  pub behind_right : length v.prefix ≤ ones u p
  pub least : (k : ℕ) → length u.prefix ≤ k → length v.prefix ≤ ones u k → p ≤ k

-- q letters of u are as many turns of its period as have a whole number of turns of v's period in their ones
abbrev pub IsCommonTurn : BinaryWord → BinaryWord → ℕ → Type 0
IsCommonTurn u v q = (g : ℕ) × IsGcd (length v.period) (period_ones u) g × (q ≡ length u.period * (length v.period / g))

-- by the number of ones in the period of u
abbrev pub IsShapeBy : ℕ → BinaryWord → BinaryWord → ℕ → ℕ → Type 0
IsShapeBy zero u v p q = (p ≡ length u.prefix) × (q ≡ length u.period)
IsShapeBy (suc n) u v p q = IsBehindBoth u v p × IsCommonTurn u v q

-- the plain prefix has p letters and the plain period q: those of u where its period has no 1
abbrev pub IsPlainShape : BinaryWord → BinaryWord → ℕ → ℕ → Type 0
IsPlainShape u v p q = IsShapeBy (period_ones u) u v p q

-- how many letters prefix and period have together
abbrev pub IsPlainLength : BinaryWord → BinaryWord → ℕ → Type 0
IsPlainLength u v n = (p q : ℕ) × IsPlainShape u v p q × (n ≡ p + q)
