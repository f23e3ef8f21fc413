-- When letters repeat.
use Rattle.std.specs.Prelude.{◌≡◌, ℕ, ◌+◌, ◌≤◌}
use Rattle.ccsl_words.specs.Word.{BinaryWord, letter}

-- from place p on, the letters come again after q
abbrev pub RepeatsFrom : BinaryWord → ℕ → ℕ → Type 0
RepeatsFrom w p q = (k : ℕ) → p ≤ k → letter w (k + q) ≡ letter w k
