-- The offset in a word after some letters.
use Rattle.std.specs.Prelude.{ℕ, zero, suc}
use Rattle.ccsl_words.specs.Word.{BinaryWord, rest}

-- the offset after n letters
abbrev pub offset_at : BinaryWord → ℕ → ℕ
offset_at w zero = 0
offset_at w (suc n) = rest w (offset_at w n)
