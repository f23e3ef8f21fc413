-- What is known of two words where they repeat together.
use Rattle.std.specs.Prelude.{◌≡◌, ℕ, ◌+◌, ◌-◌, ◌*◌, ◌<◌, ◌≤◌}
use Rattle.std.specs.Int.{div_ceil}
use Rattle.ccsl_base.specs.declared.limits.TheConstants.{MAX_LETTERS}
use Rattle.ccsl_words.specs.Word.{BinaryWord, letter}
use Rattle.ccsl_periodic.specs.declared.turn.Turn.{Turn}
use Rattle.ccsl_periodic.specs.Ones.{ones}

-- from the place start on, the letters of w come again after so many, with so many ones among them
pub record Repeats (w : BinaryWord) (start turn gain : ℕ) : Type 0 where
  pub letters : (k : ℕ) → start ≤ k → letter w (k + turn) ≡ letter w k
  pub ones : (k : ℕ) → start ≤ k → ones w (k + turn) ≡ ones w k + gain

pub record IsTurn (u v : BinaryWord) (t : Turn) : Type 0 where
  pub left : Repeats u t.start t.letters t.left
  pub right : Repeats v t.start t.letters t.right
  pub some : 0 < t.letters
  pub start_small : t.start ≤ MAX_LETTERS
  pub letters_small : t.letters ≤ MAX_LETTERS * MAX_LETTERS

-- the place at which the tick of v at place j of the first turn comes too early: some turns later, as soon as the lead of u there is lost
abbrev pub overtaken_at : BinaryWord → BinaryWord → Turn → ℕ → ℕ
overtaken_at u v t j = j + div_ceil (ones u j - ones v j) (t.right - t.left) * t.letters
