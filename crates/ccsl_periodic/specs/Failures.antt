-- WHERE A RELATION FAILS BETWEEN TWO FILTERS OF ONE CLOCK: at the first tick of that clock at which the relation of CCSL (MARTE, Annex C;
-- INRIA RR-6925) is broken. Ticks are counted from 0; the filters have the infinite words u and v.
use Rattle.std.specs.Prelude.{◌≡◌, ℕ, ◌<◌, Bool, true, false, not, ◌&&◌, nat_eq}
use Rattle.ccsl_words.specs.Word.{BinaryWord, letter}
use Rattle.ccsl_periodic.specs.declared.between.Between.{Between}
use Rattle.ccsl_periodic.specs.declared.between.Between.TheVariants.{Precedes, Subclock, Excludes}
use Rattle.ccsl_periodic.specs.Ones.{ones}

-- whether the relation fails where the left filter ticks or not, the right one ticks or not, and both have ticked as often before or not
abbrev pub fails_where : Between → Bool → Bool → Bool → Bool
fails_where Precedes left right as_often = right && as_often
fails_where Subclock left right as_often = left && not right
fails_where Excludes left right as_often = left && right

-- whether it fails at the tick number k
abbrev pub fails_at : Between → BinaryWord → BinaryWord → ℕ → Bool
fails_at relation u v k = fails_where relation (letter u k) (letter v k) (nat_eq (ones u k) (ones v k))

pub record IsFirstFailure (relation : Between) (u v : BinaryWord) (k : ℕ) : Type 0 where
  pub fails : fails_at relation u v k ≡ true
  pub least : (j : ℕ) → j < k → fails_at relation u v j ≡ false

abbrev pub NeverFails : Between → BinaryWord → BinaryWord → Type 0
NeverFails relation u v = (k : ℕ) → fails_at relation u v k ≡ false
