-- The longest runs of bytes that are not white.
use Rattle.std.specs.Prelude.{◌≡◌, ℕ, ◌<◌, List, [], ◌∷◌, length, take, drop, Bool, true}
use Rattle.ccsl_vcd_lex.specs.Tokens.{Token, is_white, run}

-- whether a token may begin behind these bytes: they end with white space, or are none and what stands before them says so
unfoldable pub fresh_after : Bool → List ℕ → Bool
fresh_after fresh [] = fresh
fresh_after fresh (b ∷ bs) = fresh_after (is_white b) bs

-- the place is the start or stands behind white space, and the text is the longest run from there
pub record IsRun (bytes : List ℕ) (t : Token) : Type 0 where
  pub fresh : fresh_after true (take t.at bytes) ≡ true
  pub longest : t.text ≡ run (drop t.at bytes)
  pub some : 0 < length t.text
