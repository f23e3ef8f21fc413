-- The first token that is too long.
use Rattle.std.specs.Prelude.{ℕ, List, [], ◌∷◌, Option, Some, None, if◌then◌else◌}
use Rattle.ccsl_vcd_lex.specs.Tokens.{Token, is_long}

-- where the first token with more than MAX_TOKEN_BYTES begins
unfoldable pub first_long : List Token → Option ℕ
first_long [] = None
first_long (t ∷ ts) = if is_long t then Some t.at else first_long ts
