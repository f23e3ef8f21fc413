-- What a token keeps of its text.
use Rattle.std.specs.Prelude.{Bool, true, nat_le}
use Rattle.std.specs.List.{list_all}
use Rattle.ccsl_base.specs.declared.limits.TheConstants.{MAX_NUMBER}
use Rattle.ccsl_base.specs.Name.{is_name}
use Rattle.ccsl_base.specs.Quoted.{is_quotable}
use Rattle.ccsl_lex.specs.declared.token.TokenKind.{TokenKind}
use Rattle.ccsl_lex.specs.declared.token.TokenKind.TheVariants as t

-- a name is a name of the grammar, a number is at most the greatest, a quoted text has only bytes that may stand between quotes
abbrev pub kind_kept : TokenKind → Bool
kind_kept (t.Name text) = is_name text
kind_kept (t.Num n) = nat_le n MAX_NUMBER
kind_kept (t.Quoted text) = list_all is_quotable text
kind_kept _ = true
