use Rattle.std.proofs.Common.{◌-◌, length, map}
use Rattle.ccsl_lex.specs.Tokens.{plain_token}
use Rattle.ccsl_lex.proofs.Cutting.{Lexed}
use Rattle.ccsl_lex.proofs.lexer.tokens.Given as goal

abbrev pub invariant-pieces : goal.invariant-pieces
invariant-pieces l = Lexed l.text l.at (map plain_token l.found.items)

abbrev pub decreases-pieces : goal.decreases-pieces
decreases-pieces l = length l.text - l.at
