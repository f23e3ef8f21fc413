use Rattle.std.proofs.Common.{◌≡◌, length}
use Rattle.ccsl_grammar.specs.Terminals.{terminals}
use Rattle.ccsl_grammar.specs.Reader.{many}
use Rattle.ccsl_grammar.specs.Loop.{prefixed}
use Rattle.ccsl_grammar.specs.Parser.{is_sign, signed_at}
use Rattle.ccsl_parse.proofs.term.further_signed.Given as goal

abbrev pub invariant-turns : goal.invariant-turns
invariant-turns l = prefixed l.members.items (many is_sign signed_at (terminals l.rest)) ≡ many is_sign signed_at (terminals l.tokens)

abbrev pub decreases-turns : goal.decreases-turns
decreases-turns l = length l.rest
