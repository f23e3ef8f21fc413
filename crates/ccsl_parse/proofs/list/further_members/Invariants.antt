use Rattle.std.proofs.Common.{◌≡◌, length}
use Rattle.ccsl_grammar.specs.Terminals.{terminals}
use Rattle.ccsl_grammar.specs.Kinds.{is_symbol}
use Rattle.ccsl_grammar.specs.Reader.{many}
use Rattle.ccsl_grammar.specs.Loop.{prefixed}
use Rattle.ccsl_grammar.specs.Parser.{further_at}
use Rattle.ccsl_parse.proofs.list.further_members.Given as goal

abbrev pub invariant-turns : goal.invariant-turns
invariant-turns g l = prefixed l.members.items (many (is_symbol 44) (further_at g.T.Listed.reader) (terminals l.rest)) ≡ prefixed l.fn.first.items
    (many (is_symbol 44) (further_at g.T.Listed.reader) (terminals l.tokens))

abbrev pub decreases-turns : goal.decreases-turns
decreases-turns g l = length l.rest
