use Rattle.std.proofs.Common.{◌≡◌, length, map}
use Rattle.ccsl_grammar.specs.Terminals.{terminals}
use Rattle.ccsl_grammar.specs.Reader.{many}
use Rattle.ccsl_grammar.specs.Loop.{prefixed}
use Rattle.ccsl_parse.proofs.repeat.many_at.Given as goal

abbrev pub invariant-turns : goal.invariant-turns
invariant-turns g l = prefixed (map g.T.Repeated.plain l.members.items)
    (many g.T.Repeated.starts (g.T.Repeated.reader l.room.two l.room.levels) (terminals l.rest)) ≡ prefixed (map g.T.Repeated.plain l.fn.first.items)
    (many g.T.Repeated.starts (g.T.Repeated.reader l.room.two l.room.levels) (terminals l.tokens))

abbrev pub decreases-turns : goal.decreases-turns
decreases-turns g l = length l.rest
