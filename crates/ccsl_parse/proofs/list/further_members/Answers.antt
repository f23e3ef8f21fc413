use Rattle.std.proofs.lemmas.Result.{err_from_is_err_and}
use Rattle.ccsl_grammar.specs.Terminals.{terminals}
use Rattle.ccsl_grammar.specs.Kinds.{is_symbol}
use Rattle.ccsl_grammar.specs.Reader.{many}
use Rattle.ccsl_grammar.specs.Loop.{prefixed}
use Rattle.ccsl_grammar.specs.Parser.{further_at}
use Rattle.ccsl_grammar.proofs.Loop.{Falls, goes_on, is_done}
use Rattle.ccsl_parse.proofs.Turns.{fails, shorter}
use Rattle.ccsl_parse.proofs.list.further_members.Goals as goal

pub returns-in_err-item : goal.returns-in_err-item
returns-in_err-item g c =
    let p = err_from_is_err_and c.from_residual.result c.from_residual.ensures.1 in
    rw (p.1, p.2) (fails (is_symbol 44) (further_at g.T.Listed.reader) (record { at = g.met.T.Listed.falls }) c.turns.members.items c.in_err-item.field-0.0
    (terminals c.turns.rest.now) (prefixed c.args.first.items (many (is_symbol 44) (further_at g.T.Listed.reader) (terminals c.args.tokens.now)))
    c.in_err-item.ensures.0 c.in_err-item.ensures.1 c.turns.invariant)

pub turns-smaller : goal.turns-smaller
turns-smaller g c =
    let falls : Falls (further_at g.T.Listed.reader) = record { at = g.met.T.Listed.falls } in
    let f = rw c.in-Some.is at c.in_ok-item.ensures in
    shorter (is_symbol 44) (further_at g.T.Listed.reader) falls c.turns.rest.now c.in-Some.after.now c.in-Some.item f.1

pub turns-preserved : goal.turns-preserved
turns-preserved g c =
    let f = rw c.in-Some.is at c.in_ok-item.ensures in
    rw c.in_ok-push.ensures.items
    (goes_on (is_symbol 44) (further_at g.T.Listed.reader) (record { at = g.met.T.Listed.falls }) c.turns.members.items c.in-Some.item
    (terminals c.turns.rest.now) (terminals c.in-Some.after.now)
    (prefixed c.args.first.items (many (is_symbol 44) (further_at g.T.Listed.reader) (terminals c.args.tokens.now))) f.0 f.1 c.turns.invariant)

pub returns : goal.returns
returns g c = rw c.new.ensures
    (is_done (is_symbol 44) (further_at g.T.Listed.reader) (record { at = g.met.T.Listed.falls }) c.turns.members.items (terminals c.turns.rest.now)
    (prefixed c.args.first.items (many (is_symbol 44) (further_at g.T.Listed.reader) (terminals c.args.tokens.now)))
    (rw c.in_default.is at c.in_ok-item.ensures) c.turns.invariant)
