use Rattle.std.proofs.Common.{map}
use Rattle.std.proofs.lemmas.Result.{err_from_is_err_and}
use Rattle.std.proofs.lemmas.List.{map_push}
use Rattle.ccsl_grammar.specs.Terminals.{terminals}
use Rattle.ccsl_grammar.specs.Reader.{many}
use Rattle.ccsl_grammar.specs.Loop.{prefixed}
use Rattle.ccsl_grammar.proofs.Loop.{Falls, goes_on, is_done}
use Rattle.ccsl_parse.proofs.Turns.{fails, shorter}
use Rattle.ccsl_parse.proofs.repeat.many_at.Goals as goal

pub returns-in_err-item : goal.returns-in_err-item
returns-in_err-item g c =
    let p = err_from_is_err_and c.from_residual.result c.from_residual.ensures.1 in
    let falls : Falls (g.T.Repeated.reader c.args.room.two c.args.room.levels) = record { at = g.met.T.Repeated.falls c.args.room.two c.args.room.levels } in
    rw (p.1, p.2) (fails g.T.Repeated.starts (g.T.Repeated.reader c.args.room.two c.args.room.levels) falls (map g.T.Repeated.plain c.turns.members.items)
    c.in_err-item.field-0.0 (terminals c.turns.rest.now)
    (prefixed (map g.T.Repeated.plain c.args.first.items)
    (many g.T.Repeated.starts (g.T.Repeated.reader c.args.room.two c.args.room.levels) (terminals c.args.tokens.now))) c.in_err-item.ensures.0
    c.in_err-item.ensures.1 c.turns.invariant)

pub turns-smaller : goal.turns-smaller
turns-smaller g c =
    let falls : Falls (g.T.Repeated.reader c.args.room.two c.args.room.levels) = record { at = g.met.T.Repeated.falls c.args.room.two c.args.room.levels } in
    let f = rw c.in-Some.is at c.in_ok-item.ensures in
    shorter g.T.Repeated.starts (g.T.Repeated.reader c.args.room.two c.args.room.levels) falls c.turns.rest.now c.in-Some.after.now
    (g.T.Repeated.plain c.in-Some.item) f.1

pub turns-preserved : goal.turns-preserved
turns-preserved g c =
    let falls : Falls (g.T.Repeated.reader c.args.room.two c.args.room.levels) = record { at = g.met.T.Repeated.falls c.args.room.two c.args.room.levels } in
    let f = rw c.in-Some.is at c.in_ok-item.ensures in
    rw (c.in_ok-push.ensures.items, map_push g.T.Repeated.plain c.turns.members.items c.in-Some.item)
    (goes_on g.T.Repeated.starts (g.T.Repeated.reader c.args.room.two c.args.room.levels) falls (map g.T.Repeated.plain c.turns.members.items)
    (g.T.Repeated.plain c.in-Some.item) (terminals c.turns.rest.now) (terminals c.in-Some.after.now)
    (prefixed (map g.T.Repeated.plain c.args.first.items)
    (many g.T.Repeated.starts (g.T.Repeated.reader c.args.room.two c.args.room.levels) (terminals c.args.tokens.now))) f.0 f.1
    c.turns.invariant)

pub returns : goal.returns
returns g c =
    let falls : Falls (g.T.Repeated.reader c.args.room.two c.args.room.levels) = record { at = g.met.T.Repeated.falls c.args.room.two c.args.room.levels } in
    rw c.new.ensures (is_done g.T.Repeated.starts (g.T.Repeated.reader c.args.room.two c.args.room.levels) falls (map g.T.Repeated.plain c.turns.members.items)
    (terminals c.turns.rest.now)
    (prefixed (map g.T.Repeated.plain c.args.first.items)
    (many g.T.Repeated.starts (g.T.Repeated.reader c.args.room.two c.args.room.levels) (terminals c.args.tokens.now)))
    (rw c.in_default.is at c.in_ok-item.ensures) c.turns.invariant)
