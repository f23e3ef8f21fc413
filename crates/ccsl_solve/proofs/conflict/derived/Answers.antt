use Rattle.std.proofs.Common.{◌≡◌, length, reverse, ap, ◌∙◌, rules, vec_len}
use Rattle.ccsl_formula.specs.Known.{known}
use Rattle.ccsl_solve.specs.Conflict.{IsClause, AddsLines}
use Rattle.ccsl_solve.proofs.Conflicts.{added-derived}
use Rattle.ccsl_solve.proofs.conflict.derived.Goals as goal

added : (c : goal.After-len) → AddsLines c.args.problem.now c.args.lines.now.items c.push.new.self.items
    × IsClause c.args.problem.now.scope c.push.new.self.items c.len.result (known c.args.conflict.now.part.value)
added c =
    let hints : c.new-2.result ≡ reverse c.args.conflict.now.hints.items = c.new-2.ensures ∙ c.in_ok-hints.ensures ∙ ap reverse c.deref-2.ensures.value in
    let size : vec_len c.push.new.self ≡ length c.push.new.self.items = search rules in
    added-derived c.args.problem.now {p = c.requires.conflict.0} c.requires.valid c.in_ok-push.ensures.items (c.len.ensures ∙ size)
    (rw hints c.requires.conflict.1)
    (rw (c.new.ensures, ← c.deref.ensures) (c.in_ok-lits.ensures c.args.problem.now.scope.named (rw c.deref.ensures c.requires.inside)))

pub returns-clause-lines : goal.returns-clause-lines
returns-clause-lines c = (added c).0

pub returns-clause-clause : goal.returns-clause-clause
returns-clause-clause c = (added c).1
