use Rattle.std.proofs.Common.{◌≡◌, ◌<◌, length, get_or, ◌∙◌, rules, vec_len}
use Rattle.std.proofs.lemmas.List.{length-map}
use Rattle.ccsl_formula.specs.Known.{known}
use Rattle.ccsl_formula.specs.Plain.{plain}
use Rattle.ccsl_solve.specs.Conflict.{IsClause, AddsLines}
use Rattle.ccsl_solve.specs.Posed.{asked}
use Rattle.ccsl_solve.proofs.Parts.{inside-under}
use Rattle.ccsl_solve.proofs.Clauses.{added-item, refuted-inside, read-map}
use Rattle.ccsl_solve.proofs.reason.item_clash.Goals as goal

added : (c : goal.In_ok-new) → AddsLines c.args.problem.now c.args.lines.now.items c.push.new.self.items
    × IsClause c.args.problem.now.scope c.push.new.self.items c.len.result (known c.in_ok-part.part)
added c =
    let q = c.args.problem.now in
    let fs = q.formulas.now in
    let item = c.args.item in
    let p = known c.args.part.now in
    let why = known c.in_ok-part.part in
    let inside : item < length fs = refuted-inside p (asked q) item (length fs) (length-map fs plain) c.requires.refuted in
    let size : vec_len c.push.new.self ≡ length c.push.new.self.items = search rules in
    added-item q item (plain (get_or fs item c.index-problem-item.result)) c.requires.sound.valid c.in_ok-push.ensures.items (c.len.ensures ∙ size)
    (read-map plain fs item c.index-problem-item.result inside)
    (rw c.new.ensures (c.in_ok-lits.ensures q.scope.named (inside-under q.scope.named why p c.in_ok-part.ensures.within c.requires.sound.inside)))
    c.in_ok-part.ensures.enough

pub returns-clause-lines : goal.returns-clause-lines
returns-clause-lines c = (added c).0

pub returns-clause-clause : goal.returns-clause-clause
returns-clause-clause c = rw c.in_ok-new.ensures.ok (added c).1

pub returns-clause-within : goal.returns-clause-within
returns-clause-within c = rw c.in_ok-new.ensures.ok c.in_ok-part.ensures.within
