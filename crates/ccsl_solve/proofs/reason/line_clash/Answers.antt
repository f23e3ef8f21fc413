use Rattle.std.proofs.Common.{◌≡◌, true, false, sym, ◌∙◌}
use Rattle.ccsl_formula.specs.Known.{known}
use Rattle.ccsl_solve.specs.Under.{Under}
use Rattle.ccsl_solve.specs.Conflict.{IsClause}
use Rattle.ccsl_solve.specs.Posed.{asked}
use Rattle.ccsl_solve.proofs.Clauses.{read-proper, read-clause}
use Rattle.ccsl_solve.proofs.reason.line_clash.Goals as goal

pub unreachable-requires : goal.unreachable-requires
unreachable-requires c =
    let q = c.args.problem.now in
    let proper =
    read-proper q.scope (asked q) c.args.lines.now (known c.args.part.now) c.args.line c.index-lines-line.result c.clause_of-lits.result.now
    c.requires.posed.declared c.requires.valid c.requires.refuted c.index-lines-line.is (c.clause_of-lits.ensures q.scope.declared c.requires.posed.nonempty) in
    let bad : true ≡ false = sym proper ∙ c.in_default.ensures in
    absurd (cc)

-- the line's clause, and that its values are among the present ones
read : (c : goal.In_ok-new) → IsClause c.args.problem.now.scope c.args.lines.now c.args.line (known c.in-Some.part)
    × Under (known c.in-Some.part) (known c.args.part.now)
read c =
    let q = c.args.problem.now in
    read-clause q.scope c.args.lines.now (known c.args.part.now) (known c.in-Some.part) c.args.line c.index-lines-line.result c.clause_of-lits.result.now
    c.requires.refuted c.index-lines-line.is (c.clause_of-lits.ensures q.scope.declared c.requires.posed.nonempty) c.in-Some.ensures.0 c.in-Some.ensures.1

pub returns-clause-clause : goal.returns-clause-clause
returns-clause-clause c = rw c.in_ok-new.ensures.ok (read c).0

pub returns-clause-within : goal.returns-clause-within
returns-clause-within c = rw c.in_ok-new.ensures.ok (read c).1
