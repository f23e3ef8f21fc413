use Rattle.std.proofs.Common.{not, reverse, sym, ap}
use Rattle.ccsl_formula.specs.Known.{known}
use Rattle.ccsl_solve.specs.Under.{negated}
use Rattle.ccsl_solve.proofs.Tests.{open-test, not-not}
use Rattle.ccsl_solve.proofs.Parts.{inside-with, under-left}
use Rattle.ccsl_solve.proofs.Clauses.{clause-conflict}
use Rattle.ccsl_solve.proofs.Searching.{back-of, conflict-after}
use Rattle.ccsl_solve.proofs.search.against.Goals as goal

pub clash-requires-clause-sound : goal.clash-requires-clause-sound
clash-requires-clause-sound c =
    let sound = c.requires.sound in
    let lit = c.args.lit in
    record {
      posed = sound.posed;
      valid = sound.valid;
      inside = rw c.set.ensures (inside-with c.args.problem.now.scope.named lit.clock (not lit.positive) (known c.args.part.now) c.requires.named sound.inside);
    }

pub returns-then-is_free_of-clause-same : goal.returns-then-is_free_of-clause-same
returns-then-is_free_of-clause-same c = back-of (negated c.args.lit) c.set.ensures c.forget.ensures c.requires.free

pub returns-then-is_free_of-clause-conflict : goal.returns-then-is_free_of-clause-conflict
returns-then-is_free_of-clause-conflict c =
    let lit = c.args.lit in
    let part = known c.in_ok-clash.clash.part.value in
    let within = rw c.set.ensures at c.in_ok-clash.ensures.within in
    rw c.in_ok-conflict.ensures.part
    (clause-conflict (ap reverse c.in_ok-conflict.ensures.hints) c.in_ok-clash.ensures.clause
    (under-left (known c.args.part.now) part lit.clock (not lit.positive) within (open-test (part lit.clock) (sym c.if-is_free_of.ensures))))

pub resolved-requires-clause-first : goal.resolved-requires-clause-first
resolved-requires-clause-first c =
    rw (back-of (negated c.args.lit) c.set.ensures c.forget.ensures c.requires.free) (rw c.set.ensures at c.in_ok-clash.ensures.within)

pub resolved-requires-clause-second : goal.resolved-requires-clause-second
resolved-requires-clause-second c =
    let back = back-of (negated c.args.lit) c.set.ensures c.forget.ensures c.requires.free in
    rw (c.deref.ensures.value, not-not c.args.lit.positive) (conflict-after c.in_ok-clash.ensures.lines back c.requires.conflict)

pub resolved-requires-clause-free : goal.resolved-requires-clause-free
resolved-requires-clause-free c =
    rw (back-of (negated c.args.lit) c.set.ensures c.forget.ensures c.requires.free) c.requires.free

pub returns-clause-same : goal.returns-clause-same
returns-clause-same c = back-of (negated c.args.lit) c.set.ensures c.forget.ensures c.requires.free

pub returns-clause-conflict : goal.returns-clause-conflict
returns-clause-conflict c =
    let back = back-of (negated c.args.lit) c.set.ensures c.forget.ensures c.requires.free in
    rw (c.deref.ensures.value, back) at c.in_ok-conflict-2.ensures
