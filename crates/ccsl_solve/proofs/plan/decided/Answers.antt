use Rattle.std.proofs.Common.{false, get_or, inl, inr}
use Rattle.std.proofs.lemmas.Option.{slice_get-get_or, slice_get_past}
use Rattle.ccsl_refute.specs.declared.line.Lit.{Lit}
use Rattle.ccsl_solve.proofs.Best.{wish-below}
use Rattle.ccsl_solve.proofs.plan.decided.Goals as goal

pub returns-then-next-problem : goal.returns-then-next-problem
returns-then-next-problem c = λ lines.
    let ws = c.args.problem.now.wishes.now in
    let next = c.open_wish-next.result in
    let first : Lit = get_or ws next (record { clock = 0; positive = false }) in
    let there = slice_get-get_or ws next (record { clock = 0; positive = false }) c.if-next-problem.true in
    record {
      named = wish-below c.args.problem.now.scope.named ws next first c.requires.posed.wishes there;
      free = c.open_wish-next.ensures.open first there;
      settled = c.open_wish-next.ensures.settled;
      cause = inl there;
    }

pub returns-in-Some : goal.returns-in-Some
returns-in-Some c = λ lines.
    record {
      named = c.in-Some.ensures.0;
      free = c.in-Some.ensures.1;
      settled = c.open_wish-next.ensures.settled;
      cause = inr (slice_get_past c.args.problem.now.wishes.now c.open_wish-next.result c.if-next-problem.false);
    }
