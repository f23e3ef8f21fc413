use Rattle.std.proofs.Common.{◌∙◌, sym, subst, arith, zero-add, take, length, ◌+◌, ◌<◌, inr}
use Rattle.std.proofs.lemmas.Result.{err_from_is_err_and}
use Rattle.ccsl_events.specs.declared.body.Body.{Body}
use Rattle.ccsl_events.specs.Run.{Runs}
use Rattle.ccsl_events.proofs.Run.{runs-none, front-white, front-word, front-breaks, front-long, open-run}
use Rattle.ccsl_events.proofs.body.Body.whole_token.Goals as goal
use Rattle.ccsl_events.proofs.body.Body.whole_token.Goals.{then-end-gt0+in_ok-hear, else-end-gt0}

pub returns-then-end-gt-MAX_TOKEN_BYTES-clause-takes : goal.returns-then-end-gt-MAX_TOKEN_BYTES-clause-takes
returns-then-end-gt-MAX_TOKEN_BYTES-clause-takes c plan p s =
    inr (front-long plan p c.args.at c.run_end-end.result c.args.bytes.now c.args.out.now.items
    (c.run_end-end.ensures.value ∙ zero-add _) c.run_end-end.ensures.within c.if-end-gt-MAX_TOKEN_BYTES.true)

pub returns-then-end-bytes-clause-takes : goal.returns-then-end-bytes-clause-takes
returns-then-end-bytes-clause-takes c plan p s = runs-none plan p c.args.at c.args.self.now c.args.out.now.items s

pub returns-in_err-hear-clause-takes : goal.returns-in_err-hear-clause-takes
returns-in_err-hear-clause-takes c plan p s =
    let q = err_from_is_err_and c.from_residual.result c.from_residual.ensures.1 in
    rw (q.1, q.2)
    (front-breaks plan p c.args.at c.run_end-end.result c.args.bytes.now c.in_err-hear.field-0.0 c.hear.new.self c.args.out.now.items c.hear.new.out.items
    (c.run_end-end.ensures.value ∙ zero-add _)
    c.if-end-gt0.true (omega (arith, c.run_end-end.ensures.within, c.if-end-bytes.false)) c.if-end-gt-MAX_TOKEN_BYTES.false (c.in_err-hear.ensures plan p s))

pub returns-clause-takes : goal.returns-clause-takes
returns-clause-takes c plan p s =
    let end = c.run_end-end.result in
    let bytes = c.args.bytes.now in
    let is = c.run_end-end.ensures.value ∙ zero-add _ in
    let inside : end < length bytes = omega (arith, c.run_end-end.ensures.within, c.if-end-bytes.false) in
    elim c.if-end-gt0.branch [
      | then-end-gt0+in_ok-hear w ↦
          subst (λ (b : Body). Runs plan p c.args.at (take (end + 1) bytes) b c.args.out.now.items c.if-end-gt0.out.items) (sym w.self-is)
          (rw w.out-is
          (front-word plan p c.args.at end bytes w.hear.new.self c.args.out.now.items w.hear.new.out.items is w.if-end-gt0.true
          inside c.if-end-gt-MAX_TOKEN_BYTES.false (w.in_ok-hear.ensures plan p s)))
      | else-end-gt0 w ↦
          rw (w.self-is, w.out-is) (front-white plan p c.args.at end bytes c.args.self.now c.args.out.now.items is (omega (arith, w.if-end-gt0.false)) inside s)
    ]

pub returns-then-end-bytes-clause-ends : goal.returns-then-end-bytes-clause-ends
returns-then-end-bytes-clause-ends c e = open-run c.args.bytes.now (omega (arith, c.run_end-end.ensures.value, c.if-end-bytes.true))
