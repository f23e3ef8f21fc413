use Rattle.std.proofs.Common.{◌∙◌, arith, zero-add}
use Rattle.ccsl_vcd_read.proofs.Run.{runs-none, runs-same, front-white, front-word, dark-but-last}
use Rattle.ccsl_vcd_read.proofs.body.Body.token.Goals as goal

pub returns-then-end-bytes-clause-runs : goal.returns-then-end-bytes-clause-runs
returns-then-end-bytes-clause-runs c = runs-none c.args.self.now c.args.at c.args.out.now.rows

pub returns-then-end-eq0-clause-runs : goal.returns-then-end-eq0-clause-runs
returns-then-end-eq0-clause-runs c =
    front-white c.args.self.now c.args.at c.run_end-end.result c.args.bytes.now c.args.out.now.rows (c.run_end-end.ensures.value ∙ zero-add _) c.if-end-eq0.true
    (omega (arith, c.run_end-end.ensures.within, c.if-end-bytes.false))

pub returns-in-Ok-clause-runs : goal.returns-in-Ok-clause-runs
returns-in-Ok-clause-runs c =
    front-word c.args.self.now c.hear.new.self c.args.at c.run_end-end.result c.args.bytes.now c.args.out.now.rows c.hear.new.out.rows
    (c.run_end-end.ensures.value ∙ zero-add _)
    (omega (arith, c.if-end-eq0.false)) (omega (arith, c.run_end-end.ensures.within, c.if-end-bytes.false)) c.if-end-gt-MAX_TOKEN_BYTES.false
    c.in-Ok.ensures.said

pub returns-in-Err-clause-runs : goal.returns-in-Err-clause-runs
returns-in-Err-clause-runs c = runs-same _ _ c.args.self.now c.hear.new.self c.args.at c.args.out.now.rows c.hear.new.out.rows c.in-Err.ensures.said

pub returns-in-Ok-clause-one : goal.returns-in-Ok-clause-one
returns-in-Ok-clause-one c = dark-but-last c.run_end-end.result c.args.bytes.now (c.run_end-end.ensures.value ∙ zero-add _)
