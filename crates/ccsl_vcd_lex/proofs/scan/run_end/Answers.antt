use Rattle.std.proofs.Common.{ap, sym, ◌∙◌, arith}
use lib.Count.{count_trailing_zeros}
use Rattle.ccsl_vcd_lex.specs.Tokens.{is_white}
use Rattle.ccsl_vcd_lex.specs.Lexing.{is_dark}
use Rattle.ccsl_vcd_lex.proofs.Lanes.{run-bound, run-through, run-stops}
use Rattle.ccsl_vcd_lex.proofs.scan.run_end.Goals as goal

pub returns-then-found-ne0 : goal.returns-then-found-ne0
returns-then-found-ne0 c =
    let found = c.white_bits-found in
    let run = run-stops is_white c.args.bytes.now c.loop-i.i 16 (omega arith) (omega arith) (omega (arith, found.ensures))
    ∙ ap (count_trailing_zeros 64) (sym found.ensures) in
    record { within = omega (arith, run, run-bound is_dark c.args.bytes.now c.loop-i.i c.loop-i.invariant.1); value = omega (arith, run, c.loop-i.invariant.0) }

pub loop-i-preserved : goal.loop-i-preserved
loop-i-preserved c =
    let run = run-through is_white c.args.bytes.now c.loop-i.i 16 (omega arith) (omega (arith, c.white_bits-found.ensures)) in
    (omega (arith, run, c.loop-i.invariant.0), omega arith)
