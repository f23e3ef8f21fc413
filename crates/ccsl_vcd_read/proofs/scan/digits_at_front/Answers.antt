use Rattle.std.proofs.Common.{arith}
use Rattle.ccsl_vcd_lex.proofs.Digits.{front-digits}
use Rattle.ccsl_vcd_read.proofs.scan.digits_at_front.Goals as goal

pub returns-clause-are : goal.returns-clause-are
returns-clause-are c =
    let read = c.read_digits-count in
    front-digits c.args.bytes.now read.result.0 read.result.1 read.ensures.end (omega (arith, c.if-count-gt-DIGITS.false)) read.ensures.value
