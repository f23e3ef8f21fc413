use Rattle.std.proofs.Common.{◌∙◌, sym, arith}
use Rattle.ccsl_vcd_lex.proofs.Digits.{front-digits}
use Rattle.ccsl_events.proofs.present.digits_at_front.Goals as goal

pub returns : goal.returns
returns c =
    let read = c.read_digits-count in
    record {
      some = omega (arith, c.if-count-eq0.false);
      few = omega (arith, c.if-count-gt-DIGITS.false);
      digits = front-digits c.args.bytes.now read.result.0 read.result.1 read.ensures.end (omega (arith, c.if-count-gt-DIGITS.false)) read.ensures.value;
      inside = omega (arith, c.if-count-bytes.false);
      white = sym c.is_space.ensures ∙ c.if-not-is_space.false;
    }
