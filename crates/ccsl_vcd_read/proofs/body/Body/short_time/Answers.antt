use Rattle.std.proofs.Common.{ℕ, List, length, take, sym, ap, ◌∙◌, subst, arith, length-drop}
use Rattle.ccsl_vcd_lex.specs.Digits.{AreDigits}
use Rattle.ccsl_vcd_read.proofs.ShortTimes.{time-heard}
use Rattle.ccsl_vcd_read.proofs.body.Body.short_time.Goals as goal
use Rattle.ccsl_base.proofs.Cases.{rest-is}

pub returns-in-Ok-clause-heard : goal.returns-in-Ok-clause-heard
returns-in-Ok-clause-heard c =
    let d = c.digits_at_front-digits in
    time-heard c.args.self.now c.time.new.self c.args.at d.result.count d.result.value c.args.bytes.now c.args.out.now.rows c.time.new.out.rows
    (sym c.is_changes.ensures ∙ c.if-not-is_changes.false) c.if-bytes-ne35.false (omega (arith, c.if-digits-eq0.false))
    (subst (λ (rest : List ℕ). AreDigits (take d.result.count rest) d.result.value) (rest-is 1 c.args.bytes.now) d.ensures.are) d.ensures.fits
    (omega (arith, d.ensures.within, c.if-end-bytes.false, length-drop 1 c.args.bytes.now, ap length (rest-is 1 c.args.bytes.now)))
    c.if-end-gt-MAX_TOKEN_BYTES.false
    (sym c.is_space.ensures ∙ c.if-not-is_space.false) c.in-Ok.ensures.said
