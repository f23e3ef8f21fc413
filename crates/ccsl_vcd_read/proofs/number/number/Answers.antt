use Rattle.std.proofs.Common.{◌≡◌, ◌<◌, length, arith}
use Rattle.std.proofs.lemmas.Grind.{common_steps}
use Rattle.ccsl_vcd_read.proofs.Numbers.{number-none, digit-low, digit-high, ends-bad, ends-large, ends-well}
use Rattle.ccsl_vcd_read.proofs.number.number.Goals as goal
use Rattle.ccsl_vcd_read.proofs.number.number.Goals.{then-b-lt48-via-then-b-lt48, then-b-lt48-via-else-b-lt48+then-b-gt57}

pub returns-then-is_empty-clause-value : goal.returns-then-is_empty-clause-value
returns-then-is_empty-clause-value c =
    let z : length c.args.text.now ≡ 0 = grind (arith, common_steps, c.is_empty.ensures, c.if-is_empty.true) in
    number-none _ _ z

pub returns-then-b-lt48-clause-value : goal.returns-then-b-lt48-clause-value
returns-then-b-lt48-clause-value c =
    elim c.then-b-lt48.branch [
      | then-b-lt48-via-then-b-lt48 w ↦ ends-bad c.args.limit c.args.text.now c.loop-b.b-index c.loop-b.value c.loop-b-test.true c.loop-b.invariant.0
          (digit-low _ w.if-b-lt48.true)
      | then-b-lt48-via-else-b-lt48+then-b-gt57 w ↦ ends-bad c.args.limit c.args.text.now c.loop-b.b-index c.loop-b.value c.loop-b-test.true
          c.loop-b.invariant.0 (digit-high _ w.if-b-gt57.true)
    ]

pub returns-then-value-limit-clause-value : goal.returns-then-value-limit-clause-value
returns-then-value-limit-clause-value c =
    ends-large c.args.limit c.args.text.now c.loop-b.b-index c.loop-b.value c.loop-b-test.true c.loop-b.invariant.0 c.if-b-gt57.false c.if-b-lt48.false
    c.if-value-limit.true

pub returns-clause-value : goal.returns-clause-value
returns-clause-value c =
    let some : 0 < length c.args.text.now = grind (arith, common_steps, c.is_empty.ensures, c.if-is_empty.false) in
    ends-well c.args.limit c.args.text.now c.loop-b.b-index c.loop-b.value some c.loop-b-test.false c.loop-b.invariant.1 c.loop-b.invariant.0
