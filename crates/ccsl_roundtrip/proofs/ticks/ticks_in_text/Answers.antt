use Rattle.std.proofs.Common.{◌∙◌, arith}
use Rattle.ccsl_roundtrip.proofs.Lines.{lines-counted}
use Rattle.ccsl_roundtrip.proofs.ticks.ticks_in_text.Goals as goal

pub overflow_sub-result-2 : goal.overflow_sub-result-2
overflow_sub-result-2 c =
    let e = lines-counted c.args.system.now c.requires.0 c.args.text.now c.deref.result.now c.lines.result c.lines-2.result c.args.steps
    c.lines.ensures c.lines-2.ensures (c.deref.ensures.value ∙ c.in_ok-header.ensures) c.requires.1 c.requires.2 in
    omega (arith, e)

pub returns : goal.returns
returns c = λ T e n.
    let e = lines-counted c.args.system.now T c.args.text.now c.deref.result.now c.lines.result c.lines-2.result c.args.steps
    c.lines.ensures c.lines-2.ensures (c.deref.ensures.value ∙ c.in_ok-header.ensures) e n in
    omega (arith, e)
