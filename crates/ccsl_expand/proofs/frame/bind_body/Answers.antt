use Rattle.std.proofs.Common.{◌+◌, ◌++◌, drop, map, sym, ap, ◌∙◌}
use Rattle.ccsl_ast.specs.Trees.{SLineOf}
use Rattle.ccsl_ast.specs.Plain.{plain_line}
use Rattle.ccsl_rules.specs.Unfolded.{own_clocks}
use Rattle.ccsl_expand.proofs.Walks.{drop-at, own_clocks-step}
use Rattle.ccsl_expand.proofs.frame.bind_body.Goals as goal

pub loop-line-preserved : goal.loop-line-preserved
loop-line-preserved c =
    let lines = c.args.lines.now in
    let path = c.args.path.now in
    let i = c.loop-line.line-index in
    let e = drop-at lines i c.line-item.result c.loop-line-test.true c.line-item.is in
    own_clocks-step path (SLineOf (plain_line c.line-item.result)) (map SLineOf (map plain_line (drop (i + 1) lines))) c.loop-line.setting
    c.in_ok-setting.setting _
    c.in_ok-setting.ensures (ap (λ xs. c.loop-line.setting ++ own_clocks path (map SLineOf (map plain_line xs))) (sym e) ∙ c.loop-line.invariant)
