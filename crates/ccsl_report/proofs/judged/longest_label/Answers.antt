use Rattle.std.proofs.Common.{ap, length, List, ℕ}
use Rattle.ccsl_report.proofs.Lengths.{longest_step, label_get}
use Rattle.ccsl_report.proofs.judged.longest_label.Goals as goal

pub loop-i-preserved : goal.loop-i-preserved
loop-i-preserved c = longest_step _ c.loop-i.i _ c.loop-i.longest _ c.longer-longest.result (label_get _ c.loop-i.i _ c.constraint.ensures.constraint)
    (ap (λ (t : List ℕ). length t) c.bytes.ensures) c.longer-longest.ensures c.loop-i.invariant
