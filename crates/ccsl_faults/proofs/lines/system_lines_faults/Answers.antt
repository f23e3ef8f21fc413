-- The next line.
use Rattle.std.proofs.Common.{map, refl, ap, ◌∙◌}
use Rattle.ccsl_ast.specs.Plain.{plain_sline}
use Rattle.ccsl_rules.specs.Faults.{least}
use Rattle.ccsl_rules.specs.Blocks.{entry_faults, entries_faults}
use Rattle.ccsl_faults.specs.Scenes.{seen_scene}
use Rattle.ccsl_faults.proofs.Walks.{walk-step}
use Rattle.ccsl_faults.proofs.lines.system_lines_faults.Goals as goal

pub loop-number-preserved : goal.loop-number-preserved
loop-number-preserved c =
    walk-step (λ i ls. entries_faults (seen_scene c.args.scene.now) i (map plain_sline ls))
    (λ i l. entry_faults (record (seen_scene c.args.scene.now) { line = i }) (plain_sline l)) (λ i x xs. refl)
    c.args.lines.now c.loop-number.worst c.loop-number-test.true c.index-lines-number.is c.earlier-worst.ensures
    (c.in_ok-system_line_faults.ensures ∙ ap (λ S. least (entry_faults S (plain_sline c.index-lines-number.result))) c.at_line-here.ensures)
    c.loop-number.invariant
