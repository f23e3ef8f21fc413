use Rattle.std.proofs.Common.{ℕ, List, [], ◌∷◌, ◌++◌, ap, ◌∙◌}
use Rattle.ccsl_base.specs.Rows.{RowList}
use Rattle.ccsl_vcd_read.specs.Marks.{ticking}
use Rattle.ccsl_vcd_read.proofs.Kept.{difference-ticks}
use Rattle.ccsl_vcd_read.proofs.marks.Marks.push_row.Goals as goal

pub returns : goal.returns
returns c =
    let more : List ℕ → RowList = λ xs. record c.args.out.now { rows = c.args.out.now.rows ++ (record { time = c.args.time; ticks = xs }) ∷ [] } in
    c.push_difference.ensures
    ∙ ap more (difference-ticks c.self.inside.ones c.self.inside.earlier c.self.inside.slots.items c.ascends.ensures.ascending c.self.invariant.ascending
    c.self.invariant.inside ∙ ap ticking c.self.view_is)
