use Rattle.std.proofs.Common.{◌++◌, List, ℕ, sym, ap, ◌∙◌, append_assoc, take, ◌∷◌, []}
use Rattle.ccsl_vcd_write.specs.Text.{text_of, var_line, var_lines}
use Rattle.ccsl_vcd_write.proofs.Growing.{vars-more}
use Rattle.ccsl_vcd_write.proofs.writer.put_vars.Goals as goal

pub loop-clock-preserved : goal.loop-clock-preserved
loop-clock-preserved c =
    let out : List ℕ = c.args.out.now.items in
    let line : List ℕ = text_of (var_line c.loop-clock.clock c.get.result.now ∷ []) in
    let lines : List ℕ = text_of (var_lines 0 (take c.loop-clock.clock c.args.names.now)) in
    c.in_ok-put_var.ensures ∙ ap (λ (bs : List ℕ). bs ++ line) c.loop-clock.invariant ∙ append_assoc out lines line
    ∙ ap (λ (bs : List ℕ). out ++ bs) (sym (vars-more c.loop-clock.clock c.args.names.now c.get.result.now c.get.ensures.name))
