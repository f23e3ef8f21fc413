-- There is room for the regions, and no clock has ticked.
use Rattle.std.proofs.lemmas.Grind.{common_steps}
use Rattle.std.proofs.Common.{◌≡◌, ◌-◌, ◌*◌, length, drop, replicate, slice_index, ap, ◌∙◌, arith}
use Rattle.ccsl_state.proofs.Regions.{front_head}
use Rattle.ccsl_state.proofs.WholeLaws.{ready_table}
use Rattle.ccsl_state.proofs.StandLaws.{zeros, stands_opened}
use Rattle.ccsl_state.proofs.states.States.open.Goals as goal

pub places-requires : goal.places-requires
places-requires c = grind (arith, common_steps, ready_table)

pub returns-clause-stands : goal.returns-clause-stands
returns-clause-stands c =
    let K = c.args.system.now in
    let row' = c.open_row-gone.new.row in
    let end = length c.as_mut_slice.result.now - 2 * length K.constraints in
    let none : c.as_mut_slice.result.now ≡ replicate c.cells.result 0 =
    c.as_mut_slice.ensures.value ∙ c.in_ok-row.ensures.items_if_clones_equal (λ y same. same) in
    rw (front_head c.in_ok-row.row.len row' (drop (length row') c.in_ok-row.row.items) (c.open_row-gone.auto.row ∙ c.as_mut_slice.ensures.len))
    (stands_opened (record { system = K; row = row' }) c.in_ok-calls.ensures.accepted c.open_row-gone.ensures.trees
    (λ k. ap (λ cells. slice_index cells k) (c.open_row-gone.ensures.counts ∙ ap (drop end) none) ∙ zeros c.cells.result end k))
