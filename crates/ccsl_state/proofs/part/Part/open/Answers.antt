-- There is room for the regions, and all definitions are at their birth.
use Rattle.std.proofs.lemmas.Grind.{common_steps}
use Rattle.std.proofs.Common.{◌≡◌, length, drop, ap, ◌∙◌, arith}
use Rattle.std.specs.Vec.{with_items}
use Rattle.ccsl_state.specs.Held.{Held, trees_of}
use Rattle.ccsl_state.proofs.Regions.{front_head}
use Rattle.ccsl_state.proofs.WholeLaws.{ready_table}
use Rattle.ccsl_state.proofs.PartMeans.{part_opened, kept_opened}
use Rattle.ccsl_state.proofs.part.Part.open.Goals as goal

pub places-requires : goal.places-requires
places-requires c = grind (arith, common_steps, ready_table)

pub returns-clause-stands : goal.returns-clause-stands
returns-clause-stands c =
    let K = c.args.system.now in
    let row' = c.open_row.new.row in
    let written = with_items c.in_ok-row.row row' in
    let is : written.items ≡ row' =
    front_head c.in_ok-row.row.len row' (drop (length row') c.in_ok-row.row.items) (c.open_row.auto.row ∙ c.as_mut_slice.ensures.len) in
    part_opened (record { system = K; followed = c.in_ok-readers.readers.followed; row = written.items }) c.in_ok-calls.ensures.accepted
    (ap (λ row. trees_of (let h : Held = record { system = K; row = row } in h)) is ∙ c.open_row.ensures.trees)

pub invariant_of-result : goal.invariant_of-result
invariant_of-result c = grind (arith, common_steps, front_head, kept_opened)
