-- A definition at its place.
use Rattle.std.proofs.Common.{◌≤◌, true, sym, subst, arith}
use Rattle.std.specs.Prelude.{IfSome}
use Rattle.ccsl_base.specs.declared.limits.TheConstants.{MAX_CELLS}
use Rattle.ccsl_kernel.specs.Plain.{plain_expr}
use Rattle.ccsl_state.specs.States.{cells_from}
use Rattle.ccsl_state.specs.Flats.{IsFlatly}
use Rattle.ccsl_state.proofs.Each.{placed_region, visited_is}
use Rattle.ccsl_state.proofs.follow.visit.Goals as goal

pub split_at_mut-region-requires : goal.split_at_mut-region-requires
split_at_mut-region-requires c =
    let room = (placed_region _ c.args.i _ _ _ c.requires.regions c.definition-e.ensures.accepted c.definition-e.ensures.definition c.requires.place).room in
    omega arith

pub advance_flat-requires : goal.advance_flat-requires
advance_flat-requires c =
    let p = placed_region _ c.args.i _ _ _ c.requires.regions c.definition-e.ensures.accepted c.definition-e.ensures.definition c.requires.place in
    let e = c.definition-e.result.now in
    let back = c.split_at_mut-region.ensures.back_len in (
      c.args.lay.now,
      e,
      p.ready c.split_at_mut-region.result.1.now (omega arith),
      subst (λ o. IfSome o (IsFlatly (plain_expr e))) c.in-Some.is (c.requires.flat (plain_expr e) c.definition-e.ensures.definition),
    )

pub advance_any-walked-requires : goal.advance_any-walked-requires
advance_any-walked-requires c =
    let p = placed_region _ c.args.i _ _ _ c.requires.regions c.definition-e.ensures.accepted c.definition-e.ensures.definition c.requires.place in
    let back = c.split_at_mut-region.ensures.back_len in
    p.ready c.split_at_mut-region.result.1.now (omega arith)

pub returns-in-Some-clause-visited : goal.returns-in-Some-clause-visited
returns-in-Some-clause-visited c =
    let lay = c.args.lay.now in
    let e = c.definition-e.result.now in
    let p = placed_region _ c.args.i _ _ _ c.requires.regions c.definition-e.ensures.accepted c.definition-e.ensures.definition c.requires.place in
    let back = c.split_at_mut-region.ensures.back_len in
    let ready = p.ready c.split_at_mut-region.result.1.now (omega arith) in
    let flat = subst (λ o. IfSome o (IsFlatly (plain_expr e))) c.in-Some.is (c.requires.flat (plain_expr e) c.definition-e.ensures.definition) in
    let few : cells_from lay.earlier.now lay.system.now.definitions ≤ MAX_CELLS =
    (let room = c.requires.regions.room in let cells = c.requires.regions.few in omega arith) in
    visited_is lay c.requires.regions.table c.args.i e c.args.place c.args.row.now c.split_at_mut-region.result.0.now c.split_at_mut-region.result.1.now
    c.advance_flat.new.row c.args.step.now c.args.passage.now.gone c.args.passage.now.unsettled c.change.new.set c.advance_flat.result.tick
    c.advance_flat.result.dead true few c.definition-e.ensures.definition c.requires.place c.split_at_mut-region.ensures.value
    c.split_at_mut-region.ensures.front_len (c.advance_flat.ensures.moved lay e (sym c.words.ensures) ready flat)
    (c.advance_flat.ensures.rest lay e ready flat) c.change.ensures

pub returns-in-None-clause-visited : goal.returns-in-None-clause-visited
returns-in-None-clause-visited c =
    let lay = c.args.lay.now in
    let few : cells_from lay.earlier.now lay.system.now.definitions ≤ MAX_CELLS =
    (let room = c.requires.regions.room in let cells = c.requires.regions.few in omega arith) in
    visited_is lay c.requires.regions.table c.args.i c.definition-e.result.now c.args.place c.args.row.now c.split_at_mut-region.result.0.now
    c.split_at_mut-region.result.1.now c.advance_any-walked.new.row c.args.step.now c.args.passage.now.gone c.args.passage.now.unsettled
    c.change-in-None.new.set c.advance_any-walked.result.tick c.advance_any-walked.result.dead c.advance_any-walked.result.settled few
    c.definition-e.ensures.definition c.requires.place c.split_at_mut-region.ensures.value c.split_at_mut-region.ensures.front_len
    c.advance_any-walked.ensures.moved c.advance_any-walked.ensures.rest c.change-in-None.ensures
