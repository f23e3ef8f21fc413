-- A definition at its place.
use Rattle.std.proofs.lemmas.Grind.{common_steps}
use Rattle.std.proofs.Common.{arith}
use Rattle.ccsl_state.proofs.Each.{outside, placed_region}
use Rattle.ccsl_state.proofs.items.definition_formula.Goals as goal

pub split_at-requires : goal.split_at-requires
split_at-requires c =
    let room = (placed_region _ c.args.i _ _ _ c.requires.regions c.definition-e.ensures.accepted c.definition-e.ensures.definition c.requires.place).room in
    omega arith

pub told-requires : goal.told-requires
told-requires c =
    let p = placed_region _ c.args.i _ _ _ c.requires.regions c.definition-e.ensures.accepted c.definition-e.ensures.definition c.requires.place in
    let back = c.split_at.ensures.back_len in
    outside _ _ _ _ _ (p.ready c.split_at.result.1.now (omega arith))

pub returns : goal.returns
returns c = grind (arith, common_steps, placed_region)
