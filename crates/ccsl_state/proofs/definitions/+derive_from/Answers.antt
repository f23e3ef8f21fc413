-- A definition's region, and those behind it.
use Rattle.std.proofs.Common.{rules, ◌≡◌, suc, ◌<◌, ◌+◌, length, refl, sym, ap, ap₂, ◌∙◌, arith}
use Rattle.ccsl_formula.specs.declared.scope.Scope.{Scope}
use Rattle.ccsl_state.specs.States.{put, derived_in}
use Rattle.ccsl_state.specs.Regions.{trees_from}
use Rattle.ccsl_state.proofs.Each.{first_region, first_trees}
use Rattle.ccsl_state.proofs.definitions.+derive_from.Goals as goal

pub heard-heard-requires : goal.heard-heard-requires
heard-heard-requires t c = (first_region _ _ _ _ c.requires c.definition.ensures.accepted c.definition.ensures.definition).outside

pub split_at-requires : goal.split_at-requires
split_at-requires t c =
    let room = (first_region _ _ _ _ c.requires c.definition.ensures.accepted c.definition.ensures.definition).outside.room in
    omega arith

pub derive_from-requires : goal.derive_from-requires
derive_from-requires t c =
    let first = first_region c.args.lay.now c.args.i _ c.args.row.now c.requires c.definition.ensures.accepted c.definition.ensures.definition in
    let below : c.args.i < length c.args.lay.now.system.now.definitions = first.below in
    (search (rules, below), first.behind _ c.split_at.result.1.now c.heard-heard.ensures.size (omega arith))

pub returns-then-i-definitions : goal.returns-then-i-definitions
returns-then-i-definitions t c =
    let lay = c.args.lay.now in
    let i = c.args.i in
    let row = c.args.row.now in
    let first = first_region lay i _ row c.requires c.definition.ensures.accepted c.definition.ensures.definition in
    let trees = first_trees lay i _ row row c.split_at.result.0.now c.split_at.result.1.now first c.split_at.ensures.by_index.0
    (c.split_at.ensures.front_len ∙ c.heard-heard.ensures.size) refl in
    let x = lay.system.now.declared + i in
    let clock : c.scope.result.declared + i ≡ x = ap (λ (s : Scope). s.declared + i) c.scope.ensures.scope in
    let later : lay.system.now.declared + (i + 1) ≡ suc x = omega arith in
    let known = c.args.step.now in
    c.derive_from.ensures
    ∙ ap₂ (derived_in (trees_from lay (i + 1) c.split_at.result.1.now)) later
    (c.put.ensures ∙ ap₂ (λ b k. put b k known) c.heard-heard.ensures.tick clock)
    ∙ sym (ap (λ ts. derived_in ts x known) trees.old)
