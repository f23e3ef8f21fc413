-- A definition's region, and those behind it.
use Rattle.std.proofs.Common.{rules, ◌≡◌, suc, ◌<◌, ◌+◌, ◌∷◌, length, drop, sym, ap, ap₂, ◌∙◌, arith}
use Rattle.ccsl_formula.specs.declared.scope.Scope.{Scope}
use Rattle.ccsl_state.specs.States.{put, deaths_from, opened_all}
use Rattle.ccsl_state.proofs.Each.{first_region, first_trees}
use Rattle.ccsl_state.proofs.definitions.+open_from.Goals as goal

pub opened-born-requires : goal.opened-born-requires
opened-born-requires t c =
    let first = first_region _ _ _ _ c.requires c.definition.ensures.accepted c.definition.ensures.definition in
    record { ready = first.outside; placed = first.placed }

pub split_at_mut-rest-requires : goal.split_at_mut-rest-requires
split_at_mut-rest-requires t c =
    let room = (first_region _ _ _ _ c.requires c.definition.ensures.accepted c.definition.ensures.definition).outside.room in
    omega arith

pub open_from-requires : goal.open_from-requires
open_from-requires t c =
    let first = first_region c.args.lay.now c.args.i _ c.args.row.now c.requires c.definition.ensures.accepted c.definition.ensures.definition in
    let below : c.args.i < length c.args.lay.now.system.now.definitions = first.below in
    (search (rules, below), first.behind _ c.split_at_mut-rest.result.1.now c.opened-born.ensures.size (omega arith))

pub returns-then-i-definitions : goal.returns-then-i-definitions
returns-then-i-definitions t c =
    let lay = c.args.lay.now in
    let K = lay.system.now in
    let i = c.args.i in
    let es = drop (i + 1) K.definitions in
    let first = first_region lay i _ c.args.row.now c.requires c.definition.ensures.accepted c.definition.ensures.definition in
    let trees = first_trees lay i _ c.args.row.now c.opened-born.new.row c.split_at_mut-rest.result.0.now c.split_at_mut-rest.result.1.now first
    c.split_at_mut-rest.ensures.value (c.split_at_mut-rest.ensures.front_len ∙ c.opened-born.ensures.size) c.opened-born.ensures.rest in
    let x = K.declared + i in
    let clock : c.scope.result.declared + i ≡ x = ap (λ (s : Scope). s.declared + i) c.scope.ensures.scope in
    let later : K.declared + (i + 1) ≡ suc x = omega arith in
    let known = c.args.gone.now in
    record {
      trees = trees.new c.open_from.new.row ∙ ap₂ (λ t ts. t ∷ ts) c.opened-born.ensures.opens c.open_from.ensures.trees ∙ sym (ap (opened_all K) first.split);
      gone = c.open_from.ensures.gone
          ∙ ap₂ (λ k known. deaths_from known k (opened_all K es)) later (c.put.ensures ∙ ap₂ (λ b k. put b k known) c.opened-born.ensures.dead clock)
          ∙ sym (ap (λ es. deaths_from known x (opened_all K es)) first.split);
    }
