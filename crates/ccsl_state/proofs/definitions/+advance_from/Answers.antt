-- A definition's region, and those behind it.
use Rattle.std.proofs.Common.{rules, ◌≡◌, suc, ◌<◌, ◌+◌, [], length, sym, ap, ap₂, ◌∙◌, arith}
use Rattle.ccsl_formula.specs.declared.scope.Scope.{Scope}
use Rattle.ccsl_state.specs.States.{put, passed_all, deaths_from, derived_in}
use Rattle.ccsl_state.specs.Regions.{tree, trees_from}
use Rattle.ccsl_state.proofs.Each.{passes, first_region, first_trees}
use Rattle.ccsl_state.proofs.Operands.{inside}
use Rattle.ccsl_state.proofs.definitions.+advance_from.Goals as goal

pub advance-moved-requires : goal.advance-moved-requires
advance-moved-requires t c = (first_region _ _ _ _ c.requires c.definition.ensures.accepted c.definition.ensures.definition).outside

pub split_at_mut-rest-requires : goal.split_at_mut-rest-requires
split_at_mut-rest-requires t c =
    let room = (first_region _ _ _ _ c.requires c.definition.ensures.accepted c.definition.ensures.definition).outside.room in
    omega arith

pub advance_from-requires : goal.advance_from-requires
advance_from-requires t c =
    let first = first_region c.args.lay.now c.args.i _ c.args.row.now c.requires c.definition.ensures.accepted c.definition.ensures.definition in
    let below : c.args.i < length c.args.lay.now.system.now.definitions = first.below in
    (search (rules, below), first.behind _ c.split_at_mut-rest.result.1.now c.advance-moved.ensures.moved.size (omega arith))

pub returns-then-i-definitions : goal.returns-then-i-definitions
returns-then-i-definitions t c =
    let lay = c.args.lay.now in
    let K = lay.system.now in
    let i = c.args.i in
    let row = c.args.row.now in
    let row' = c.advance-moved.new.row in
    let rest = c.split_at_mut-rest.result.1.now in
    let rest' = c.advance_from.new.row in
    let e = c.definition.result.now in
    let moved = c.advance-moved.ensures.moved in
    let first = first_region lay i e row c.requires c.definition.ensures.accepted c.definition.ensures.definition in
    let trees = first_trees lay i e row row' c.split_at_mut-rest.result.0.now rest first c.split_at_mut-rest.ensures.value
    (c.split_at_mut-rest.ensures.front_len ∙ moved.size) moved.rest in
    let x = K.declared + i in
    let clock : c.scope.result.declared + i ≡ x = ap (λ (s : Scope). s.declared + i) c.scope.ensures.scope in
    let later : K.declared + (i + 1) ≡ suc x = omega arith in
    let known = c.args.gone.now in
    let s = c.args.step.now in
    let s' = c.put.new.set in
    let known' = c.put-then-i-definitions.new.set in
    let out = inside lay [] (tree lay e []) _ s known row row' c.advance-moved.result moved (c.advance-moved.ensures.inner first.ready.stands) in
    let ticks = c.put.ensures ∙ ap₂ (λ b k. put b k s) out.tick clock in
    let dies = c.put-then-i-definitions.ensures ∙ ap₂ (λ b k. put b k known) out.dead clock in
    record {
      trees = trees.new rest'
          ∙ passes K s known x (tree lay e [] row) (tree lay e [] row') (trees_from lay (i + 1) rest) (trees_from lay
          (i + 1) rest') s' known' out.goes ticks dies
          (c.advance_from.ensures.trees ∙ ap (λ k. passed_all K s' known' k (trees_from lay (i + 1) rest)) later)
          ∙ sym (ap (passed_all K s known x) trees.old);
      step = c.advance_from.ensures.step ∙ ap₂ (derived_in (trees_from lay (i + 1) rest)) later ticks ∙ sym (ap (λ ts. derived_in ts x s) trees.old);
      gone = c.advance_from.ensures.gone ∙ ap₂ (λ k known. deaths_from known k (trees_from lay (i + 1) rest')) later dies
          ∙ sym (ap (deaths_from known x) (trees.new rest'));
    }
