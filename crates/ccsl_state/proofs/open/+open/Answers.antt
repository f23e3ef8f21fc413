-- The parts of a region, each of which was opened.
use Rattle.std.proofs.Common.{rules, ◌≡◌, ◌<◌, ◌≤◌, ◌+◌, ◌%◌, ◌^◌, length, map, Some, ◌++◌, slice_set, refl, sym, ap, subst, ◌∙◌, arith}
use Rattle.std.proofs.lemmas.List.{length-set, get_or-set_same}
use Rattle.ccsl_kernel.specs.Syntax.{body_of}
use Rattle.ccsl_kernel.specs.Plain.{plain_expr, plain_body}
use Rattle.ccsl_kernel.specs.Actuals.{value_of}
use Rattle.ccsl_kernel.specs.Cells.{cells_in}
use Rattle.ccsl_kernel.specs.Deep.{deep}
use Rattle.ccsl_kernel.specs.Fit.{ActualsFit}
use Rattle.ccsl_kernel.proofs.AcceptedParts.{accepted_guarded}
use Rattle.ccsl_state.specs.Tree.{dead_of}
use Rattle.ccsl_state.specs.Layout.{actual_of, words_of, own_cells, two_at, read}
use Rattle.ccsl_state.specs.Moves.{gone_in}
use Rattle.ccsl_state.specs.Standing.{is_own}
use Rattle.ccsl_state.specs.Regions.{size, lag_node}
use Rattle.std.proofs.lemmas.Bool.{leb-false}
use Rattle.ccsl_state.proofs.Calls.{site, birth_site, body_ready, call_at, call_opens, small_mod}
use Rattle.ccsl_state.proofs.Frame.{two_front, lag_node_front}
use Rattle.ccsl_state.proofs.Operands.{pair_opened}
use Rattle.ccsl_state.proofs.Places.{call_params, inner_not_own, inner_stands, ready_body}
use Rattle.ccsl_state.proofs.Regions.{rest_one}
use Rattle.ccsl_state.proofs.open.+open.Goals as goal

pub two_opened-returns : goal.two_opened-returns
two_opened-returns t c =
    pair_opened c.args.lay.now c.args.actuals.now (two_at c.args.op) (own_cells c.args.op) (two_front c.args.op) c.args.a.now c.args.d.now _ _ _ _ _ _ _ _
    c.requires.left c.split_at_mut-head.ensures.value (c.split_at_mut-head.ensures.front_len ∙ c.own_cells.ensures.own) c.two_born.auto.head
    c.split_at_mut-behind.ensures.value (c.split_at_mut-behind.ensures.front_len ∙ c.opened-left.ensures.size) _ _ _ _ _
    c.opened-left.ensures c.opened-right.ensures c.two_born.ensures c.two_dead.ensures (search rules)

pub lag_opened-returns : goal.lag_opened-returns
lag_opened-returns t c =
    pair_opened c.args.lay.now c.args.actuals.now (lag_node c.args.m) (2 + words_of c.args.m)
    (lag_node_front c.args.m) c.args.a.now c.args.d.now _ _ _ _ _ _ _ _
    c.requires.ready.left c.split_at_mut-head.ensures.value (c.split_at_mut-head.ensures.front_len ∙ c.lag_cells.ensures.cells) c.lag_born.auto.head
    c.split_at_mut-behind.ensures.value (c.split_at_mut-behind.ensures.front_len ∙ c.opened-left.ensures.size) _ _ _ _ _
    c.opened-left.ensures c.opened-right.ensures (ap Some c.lag_born.ensures) c.lag_dead.ensures (search rules)

pub call_opened-opened-requires : goal.call_opened-opened-requires
call_opened-opened-requires t c =
    let K = c.args.lay.now.system.now in
    let b = plain_body c.in-Some.body.now in
    let is : body_of K.groups c.args.group c.args.member ≡ Some b = sym (rw c.in-Some.is at c.body.ensures.body) in
    let few = call_params K c.args.group c.args.member c.args.args.now b c.requires.is is in
    let p = c.split_at_mut-first.ensures.back_len in
    let q = c.split_at_mut-cells.ensures.back_len in
    let room = c.requires.room b is in
    let all = c.requires.few in
    let region = body_ready c.args.lay.now c.args.group c.args.member 0 b c.in-Some.body.now.root c.values.new.out c.split_at_mut-cells.result.1.now
    c.requires.table c.requires.group c.requires.groups c.body.ensures.accepted is refl
    (subst (λ w. ActualsFit w c.values.new.out) c.words-words.ensures c.values.ensures.fit) (let few = few.0 in omega arith) (omega arith) in
    let shallow : deep b.root ≤ 129 = region.shallow in (
      search (rules, shallow),
      (
        region,
        ap (λ k. is_own K.words k b.root c.values.new.out) c.requires.group
            ∙ (ready_body K c.args.group c.args.member b c.body.ensures.accepted is).placed c.values.new.out,
      ),
    )

pub call_opened-returns-in-Some : goal.call_opened-returns-in-Some
call_opened-returns-in-Some t c =
    let K = c.args.lay.now.system.now in
    let E = c.args.lay.now.earlier.now in
    let member = c.args.member in
    let ρ = c.args.actuals.now in
    let args = c.args.args.now in
    let b = plain_body c.in-Some.body.now in
    let first = c.split_at_mut-first.result.0.now in
    let rest = c.split_at_mut-first.result.1.now in
    let one = c.split_at_mut-first.ensures.front_len in
    let head = slice_set first 0 c.from.result in
    let cells = c.store.new.cells in
    let region = c.opened.new.row in
    let values = c.values.new.out in
    let words = c.words-words.ensures in
    let is : body_of K.groups c.args.group member ≡ Some b = sym (rw c.in-Some.is at c.body.ensures.body) in
    let few = call_params K c.args.group member args b c.requires.is is in
    let count = c.store.auto.cells ∙ c.split_at_mut-cells.ensures.front_len ∙ few.0 in
    let m = c.ranges.member.fits in
    let born = call_opens K (accepted_guarded K c.body.ensures.accepted).bodies b member c.args.group args ρ values c.requires.groups is
    (c.values.ensures.values ∙ ap (λ w. map (value_of w ρ) args) words) in
    record {
      tree = call_at K E head cells region (head ++ (cells ++ region)) member c.args.group b refl (length-set first 0 c.from.result ∙ one)
          (ap (λ n. n % 2 ^ 32) (get_or-set_same first 0 c.from.result 0 (omega (arith, one)) ∙ c.from.ensures)
          ∙ small_mod member (omega arith)) c.requires.group is count
          ∙ ap (λ vs. read K E b.root vs region) (ap (λ w. map (actual_of w) cells) (sym words) ∙ c.store.ensures)
          ∙ c.opened.ensures.opens ∙ born;
      rest = λ n room.
          let fits = room b is in
          let size = cells_in E b.root in
          let p = length b.params in
          rest_one 1 n (p + size) first head rest (cells ++ region) c.args.row.now c.split_at_mut-first.ensures.value one
          (length-set first 0 c.from.result ∙ one)
          (rest_one p (p + size) size c.split_at_mut-cells.result.0.now cells c.split_at_mut-cells.result.1.now region rest c.split_at_mut-cells.ensures.value
          (c.split_at_mut-cells.ensures.front_len ∙ few.0) count c.opened.ensures.rest (omega arith)) (omega (arith, fits));
      dead = c.opened.ensures.dead ∙ ap (dead_of (gone_in c.args.gone.now)) born;
    }

pub opened-call_opened-requires : goal.opened-call_opened-requires
opened-call_opened-requires t c =
    let below : c.in-Call.group < length c.args.lay.now.earlier.now =
    leb-false (length c.args.lay.now.earlier.now) c.in-Call.group (rw c.in-Call.is at c.requires.placed) in
    let s = birth_site c.requires.ready (ap plain_expr c.in-Call.is) below c.before-inner.ensures c.members.ensures in
    let len : length c.before-inner.result.earlier.now ≡ c.in-Call.group = s.ready.group in
    (search (rules, len, below), s.ready)

pub opened-returns-in-Call : goal.opened-returns-in-Call
opened-returns-in-Call t c =
    let below : c.in-Call.group < length c.args.lay.now.earlier.now =
    leb-false (length c.args.lay.now.earlier.now) c.in-Call.group (rw c.in-Call.is at c.requires.placed) in
    let s = site c.requires.ready (ap plain_expr c.in-Call.is) below c.before-inner.ensures in
    let b = birth_site c.requires.ready (ap plain_expr c.in-Call.is) below c.before-inner.ensures c.members.ensures in
    record {
      opens = sym (s.same c.call_opened.new.row) ∙ c.call_opened.ensures.tree ∙ b.born;
      rest = c.call_opened.ensures.rest (size c.args.lay.now c.args.e.now) (s.room c.in-Call.member);
      dead = c.call_opened.ensures.dead ∙ ap (dead_of (gone_in c.args.gone.now)) b.born;
      size = search rules;
    }

pub two_opened-opened-left-requires : goal.two_opened-opened-left-requires
two_opened-opened-left-requires t c = grind (arith, inner_stands, inner_not_own)

pub two_opened-opened-right-requires : goal.two_opened-opened-right-requires
two_opened-opened-right-requires t c = grind (arith, inner_stands, inner_not_own)

pub lag_opened-opened-left-requires : goal.lag_opened-opened-left-requires
lag_opened-opened-left-requires t c = grind (arith, inner_stands, inner_not_own)

pub lag_opened-opened-right-requires : goal.lag_opened-opened-right-requires
lag_opened-opened-right-requires t c = grind (arith, inner_stands, inner_not_own)

pub one_opened-opened-born-requires : goal.one_opened-opened-born-requires
one_opened-opened-born-requires t c = grind (arith, inner_stands, inner_not_own)

pub then_opened-opened-born-requires : goal.then_opened-opened-born-requires
then_opened-opened-born-requires t c = grind (arith, inner_stands, inner_not_own)

pub then_opened-returns : goal.then_opened-returns
then_opened-returns t c = grind (arith, rest_one)

pub opened-returns-then-holds : goal.opened-returns-then-holds
opened-returns-then-holds t c = grind (arith, rest_one)

pub opened-returns-else-holds : goal.opened-returns-else-holds
opened-returns-else-holds t c = grind (arith, rest_one)

pub opened-then_opened-requires : goal.opened-then_opened-requires
opened-then_opened-requires t c = grind arith

pub opened-two_opened-requires : goal.opened-two_opened-requires
opened-two_opened-requires t c = grind arith

pub opened-one_opened-requires : goal.opened-one_opened-requires
opened-one_opened-requires t c = grind arith

pub opened-one_opened-requires-in-Await : goal.opened-one_opened-requires-in-Await
opened-one_opened-requires-in-Await t c = grind arith

pub opened-one_opened-requires-in-Filter : goal.opened-one_opened-requires-in-Filter
opened-one_opened-requires-in-Filter t c = grind arith

pub opened-lag_opened-requires : goal.opened-lag_opened-requires
opened-lag_opened-requires t c = grind arith

pub opened-opened-born-requires : goal.opened-opened-born-requires
opened-opened-born-requires t c = grind arith

pub opened-opened-born-requires-else-holds : goal.opened-opened-born-requires-else-holds
opened-opened-born-requires-else-holds t c = grind arith

pub one_opened-returns : goal.one_opened-returns
one_opened-returns t c = grind (arith, rest_one)
