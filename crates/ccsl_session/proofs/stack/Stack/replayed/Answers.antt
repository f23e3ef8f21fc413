use Rattle.std.proofs.Common.{◌≡◌, ◌-◌, ◌*◌, length, drop, slice_get, Some, refl, sym, ap, ◌∙◌, subst, arith, take}
use Rattle.std.proofs.lemmas.List.{take_rest}
use Rattle.std.proofs.lemmas.Option.{slice_get_read}
use Rattle.ccsl_session.specs.Stack.{AreBehind}
use Rattle.ccsl_session.proofs.StackStates.{replayed}
use Rattle.ccsl_session.proofs.stack.Stack.replayed.Goals as goal

pub returns : goal.returns
returns c =
    let K = c.args.self.now.system.now in
    let R = c.args.self.now.sets.items in
    let copies = c.args.self.now.copies in
    let k = c.len-last.result - 1 in
    let copy = c.index.result.now in
    let last : slice_get copies.items k ≡ Some copy =
    slice_get_read copies.items (length copies.items) k copy refl (omega (arith, copies.ok.0, c.requires.copies.count)) c.index.ensures in
    let states = c.in_ok-states.states in
    let behind : AreBehind K (take (k * 256) R) states =
    subst (AreBehind K (take (k * 256) R)) (sym c.in_ok-states.ensures) (c.requires.copies.each k copy last) in
    replayed K R _ (k * 256) states c.go_on.new.states behind (take_rest c.deref.result.now (k * 256) ∙ ap (drop (k * 256)) c.deref.ensures.value)
    c.go_on.ensures.system c.go_on.ensures.stands (omega arith)
