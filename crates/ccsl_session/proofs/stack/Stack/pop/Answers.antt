use Rattle.std.proofs.Common.{◌≡◌, ◌+◌, ◌-◌, ◌/◌, length, take, vec_len, ap, ◌∙◌, arith, length-take}
use Rattle.ccsl_session.specs.Stack.{AreCopies}
use Rattle.ccsl_session.proofs.StackStates.{copies-less}
use Rattle.ccsl_session.proofs.stack.Stack.pop.Goals as goal
use Rattle.ccsl_session.proofs.stack.Stack.pop.Goals.{After-truncate}

-- the copies behind one set less
copies : (c : goal.After-truncate) → AreCopies c.args.self.now.system.now c.pop.new.self.items c.truncate.new.self.items
copies c =
    let R = c.args.self.now.sets in
    let left = c.pop.new.self in
    let all = c.args.self.now.copies in
    let before = c.requires.copies in
    let m = c.len.result / 256 + 1 in
    let some = c.pop.ensures.variant.0 c.if-is_none.ensures in
    let rest : left.items ≡ take (length R.items - 1) R.items = c.pop.ensures.rest ∙ ap (λ n. take (n - 1) R.items) R.ok.0 in
    let less : c.len.result ≡ length R.items - 1 = omega (arith, left.ok.0, ap length rest, length-take (length R.items - 1) R.items) in
    copies-less c.args.self.now.system.now R.items left.items all.items c.truncate.new.self.items m before
    rest
    (omega (arith, some, R.ok.0))
    c.truncate.ensures.items
    (ap (λ n. n / 256 + 1) less)
    (omega (arith, before.count, less))

pub replayed-requires-clause-copies : goal.replayed-requires-clause-copies
replayed-requires-clause-copies c = copies c

pub returns-clause-stands : goal.returns-clause-stands
returns-clause-stands c = record {
  accepted = c.requires.accepted;
  few = omega (arith, ap length c.pop.ensures.rest, length-take (vec_len c.args.self.now.sets - 1) c.args.self.now.sets.items);
  states = c.in_ok-self.ensures;
  copies = copies (goal.at.returns-clause-stands c).After-truncate;
}
