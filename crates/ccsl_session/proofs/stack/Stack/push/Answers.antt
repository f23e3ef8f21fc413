use Rattle.std.proofs.Common.{◌≡◌, ◌+◌, ◌∷◌, ◌++◌, [], ap, arith, length, length-append}
use Rattle.ccsl_session.specs.Stack.{AreBehind}
use Rattle.ccsl_session.proofs.StackStates.{behind-more, copies-more, copies-same}
use Rattle.ccsl_session.proofs.stack.Stack.push.Goals as goal

pub returns-in_ok-push-2-clause-stands : goal.returns-in_ok-push-2-clause-stands
returns-in_ok-push-2-clause-stands c =
    let K = c.args.self.now.system.now in
    let R = c.args.self.now.sets.items in
    let s = c.args.set in
    let stands = c.requires.stands in
    let is = c.in_ok-push.ensures.items in
    let counted : c.len.result ≡ length R + 1 = omega (arith, c.args.self.now.sets.ok.0, c.in_ok-push.ensures.len) in
    let behind : AreBehind K (R ++ s ∷ []) c.advance.new.self =
    behind-more K R s c.args.self.now.states _ stands.states c.advance.ensures.system c.advance.ensures.stands (omega arith) in
    record {
      accepted = stands.accepted;
      few = omega (arith, ap length is, length-append R (s ∷ []));
      states = rw is behind;
      copies = rw (is, c.in_ok-push-2.ensures.items) (copies-more K R s c.args.self.now.copies.items c.in_ok-copy.field-0 stands.copies
          (rw c.in_ok-copy.ensures behind) (rw counted at c.if-len-eq0.true));
    }

pub returns-else-len-eq0-clause-stands : goal.returns-else-len-eq0-clause-stands
returns-else-len-eq0-clause-stands c =
    let K = c.args.self.now.system.now in
    let R = c.args.self.now.sets.items in
    let s = c.args.set in
    let stands = c.requires.stands in
    let is = c.in_ok-push.ensures.items in
    let counted : c.len.result ≡ length R + 1 = omega (arith, c.args.self.now.sets.ok.0, c.in_ok-push.ensures.len) in
    record {
      accepted = stands.accepted;
      few = omega (arith, ap length is, length-append R (s ∷ []));
      states = rw is (behind-more K R s c.args.self.now.states _ stands.states c.advance.ensures.system c.advance.ensures.stands (omega arith));
      copies = rw is (copies-same K R s c.args.self.now.copies.items stands.copies (rw counted at c.if-len-eq0.false));
    }
