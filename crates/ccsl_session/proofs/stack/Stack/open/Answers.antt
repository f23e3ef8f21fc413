use Rattle.std.proofs.Common.{◌≡◌, ◌∙◌, List, [], ◌∷◌, ◌++◌, ap}
use Rattle.ccsl_state.specs.Held.{Held}
use Rattle.ccsl_session.proofs.StackStates.{stands-none}
use Rattle.ccsl_session.proofs.stack.Stack.open.Goals as goal

pub returns-clause-stands : goal.returns-clause-stands
returns-clause-stands c =
    let copy : c.in_ok-copy.field-0 ≡ c.in_ok-states.states = c.in_ok-copy.ensures in
    let copies : c.push.new.self.items ≡ c.in_ok-states.states ∷ [] =
    c.in_ok-push.ensures.items
    ∙ ap (λ (hs : List Held). hs ++ c.in_ok-copy.field-0 ∷ []) c.new-copies.ensures.items
    ∙ ap (λ (h : Held). h ∷ []) copy in
    stands-none _ c.is_accepted.ensures c.new.ensures.items (record { system = c.in_ok-states.ensures.system; stands = c.in_ok-states.ensures.stands }) copies
