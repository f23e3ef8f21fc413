use Rattle.std.proofs.Common.{Some, None, sym, ap, ◌∙◌}
use Rattle.std.specs.List.{slice_get}
use Rattle.ccsl_bind.specs.Bindings.{Bindings, is_bound_event}
use Rattle.ccsl_bind.specs.Slots.{slot_of}
use Rattle.ccsl_bind.proofs.Binds.{event-is}
use Rattle.ccsl_bind.proofs.binding.Binding.is_event.Goals as goal

pub returns-in-Some : goal.returns-in-Some
returns-in-Some c =
    sym (ap (λ (v : Bindings). is_bound_event v c.args.clock) (sym c.self.view_is)
    ∙ event-is c.args.clock c.self.inside.codes c.self.inside.slots.items (Some c.in-Some.slot)
    (ap (λ xs. slot_of (slice_get xs c.args.clock)) (sym c.as_slice.ensures.value) ∙ sym c.in-Some.ensures))

pub returns-in-None : goal.returns-in-None
returns-in-None c =
    sym (ap (λ (v : Bindings). is_bound_event v c.args.clock) (sym c.self.view_is)
    ∙ event-is c.args.clock c.self.inside.codes c.self.inside.slots.items None
    (ap (λ xs. slot_of (slice_get xs c.args.clock)) (sym c.as_slice.ensures.value) ∙ sym c.in-None.ensures))
