use Rattle.std.proofs.Common.{sym, ap, ◌∙◌}
use Rattle.std.specs.List.{slice_get}
use Rattle.ccsl_bind.specs.Bindings.{Bindings, code_number}
use Rattle.ccsl_bind.specs.Slots.{slot_of}
use Rattle.ccsl_bind.proofs.Binds.{code-some, code-none}
use Rattle.ccsl_bind.proofs.binding.Binding.code_of.Goals as goal

pub returns-in-Some : goal.returns-in-Some
returns-in-Some c =
    sym (ap (λ (v : Bindings). code_number v c.args.clock) (sym c.self.view_is)
    ∙ code-some c.args.clock c.self.inside.codes c.self.inside.slots.items c.in-Some.slot c.self.invariant.1
    (ap (λ xs. slot_of (slice_get xs c.args.clock)) (sym c.as_slice.ensures.value) ∙ sym c.in-Some.ensures))

pub returns-in-None : goal.returns-in-None
returns-in-None c =
    sym (ap (λ (v : Bindings). code_number v c.args.clock) (sym c.self.view_is)
    ∙ code-none c.args.clock c.self.inside.codes c.self.inside.slots.items
    (ap (λ xs. slot_of (slice_get xs c.args.clock)) (sym c.as_slice.ensures.value) ∙ sym c.in-None.ensures))
