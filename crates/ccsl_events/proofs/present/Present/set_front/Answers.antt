use Rattle.std.proofs.Common.{inl, inr, sym, ap, ◌∙◌}
use Rattle.ccsl_triggers.specs.Output.{time_line}
use Rattle.ccsl_events.proofs.Canonical.{decimal-front}
use Rattle.ccsl_events.proofs.present.Present.set_front.Goals as goal

pub invariant_of-self : goal.invariant_of-self
invariant_of-self c =
    c.set_front.ensures
    ∙ ap time_line (sym (decimal-front c.args.digits.count c.args.digits.time c.args.bytes.now c.requires
    (λ e. elim c.if-digits-ne1.either [
      | inl h ↦ h.1
      | inr h ↦ absurd (h e)
    ])))
