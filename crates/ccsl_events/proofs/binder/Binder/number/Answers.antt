use Rattle.std.proofs.Common.{refl, ap, sym, ◌∙◌}
use Rattle.ccsl_events.specs.Binding.{number_in}
use Rattle.ccsl_events.proofs.Bindings.{binds-known, binds-new}
use Rattle.ccsl_events.proofs.binder.Binder.number.Goals as goal

pub returns-in_ok-push : goal.returns-in_ok-push
returns-in_ok-push c =
    let old = c.args.self.now.sources in
    binds-new old.items c.push.new.self.items c.args.source c.number_in-number.result
    (c.number_in-number.ensures ∙ ap (λ xs. number_in xs c.args.source) c.as_slice.ensures.value)
    (c.if-number-len.true ∙ c.len.ensures ∙ old.ok.0) c.in_ok-push.ensures.items

pub returns-else-number-len : goal.returns-else-number-len
returns-else-number-len c =
    let old = c.args.self.now.sources in
    binds-known old.items old.items c.args.source c.number_in-number.result
    (c.number_in-number.ensures ∙ ap (λ xs. number_in xs c.args.source) c.as_slice.ensures.value)
    (λ e. c.if-number-len.false (e ∙ sym old.ok.0 ∙ sym c.len.ensures)) refl
