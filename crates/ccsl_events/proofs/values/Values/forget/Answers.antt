use Rattle.std.proofs.Common.{List, length, map, refl, sym, ap, ◌∙◌}
use Rattle.std.proofs.lemmas.List.{with_items_is}
use Rattle.ccsl_triggers.specs.Held.{Held, held, forget_held}
use Rattle.ccsl_events.proofs.Kept.{keeps-forgotten}
use Rattle.ccsl_events.proofs.values.Values.forget.Goals as goal

pub returns : goal.returns
returns c plan views k =
    let old = c.args.self.now.signals in
    let items = with_items_is old c.forget_all.new.signals (c.forget_all.auto.signals ∙ ap length c.as_mut_slice.ensures.value ∙ sym old.ok.0) in
    keeps-forgotten plan views c.args.self.now _ k (record { codes = refl; users = refl; watches = refl; none = refl; sole_names = refl })
    (ap (λ (hs : List Held). record { all = hs; touched = c.args.self.now.touched.items })
    (ap (map held) items ∙ c.forget_all.ensures ∙ ap (λ ss. map forget_held (map held ss)) c.as_mut_slice.ensures.value))
    (c.copy_from.ensures ∙ k.none)
