use Rattle.std.proofs.Common.{◌<◌, ◌++◌, length, map, take, drop, slice_set, sym, ap, ◌∙◌, add-one, arith}
use Rattle.std.proofs.lemmas.List.{map-set, length-map}
use Rattle.ccsl_triggers.specs.Held.{held, forget_held}
use Rattle.ccsl_events.specs.Keeping.{held_at}
use Rattle.ccsl_events.proofs.Slices.{held_at-map, forget-more}
use Rattle.ccsl_events.proofs.values.forget_all.Goals as goal

pub loop-signal-preserved : goal.loop-signal-preserved
loop-signal-preserved c =
    let ys = c.loop-signal.signal-items in
    let xs = map held c.args.signals.now in
    let i = c.loop-signal.signal-index in
    let here : i < length ys = omega (arith, c.loop-signal-test.true, c.loop-signal.auto.signal-items) in
    map-set held ys i c.forget.new.self
    ∙ ap (slice_set (map held ys) i) (c.forget.ensures ∙ ap (λ s. forget_held (held s)) (sym c.signal-item.is)
    ∙ ap forget_held (sym (held_at-map ys i c.signal-item.result here c.signal-item.is)))
    ∙ ap (λ hs. slice_set hs i (forget_held (held_at hs i))) c.loop-signal.invariant
    ∙ forget-more xs i (omega (arith, c.loop-signal-test.true, length-map c.args.signals.now held))
    ∙ ap (λ n. map forget_held (take n xs) ++ drop n xs) (sym (add-one i))
