use Rattle.std.proofs.Common.{◌≡◌, true, false, Bool, sym, ap, ◌∙◌}
use Rattle.ccsl_triggers.specs.Held.{Held, held}
use Rattle.ccsl_events.specs.Keeping.{put_touched}
use Rattle.ccsl_events.proofs.Slices.{one-set}
use Rattle.ccsl_events.proofs.values.Values.set_one.Goals as goal

pub returns-in_ok-push-clause-kept : goal.returns-in_ok-push-clause-kept
returns-in_ok-push-clause-kept c =
    let was : (held c.index_mut-signal.result.now).touched ≡ false = sym (ap (λ h. h.touched) c.in_ok-set.ensures) ∙ c.if-not-signal.true in
    one-set c.args.self.now.signals.items c.args.number c.index_mut-signal.result.now _
    c.args.self.now.touched.items c.push.new.self.items c.args.letters.now c.args.is_dumped
    c.requires c.index_mut-signal.ensures.value (ap (λ (h : Held). record h { touched = true }) c.in_ok-set.ensures)
    (c.in_ok-push.ensures.items ∙ ap (λ (b : Bool). put_touched c.args.number b c.args.self.now.touched.items) (sym was))

pub returns-else-not-signal-clause-kept : goal.returns-else-not-signal-clause-kept
returns-else-not-signal-clause-kept c =
    let was : (held c.index_mut-signal.result.now).touched ≡ true = sym (ap (λ h. h.touched) c.in_ok-set.ensures) ∙ c.if-not-signal.false in
    one-set c.args.self.now.signals.items c.args.number c.index_mut-signal.result.now c.set.new.self
    c.args.self.now.touched.items c.args.self.now.touched.items c.args.letters.now
    c.args.is_dumped c.requires c.index_mut-signal.ensures.value
    (ap (λ (b : Bool). record (held c.set.new.self) { touched = b }) c.if-not-signal.false ∙ ap (λ (h : Held). record h { touched = true }) c.in_ok-set.ensures)
    (ap (λ (b : Bool). put_touched c.args.number b c.args.self.now.touched.items) (sym was))
