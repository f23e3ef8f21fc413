use Rattle.std.proofs.Common.{◌<◌, length, false, refl, sym, ap, ◌∙◌, arith}
use Rattle.std.proofs.lemmas.List.{length-map}
use Rattle.ccsl_base.proofs.Cases.{none-of}
use Rattle.ccsl_triggers.specs.Held.{held, set_held}
use Rattle.ccsl_events.specs.Keeping.{sole_at}
use Rattle.ccsl_events.proofs.Kept.{keeps-record}
use Rattle.ccsl_events.proofs.Slices.{held_at-map, replaced-map}
use Rattle.ccsl_events.proofs.values.Values.record.Goals as goal

pub returns-clause-keeps : goal.returns-clause-keeps
returns-clause-keeps c sure plan views code k knows =
    let v = c.args.self.now in
    let letters = c.args.letters.now in
    let number = c.args.first in
    let l : number < length v.signals.items = omega (arith, c.if-number-len.false, c.len.ensures) in
    rw c.if-is_dumped.false
    (keeps-record plan views v _ code letters number c.in-Some.name k
    (record { codes = refl; users = refl; watches = refl; none = refl; sole_names = refl })
    (replaced-map (set_held letters false) v.signals.items number c.index_mut.result.now c.set.new.self l c.index_mut.ensures.value c.in_ok-set.ensures)
    refl c.insert.ensures
    (omega (arith, l, length-map v.signals.items held))
    (ap (λ h. h.next) (held_at-map v.signals.items number c.index.result.now l c.index.ensures)
    ∙ none-of c.index.result.now.next (sym c.is_some.ensures ∙ c.if-is_some.false))
    (ap (λ names. sole_at names number) (sym c.as_slice.ensures.value) ∙ sym c.sole_at.ensures ∙ c.in-Some.is)
    knows.1)
