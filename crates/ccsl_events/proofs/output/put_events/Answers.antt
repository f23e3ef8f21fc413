use Rattle.std.proofs.Common.{◌≡◌, ℕ, ◌+◌, ◌<◌, ◌∷◌, ◌++◌, List, length, drop, get_or, sym, ap, ◌∙◌, append_assoc, suc, arith, rules}
use Rattle.std.proofs.Math.Seq.{drop-cons}
use Rattle.ccsl_event_file.specs.declared.event.Event.{Event}
use Rattle.ccsl_events.specs.Written.{event_line, event_lines, names_of}
use Rattle.ccsl_events.proofs.output.put_events.Goals as goal

-- the line of the next name goes over to what is written
one-more : (i number : ℕ) (events : List Event) (e : Event) (name out new all : List ℕ) → i < length events → e ≡ get_or events i e → name ≡ e.name.items
    → number ≡ i → new ≡ out ++ event_line number name → out ++ event_lines i (names_of (drop i events)) ≡ all
    → new ++ event_lines (i + 1) (names_of (drop (i + 1) events)) ≡ all
one-more i number events e name out new all l item named counts put writes =
    let more : suc i ≡ i + 1 = omega arith in
    let next : drop i events ≡ e ∷ drop (i + 1) events =
    drop-cons events i e l ∙ ap (λ (k : ℕ). get_or events i e ∷ drop k events) more ∙ ap (λ (x : Event). x ∷ drop (i + 1) events) (sym item) in
    ap (λ (xs : List ℕ). xs ++ event_lines (i + 1) (names_of (drop (i + 1) events)))
    (put ∙ ap (λ (n : ℕ). out ++ event_line n name) counts ∙ ap (λ (xs : List ℕ). out ++ event_line i xs) named)
    ∙ append_assoc out (event_line i e.name.items) (event_lines (i + 1) (names_of (drop (i + 1) events)))
    ∙ ap (λ (es : List Event). out ++ event_lines i (names_of es)) (sym next) ∙ writes

pub loop-event-preserved : goal.loop-event-preserved
loop-event-preserved c = record {
  counts = omega (arith, c.loop-event.invariant.counts);
  writes =
      one-more c.loop-event.event-index c.loop-event.number c.args.events.now c.event-item.result c.as_slice.result.now c.loop-event.out.items
      c.put_event.new.out.items _ c.loop-event-test.true c.event-item.is c.as_slice.ensures.value c.loop-event.invariant.counts
      c.in_ok-put_event.ensures c.loop-event.invariant.writes;
}

pub loop-event-init : goal.loop-event-init
loop-event-init c = search rules
