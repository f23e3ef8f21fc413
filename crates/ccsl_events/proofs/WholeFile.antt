-- A whole file of events is bound.
use Rattle.std.proofs.Common.{◌≡◌, ◌⊎◌, inl, inr, ℕ, List, [], length, map, Bool, true, Result, Ok, Err, refl, sym, ap, ◌∙◌}
use Rattle.std.specs.List.{list_any, flat_map}
use Rattle.std.specs.declared.vec.Vec.{Vec}
use Rattle.std.specs.declared.alloc.Global.{Global}
use Rattle.std.proofs.lemmas.List.{append-nil, length-map}
use Rattle.ccsl_scopes.specs.declared.variable.Variable.{Variable}
use Rattle.ccsl_scopes.specs.Codes.{are_declared}
use Rattle.ccsl_event_file.specs.declared.event.Event.{Event}
use Rattle.ccsl_event_file.specs.declared.fault.EventFault.{EventFault}
use Rattle.ccsl_event_file.specs.declared.fault.EventFault.TheVariants as faults
use Rattle.ccsl_event_file.specs.Parsing.{event_in}
use Rattle.ccsl_triggers.specs.declared.watch.Watch as made
use Rattle.ccsl_events.specs.declared.binder.Source.{Source}
use Rattle.ccsl_events.specs.declared.body.Body.{Body}
use Rattle.ccsl_events.specs.declared.body.Gaps.{Gaps}
use Rattle.ccsl_events.specs.Dump.{begin}
use Rattle.ccsl_events.specs.Standing.{are_skipped, Stands}
use Rattle.ccsl_events.specs.Binding.{Watch, each, watch, watch_with, read_by, is_same, number_in, different, numbered, bound}
use Rattle.ccsl_events.specs.Binding as b
use Rattle.ccsl_events.specs.Binds.{seen_watch, seen_watches, with_sources, BindsWatches}
use Rattle.ccsl_events.specs.Begun.{plan_of, StandsFor, Begins}
use Rattle.ccsl_events.specs.Links.{are_coded, are_within}
use Rattle.ccsl_events.proofs.Sources.{with_sources-different, with_sources-all, among-read}
use Rattle.ccsl_events.proofs.Meanings.{events-coded, each-length, triggers-within}

-- the meanings that were found
pub record AreMeanings (r : Result (List (Watch Source)) EventFault) (ws : List made.Watch) (sources : List Source) : Type 0 where
  pub meanings : List (Watch Source)
  pub means : r ≡ Ok meanings
  pub reads : sources ≡ with_sources [] (flat_map read_by meanings)
  pub watches : seen_watches ws ≡ map (watch_with (number_in sources)) meanings

pub found-meanings : (r : Result (List (Watch Source)) EventFault) (ws : Vec made.Watch Global) (sources : List Source) → BindsWatches (Ok ws) r [] sources
    → AreMeanings r ws.items sources
found-meanings (Ok ms) ws sources binds = record {
  meanings = ms;
  means = refl;
  reads = binds.reads;
  watches = binds.means [] ∙ ap (λ ss. map (watch_with (number_in ss)) ms) (append-nil sources);
}
found-meanings (Err f) ws sources binds = absurd binds

module _ (es : List Event) (vs : List Variable) (codes : List (List ℕ)) (gaps : Gaps) (ws : Vec made.Watch Global) (sources : List Source)
    (m : AreMeanings (each (watch vs) (map event_in es)) ws.items sources) where
  pub bound-few : length ws.items ≡ length es
  bound-few =
      sym (length-map ws.items seen_watch) ∙ ap length m.watches ∙ length-map m.meanings (watch_with (number_in sources))
      ∙ each-length (watch vs) (map event_in es) m.meanings m.means ∙ length-map es event_in

  pub bound-coded : are_declared (length codes) vs ≡ true → are_coded (length codes) sources ≡ true
  bound-coded e =
      ap (are_coded (length codes)) m.reads
      ∙ with_sources-all _ [] (flat_map read_by m.meanings) refl (events-coded vs (length codes) e (map event_in es) m.meanings m.means)

  pub bound-within : are_within (length sources) ws.items ≡ true
  bound-within =
      triggers-within sources ws.items m.meanings m.watches
      (λ s e. ap (list_any (is_same s)) m.reads ∙ among-read [] (flat_map read_by m.meanings) s e)

  pub bound-stands : (body : Body) → Stands (plan_of codes sources ws gaps) begin body → StandsFor (bound (map event_in es) vs codes (are_skipped gaps)) body
  unfolding bound
  bound-stands body stands = record {
    plan = plan_of codes sources ws gaps;
    means =
        ap (b.made (λ ms. numbered codes (are_skipped gaps) (different (flat_map read_by ms)) ms)) m.means
        ∙ ap (λ ss. Ok (numbered codes (are_skipped gaps) ss m.meanings)) (sym (m.reads ∙ with_sources-different (flat_map read_by m.meanings)))
        ∙ ap (λ us. Ok (record { codes = codes; variables = map (b.variable_of codes) sources; watches = us; skips = are_skipped gaps })) (sym m.watches);
    stands = stands;
  }

-- or this is the first fault
pub fault-bound : (es : List Event) (vs : List Variable) (codes : List (List ℕ)) (skips : Bool) (f : EventFault) (new : List Source) →
    BindsWatches (Err f) (each (watch vs) (map event_in es)) [] new → Begins (Err f) (bound (map event_in es) vs codes skips)
unfolding bound
fault-bound es vs codes skips f new binds = by (each (watch vs) (map event_in es)) binds
  where
    by : (r : Result (List (Watch Source)) EventFault) → BindsWatches (Err f) r [] new →
        (b.made (λ ms. numbered codes skips (different (flat_map read_by ms)) ms) r ≡ Err f) ⊎ (f ≡ faults.Memory)
    by (Ok ms) memory = inr memory
    by (Err g) (inl same) = inl (ap (λ h. Err h) (sym same))
    by (Err g) (inr memory) = inr memory
