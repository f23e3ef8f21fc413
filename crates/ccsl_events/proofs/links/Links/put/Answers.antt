use Rattle.std.proofs.Common.{◌≡◌, ◌++◌, ◌∷◌, [], ℕ, Option, slice_get, List, map, slice_set, sym, ap, ap₂, subst, ◌∙◌, arith}
use Rattle.std.proofs.lemmas.List.{map-append, length-map}
use Rattle.ccsl_triggers.specs.Held.{Held, held}
use Rattle.ccsl_events.specs.declared.codes.Entry.TheVariants.{Used}
use Rattle.ccsl_events.specs.Links.{first_in, IsLinked}
use Rattle.ccsl_events.proofs.Linking.{linked-more}
use Rattle.ccsl_events.proofs.links.Links.put.Goals as goal
use Rattle.ccsl_events.proofs.Tables.{got}

pub returns : goal.returns
returns c = λ codes sources k.
    let old = c.args.self.now in
    let code = c.args.source.code in
    let next : c.first_of-signal.result ≡ first_in (slice_get old.entries.items code) =
    c.first_of-signal.ensures ∙ ap first_in (sym (got old.entries.items code c.index.result.now c.requires.coded c.index.ensures)) in
    let new = ap₂ (λ (h : Held) (n : Option ℕ). record h { next = n }) c.in_ok-signal.ensures next in
    let one : Held = record (held c.in_ok-signal.signal) { next = c.first_of-signal.result } in
    subst (λ (hs : List Held). IsLinked codes (sources ++ c.args.source ∷ []) hs (slice_set old.entries.items code (Used c.len-number.result)))
    (sym (ap (map held) c.in_ok-push.ensures.items ∙ map-append held old.signals.items (record c.in_ok-signal.signal { next = c.first_of-signal.result } ∷ [])))
    (subst (λ (n : ℕ). IsLinked codes (sources ++ c.args.source ∷ []) (map held old.signals.items ++ one ∷ []) (slice_set old.entries.items code (Used n)))
    (length-map old.signals.items held ∙ sym old.signals.ok.0 ∙ sym c.len-number.ensures)
    (linked-more codes sources (map held old.signals.items) old.entries.items c.args.source one k (omega (arith, c.requires.coded, k.len)) new))
