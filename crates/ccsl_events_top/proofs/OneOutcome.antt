-- Of a file of events and a dump one thing is made.
use Rattle.std.proofs.Common.{◌≡◌, ℕ, ◌+◌, List, [], ◌++◌, length, Some, None, Result, Ok, Err, refl, sym, ap, subst, ◌∙◌}
use Rattle.ccsl_vcd.specs.declared.fault.VcdFault.{VcdFault}
use Rattle.ccsl_scopes.specs.Headings.{Heading}
use Rattle.ccsl_event_file.specs.declared.fault.EventFault.{EventFault}
use Rattle.ccsl_event_file.specs.File.{Event, events, fault, names_of}
use Rattle.ccsl_events.specs.declared.body.Gaps.{Gaps}
use Rattle.ccsl_events.specs.Binds.{seen_plan}
use Rattle.ccsl_events.specs.Dump.{Plan}
use Rattle.ccsl_events.specs.Opening.{ended}
use Rattle.ccsl_events.specs.Standing.{are_skipped}
use Rattle.ccsl_events.specs.Written.{header_text}
use Rattle.ccsl_events_top.specs.declared.stop.Stop.{Stop}
use Rattle.ccsl_events_top.specs.declared.stop.Stop.TheVariants as stops
use Rattle.ccsl_events_top.specs.Report.{status_of, line_of}
use Rattle.ccsl_events_top.specs.Reading.{opened, header_fault, end_fault, body_said, rows_of}
use Rattle.std.specs.declared.vec.Vec.{Vec}
use Rattle.std.specs.declared.alloc.Global.{Global}
use Rattle.ccsl_event_file.specs.declared.fault.EventFault.TheVariants as faults
use Rattle.ccsl_events_top.specs.Made.{reading_of, IsMade, IsPlanned, IsUnplanned, answered, no_events, no_header, no_path, rows}
use Rattle.ccsl_events_top.specs.OneOutcome.{OneIsMade}
use Rattle.ccsl_events_top.proofs.OneHeader.{some-one, one-meaning}
use Rattle.ccsl_events_top.proofs.OnePlan.{one-said, one-rows}

-- an answer is told by its status and its line
record IsAs (done other : Result (ℕ × ℕ) Stop) : Type 0 where
  status : status_of done ≡ status_of other
  line : line_of done ≡ line_of other

same-as : (done other : Result (ℕ × ℕ) Stop) → done ≡ other → IsAs done other
same-as done other e = record { status = ap status_of e; line = ap line_of e }

any-near : (f : EventFault) (near again : Vec ℕ Global) → status_of (Err (stops.Events f near)) ≡ status_of (Err (stops.Events f again))
any-near (faults.Syntax at) near again = refl
any-near (faults.Duplicate at) near again = refl
any-near (faults.Unknown at) near again = refl
any-near (faults.Ambiguous at) near again = refl
any-near (faults.NotOneBit at) near again = refl
any-near (faults.NoEvent at) near again = refl
any-near (faults.TooWide at) near again = refl
any-near faults.TooLong near again = refl
any-near faults.Memory near again = refl

events-as : (f g : EventFault) (near again : Vec ℕ Global) → f ≡ g → IsAs (Err (stops.Events f near)) (Err (stops.Events g again))
events-as f g near again e = record {
  status = ap (λ (x : EventFault). status_of (Err (stops.Events x near))) e ∙ any-near g near again;
  line = ap (λ (x : EventFault). line_of (Err (stops.Events x near))) e;
}

One : Result (ℕ × ℕ) Stop → Result (ℕ × ℕ) Stop → List ℕ → List ℕ → Type 0
One done other text again = (status_of done ≡ status_of other) × (line_of done ≡ line_of other) × (text ≡ again)

joined : (done other d o : Result (ℕ × ℕ) Stop) (text again a b : List ℕ) → done ≡ d → other ≡ o → text ≡ a → again ≡ b → IsAs d o → a ≡ b
    → One done other text again
unfolding One
joined done other d o text again a b e f x y s same =
    (ap status_of e ∙ s.status ∙ sym (ap status_of f), ap line_of e ∙ s.line ∙ sym (ap line_of f), x ∙ same ∙ sym y)

-- what is read is one
one-events : (text : List ℕ) (es fs : List Event) → reading_of text ≡ events es → reading_of text ≡ events fs → es ≡ fs
one-events text es fs e f = let g : events es ≡ events fs = sym e ∙ f in cc

one-fault : (text : List ℕ) (f g : EventFault) → reading_of text ≡ fault f → reading_of text ≡ fault g → f ≡ g
one-fault text f g e h = let k : fault f ≡ fault g = sym e ∙ h in cc

one-heading : (dump : List ℕ) (h k : Heading) (at to : ℕ) → opened dump ≡ ended h at → opened dump ≡ ended k to → (h ≡ k) × (at ≡ to)
one-heading dump h k at to e f = let g : ended h at ≡ ended k to = sym e ∙ f in (cc, cc)

-- a header that ends has no fault
no-fault : (dump : List ℕ) (f : VcdFault) (h : Heading) (at : ℕ) → header_fault (end_fault dump) (opened dump) ≡ Some f → opened dump ≡ ended h at → ⊥
no-fault dump f h at e k = let g : Some f ≡ None = sym e ∙ ap (header_fault (end_fault dump)) k in absurd (cc)

module _ (es : List Event) (h : Heading) (gaps : Gaps) where
  one-path-fault : (f g : EventFault) → IsUnplanned es h gaps f → IsUnplanned es h gaps g → f ≡ g
  one-path-fault f g u v =
      let e : Err f ≡ Err g =
      sym u.means ∙ one-meaning h u.header v.header u.declares v.declares es (are_skipped gaps) ∙ v.means in cc

  path-or-plan : (f : EventFault) (p : Plan) → IsUnplanned es h gaps f → IsPlanned es h gaps p → ⊥
  path-or-plan f p u v =
      let e : Err f ≡ Ok (seen_plan p) =
      sym u.means ∙ one-meaning h u.header v.header u.declares v.declares es (are_skipped gaps) ∙ v.means in absurd (cc)

  one-plan : (p q : Plan) → IsPlanned es h gaps p → IsPlanned es h gaps q → seen_plan p ≡ seen_plan q
  one-plan p q u v =
      let e : Ok (seen_plan p) ≡ Ok (seen_plan q) =
      sym u.means ∙ one-meaning h u.header v.header u.declares v.declares es (are_skipped gaps) ∙ v.means in cc

module _ (text dump : List ℕ) (gaps : Gaps) where
  both : (done other : Result (ℕ × ℕ) Stop) (a b : List ℕ) → IsMade text dump gaps done a → IsMade text dump gaps other b → One done other a b
  both done other a b (no_events f says near is nothing) (no_events g says' near' is' nothing') =
      joined done other _ _ a b [] [] is is' nothing nothing' (events-as f g near near' (one-fault text f g says says')) refl
  both done other a b (no_events f says near is nothing) (no_header es says' g heads is' nothing') =
      absurd (let k : fault f ≡ events es = sym says ∙ says' in cc)
  both done other a b (no_events f says near is nothing) (no_path es says' h at heads g unplanned near' is' nothing') =
      absurd (let k : fault f ≡ events es = sym says ∙ says' in cc)
  both done other a b (no_events f says near is nothing) (rows es says' h at heads plan planned is' writes) =
      absurd (let k : fault f ≡ events es = sym says ∙ says' in cc)
  both done other a b (no_header es says f heads is nothing) (no_events g says' near is' nothing') =
      absurd (let k : events es ≡ fault g = sym says ∙ says' in cc)
  both done other a b (no_header es says f heads is nothing) (no_header fs says' g heads' is' nothing') =
      let same : f ≡ g = some-one f g _ heads heads' in
      joined done other _ _ a b [] [] is is' nothing nothing' (same-as _ _ (ap (λ (x : VcdFault). Err (stops.Trace x)) same)) refl
  both done other a b (no_header es says f heads is nothing) (no_path fs says' h at heads' g unplanned near is' nothing') =
      absurd (no-fault dump f h at heads heads')
  both done other a b (no_header es says f heads is nothing) (rows fs says' h at heads' plan planned is' writes) =
      absurd (no-fault dump f h at heads heads')
  both done other a b (no_path es says h at heads f unplanned near is nothing) (no_events g says' near' is' nothing') =
      absurd (let k : events es ≡ fault g = sym says ∙ says' in cc)
  both done other a b (no_path es says h at heads f unplanned near is nothing) (no_header fs says' g heads' is' nothing') =
      absurd (no-fault dump g h at heads' heads)
  both done other a b (no_path es says h at heads f u near is nothing) (no_path fs says' k to heads' g v near' is' nothing') =
      let u' : IsUnplanned fs k gaps f =
      subst (λ (x : List Event). IsUnplanned x k gaps f) (one-events text es fs says says')
      (subst (λ (x : Heading). IsUnplanned es x gaps f) (one-heading dump h k at to heads heads').0 u) in
      joined done other _ _ a b [] [] is is' nothing nothing' (events-as f g near near' (one-path-fault fs k gaps f g u' v)) refl
  both done other a b (no_path es says h at heads f u near is nothing) (rows fs says' k to heads' plan planned is' writes) =
      absurd (path-or-plan fs k gaps f plan
      (subst (λ (x : List Event). IsUnplanned x k gaps f) (one-events text es fs says says')
      (subst (λ (x : Heading). IsUnplanned es x gaps f) (one-heading dump h k at to heads heads').0 u)) planned)
  both done other a b (rows es says h at heads plan planned is writes) (no_events g says' near is' nothing') =
      absurd (let k : events es ≡ fault g = sym says ∙ says' in cc)
  both done other a b (rows es says h at heads plan planned is writes) (no_header fs says' g heads' is' nothing') =
      absurd (no-fault dump g h at heads' heads)
  both done other a b (rows es says h at heads plan planned is writes) (no_path fs says' k to heads' g v near is' nothing') =
      absurd (path-or-plan fs k gaps g plan v
      (subst (λ (x : List Event). IsPlanned x k gaps plan) (one-events text es fs says says')
      (subst (λ (x : Heading). IsPlanned es x gaps plan) (one-heading dump h k at to heads heads').0 planned)))
  both done other a b (rows es says h at heads p planned is writes) (rows fs says' k to heads' q planned' is' writes') =
      let one = one-events text es fs says says' in
      let two = one-heading dump h k at to heads heads' in
      let moved : IsPlanned fs k gaps p =
      subst (λ (x : List Event). IsPlanned x k gaps p) one (subst (λ (x : Heading). IsPlanned es x gaps p) two.0 planned) in
      let seen = one-plan fs k gaps p q moved planned' in
      joined done other _ _ a b _ _ is is' writes writes'
      (same-as _ _
      (ap (λ (x : List Event). answered (length x) (body_said p (at + 1) dump)) one
      ∙ ap (λ (n : ℕ). answered (length fs) (body_said p (n + 1) dump)) two.1
      ∙ ap (answered (length fs)) (one-said p q seen (to + 1) dump)))
      (ap (λ (x : List Event). header_text h.timescale (names_of x) ++ rows_of p (at + 1) dump) one
      ∙ ap (λ (x : Heading). header_text x.timescale (names_of fs) ++ rows_of p (at + 1) dump) two.0
      ∙ ap (λ (n : ℕ). header_text k.timescale (names_of fs) ++ rows_of p (n + 1) dump) two.1
      ∙ ap (λ (xs : List ℕ). header_text k.timescale (names_of fs) ++ xs) (one-rows p q seen (to + 1) dump))

pub one-is-made : OneIsMade
unfolding One
one-is-made text dump gaps done other a b x y = both text dump gaps done other a b x y
