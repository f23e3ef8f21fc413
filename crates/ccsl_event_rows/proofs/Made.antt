-- What the program makes reads back.
use Rattle.std.proofs.Common.{◌≡◌, ◌⊎◌, ◌≤◌, ◌<◌, ℕ, ◌+◌, List, [], ◌++◌, length, filter, drop, map, Bool, true, false, cond, inl, inr, refl, sym, ap, subst}
use Rattle.std.proofs.Common.{◌∙◌}
use Rattle.std.proofs.Common.{Option, Some, None, Result, Ok, Err}
use Rattle.std.proofs.lemmas.Bool.{cases_lt, lt-ltb}
use Rattle.ccsl_base.specs.declared.limits.TheConstants.{MAX_FILE_BYTES, MAX_SPEC_BYTES}
use Rattle.ccsl_kernel.specs.Syntax.{System}
use Rattle.ccsl_vcd_lex.specs.Tokens.{heard}
use Rattle.ccsl_vcd.specs.declared.fault.VcdFault.{VcdFault}
use Rattle.ccsl_vcd.specs.declared.fault.VcdFault.TheVariants as faults
use Rattle.ccsl_vcd.specs.declared.limits.Limits.{Limits}
use Rattle.ccsl_vcd.specs.Rows.{has_ticks}
use Rattle.ccsl_event_file.specs.declared.fault.EventFault.TheVariants.{TooLong}
use Rattle.ccsl_event_file.specs.File.{Event, Reading, events, fault, reading, names_of}
use Rattle.ccsl_events.specs.declared.body.Gaps.{Gaps}
use Rattle.ccsl_events.specs.Dump.{Plan, Place, Said, goes, refused, ends_at, body_says}
use Rattle.ccsl_events.specs.Opening.{opening, ended}
use Rattle.ccsl_events.specs.Standing.{are_skipped, counted}
use Rattle.ccsl_events.specs.Written.{header_text}
use Rattle.ccsl_events_top.specs.Made.{reading_of, IsMade, answered, no_events, no_header, no_path, rows}
use Rattle.ccsl_vcd.specs.declared.limits.TheConstants.{LIMITS}
use Rattle.ccsl_events_top.specs.Reading.{opened, body_ends, story_behind, body_said, rows_at, rows_of}
use Rattle.ccsl_events_top.proofs.WholeDump.{header-is-read, body-is-read}
use Rattle.ccsl_event_rows.specs.ReadsBack.{IsPlanned, MayBeRead, ReadsAs}
use Rattle.ccsl_event_rows.specs.Times.{heard_from, times}
use Rattle.ccsl_event_rows.specs.Planned.{WhatIsReadMayBeWritten}
use Rattle.ccsl_event_rows.specs.Made.{IsReadBack, WhatIsMadeReadsBack}
use Rattle.ccsl_event_rows.proofs.ReadBack.{events-read-back, times-are-counted}
use Rattle.ccsl_event_rows.proofs.Planned.{names-read, plan-length}
use Rattle.ccsl_event_rows.proofs.Timescales.{timescale-read}

-- events that are read are those of the whole file
read-whole : (file : List ℕ) (es : List Event) (b : Bool) → cond b (fault TooLong) (reading file) ≡ events es → reading file ≡ events es
read-whole file es true e = absurd (let k : fault TooLong ≡ events es = e in cc)
read-whole file es false e = e

-- a body that ends well is of a dump within the limit
within : (plan : Plan) (start : ℕ) (dump : List ℕ) (q : Place) → body_said plan start dump ≡ goes q → length dump ≤ MAX_FILE_BYTES
within plan start dump q e = go (cases_lt MAX_FILE_BYTES (length dump)) (story_behind plan start dump).fault refl
  where
    long : (f : Option VcdFault) → (story_behind plan start dump).fault ≡ f → MAX_FILE_BYTES < length dump → (g : VcdFault) × (goes q ≡ refused g)
    long None k l = (
      faults.TooLong MAX_FILE_BYTES,
      sym e ∙ ap (body_ends plan dump (story_behind plan start dump).place) k
          ∙ ap (λ (w : Bool). cond w (refused (faults.TooLong MAX_FILE_BYTES)) (ends_at plan (length dump) (story_behind plan start dump).place))
          (lt-ltb MAX_FILE_BYTES (length dump) l),
    )
    long (Some f) k l = (f, sym e ∙ ap (body_ends plan dump (story_behind plan start dump).place) k)

    go : (MAX_FILE_BYTES < length dump) ⊎ (length dump ≤ MAX_FILE_BYTES) → (f : Option VcdFault) → (story_behind plan start dump).fault ≡ f
        → length dump ≤ MAX_FILE_BYTES
    go (inr l) f k = l
    go (inl l) f k = let no = long f k l in absurd (let c : goes q ≡ refused no.0 = no.1 in cc)

pub what-is-made-reads-back : WhatIsMadeReadsBack
what-is-made-reads-back file dump gaps counts text (no_events f says near is none) = absurd (cc)
what-is-made-reads-back file dump gaps counts text (no_header es says f heads is none) = absurd (cc)
what-is-made-reads-back file dump gaps counts text (no_path es says h at heads f unplanned near is none) = absurd (cc)
what-is-made-reads-back file dump gaps counts text (rows es says h at heads plan planned is writes) =
    go (body_said plan (at + 1) dump) refl is
  where
    whole : (q : Place) → body_said plan (at + 1) dump ≡ goes q → counts ≡ (length es, counted q.times) → IsReadBack file dump gaps counts text
    whole q e c =
        let few = within plan (at + 1) dump q e in
        let body : body_says plan (at + 1) (length dump) (drop (at + 1) dump) ≡ goes q = sym (body-is-read plan (at + 1) dump few) ∙ e in
        let ends : opening LIMITS (heard dump) ≡ ended h at = sym (header-is-read dump few) ∙ heads in
        let whole_file = read-whole file es _ says in
        let fits : IsPlanned plan h.timescale (names_of es) =
        record {
          event_names = names-read file es whole_file;
          watches = plan-length es planned.header.variables.items planned.header.codes (are_skipped gaps) plan planned.means;
          scale = timescale-read LIMITS dump h at ends;
        } in
        let written : text ≡ header_text h.timescale (names_of es) ++ q.written =
        writes ∙ ap (λ (s : Said). header_text h.timescale (names_of es) ++ rows_at (story_behind plan (at + 1) dump).place s) e in
        record {
          es = es;
          says = says;
          heading = h;
          at = at;
          heads = heads;
          plan = plan;
          planned = planned;
          names = ap (λ (p : ℕ × ℕ). p.0) c;
          times_are = ap (λ (p : ℕ × ℕ). p.1) c ∙ ap counted (times-are-counted plan (at + 1) (length dump) (drop (at + 1) dump) q body);
          reads = λ K limits may.
              rw written
              (events-read-back K limits plan h.timescale (names_of es) fits (at + 1) (length dump) (drop (at + 1) dump) q body
              (subst (MayBeRead K limits (names_of es)) written may));
        }

    go : (s : Said) → body_said plan (at + 1) dump ≡ s → Ok counts ≡ answered (length es) (body_said plan (at + 1) dump)
        → IsReadBack file dump gaps counts text
    go (goes q) e k =
        let c : counts ≡ (length es, counted q.times) = (let o : Ok counts ≡ Ok (length es, counted q.times) = k ∙ ap (answered (length es)) e in cc) in
        whole q e c
    go (refused f) e k = absurd (let o : Ok counts ≡ answered (length es) (refused f) = k ∙ ap (answered (length es)) e in cc)
