-- THE LAWS: what is written of a dump's events reads back.
use Rattle.std.proofs.Common.{◌≡◌, ℕ, ◌+◌, ◌≤◌, List, [], ◌∷◌, ◌++◌, length, map, filter, take, fold, true, false, ◌&&◌, cond, Option}
use Rattle.std.proofs.Common.{Some, None, refl, sym, ap, ap₂, ◌∙◌, arith, append_assoc, subst}
use Rattle.std.specs.List.{list_all}
use Rattle.std.proofs.lemmas.Bool.{and_parts, le-ltb}
use Rattle.std.proofs.lemmas.List.{map-append}
use Rattle.ccsl_base.specs.declared.rows.Row.{Row}
use Rattle.ccsl_base.specs.Name.{is_name}
use Rattle.ccsl_base.specs.Names.{is_among, are_distinct}
use Rattle.ccsl_kernel.specs.Syntax.{System}
use Rattle.ccsl_kernel.specs.Verdict.{verdict}
use Rattle.ccsl_vcd_lex.specs.Tokens.{Heard, word, hear, heard, tokens_from}
use Rattle.ccsl_vcd.specs.declared.fault.VcdFault.{VcdFault}
use Rattle.ccsl_vcd.specs.declared.fault.VcdFault.TheVariants as faults
use Rattle.ccsl_vcd.specs.declared.limits.Limits.{Limits}
use Rattle.ccsl_vcd.specs.Binding.{Wanted, Declaration, Bound}
use Rattle.ccsl_vcd.specs.Places.{commands}
use Rattle.ccsl_vcd.specs.Reading as reads
use Rattle.ccsl_vcd.specs.Rows.{rows, rows_of, bound_at, recorded, has_ticks}
use Rattle.ccsl_vcd.specs.Grammar.{body_story}
use Rattle.ccsl_bind.specs.Collected.{wanted_of}
use Rattle.ccsl_vcd_write.specs.Text.{text_of}
use Rattle.ccsl_vcd_write.proofs.Lines.{spaced, are_lines, placed, behind, all_words, all_words-append, text_of-append, text-heard}
use Rattle.ccsl_vcd_write.proofs.Stories.{goes, goes-append, at_header}
use Rattle.ccsl_vcd_write.proofs.HeaderStory.{declarations, vars_words}
use Rattle.ccsl_vcd_write.proofs.Spelling.{is_short_word, short-word, all-words, vars-spelled, lines-append}
use Rattle.ccsl_vcd_write.proofs.Traces.{declared-from}
use Rattle.ccsl_trace.specs.Traces.{clocks_of}
use Rattle.ccsl_events.specs.Dump.{Plan, Place, refused, Said, story, passed, may_end, ended, body_says}
use Rattle.ccsl_events.specs.Dump as dump
use Rattle.ccsl_events.specs.Written.{timescale_line, scope_line, event_lines, last_lines, header_text}
use Rattle.ccsl_event_rows.specs.Times.{heard_from, times_over, times}
use Rattle.ccsl_event_rows.specs.ReadsBack.{is_timescale, AreEventNames, IsPlanned, named, clocks_from, clocks_named, clock_row, clock_rows, MayBeRead}
use Rattle.ccsl_event_rows.specs.ReadsBack.{ReadsAs, RowsAreTimes, TimesAreCounted}
use Rattle.ccsl_event_rows.proofs.Rows.{AreTimes, rows_text, rows_words, rows-text, rows-spelled, rows_changes, time_behind, rows-story, rows-read}
use Rattle.ccsl_event_rows.proofs.Header.{head_words, head_text, head-text, timescale-story, head-story}
use Rattle.ccsl_event_rows.proofs.Binding.{bound_from, binds-named, clocks-bound, clocks-tick, own-tick}
use Rattle.ccsl_event_rows.proofs.Times.{front-written, front-times, whole-written, whole-times, whole-counted}

short-names : (names : List (List ℕ)) → list_all is_name names ≡ true → list_all is_short_word names ≡ true
short-names [] h = refl
short-names (name ∷ names) h =
    let p = and_parts (is_name name) (list_all is_name names) h in
    ap₂ (λ a b. a && b) (short-word name p.0) (short-names names p.1)

scale-apart : (a b c d e : List ℕ) → (((a ++ b) ++ c) ++ d) ++ e ≡ a ++ (((b ++ c) ++ d) ++ e)
scale-apart a b c d e = simp append_assoc

module _ (timescale : Option (List ℕ)) (scaled : is_timescale timescale ≡ true) (names : List (List ℕ)) (n : AreEventNames names)
    (ts : List Row) (t : AreTimes (length names) 0 ts) where
  abbrev text : List ℕ
  text = header_text timescale names ++ rows_text ts

  abbrev lines : List (List (List ℕ))
  lines = head_words names ++ rows_words ts

  few : length names ≤ 1024
  few = n.few

  lines-text : text_of (map spaced lines) ≡ head_text names ++ rows_text ts
  lines-text =
      ap text_of (map-append spaced (head_words names) (rows_words ts)) ∙ text_of-append (map spaced (head_words names)) (map spaced (rows_words ts))
      ∙ ap₂ (λ (a b : List ℕ). a ++ b) (head-text names few) (rows-text (length names) 0 ts few t)

  lines-spelled : are_lines lines ≡ true
  lines-spelled =
      lines-append (head_words names) (rows_words ts)
      (lines-append (vars_words 0 names) _ (vars-spelled 0 names (let f = few in omega arith) (short-names names n.named)) refl)
      (rows-spelled (length names) 0 ts few t)

  lines-heard : (at : ℕ) → map hear (tokens_from true at (head_text names ++ rows_text ts)) ≡ map word (placed at (all_words lines))
  lines-heard at = ap (λ (bs : List ℕ). map hear (tokens_from true at bs)) (sym lines-text) ∙ text-heard at lines lines-spelled

  module _ (w : Wanted) (limits : Limits) (vars : length names ≤ limits.vars) (scopes : 1 ≤ limits.scopes)
      (must : list_all (λ name. is_among name names) (take w.declared w.names) ≡ true) where
    abbrev ds : List Declaration
    ds = declarations 0 names

    abbrev bs : List Bound
    bs = bound_from names 0 w.names

    abbrev end : reads.Story
    end = body_story (rows_changes ts) (time_behind 0 ts) ds bs

    lines-story : (at : ℕ) → goes w limits (at_header commands 0 []) at (all_words lines) ≡ end
    lines-story at =
        let header : List (List ℕ) = all_words (head_words names) in
        let body : List (List ℕ) = all_words (rows_words ts) in
        let f : length names ≤ 1024 = few in
        ap (goes w limits (at_header commands 0 []) at) (all_words-append (head_words names) (rows_words ts))
        ∙ goes-append w limits (at_header commands 0 []) at header body
        ∙ ap (λ (s : reads.Story). goes w limits s (behind at header) body)
        (head-story w limits at names bs vars scopes few (all-words names (short-names names n.named)) (binds-named names n.distinct w must))
        ∙ rows-story w limits ds bs (length names) (λ x h. declared-from 0 x names (omega arith) (omega arith)) [] 0 (behind at header) 0 ts (omega arith) t

    text-story : reads.story w limits (heard text) ≡ end
    text-story =
        let k = timescale-story w limits timescale (head_text names ++ rows_text ts) scaled in
        ap (λ (bs : List ℕ). reads.story w limits (heard bs))
        (scale-apart (timescale_line timescale) scope_line (event_lines 0 names) last_lines (rows_text ts))
        ∙ k.1 ∙ ap (fold (reads.next w limits) reads.begin) (lines-heard k.0) ∙ lines-story k.0

    pub text-reading : length text ≤ limits.bytes → reads.reading w limits text ≡ end
    unfolding reads.reading
    text-reading b = rw (le-ltb limits.bytes (length text) b) (ap (reads.ends_at (length text)) text-story)

    none-before : rows bs [] ≡ []
    unfolding rows
    none-before = refl

    pub text-rows : length text ≤ limits.bytes → recorded w limits text ≡ clock_rows w names ts
    unfolding recorded
    text-rows b =
        ap rows_of (text-reading b)
        ∙ rows-read bs (length names) (λ xs. clocks_named w (named names xs))
        (λ time xs old within. clocks-tick names n.distinct time old xs within 0 w.names) 0 [] ts t tt
        ∙ ap (λ (rs : List Row). rs ++ clock_rows w names ts) none-before

  -- The text reads as its times.
  pub reads-as : (K : System) (limits : Limits) → MayBeRead K limits names text → ReadsAs K limits names ts text
  reads-as K limits m =
      let w : Wanted = wanted_of K in
      let told : reads.reading w limits text ≡ end w limits m.vars m.scopes m.bound = text-reading w limits m.vars m.scopes m.bound m.bytes in
      let bound : clocks_of w limits text ≡ clocks_named w names =
      ap (λ (s : reads.Story). map (λ (b : Bound). b.clock) (bound_at s.place)) told ∙ clocks-bound names n.distinct 0 w.names in
      let rows : recorded w limits text ≡ clock_rows w names ts = text-rows w limits m.vars m.scopes m.bound m.bytes in
      record {
        read = ap (λ (s : reads.Story). s.fault) told;
        bound = bound;
        rows = rows;
        judged = ap₂ (verdict K) bound rows;
      }

-- where a body ends without a fault
end-passed : (plan : Plan) (len : ℕ) (q : Place) (fault : Option VcdFault) (p : Place) → ended plan len q fault ≡ dump.goes p → p ≡ passed plan q
end-passed plan len q (Some f) p e = absurd (cc)
end-passed plan len q None p e =
    (elim (may_end q) as (λ b. cond b (dump.goes (passed plan q)) (refused (faults.Truncated len)) ≡ dump.goes p → p ≡ passed plan q) [
      | true ↦ λ h. sym (goes-same (passed plan q) p h)
      | false ↦ λ h. absurd (cc)
    ]) e
  where
    goes-same : (x y : Place) → dump.goes x ≡ dump.goes y → x ≡ y
    goes-same x y h = cc

module _ (K : System) (limits : Limits) (plan : Plan) (timescale : Option (List ℕ)) (names : List (List ℕ)) (i : IsPlanned plan timescale names) where
  -- a text that is that of some times reads as these
  reads-times : (ts : List Row) (written : List ℕ) → AreTimes (length plan.watches) 0 ts → written ≡ rows_text ts
      → MayBeRead K limits names (header_text timescale names ++ written) → ReadsAs K limits names ts (header_text timescale names ++ written)
  reads-times ts written t e =
      subst (λ (x : List ℕ). MayBeRead K limits names (header_text timescale names ++ x) → ReadsAs K limits names ts (header_text timescale names ++ x)) (sym e)
      (reads-as timescale i.scale names i.event_names ts (subst (λ (k : ℕ). AreTimes k 0 ts) i.watches t) K limits)

  pub fronts-read-back : (hs : List Heard) → MayBeRead K limits names (header_text timescale names ++ (story plan hs).place.written)
      → ReadsAs K limits names (times_over plan hs) (header_text timescale names ++ (story plan hs).place.written)
  fronts-read-back hs = reads-times (times_over plan hs) (story plan hs).place.written (front-times plan hs) (front-written plan hs)

  pub events-read-back : (start len : ℕ) (bytes : List ℕ) (p : Place) → body_says plan start len bytes ≡ dump.goes p
      → MayBeRead K limits names (header_text timescale names ++ p.written)
      → ReadsAs K limits names (times plan (heard_from start bytes)) (header_text timescale names ++ p.written)
  events-read-back start len bytes p e =
      let hs : List Heard = heard_from start bytes in
      let s : dump.Story = story plan hs in
      reads-times (times plan hs) p.written (whole-times plan hs)
      (ap (λ (q : Place). q.written) (end-passed plan len s.place s.fault p e) ∙ whole-written plan hs)

same-rows : (names : List (List ℕ)) → are_distinct names ≡ true → (w : Wanted) → w.names ≡ names → (low : ℕ) (ts : List Row) → AreTimes (length names) low ts
    → map (clock_row w names) ts ≡ ts
same-rows names d w e low [] t = refl
same-rows names d w e low (r ∷ ts) t =
    let own : clocks_named w (named names r.ticks) ≡ r.ticks =
    ap (λ (ms : List (List ℕ)). clocks_from 0 ms (named names r.ticks)) e ∙ own-tick names d r.time [] r.ticks t.2 in
    ap₂ (λ (xs : List ℕ) (rs : List Row). record { time = r.time; ticks = xs } ∷ rs) own (same-rows names d w e (r.time + 1) ts t.3)

pub rows-are-times : RowsAreTimes
rows-are-times w plan timescale names i e hs =
    ap (filter has_ticks)
    (same-rows names i.event_names.distinct w e 0 (times plan hs) (subst (λ (k : ℕ). AreTimes k 0 (times plan hs)) i.watches (whole-times plan hs)))

pub times-are-counted : TimesAreCounted
times-are-counted plan start len bytes p e =
    let s : dump.Story = story plan (heard_from start bytes) in
    ap (λ (q : Place). q.times) (end-passed plan len s.place s.fault p e) ∙ whole-counted plan (heard_from start bytes)
