-- The grammar of a whole file, both ways.
use Rattle.std.proofs.Common.{◌≡◌, ℕ, List, [], ◌∷◌, ◌++◌, length, Bool, true, false, Option, Some, None, Ok, Err, if◌then◌else◌, refl, sym, ap, ◌∙◌}
use Rattle.std.proofs.Common.{append_assoc, subst, take}
use Rattle.std.specs.Prelude.{fold, map}
use Rattle.std.specs.List.{AllByRecursion}
use Rattle.std.proofs.lemmas.Bool.{ltb-false, le-ltb}
use Rattle.std.specs.Option.{option_or}
use Rattle.ccsl_vcd_lex.specs.Tokens.{Token, word, too_long, hear, heard, tokens, settled, is_long}
use Rattle.ccsl_vcd.specs.declared.fault.VcdFault.{VcdFault}
use Rattle.ccsl_vcd.specs.declared.fault.VcdFault.TheVariants as faults
use Rattle.ccsl_vcd.specs.Binding.{Wanted, Bound, bind}
use Rattle.ccsl_vcd.specs.declared.limits.Limits.{Limits}
use Rattle.ccsl_vcd.specs.Places.{inside, Where, Body, header, body}
use Rattle.ccsl_vcd.specs.Header.{opens}
use Rattle.ccsl_vcd.specs.Reading.{Story, next, begin, story, says, told, may_end, at_end, decides, ends_at, is_over, so_far, reading}
use Rattle.ccsl_vcd.specs.Rows.{IsRead}
use Rattle.ccsl_vcd.specs.Grammar.{items_tokens, changes_of, time_after, body_story, EndsWell}
use Rattle.ccsl_vcd.specs.Commands.{Command, command_tokens, commands_tokens, declarations, IsHeader, header_tokens, IsTrace, BeginsWithHeader}
use Rattle.ccsl_vcd.proofs.Decided.{sticks}
use Rattle.ccsl_vcd.proofs.Spelled.{body-read}
use Rattle.ccsl_vcd.proofs.Parsed.{body-spelled}
use Rattle.ccsl_vcd.proofs.HeaderRead.{at, depth_after, goes, goes-both, header-read}
use Rattle.ccsl_vcd.proofs.HeaderParsed.{in_body, Parsed, header-spelled}

all-short : (ts : List Token) → AllByRecursion (λ t. is_long t ≡ false) ts → map hear ts ≡ map word ts
all-short [] h = refl
all-short (t ∷ ts) h = rw (h.0, all-short ts h.1) refl

none-some : {X : Type 0} (f : VcdFault) → Some f ≡ None → X
none-some f e = absurd (cc)

module _ (w : Wanted) (l : Limits) where
  abbrev hears : Story → List Token → Story
  hears s ts = fold (next w l) s (map hear ts)

  -- a fault stays
  short-story : (ts : List Token) (s : Story) → (hears s ts).fault ≡ None → AllByRecursion (λ t. is_long t ≡ false) ts
  unfolding says
  short-story [] s e = tt
  short-story (t ∷ ts) s e =
      (elim (is_long t) as (λ b. is_long t ≡ b → (fold (next w l) (next w l s (if b then too_long t.at else word t)) (map hear ts)).fault ≡ None
      → (is_long t ≡ false) × AllByRecursion (λ u. is_long u ≡ false) ts) [
        | true ↦ λ k h. long s.fault refl h
        | false ↦ λ k h. (k, short-story ts (next w l s (word t)) h)
      ]) refl e
    where
      long : {X : Type 0} (o : Option VcdFault) → s.fault ≡ o → (fold (next w l) (next w l s (too_long t.at)) (map hear ts)).fault ≡ None → X
      long None k h = none-some (faults.TokenTooLong t.at)
          (sym (ap (λ (x : Story). x.fault) (sticks w l (next w l s (too_long t.at)) (faults.TokenTooLong t.at) (map hear ts) (rw k refl)) ∙ rw k refl) ∙ h)
      long (Some f) k h = none-some f
          (sym (ap (λ (x : Story). x.fault) (sticks w l (next w l s (too_long t.at)) f (map hear ts) (rw k refl)) ∙ rw k refl) ∙ h)

  -- HEADER

  module _ (cs : List Command) (last : Command) (h : IsHeader l cs last) where
    pub header-binds : (bound : List Bound) → bind w (declarations 0 cs) ≡ Ok bound
        → story w l (map word (header_tokens cs last)) ≡ body_story [] 0 (declarations 0 cs) bound
    header-binds bound b =
        header-read w l cs last h ∙ ap (λ r. told [] (at (inside last.keyword last.text) (depth_after 0 cs) (declarations 0 cs)) (opens (declarations 0 cs) r))
        b

    pub header-refused : (f : VcdFault) → bind w (declarations 0 cs) ≡ Err f → (story w l (map word (header_tokens cs last))).fault ≡ Some f
    header-refused f b =
        ap (λ (s : Story). s.fault)
        (header-read w l cs last h ∙ ap (λ r. told [] (at (inside last.keyword last.text) (depth_after 0 cs) (declarations 0 cs)) (opens (declarations 0 cs) r))
        b)

  abbrev header-of : (ts : List Token) (q : Parsed w l 0 [] ts) → IsHeader l q.cs q.last
  header-of ts q = record { are_commands = q.are; closed = q.closed; ends = q.ends }

  together : (ts : List Token) (q : Parsed w l 0 [] ts) → ts ≡ header_tokens q.cs q.last ++ q.rest
  together ts q = q.spelled ∙ sym (append_assoc (commands_tokens q.cs) (command_tokens q.last) q.rest)

  pub begins-with-header : (ts : List Token) (b : Body) → (story w l (map word ts)).place ≡ body b → BeginsWithHeader l ts
  begins-with-header ts b e =
      let q = header-spelled w l ts (ap in_body e) in
      record { commands = q.cs; last = q.last; rest = q.rest; spelled = together ts q; is_header = header-of ts q }

  -- FILE

  -- behind a header the story is that of the body
  behind-header : (cs : List Command) (last : Command) (bound : List Bound) (rest : List Token) → IsHeader l cs last → bind w (declarations 0 cs) ≡ Ok bound
      → story w l (map word (header_tokens cs last ++ rest)) ≡ goes w l (body_story [] 0 (declarations 0 cs) bound) rest
  behind-header cs last bound rest h b =
      goes-both w l begin (header_tokens cs last) rest ∙ ap (λ (s : Story). goes w l s rest) (header-binds cs last h bound b)

  rest-story : (ts : List Token) (q : Parsed w l 0 [] ts) → story w l (map word ts) ≡ goes w l (body_story [] 0 (declarations 0 q.cs) q.bound) q.rest
  rest-story ts q =
      ap (λ xs. story w l (map word xs)) (together ts q) ∙ behind-header q.cs q.last q.bound q.rest (header-of ts q) q.binds

  module _ (file : List ℕ) where
    pub file-read : (t : IsTrace w l file) → reading w l file ≡ body_story (changes_of 0 t.items) (time_after 0 t.items) (declarations 0 t.commands) t.bound
    unfolding reading
    file-read t =
        let all : story w l (heard file) ≡ body_story (changes_of 0 t.items) (time_after 0 t.items) (declarations 0 t.commands) t.bound =
        ap (story w l) (all-short (tokens file) t.short ∙ ap (map word) t.spelled)
        ∙ behind-header t.commands t.last t.bound (items_tokens t.items) t.is_header t.binds
        ∙ body-read w l (declarations 0 t.commands) t.bound [] 0 t.items t.is_body in
        rw (le-ltb l.bytes (length file) t.within) (ap (ends_at (length file)) all)

    -- a story without a fault, and a place where a file may end
    ends-well : (s : Story) → (ends_at (length file) s).fault ≡ None → EndsWell s
    ends-well s e = (first s.fault refl e, at-place s.fault (may_end s.place) refl e)
      where
        first : (o : Option VcdFault) → s.fault ≡ o → option_or s.fault (at_end (length file) s.place) ≡ None → s.fault ≡ None
        first None k h = k
        first (Some f) k h = none-some f (sym (ap (λ o. option_or o (at_end (length file) s.place)) k) ∙ h)

        at-place : (o : Option VcdFault) (b : Bool) → may_end s.place ≡ b → option_or s.fault (at_end (length file) s.place) ≡ None → may_end s.place ≡ true
        at-place o true k h = k
        at-place o false k h = cut (first s.fault refl h)
          where
            cut : s.fault ≡ None → may_end s.place ≡ true
            cut n = none-some (faults.Truncated (length file))
                (sym (ap (λ f. option_or f (at_end (length file) s.place)) n ∙ ap (λ x. if x then None else Some (faults.Truncated (length file))) k) ∙ h)

    in-body : (p : Where) → may_end p ≡ true → in_body p ≡ true
    in-body (header h) e = absurd (cc)
    in-body (body b) e = refl

    not-over : (reading w l file).fault ≡ None → (is_over l file ≡ false) × ((ends_at (length file) (story w l (heard file))).fault ≡ None)
    unfolding reading so_far
    not-over e =
        (elim (is_over l file) as (λ o. is_over l file ≡ o
        → (if o then (if o then decides (story w l (settled (take l.bytes file))) (Some (faults.TooLong l.bytes)) else story w l (settled file)) else ends_at
        (length file) (story w l (heard file))).fault ≡ None
        → (is_over l file ≡ false) × ((ends_at (length file) (story w l (heard file))).fault ≡ None)) [
          | true ↦ λ k h. over (story w l (settled (take l.bytes file))).fault h
          | false ↦ λ k h. (k, h)
        ]) refl e
      where
        over : {X : Type 0} (o : Option VcdFault) → option_or o (Some (faults.TooLong l.bytes)) ≡ None → X
        over None h = none-some (faults.TooLong l.bytes) h
        over (Some f) h = none-some f h

    pub file-spelled : IsRead w l file → IsTrace w l file
    file-spelled e =
        let n = not-over e in
        let good : EndsWell (story w l (heard file)) = ends-well (story w l (heard file)) n.1 in
        let short = short-story (tokens file) begin good.0 in
        let words : story w l (heard file) ≡ story w l (map word (tokens file)) = ap (story w l) (all-short (tokens file) short) in
        let q = header-spelled w l (tokens file) (ap (λ (s : Story). in_body s.place) (sym words) ∙ in-body (story w l (heard file)).place good.1) in
        let b = body-spelled w l (declarations 0 q.cs) q.bound q.rest [] 0 (subst EndsWell (words ∙ rest-story (tokens file) q) good) in
        record {
          commands = q.cs;
          last = q.last;
          bound = q.bound;
          items = b.0;
          spelled = together (tokens file) q ∙ ap (λ ts. header_tokens q.cs q.last ++ ts) b.2;
          is_header = header-of (tokens file) q;
          binds = q.binds;
          is_body = b.1;
          short = short;
          within = ltb-false l.bytes (length file) n.0;
        }
