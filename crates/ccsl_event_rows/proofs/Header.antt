-- The header that is written: its text, its words, and their story.
use Rattle.std.proofs.Common.{◌≡◌, ℕ, ◌+◌, ◌≤◌, List, [], ◌∷◌, ◌++◌, length, map, fold, Bool, true, false, ◌&&◌, ◌||◌, not, cond, Option, Some}
use Rattle.std.proofs.Common.{None, Ok, refl, sym, ap, ap₂, ◌∙◌, arith, append_assoc, append-nil, length-append, codes}
use Rattle.std.specs.List.{list_all}
use Rattle.std.specs.Str.{bytes_eq}
use Rattle.std.proofs.lemmas.Bool.{and_parts, not-true, or_parts, lt-leb}
use Rattle.std.proofs.lemmas.Grind.{fold-append}
use Rattle.std.proofs.lemmas.List.{map-append}
use Rattle.ccsl_base.specs.Name.{is_word}
use Rattle.ccsl_vcd_lex.specs.Tokens.{is_white, Token, token, run, begins, tokens_from, is_long, Heard, word, too_long, hear, heard}
use Rattle.ccsl_vcd_lex.proofs.Cuts.{tokens-cut, fresh-behind, from-behind}
use Rattle.ccsl_vcd.specs.declared.limits.Limits.{Limits}
use Rattle.ccsl_vcd.specs.Binding.{Wanted, Declaration, Bound, bind}
use Rattle.ccsl_vcd.specs.Places.{commands, inside}
use Rattle.ccsl_vcd.specs.Header.{var, scope, upscope, end_definitions, other_command, plain, header_word}
use Rattle.ccsl_vcd.specs.Reading.{Story, next, says, begin, story}
use Rattle.ccsl_vcd.specs.Grammar.{is_end, body_story}
use Rattle.ccsl_vcd_write.specs.Text.{text_of, var_lines}
use Rattle.ccsl_vcd_write.proofs.Lines.{spaced, behind, all_words, all_words-append, text_of-append, one-word, blank-white, feed-white}
use Rattle.ccsl_vcd_write.proofs.Stories.{goes, goes-append, at_header}
use Rattle.ccsl_vcd_write.proofs.HeaderStory.{ends_command, declarations, vars_words, word-passes, vars-story, upscope-story, opening-story}
use Rattle.ccsl_vcd_write.proofs.Spelling.{vars-same}
use Rattle.ccsl_triggers.specs.Output.{code_of}
use Rattle.ccsl_events.specs.Written.{timescale_line, scope_line, event_lines, last_lines}
use Rattle.ccsl_event_rows.specs.ReadsBack.{is_timescale}
use Rattle.ccsl_event_rows.proofs.Rows.{code-same}

-- LINES

abbrev scope_words : List (List ℕ)
scope_words = codes "$scope" ∷ codes "module" ∷ codes "events" ∷ codes "$end" ∷ []

abbrev last_words : List (List (List ℕ))
last_words = (codes "$upscope" ∷ codes "$end" ∷ []) ∷ (codes "$enddefinitions" ∷ codes "$end" ∷ []) ∷ []

-- those behind the time scale
abbrev pub head_words : List (List ℕ) → List (List (List ℕ))
head_words names = scope_words ∷ (vars_words 0 names ++ last_words)

abbrev pub head_text : List (List ℕ) → List ℕ
head_text names = scope_line ++ event_lines 0 names ++ last_lines

vars-text : (clock : ℕ) (names : List (List ℕ)) → clock + length names ≤ 1024 → text_of (var_lines clock names) ≡ event_lines clock names
vars-text clock [] c = refl
vars-text clock (name ∷ names) c =
    let line : List ℕ = codes "$var event 1 " ++ code_of clock ++ codes " " ++ name ++ codes " $end" in
    ap₂ (λ (code t : List ℕ). (codes "$var event 1 " ++ code ++ codes " " ++ name ++ codes " $end") ++ 10 ∷ t) (sym (code-same clock (omega arith)))
    (vars-text (clock + 1) names (omega arith))
    ∙ sym (append_assoc line (10 ∷ []) (event_lines (clock + 1) names))

pub head-text : (names : List (List ℕ)) → length names ≤ 1024 → text_of (map spaced (head_words names)) ≡ head_text names
head-text names few =
    let vars : List (List (List ℕ)) = vars_words 0 names in
    ap (λ (bs : List ℕ). scope_line ++ bs)
    (ap text_of (map-append spaced vars last_words) ∙ text_of-append (map spaced vars) (map spaced last_words)
    ∙ ap (λ (bs : List ℕ). bs ++ last_lines) (ap text_of (vars-same 0 names) ∙ vars-text 0 names (omega arith)))

-- A TIME SCALE

abbrev pub is_kept : Token → Bool
is_kept t = not (is_long t || is_end t)

-- whatever the place
pub anywhere : (f : Bool) (at there : ℕ) (bs : List ℕ) → list_all is_kept (tokens_from f at bs) ≡ list_all is_kept (tokens_from f there bs)
unfolding tokens_from
anywhere f at there [] = refl
anywhere f at there (b ∷ bs) =
    in-front f (is_white b) (token at (run (b ∷ bs))) (token there (run (b ∷ bs))) (tokens_from (is_white b) (at + 1) bs)
    (tokens_from (is_white b) (there + 1) bs)
    refl (anywhere (is_white b) (at + 1) (there + 1) bs)
  where
    in-front : (f w : Bool) (t u : Token) (ts us : List Token) → is_kept t ≡ is_kept u → list_all is_kept ts ≡ list_all is_kept us
        → list_all is_kept (begins f w t ts) ≡ list_all is_kept (begins f w u us)
    in-front true false t u ts us e h = ap₂ (λ a b. a && b) e h
    in-front true true t u ts us e h = h
    in-front false w t u ts us e h = h

-- a blank behind some bytes ends their last token
pub blank-tokens : (at : ℕ) (bytes rest : List ℕ)
    → tokens_from true at (bytes ++ 32 ∷ rest) ≡ tokens_from true at bytes ++ tokens_from true (at + length bytes + 1) rest
blank-tokens at bytes rest =
    let place : at + length (bytes ++ 32 ∷ []) ≡ at + length bytes + 1 = omega (arith, length-append bytes (32 ∷ [])) in
    ap (tokens_from true at) (sym (append_assoc bytes (32 ∷ []) rest))
    ∙ tokens-cut true at (bytes ++ 32 ∷ []) rest (fresh-behind true bytes (32 ∷ []) (blank-white, tt) (omega arith))
    ∙ ap₂ (λ (ts : List Token) (k : ℕ). ts ++ tokens_from true k rest) (from-behind true at bytes (32 ∷ []) (blank-white, tt)) place

blank-heard : (at : ℕ) (bytes rest : List ℕ)
    → map hear (tokens_from true at (bytes ++ 32 ∷ rest)) ≡ map hear (tokens_from true at bytes) ++ map hear (tokens_from true (at + length bytes + 1) rest)
blank-heard at bytes rest =
    ap (map hear) (blank-tokens at bytes rest) ∙ map-append hear (tokens_from true at bytes) (tokens_from true (at + length bytes + 1) rest)

chain : (a b c d e : Bool) → ends_command (cond a var (cond b scope (cond c upscope (cond d end_definitions (cond e other_command plain))))) ≡ false
chain true b c d e = refl
chain false true c d e = refl
chain false false true d e = refl
chain false false false true e = refl
chain false false false false true = refl
chain false false false false false = refl

-- what is not $end ends no command
inside-word : (text : List ℕ) → bytes_eq text (codes "$end") ≡ false → ends_command (header_word text) ≡ false
inside-word text e = rw e (chain _ _ _ _ _)

-- STORY

module _ (wanted : Wanted) (limits : Limits) where
  abbrev head : Token
  head = token 0 (codes "$timescale")

  words-story : (words ts : List Token) → list_all is_kept ts ≡ true
      → fold (next wanted limits) (at_header (inside head words) 0 []) (map hear ts) ≡ at_header (inside head (words ++ ts)) 0 []
  words-story words [] q = ap (λ (xs : List Token). at_header (inside head xs) 0 []) (sym (append-nil words))
  words-story words (t ∷ ts) q =
      let p = and_parts (is_kept t) (list_all is_kept ts) q in
      let o = or_parts (is_long t) (is_end t) (not-true (is_long t || is_end t) p.0) in
      ap (λ b. fold (next wanted limits) (next wanted limits (at_header (inside head words) 0 []) (cond b (too_long t.at) (word t))) (map hear ts)) o.0
      ∙ ap (λ (s : Story). fold (next wanted limits) s (map hear ts)) (word-passes wanted limits 0 [] head words t (inside-word t.text o.1) refl)
      ∙ words-story (words ++ t ∷ []) ts p.1
      ∙ ap (λ (xs : List Token). at_header (inside head xs) 0 []) (append_assoc words (t ∷ []) ts)

  -- The line of a time scale changes nothing.
  pub timescale-story : (timescale : Option (List ℕ)) (rest : List ℕ) → is_timescale timescale ≡ true
      → (at : ℕ) × (story wanted limits (heard (timescale_line timescale ++ rest)) ≡ fold (next wanted limits) begin (map hear (tokens_from true at rest)))
  unfolding says
  timescale-story None rest q = (0, refl)
  timescale-story (Some scale) rest q =
      let N : Story → Heard → Story = next wanted limits in
      let ts : List Token = tokens_from true 11 scale in
      let end_at : ℕ = 11 + length scale + 1 in
      let end : Token = token end_at (codes "$end") in
      let more : List Heard = map hear (tokens_from true (end_at + 4 + 1) rest) in
      let text : timescale_line (Some scale) ++ rest ≡ codes "$timescale" ++ 32 ∷ (scale ++ 32 ∷ (codes "$end" ++ 10 ∷ rest)) =
      ap (λ (bs : List ℕ). codes "$timescale " ++ bs) (append_assoc (scale ++ codes " $end") (10 ∷ []) rest ∙ append_assoc scale (codes " $end") (10 ∷ rest)) in
      let hears : heard (timescale_line (Some scale) ++ rest) ≡ word head ∷ (map hear ts ++ word end ∷ more) =
      ap (λ (bs : List ℕ). map hear (tokens_from true 0 bs)) text
      ∙ one-word 0 (codes "$timescale") 32 (scale ++ 32 ∷ (codes "$end" ++ 10 ∷ rest)) refl blank-white
      ∙ ap (λ (hs : List Heard). word head ∷ hs)
      (blank-heard 11 scale (codes "$end" ++ 10 ∷ rest)
      ∙ ap (λ (hs : List Heard). map hear ts ++ hs) (one-word end_at (codes "$end") 10 rest refl feed-white)) in (
        end_at + 4 + 1,
        ap (fold N begin) hears
            ∙ fold-append N (at_header (inside head []) 0 []) (map hear ts) (word end ∷ more)
            ∙ ap (λ (s : Story). fold N s (word end ∷ more)) (words-story [] ts (anywhere true 11 0 scale ∙ q)),
      )

  scope-story : (at : ℕ) → 1 ≤ limits.scopes → goes wanted limits (at_header commands 0 []) at scope_words ≡ at_header commands 1 []
  unfolding says
  scope-story at h = rw (lt-leb limits.scopes 0 h) refl

  -- The names are declared, and the clocks bound.
  pub head-story : (at : ℕ) (names : List (List ℕ)) (bs : List Bound) → length names ≤ limits.vars → 1 ≤ limits.scopes → length names ≤ 1024
      → list_all is_word names ≡ true → bind wanted (declarations 0 names) ≡ Ok bs
      → goes wanted limits (at_header commands 0 []) at (all_words (head_words names)) ≡ body_story [] 0 (declarations 0 names) bs
  head-story at names bs v s few n e =
      let G : Story → ℕ → List (List ℕ) → Story = goes wanted limits in
      let cut : (s : Story) (at : ℕ) (xs ys : List (List ℕ)) → G s at (xs ++ ys) ≡ G (G s at xs) (behind at xs) ys = goes-append wanted limits in
      let ds : List Declaration = declarations 0 names in
      let up : List (List ℕ) = codes "$upscope" ∷ codes "$end" ∷ [] in
      let last : List (List ℕ) = codes "$enddefinitions" ∷ codes "$end" ∷ [] in
      let vars : List (List ℕ) = all_words (vars_words 0 names) in
      let b : ℕ = behind at scope_words in
      let c : ℕ = behind b vars in
      ap (λ (ws : List (List ℕ)). G (at_header commands 0 []) at (scope_words ++ ws)) (all_words-append (vars_words 0 names) last_words)
      ∙ cut (at_header commands 0 []) at scope_words (vars ++ (up ++ last))
      ∙ ap (λ (s : Story). G s b (vars ++ (up ++ last))) (scope-story at s)
      ∙ cut (at_header commands 1 []) b vars (up ++ last)
      ∙ ap (λ (s : Story). G s c (up ++ last)) (vars-story wanted limits b [] 0 names (omega arith) (omega arith) n)
      ∙ cut (at_header commands 1 ds) c up last
      ∙ ap (λ (s : Story). G s (behind c up) last) (upscope-story wanted limits c ds)
      ∙ opening-story wanted limits (behind c up) ds bs e
