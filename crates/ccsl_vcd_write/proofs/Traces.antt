-- THE READ-BACK LAW: the reading of a written trace is the story of its steps.
use Rattle.std.proofs.Common.{◌≡◌, ℕ, zero, suc, ◌+◌, ◌^◌, ◌≤◌, ◌<◌, List, [], ◌∷◌, ◌++◌, length, map, take, All, true, false, ◌&&◌, ◌||◌, not, nat_lt, nat_eq}
use Rattle.std.proofs.Common.{IsTrue, cond, Ok, refl, sym, ap, ap₂, ◌∙◌, arith, length-append, codes}
use Rattle.std.specs.List.{list_all, AllByRecursion, range_with_len}
use Rattle.std.specs.Str.{bytes_eq}
use Rattle.std.proofs.lemmas.Bool.{and_parts, not-true, lt-ltb, le-ltb, or_parts}
use Rattle.std.proofs.lemmas.List.{length-take-le, length-map}
use Rattle.std.proofs.lemmas.Grind.{common_steps}
use Rattle.std.proofs.lemmas.List.Elements.{All-head, All-tail}
use Rattle.ccsl_base.specs.Name.{is_word, is_name}
use Rattle.ccsl_base.specs.Names.{is_among, are_distinct}
use Rattle.ccsl_base.specs.declared.rows.Row.{Row}
use Rattle.ccsl_kernel.specs.Syntax.{System}
use Rattle.ccsl_kernel.specs.Accepted.{IsAccepted, Each, is_hidden}
use Rattle.ccsl_vcd_lex.specs.Tokens.{word, hear, heard, tokens_from}
use Rattle.ccsl_vcd.specs.declared.limits.Limits.{Limits}
use Rattle.ccsl_vcd.specs.Binding.{Wanted, Declaration, Bound, bind}
use Rattle.ccsl_vcd.specs.Places.{commands}
use Rattle.ccsl_vcd.specs.Body.{is_declared}
use Rattle.ccsl_vcd.specs.Reading.{Story, begin, story, reading, ends_at}
use Rattle.ccsl_vcd.specs.Rows.{rows, recorded, rows_of, bound_at, IsRead}
use Rattle.ccsl_vcd.specs.Grammar.{body_story}
use Rattle.ccsl_bind.specs.Collected.{wanted_of}
use Rattle.ccsl_vcd_write.specs.Code.{code_of}
use Rattle.ccsl_vcd_write.specs.Text.{written_names, written_part, header_text, step_text, steps_text, vcd_text}
use Rattle.ccsl_vcd_write.specs.ReadsBack.{IsShown, IsReadable, rows_from, rows_of_steps}
use Rattle.ccsl_vcd_write.proofs.Lines.{placed, behind, all_words, all_words-append, text-heard}
use Rattle.ccsl_vcd_write.proofs.CodeLaws.{codes-equal}
use Rattle.ccsl_vcd_write.proofs.Stories.{goes, goes-append, at_header}
use Rattle.ccsl_vcd_write.proofs.HeaderStory.{declarations, vars_words, version-story, timescale-story, scope-story, vars-story, upscope-story, opening-story}
use Rattle.ccsl_vcd_write.proofs.Binds.{bounds, bound-clocks, binds}
use Rattle.ccsl_vcd_write.proofs.BodyStory.{AreBelow, steps_changes, steps_words, time_behind, steps-story}
use Rattle.ccsl_vcd_write.proofs.StepRows.{IsTicking, within, all-from-0, are-below, plain_rows, steps-rows}
use Rattle.ccsl_vcd_write.proofs.Spelling.{is_short_word, short-word, all-words, header_words, written_parts, trace_words, text-same, trace-spelled}

-- THE HEADER

pub header-story : (wanted : Wanted) (limits : Limits) (names : List (List ℕ)) (bs : List Bound) → length names ≤ limits.vars → 1 ≤ limits.scopes
    → length names ≤ 1024 → list_all is_word names ≡ true
    → bind wanted (declarations 0 names) ≡ Ok bs
    → goes wanted limits (at_header commands 0 []) 0 (all_words (header_words names)) ≡ body_story [] 0 (declarations 0 names) bs
header-story wanted limits names bs v s few n e =
    let G : Story → ℕ → List (List ℕ) → Story = goes wanted limits in
    let cut : (s : Story) (at : ℕ) (xs ys : List (List ℕ)) → G s at (xs ++ ys) ≡ G (G s at xs) (behind at xs) ys = goes-append wanted limits in
    let ds : List Declaration = declarations 0 names in
    let upscope : List (List ℕ) = codes "$upscope" ∷ codes "$end" ∷ [] in
    let opening : List (List ℕ) = codes "$enddefinitions" ∷ codes "$end" ∷ [] in
    let vars : List (List ℕ) = all_words (vars_words 0 names) in
    let scope : List (List ℕ) = codes "$scope" ∷ codes "module" ∷ codes "ccsl" ∷ codes "$end" ∷ [] in
    let timescale : List (List ℕ) = codes "$timescale" ∷ codes "1" ∷ codes "ns" ∷ codes "$end" ∷ [] in
    let version : List (List ℕ) = codes "$version" ∷ codes "ccsl" ∷ codes "$end" ∷ [] in
    let a : ℕ = behind 0 version in
    let b : ℕ = behind a timescale in
    let c : ℕ = behind b scope in
    let d : ℕ = behind c vars in
    ap (λ (ws : List (List ℕ)). G (at_header commands 0 []) 0 (version ++ (timescale ++ (scope ++ ws))))
    (all_words-append (vars_words 0 names) (upscope ∷ opening ∷ []))
    ∙ cut (at_header commands 0 []) 0 version (timescale ++ (scope ++ (vars ++ (upscope ++ opening))))
    ∙ ap (λ (s : Story). G s a (timescale ++ (scope ++ (vars ++ (upscope ++ opening))))) (version-story wanted limits 0)
    ∙ cut (at_header commands 0 []) a timescale (scope ++ (vars ++ (upscope ++ opening)))
    ∙ ap (λ (s : Story). G s b (scope ++ (vars ++ (upscope ++ opening)))) (timescale-story wanted limits a)
    ∙ cut (at_header commands 0 []) b scope (vars ++ (upscope ++ opening))
    ∙ ap (λ (s : Story). G s c (vars ++ (upscope ++ opening))) (scope-story wanted limits b s)
    ∙ cut (at_header commands 1 []) c vars (upscope ++ opening)
    ∙ ap (λ (s : Story). G s d (upscope ++ opening)) (vars-story wanted limits c [] 0 names (omega arith) (omega arith) n)
    ∙ cut (at_header commands 1 ds) d upscope opening
    ∙ ap (λ (s : Story). G s (behind d upscope) opening) (upscope-story wanted limits d ds)
    ∙ opening-story wanted limits (behind d upscope) ds bs e

-- WHAT A SYSTEM SAYS

away-take : (n : ℕ) (name : List ℕ) (names : List (List ℕ)) → is_among name names ≡ false → is_among name (take n names) ≡ false
away-take zero name names h = refl
away-take (suc n) name [] h = refl
away-take (suc n) name (x ∷ names) h =
    let p = or_parts (bytes_eq name x) (is_among name names) h in
    ap₂ (λ a b. a || b) p.0 (away-take n name names p.1)

distinct-take : (n : ℕ) (names : List (List ℕ)) → are_distinct names ≡ true → are_distinct (take n names) ≡ true
distinct-take zero names h = refl
distinct-take (suc n) [] h = refl
distinct-take (suc n) (x ∷ names) h =
    let p = and_parts (not (is_among x names)) (are_distinct names) h in
    ap₂ (λ a b. not a && b) (away-take n x names (not-true (is_among x names) p.0)) (distinct-take n names p.1)

short-names : (written i n : ℕ) (names : List (List ℕ)) → i + n ≡ written
    → Each (λ i name. IsTrue (cond (nat_lt i written) (is_name name) (is_hidden name))) i names → list_all is_short_word (take n names) ≡ true
short-names written i zero names e h = refl
short-names written i (suc n) [] e h = refl
short-names written i (suc n) (name ∷ names) e h =
    ap₂ (λ a b. a && b) (short-word name (rw (lt-ltb i written (omega arith)) at h.0)) (short-names written (suc i) n names (omega arith) h.1)

-- what the law needs to know of the names of written clocks
pub record HasNames (K : System) : Type 0 where
  pub count : length (written_names K) ≡ K.written
  pub few : K.written ≤ 1024
  pub short : list_all is_short_word (written_names K) ≡ true
  pub distinct : are_distinct (written_names K) ≡ true

pub has-names : (K : System) (names : List (List ℕ)) → IsAccepted K → names ≡ K.names → are_distinct names ≡ true → HasNames K
has-names K names a e d =
    let written : K.written ≤ length K.names = a.written in
    let few : length K.names ≤ 1024 = a.few_clocks in
    record {
      count = length-take-le K.written K.names written;
      few = omega arith;
      short = short-names K.written 0 K.written K.names (omega arith) a.names;
      distinct = distinct-take K.written K.names (ap are_distinct (sym e) ∙ d);
    }

-- THE STEPS

pub declared-from : (clock x : ℕ) (names : List (List ℕ)) → clock ≤ x → x < clock + length names → is_declared (declarations clock names) (code_of x) ≡ true
declared-from clock x [] l h = absurd (omega arith)
declared-from clock x (name ∷ names) l h =
    rw (codes-equal x clock) (
    (elim (nat_eq x clock) as (λ w. nat_eq x clock ≡ w → (w || is_declared (declarations (clock + 1) names) (code_of x)) ≡ true) [
      | true ↦ λ e. refl
      | false ↦ λ e. let other : clock + 1 ≤ x = grind (arith, common_steps) in declared-from (clock + 1) x names other (omega arith)
    ]) refl)

parts-ticking : (K : System) (steps : List (List ℕ)) → All (IsShown K) steps → AllByRecursion (IsTicking K.written) (written_parts K steps)
parts-ticking K [] h = tt
parts-ticking K (step ∷ steps) h =
    let s : IsShown K step = All-head (IsShown K) step steps h in
    (record { within = within 0 K.written step (all-from-0 step) s.set; some = s.ticks }, parts-ticking K steps (All-tail (IsShown K) step steps h))

parts-below : (n : ℕ) (parts : List (List ℕ)) → AllByRecursion (IsTicking n) parts → AllByRecursion (AreBelow n) parts
parts-below n [] h = tt
parts-below n (xs ∷ parts) h = (are-below 0 n xs h.0.within, parts-below n parts h.1)

step-length : (k : ℕ) (K : System) (step : List ℕ) → 1 ≤ length (step_text k K step)
step-length k K step = omega arith

steps-length : (k : ℕ) (K : System) (steps : List (List ℕ)) → length steps ≤ length (steps_text k K steps)
steps-length k K [] = omega arith
steps-length k K (step ∷ steps) =
    omega (arith, length-append (step_text k K step) (steps_text (k + 1) K steps), step-length k K step, steps-length (k + 1) K steps)

plain-same : (k : ℕ) (K : System) (steps : List (List ℕ)) → plain_rows k (written_parts K steps) ≡ rows_from k K steps
plain-same k K [] = refl
plain-same k K (step ∷ steps) = ap (λ (rs : List Row). record { time = k; ticks = written_part K step } ∷ rs) (plain-same (k + 1) K steps)

-- THE WHOLE

-- what is read of a written trace
abbrev pub whole_story : System → List (List ℕ) → Story
whole_story K steps = body_story (steps_changes 0 (written_parts K steps)) (time_behind 0 0 (written_parts K steps)) (declarations 0 (written_names K))
    (bounds 0 K.written)

-- what is known of the steps
record Shows (K : System) (steps : List (List ℕ)) : Type 0 where
  ticking : AllByRecursion (IsTicking K.written) (written_parts K steps)
  below : AllByRecursion (AreBelow K.written) (written_parts K steps)
  few : length (written_parts K steps) ≤ 2 ^ 64

shows : (K : System) (limits : Limits) (steps : List (List ℕ)) → IsReadable K limits steps → limits.bytes < 2 ^ 64 → Shows K steps
shows K limits steps r b =
    let t : AllByRecursion (IsTicking K.written) (written_parts K steps) = parts-ticking K steps r.shows in
    let bytes : length (vcd_text K steps) ≤ limits.bytes = r.bytes in
    record {
      ticking = t;
      below = parts-below K.written (written_parts K steps) t;
      few = omega (arith, length-map steps (written_part K), steps-length 0 K steps, length-append (header_text K) (steps_text 0 K steps));
    }

trace-heard : (K : System) (steps : List (List ℕ)) → HasNames K → Shows K steps
    → heard (vcd_text K steps) ≡ map word (placed 0 (all_words (trace_words K steps)))
trace-heard K steps n s =
    let few : length (written_names K) ≤ 1024 = let a = n.count in let b = n.few in omega arith in
    ap (λ (bs : List ℕ). map hear (tokens_from true 0 bs)) (sym (text-same K steps))
    ∙ text-heard 0 (trace_words K steps) (trace-spelled K.written (written_names K) (written_parts K steps) few n.few n.short s.few s.below)

trace-story : (K : System) (limits : Limits) (steps : List (List ℕ)) → HasNames K → Shows K steps → K.written ≤ limits.vars → 1 ≤ limits.scopes
    → story (wanted_of K) limits (heard (vcd_text K steps)) ≡ whole_story K steps
trace-story K limits steps n s v c =
    let wanted : Wanted = wanted_of K in
    let G : Story → ℕ → List (List ℕ) → Story = goes wanted limits in
    let ds : List Declaration = declarations 0 (written_names K) in
    let bs : List Bound = bounds 0 K.written in
    let header : List (List ℕ) = all_words (header_words (written_names K)) in
    let body : List (List ℕ) = all_words (steps_words 0 (written_parts K steps)) in
    let few : length (written_names K) ≤ 1024 = let a = n.count in let b = n.few in omega arith in
    let fits : length (written_names K) ≤ limits.vars = let a = n.count in omega arith in
    let bound : bind wanted ds ≡ Ok bs = binds K.declared (written_names K) n.distinct ∙ ap (λ (k : ℕ). Ok (bounds 0 k)) n.count in
    let declares : (x : ℕ) → x < K.written → is_declared ds (code_of x) ≡ true =
    λ x h. declared-from 0 x (written_names K) (omega arith) (let a = n.count in omega arith) in
    ap (story wanted limits) (trace-heard K steps n s)
    ∙ ap (G begin 0) (all_words-append (header_words (written_names K)) (steps_words 0 (written_parts K steps)))
    ∙ goes-append wanted limits begin 0 header body
    ∙ ap (λ (t : Story). G t (behind 0 header) body) (header-story wanted limits (written_names K) bs fits c few (all-words (written_names K) n.short) bound)
    ∙ steps-story wanted limits ds bs K.written declares [] 0 (behind 0 header) 0 (written_parts K steps) (omega arith) (let f = s.few in omega arith) s.below

trace-reading : (K : System) (limits : Limits) (steps : List (List ℕ)) → HasNames K → IsReadable K limits steps → limits.bytes < 2 ^ 64
    → reading (wanted_of K) limits (vcd_text K steps) ≡ whole_story K steps
unfolding reading
trace-reading K limits steps n r b =
    rw (le-ltb limits.bytes (length (vcd_text K steps)) r.bytes)
    (ap (ends_at (length (vcd_text K steps))) (trace-story K limits steps n (shows K limits steps r b) r.vars r.scopes))

-- A written trace is read without a fault.
pub trace-read : (K : System) (limits : Limits) → HasNames K → limits.bytes < 2 ^ 64 → (steps : List (List ℕ)) → IsReadable K limits steps
    → IsRead (wanted_of K) limits (vcd_text K steps)
trace-read K limits n b steps r = ap (λ (s : Story). s.fault) (trace-reading K limits steps n r b)

-- Every written clock is bound.
pub trace-bound : (K : System) (limits : Limits) → HasNames K → limits.bytes < 2 ^ 64 → (steps : List (List ℕ)) → IsReadable K limits steps
    → map (λ b. b.clock) (bound_at (reading (wanted_of K) limits (vcd_text K steps)).place) ≡ range_with_len 0 K.written
trace-bound K limits n b steps r = ap (λ (s : Story). map (λ b. b.clock) (bound_at s.place)) (trace-reading K limits steps n r b) ∙ bound-clocks 0 K.written

no-rows : (bs : List Bound) → rows bs [] ≡ []
unfolding rows
no-rows bs = refl

-- Each step is a row.
pub trace-rows : (K : System) (limits : Limits) → HasNames K → limits.bytes < 2 ^ 64 → (steps : List (List ℕ)) → IsReadable K limits steps
    → recorded (wanted_of K) limits (vcd_text K steps) ≡ rows_of_steps K steps
unfolding recorded
trace-rows K limits n b steps r =
    ap rows_of (trace-reading K limits steps n r b)
    ∙ steps-rows K.written 0 [] (written_parts K steps) (shows K limits steps r b).ticking tt
    ∙ ap (λ (rs : List Row). rs ++ plain_rows 0 (written_parts K steps)) (no-rows (bounds 0 K.written))
    ∙ plain-same 0 K steps
