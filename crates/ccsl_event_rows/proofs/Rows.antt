-- The rows of times: their text, its words, their story, and the rows that are read.
use Rattle.std.proofs.Common.{◌≡◌, ℕ, ◌+◌, ◌-◌, ◌/◌, ◌%◌, ◌^◌, ◌≤◌, ◌<◌, List, [], ◌∷◌, ◌++◌, map, filter, true, false, nat_lt, cond, refl}
use Rattle.std.proofs.Common.{sym, ap, ap₂, ◌∙◌, arith, append_assoc, append-nil, decimal}
use Rattle.std.proofs.lemmas.Bool.{ltb-true}
use Rattle.std.proofs.lemmas.List.{map-append}
use Rattle.std.proofs.lemmas.List.Elements.{filter-append}
use Rattle.ccsl_base.specs.declared.rows.Row.{Row}
use Rattle.ccsl_vcd.specs.declared.limits.Limits.{Limits}
use Rattle.ccsl_vcd.specs.Binding.{Wanted, Declaration, Bound}
use Rattle.ccsl_vcd.specs.Places.{Change}
use Rattle.ccsl_vcd.specs.Reading.{Story}
use Rattle.ccsl_vcd.specs.Rows.{ticks, rows, has_ticks}
use Rattle.ccsl_vcd.specs.Grammar.{body_story}
use Rattle.ccsl_vcd.proofs.RowLaws.{Earlier, rows-all}
use Rattle.ccsl_vcd_write.specs.Code as w
use Rattle.ccsl_vcd_write.specs.Text.{text_of}
use Rattle.ccsl_vcd_write.specs.Text as text
use Rattle.ccsl_vcd_write.proofs.Lines.{spaced, are_lines, behind, all_words, all_words-append, text_of-append}
use Rattle.ccsl_vcd_write.proofs.Stories.{goes, goes-append}
use Rattle.ccsl_vcd_write.proofs.BodyStory.{AreBelow, Declares, step_changes, step_words, step-story}
use Rattle.ccsl_vcd_write.proofs.StepRows.{IsWithin, are-below, step-now, earlier-step, earlier-more}
use Rattle.ccsl_vcd_write.proofs.Spelling.{time-spelled, ticks-spelled, lines-append}
use Rattle.ccsl_triggers.specs.Output.{code_of, tick_lines, row_text}

-- TIMES: they ascend from one on, have 64 bits, and have the numbers of names

abbrev pub AreTimes : ℕ → ℕ → List Row → Type 0
AreTimes names low [] = Unit {0}
AreTimes names low (r ∷ rs) = (low ≤ r.time) × (r.time < 2 ^ 64) × IsWithin 0 names r.ticks × AreTimes names (r.time + 1) rs

pub lower : (names low high : ℕ) (rs : List Row) → low ≤ high → AreTimes names high rs → AreTimes names low rs
lower names low high [] l h = tt
lower names low high (r ∷ rs) l h = (let a = h.0 in omega arith, h.1, h.2, h.3)

-- TEXT

-- the code of a name is that of a clock
pub code-same : (x : ℕ) → x < 1024 → code_of x ≡ w.code_of x
code-same x h =
    (elim (nat_lt x 94) as
    (λ b. nat_lt x 94 ≡ b
    → cond b ((33 + x % 94) ∷ []) ((33 + ((x - 94) / 94) % 94) ∷ (33 + ((x - 94) % 94) % 94) ∷ [])
    ≡ cond b ((33 + x) ∷ []) ((33 + (x - 94) / 94) ∷ (33 + (x - 94) % 94) ∷ [])) [
      | true ↦ λ e. let l : x < 94 = ltb-true x 94 e in let m : x % 94 ≡ x = omega arith in ap (λ k. (33 + k) ∷ []) m
      | false ↦ λ e.
          let y : ℕ = (x - 94) / 94 in
          let z : ℕ = (x - 94) % 94 in
          let small : y < 94 = omega arith in
          let high : y % 94 ≡ y = omega arith in
          let low : z % 94 ≡ z = omega arith in
          ap₂ (λ j k. (33 + j) ∷ (33 + k) ∷ []) high low
    ]) refl

abbrev pub rows_text : List Row → List ℕ
rows_text [] = []
rows_text (r ∷ rs) = row_text (decimal r.time) r.ticks ++ rows_text rs

pub rows_text-append : (xs ys : List Row) → rows_text (xs ++ ys) ≡ rows_text xs ++ rows_text ys
rows_text-append [] ys = refl
rows_text-append (x ∷ xs) ys =
    let row : List ℕ = row_text (decimal x.time) x.ticks in
    ap (λ (t : List ℕ). row ++ t) (rows_text-append xs ys) ∙ sym (append_assoc row (rows_text xs) (rows_text ys))

-- nothing stands for a time without names
abbrev row_words : ℕ → List ℕ → List (List (List ℕ))
row_words time [] = []
row_words time (x ∷ xs) = step_words time (x ∷ xs)

abbrev pub rows_words : List Row → List (List (List ℕ))
rows_words [] = []
rows_words (r ∷ rs) = row_words r.time r.ticks ++ rows_words rs

ticks-text : (xs : List ℕ) → AreBelow 1024 xs → text_of (map spaced (map (λ x. text.tick_line x ∷ []) xs)) ≡ tick_lines xs
ticks-text [] b = refl
ticks-text (x ∷ xs) b =
    ap₂ (λ (c t : List ℕ). 49 ∷ (c ++ 10 ∷ t)) (sym (code-same x b.0)) (ticks-text xs b.1)
    ∙ ap (λ (t : List ℕ). 49 ∷ t) (sym (append_assoc (code_of x) (10 ∷ []) (tick_lines xs)))

row-text : (time : ℕ) (xs : List ℕ) → AreBelow 1024 xs → text_of (map spaced (row_words time xs)) ≡ row_text (decimal time) xs
row-text time [] b = refl
row-text time (x ∷ xs) b =
    ap (λ (t : List ℕ). 35 ∷ (decimal time ++ 10 ∷ t)) (ticks-text (x ∷ xs) b)
    ∙ ap (λ (t : List ℕ). 35 ∷ t) (sym (append_assoc (decimal time) (10 ∷ []) (tick_lines (x ∷ xs))))

some-below : (n m : ℕ) (xs : List ℕ) → n ≤ m → AreBelow n xs → AreBelow m xs
some-below n m [] l b = tt
some-below n m (x ∷ xs) l b = (let a = b.0 in omega arith, some-below n m xs l b.1)

pub rows-text : (names low : ℕ) (rs : List Row) → names ≤ 1024 → AreTimes names low rs → text_of (map spaced (rows_words rs)) ≡ rows_text rs
rows-text names low [] n h = refl
rows-text names low (r ∷ rs) n h =
    let words : List (List (List ℕ)) = row_words r.time r.ticks in
    ap text_of (map-append spaced words (rows_words rs)) ∙ text_of-append (map spaced words) (map spaced (rows_words rs))
    ∙ ap₂ (λ (s t : List ℕ). s ++ t) (row-text r.time r.ticks (some-below names 1024 r.ticks n (are-below 0 names r.ticks h.2)))
    (rows-text names (r.time + 1) rs n h.3)

row-spelled : (names time : ℕ) (xs : List ℕ) → names ≤ 1024 → time < 2 ^ 64 → AreBelow names xs → are_lines (row_words time xs) ≡ true
row-spelled names time [] n h b = refl
row-spelled names time (x ∷ xs) n h b = rw (time-spelled time h) (ticks-spelled names (x ∷ xs) n b)

pub rows-spelled : (names low : ℕ) (rs : List Row) → names ≤ 1024 → AreTimes names low rs → are_lines (rows_words rs) ≡ true
rows-spelled names low [] n h = refl
rows-spelled names low (r ∷ rs) n h =
    lines-append (row_words r.time r.ticks) (rows_words rs) (row-spelled names r.time r.ticks n h.1 (are-below 0 names r.ticks h.2))
    (rows-spelled names (r.time + 1) rs n h.3)

-- STORY

abbrev pub rows_changes : List Row → List Change
rows_changes [] = []
rows_changes (r ∷ rs) = step_changes r.time r.ticks ++ rows_changes rs

-- the present time behind a row
abbrev time_at : ℕ → ℕ → List ℕ → ℕ
time_at now time [] = now
time_at now time (x ∷ xs) = time

abbrev pub time_behind : ℕ → List Row → ℕ
time_behind now [] = now
time_behind now (r ∷ rs) = time_behind (time_at now r.time r.ticks) rs

not-later : (now time : ℕ) (xs : List ℕ) → now ≤ time → time_at now time xs ≤ time + 1
not-later now time [] l = omega arith
not-later now time (x ∷ xs) l = omega arith

module _ (wanted : Wanted) (limits : Limits) (ds : List Declaration) (bs : List Bound) (names : ℕ) (d : Declares wanted limits ds bs names) where
  row-story : (cs : List Change) (now at time : ℕ) (xs : List ℕ) → now ≤ time → time < 2 ^ 64 → AreBelow names xs
      → goes wanted limits (body_story cs now ds bs) at (all_words (row_words time xs)) ≡ body_story (cs ++ step_changes time xs) (time_at now time xs) ds bs
  row-story cs now at time [] l h b = ap (λ (ys : List Change). body_story ys now ds bs) (sym (append-nil cs))
  row-story cs now at time (x ∷ xs) l h b = step-story wanted limits ds bs names d cs now at time (x ∷ xs) l h b

  -- The changes of the rows are made, each at its time.
  pub rows-story : (cs : List Change) (now at low : ℕ) (rs : List Row) → now ≤ low → AreTimes names low rs
      → goes wanted limits (body_story cs now ds bs) at (all_words (rows_words rs)) ≡ body_story (cs ++ rows_changes rs) (time_behind now rs) ds bs
  rows-story cs now at low [] l h = ap (λ (ys : List Change). body_story ys now ds bs) (sym (append-nil cs))
  rows-story cs now at low (r ∷ rs) l h =
      let a = h.0 in
      let words : List (List (List ℕ)) = row_words r.time r.ticks in
      let place : ℕ = behind at (all_words words) in
      let later : ℕ = time_at now r.time r.ticks in
      let early : now ≤ r.time = omega arith in
      ap (goes wanted limits (body_story cs now ds bs) at) (all_words-append words (rows_words rs))
      ∙ goes-append wanted limits (body_story cs now ds bs) at (all_words words) (all_words (rows_words rs))
      ∙ ap (λ (s : Story). goes wanted limits s place (all_words (rows_words rs)))
      (row-story cs now at r.time r.ticks early h.1 (are-below 0 names r.ticks h.2))
      ∙ rows-story (cs ++ step_changes r.time r.ticks) later place (r.time + 1) rs (not-later now r.time r.ticks early) h.3
      ∙ ap (λ (ys : List Change). body_story ys (time_behind later rs) ds bs) (append_assoc cs (step_changes r.time r.ticks) (rows_changes rs))

-- ROWS

pub earlier-later : (low high : ℕ) (cs : List Change) → low ≤ high → Earlier low cs → Earlier high cs
earlier-later low high [] l e = tt
earlier-later low high (c ∷ cs) l e = (let a = e.0 in omega arith, earlier-later low high cs l e.1)

-- a row with other ticks
abbrev pub with_ticks : (List ℕ → List ℕ) → Row → Row
with_ticks f r = record { time = r.time; ticks = f r.ticks }

module _ (bs : List Bound) (names : ℕ) (f : List ℕ → List ℕ)
    (ticked : (time : ℕ) (xs : List ℕ) (old : List Change) → IsWithin 0 names xs
    → map (λ b. b.clock) (filter (ticks (step_changes time xs) old) bs) ≡ f xs) where
  -- The rows that are read are those of the times, with the clocks that tick.
  pub rows-read : (low : ℕ) (old : List Change) (rs : List Row) → AreTimes names low rs → Earlier low old
      → rows bs (old ++ rows_changes rs) ≡ rows bs old ++ filter has_ticks (map (with_ticks f) rs)
  rows-read low old [] h e = ap (rows bs) (append-nil old) ∙ sym (append-nil (rows bs old))
  rows-read low old (r ∷ rs) h e =
      let cur : List Change = step_changes r.time r.ticks in
      let here : Earlier r.time old = earlier-later low r.time old h.0 e in
      let rest : List Row = map (with_ticks f) rs in
      ap (rows bs) (sym (append_assoc old cur (rows_changes rs)))
      ∙ rows-read (r.time + 1) (old ++ cur) rs h.3 (earlier-more r.time old cur here (earlier-step r.time r.ticks))
      ∙ ap (λ (xs : List Row). xs ++ filter has_ticks rest) (rows-all bs r.time old cur here (step-now r.time r.ticks)
      ∙ ap (λ (xs : List ℕ). rows bs old ++ filter has_ticks (record { time = r.time; ticks = xs } ∷ [])) (ticked r.time r.ticks old h.2))
      ∙ append_assoc (rows bs old) (filter has_ticks (with_ticks f r ∷ [])) (filter has_ticks rest)
      ∙ ap (λ (xs : List Row). rows bs old ++ xs) (sym (filter-append has_ticks (with_ticks f r ∷ []) rest))
