-- What is written of a body is its times, one after another.
use Rattle.std.proofs.Common.{◌≡◌, ℕ, zero, suc, ◌+◌, ◌^◌, ◌≤◌, ◌<◌, List, [], ◌∷◌, ◌++◌, length, filter, fold, Bool, true, false, nat_lt, nat_le, ◌&&◌}
use Rattle.std.proofs.Common.{cond, Option, Some, None, refl, sym, ap, ◌∙◌, arith, append_assoc, append-nil, length-append, subst, ◌||◌, ◌==◌, not, codes}
use Rattle.std.specs.List.{list_all, range_with_len}
use Rattle.std.specs.Str.{bytes_eq}
use Rattle.ccsl_base.specs.Empty.{is_empty}
use Rattle.std.proofs.lemmas.List.Elements.{filter-append}
use Rattle.std.proofs.lemmas.Bool.{and_parts, leb-true, ltb-true, le-ltb}
use Rattle.ccsl_base.specs.Decimal.{are_digits, decimal_value}
use Rattle.ccsl_base.specs.declared.rows.Row.{Row}
use Rattle.ccsl_vcd_lex.specs.Tokens.{Token, Heard, word, too_long}
use Rattle.ccsl_vcd.specs.declared.fault.VcdFault.{VcdFault}
use Rattle.ccsl_vcd.specs.declared.fault.VcdFault.TheVariants as faults
use Rattle.ccsl_vcd.specs.Words as w
use Rattle.ccsl_vcd.specs.Rows.{has_ticks}
use Rattle.ccsl_vcd_write.proofs.StepRows.{IsWithin}
use Rattle.ccsl_events.specs.Dump.{Plan, Amid, changes, remark, code_of, code_skipped, Place, Said, goes, refused, row_of, is_declared, changed}
use Rattle.ccsl_events.specs.Dump.{passed, time_says, word_says, token_says, says, Story, told, next_from, next, story}
use Rattle.ccsl_event_rows.specs.Times.{present, over, over_behind, begun, times_over, times}
use Rattle.ccsl_event_rows.proofs.Rows.{AreTimes, lower, rows_text, rows_text-append}

-- A TIME has 64 bits

abbrev Fits : w.Word → Type 0
Fits (w.time n) = n < 2 ^ 64
Fits (w.scalar one code) = Unit {0}
Fits (w.vector one) = Unit {0}
Fits w.skipped = Unit {0}
Fits w.comment = Unit {0}
Fits w.dump = Unit {0}
Fits w.gap = Unit {0}
Fits w.close = Unit {0}
Fits w.bad_time = Unit {0}
Fits w.bad_change = Unit {0}
Fits w.unknown = Unit {0}

either-fits : (b : Bool) (x y : w.Word) → Fits x → Fits y → Fits (cond b x y)
either-fits true x y f g = f
either-fits false x y f g = g

number-fits : (rest : List ℕ) → Fits (w.time_of (w.number 18446744073709551615 rest))
unfolding w.number
number-fits rest =
    let n : ℕ = decimal_value rest in
    (elim (are_digits rest && nat_le n 18446744073709551615) as
    (λ b. (are_digits rest && nat_le n 18446744073709551615) ≡ b → Fits (w.time_of (cond b (Some n) None))) [
      | true ↦ λ e. let l : n ≤ 18446744073709551615 =
          leb-true n 18446744073709551615 (and_parts (are_digits rest) (nat_le n 18446744073709551615) e).1 in omega arith
      | false ↦ λ e. tt
    ]) refl

command-fits : (text : List ℕ) → Fits (w.command_of text)
command-fits text =
    either-fits (bytes_eq text (codes "$comment")) w.comment _ tt
    (either-fits (bytes_eq text (codes "$dumpvars") || (bytes_eq text (codes "$dumpall") || bytes_eq text (codes "$dumpon"))) w.dump _ tt
    (either-fits (bytes_eq text (codes "$dumpoff")) w.gap _ tt (either-fits (bytes_eq text (codes "$end")) w.close w.unknown tt tt)))

change-fits : (b : ℕ) (rest : List ℕ) → Fits (w.change_of b rest)
change-fits b rest =
    let some : Bool = not (is_empty rest) in
    either-fits (w.is_scalar b && some) (w.scalar (b == 49) rest) _ tt
    (either-fits (w.is_one_of (codes "bB") b && (some && list_all w.is_scalar rest)) (w.vector (w.last_of b rest == 49)) _ tt
    (either-fits (w.is_one_of (codes "rR") b && some) w.skipped _ tt (either-fits (w.is_one_of (codes "sS") b) w.skipped w.bad_change tt tt)))

word-fits : (text : List ℕ) → Fits (w.word_of text)
unfolding w.word_of
word-fits [] = tt
word-fits (b ∷ rest) =
    either-fits (b == 35) (w.time_of (w.number 18446744073709551615 rest)) _ (number-fits rest)
    (either-fits (b == 36) (w.command_of (b ∷ rest)) (w.change_of b rest) (command-fits (b ∷ rest)) (change-fits b rest))

-- WHERE A TOKEN LEADS: what is written on the way is the time that is over

-- how many of some times have a row
abbrev pub rows_in : List Row → ℕ
rows_in ts = length (filter has_ticks ts)

record Leads (plan : Plan) (p q : Place) : Type 0 where
  later : p.now ≤ q.now
  fits : q.now < 2 ^ 64
  written : q.written ≡ p.written ++ rows_text (over plan p q)
  counted : q.times ≡ p.times + rows_in (over plan p q)

abbrev LeadsBy : Plan → Place → Said → Type 0
LeadsBy plan p (goes q) = Leads plan p q
LeadsBy plan p (refused f) = Unit {0}

-- the time stays, and nothing is written
stays : (plan : Plan) (p q : Place) → p.now < 2 ^ 64 → q.now ≡ p.now → q.written ≡ p.written → q.times ≡ p.times → Leads plan p q
stays plan p q k n e c = record {
  later = omega arith;
  fits = omega arith;
  written = e ∙ sym (ap (λ b. p.written ++ rows_text (cond b (present plan p ∷ []) [])) (le-ltb p.now q.now (omega arith)) ∙ append-nil p.written);
  counted =
      let none : p.times + rows_in (over plan p q) ≡ p.times + 0 =
      ap (λ b. p.times + rows_in (cond b (present plan p ∷ []) [])) (le-ltb p.now q.now (omega arith)) in
      omega (arith, none, c);
}

one-row : (r : Row) → rows_in (r ∷ []) ≡ cond (has_ticks r) 1 0
one-row r = elim (has_ticks r) as (λ b. length (cond b (r ∷ []) []) ≡ cond b 1 0) [ true ↦ refl | false ↦ refl ]

-- the time is over
passes : (plan : Plan) (p : Place) (n : ℕ) → n < 2 ^ 64 → nat_lt p.now n ≡ true → Leads plan p (record (passed plan p) { now = n })
passes plan p n l e =
    let later : p.now < n = ltb-true p.now n e in
    record {
      later = omega arith;
      fits = l;
      written = sym (ap (λ b. p.written ++ rows_text (cond b (present plan p ∷ []) [])) e
          ∙ ap (λ (t : List ℕ). p.written ++ t) (append-nil (row_of plan p.now p.views)));
      counted = sym (ap (λ b. p.times + rows_in (cond b (present plan p ∷ []) [])) e ∙ ap (λ n. p.times + n) (one-row (present plan p)));
    }

module _ (plan : Plan) (p : Place) (k : p.now < 2 ^ 64) where
  either : (b : Bool) (s t : Said) → LeadsBy plan p s → LeadsBy plan p t → LeadsBy plan p (cond b s t)
  either true s t f g = f
  either false s t f g = g

  to-changed : (at : ℕ) (code letters : List ℕ) → LeadsBy plan p (changed plan p at code letters)
  to-changed at code letters = either (is_declared plan code) _ (refused (faults.UnknownCode at)) (stays plan p _ k refl refl refl) tt

  to-time : (at n : ℕ) → n < 2 ^ 64 → LeadsBy plan p (time_says plan p at n)
  to-time at n l =
      either (nat_lt n p.now) (refused (faults.TimeBack at p.now n)) _ tt
      ((elim (nat_lt p.now n) as (λ b. nat_lt p.now n ≡ b → LeadsBy plan p (cond b (goes (record (passed plan p) { now = n })) (goes p))) [
        | true ↦ λ e. passes plan p n l e
        | false ↦ λ e. stays plan p p k refl refl refl
      ]) refl)

  to-word : (t : Token) (x : w.Word) → Fits x → LeadsBy plan p (word_says plan p t x)
  to-word t (w.time n) f = to-time t.at n f
  to-word t (w.scalar one code) f = to-changed t.at code _
  to-word t (w.vector one) f = stays plan p _ k refl refl refl
  to-word t w.skipped f = stays plan p _ k refl refl refl
  to-word t w.comment f = stays plan p _ k refl refl refl
  to-word t w.dump f = either p.dumping (refused (faults.UnknownCommand t.at)) _ tt (stays plan p _ k refl refl refl)
  to-word t w.gap f =
      either p.dumping (refused (faults.UnknownCommand t.at)) _ tt (either plan.skips _ (refused (faults.Gap t.at)) (stays plan p _ k refl refl refl) tt)
  to-word t w.close f = either p.dumping _ (refused (faults.UnknownCommand t.at)) (stays plan p _ k refl refl refl) tt
  to-word t w.bad_time f = tt
  to-word t w.bad_change f = tt
  to-word t w.unknown f = tt

  to-token : (t : Token) (amid : Amid) → LeadsBy plan p (token_says plan p t amid)
  to-token t changes = to-word t (w.word_of t.text) (word-fits t.text)
  to-token t remark =
      let q : Place = record p { amid = changes } in
      either (bytes_eq t.text (codes "$end")) (goes q) (goes p) (stays plan p q k refl refl refl) (stays plan p p k refl refl refl)
  to-token t (code_of letters) = to-changed t.at t.text letters
  to-token t code_skipped = either (is_declared plan t.text) _ (refused (faults.UnknownCode t.at)) (stays plan p _ k refl refl refl) tt

  to-heard : (h : Heard) → LeadsBy plan p (says plan p h)
  unfolding says
  to-heard (too_long at) = tt
  to-heard (word t) = to-token t p.amid

  to-told : (said : Said) → LeadsBy plan p said → Leads plan p (told p said).place
  to-told (goes q) h = h
  to-told (refused f) h = stays plan p p k refl refl refl

  to-next : (fault : Option VcdFault) (h : Heard) → Leads plan p (next_from plan p fault h).place
  to-next None h = to-told (says plan p h) (to-heard h)
  to-next (Some f) h = stays plan p p k refl refl refl

-- TOKENS, one after another

-- numbers of names that pass a test
within-range : (test : ℕ → Bool) (low n high : ℕ) → low + n ≡ high → IsWithin low high (filter test (range_with_len low n))
within-range test low zero high e = tt
within-range test low (suc n) high e =
    elim (test low) as (λ b. IsWithin low high (cond b (low ∷ filter test (range_with_len (low + 1) n)) (filter test (range_with_len (low + 1) n)))) [
      | true ↦ (omega arith, omega arith, within-range test (low + 1) n high (omega arith))
      | false ↦ higher low high (filter test (range_with_len (low + 1) n)) (within-range test (low + 1) n high (omega arith))
    ]
  where
    higher : (low high : ℕ) (xs : List ℕ) → IsWithin (low + 1) high xs → IsWithin low high xs
    higher low high [] h = tt
    higher low high (x ∷ xs) h = (let a = h.0 in omega arith, h.1, h.2)

module _ (plan : Plan) where
  abbrev names : ℕ
  names = length plan.watches

  abbrev behind : Story → List Heard → Place
  behind s hs = (fold (next plan) s hs).place

  leads : (s : Story) (h : Heard) → s.place.now < 2 ^ 64 → Leads plan s.place (next plan s h).place
  leads s h k = to-next plan s.place k s.fault h

  pub now-fits : (s : Story) (hs : List Heard) → s.place.now < 2 ^ 64 → (behind s hs).now < 2 ^ 64
  now-fits s [] k = k
  now-fits s (h ∷ hs) k = now-fits (next plan s h) hs (leads s h k).fits

  -- What is written is the text of the times that are over.
  pub written-behind : (s : Story) (hs : List Heard) → s.place.now < 2 ^ 64 → (behind s hs).written ≡ s.place.written ++ rows_text (over_behind plan s hs)
  written-behind s [] k = sym (append-nil s.place.written)
  written-behind s (h ∷ hs) k =
      let t : Story = next plan s h in
      let here : List Row = over plan s.place t.place in
      let there : List Row = over_behind plan t hs in
      written-behind t hs (leads s h k).fits
      ∙ ap (λ (w : List ℕ). w ++ rows_text there) (leads s h k).written
      ∙ append_assoc s.place.written (rows_text here) (rows_text there)
      ∙ ap (λ (w : List ℕ). s.place.written ++ w) (sym (rows_text-append here there))

  -- as many rows are counted as they have
  rows-both : (xs ys : List Row) → rows_in (xs ++ ys) ≡ rows_in xs + rows_in ys
  rows-both xs ys = ap length (filter-append has_ticks xs ys) ∙ length-append (filter has_ticks xs) (filter has_ticks ys)

  counted-behind : (s : Story) (hs : List Heard) → s.place.now < 2 ^ 64 → (behind s hs).times ≡ s.place.times + rows_in (over_behind plan s hs)
  counted-behind s [] k = omega arith
  counted-behind s (h ∷ hs) k =
      let t : Story = next plan s h in
      let it = leads s h k in
      let more = counted-behind t hs it.fits in
      omega (arith, it.counted, more, rows-both (over plan s.place t.place) (over_behind plan t hs))

  -- the present time is one, in front of later ones
  pub present-time : (p : Place) (rs : List Row) → p.now < 2 ^ 64 → AreTimes names (p.now + 1) rs → AreTimes names p.now (present plan p ∷ rs)
  present-time p rs k h = (omega arith, k, within-range _ 0 names names (omega arith), h)

  over-times : (p q : Place) (rs : List Row) → Leads plan p q → p.now < 2 ^ 64 → AreTimes names q.now rs → AreTimes names p.now (over plan p q ++ rs)
  over-times p q rs l k h =
      (elim (nat_lt p.now q.now) as (λ b. nat_lt p.now q.now ≡ b → AreTimes names p.now (cond b (present plan p ∷ []) [] ++ rs)) [
        | true ↦ λ e. let later : p.now < q.now = ltb-true p.now q.now e in present-time p rs k (lower names (p.now + 1) q.now rs (omega arith) h)
        | false ↦ λ e. lower names p.now q.now rs l.later h
      ]) refl

  -- The times that are over ascend, in front of later ones.
  pub times-behind : (s : Story) (hs : List Heard) (rs : List Row) → s.place.now < 2 ^ 64 → AreTimes names (behind s hs).now rs
      → AreTimes names s.place.now (over_behind plan s hs ++ rs)
  times-behind s [] rs k h = h
  times-behind s (x ∷ hs) rs k h =
      let t : Story = next plan s x in
      let it = leads s x k in
      subst (AreTimes names s.place.now) (sym (append_assoc (over plan s.place t.place) (over_behind plan t hs) rs))
      (over-times s.place t.place (over_behind plan t hs ++ rs) it k (times-behind t hs rs it.fits h))

  -- A WHOLE BODY, or its front

  pub front-written : (hs : List Heard) → (story plan hs).place.written ≡ rows_text (times_over plan hs)
  unfolding story
  front-written hs = written-behind begun hs (omega arith)

  pub front-times : (hs : List Heard) → AreTimes names 0 (times_over plan hs)
  unfolding story
  front-times hs = subst (AreTimes names 0) (append-nil (times_over plan hs)) (times-behind begun hs [] (omega arith) tt)

  pub whole-written : (hs : List Heard) → (passed plan (story plan hs).place).written ≡ rows_text (times plan hs)
  whole-written hs =
      let p : Place = (story plan hs).place in
      ap (λ (t : List ℕ). t ++ row_of plan p.now p.views) (front-written hs)
      ∙ ap (λ (t : List ℕ). rows_text (times_over plan hs) ++ t) (sym (append-nil (row_of plan p.now p.views)))
      ∙ sym (rows_text-append (times_over plan hs) (present plan p ∷ []))

  pub whole-times : (hs : List Heard) → AreTimes names 0 (times plan hs)
  unfolding story
  whole-times hs =
      let p : Place = behind begun hs in
      times-behind begun hs (present plan p ∷ []) (omega arith) (present-time p [] (now-fits begun hs (omega arith)) tt)

  pub whole-counted : (hs : List Heard) → (passed plan (story plan hs).place).times ≡ rows_in (times plan hs)
  unfolding story
  whole-counted hs =
      let p : Place = behind begun hs in
      let before : p.times ≡ 0 + rows_in (times_over plan hs) = counted-behind begun hs (omega arith) in
      let last : rows_in (present plan p ∷ []) ≡ cond (has_ticks (present plan p)) 1 0 = one-row (present plan p) in
      omega (arith, before, last, rows-both (times_over plan hs) (present plan p ∷ []))
