-- The rows so far come first among those of the whole body.
use Rattle.std.proofs.Common.{◌≡◌, ℕ, List, [], ◌∷◌, ◌++◌, length, Bool, true, false, cond, nat_lt, take, fold, IsTrue, Option, Some, None}
use Rattle.std.proofs.Common.{refl, sym, ap, ◌∙◌, append_assoc, append-nil, codes, bytes_eq}
use Rattle.std.proofs.lemmas.List.Sums.{fold-append}
use Rattle.ccsl_edge.specs.World.{State, Told}
use Rattle.ccsl_vcd_lex.specs.Tokens.{Token, Heard, word, too_long}
use Rattle.ccsl_vcd.specs.declared.fault.VcdFault.{VcdFault}
use Rattle.ccsl_vcd.specs.Words as w
use Rattle.ccsl_vcd.specs.Words.{Word, word_of}
use Rattle.ccsl_events.specs.Dump.{Plan, Place, Amid, changes, remark, code_of, code_skipped, Said, goes, refused, Story, says, told, next, next_from}
use Rattle.ccsl_events.specs.Dump.{begin, token_says, word_says, time_says, changed, passed, may_end, ends_at, row_of, is_declared, heard_in, block_says}
use Rattle.ccsl_events.specs.Dump.{gap_says}
use Rattle.ccsl_events.specs.Dump as dump
use Rattle.ccsl_triggers.specs.Views.{no_view}
use Rattle.ccsl_vcd.specs.declared.fault.VcdFault.TheVariants as faults
use Rattle.ccsl_base.specs.declared.limits.TheConstants.{MAX_FILE_BYTES}
use Rattle.ccsl_events.specs.Run.{settled_from, story_from}
use Rattle.ccsl_events.proofs.Whole.{settled-more, taken-told}
use Rattle.ccsl_events_top.specs.declared.sink.Sink.{Sink}
use Rattle.ccsl_events_top.specs.declared.pass.Pass.{Pass}
use Rattle.ccsl_events_top.specs.Reading.{read_of, is_too_long, body_ends, story_behind, rows_at, rows_of}
use Rattle.ccsl_events_top.specs.Passing.{dump_of, Leaves, InBody, IsCutOff}
use Rattle.ccsl_events_top.proofs.Passing.{given-first, given-whole, leaves}
use Rattle.ccsl_events_top.proofs.Bodies.{story-front}

-- the rows begin with some where what is said leads, if it leads on
abbrev Grows : List ℕ → Said → Type 0
Grows rows (goes q) = (more : List ℕ) × (q.written ≡ rows ++ more)
Grows rows (refused f) = Unit {0}

either : (rows : List ℕ) (b : Bool) (x y : Said) → Grows rows x → Grows rows y → Grows rows (cond b x y)
either rows true x y p q = p
either rows false x y p q = q

still : (rows : List ℕ) → (more : List ℕ) × (rows ≡ rows ++ more)
still rows = ([], sym (append-nil rows))

time-grows : (plan : Plan) (p : Place) (at n : ℕ) → Grows p.written (time_says plan p at n)
time-grows plan p at n =
    either p.written (nat_lt n p.now) (refused (faults.TimeBack at p.now n))
    (cond (nat_lt p.now n) (goes (record (passed plan p) { now = n })) (goes p)) tt
    (either p.written (nat_lt p.now n) (goes (record (passed plan p) { now = n })) (goes p) (row_of plan p.now p.views, refl) (still p.written))

changed-grows : (plan : Plan) (p : Place) (at : ℕ) (code letters : List ℕ) → Grows p.written (changed plan p at code letters)
changed-grows plan p at code letters =
    either p.written (is_declared plan code)
    (goes (record p { amid = changes; views = cond p.recording (heard_in plan code letters p.dumping p.views) p.views }))
    (refused (faults.UnknownCode at)) (still p.written) tt

block-grows : (p : Place) (at : ℕ) → Grows p.written (block_says p at)
block-grows p at =
    either p.written p.dumping (refused (faults.UnknownCommand at)) (goes (record p { dumping = true })) tt (still p.written)

gap-grows : (plan : Plan) (p : Place) (at : ℕ) → Grows p.written (gap_says plan p at)
gap-grows plan p at =
    let skipped : Said = goes (record p { dumping = true; recording = false; views = λ n. no_view }) in
    either p.written p.dumping (refused (faults.UnknownCommand at)) (cond plan.skips skipped (refused (faults.Gap at))) tt
    (either p.written plan.skips skipped (refused (faults.Gap at)) (still p.written) tt)

close-grows : (p : Place) (at : ℕ) → Grows p.written (dump.end_says p at)
close-grows p at =
    either p.written p.dumping (goes (record p { dumping = false })) (refused (faults.UnknownCommand at)) (still p.written) tt

word-grows : (plan : Plan) (p : Place) (t : Token) (k : Word) → Grows p.written (word_says plan p t k)
word-grows plan p t (w.time n) = time-grows plan p t.at n
word-grows plan p t (w.scalar one code) = changed-grows plan p t.at code (take 1 t.text)
word-grows plan p t (w.vector one) = still p.written
word-grows plan p t w.skipped = still p.written
word-grows plan p t w.comment = still p.written
word-grows plan p t w.dump =
    block-grows (record p { recording = cond (bytes_eq t.text (codes "$dumpon")) true p.recording }) t.at
word-grows plan p t w.gap = gap-grows plan p t.at
word-grows plan p t w.close = close-grows p t.at
word-grows plan p t w.bad_time = tt
word-grows plan p t w.bad_change = tt
word-grows plan p t w.unknown = tt

token-grows : (plan : Plan) (p : Place) (t : Token) (amid : Amid) → Grows p.written (token_says plan p t amid)
token-grows plan p t changes = word-grows plan p t (word_of t.text)
token-grows plan p t remark =
    either p.written (bytes_eq t.text (codes "$end")) (goes (record p { amid = changes })) (goes p) (still p.written) (still p.written)
token-grows plan p t (code_of letters) = changed-grows plan p t.at t.text letters
token-grows plan p t code_skipped =
    either p.written (is_declared plan t.text) (goes (record p { amid = changes })) (refused (faults.UnknownCode t.at)) (still p.written) tt

says-grows : (plan : Plan) (p : Place) (h : Heard) → Grows p.written (says plan p h)
unfolding says
says-grows plan p (too_long at) = tt
says-grows plan p (word t) = token-grows plan p t p.amid

told-grows : (p : Place) (s : Said) → Grows p.written s → (more : List ℕ) × ((told p s).place.written ≡ p.written ++ more)
told-grows p (goes q) g = g
told-grows p (refused f) g = ([], sym (append-nil p.written))

next-grows : (plan : Plan) (p : Place) (f : Option VcdFault) (h : Heard)
    → (more : List ℕ) × ((next_from plan p f h).place.written ≡ p.written ++ more)
next-grows plan p None h = told-grows p (says plan p h) (says-grows plan p h)
next-grows plan p (Some f) h = ([], sym (append-nil p.written))

pub story-grows : (plan : Plan) (s : Story) (hs : List Heard)
    → (more : List ℕ) × ((fold (next plan) s hs).place.written ≡ s.place.written ++ more)
story-grows plan s [] = ([], sym (append-nil s.place.written))
story-grows plan s (h ∷ hs) =
    let a = next-grows plan s.place s.fault h in
    let b = story-grows plan (next plan s h) hs in (
      a.0 ++ b.0,
      b.1 ∙ ap (λ (xs : List ℕ). xs ++ b.0) a.1 ∙ append_assoc s.place.written a.0 b.0,
    )

-- the last row is behind them
end-grows : (plan : Plan) (bytes : List ℕ) (p : Place) (f : Option VcdFault) → Grows p.written (body_ends plan bytes p f)
end-grows plan bytes p None =
    either p.written (is_too_long bytes) (refused (faults.TooLong MAX_FILE_BYTES)) (ends_at plan (length bytes) p) tt
    (either p.written (may_end p) (goes (passed plan p)) (refused (faults.Truncated (length bytes))) (row_of plan p.now p.views, refl) tt)
end-grows plan bytes p (Some f) = tt

rows-grow : (p : Place) (s : Said) → Grows p.written s → (more : List ℕ) × (rows_at p s ≡ p.written ++ more)
rows-grow p (goes q) g = g
rows-grow p (refused f) g = ([], sym (append-nil p.written))

-- the rows of a body, by the place that some first bytes lead to
pub rows-first : (plan : Plan) (head bytes more file : List ℕ) (p : Place) → read_of file ≡ head ++ (bytes ++ more)
    → story_from plan begin (settled_from (length head) bytes) ≡ record { place = p; fault = None }
    → (rest : List ℕ) × (rows_of plan (length head) file ≡ p.written ++ rest)
rows-first plan head bytes more file p is here =
    let k = settled-more (length head) bytes more in
    let s : Story = story_behind plan (length head) file in
    let story : s ≡ fold (next plan) (record { place = p; fault = None }) k.0 =
    story-front plan head (bytes ++ more) file is ∙ ap (story_from plan begin) k.1
    ∙ fold-append (next plan) (record { place = begin; fault = None }) (settled_from (length head) bytes) k.0
    ∙ ap (λ (x : Story). fold (next plan) x k.0) here in
    let a = story-grows plan (record { place = p; fault = None }) k.0 in
    let b = rows-grow s.place (body_ends plan file s.place s.fault) (end-grows plan file s.place s.fault) in (
      a.0 ++ b.0,
      b.1 ∙ ap (λ (x : Story). x.place.written ++ b.0) story ∙ ap (λ (xs : List ℕ). xs ++ b.0) a.1 ∙ append_assoc p.written a.0 b.0,
    )

module _ (told : Told) (sink : Sink) (start now : State) (plan : Plan) (head text : List ℕ) where
  first-read : (pass : Pass) (i : InBody told sink start now plan head text pass) → IsTrue told.left
      → (more : List ℕ) × (read_of (dump_of start) ≡ head ++ (i.given ++ more))
  first-read pass i tells =
      (elim pass.has_ended as (λ w. pass.has_ended ≡ w → (more : List ℕ) × (read_of (dump_of start) ≡ head ++ (i.given ++ more))) [
        | true ↦ λ e. (
          [],
          (given-whole told sink start now pass (head ++ i.given) i.written i.passes e tells).0
              ∙ ap (λ (xs : List ℕ). head ++ xs) (sym (append-nil i.given)),
        )
        | false ↦ λ e.
            let k = given-first told sink start now pass (head ++ i.given) i.written i.passes e tells in (
              pass.pending ++ k.0,
              k.1 ∙ append_assoc (head ++ i.given) pass.pending k.0 ∙ append_assoc head i.given (pass.pending ++ k.0),
            )
      ]) refl

  -- what was written and what waits comes first
  pub rows-so-far : (pass : Pass) (i : InBody told sink start now plan head text pass) → IsTrue told.left
      → (more : List ℕ) × ((i.written ++ pass.block.items) ++ more ≡ text ++ rows_of plan (length head) (dump_of start))
  rows-so-far pass i tells =
      let k = first-read pass i tells in
      let r = rows-first plan head i.given k.0 (dump_of start) i.place k.1 (taken-told plan (length head) i.given i.place pass.reader i.taken) in (
        r.0,
        ap (λ (xs : List ℕ). xs ++ r.0) i.rows ∙ append_assoc text i.place.written r.0 ∙ ap (λ (xs : List ℕ). text ++ xs) (sym r.1),
      )

  -- nothing of what waits is written
  unwaited : (written waits all : List ℕ) → (more : List ℕ) × ((written ++ waits) ++ more ≡ all) → (more : List ℕ) × ((written ++ []) ++ more ≡ all)
  unwaited written waits all k = (
    waits ++ k.0,
    ap (λ (xs : List ℕ). xs ++ (waits ++ k.0)) (append-nil written) ∙ sym (append_assoc written waits k.0) ∙ k.1,
  )

  -- want of memory
  pub starved : (pass : Pass) → (i : InBody told sink start now plan head text pass)
      → IsCutOff told sink start now (Leaves told sink start now) plan head text []
  starved pass i = record {
    written = i.written;
    left = leaves told sink start now pass (head ++ i.given) i.written i.passes;
    front = λ tells.
        unwaited i.written pass.block.items (text ++ rows_of plan (length head) (dump_of start)) (rows-so-far pass i tells);
  }
