-- What a pass has written of a body, from one step to the next.
use Rattle.std.proofs.Common.{◌≡◌, ℕ, ◌+◌, ◌-◌, ◌≤◌, ◌<◌, ◌⊎◌, inl, inr, List, [], ◌∷◌, ◌++◌, length, take, drop, Bool, true, false, cond, IsTrue, Some}
use Rattle.std.proofs.Common.{None, Err, refl, sym, ap, ◌∙◌, subst, append_assoc, append-nil, arith, length-append, length-take-le}
use Rattle.std.proofs.Math.Seq.{drop-append_seam}
use Rattle.ccsl_base.specs.declared.limits.TheConstants.{MAX_FILE_BYTES}
use Rattle.ccsl_edge.specs.World.{State, Told}
use Rattle.ccsl_edge.specs.declared.slot.Slot.TheVariants.{Trace}
use Rattle.ccsl_vcd.specs.declared.fault.VcdFault.{VcdFault}
use Rattle.ccsl_vcd.specs.declared.fault.VcdFault.TheVariants as faults
use Rattle.ccsl_scopes.specs.Headings.{Heading}
use Rattle.ccsl_events.specs.Dump.{Plan, Place, refused, Story, begin, ends_at}
use Rattle.ccsl_events.specs.Run.{settled_from, story_from}
use Rattle.ccsl_events.specs.Run as run
use Rattle.ccsl_events.specs.Fed.{HasTaken, Reaches}
use Rattle.ccsl_events.proofs.Whole.{breaks-more, taken-told}
use Rattle.ccsl_events_top.specs.declared.sink.Sink.{Sink}
use Rattle.ccsl_events_top.specs.declared.pass.Pass.{Pass}
use Rattle.ccsl_events_top.specs.Reading.{read_of, body_ends, story_behind}
use Rattle.ccsl_events_top.specs.Passing.{AreGiven, dump_of, Passes, HasAll, IsCut, InBody, IsBroken, HasHeader, Begins}
use Rattle.ccsl_events_top.specs.Passing.{BodyOn, left_for}
use Rattle.ccsl_events_top.proofs.Passing.{given-fits, given-few, given-first, given-whole, cut-long, passes-on, taken-on, ended-passes, leaves, read-long}

pub story-front : (plan : Plan) (head all dump : List ℕ) → read_of dump ≡ head ++ all
    → story_behind plan (length head) dump ≡ story_from plan begin (settled_from (length head) all)
story-front plan head all dump e =
    ap (λ (xs : List ℕ). story_from plan begin (settled_from (length head) (drop (length head) xs))) e
    ∙ ap (λ (xs : List ℕ). story_from plan begin (settled_from (length head) xs)) (drop-append_seam head all)

-- what was written, what waits and what was added to it
rows-more : (written old more text before : List ℕ) → written ++ old ≡ text ++ before → written ++ (old ++ more) ≡ text ++ (before ++ more)
rows-more written old more text before e =
    sym (append_assoc written old more) ∙ ap (λ (xs : List ℕ). xs ++ more) e ∙ append_assoc text before more

module _ (told : Told) (sink : Sink) (start now : State) (plan : Plan) (head text : List ℕ) where
  -- the reader took so many of the bytes that wait, or the line feed
  on-body : (before : ℕ) (pass : Pass) (given bytes written old : List ℕ) (p : Place) → before < length head + length (given ++ bytes)
      → Passes told sink start now pass (head ++ (given ++ bytes)) written
      → written ++ old ≡ text ++ p.written → Reaches plan (length head) (given ++ bytes) p.written pass.reader old pass.block.items
      → InBody told sink start now plan head text pass × (before < pass.reader.taken)
  on-body before pass given bytes written old p less passes rows r = (
    record {
      given = given ++ bytes;
      written = written;
      place = r.place;
      passes = passes;
      taken = r.taken;
      rows =
          ap (λ (xs : List ℕ). written ++ xs) r.out ∙ rows-more written old r.more text p.written rows
          ∙ ap (λ (xs : List ℕ). text ++ xs) (sym r.written);
    },
    omega (arith, less, r.taken.taken),
  )

  pub fed-body : (pass pass' : Pass) (n : ℕ) → (i : InBody told sink start now plan head text pass) → pass.has_ended ≡ false
      → pass'.has_ended ≡ false → pass'.read ≡ pass.read → pass'.pending ≡ drop n pass.pending → 0 < n → n ≤ length pass.pending
      → Reaches plan (length head) (i.given ++ take n pass.pending) i.place.written pass'.reader pass.block.items pass'.block.items
      → InBody told sink start now plan head text pass' × (pass.reader.taken < pass'.reader.taken)
  fed-body pass pass' n i more on read rest some within r =
      on-body pass.reader.taken pass' i.given (take n pass.pending) i.written pass.block.items i.place
      (omega (arith, i.taken.taken, some, length-append i.given (take n pass.pending), length-take-le n pass.pending within))
      (subst (λ xs. Passes told sink start now pass' xs i.written) (append_assoc head i.given (take n pass.pending))
      (taken-on told sink start now pass pass' (head ++ i.given) i.written n i.passes more on read rest)) i.rows r

  pub ended-body : (pass pass' : Pass) → (i : InBody told sink start now plan head text pass) → HasAll told sink start now pass (head ++ i.given) i.written
      → pass.has_ended ≡ false → pass'.has_ended ≡ true → pass'.read ≡ pass.read → pass'.pending ≡ pass.pending
      → Reaches plan (length head) (i.given ++ 10 ∷ []) i.place.written pass'.reader pass.block.items pass'.block.items
      → InBody told sink start now plan head text pass' × (pass.reader.taken < pass'.reader.taken)
  ended-body pass pass' i a more over read rest r =
      on-body pass.reader.taken pass' i.given (10 ∷ []) i.written pass.block.items i.place
      (omega (arith, i.taken.taken, length-append i.given (10 ∷ [])))
      (subst (λ xs. Passes told sink start now pass' xs i.written) (append_assoc head i.given (10 ∷ []))
      (ended-passes told sink start now pass pass' (head ++ i.given) i.written a more over read rest)) i.rows r

  -- a fault in bytes that come first in what is read of the dump behind the header
  broken-body : (pass : Pass) (given all written old waits : List ℕ) (f : VcdFault) (p : Place) → Passes told sink start now pass given written
      → written ++ old ≡ text ++ p.written → (b : run.Breaks plan begin (length head) all f p.written old waits)
      → (IsTrue told.left → (more : List ℕ) × (read_of (dump_of start) ≡ (head ++ all) ++ more))
      → IsBroken told sink start now plan head text f waits
  broken-body pass given all written old waits f p passes rows b first =
      let story : IsTrue told.left → story_behind plan (length head) (dump_of start) ≡ record { place = b.place; fault = Some f } =
      λ tells.
      let k = first tells in
      story-front plan head (all ++ k.0) (dump_of start) (k.1 ∙ append_assoc head all k.0)
      ∙ breaks-more plan (length head) all k.0 f p.written old waits b in
      record {
        written = written;
        place = b.place;
        leaves = leaves told sink start now pass given written passes;
        rows =
            ap (λ (xs : List ℕ). written ++ xs) b.out ∙ rows-more written old b.more text p.written rows ∙ ap (λ (xs : List ℕ). text ++ xs) (sym b.written);
        ended = λ tells. ap (λ (s : Story). body_ends plan (dump_of start) b.place s.fault) (story tells);
        told_is = λ tells. ap (λ (s : Story). s.place) (story tells);
      }

  pub refused-body : (pass : Pass) (waits : List ℕ) (f : VcdFault) → (i : InBody told sink start now plan head text pass) → pass.has_ended ≡ false
      → run.Breaks plan begin (length head) (i.given ++ pass.pending) f i.place.written pass.block.items waits
      → IsBroken told sink start now plan head text f waits
  refused-body pass waits f i more b =
      broken-body pass (head ++ i.given) (i.given ++ pass.pending) i.written pass.block.items waits f i.place i.passes i.rows b
      (λ tells.
      let k = given-first told sink start now pass (head ++ i.given) i.written i.passes more tells in
      (k.0, k.1 ∙ ap (λ (xs : List ℕ). xs ++ k.0) (append_assoc head i.given pass.pending)))

  pub body-fits : (pass : Pass) → (i : InBody told sink start now plan head text pass) → pass.has_ended ≡ false
      → pass.reader.taken + length pass.pending ≤ MAX_FILE_BYTES
  body-fits pass i more =
      omega (arith, given-fits told sink start now pass (head ++ i.given) i.written i.passes more, i.taken.taken, length-append head i.given)

  pub unfed-body : (pass pass' : Pass) (f : VcdFault) → (i : InBody told sink start now plan head text pass) → pass.has_ended ≡ false
      → (f ≡ faults.Memory) ⊎ run.Breaks plan begin (length head) (i.given ++ pass.pending) f i.place.written pass.block.items pass'.block.items
      → BodyOn told sink start now (Err f) plan head text pass.reader.taken pass'
  unfed-body pass pass' f i more (inl m) = inl m
  unfed-body pass pass' f i more (inr b) = inr (refused-body pass pass'.block.items f i more b)

  pub refused-body-end : (pass pass' : Pass) (waits : List ℕ) (f : VcdFault) → (i : InBody told sink start now plan head text pass)
      → HasAll told sink start now pass (head ++ i.given) i.written → pass.has_ended ≡ false → pass'.has_ended ≡ true → pass'.read ≡ pass.read
      → pass'.pending ≡ pass.pending
      → run.Breaks plan begin (length head) (i.given ++ 10 ∷ []) f i.place.written pass.block.items waits
      → IsBroken told sink start now plan head text f waits
  refused-body-end pass pass' waits f i a more over read rest b =
      let p = ended-passes told sink start now pass pass' (head ++ i.given) i.written a more over read rest in
      broken-body pass' ((head ++ i.given) ++ 10 ∷ []) (i.given ++ 10 ∷ []) i.written pass.block.items waits f i.place p i.rows b
      (λ tells. (
        [],
        (given-whole told sink start now pass' ((head ++ i.given) ++ 10 ∷ []) i.written p over tells).0 ∙ append_assoc head i.given (10 ∷ [])
            ∙ sym (append-nil (head ++ (i.given ++ 10 ∷ []))),
      ))

  pub unfed-body-end : (pass pass' : Pass) (f : VcdFault) → (i : InBody told sink start now plan head text pass)
      → HasAll told sink start now pass (head ++ i.given) i.written → pass.has_ended ≡ false → pass'.has_ended ≡ true → pass'.read ≡ pass.read
      → pass'.pending ≡ pass.pending
      → (f ≡ faults.Memory) ⊎ run.Breaks plan begin (length head) (i.given ++ 10 ∷ []) f i.place.written pass.block.items pass'.block.items
      → BodyOn told sink start now (Err f) plan head text pass.reader.taken pass'
  unfed-body-end pass pass' f i a more over read rest (inl m) = inl m
  unfed-body-end pass pass' f i a more over read rest (inr b) =
      inr (refused-body-end pass pass' pass'.block.items f i a more over read rest b)

  -- the work that remains
  pub nearer-body : (pass : Pass) (before : ℕ) → InBody told sink start now plan head text pass → before < pass.reader.taken
      → left_for pass < MAX_FILE_BYTES + 2 - before
  nearer-body pass before i more =
      omega (arith, more, i.taken.taken, given-few told sink start now pass (head ++ i.given) i.written i.passes, length-append head i.given)

  one-byte : (n : ℕ) → 0 < n → n ≤ 1 → n ≡ 1
  one-byte n some few = omega arith

  pub fed-body-end : (pass pass' : Pass) (n : ℕ) → (i : InBody told sink start now plan head text pass)
      → HasAll told sink start now pass (head ++ i.given) i.written → pass.has_ended ≡ false → pass'.has_ended ≡ true → pass'.read ≡ pass.read
      → pass'.pending ≡ pass.pending → 0 < n → n ≤ 1
      → Reaches plan (length head) (i.given ++ take n (10 ∷ [])) i.place.written pass'.reader pass.block.items pass'.block.items
      → InBody told sink start now plan head text pass' × (pass.reader.taken < pass'.reader.taken)
  fed-body-end pass pass' n i a more over read rest some few r =
      ended-body pass pass' i a more over read rest
      (subst (λ (k : ℕ). Reaches plan (length head) (i.given ++ take k (10 ∷ [])) i.place.written pass'.reader pass.block.items pass'.block.items)
      (one-byte n some few) r)

  -- all that is read of the dump was given
  pub all-told : (given : List ℕ) (pass : Pass) (p : Place) → HasTaken plan (length head) given p pass.reader → read_of (dump_of start) ≡ head ++ given
      → story_behind plan (length head) (dump_of start) ≡ record { place = p; fault = None }
  all-told given pass p h e = story-front plan head given (dump_of start) e ∙ taken-told plan (length head) given p pass.reader h

  -- the dump is too long
  pub cut-body : (pass : Pass) (given written : List ℕ) (place : Place) → HasTaken plan (length head) given place pass.reader
      → written ++ pass.block.items ≡ text ++ place.written → IsCut told sink start now (head ++ given) written
      → IsBroken told sink start now plan head text (faults.TooLong MAX_FILE_BYTES) pass.block.items
  cut-body pass given written place taken rows c =
      let dump : List ℕ = dump_of start in
      let story : IsTrue told.left → story_behind plan (length head) dump ≡ record { place = place; fault = None } =
      λ tells. all-told given pass place taken
      (ap read_of (c.streams.taken tells) ∙ read-long c.bytes (now.slot_of Trace).left c.long ∙ c.given_are) in
      record {
        written = written;
        place = place;
        leaves = record { read = c.bytes; streams = c.streams; counts = c.counts };
        rows = rows;
        ended = λ tells.
            ap (λ (s : Story). body_ends plan dump place s.fault) (story tells)
            ∙ ap (λ (w : Bool). cond w (refused (faults.TooLong MAX_FILE_BYTES)) (ends_at plan (length dump) place))
            (cut-long told sink start now (head ++ given) written c tells);
        told_is = λ tells. ap (λ (s : Story). s.place) (story tells);
      }

-- The body begins.
module _ (told : Told) (sink : Sink) (start now : State) (plan : Plan) where
  pub begins-body : (h : Heading) (pass pass' : Pass) (text : List ℕ) → (x : HasHeader told sink start now h pass)
      → pass'.has_ended ≡ pass.has_ended → pass'.read ≡ pass.read → pass'.pending ≡ pass.pending → pass'.block.items ≡ pass.block.items ++ text
      → HasTaken plan (length x.given) [] begin pass'.reader → Begins told sink start now plan x.given text pass'
  begins-body h pass pass' text x over read rest block taken =
      let p = x.passes in
      record {
        body = record {
          given = [];
          written = [];
          place = begin;
          passes =
              passes-on told sink start now pass pass' x.given (x.given ++ []) [] p read
              (subst (λ w. AreGiven w p.bytes (x.given ++ []) pass'.pending) (sym over)
              (subst (λ xs. AreGiven pass.has_ended p.bytes (x.given ++ []) xs) (sym rest)
              (subst (λ xs. AreGiven pass.has_ended p.bytes xs pass.pending) (sym (append-nil x.given)) p.given_are)))
              (λ e. p.ended (sym over ∙ e));
          taken = taken;
          rows = block ∙ ap (λ (xs : List ℕ). xs ++ text) x.blank ∙ sym (append-nil text);
        };
        unwritten = refl;
      }
