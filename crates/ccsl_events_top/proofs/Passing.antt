-- What a pass has read of a dump and given to its reader, from one step to the next.
use Rattle.std.proofs.Common.{◌≡◌, ℕ, ◌+◌, ◌-◌, ◌≤◌, ◌<◌, ◌⊎◌, inl, inr, List, [], ◌∷◌, ◌++◌, length, take, drop, Bool, true, false, cond, IsTrue, Some}
use Rattle.std.proofs.Common.{Err, refl, sym, ap, ◌∙◌, subst, append_assoc, append-nil, arith, length-append, length-take-le}
use Rattle.std.proofs.Common.{take-append-drop}
use Rattle.std.proofs.lemmas.Bool.{cases_lt, lt-ltb, le-ltb, ltb-false}
use Rattle.std.proofs.lemmas.List.{take_all, take-append-le, length-take}
use Rattle.std.proofs.Math.Seq.{take-append-add}
use Rattle.ccsl_base.specs.declared.limits.TheConstants.{MAX_FILE_BYTES}
use Rattle.ccsl_base.proofs.Cases.{no-items}
use Rattle.ccsl_edge.specs.declared.slot.Slot.TheVariants.{Trace}
use Rattle.ccsl_edge.specs.World.{State, Told}
use Rattle.ccsl_edge.specs.Calls as calls
use Rattle.ccsl_edge.proofs.Counts.{SameCounts-none, SameCounts-then, Reads-SameCounts, SameCounts-NoCountFalls, NoCountFalls-then, Fails-NoCountFalls}
use Rattle.ccsl_edge.proofs.Frames.{Rose-after_same}
use Rattle.ccsl_vcd.specs.declared.fault.VcdFault.{VcdFault}
use Rattle.ccsl_vcd.specs.declared.fault.VcdFault.TheVariants as faults
use Rattle.ccsl_vcd.specs.Places.{Among, commands}
use Rattle.ccsl_scopes.specs.Headings.{Heading}
use Rattle.ccsl_scopes.specs.Headings as headings
use Rattle.ccsl_events.specs.declared.reader.Reader.{Reader}
use Rattle.ccsl_events.specs.Run.{settled_from}
use Rattle.ccsl_events.specs.Opening.{open_at, broken, opening}
use Rattle.ccsl_events.specs.Fed.{IsInHeader, Hears, goes_on, ends, BreaksHeader, MayBegin}
use Rattle.ccsl_events.proofs.Opening.{broken-more, ended-more, inside-told}
use Rattle.ccsl_events_top.specs.declared.sink.Sink.{Sink}
use Rattle.ccsl_events_top.specs.declared.pass.Pass.{Pass}
use Rattle.ccsl_events_top.specs.declared.stop.Stop.TheVariants as stops
use Rattle.ccsl_vcd.specs.declared.limits.TheConstants.{LIMITS}
use Rattle.ccsl_events_top.specs.Reading.{is_too_long, read_of, end_fault, opened, header_fault}
use Rattle.ccsl_events_top.specs.Passing.{AreGiven, dump_of, IsWhole, Passes, Leaves, Breaks, HasAll, IsCut, InHeader, BehindHeader, HasHeader, IsUnopened}
use Rattle.ccsl_events_top.specs.Passing.{GoesOn, HeadsOn, left_for}
use Rattle.ccsl_events_top.proofs.Streaming.{streams-none, streams-read, streams-unread}

-- What is read of a dump.

-- the bytes that were read come first in it
pub front-read : (bytes left : List ℕ) → (more : List ℕ) × (read_of (bytes ++ left) ≡ take MAX_FILE_BYTES bytes ++ more)
front-read bytes left =
    (elim (is_too_long (bytes ++ left)) as (λ w. is_too_long (bytes ++ left) ≡ w
    → (more : List ℕ) × (cond w (take MAX_FILE_BYTES (bytes ++ left)) ((bytes ++ left) ++ 10 ∷ []) ≡ take MAX_FILE_BYTES bytes ++ more)) [
      | true ↦ λ e. cut (cases_lt MAX_FILE_BYTES (length bytes))
      | false ↦ λ e.
          let few : length (bytes ++ left) ≤ MAX_FILE_BYTES = ltb-false MAX_FILE_BYTES (length (bytes ++ left)) e in (
            left ++ 10 ∷ [],
            append_assoc bytes left (10 ∷ []) ∙ ap (λ (xs : List ℕ). xs ++ (left ++ 10 ∷ []))
                (sym (take_all MAX_FILE_BYTES bytes (omega (arith, few, length-append bytes left)))),
          )
    ]) refl
  where
    cut : (MAX_FILE_BYTES < length bytes) ⊎ (length bytes ≤ MAX_FILE_BYTES)
        → (more : List ℕ) × (take MAX_FILE_BYTES (bytes ++ left) ≡ take MAX_FILE_BYTES bytes ++ more)
    cut (inl l) = ([], take-append-le MAX_FILE_BYTES bytes left (omega (arith, l)) ∙ sym (append-nil (take MAX_FILE_BYTES bytes)))
    cut (inr l) =
        let n : ℕ = MAX_FILE_BYTES - length bytes in
        let sum : MAX_FILE_BYTES ≡ length bytes + n = omega (arith, l) in (
          take n left,
          ap (λ (k : ℕ). take k (bytes ++ left)) sum ∙ take-append-add bytes left n
              ∙ ap (λ (xs : List ℕ). xs ++ take n left) (sym (take_all MAX_FILE_BYTES bytes l)),
        )

short-dump : (bytes : List ℕ) → length bytes ≤ MAX_FILE_BYTES → is_too_long bytes ≡ false
short-dump bytes l = le-ltb MAX_FILE_BYTES (length bytes) l

pub read-short : (bytes : List ℕ) → length bytes ≤ MAX_FILE_BYTES → read_of bytes ≡ bytes ++ 10 ∷ []
read-short bytes l = ap (λ (w : Bool). cond w (take MAX_FILE_BYTES bytes) (bytes ++ 10 ∷ [])) (short-dump bytes l)

end-short : (bytes : List ℕ) → length bytes ≤ MAX_FILE_BYTES → end_fault bytes ≡ faults.Truncated (length bytes)
end-short bytes l = ap (λ (w : Bool). cond w (faults.TooLong MAX_FILE_BYTES) (faults.Truncated (length bytes))) (short-dump bytes l)

long-dump : (bytes left : List ℕ) → MAX_FILE_BYTES < length bytes → is_too_long (bytes ++ left) ≡ true
long-dump bytes left l = lt-ltb MAX_FILE_BYTES (length (bytes ++ left)) (omega (arith, l, length-append bytes left))

pub read-long : (bytes left : List ℕ) → MAX_FILE_BYTES < length bytes → read_of (bytes ++ left) ≡ take MAX_FILE_BYTES bytes
read-long bytes left l =
    ap (λ (w : Bool). cond w (take MAX_FILE_BYTES (bytes ++ left)) ((bytes ++ left) ++ 10 ∷ [])) (long-dump bytes left l)
    ∙ take-append-le MAX_FILE_BYTES bytes left (omega (arith, l))

end-long : (bytes left : List ℕ) → MAX_FILE_BYTES < length bytes → end_fault (bytes ++ left) ≡ faults.TooLong MAX_FILE_BYTES
end-long bytes left l =
    ap (λ (w : Bool). cond w (faults.TooLong MAX_FILE_BYTES) (faults.Truncated (length (bytes ++ left)))) (long-dump bytes left l)

module _ (told : Told) (sink : Sink) (start : State) where
  pub begins : (pass : Pass) → pass.pending ≡ [] → pass.read ≡ 0 → pass.has_ended ≡ false → pass.block.items ≡ []
      → IsInHeader LIMITS [] commands headings.begin pass.reader → InHeader told sink start start pass
  begins pass none zero_ more blank inside = record {
    given = [];
    among = commands;
    heading = headings.begin;
    passes = record {
      bytes = [];
      streams = streams-none told sink start;
      counts = SameCounts-none start;
      read = zero_;
      within = omega arith;
      given_are = subst (λ w. AreGiven w [] [] pass.pending) (sym more) (sym none);
      ended = λ e. absurd (let g : true ≡ false = sym e ∙ more in cc);
    };
    inside = inside;
    blank = blank;
  }

  -- what is given, where more may come
  given-on : (now : State) (pass : Pass) (given written : List ℕ) → (p : Passes told sink start now pass given written) → pass.has_ended ≡ false
      → take MAX_FILE_BYTES p.bytes ≡ given ++ pass.pending
  given-on now pass given written p more = subst (λ w. AreGiven w p.bytes given pass.pending) more p.given_are

  -- where bytes wait more may come
  pub has-more : (now : State) (pass : Pass) (given written : List ℕ) → Passes told sink start now pass given written → 0 < length pass.pending
      → pass.has_ended ≡ false
  has-more now pass given written p some =
      (elim pass.has_ended as (λ w. pass.has_ended ≡ w → pass.has_ended ≡ false) [
        | true ↦ λ e.
            let g : (given ≡ p.bytes ++ 10 ∷ []) × (pass.pending ≡ []) = subst (λ w. AreGiven w p.bytes given pass.pending) e p.given_are in
            absurd (omega (arith, some, ap length g.1))
        | false ↦ λ e. e
      ]) refl

  pub given-few : (now : State) (pass : Pass) (given written : List ℕ) → Passes told sink start now pass given written → length given ≤ MAX_FILE_BYTES + 1
  given-few now pass given written p =
      (elim pass.has_ended as (λ w. pass.has_ended ≡ w → length given ≤ MAX_FILE_BYTES + 1) [
        | true ↦ λ e.
            let g : (given ≡ p.bytes ++ 10 ∷ []) × (pass.pending ≡ []) = subst (λ w. AreGiven w p.bytes given pass.pending) e p.given_are in
            omega (arith, ap length g.0, length-append p.bytes (10 ∷ []), (p.ended e).few)
        | false ↦ λ e.
            omega (arith, ap length (given-on now pass given written p e), length-append given pass.pending, length-take MAX_FILE_BYTES p.bytes)
      ]) refl

  -- the work that remains
  pub nearer : (now : State) (pass : Pass) (before : ℕ) → InHeader told sink start now pass → before < pass.reader.taken
      → left_for pass < MAX_FILE_BYTES + 2 - before
  nearer now pass before i more = omega (arith, more, i.inside.taken, given-few now pass i.given [] i.passes)

  -- where nothing waits and there is room, all that was read was given
  given-all : (now : State) (pass : Pass) (given written : List ℕ) → (p : Passes told sink start now pass given written) → pass.has_ended ≡ false
      → pass.pending ≡ [] → pass.read ≤ MAX_FILE_BYTES → p.bytes ≡ given
  given-all now pass given written p more none few =
      sym (take_all MAX_FILE_BYTES p.bytes (omega (arith, few, p.read))) ∙ given-on now pass given written p more
      ∙ ap (λ (xs : List ℕ). given ++ xs) none ∙ append-nil given

  pub read-more : (s t : State) (pass pass' : Pass) (given written : List ℕ) (left count : ℕ) → (p : Passes told sink start s pass given written)
      → pass.has_ended ≡ false → pass.pending ≡ [] → pass.read ≤ MAX_FILE_BYTES → left ≡ MAX_FILE_BYTES - pass.read
      → calls.Refills told Trace left count s t pass'.pending → pass'.read ≡ pass.read + count → pass'.has_ended ≡ false
      → Passes told sink start t pass' given written
  read-more s t pass pass' given written left count p more none few is r read on =
      let all = given-all s pass given written p more none few in
      let sum : MAX_FILE_BYTES ≡ length p.bytes + left = omega (arith, is, few, p.read) in
      record {
        bytes = p.bytes ++ r.bytes;
        streams = streams-read told sink p.bytes written start s t p.streams r.bytes r.reads;
        counts = SameCounts-then start s t p.counts (Reads-SameCounts told Trace r.bytes s t r.reads);
        read = omega (arith, read, p.read, r.count_is, length-append p.bytes r.bytes);
        within = omega (arith, is, few, p.read, r.count_is, r.within, length-append p.bytes r.bytes);
        given_are =
            subst (λ w. AreGiven w (p.bytes ++ r.bytes) given pass'.pending) (sym on)
            (ap (λ (k : ℕ). take k (p.bytes ++ r.bytes)) sum ∙ take-append-add p.bytes r.bytes left
            ∙ ap (λ (xs : List ℕ). xs ++ take left r.bytes) all ∙ ap (λ (xs : List ℕ). given ++ xs) (sym r.piece_is));
        ended = λ e. absurd (let g : true ≡ false = sym e ∙ on in cc);
      }

  pub read-all : (s t : State) (pass pass' : Pass) (given written : List ℕ) (left count : ℕ) → Passes told sink start s pass given written
      → pass.has_ended ≡ false → pass.pending ≡ [] → pass.read ≤ MAX_FILE_BYTES → left ≡ MAX_FILE_BYTES - pass.read
      → calls.Refills told Trace left count s t pass'.pending → pass'.read ≡ pass.read + count → pass'.has_ended ≡ false → count ≡ 0
      → HasAll told sink start t pass' given written
  read-all s t pass pass' given written left count p more none few is r read on zero_ =
      let nothing : r.bytes ≡ [] = no-items r.bytes (r.count_is ∙ zero_) in
      record {
        passes = read-more s t pass pass' given written left count p more none few is r read on;
        none = r.piece_is ∙ ap (take left) nothing ∙ take_all left [] (omega arith);
        few = omega (arith, few, read, zero_);
        left = λ tells. r.ended tells zero_;
      }

  pub read-cut : (now : State) (pass : Pass) (given written : List ℕ) → (p : Passes told sink start now pass given written) → pass.has_ended ≡ false
      → pass.pending ≡ [] → MAX_FILE_BYTES < pass.read → IsCut told sink start now given written
  read-cut now pass given written p more none long = record {
    bytes = p.bytes;
    streams = p.streams;
    counts = p.counts;
    long = omega (arith, long, p.read);
    given_are = given-on now pass given written p more ∙ ap (λ (xs : List ℕ). given ++ xs) none ∙ append-nil given;
  }

  -- nothing was kept of what was read: it is past the limit
  pub none-kept : (s t : State) (left count : ℕ) (piece : List ℕ) → calls.Refills told Trace left count s t piece → piece ≡ [] → 0 < count → left < count
  none-kept s t left count piece r none some = past (cases_lt left count)
    where
      past : (left < count) ⊎ (count ≤ left) → left < count
      past (inl l) = l
      past (inr l) =
          let same : length piece ≡ count = ap length (r.piece_is ∙ take_all left r.bytes (omega (arith, l, r.count_is))) ∙ r.count_is in
          omega (arith, same, some, ap length none)

  pub read-failed : (s t : State) (pass : Pass) (given written : List ℕ) → Passes told sink start s pass given written → calls.Fails Trace s t
      → Breaks told sink start t written
  read-failed s t pass given written p f = record {
    read = p.bytes;
    streams = streams-unread told sink p.bytes written start s t p.streams f;
    rose = inl (Rose-after_same _ _ _ (p.counts.same Trace) f.rose);
    falls = NoCountFalls-then start s t (SameCounts-NoCountFalls start s p.counts) (Fails-NoCountFalls Trace s t f);
  }

  -- What was given comes first in what is read of the dump.

  pub given-first : (now : State) (pass : Pass) (given written : List ℕ) → Passes told sink start now pass given written → pass.has_ended ≡ false
      → IsTrue told.left → (more : List ℕ) × (read_of (dump_of start) ≡ (given ++ pass.pending) ++ more)
  given-first now pass given written p more tells =
      let k = front-read p.bytes (now.slot_of Trace).left in
      (k.0, ap read_of (p.streams.taken tells) ∙ k.1 ∙ ap (λ (xs : List ℕ). xs ++ k.0) (given-on now pass given written p more))

  pub given-whole : (now : State) (pass : Pass) (given written : List ℕ) → (p : Passes told sink start now pass given written) → pass.has_ended ≡ true
      → IsTrue told.left → (read_of (dump_of start) ≡ given) × (end_fault (dump_of start) ≡ faults.Truncated (pass.read))
  given-whole now pass given written p over tells =
      let w = p.ended over in
      let g : (given ≡ p.bytes ++ 10 ∷ []) × (pass.pending ≡ []) = subst (λ e. AreGiven e p.bytes given pass.pending) over p.given_are in (
        ap read_of (w.whole tells) ∙ read-short p.bytes w.few ∙ sym g.0,
        ap end_fault (w.whole tells) ∙ end-short p.bytes w.few ∙ ap faults.Truncated (sym p.read),
      )

  pub given-length : (now : State) (pass : Pass) (given written : List ℕ) → (p : Passes told sink start now pass given written) → pass.has_ended ≡ true
      → IsTrue told.left → length (dump_of start) ≡ pass.read
  given-length now pass given written p over tells = ap length ((p.ended over).whole tells) ∙ sym p.read

  pub whole-short : (now : State) (pass : Pass) (given written : List ℕ) → (p : Passes told sink start now pass given written) → pass.has_ended ≡ true
      → IsTrue told.left → is_too_long (dump_of start) ≡ false
  whole-short now pass given written p over tells = ap is_too_long ((p.ended over).whole tells) ∙ short-dump p.bytes (p.ended over).few

  pub cut-long : (now : State) (given written : List ℕ) → IsCut told sink start now given written → IsTrue told.left → is_too_long (dump_of start) ≡ true
  cut-long now given written c tells = ap is_too_long (c.streams.taken tells) ∙ long-dump c.bytes (now.slot_of Trace).left c.long

  -- with nothing waiting, or all of it given
  front-given : (now : State) (pass : Pass) (given written : List ℕ) → Passes told sink start now pass given written → IsTrue told.left
      → (more : List ℕ) × (read_of (dump_of start) ≡ given ++ more)
  front-given now pass given written p tells =
      (elim pass.has_ended as (λ w. pass.has_ended ≡ w → (more : List ℕ) × (read_of (dump_of start) ≡ given ++ more)) [
        | true ↦ λ e. ([], (given-whole now pass given written p e tells).0 ∙ sym (append-nil given))
        | false ↦ λ e.
            let k = given-first now pass given written p e tells in
            (pass.pending ++ k.0, k.1 ∙ append_assoc given pass.pending k.0)
      ]) refl

  -- The header.

  pub leaves : (now : State) (pass : Pass) (given written : List ℕ) → Passes told sink start now pass given written → Leaves told sink start now written
  leaves now pass given written p = record { read = p.bytes; streams = p.streams; counts = p.counts }

  broken-is : (f : VcdFault) → opened (dump_of start) ≡ broken f → header_fault (end_fault (dump_of start)) (opened (dump_of start)) ≡ Some f
  broken-is f e = ap (header_fault (end_fault (dump_of start))) e

  -- a token of what was given and of what waits is refused
  pub refused-header : (now : State) (pass : Pass) (given : List ℕ) (f : VcdFault) → Passes told sink start now pass given [] → pass.has_ended ≡ false
      → BreaksHeader LIMITS (given ++ pass.pending) f → IsUnopened told sink start now (stops.Trace f)
  refused-header now pass given f p more b = (
    leaves now pass given [] p,
    λ tells.
        let k = given-first now pass given [] p more tells in
        broken-is f (ap (λ (xs : List ℕ). opening LIMITS (settled_from 0 xs)) k.1 ∙ broken-more LIMITS (given ++ pass.pending) k.0 f b),
  )

  -- what was read is the same, with more of it given
  pub passes-on : (now : State) (pass pass' : Pass) (given more written : List ℕ) → (p : Passes told sink start now pass given written)
      → pass'.read ≡ pass.read → AreGiven pass'.has_ended p.bytes more pass'.pending
      → (pass'.has_ended ≡ true → IsWhole told sink start now p.bytes) → Passes told sink start now pass' more written
  passes-on now pass pass' given more written p read are whole = record {
    bytes = p.bytes;
    streams = p.streams;
    counts = p.counts;
    read = read ∙ p.read;
    within = p.within;
    given_are = are;
    ended = whole;
  }

  -- the reader took so many of the bytes that wait
  pub taken-on : (now : State) (pass pass' : Pass) (given written : List ℕ) (n : ℕ) → (p : Passes told sink start now pass given written)
      → pass.has_ended ≡ false
      → pass'.has_ended ≡ false → pass'.read ≡ pass.read → pass'.pending ≡ drop n pass.pending
      → Passes told sink start now pass' (given ++ take n pass.pending) written
  taken-on now pass pass' given written n p more on read rest =
      passes-on now pass pass' given (given ++ take n pass.pending) written p read
      (subst (λ w. AreGiven w p.bytes (given ++ take n pass.pending) pass'.pending) (sym on)
      (given-on now pass given written p more ∙ ap (λ (xs : List ℕ). given ++ xs) (sym (take-append-drop n pass.pending))
      ∙ sym (append_assoc given (take n pass.pending) (drop n pass.pending)) ∙ ap (λ (xs : List ℕ). (given ++ take n pass.pending) ++ xs) (sym rest)))
      (λ e. absurd (let g : true ≡ false = sym e ∙ on in cc))

  -- the width of places has room for what waits
  pub given-fits : (now : State) (pass : Pass) (given written : List ℕ) → (p : Passes told sink start now pass given written) → pass.has_ended ≡ false
      → length given + length pass.pending ≤ MAX_FILE_BYTES
  given-fits now pass given written p more =
      omega (arith, ap length (given-on now pass given written p more), length-append given pass.pending, length-take MAX_FILE_BYTES p.bytes)

  heard : (now : State) (before : ℕ) (pass : Pass) (given : List ℕ) → Passes told sink start now pass given [] → pass.block.items ≡ [] → before < length given
      → Hears LIMITS given pass.reader → GoesOn told sink start now before pass
  heard now before pass given p blank more (goes_on among h at) =
      (inl (record { given = given; among = among; heading = h; passes = p; inside = at; blank = blank }), omega (arith, more, at.taken))
  heard now before pass given p blank more (ends h at) =
      (inr (h, record { given = given; passes = p; behind = at; blank = blank }), omega (arith, more, at.taken))

  -- the reader took so many of the bytes that wait
  pub fed-header : (now : State) (pass pass' : Pass) (n : ℕ) → (i : InHeader told sink start now pass) → pass.has_ended ≡ false
      → pass'.has_ended ≡ false → pass'.read ≡ pass.read → pass'.pending ≡ drop n pass.pending → pass'.block.items ≡ pass.block.items
      → 0 < n → n ≤ length pass.pending → Hears LIMITS (i.given ++ take n pass.pending) pass'.reader
      → GoesOn told sink start now pass.reader.taken pass'
  fed-header now pass pass' n i more on read rest same some within hears =
      heard now pass.reader.taken pass' (i.given ++ take n pass.pending) (taken-on now pass pass' i.given [] n i.passes more on read rest) (same ∙ i.blank)
      (omega (arith, i.inside.taken, some, length-append i.given (take n pass.pending), length-take-le n pass.pending within)) hears

  -- or it refused one of their tokens, unless memory ran out
  pub unfed-header : (now : State) (pass pass' : Pass) → (i : InHeader told sink start now pass) → pass.has_ended ≡ false → (f : VcdFault)
      → (f ≡ faults.Memory) ⊎ BreaksHeader LIMITS (i.given ++ pass.pending) f → HeadsOn told sink start now (Err f) pass.reader.taken pass'
  unfed-header now pass pass' i more f (inl m) = inl m
  unfed-header now pass pass' i more f (inr b) = inr (refused-header now pass i.given f i.passes more b)

  -- The line feed behind the last byte.

  pub ended-passes : (now : State) (pass pass' : Pass) (given written : List ℕ) → HasAll told sink start now pass given written → pass.has_ended ≡ false
      → pass'.has_ended ≡ true → pass'.read ≡ pass.read → pass'.pending ≡ pass.pending → Passes told sink start now pass' (given ++ 10 ∷ []) written
  ended-passes now pass pass' given written a more over read rest =
      let p = a.passes in
      let all = given-all now pass given written p more a.none a.few in
      passes-on now pass pass' given (given ++ 10 ∷ []) written p read
      (subst (λ w. AreGiven w p.bytes (given ++ 10 ∷ []) pass'.pending) (sym over) (ap (λ (xs : List ℕ). xs ++ 10 ∷ []) (sym all), rest ∙ a.none))
      (λ _. record {
        few = omega (arith, a.few, p.read);
        whole = λ tells. p.streams.taken tells ∙ ap (λ (xs : List ℕ). p.bytes ++ xs) (a.left tells) ∙ append-nil p.bytes;
      })

  pub ended-header : (now : State) (before : ℕ) (pass : Pass) (given : List ℕ) → Passes told sink start now pass (given ++ 10 ∷ []) [] → pass.block.items ≡ []
      → before ≡ length given → Hears LIMITS (given ++ 10 ∷ []) pass.reader → GoesOn told sink start now before pass
  ended-header now before pass given p blank is hears =
      heard now before pass (given ++ 10 ∷ []) p blank (omega (arith, is, length-append given (10 ∷ []))) hears

  pub refused-end : (now : State) (pass : Pass) (given : List ℕ) (f : VcdFault) → Passes told sink start now pass given [] → pass.has_ended ≡ true
      → BreaksHeader LIMITS given f → IsUnopened told sink start now (stops.Trace f)
  refused-end now pass given f p over b = (
    leaves now pass given [] p,
    λ tells.
        broken-is f (ap (λ (xs : List ℕ). opening LIMITS (settled_from 0 xs)) ((given-whole now pass given [] p over tells).0 ∙ sym (append-nil given))
        ∙ broken-more LIMITS given [] f b),
  )

  one-byte : (n : ℕ) → 0 < n → n ≤ 1 → n ≡ 1
  one-byte n some few = omega arith

  pub fed-end : (now : State) (pass pass' : Pass) (n : ℕ) → (i : InHeader told sink start now pass) → HasAll told sink start now pass i.given []
      → pass.has_ended ≡ false → pass'.has_ended ≡ true → pass'.read ≡ pass.read → pass'.pending ≡ pass.pending → pass'.block.items ≡ pass.block.items
      → 0 < n → n ≤ 1 → Hears LIMITS (i.given ++ take n (10 ∷ [])) pass'.reader → GoesOn told sink start now pass.reader.taken pass'
  fed-end now pass pass' n i a more over read rest same some few hears =
      ended-header now pass.reader.taken pass' i.given (ended-passes now pass pass' i.given [] a more over read rest) (same ∙ i.blank) i.inside.taken
      (subst (λ (k : ℕ). Hears LIMITS (i.given ++ take k (10 ∷ [])) pass'.reader) (one-byte n some few) hears)

  pub unfed-end : (now : State) (pass pass' : Pass) (f : VcdFault) → (i : InHeader told sink start now pass) → HasAll told sink start now pass i.given []
      → pass.has_ended ≡ false → pass'.has_ended ≡ true → pass'.read ≡ pass.read → pass'.pending ≡ pass.pending
      → (f ≡ faults.Memory) ⊎ BreaksHeader LIMITS (i.given ++ 10 ∷ []) f → HeadsOn told sink start now (Err f) pass.reader.taken pass'
  unfed-end now pass pass' f i a more over read rest (inl m) = inl m
  unfed-end now pass pass' f i a more over read rest (inr b) =
      inr (refused-end now pass' (i.given ++ 10 ∷ []) f (ended-passes now pass pass' i.given [] a more over read rest) over b)

  -- a dump that is too long has no end of its header
  pub cut-header : (now : State) (given : List ℕ) (among : Among) (h : Heading) (r : Reader) → IsInHeader LIMITS given among h r
      → IsCut told sink start now given [] → IsUnopened told sink start now (stops.Trace (faults.TooLong MAX_FILE_BYTES))
  cut-header now given among h r i c = (
    record { read = c.bytes; streams = c.streams; counts = c.counts },
    λ tells.
        let dump = c.streams.taken tells in
        let left : List ℕ = (now.slot_of Trace).left in
        let o : opened (dump_of start) ≡ open_at among h =
        ap (λ (xs : List ℕ). opening LIMITS (settled_from 0 xs)) (ap read_of dump ∙ read-long c.bytes left c.long ∙ c.given_are)
        ∙ inside-told LIMITS given among h r i in
        ap (header_fault (end_fault (dump_of start))) o ∙ ap Some (ap end_fault dump ∙ end-long c.bytes left c.long),
  )

  -- one that has ended in its header
  pub unended-header : (now : State) (pass : Pass) → InHeader told sink start now pass → pass.has_ended ≡ true
      → IsUnopened told sink start now (stops.Trace (faults.Truncated pass.read))
  unended-header now pass i over = (
    leaves now pass i.given [] i.passes,
    λ tells.
        let w = given-whole now pass i.given [] i.passes over tells in
        let o : opened (dump_of start) ≡ open_at i.among i.heading =
        ap (λ (xs : List ℕ). opening LIMITS (settled_from 0 xs)) w.0 ∙ inside-told LIMITS i.given i.among i.heading pass.reader i.inside in
        ap (header_fault (end_fault (dump_of start))) o ∙ ap Some w.1,
  )

  -- The header is taken.

  pub takes-header : (now : State) (pass pass' : Pass) (h : Heading) → (b : BehindHeader told sink start now h pass)
      → pass'.has_ended ≡ pass.has_ended → pass'.read ≡ pass.read → pass'.pending ≡ pass.pending → pass'.block.items ≡ pass.block.items
      → MayBegin (length b.given) pass'.reader
      → HasHeader told sink start now h pass'
  takes-header now pass pass' h b over read rest same ready = record {
    given = b.given;
    passes = record {
      bytes = b.passes.bytes;
      streams = b.passes.streams;
      counts = b.passes.counts;
      read = read ∙ b.passes.read;
      within = b.passes.within;
      given_are =
          subst (λ w. AreGiven w b.passes.bytes b.given pass'.pending) (sym over)
          (subst (λ xs. AreGiven pass.has_ended b.passes.bytes b.given xs) (sym rest) b.passes.given_are);
      ended = λ e. b.passes.ended (sym over ∙ e);
    };
    at = b.behind.at;
    one_behind = b.behind.one_behind;
    header = λ tells.
        let k = front-given now pass b.given [] b.passes tells in
        ap (λ (xs : List ℕ). opening LIMITS (settled_from 0 xs)) k.1 ∙ ended-more LIMITS b.given k.0 h pass.reader b.behind;
    ready = ready;
    blank = same ∙ b.blank;
  }
