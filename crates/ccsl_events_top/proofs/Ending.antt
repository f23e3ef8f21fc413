-- What was written of a body where it ends, or where it is left.
use Rattle.std.proofs.Common.{◌≡◌, ◌≢◌, ℕ, ◌⊎◌, inl, inr, List, [], ◌++◌, length, take, drop, true, IsTrue, Some, Ok, Err}
use Rattle.std.proofs.Common.{refl, sym, ap, ◌∙◌, subst, append_assoc, append-nil, arith, take-append-drop}
use Rattle.ccsl_edge.specs.declared.slot.Slot.{Slot}
use Rattle.ccsl_edge.specs.declared.slot.Slot.TheVariants.{Trace}
use Rattle.ccsl_edge.specs.World.{State, Told, Rose}
use Rattle.ccsl_edge.specs.Calls.{Adds, AddsFront}
use Rattle.ccsl_edge.specs.Counts.{NoCountFalls}
use Rattle.ccsl_edge.proofs.Counts.{SameCounts-then, Adds-SameCounts, SameCounts-NoCountFalls, AddsFront-NoCountFalls, NoCountFalls-then}
use Rattle.ccsl_vcd.specs.declared.fault.VcdFault.{VcdFault}
use Rattle.ccsl_vcd.specs.declared.fault.VcdFault.TheVariants as faults
use Rattle.ccsl_events.specs.declared.body.Body.{Body}
use Rattle.ccsl_events.specs.declared.reader.Reader.{Reader}
use Rattle.ccsl_events.specs.Dump.{Plan, Place, Said, goes, refused, Story, ends_at}
use Rattle.ccsl_events.specs.Standing.{Answers, Stands, counted}
use Rattle.ccsl_events.specs.Fed.{Says}
use Rattle.ccsl_events_top.specs.declared.sink.Sink.{Sink}
use Rattle.ccsl_events_top.specs.declared.pass.Pass.{Pass}
use Rattle.ccsl_events_top.specs.declared.stop.Stop.{Stop}
use Rattle.ccsl_events_top.specs.declared.stop.Stop.TheVariants as stops
use Rattle.ccsl_events_top.specs.Stopping.{stop_of}
use Rattle.ccsl_events_top.specs.Streams.{slot_of, RoseAt}
use Rattle.ccsl_events_top.specs.Reading.{body_ends, story_behind, body_said, rows_at, rows_of}
use Rattle.ccsl_events_top.specs.Passing.{dump_of, Leaves, Breaks, InBody, IsBroken, StepsBody, IsWhollyWritten}
use Rattle.ccsl_events_top.specs.Passing.{IsStopped}
use Rattle.ccsl_events_top.proofs.Streaming.{streams-added, streams-front}
use Rattle.ccsl_events_top.proofs.Passing.{leaves, whole-short, given-length, given-whole}
use Rattle.ccsl_events_top.proofs.Bodies.{all-told}
use Rattle.ccsl_events_top.proofs.Fronts.{rows-so-far, starved}
use Rattle.ccsl_events_top.proofs.Steps.{stop-cases}

-- a part of what waits was written
cut-waits : (written waits more : List ℕ) (count : ℕ)
    → ((written ++ take count waits) ++ []) ++ (drop count waits ++ more) ≡ (written ++ waits) ++ more
cut-waits written waits more count =
    ap (λ (xs : List ℕ). xs ++ (drop count waits ++ more)) (append-nil (written ++ take count waits))
    ∙ sym (append_assoc (written ++ take count waits) (drop count waits) more)
    ∙ ap (λ (xs : List ℕ). xs ++ more)
    (append_assoc written (take count waits) (drop count waits) ∙ ap (λ (xs : List ℕ). written ++ xs) (take-append-drop count waits))

-- all of it was
no-waits : (written waits more : List ℕ) → ((written ++ waits) ++ []) ++ more ≡ (written ++ waits) ++ more
no-waits written waits more = ap (λ (xs : List ℕ). xs ++ more) (append-nil (written ++ waits))

-- a count that rose does not fall
pub rose-on : (slot : Slot) (s t u : State) → RoseAt slot s t → NoCountFalls t u → RoseAt slot s u
rose-on slot s t u r n = (omega (arith, r.0, n.rises slot), omega (arith, r.1, n.rises slot))

module _ (told : Told) (sink : Sink) (start s t : State) where
  rose-still : RoseAt Trace start s ⊎ RoseAt (slot_of sink) start s → NoCountFalls s t → RoseAt Trace start t ⊎ RoseAt (slot_of sink) start t
  rose-still (inl r) n = inl (rose-on Trace start s t r n)
  rose-still (inr r) n = inr (rose-on (slot_of sink) start s t r n)

  leaves-added : (written bytes : List ℕ) → Leaves told sink start s written → Adds told (slot_of sink) bytes s t
      → Leaves told sink start t (written ++ bytes)
  leaves-added written bytes l a = record {
    read = l.read;
    streams = streams-added told sink l.read written bytes start s t l.streams a;
    counts = SameCounts-then start s t l.counts (Adds-SameCounts told (slot_of sink) bytes s t a);
  }

  leaves-front : (written bytes : List ℕ) → Leaves told sink start s written → (a : AddsFront told (slot_of sink) bytes s t)
      → Breaks told sink start t (written ++ take a.count bytes)
  leaves-front written bytes l a = record {
    read = l.read;
    streams = streams-front told sink l.read written bytes start s t l.streams a;
    rose = inr (subst (λ (n : ℕ). Rose n (t.slot_of (slot_of sink)).faults) (l.counts.same (slot_of sink)) a.rose);
    falls = NoCountFalls-then start s t (SameCounts-NoCountFalls start s l.counts) (AddsFront-NoCountFalls told (slot_of sink) bytes s t a);
  }

  breaks-added : (written bytes : List ℕ) → Breaks told sink start s written → Adds told (slot_of sink) bytes s t
      → Breaks told sink start t (written ++ bytes)
  breaks-added written bytes b a = record {
    read = b.read;
    streams = streams-added told sink b.read written bytes start s t b.streams a;
    rose = rose-still b.rose (SameCounts-NoCountFalls s t (Adds-SameCounts told (slot_of sink) bytes s t a));
    falls = NoCountFalls-then start s t b.falls (SameCounts-NoCountFalls s t (Adds-SameCounts told (slot_of sink) bytes s t a));
  }

  breaks-front : (written bytes : List ℕ) → Breaks told sink start s written → (a : AddsFront told (slot_of sink) bytes s t)
      → Breaks told sink start t (written ++ take a.count bytes)
  breaks-front written bytes b a = record {
    read = b.read;
    streams = streams-front told sink b.read written bytes start s t b.streams a;
    rose = rose-still b.rose (AddsFront-NoCountFalls told (slot_of sink) bytes s t a);
    falls = NoCountFalls-then start s t b.falls (AddsFront-NoCountFalls told (slot_of sink) bytes s t a);
  }

  module _ (plan : Plan) (head text : List ℕ) where
    -- a full block was written
    pub flushed : (pass pass' : Pass) → InBody told sink start s plan head text pass → Adds told (slot_of sink) pass.block.items s t
        → pass' ≡ record pass { block = pass'.block } → pass'.block.items ≡ [] → InBody told sink start t plan head text pass'
    flushed pass pass' i a is empty = record {
      given = i.given;
      written = i.written ++ pass.block.items;
      place = i.place;
      passes = record {
        bytes = i.passes.bytes;
        streams = streams-added told sink i.passes.bytes i.written pass.block.items start s t i.passes.streams a;
        counts = SameCounts-then start s t i.passes.counts (Adds-SameCounts told (slot_of sink) pass.block.items s t a);
        read = ap (λ (x : Pass). x.read) is ∙ i.passes.read;
        within = i.passes.within;
        given_are = rw is i.passes.given_are;
        ended = λ e.
            let w = i.passes.ended (sym (ap (λ (x : Pass). x.has_ended) is) ∙ e) in
            record { few = w.few; whole = λ tells. w.whole tells };
      };
      taken = rw (ap (λ (x : Pass). x.reader) is) i.taken;
      rows = ap (λ (xs : List ℕ). (i.written ++ pass.block.items) ++ xs) empty ∙ append-nil (i.written ++ pass.block.items) ∙ i.rows;
    }

    pub unflushed : (pass : Pass) (stop : Stop) → InBody told sink start s plan head text pass → AddsFront told (slot_of sink) pass.block.items s t
        → stop ≡ stops.Fault → IsStopped told sink start t plan head text stop
    unflushed pass stop i a is =
        rw is (record {
          written = i.written ++ take a.count pass.block.items;
          left = leaves-front i.written pass.block.items (leaves told sink start s pass (head ++ i.given) i.written i.passes) a;
          front = λ tells.
              let k = rows-so-far told sink start s plan head text pass i tells in
              (drop a.count pass.block.items ++ k.0, cut-waits i.written pass.block.items k.0 a.count ∙ k.1);
        })

    broken-rows : (f : VcdFault) (waits : List ℕ) → (b : IsBroken told sink start s plan head text f waits) → IsTrue told.left
        → b.written ++ waits ≡ text ++ rows_of plan (length head) (dump_of start)
    broken-rows f waits b tells =
        let story : Story = story_behind plan (length head) (dump_of start) in
        let said : body_said plan (length head) (dump_of start) ≡ refused f =
        ap (λ (p : Place). body_ends plan (dump_of start) p story.fault) (b.told_is tells) ∙ b.ended tells in
        b.rows ∙ ap (λ (p : Place). text ++ p.written) (sym (b.told_is tells))
        ∙ ap (λ (x : Said). text ++ rows_at story.place x) (sym said)

    broken-said : (f : VcdFault) (waits : List ℕ) → (b : IsBroken told sink start s plan head text f waits) → IsTrue told.left
        → body_said plan (length head) (dump_of start) ≡ refused f
    broken-said f waits b tells =
        let story : Story = story_behind plan (length head) (dump_of start) in
        ap (λ (p : Place). body_ends plan (dump_of start) p story.fault) (b.told_is tells) ∙ b.ended tells

    -- what waits was written before the program stops
    pub stops-whole : (before : ℕ) (pass : Pass) (stop : Stop) → stop ≢ stops.Memory → StepsBody told sink start s (Err stop) plan head text before pass
        → Adds told (slot_of sink) pass.block.items s t → IsStopped told sink start t plan head text stop
    stops-whole before pass (stops.Words fault) other h a = h
    stops-whole before pass (stops.Events fault near) other h a = h
    stops-whole before pass (stops.Trace f) other h a = record {
      written = h.written ++ pass.block.items;
      leaves = leaves-added h.written pass.block.items h.leaves a;
      says = λ tells. broken-said f pass.block.items h tells;
      rows = λ tells. broken-rows f pass.block.items h tells;
    }
    stops-whole before pass stops.Fault other h a = record {
      written = h.written ++ pass.block.items;
      left = breaks-added h.written pass.block.items h.left a;
      front = λ tells.
          let k = h.front tells in
          (k.0, no-waits h.written pass.block.items k.0 ∙ k.1);
    }
    stops-whole before pass stops.Memory other h a = absurd (other refl)

    -- or not the whole of it
    pub stops-cut : (before : ℕ) (pass : Pass) (stop : Stop) → stop ≢ stops.Memory → StepsBody told sink start s (Err stop) plan head text before pass
        → AddsFront told (slot_of sink) pass.block.items s t → IsStopped told sink start t plan head text stops.Fault
    stops-cut before pass (stops.Words fault) other h a = absurd h
    stops-cut before pass (stops.Events fault near) other h a = absurd h
    stops-cut before pass (stops.Trace f) other h a = record {
      written = h.written ++ take a.count pass.block.items;
      left = leaves-front h.written pass.block.items h.leaves a;
      front = λ tells. (
        drop a.count pass.block.items,
        ap (λ (xs : List ℕ). ((h.written ++ take a.count pass.block.items) ++ []) ++ xs) (sym (append-nil (drop a.count pass.block.items)))
            ∙ cut-waits h.written pass.block.items [] a.count ∙ append-nil (h.written ++ pass.block.items)
            ∙ broken-rows f pass.block.items h tells,
      );
    }
    stops-cut before pass stops.Fault other h a = record {
      written = h.written ++ take a.count pass.block.items;
      left = breaks-front h.written pass.block.items h.left a;
      front = λ tells.
          let k = h.front tells in
          (drop a.count pass.block.items ++ k.0, cut-waits h.written pass.block.items k.0 a.count ∙ k.1);
    }
    stops-cut before pass stops.Memory other h a = absurd (other refl)

-- The end of the dump.
module _ (told : Told) (sink : Sink) (start s : State) (plan : Plan) (head text : List ℕ) where
  -- all of it was given
  end-said : (pass : Pass) (i : InBody told sink start s plan head text pass) → pass.has_ended ≡ true → IsTrue told.left
      → (body_said plan (length head) (dump_of start) ≡ ends_at plan pass.read i.place)
      × ((story_behind plan (length head) (dump_of start)).place ≡ i.place)
  end-said pass i over tells =
      let dump : List ℕ = dump_of start in
      let w = given-whole told sink start s pass (head ++ i.given) i.written i.passes over tells in
      let story = all-told told sink start s plan head text i.given pass i.place i.taken w.0 in
      let short = whole-short told sink start s pass (head ++ i.given) i.written i.passes over tells in
      let len = given-length told sink start s pass (head ++ i.given) i.written i.passes over tells in (
        ap (λ (x : Story). body_ends plan dump x.place x.fault) story ∙ rw short (ap (λ (n : ℕ). ends_at plan n i.place) len),
        ap (λ (x : Story). x.place) story,
      )

  -- it ends with the last row
  pub ends-well : (pass : Pass) (last : Reader) (block : List ℕ) (i : InBody told sink start s plan head text pass) → pass.has_ended ≡ true
      → Says plan i.place.written (ends_at plan pass.read i.place) (Ok tt) last pass.block.items block
      → (t : State) → Adds told (slot_of sink) block s t → (times : ℕ)
      → ((p : Place) (body : Body) → last.body ≡ Some body → Stands plan p body → times ≡ counted p.times)
      → IsWhollyWritten told sink start t plan head text times
  ends-well pass last block i over h t a times counts = go (ends_at plan pass.read i.place) refl h.answers
    where
      go : (said : Said) → ends_at plan pass.read i.place ≡ said → Answers plan i.place.written said (Ok tt) h.body pass.block.items block
          → IsWhollyWritten told sink start t plan head text times
      go (refused f) e k = absurd k
      go (goes q) e k = record {
        last = q;
        count = counts q h.body h.has k.stands;
        is = record {
          written = i.written ++ block;
          leaves = leaves-added told sink start s t i.written block (leaves told sink start s pass (head ++ i.given) i.written i.passes) a;
          says = λ tells. (end-said pass i over tells).0 ∙ e;
          rows = λ tells.
              ap (λ (xs : List ℕ). i.written ++ xs) k.out ∙ sym (append_assoc i.written pass.block.items k.more)
              ∙ ap (λ (xs : List ℕ). xs ++ k.more) i.rows ∙ append_assoc text i.place.written k.more
              ∙ ap (λ (xs : List ℕ). text ++ xs) (sym k.written)
              ∙ ap (λ (x : Said). text ++ rows_at (story_behind plan (length head) (dump_of start)).place x)
              (sym ((end-said pass i over tells).0 ∙ e));
        };
      }

  -- not all of it was written
  pub ends-cut : (pass : Pass) (last : Reader) (block : List ℕ) (stop : Stop) (i : InBody told sink start s plan head text pass) → pass.has_ended ≡ true
      → Says plan i.place.written (ends_at plan pass.read i.place) (Ok tt) last pass.block.items block
      → (t : State) → AddsFront told (slot_of sink) block s t → stop ≡ stops.Fault → IsStopped told sink start t plan head text stop
  ends-cut pass last block stop i over h t a is = go (ends_at plan pass.read i.place) refl h.answers
    where
      go : (said : Said) → ends_at plan pass.read i.place ≡ said → Answers plan i.place.written said (Ok tt) h.body pass.block.items block
          → IsStopped told sink start t plan head text stop
      go (refused f) e k = absurd k
      go (goes q) e k =
          rw is (record {
            written = i.written ++ take a.count block;
            left = leaves-front told sink start s t i.written block (leaves told sink start s pass (head ++ i.given) i.written i.passes) a;
            front = λ tells. (
              drop a.count block,
              ap (λ (xs : List ℕ). ((i.written ++ take a.count block) ++ []) ++ xs) (sym (append-nil (drop a.count block)))
                  ∙ cut-waits i.written block [] a.count ∙ append-nil (i.written ++ block)
                  ∙ ap (λ (xs : List ℕ). i.written ++ xs) k.out ∙ sym (append_assoc i.written pass.block.items k.more)
                  ∙ ap (λ (xs : List ℕ). xs ++ k.more) i.rows ∙ append_assoc text i.place.written k.more
                  ∙ ap (λ (xs : List ℕ). text ++ xs) (sym k.written)
                  ∙ ap (λ (x : Said). text ++ rows_at (story_behind plan (length head) (dump_of start)).place x)
                  (sym ((end-said pass i over tells).0 ∙ e)),
            );
          })

  -- it ends in the middle
  pub ends-badly : (pass pass' : Pass) (last : Reader) (f : VcdFault) (stop : Stop) (i : InBody told sink start s plan head text pass)
      → pass.has_ended ≡ true
      → Says plan i.place.written (ends_at plan pass.read i.place) (Err f) last pass.block.items pass'.block.items → stop ≡ stop_of f
      → StepsBody told sink start s (Err stop) plan head text 0 pass'
  ends-badly pass pass' last f stop i over h is = go (ends_at plan pass.read i.place) refl h.answers (stop-cases f)
    where
      starves : f ≡ faults.Memory → StepsBody told sink start s (Err stop) plan head text 0 pass'
      starves m =
          subst (λ (x : Stop). StepsBody told sink start s (Err x) plan head text 0 pass') (sym (is ∙ ap stop_of m))
          (starved told sink start s plan head text pass i)

      breaks : (g : VcdFault) → ends_at plan pass.read i.place ≡ refused g → (f ≡ g) × (pass'.block.items ≡ pass.block.items)
          → IsBroken told sink start s plan head text f pass'.block.items
      breaks g e k = record {
        written = i.written;
        place = i.place;
        leaves = leaves told sink start s pass (head ++ i.given) i.written i.passes;
        rows = ap (λ (xs : List ℕ). i.written ++ xs) k.1 ∙ i.rows;
        ended = λ tells.
            ap (λ (p : Place). body_ends plan (dump_of start) p (story_behind plan (length head) (dump_of start)).fault)
            (sym (end-said pass i over tells).1)
            ∙ (end-said pass i over tells).0 ∙ e ∙ ap refused (sym k.0);
        told_is = λ tells. (end-said pass i over tells).1;
      }

      go : (said : Said) → ends_at plan pass.read i.place ≡ said → Answers plan i.place.written said (Err f) h.body pass.block.items pass'.block.items
          → (f ≡ faults.Memory) ⊎ (stop_of f ≡ stops.Trace f) → StepsBody told sink start s (Err stop) plan head text 0 pass'
      go said e k (inl m) = starves m
      go (goes q) e k (inr named) = starves k
      go (refused g) e (inr m) (inr named) = starves m
      go (refused g) e (inl k) (inr named) =
          subst (λ (x : Stop). StepsBody told sink start s (Err x) plan head text 0 pass') (sym (is ∙ named)) (breaks g e k)
