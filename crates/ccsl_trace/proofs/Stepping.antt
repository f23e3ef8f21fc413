-- A feed and the world from which it takes its trace.
use Rattle.std.proofs.Common.{◌≡◌, ℕ, ◌+◌, ◌<◌, ◌≤◌, ◌-◌, ◌^◌, List, [], ◌++◌, length, Bool, true, false, Option, Some, None, IsTrue, refl, sym, ap, ◌∙◌, subst}
use Rattle.std.proofs.Common.{arith}
use Rattle.std.proofs.lemmas.List.{append-nil, take_all}
use Rattle.ccsl_base.specs.declared.limits.TheConstants.{BLOCK_ROWS, PIECE}
use Rattle.ccsl_base.specs.declared.rows.Row.{Row}
use Rattle.ccsl_base.specs.Rows.{RowList}
use Rattle.ccsl_edge.specs.declared.slot.Slot.TheVariants.{Trace}
use Rattle.ccsl_edge.specs.World.{State, Told}
use Rattle.ccsl_edge.specs.Calls.{Reads}
use Rattle.ccsl_edge.specs.Calls as calls
use Rattle.ccsl_edge.proofs.Reading.{Reads-none, Reads-append}
use Rattle.ccsl_vcd.specs.declared.limits.Limits.{Limits}
use Rattle.ccsl_vcd.specs.Binding.{Wanted}
use Rattle.ccsl_vcd_read.specs.declared.reader.Counts.{Counts}
use Rattle.ccsl_vcd_read.specs.Reading.{Reading, StandsFor, shows}
use Rattle.ccsl_vcd_read.proofs.Taking.{running-of}
use Rattle.ccsl_vcd_read.proofs.Ending.{running-shown}
use Rattle.ccsl_trace.specs.declared.fault.TraceFault.{TraceFault}
use Rattle.ccsl_trace.specs.declared.next.Next.{Next}
use Rattle.ccsl_trace.specs.declared.next.Next.TheVariants.{Bound, Rows, Ended}
use Rattle.ccsl_trace.specs.Traces.{Ends, IsUnread}
use Rattle.ccsl_trace.specs.Feeding.{Feeding, bound_of, waiting_in, Runs, HasEnded, Holds, Feeds, GivesBound, GivesRows, GivesEnd, Gives}
use Rattle.ccsl_trace.specs.Stepping.{IsNear, RefusesAll, RefusesIt, EndsLate, EndsNow, Finishes}
use Rattle.ccsl_trace.proofs.Binding.{bound-none, done-none}
use Rattle.ccsl_trace.proofs.Refusing.{near-header, unread-all, unread-it, whole-of}
use Rattle.ccsl_trace.proofs.Running.{none-before, few-rows, bound-where-rows, gives}

-- before the first byte
pub opened : (told : Told) (wanted : Wanted) (limits : Limits) (now : State) (feed : Feeding) → limits.bytes < 2 ^ 64 → feed.pending ≡ []
    → feed.block ≡ record { rows = []; room = BLOCK_ROWS } → feed.ended ≡ None
    → feed.reading.limits ≡ limits → feed.reading.fault ≡ None → StandsFor wanted feed.reading [] → Feeds told wanted limits now now feed []
opened told wanted limits now feed small none block ended l runs stands = record {
  bytes = [];
  reads = Reads-none told Trace now;
  small = small;
  holds = subst (λ o. Holds told wanted limits now now o [] feed []) (sym ended) (record {
    taken = [];
    all = sym none;
    few = omega (arith, ap length none);
    stands = stands;
    runs = runs;
    limits_are = l;
    rows_are = done-none wanted limits [] (omega arith) (bound-none wanted limits)
        ∙ sym (none-waiting feed.handed feed.block.rows (ap (λ (x : RowList). x.rows) block));
    room = ap (λ (x : RowList). x.room) block;
  });
}
  where
    none-waiting : (b : Bool) (rs : List Row) → rs ≡ [] → waiting_in b rs ≡ []
    none-waiting true rs e = refl
    none-waiting false rs e = e

-- no clock is bound then
pub unbound : (wanted : Wanted) (v : Reading) → v.fault ≡ None → StandsFor wanted v [] → shows v ≡ None
unbound wanted v e s = running-shown wanted v [] (running-of wanted v [] e s) ∙ bound-none wanted v.limits

-- all that was read is pending
all-kept : (told : Told) (count : ℕ) (old new : State) (piece : List ℕ) → calls.Refills told Trace (2 ^ 64 - 1) count old new piece
    → calls.Reads told Trace piece old new × (length piece ≤ PIECE)
all-kept told count old new piece r =
    let whole : piece ≡ r.bytes = r.piece_is ∙ take_all (2 ^ 64 - 1) r.bytes (omega (arith, r.count_is, r.few)) in
    (subst (λ bs. calls.Reads told Trace bs old new) (sym whole) r.reads, omega (arith, ap length whole, r.count_is, r.few))

-- nothing is left where nothing was read
pub none-left : (told : Told) (count : ℕ) (old new : State) (piece : List ℕ) → calls.Refills told Trace (2 ^ 64 - 1) count old new piece
    → piece ≡ [] → IsTrue told.left → (new.slot_of Trace).left ≡ []
none-left told count old new piece r none tells =
    let whole : piece ≡ r.bytes = r.piece_is ∙ take_all (2 ^ 64 - 1) r.bytes (omega (arith, r.count_is, r.few)) in
    r.ended tells (sym r.count_is ∙ ap length (sym whole) ∙ ap length none)

module _ {told : Told} {wanted : Wanted} {limits : Limits} {start now : State} {feed : Feeding} {rows : List Row}
    (f : Feeds told wanted limits start now feed rows) where
  -- a trace that has not ended is still running
  pub runs-of : feed.ended ≡ None → Runs wanted limits f.bytes feed rows
  runs-of e = subst (λ o. Holds told wanted limits start now o f.bytes feed rows) e f.holds

  -- with no read between
  pub feeds-on : (feed' : Feeding) (rows' : List Row) → feed'.ended ≡ None → Runs wanted limits f.bytes feed' rows'
      → Feeds told wanted limits start now feed' rows'
  feeds-on feed' rows' e h =
      record { bytes = f.bytes; reads = f.reads; small = f.small; holds = subst (λ o. Holds told wanted limits start now o f.bytes feed' rows') (sym e) h }

  -- a piece was read where none was pending
  pub refilled : (next : State) (feed' : Feeding) (count : ℕ) → feed.ended ≡ None → feed.pending ≡ []
      → feed' ≡ record feed { pending = feed'.pending } → calls.Refills told Trace (2 ^ 64 - 1) count now next feed'.pending
      → Feeds told wanted limits start next feed' rows
  refilled next feed' count e none same h =
      let r = runs-of e in
      let whole = all-kept told count now next feed'.pending h in
      record {
        bytes = f.bytes ++ feed'.pending;
        reads = Reads-append told Trace f.bytes feed'.pending start now next f.reads whole.0;
        small = f.small;
        holds = subst (λ x. Holds told wanted limits start next x.ended (f.bytes ++ feed'.pending) x rows) (sym same)
            (subst (λ o. Holds told wanted limits start next o (f.bytes ++ feed'.pending) (record feed { pending = feed'.pending }) rows) (sym e) (record {
              taken = r.taken;
              all = ap (λ xs. xs ++ feed'.pending) (r.all ∙ ap (λ xs. r.taken ++ xs) none ∙ append-nil r.taken);
              few = whole.1;
              stands = r.stands;
              runs = r.runs;
              limits_are = r.limits_are;
              rows_are = r.rows_are;
              room = r.room;
            }));
      }

  -- the block is full
  pub gives-rows : (feed' : Feeding) → feed.ended ≡ None → feed.handed ≡ false → length feed.block.rows ≡ feed.block.room
      → feed' ≡ record feed { handed = true } → GivesRows told wanted limits start now (bound_of feed) feed' rows
  gives-rows feed' e fresh full same =
      let r = runs-of e in
      let len : length feed.block.rows ≡ BLOCK_ROWS = full ∙ r.room in
      let b = bound-where-rows wanted limits f.bytes feed rows r fresh (omega (arith, len)) in
      let few : length rows + length (waiting_in feed.handed feed.block.rows) < 2 ^ 64 = few-rows wanted limits f.bytes feed rows r f.small in
      let blocks : feed'.block ≡ feed.block = ap (λ (x : Feeding). x.block) same in
      record {
        bound = b.0;
        known = b.1;
        shows = ap bound_of same ∙ b.1;
        full = ap (λ (x : RowList). length x.rows) blocks ∙ len;
        few = subst (λ (x : RowList). length rows + length x.rows < 2 ^ 64) (sym blocks)
            (subst (λ v. length rows + length (waiting_in v feed.block.rows) < 2 ^ 64) fresh few);
        feeds = subst (λ (x : RowList). Feeds told wanted limits start now feed' (rows ++ x.rows)) (sym blocks)
            (feeds-on feed' (rows ++ feed.block.rows) (ap (λ (x : Feeding). x.ended) same ∙ e) (gives wanted limits f.bytes feed rows r feed' fresh same));
      }

  -- the header has ended in the piece
  pub gives-bound : (feed' : Feeding) (bound : List ℕ) → feed.ended ≡ None → feed'.ended ≡ None → bound_of feed ≡ None → bound_of feed' ≡ Some bound
      → IsNear wanted limits f.bytes → Runs wanted limits f.bytes feed' rows → GivesBound told wanted limits start now (bound_of feed) feed' rows
  gives-bound feed' bound e e' waited shows near r =
      let nil : rows ≡ [] = none-before wanted limits f.bytes feed rows (runs-of e) waited in
      record {
        waited = waited;
        none = nil;
        bound = bound;
        shows = shows;
        near = near-header told wanted limits start now f.bytes f.reads near;
        feeds = subst (Feeds told wanted limits start now feed') nil (feeds-on feed' rows e' r);
      }

  -- the end was met before
  pub ends-after : (n : Counts) → feed.ended ≡ Some n → GivesEnd told wanted limits start now (bound_of feed) feed rows n
  ends-after n e =
      let h : HasEnded told wanted limits start f.bytes feed rows n = subst (λ o. Holds told wanted limits start now o f.bytes feed rows) e f.holds in
      record {
        bound = h.bound;
        known = h.shows;
        shows = h.shows;
        few = omega (arith, h.few, ap length h.none);
        is_read = record {
          bytes = f.bytes;
          reads = f.reads;
          whole = h.whole;
          ends =
              subst (λ rs. Ends wanted limits f.bytes h.bound (rs ++ feed.block.rows) n.rows n.bytes) (sym h.none) h.ends;
        };
      }

  -- the bytes that are refused were all taken
  pub refuses-on : (t : TraceFault) → RefusesAll t wanted limits f.bytes → IsUnread told wanted limits start now t
  refuses-on t h = unread-all told wanted limits start now f.bytes f.reads t h

  module _ (none : IsTrue told.left → (now.slot_of Trace).left ≡ []) where
    pub refuses-end : (t : TraceFault) → RefusesIt t wanted limits f.bytes → IsUnread told wanted limits start now t
    refuses-end t h = unread-it told wanted limits start now f.bytes f.reads none t h

    whole : IsTrue told.left → (start.slot_of Trace).left ≡ f.bytes
    whole = whole-of told wanted limits start now f.bytes f.reads none

    -- the trace has ended
    pub gives-end : (before : Option (List ℕ)) (feed' : Feeding) (n : Counts) → EndsNow wanted limits f.bytes before feed' rows n
        → GivesEnd told wanted limits start now before feed' rows n
    gives-end before feed' n h = record {
      bound = h.bound;
      known = h.known;
      shows = h.shows;
      few = h.few;
      is_read = record { bytes = f.bytes; reads = f.reads; whole = whole; ends = h.ends };
    }

    pub gives-late : (before : Option (List ℕ)) (feed' : Feeding) → EndsLate wanted limits f.bytes before feed' rows
        → GivesBound told wanted limits start now before feed' rows
    gives-late before feed' h = record {
      waited = h.waited;
      none = h.none;
      bound = h.bound;
      shows = h.shows;
      near = near-header told wanted limits start now f.bytes f.reads h.near;
      feeds = record {
        bytes = f.bytes;
        reads = f.reads;
        small = f.small;
        holds = subst (λ o. Holds told wanted limits start now o f.bytes feed' []) (sym h.ended)
            (record { none = refl; bound = h.bound; shows = h.shows; whole = whole; ends = h.ends; few = h.few });
      };
    }

    pub gives-finish : (next : Next) (before : Option (List ℕ)) (feed' : Feeding) → Finishes next wanted limits f.bytes before feed' rows
        → Gives told wanted limits start now next before feed' rows
    gives-finish Bound before feed' h = gives-late before feed' h
    gives-finish Rows before feed' h = absurd h
    gives-finish (Ended n) before feed' h = gives-end before feed' n h
