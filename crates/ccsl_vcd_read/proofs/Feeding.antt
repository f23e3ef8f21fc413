-- What a reader stands for, piece by piece.
use Rattle.std.proofs.Common.{◌≡◌, ℕ, ◌+◌, ◌-◌, ◌≤◌, ◌<◌, List, [], ◌++◌, length, take, drop, Bool, true, false, Option, Some, None}
use Rattle.std.proofs.Common.{refl, sym, ap, ◌∙◌, subst, ⊎_elim, append_assoc, arith, length-append, length-drop}
use Rattle.std.specs.Prelude.{IfNone}
use Rattle.std.proofs.lemmas.Bool.{cases_lt}
use Rattle.std.proofs.lemmas.List.{append-nil, take-append-drop}
use Rattle.std.proofs.Math.Seq.{take-add}
use Rattle.ccsl_base.specs.declared.rows.Row.{Row}
use Rattle.ccsl_base.specs.Rows.{RowList}
use Rattle.ccsl_vcd.specs.declared.fault.VcdFault.{VcdFault}
use Rattle.ccsl_vcd.specs.declared.fault.VcdFault.TheVariants as faults
use Rattle.ccsl_vcd.specs.declared.limits.Limits.{Limits}
use Rattle.ccsl_vcd.specs.Binding.{Wanted}
use Rattle.ccsl_vcd.specs.Reading.{so_far, reading}
use Rattle.ccsl_vcd.specs.Completed.{done}
use Rattle.ccsl_vcd.proofs.Decided.{decided-first}
use Rattle.ccsl_vcd_read.specs.Heading.{Caused}
use Rattle.ccsl_vcd_read.specs.Reading.{Reading, Stopped, StandsFor, Pushes, HadRoom, Decides, EndsHeader, HeaderSo, past_header, CanTake, Took, Takes, Stops}
use Rattle.ccsl_vcd_read.proofs.StagePictures.{caused-map}
use Rattle.ccsl_vcd_read.proofs.Taking.{stands-stopped, stopped-is}
use Rattle.ccsl_vcd_read.proofs.Faults.{stopped-further}
use Rattle.ccsl_base.proofs.Cases.{rest-is, rest_at}

-- the bytes of a piece so far, and more of the rest
pub more-of : (bytes piece : List ℕ) (i n : ℕ) → (bytes ++ take i piece) ++ take n (rest_at i piece) ≡ bytes ++ take (i + n) piece
more-of bytes piece i n =
    ap (λ xs. (bytes ++ take i piece) ++ take n xs) (rest-is i piece) ∙ append_assoc bytes (take i piece) (take n (drop i piece))
    ∙ ap (λ xs. bytes ++ xs) (sym (take-add i n piece))

pub rest-of : (bytes piece : List ℕ) (i : ℕ) → (bytes ++ take i piece) ++ rest_at i piece ≡ bytes ++ piece
rest-of bytes piece i =
    ap (λ xs. (bytes ++ take i piece) ++ xs) (rest-is i piece) ∙ append_assoc bytes (take i piece) (drop i piece)
    ∙ ap (λ xs. bytes ++ xs) (take-append-drop i piece)

-- a part of the piece was taken, and there is room for a row
pub record Passed (start now : Reading) (before after : RowList) (piece : List ℕ) (i : ℕ) : Type 0 where
  pub ready : CanTake start before
  pub room : length after.rows < after.room
  pub takes : Takes start now piece i false before after

pub pushes-none : (rows out : List Row) → Pushes rows rows out out
pushes-none rows out = record { pushed = []; rows = sym (append-nil rows); block = sym (append-nil out) }

pub pushes-both : (a b c x y z : List Row) → Pushes a b x y → Pushes b c y z → Pushes a c x z
pushes-both a b c x y z p q = record {
  pushed = p.pushed ++ q.pushed;
  rows = q.rows ∙ ap (λ rs. rs ++ q.pushed) p.rows ∙ append_assoc a p.pushed q.pushed;
  block = q.block ∙ ap (λ rs. rs ++ q.pushed) p.block ∙ append_assoc x p.pushed q.pushed;
}

-- a reader that was never faulty is ready
pub ready-of : {v : Reading} {out : RowList} → v.fault ≡ None → length out.rows < out.room →
    IfNone v.fault ((wanted : Wanted) × (bytes : List ℕ) × StandsFor wanted v bytes) → CanTake v out
ready-of {v} e room s = record {
  runs = e;
  room = room;
  stands = subst (λ o. IfNone o ((wanted : Wanted) × (bytes : List ℕ) × StandsFor wanted v bytes)) e s;
}

pub starts : (v : Reading) (out : RowList) (piece : List ℕ) → CanTake v out → Passed v v out out piece 0
starts v out piece c = record {
  ready = c;
  room = c.room;
  takes = record {
    within = omega arith;
    runs = c.runs;
    limits = refl;
    room = refl;
    took = λ wanted bytes s. record {
      stands = rw append-nil s;
      pushes = rw append-nil (pushes-none (done wanted v.limits bytes) out.rows);
      header = ap (past_header wanted v.limits) (append-nil bytes);
      filled = λ full. absurd (omega (arith, full, c.room));
    };
  };
}

-- how many rows were pushed
pushed-count : {a b x y : List Row} → Pushes a b x y → length y + length a ≡ length x + length b
pushed-count {a} {x} p = omega (arith, ap length p.rows ∙ length-append a p.pushed, ap length p.block ∙ length-append x p.pushed)

-- a part of a piece was taken, and then some of the rest
module _ (start now next : Reading) (before mid after : RowList) (piece : List ℕ) (i n : ℕ) (ended : Bool) (q : Takes start now piece i false before mid)
    (room : length mid.rows < mid.room) (t : Takes now next (rest_at i piece) n ended mid after)
    (wanted : Wanted) (bytes : List ℕ) (s : StandsFor wanted start bytes) where
  part : Took wanted start now bytes piece i false before mid
  part = q.took wanted bytes s

  rest : Took wanted now next (bytes ++ take i piece) (rest_at i piece) n ended mid after
  rest = t.took wanted (bytes ++ take i piece) part.stands

  both-push : Pushes (done wanted start.limits bytes) (done wanted start.limits (bytes ++ take (i + n) piece)) before.rows after.rows
  both-push = pushes-both _ _ _ _ _ _ part.pushes (rw (← q.limits, ← more-of bytes piece i n) rest.pushes)

  both-header : (b : Bool) → HeaderSo b wanted now.limits (bytes ++ take i piece) (rest_at i piece) n → HeaderSo b wanted start.limits bytes piece (i + n)
  both-header false h =
      ap (past_header wanted start.limits) (sym (more-of bytes piece i n))
      ∙ subst (λ (x : Limits). HeaderSo false wanted x (bytes ++ take i piece) (rest_at i piece) n) q.limits h ∙ part.header
  both-header true h =
      let e : EndsHeader wanted start.limits (bytes ++ take i piece) (rest_at i piece) n =
      subst (λ (x : Limits). EndsHeader wanted x (bytes ++ take i piece) (rest_at i piece) n) q.limits h in
      let some : 0 < n = e.some in
      let k : i + n - 1 ≡ i + (n - 1) = omega arith in
      record {
        first = sym part.header ∙ e.first;
        some = omega (arith, some);
        before = ap (λ j. past_header wanted start.limits (bytes ++ take j piece)) k
            ∙ ap (past_header wanted start.limits) (sym (more-of bytes piece i (n - 1))) ∙ e.before;
        now = ap (past_header wanted start.limits) (sym (more-of bytes piece i n)) ∙ e.now;
      }

  none-taken : n ≤ 0 → length after.rows ≡ after.room → ⊥
  none-taken none full =
      let more = bytes ++ take i piece in
      let zero_ : n ≡ 0 = omega (arith, none) in
      let same : more ++ take n (rest_at i piece) ≡ more = ap (λ k. more ++ take k (rest_at i piece)) zero_ ∙ append-nil more in
      omega (arith, pushed-count rest.pushes, ap (λ xs. length (done wanted now.limits xs)) same, full, t.room, room)

  both-filled : length after.rows ≡ after.room → HadRoom wanted start.limits bytes (take (i + n - 1) piece) before
  both-filled full =
      ⊎_elim
      (λ some.
      let more = bytes ++ take i piece in
      let h : HadRoom wanted start.limits more (take (n - 1) (rest_at i piece)) mid =
      subst (λ (x : Limits). HadRoom wanted x more (take (n - 1) (rest_at i piece)) mid) q.limits (rest.filled full) in
      let at : i + n - 1 ≡ i + (n - 1) = omega (arith, some) in
      let same : more ++ take (n - 1) (rest_at i piece) ≡ bytes ++ take (i + n - 1) piece =
      more-of bytes piece i (n - 1) ∙ ap (λ j. bytes ++ take j piece) (sym at) in
      omega (arith, h, pushed-count part.pushes, ap (λ xs. length (done wanted start.limits xs)) same, q.room))
      (λ none. absurd (none-taken none full))
      (cases_lt 0 n)

  took-more : Took wanted start next bytes piece (i + n) ended before after
  took-more = record {
    stands = subst (λ xs. StandsFor wanted next xs) (more-of bytes piece i n) rest.stands;
    pushes = both-push;
    header = both-header ended rest.header;
    filled = both-filled;
  }

pub takes-more : {start now next : Reading} {before mid after : RowList} {piece : List ℕ} {i n : ℕ} {ended : Bool} → Takes start now piece i false before mid →
    length mid.rows < mid.room → Takes now next (rest_at i piece) n ended mid after → Takes start next piece (i + n) ended before after
takes-more {start} {now} {next} {before} {mid} {after} {piece} {i} {n} {ended} q room t = record {
  within = omega (arith, q.within, t.within, ap length (rest-is i piece) ∙ length-drop i piece);
  runs = t.runs;
  limits = t.limits ∙ q.limits;
  room = t.room ∙ q.room;
  took = took-more start now next before mid after piece i n ended q room t;
}

pub still-ready : {v new : Reading} {before after : RowList} {piece : List ℕ} {n : ℕ} {ended : Bool} → CanTake v before → Takes v new piece n ended before after
    → length after.rows < after.room → CanTake new after
still-ready {piece} {n} c t room =
    let s = c.stands in
    record { runs = t.runs; room = room; stands = (s.0, s.1 ++ take n piece, (t.took s.0 s.1 s.2).stands) }

-- a fault in the rest of a piece
decides-at : {start now : Reading} {before mid : RowList} {out : List Row} {piece : List ℕ} {i : ℕ} (f : VcdFault) → Takes start now piece i false before mid →
    (wanted : Wanted) (bytes : List ℕ) → StandsFor wanted start bytes →
    Decides wanted now.limits (bytes ++ take i piece) (rest_at i piece) f mid.rows out → Decides wanted start.limits bytes piece f before.rows out
decides-at {start} {mid} {out} {piece} {i} f q wanted bytes s d =
    let e : Decides wanted start.limits (bytes ++ take i piece) (rest_at i piece) f mid.rows out =
    subst (λ (x : Limits). Decides wanted x (bytes ++ take i piece) (rest_at i piece) f mid.rows out) q.limits d in
    let whole : (bytes ++ take i piece) ++ e.front ≡ bytes ++ (take i piece ++ e.front) = append_assoc bytes (take i piece) e.front in
    record {
      front = take i piece ++ e.front;
      back = e.back;
      is_front =
          sym (take-append-drop i piece) ∙ ap (λ xs. take i piece ++ xs) (sym (rest-is i piece) ∙ e.is_front)
          ∙ sym (append_assoc (take i piece) e.front e.back);
      fault = ap (λ xs. (so_far wanted start.limits xs).fault) (sym whole) ∙ e.fault;
      pushes = pushes-both _ _ _ _ _ _ (q.took wanted bytes s).pushes
          (subst (λ xs. Pushes (done wanted start.limits (bytes ++ take i piece)) (done wanted start.limits xs) mid.rows out) whole e.pushes);
    }

pub piece-decides : {start now next : Reading} {before mid after : RowList} {piece : List ℕ} {i : ℕ} (f : VcdFault) → Takes start now piece i false before mid →
    Stops now next (rest_at i piece) f mid after →
    Caused f ((wanted : Wanted) (bytes : List ℕ) → StandsFor wanted start bytes → Decides wanted start.limits bytes piece f before.rows after.rows)
piece-decides {piece} {i} f q h =
    caused-map f (λ d. λ wanted bytes s. decides-at f q wanted bytes s (d wanted (bytes ++ take i piece) (q.took wanted bytes s).stands)) h.decides

refuses-at : {limits : Limits} {piece : List ℕ} {f : VcdFault} {old new : List Row} (wanted : Wanted) (bytes more : List ℕ) →
    Decides wanted limits bytes piece f old new → (reading wanted limits (bytes ++ (piece ++ more))).fault ≡ Some f
refuses-at {limits} {f} wanted bytes more d =
    ap (λ xs. (reading wanted limits (bytes ++ (xs ++ more))).fault) d.is_front
    ∙ ap (λ xs. (reading wanted limits xs).fault) (ap (λ xs. bytes ++ xs) (append_assoc d.front d.back more)
    ∙ sym (append_assoc bytes d.front (d.back ++ more)))
    ∙ decided-first wanted limits (bytes ++ d.front) (d.back ++ more) f d.fault

pub piece-refuses : {start now next : Reading} {before mid after : RowList} {piece : List ℕ} {i : ℕ} (f : VcdFault) → Takes start now piece i false before mid →
    Stops now next (rest_at i piece) f mid after →
    Caused f ((wanted : Wanted) (bytes more : List ℕ) → StandsFor wanted start bytes → (reading wanted start.limits (bytes ++ (piece ++ more))).fault ≡ Some f)
piece-refuses f q h = caused-map f (λ d. λ wanted bytes more s. refuses-at wanted bytes more (d wanted bytes s)) (piece-decides f q h)

pub piece-still : {start now next : Reading} {before mid after : RowList} {piece : List ℕ} {i : ℕ} {f : VcdFault} → Takes start now piece i false before mid →
    Stops now next (rest_at i piece) f mid after → (wanted : Wanted) (bytes : List ℕ) → StandsFor wanted start bytes → StandsFor wanted next (bytes ++ piece)
piece-still {next} {piece} {i} q h wanted bytes s =
    subst (λ xs. StandsFor wanted next xs) (rest-of bytes piece i) (h.still wanted (bytes ++ take i piece) (q.took wanted bytes s).stands)

-- a reader that has stopped
pub stays-stopped : (v : Reading) (f : VcdFault) → v.fault ≡ Some f → (wanted : Wanted) (bytes more : List ℕ) → StandsFor wanted v bytes
    → StandsFor wanted v (bytes ++ more)
stays-stopped v f e wanted bytes more s =
    stands-stopped wanted v f (bytes ++ more) e (caused-map f (stopped-further wanted v f bytes more) (stopped-is wanted v f bytes e s))

stopped-refuses : (v : Reading) (f : VcdFault) (wanted : Wanted) (bytes more : List ℕ) → Stopped wanted v f bytes
    → (reading wanted v.limits (bytes ++ more)).fault ≡ Some f
stopped-refuses v f wanted bytes more s = decided-first wanted v.limits bytes more f s.fault

pub all-refused : (v : Reading) (f : VcdFault) → v.fault ≡ Some f
    → Caused f ((wanted : Wanted) (bytes more : List ℕ) → StandsFor wanted v bytes → (reading wanted v.limits (bytes ++ more)).fault ≡ Some f)
all-refused v f e = each f e
  where
    stops : (g : VcdFault) → v.fault ≡ Some g → (wanted : Wanted) (bytes more : List ℕ) → StandsFor wanted v bytes
        → Caused g ((reading wanted v.limits (bytes ++ more)).fault ≡ Some g)
    stops g k wanted bytes more s = caused-map g (stopped-refuses v g wanted bytes more) (stopped-is wanted v g bytes k s)

    each : (g : VcdFault) → v.fault ≡ Some g
        → Caused g ((wanted : Wanted) (bytes more : List ℕ) → StandsFor wanted v bytes → (reading wanted v.limits (bytes ++ more)).fault ≡ Some g)
    each faults.Memory k = tt
    each (faults.TokenTooLong a) k = stops (faults.TokenTooLong a) k
    each (faults.BadHeader a) k = stops (faults.BadHeader a) k
    each (faults.TooManyVars a) k = stops (faults.TooManyVars a) k
    each (faults.TooDeep a) k = stops (faults.TooDeep a) k
    each (faults.BadTime a) k = stops (faults.BadTime a) k
    each (faults.BadChange a) k = stops (faults.BadChange a) k
    each (faults.UnknownCode a) k = stops (faults.UnknownCode a) k
    each (faults.UnknownCommand a) k = stops (faults.UnknownCommand a) k
    each (faults.Gap a) k = stops (faults.Gap a) k
    each (faults.Truncated a) k = stops (faults.Truncated a) k
    each (faults.TooLong a) k = stops (faults.TooLong a) k
    each (faults.TimeBack a b c) k = stops (faults.TimeBack a b c) k
    each (faults.Unbound a) k = stops (faults.Unbound a) k
    each (faults.Ambiguous a) k = stops (faults.Ambiguous a) k

pub if-none : {P : Type 0} (o : Option VcdFault) → o ≡ None → P → IfNone o P
if-none None e x = x
if-none (Some f) e x = absurd (cc)
