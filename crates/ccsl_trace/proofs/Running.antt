-- A feed from one step to the next.
use Rattle.std.proofs.Common.{◌≡◌, ℕ, ◌+◌, ◌≤◌, ◌<◌, ◌^◌, List, [], ◌∷◌, ◌++◌, length, take, drop, Bool, true, false, Option, Some, None, refl, sym}
use Rattle.std.proofs.Common.{ap, ◌∙◌, subst, append_assoc, arith, length-append, length-take, length-drop}
use Rattle.std.specs.Prelude.{is_some, IfNone}
use Rattle.std.proofs.lemmas.List.{append-nil, take-append-drop}
use Rattle.ccsl_base.specs.declared.rows.Row.{Row}
use Rattle.ccsl_vcd.specs.declared.fault.VcdFault.{VcdFault}
use Rattle.ccsl_vcd.specs.declared.limits.Limits.{Limits}
use Rattle.ccsl_vcd.specs.Binding.{Wanted}
use Rattle.ccsl_vcd.specs.Reading.{Story, so_far, reading}
use Rattle.ccsl_vcd.specs.Completed.{done}
use Rattle.ccsl_vcd_read.specs.declared.reader.Counts.{Counts}
use Rattle.ccsl_vcd_read.specs.Heading.{Caused, NotMemory}
use Rattle.ccsl_vcd_read.specs.Reading.{Running, StandsFor, Pushes, HeaderSo, IsCalm, past_header}
use Rattle.ccsl_vcd_read.proofs.StagePictures.{caused-map}
use Rattle.ccsl_vcd_read.proofs.Taking.{running-of, so_far-within, no-fault}
use Rattle.ccsl_vcd_read.proofs.Ending.{running-shown}
use Rattle.ccsl_trace.specs.Traces.{unread}
use Rattle.ccsl_trace.specs.Feeding.{Feeding, bound_of, waiting_in, left_of, calls_left, calls_left_from, Runs}
use Rattle.ccsl_trace.specs.Stepping.{IsNear, Turns, RefusesAll, RefusesIt}
use Rattle.ccsl_trace.proofs.Binding.{bound_by, bound-stays, done-none, done-few, past-shown}
use Rattle.ccsl_trace.proofs.Refusing.{near-of, refuses-all, refuses-it}

-- whether the clocks were bound just now
abbrev Link : Bool → Bool → Bool → Type 0
Link true before now = (before ≡ false) × (now ≡ true)
Link false before now = now ≡ before

turns-by : (ended : Bool) (before now : Option (List ℕ)) → Link ended (is_some before) (is_some now) → ((c : List ℕ) → before ≡ Some c → now ≡ Some c)
    → Turns ended before now
turns-by true None None l k = absurd (let e : false ≡ true = l.1 in cc)
turns-by true None (Some c) l k = (refl, c, refl)
turns-by true (Some b) now l k = absurd (let e : true ≡ false = l.0 in cc)
turns-by false None None l k = refl
turns-by false None (Some c) l k = absurd (let e : true ≡ false = l in cc)
turns-by false (Some b) now l k = k b refl

link-of : (ended : Bool) (wanted : Wanted) (l : Limits) (bytes piece : List ℕ) (n : ℕ) → HeaderSo ended wanted l bytes piece n
    → Link ended (is_some (bound_by wanted l bytes)) (is_some (bound_by wanted l (bytes ++ take n piece)))
link-of true wanted l bytes piece n h =
    (sym (past-shown (so_far wanted l bytes).place) ∙ h.first, sym (past-shown (so_far wanted l (bytes ++ take n piece)).place) ∙ h.now)
link-of false wanted l bytes piece n h = sym (past-shown (so_far wanted l (bytes ++ take n piece)).place) ∙ h ∙ past-shown (so_far wanted l bytes).place

-- past the header's end the clocks are bound
pub some-of : (o : Option (List ℕ)) → is_some o ≡ true → (bound : List ℕ) × (o ≡ Some bound)
some-of None e = absurd (cc)
some-of (Some c) e = (c, refl)

nil-of : (a b : List Row) → a ++ b ≡ [] → a ≡ []
nil-of [] b e = refl
nil-of (x ∷ a) b e = absurd (cc)

-- and what tells the end
pub nearer-end : (old new : Feeding) (n : Counts) → old.ended ≡ None → new.ended ≡ Some n → calls_left new < calls_left old
nearer-end old new n e e' =
    subst (λ o. calls_left new < calls_left_from o old) (sym e) (subst (λ o. calls_left_from o new < calls_left_from None old) (sym e') (omega arith))

module _ (wanted : Wanted) (limits : Limits) (bytes : List ℕ) (feed : Feeding) (rows : List Row) (r : Runs wanted limits bytes feed rows) where
  pub running : Running wanted feed.reading r.taken
  running = running-of wanted feed.reading r.taken r.runs r.stands

  pub within : length r.taken ≤ limits.bytes
  within = let n = running in subst (λ (x : Limits). length r.taken ≤ x.bytes) r.limits_are n.within

  pub fine-taken : (so_far wanted limits r.taken).fault ≡ None
  fine-taken =
      let n = running in
      let at : (so_far wanted feed.reading.limits r.taken).fault ≡ None =
      ap (λ (s : Story). s.fault) (so_far-within wanted feed.reading.limits r.taken n.within)
      ∙ no-fault wanted feed.reading.limits feed.reading.stage _ n.pictures in
      subst (λ (x : Limits). (so_far wanted x r.taken).fault ≡ None) r.limits_are at

  pub bound-taken : bound_of feed ≡ bound_by wanted limits r.taken
  bound-taken = running-shown wanted feed.reading r.taken running ∙ ap (λ (x : Limits). bound_by wanted x r.taken) r.limits_are

  pub past-taken : past_header wanted limits r.taken ≡ is_some (bound_of feed)
  past-taken = past-shown (so_far wanted limits r.taken).place ∙ ap is_some (sym bound-taken)

  -- before the clocks are bound there are no rows
  pub none-given : bound_of feed ≡ None → rows ++ waiting_in feed.handed feed.block.rows ≡ []
  none-given e = sym r.rows_are ∙ done-none wanted limits r.taken within (sym bound-taken ∙ e)

  pub none-before : bound_of feed ≡ None → rows ≡ []
  none-before e = nil-of rows (waiting_in feed.handed feed.block.rows) (none-given e)

  -- and there are at most as many as bytes
  pub few-rows : limits.bytes < 2 ^ 64 → length rows + length (waiting_in feed.handed feed.block.rows) < 2 ^ 64
  few-rows h =
      let few : length (done wanted feed.reading.limits r.taken) < 2 ^ 64 =
      done-few wanted feed.reading r.taken running (subst (λ (x : Limits). x.bytes < 2 ^ 64) (sym r.limits_are) h) in
      let e : length (done wanted feed.reading.limits r.taken) ≡ length rows + length (waiting_in feed.handed feed.block.rows) =
      ap (λ (x : Limits). length (done wanted x r.taken)) r.limits_are ∙ ap length r.rows_are ∙ length-append rows (waiting_in feed.handed feed.block.rows) in
      omega (arith, few, e)

  -- where rows wait the clocks are bound
  pub bound-where-rows : feed.handed ≡ false → 0 < length feed.block.rows → (bound : List ℕ) × (bound_of feed ≡ Some bound)
  bound-where-rows h some = by-bound (bound_of feed) refl
    where
      by-bound : (o : Option (List ℕ)) → bound_of feed ≡ o → (bound : List ℕ) × (bound_of feed ≡ Some bound)
      by-bound (Some c) e = (c, e)
      by-bound None e =
          let w : rows ++ feed.block.rows ≡ [] = ap (λ b. rows ++ waiting_in b feed.block.rows) (sym h) ∙ none-given e in
          absurd (omega (arith, some, length-append rows feed.block.rows, ap length w))

  -- the same feed with the rows of its block handed out
  pub gives : (feed' : Feeding) → feed.handed ≡ false → feed' ≡ record feed { handed = true } → Runs wanted limits bytes feed' (rows ++ feed.block.rows)
  gives feed' h e = subst (λ x. Runs wanted limits bytes x (rows ++ feed.block.rows)) (sym e) (record {
    taken = r.taken;
    all = r.all;
    few = r.few;
    stands = r.stands;
    runs = r.runs;
    limits_are = r.limits_are;
    rows_are = r.rows_are ∙ ap (λ b. rows ++ waiting_in b feed.block.rows) h ∙ sym (append-nil (rows ++ feed.block.rows));
    room = r.room;
  })

  -- and with the handed rows taken out
  pub makes-room : feed.handed ≡ true → Runs wanted limits bytes (record feed { block = record feed.block { rows = [] }; handed = false }) rows
  makes-room h = record {
    taken = r.taken;
    all = r.all;
    few = r.few;
    stands = r.stands;
    runs = r.runs;
    limits_are = r.limits_are;
    rows_are = r.rows_are ∙ ap (λ b. rows ++ waiting_in b feed.block.rows) h;
    room = r.room;
  }

  -- the reader takes a part of the piece
  module _ (feed' : Feeding) (n : ℕ) (fresh : feed.handed ≡ false) (same : feed'.reading.limits ≡ feed.reading.limits) (fine : feed'.reading.fault ≡ None)
      (stands : StandsFor wanted feed'.reading (r.taken ++ take n feed.pending)) where
    abbrev more : List ℕ
    more = r.taken ++ take n feed.pending

    running-more : Running wanted feed'.reading more
    running-more = running-of wanted feed'.reading more fine stands

    pub passes : Pushes (done wanted feed.reading.limits r.taken) (done wanted feed.reading.limits more) feed.block.rows feed'.block.rows
        → feed'.pending ≡ drop n feed.pending → feed'.handed ≡ false → feed'.block.room ≡ feed.block.room → Runs wanted limits bytes feed' rows
    passes q p h room = record {
      taken = more;
      all = r.all ∙ ap (λ xs. r.taken ++ xs) (sym (take-append-drop n feed.pending)) ∙ sym (append_assoc r.taken (take n feed.pending) (drop n feed.pending))
          ∙ ap (λ xs. more ++ xs) (sym p);
      few = omega (arith, r.few, length-drop n feed.pending, ap length p);
      stands = stands;
      runs = fine;
      limits_are = same ∙ r.limits_are;
      rows_are =
          ap (λ (x : Limits). done wanted x more) (sym r.limits_are) ∙ q.rows
          ∙ ap (λ rs. rs ++ q.pushed) (ap (λ (x : Limits). done wanted x r.taken) r.limits_are ∙ r.rows_are
          ∙ ap (λ b. rows ++ waiting_in b feed.block.rows) fresh)
          ∙ append_assoc rows feed.block.rows q.pushed ∙ ap (λ rs. rows ++ rs) (sym q.block) ∙ ap (λ b. rows ++ waiting_in b feed'.block.rows) (sym h);
      room = room ∙ r.room;
    }

    pub comes-closer : 0 < length feed.pending → 0 < n → left_of feed' < left_of feed
    comes-closer some moves =
        let a : Running wanted feed.reading r.taken = running in
        let b : Running wanted feed'.reading more = running-more in
        let e : feed'.reading.limits.bytes ≡ feed.reading.limits.bytes = ap (λ (x : Limits). x.bytes) same in
        omega (arith, a.taken, a.within, b.taken, b.within, length-append r.taken (take n feed.pending), length-take n feed.pending, e, some, moves)

    pub turns : (ended : Bool) → HeaderSo ended wanted feed.reading.limits r.taken feed.pending n → Turns ended (bound_of feed) (bound_of feed')
    turns ended h =
        let a : Running wanted feed.reading r.taken = running in
        let b : Running wanted feed'.reading more = running-more in
        let l = feed.reading.limits in
        let w : length more ≤ l.bytes = subst (λ (x : Limits). length more ≤ x.bytes) same b.within in
        let e : bound_of feed ≡ bound_by wanted l r.taken = running-shown wanted feed.reading r.taken running in
        let e' : bound_of feed' ≡ bound_by wanted l more =
        running-shown wanted feed'.reading more running-more ∙ ap (λ (x : Limits). bound_by wanted x more) same in
        subst (λ o. Turns ended o (bound_of feed')) (sym e) (subst (λ o. Turns ended (bound_by wanted l r.taken) o) (sym e')
        (turns-by ended _ _ (link-of ended wanted l r.taken feed.pending n h) (λ c k. bound-stays wanted l r.taken (take n feed.pending) c a.within w k)))

  -- where the header ends in the piece it had not ended before
  pub near : (n : ℕ) → HeaderSo true wanted feed.reading.limits r.taken feed.pending n → IsNear wanted limits bytes
  near n h = subst (IsNear wanted limits) (sym r.all) (near-of wanted limits r.taken feed.pending within r.few
      (λ p. let c : false ≡ true = sym h.first ∙ ap (λ (x : Limits). past_header wanted x r.taken) r.limits_are ∙ p in absurd (cc)) fine-taken)

  module _ (f : VcdFault) (calm : IfNone feed.reading.fault ((wanted : Wanted) (bytes : List ℕ) → StandsFor wanted feed.reading bytes
      → IsCalm wanted feed.reading.limits bytes f)) where
    calm-taken : IsCalm wanted limits r.taken f
    calm-taken = subst (λ (x : Limits). IsCalm wanted x r.taken f) r.limits_are
        (subst (λ (o : Option VcdFault). IfNone o ((wanted : Wanted) (bytes : List ℕ) → StandsFor wanted feed.reading bytes
        → IsCalm wanted feed.reading.limits bytes f)) r.runs calm wanted r.taken r.stands)

    -- past the header's end it is no want of memory
    pub calm-bound : (bound : List ℕ) → bound_of feed ≡ Some bound → NotMemory f
    calm-bound bound e = calm-taken (past-taken ∙ ap is_some e)

    pub refused-all : Caused f ((wanted : Wanted) (bytes more : List ℕ) → StandsFor wanted feed.reading bytes
        → (reading wanted feed.reading.limits (bytes ++ (feed.pending ++ more))).fault ≡ Some f) → RefusesAll (unread f) wanted limits bytes
    refused-all c = subst (RefusesAll (unread f) wanted limits) (sym r.all) (refuses-all f wanted limits r.taken feed.pending within r.few calm-taken fine-taken
        (caused-map f (λ h. λ more. ap (λ (x : Limits). (reading wanted x (r.taken ++ (feed.pending ++ more))).fault) (sym r.limits_are)
        ∙ h wanted r.taken more r.stands) c))

    pub refused-it : feed.pending ≡ []
        → Caused f ((wanted : Wanted) (bytes : List ℕ) → StandsFor wanted feed.reading bytes → (reading wanted feed.reading.limits bytes).fault ≡ Some f)
        → RefusesIt (unread f) wanted limits bytes
    refused-it none c = subst (RefusesIt (unread f) wanted limits) (sym r.all)
        (refuses-it f wanted limits r.taken feed.pending within r.few calm-taken fine-taken
        (caused-map f (λ h. ap (λ xs. (reading wanted limits xs).fault) (ap (λ xs. r.taken ++ xs) none ∙ append-nil r.taken)
        ∙ ap (λ (x : Limits). (reading wanted x r.taken).fault) (sym r.limits_are) ∙ h wanted r.taken r.stands) c))
