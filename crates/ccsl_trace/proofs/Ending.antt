-- The end of a trace: what was handed out and the last block are all its rows.
use Rattle.std.proofs.Common.{◌≡◌, ℕ, ◌+◌, ◌≤◌, ◌<◌, ◌^◌, List, [], ◌++◌, length, true, false, Option, Some, None, refl, sym, ap, ◌∙◌, subst, append_assoc}
use Rattle.std.proofs.Common.{arith, length-append}
use Rattle.std.specs.Prelude.{is_some}
use Rattle.std.specs.Option.{option_map}
use Rattle.std.proofs.lemmas.List.{append-nil}
use Rattle.ccsl_base.specs.declared.rows.Row.{Row}
use Rattle.ccsl_vcd.specs.declared.limits.Limits.{Limits}
use Rattle.ccsl_vcd.specs.Binding.{Wanted}
use Rattle.ccsl_vcd.specs.Reading.{reading}
use Rattle.ccsl_vcd.specs.Rows.{recorded}
use Rattle.ccsl_vcd.specs.Completed.{done}
use Rattle.ccsl_vcd_read.specs.declared.reader.Counts.{Counts}
use Rattle.ccsl_vcd_read.specs.Staging.{shown_at}
use Rattle.ccsl_vcd_read.specs.Reading.{Pushes, AreCounts, shows}
use Rattle.ccsl_trace.specs.declared.next.Next.{Next}
use Rattle.ccsl_trace.specs.declared.next.Next.TheVariants.{Bound, Rows, Ended}
use Rattle.ccsl_trace.specs.Traces.{Ends}
use Rattle.ccsl_trace.specs.Feeding.{Feeding, bound_of, waiting_in, Runs, Nears}
use Rattle.ccsl_trace.specs.Stepping.{IsNear, EndsLate, EndsNow, Finishes}
use Rattle.ccsl_trace.proofs.Binding.{bound_by, bound-read, clocks-shown, read-bound}
use Rattle.ccsl_trace.proofs.Refusing.{near-of}
use Rattle.ccsl_trace.proofs.Running.{within, fine-taken, bound-taken, past-taken, none-before, nearer-end, some-of}

-- what the reader says at the end of these bytes
pub record Finished (wanted : Wanted) (limits : Limits) (bytes : List ℕ) (before after : Feeding) (n : Counts) : Type 0 where
  pub fine : (reading wanted limits bytes).fault ≡ None
  pub pushes : Pushes (done wanted limits bytes) (recorded wanted limits bytes) before.block.rows after.block.rows
  pub counts : AreCounts wanted limits bytes n.rows n.bytes
  pub shows_are : shows after.reading ≡ shown_at (reading wanted limits bytes).place

-- the reader's word on the bytes that it took, where none are pending
pub finished : {wanted : Wanted} {limits : Limits} {bytes : List ℕ} {feed feed' : Feeding} {rows : List Row} {n : Counts}
    (r : Runs wanted limits bytes feed rows) → feed.pending ≡ [] → (reading wanted feed.reading.limits r.taken).fault ≡ None
    → Pushes (done wanted feed.reading.limits r.taken) (recorded wanted feed.reading.limits r.taken) feed.block.rows feed'.block.rows
    → AreCounts wanted feed.reading.limits r.taken n.rows n.bytes
    → shows feed'.reading ≡ shown_at (reading wanted feed.reading.limits r.taken).place → Finished wanted limits bytes feed feed' n
finished {wanted} {limits} {feed} {feed'} {n} r none fine pushes counts shown =
    subst (λ xs. Finished wanted limits xs feed feed' n) (sym (r.all ∙ ap (λ xs. r.taken ++ xs) none ∙ append-nil r.taken))
    (subst (λ (x : Limits). Finished wanted x r.taken feed feed' n) r.limits_are (record { fine = fine; pushes = pushes; counts = counts; shows_are = shown }))

-- whether the bound clocks were shown, as the reader tells it
is_some-map : {A B : Type 0} (f : A → B) (o : Option A) → is_some (option_map f o) ≡ is_some o
is_some-map f None = refl
is_some-map f (Some x) = refl

none-of : (o : Option (List ℕ)) → is_some o ≡ false → o ≡ None
none-of None e = refl
none-of (Some x) e = absurd (cc)

pub unshown : {A : Type 0} (f : A → List ℕ) (o : Option A) (shown : Option (List ℕ)) → option_map f o ≡ shown → is_some o ≡ false → shown ≡ None
unshown f o shown e h = none-of shown (sym (ap is_some e) ∙ is_some-map f o ∙ h)

pub is-shown : {A : Type 0} (f : A → List ℕ) (o : Option A) (shown : Option (List ℕ)) → option_map f o ≡ shown → is_some o ≡ true
    → (bound : List ℕ) × (shown ≡ Some bound)
is-shown f o shown e h = some-of shown (sym (ap is_some e) ∙ is_some-map f o ∙ h)

module _ {wanted : Wanted} {limits : Limits} {bytes : List ℕ} {feed feed' : Feeding} {rows : List Row} (n : Counts) (small : n.rows < 2 ^ 64)
    (r : Runs wanted limits bytes feed rows) (fresh : feed.handed ≡ false) (none : feed.pending ≡ []) (q : Finished wanted limits bytes feed feed' n) where
  pub all-taken : bytes ≡ r.taken
  all-taken = r.all ∙ ap (λ xs. r.taken ++ xs) none ∙ append-nil r.taken

  all-within : length bytes ≤ limits.bytes
  all-within = subst (λ xs. length xs ≤ limits.bytes) (sym all-taken) (within wanted limits bytes feed rows r)

  all-rows : rows ++ feed'.block.rows ≡ recorded wanted limits bytes
  all-rows =
      ap (λ rs. rows ++ rs) q.pushes.block ∙ sym (append_assoc rows feed.block.rows q.pushes.pushed)
      ∙ ap (λ rs. rs ++ q.pushes.pushed) (ap (λ b. rows ++ waiting_in b feed.block.rows) (sym fresh) ∙ sym r.rows_are ∙ ap (done wanted limits) (sym all-taken))
      ∙ sym q.pushes.rows

  few : length rows + length feed'.block.rows < 2 ^ 64
  few = omega (arith, small, q.counts.rows_are, ap length all-rows, length-append rows feed'.block.rows)

  ends : (bound : List ℕ) → shown_at (reading wanted limits bytes).place ≡ Some bound → Ends wanted limits bytes bound (rows ++ feed'.block.rows) n.rows n.bytes
  ends bound e = record { fine = q.fine; bound_are = sym (clocks-shown (reading wanted limits bytes).place bound e); rows_are = all-rows; counts = q.counts }

  -- the clocks were bound already
  pub ends-now : (bound : List ℕ) → bound_of feed ≡ Some bound → EndsNow wanted limits bytes (bound_of feed) feed' rows n
  ends-now bound e =
      let b : bound_by wanted limits bytes ≡ Some bound = ap (bound_by wanted limits) all-taken ∙ sym (bound-taken wanted limits bytes feed rows r) ∙ e in
      let shown = bound-read wanted limits bytes bound all-within b in
      record { bound = bound; known = e; shows = q.shows_are ∙ shown; ends = ends bound shown; few = few }

  -- the end has bound them
  pub ends-late : bound_of feed ≡ None → feed'.ended ≡ Some n → EndsLate wanted limits bytes (bound_of feed) feed' rows
  ends-late e ended =
      let b = read-bound wanted limits bytes all-within q.fine in
      let nil : rows ≡ [] = none-before wanted limits bytes feed rows r e in
      record {
        waited = e;
        none = nil;
        near = subst (IsNear wanted limits) (sym r.all) (near-of wanted limits r.taken feed.pending (within wanted limits bytes feed rows r) r.few
            (λ p. let c : false ≡ true =
            sym (past-taken wanted limits bytes feed rows r ∙ ap is_some e) ∙ p in absurd (cc)) (fine-taken wanted limits bytes feed rows r));
        bound = b.0;
        shows = q.shows_are ∙ b.1;
        counts = n;
        ended = ended;
        ends = subst (λ rs. Ends wanted limits bytes b.0 (rs ++ feed'.block.rows) n.rows n.bytes) nil (ends b.0 b.1);
        few = omega (arith, few);
      }

-- either end brings a feed nearer to its last call
pub nears-finish : (wanted : Wanted) (limits : Limits) (bytes : List ℕ) (before : Option (List ℕ)) (feed feed' : Feeding) (rows : List Row) (next : Next)
    → feed.ended ≡ None → Finishes next wanted limits bytes before feed' rows → Nears next feed feed'
nears-finish wanted limits bytes before feed feed' rows Bound e h = nearer-end feed feed' h.counts e h.ended
nears-finish wanted limits bytes before feed feed' rows Rows e h = absurd h
nears-finish wanted limits bytes before feed feed' rows (Ended n) e h = tt
