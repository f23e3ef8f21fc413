-- Where a reader stops, and what it took of a piece.
use Rattle.std.proofs.Common.{◌≡◌, ℕ, ◌+◌, ◌-◌, ◌≤◌, ◌<◌, ◌^◌, List, [], ◌∷◌, ◌++◌, length, take, drop, Bool, true, false, Option, Some, None, nat_lt}
use Rattle.std.proofs.Common.{refl, sym, ap, ◌∙◌, subst, append_assoc, arith, length-append, length-take-le}
use Rattle.std.proofs.lemmas.List.{append-nil, length-take, take-take, take-append-drop}
use Rattle.std.proofs.lemmas.Bool.{lt-ltb}
use Rattle.std.proofs.Math.Seq.{take-append_seam}
use Rattle.std.specs.Option.{option_or}
use Rattle.ccsl_base.specs.declared.rows.Row.{Row}
use Rattle.ccsl_base.specs.Rows.{RowList}
use Rattle.ccsl_vcd_lex.specs.Tokens.{token, Heard as Said, word, too_long, tokens, settled}
use Rattle.ccsl_vcd_lex.specs.LongTokens.{first_long}
use Rattle.ccsl_vcd_lex.specs.Lexing as lexer
use Rattle.ccsl_vcd_read.specs.Passing.{Passing, Lexes}
use Rattle.ccsl_vcd.specs.declared.fault.VcdFault.{VcdFault}
use Rattle.ccsl_vcd.specs.declared.fault.VcdFault.TheVariants as faults
use Rattle.ccsl_vcd.specs.declared.limits.Limits.{Limits}
use Rattle.ccsl_vcd.specs.Binding.{Wanted}
use Rattle.ccsl_vcd.specs.Reading.{Story, next, says, story, so_far, reading, decides}
use Rattle.ccsl_vcd.specs.Completed.{complete, done}
use Rattle.ccsl_vcd.proofs.Decided.{story-more, so_far-further, so_far-stays}
use Rattle.ccsl_vcd_read.specs.Heading.{Caused, NotMemory, Refuses}
use Rattle.ccsl_vcd_read.specs.Staging.{is_body, shown, shown_at}
use Rattle.ccsl_vcd_read.specs.Reading.{Reading, FewRows, Running, Stopped, StandsFor, Pushes, Stops}
use Rattle.ccsl_vcd_read.proofs.StagePictures.{caused-map}
use Rattle.ccsl_vcd_read.proofs.Taking.{running-of, stands-stopped, so_far-within, done-within, done-told, no-fault, same-shown}
use Rattle.ccsl_vcd_read.proofs.Taking.{Fed, word-fault, word-shown, refused-pushes}

-- The front of a piece.

-- so many bytes are within what a limit leaves of a piece
pub record Taken (left : ℕ) (piece cut : List ℕ) (count : ℕ) : Type 0 where
  pub same : take count cut ≡ take count piece
  pub few : count ≤ left
  pub within : count ≤ length piece
  pub size : length (take count cut) ≡ count

pub taken : {left : ℕ} (piece : List ℕ) {cut : List ℕ} (count : ℕ) → cut ≡ take left piece → count ≤ length cut → Taken left piece cut count
taken {left} piece {cut} count e l =
    let len = ap length e ∙ length-take left piece in
    record {
      same = ap (take count) e ∙ take-take count left piece (omega arith);
      few = omega arith;
      within = omega arith;
      size = length-take-le count cut l;
    }

pub cut-some : {left : ℕ} (piece : List ℕ) {cut : List ℕ} → cut ≡ take left piece → 0 < left → 0 < length piece → 0 < length cut
cut-some {left} piece e l some = omega (arith, ap length e ∙ length-take left piece)

pub fed-of : {wanted : Wanted} {v : Reading} {bytes : List ℕ} (piece : List ℕ) {cut : List ℕ} {lx : Passing} {k : ℕ} {hs : List Said} → Running wanted v bytes →
    Taken (v.limits.bytes - v.taken) piece cut k → 0 < k → Lexes lx (bytes ++ take k cut) → first_long (tokens (bytes ++ take k cut)) ≡ None →
    settled (bytes ++ take k cut) ≡ settled bytes ++ hs → Fed v lx bytes (bytes ++ take k piece) k hs
fed-of {v} {bytes} piece {lx} {k} s t some l n e =
    let few : k ≤ v.limits.bytes - v.taken = t.few in
    let total : length (bytes ++ take k piece) ≡ length bytes + k =
    length-append bytes (take k piece) ∙ ap (λ i. length bytes + i) (length-take-le k piece t.within) in
    record {
      lexes = subst (λ xs. Lexes lx (bytes ++ xs)) t.same l;
      short = ap (λ xs. first_long (tokens (bytes ++ xs))) (sym t.same) ∙ n;
      settles = ap (λ xs. settled (bytes ++ xs)) (sym t.same) ∙ e;
      len = total;
      some = some;
      within = omega (arith, s.taken, s.within, total);
    }

pub before-last : {wanted : Wanted} {v : Reading} {bytes : List ℕ} (piece : List ℕ) {cut : List ℕ} {k : ℕ} → Running wanted v bytes →
    Taken (v.limits.bytes - v.taken) piece cut k → length (bytes ++ take (k - 1) piece) ≤ v.limits.bytes
before-last {v} {bytes} piece {k} s t =
    let few : k ≤ v.limits.bytes - v.taken = t.few in
    omega (arith, s.taken, s.within, length-append bytes (take (k - 1) piece), length-take (k - 1) piece)

pub room-for : {wanted : Wanted} {v : Reading} {bytes : List ℕ} (piece : List ℕ) {cut : List ℕ} → Running wanted v bytes →
    cut ≡ take (v.limits.bytes - v.taken) piece → v.limits.bytes < 2 ^ 64 → length bytes + length cut < 2 ^ 64
room-for {v} piece {cut} s e l = omega (arith, s.taken, s.within, ap length e ∙ length-take (v.limits.bytes - v.taken) piece)

-- Some bytes behind those that were taken decide a fault, and complete no row.
pub record Breaks (wanted : Wanted) (v : Reading) (bytes front : List ℕ) (f : VcdFault) (old new : List Row) : Type 0 where
  pub fault : (so_far wanted v.limits (bytes ++ front)).fault ≡ Some f
  pub shown : shown v.stage ≡ shown_at (so_far wanted v.limits (bytes ++ front)).place
  pub pushes : Pushes (done wanted v.limits bytes) (done wanted v.limits (bytes ++ front)) old new

pub stopped-further : (wanted : Wanted) (v : Reading) (f : VcdFault) (bytes more : List ℕ) → Stopped wanted v f bytes → Stopped wanted v f (bytes ++ more)
stopped-further wanted v f bytes more s = record {
  fault = so_far-further wanted v.limits bytes more f s.fault;
  shown = s.shown ∙ sym (ap (λ (x : Story). shown_at x.place) (so_far-stays wanted v.limits bytes more f s.fault));
}

-- bytes from the front of a piece decide a fault
pub record BreaksIn (wanted : Wanted) (v : Reading) (bytes piece : List ℕ) (f : VcdFault) (rows : List Row) : Type 0 where
  pub front : List ℕ
  pub back : List ℕ
  pub is_front : piece ≡ front ++ back
  pub breaks : Breaks wanted v bytes front f rows rows

pub breaks-in : {wanted : Wanted} {v : Reading} {bytes : List ℕ} (piece : List ℕ) {f : VcdFault} {rows : List Row} (n : ℕ) →
    Breaks wanted v bytes (take n piece) f rows rows → BreaksIn wanted v bytes piece f rows
breaks-in piece n b = record { front = take n piece; back = drop n piece; is_front = sym (take-append-drop n piece); breaks = b }

pub breaks-whole : {wanted : Wanted} {v : Reading} {bytes piece : List ℕ} {f : VcdFault} {rows : List Row} →
    Breaks wanted v bytes piece f rows rows → BreaksIn wanted v bytes piece f rows
breaks-whole {piece} b = record { front = piece; back = []; is_front = sym (append-nil piece); breaks = b }

stopped-of : {wanted : Wanted} {v new : Reading} {bytes piece : List ℕ} {f : VcdFault} {rows : List Row} → new.limits ≡ v.limits →
    shown new.stage ≡ shown v.stage → BreaksIn wanted v bytes piece f rows → Stopped wanted new f (bytes ++ piece)
stopped-of {wanted} {new} {bytes} {f} l h b =
    subst (λ xs. Stopped wanted new f xs) (append_assoc bytes b.front b.back ∙ ap (λ xs. bytes ++ xs) (sym b.is_front))
    (stopped-further wanted new f (bytes ++ b.front) b.back (record {
      fault = ap (λ x. (so_far wanted x (bytes ++ b.front)).fault) l ∙ b.breaks.fault;
      shown = h ∙ b.breaks.shown ∙ sym (ap (λ x. shown_at (so_far wanted x (bytes ++ b.front)).place) l);
    }))

-- a reader that stops there
pub stops-of : {v new : Reading} {piece : List ℕ} {f : VcdFault} {before after : RowList} →
    Caused f ((wanted : Wanted) (bytes : List ℕ) → StandsFor wanted v bytes → BreaksIn wanted v bytes piece f before.rows) →
    new.fault ≡ Some f → new.limits ≡ v.limits → shown new.stage ≡ shown v.stage → after ≡ before → (is_body v.stage ≡ true → NotMemory f) →
    Stops v new piece f before after
stops-of {v} {new} {piece} {f} {before} h e l shows same calm = record {
  decides = caused-map f (λ b. λ wanted bytes t.
      let k = b wanted bytes t in
      record {
        front = k.front;
        back = k.back;
        is_front = k.is_front;
        fault = k.breaks.fault;
        pushes = subst (λ (out : RowList). Pushes (done wanted v.limits bytes) (done wanted v.limits (bytes ++ k.front)) before.rows out.rows)
            (sym same) k.breaks.pushes;
      }) h;
  calm = calm;
  fault = e;
  limits = l;
  unpushed = same;
  shows = shows;
  still = λ wanted bytes t. stands-stopped wanted new f (bytes ++ piece) e (caused-map f (λ b. stopped-of l shows (b wanted bytes t)) h);
}

-- The limit is reached.

so_far-over : (wanted : Wanted) (v : Reading) (bytes piece : List ℕ) → Running wanted v bytes → v.limits.bytes - v.taken ≡ 0 → 0 < length piece
    → so_far wanted v.limits (bytes ++ piece) ≡ decides (story wanted v.limits (settled bytes)) (Some (faults.TooLong v.limits.bytes))
unfolding so_far
so_far-over wanted v bytes piece s h some =
    let n : v.limits.bytes ≡ length bytes = omega (arith, s.taken, s.within) in
    let over : nat_lt v.limits.bytes (length (bytes ++ piece)) ≡ true = lt-ltb _ _ (omega (arith, length-append bytes piece, n)) in
    let cut : take v.limits.bytes (bytes ++ piece) ≡ bytes = ap (λ k. take k (bytes ++ piece)) n ∙ take-append_seam bytes piece in
    rw (over, cut) refl

pub over-breaks : (wanted : Wanted) (v : Reading) (bytes piece : List ℕ) (rows : List Row) → Running wanted v bytes → v.limits.bytes - v.taken ≡ 0
    → 0 < length piece → Breaks wanted v bytes piece (faults.TooLong v.limits.bytes) rows rows
unfolding done
over-breaks wanted v bytes piece rows s h some =
    let e = so_far-over wanted v bytes piece s h some in
    record {
      fault = ap (λ (x : Story). x.fault) e ∙ ap (λ (o : Option VcdFault). option_or o (Some (faults.TooLong v.limits.bytes)))
          (no-fault wanted v.limits v.stage (story wanted v.limits (settled bytes)) s.pictures);
      shown = same-shown wanted v.limits v.stage (story wanted v.limits (settled bytes)) s.pictures ∙ sym (ap (λ (x : Story). shown_at x.place) e);
      pushes = record {
        pushed = [];
        rows = ap complete e ∙ sym (done-within wanted v.limits bytes s.within) ∙ sym (append-nil (done wanted v.limits bytes));
        block = sym (append-nil rows);
      };
    }

-- A token is too long.

long-next : (wanted : Wanted) (limits : Limits) (st : Story) (at : ℕ) → st.fault ≡ None
    → next wanted limits st (too_long at) ≡ record { changes = st.changes; place = st.place; fault = Some (faults.TokenTooLong at) }
unfolding says
long-next wanted limits st at e = ap (λ (o : Option VcdFault). Rattle.ccsl_vcd.specs.Reading.next_from wanted limits st.changes st.place o (too_long at)) e

pub long-breaks : (wanted : Wanted) (v : Reading) (bytes piece cut : List ℕ) (at : ℕ) (rows : List Row) → Running wanted v bytes →
    cut ≡ take (v.limits.bytes - v.taken) piece → (b : lexer.BreaksWithin bytes cut at) →
    Breaks wanted v bytes (take (b.taken + 1) piece) (faults.TokenTooLong at) rows rows
long-breaks wanted v bytes piece cut at rows s f b =
    let k : ℕ = b.taken + 1 in
    let inside : b.taken < length cut = b.within in
    let t = taken piece k f (omega arith) in
    let few : k ≤ v.limits.bytes - v.taken = t.few in
    let same : take k cut ≡ take k piece = t.same in
    let fits : length (bytes ++ take k piece) ≤ v.limits.bytes = omega (arith, s.taken, s.within, length-append bytes (take k piece), length-take k piece) in
    let st : Story = story wanted v.limits (settled bytes) in
    let none : st.fault ≡ None = no-fault wanted v.limits v.stage st s.pictures in
    let told : so_far wanted v.limits (bytes ++ take k piece) ≡ record { changes = st.changes; place = st.place; fault = Some (faults.TokenTooLong at) } =
    so_far-within wanted v.limits (bytes ++ take k piece) fits ∙ ap (λ xs. story wanted v.limits (settled (bytes ++ xs))) (sym same)
    ∙ ap (story wanted v.limits) b.broke
    ∙ story-more wanted v.limits (settled bytes) (too_long at ∷ []) ∙ long-next wanted v.limits st at none in
    record {
      fault = ap (λ (x : Story). x.fault) told;
      shown = same-shown wanted v.limits v.stage st s.pictures ∙ sym (ap (λ (x : Story). shown_at x.place) told);
      pushes = record {
        pushed = [];
        rows = done-told wanted v.limits (bytes ++ take k piece) _ told ∙ sym (done-within wanted v.limits bytes s.within)
            ∙ sym (append-nil (done wanted v.limits bytes));
        block = sym (append-nil rows);
      };
    }

-- a reader that runs, by its fields
pub enter : (wanted : Wanted) (v w : Reading) (bytes : List ℕ) → v ≡ w → w.fault ≡ None → StandsFor wanted w bytes → Running wanted v bytes
enter wanted v w bytes e n s = running-of wanted v bytes (ap (λ (x : Reading). x.fault) e ∙ n) (subst (λ (x : Reading). StandsFor wanted x bytes) (sym e) s)

fits-few : (b : Bool) (rows taken : ℕ) → FewRows b rows taken → taken < 2 ^ 64 → rows + 1 < 2 ^ 64
fits-few false rows taken h t = omega arith
fits-few true rows taken h t = omega arith

pub rows-fit : (wanted : Wanted) (v : Reading) (bytes : List ℕ) → Running wanted v bytes → v.taken < 2 ^ 64 → v.rows + 1 < 2 ^ 64
rows-fit wanted v bytes s t = fits-few (is_body v.stage) v.rows v.taken s.few t

-- A token is refused.
pub refused-breaks : (wanted : Wanted) (v : Reading) (lx : Passing) (bytes piece : List ℕ) (k at : ℕ) (text : List ℕ) (s : Running wanted v bytes)
    (f : Fed v lx bytes (bytes ++ take k piece) k (word (token at text) ∷ [])) (g : VcdFault) (rows : List Row) →
    Refuses g (story wanted v.limits (settled bytes)) (next wanted v.limits (story wanted v.limits (settled bytes)) (word (token at text))) →
    Breaks wanted v bytes (take k piece) g rows rows
refused-breaks wanted v lx bytes piece k at text s f g rows r = record {
  fault = word-fault wanted v lx bytes (bytes ++ take k piece) k at text s f g r;
  shown = word-shown wanted v lx bytes (bytes ++ take k piece) k at text s f g r;
  pushes = refused-pushes wanted v lx bytes (bytes ++ take k piece) k at text s f g rows r;
}
