-- Once the clocks are bound they stay so, and before there are no rows.
use Rattle.std.proofs.Common.{◌≡◌, ℕ, ◌≤◌, ◌<◌, ◌^◌, List, [], ◌∷◌, ◌++◌, length, Bool, true, false, cond, nat_lt, Option, Some, None, map, filter, refl, sym}
use Rattle.std.proofs.Common.{ap, ◌∙◌, subst, arith}
use Rattle.std.specs.Prelude.{fold, is_some, bytes_eq, codes}
use Rattle.std.proofs.lemmas.List.{append-nil}
use Rattle.std.specs.Option.{option_or}
use Rattle.ccsl_vcd_lex.specs.Tokens.{Token, Heard, word, too_long, tokens_from, settled, heard}
use Rattle.ccsl_vcd_lex.proofs.Further.{settled-further, heard-further}
use Rattle.ccsl_vcd.specs.declared.fault.VcdFault.{VcdFault}
use Rattle.ccsl_vcd.specs.declared.fault.VcdFault.TheVariants as faults
use Rattle.ccsl_vcd.specs.declared.limits.Limits.{Limits}
use Rattle.ccsl_vcd.specs.Binding.{Wanted}
use Rattle.ccsl_vcd.specs.Words as w
use Rattle.ccsl_vcd.specs.Places as p
use Rattle.ccsl_vcd.specs.Body.{is_declared, changed, change_says, body_says}
use Rattle.ccsl_vcd.specs.Reading.{may_end, Story, says, told, next, next_from, story, so_far, reading}
use Rattle.ccsl_vcd.specs.Rows.{times, rows, rows_of, bound_at}
use Rattle.ccsl_vcd.specs.Completed.{now_at, is_before, done}
use Rattle.ccsl_vcd.proofs.Decided.{story-more, story-sticks}
use Rattle.ccsl_vcd_read.specs.Staging.{shown_at}
use Rattle.ccsl_vcd_read.specs.Reading.{Reading, FewRows, Running, is_past, past_header}
use Rattle.ccsl_vcd_read.proofs.Taking.{so_far-within, done-within}
use Rattle.ccsl_trace.specs.HeaderEnd.{is_body}
use Rattle.ccsl_vcd_read.proofs.Ending.{reading-within}
use Rattle.ccsl_vcd_read.proofs.Wanting.{no-rows}

-- the clocks that some bytes bind, once they have ended the header
abbrev pub bound_by : Wanted → Limits → List ℕ → Option (List ℕ)
bound_by wanted limits bytes = shown_at (so_far wanted limits bytes).place

-- a token of a body leaves the bound clocks as they are
abbrev Keeps : Option (List ℕ) → p.Said → Type 0
Keeps bound (p.goes v ds) = shown_at v ≡ bound
Keeps bound (p.refused f) = Unit {0}

keeps-changed : (b : p.Body) (t : Token) (code : List ℕ) (one : Bool) → Keeps (shown_at (p.body b)) (changed b t code one)
keeps-changed b t code one =
    elim (is_declared b.declared code) as (λ v. Keeps (shown_at (p.body b))
    (cond v (p.goes (p.body (record b { amid = p.changes })) (record { time = b.now; code = code; one = one; dumped = b.dumping } ∷ []))
    (p.refused (faults.UnknownCode t.at)))) [ true ↦ refl | false ↦ tt ]

keeps-change : (b : p.Body) (t : Token) (x : w.Word) → Keeps (shown_at (p.body b)) (change_says b t x)
keeps-change b t (w.time n) =
    elim (nat_lt n b.now) as (λ v. Keeps (shown_at (p.body b))
    (cond v (p.refused (faults.TimeBack t.at b.now n)) (p.goes (p.body (record b { now = n })) []))) [ true ↦ tt | false ↦ refl ]
keeps-change b t (w.scalar one code) = keeps-changed b t code one
keeps-change b t (w.vector one) = refl
keeps-change b t w.skipped = refl
keeps-change b t w.comment = refl
keeps-change b t w.dump =
    elim b.dumping as (λ v. Keeps (shown_at (p.body b)) (cond v (p.refused (faults.UnknownCommand t.at)) (p.goes (p.body (record b { dumping = true })) []))) [
      | true ↦ tt
      | false ↦ refl
    ]
keeps-change b t w.gap =
    elim b.dumping as (λ v. Keeps (shown_at (p.body b)) (cond v (p.refused (faults.UnknownCommand t.at)) (p.refused (faults.Gap t.at)))) [
      | true ↦ tt
      | false ↦ tt
    ]
keeps-change b t w.close =
    elim b.dumping as (λ v. Keeps (shown_at (p.body b)) (cond v (p.goes (p.body (record b { dumping = false })) []) (p.refused (faults.UnknownCommand t.at)))) [
      | true ↦ refl
      | false ↦ tt
    ]
keeps-change b t w.bad_time = tt
keeps-change b t w.bad_change = tt
keeps-change b t w.unknown = tt

keeps-body : (b : p.Body) (t : Token) (a : p.Amid) → Keeps (shown_at (p.body b)) (body_says b t a)
keeps-body b t p.changes = keeps-change b t (w.word_of t.text)
keeps-body b t p.remark =
    elim (bytes_eq t.text (codes "$end")) as (λ v. Keeps (shown_at (p.body b))
    (cond v (p.goes (p.body (record b { amid = p.changes })) []) (p.goes (p.body b) []))) [ true ↦ refl | false ↦ refl ]
keeps-body b t (p.code_of one) = keeps-changed b t t.text one
keeps-body b t p.code_skipped =
    elim (is_declared b.declared t.text) as (λ v. Keeps (shown_at (p.body b))
    (cond v (p.goes (p.body (record b { amid = p.changes })) []) (p.refused (faults.UnknownCode t.at)))) [ true ↦ refl | false ↦ tt ]

says-keeps : (wanted : Wanted) (l : Limits) (v : p.Where) (h : Heard) (bound : List ℕ) → shown_at v ≡ Some bound → Keeps (Some bound) (says wanted l v h)
unfolding says
says-keeps wanted l (p.header hd) h bound e = absurd (cc)
says-keeps wanted l (p.body b) (too_long at) bound e = tt
says-keeps wanted l (p.body b) (word t) bound e = subst (λ o. Keeps o (body_says b t b.amid)) e (keeps-body b t b.amid)

told-shown : (cs : List p.Change) (v : p.Where) (x : p.Said) (bound : List ℕ) → shown_at v ≡ Some bound → Keeps (Some bound) x
    → shown_at (told cs v x).place ≡ Some bound
told-shown cs v (p.goes u ds) bound e k = k
told-shown cs v (p.refused f) bound e k = e

next-shown : (wanted : Wanted) (l : Limits) (cs : List p.Change) (v : p.Where) (o : Option VcdFault) (h : Heard) (bound : List ℕ) → shown_at v ≡ Some bound
    → shown_at (next_from wanted l cs v o h).place ≡ Some bound
next-shown wanted l cs v None h bound e = told-shown cs v (says wanted l v h) bound e (says-keeps wanted l v h bound e)
next-shown wanted l cs v (Some f) h bound e = e

stays : (wanted : Wanted) (l : Limits) (s : Story) (hs : List Heard) (bound : List ℕ) → shown_at s.place ≡ Some bound
    → shown_at (fold (next wanted l) s hs).place ≡ Some bound
stays wanted l s [] bound e = e
stays wanted l s (h ∷ hs) bound e = stays wanted l (next wanted l s h) hs bound (next-shown wanted l s.changes s.place s.fault h bound e)

story-stays : (wanted : Wanted) (l : Limits) (xs ys : List Heard) (bound : List ℕ) → shown_at (story wanted l xs).place ≡ Some bound
    → shown_at (story wanted l (xs ++ ys)).place ≡ Some bound
story-stays wanted l xs ys bound e = ap (λ (s : Story). shown_at s.place) (story-more wanted l xs ys) ∙ stays wanted l (story wanted l xs) ys bound e

within-shown : (wanted : Wanted) (l : Limits) (bytes : List ℕ) → length bytes ≤ l.bytes
    → bound_by wanted l bytes ≡ shown_at (story wanted l (settled bytes)).place
within-shown wanted l bytes h = ap (λ (s : Story). shown_at s.place) (so_far-within wanted l bytes h)

pub bound-stays : (wanted : Wanted) (l : Limits) (a b bound : List ℕ) → length a ≤ l.bytes → length (a ++ b) ≤ l.bytes → bound_by wanted l a ≡ Some bound
    → bound_by wanted l (a ++ b) ≡ Some bound
bound-stays wanted l a b bound h k e =
    let r = settled-further a b in
    within-shown wanted l (a ++ b) k
    ∙ ap (λ hs. shown_at (story wanted l hs).place) r.1
    ∙ story-stays wanted l (settled a) r.0 bound (sym (within-shown wanted l a h) ∙ e)

-- the end of a trace leaves them so too
pub bound-read : (wanted : Wanted) (l : Limits) (bytes bound : List ℕ) → length bytes ≤ l.bytes → bound_by wanted l bytes ≡ Some bound
    → shown_at (reading wanted l bytes).place ≡ Some bound
bound-read wanted l bytes bound h e =
    let r = heard-further bytes [] in
    ap (λ (s : Story). shown_at s.place) (reading-within wanted l bytes h)
    ∙ ap (λ hs. shown_at (story wanted l hs).place) (ap heard (sym (append-nil bytes)) ∙ r.1)
    ∙ story-stays wanted l (settled bytes) r.0 bound (sym (within-shown wanted l bytes h) ∙ e)

pub past-shown : (v : p.Where) → is_past v ≡ is_some (shown_at v)
past-shown (p.header h) = refl
past-shown (p.body b) = refl

past-some : (v : p.Where) → is_past v ≡ true → (bound : List ℕ) × (shown_at v ≡ Some bound)
past-some (p.header h) e = absurd (cc)
past-some (p.body b) e = (map (λ c. c.clock) b.bound, refl)

pub past-stays : (wanted : Wanted) (l : Limits) (a b : List ℕ) → length a ≤ l.bytes → length (a ++ b) ≤ l.bytes → past_header wanted l a ≡ true
    → past_header wanted l (a ++ b) ≡ true
past-stays wanted l a b h k e =
    let s = past-some (so_far wanted l a).place e in
    past-shown (so_far wanted l (a ++ b)).place ∙ ap is_some (bound-stays wanted l a b s.0 h k s.1)

-- a body has begun where the clocks are bound
pub body-past : (v : p.Where) → is_body v ≡ is_past v
body-past (p.header h) = refl
body-past (p.body b) = refl

fault-stays : (wanted : Wanted) (l : Limits) (a b : List ℕ) (f : VcdFault) → length a ≤ l.bytes → length (a ++ b) ≤ l.bytes →
    (so_far wanted l a).fault ≡ Some f → (so_far wanted l (a ++ b)).fault ≡ Some f
fault-stays wanted l a b f h k e =
    let r = settled-further a b in
    let early : (story wanted l (settled a)).fault ≡ Some f = sym (ap (λ (s : Story). s.fault) (so_far-within wanted l a h)) ∙ e in
    ap (λ (s : Story). s.fault) (so_far-within wanted l (a ++ b) k)
    ∙ ap (λ hs. (story wanted l hs).fault) r.1
    ∙ ap (λ (s : Story). s.fault) (story-sticks wanted l (settled a) r.0 f early) ∙ early

-- where some bytes have no fault no front of them has one
pub none-before-none : (wanted : Wanted) (l : Limits) (a b : List ℕ) → length a ≤ l.bytes → length (a ++ b) ≤ l.bytes →
    (so_far wanted l (a ++ b)).fault ≡ None → (so_far wanted l a).fault ≡ None
none-before-none wanted l a b h k none = of-fault (so_far wanted l a).fault refl
  where
    of-fault : (o : Option VcdFault) → (so_far wanted l a).fault ≡ o → (so_far wanted l a).fault ≡ None
    of-fault None e = e
    of-fault (Some f) e = let clash : (let O : Option VcdFault = Some f in O) ≡ None = sym (fault-stays wanted l a b f h k e) ∙ none in absurd (cc)

pub clocks-shown : (v : p.Where) (bound : List ℕ) → shown_at v ≡ Some bound → map (λ b. b.clock) (bound_at v) ≡ bound
clocks-shown (p.header h) bound e = absurd (cc)
clocks-shown (p.body b) bound e = ap (λ (o : Option (List ℕ)). elim o [ None ↦ [] | Some x ↦ x ]) e

none-bound : (v : p.Where) → shown_at v ≡ None → bound_at v ≡ []
none-bound (p.header h) e = refl
none-bound (p.body b) e = absurd (cc)

rows-none : (s : Story) → shown_at s.place ≡ None → rows_of s ≡ []
unfolding rows
rows-none s e = ap (λ bound. rows bound s.changes) (none-bound s.place e) ∙ no-rows s.changes (times s.changes)

pub done-none : (wanted : Wanted) (l : Limits) (bytes : List ℕ) → length bytes ≤ l.bytes → bound_by wanted l bytes ≡ None → done wanted l bytes ≡ []
done-none wanted l bytes h e =
    let s = story wanted l (settled bytes) in
    done-within wanted l bytes h ∙ ap (λ rs. filter (is_before (now_at s.place)) rs) (rows-none s (sym (within-shown wanted l bytes h) ∙ e))

-- each row takes a byte
few-below : (b : Bool) (r t m : ℕ) → FewRows b r t → t ≤ m → m < 2 ^ 64 → r < 2 ^ 64
few-below true r t m f h k = omega arith
few-below false r t m f h k = omega arith

pub done-few : (wanted : Wanted) (v : Reading) (bytes : List ℕ) → Running wanted v bytes → v.limits.bytes < 2 ^ 64
    → length (done wanted v.limits bytes) < 2 ^ 64
done-few wanted v bytes s h =
    let e : length (done wanted v.limits bytes) ≡ v.rows = ap length (done-within wanted v.limits bytes s.within) ∙ sym s.rows in
    let f : v.rows < 2 ^ 64 =
    few-below (Rattle.ccsl_vcd_read.specs.Staging.is_body v.stage) v.rows v.taken v.limits.bytes s.few (omega (arith, s.taken, s.within)) h in
    omega (arith, e, f)

-- a trace that is read without a fault ends in the body
may-end-bound : (v : p.Where) → may_end v ≡ true → (bound : List ℕ) × (shown_at v ≡ Some bound)
may-end-bound (p.header h) e = absurd (cc)
may-end-bound (p.body b) e = (map (λ c. c.clock) b.bound, refl)

none-or : (o : Option VcdFault) (b : Bool) (f : VcdFault) → option_or o (cond b None (Some f)) ≡ None → b ≡ true
none-or None true f e = refl
none-or None false f e = absurd (cc)
none-or (Some g) b f e = absurd (cc)

pub read-bound : (wanted : Wanted) (l : Limits) (bytes : List ℕ) → length bytes ≤ l.bytes → (reading wanted l bytes).fault ≡ None
    → (bound : List ℕ) × (shown_at (reading wanted l bytes).place ≡ Some bound)
read-bound wanted l bytes h e =
    let s = story wanted l (heard bytes) in
    let w = reading-within wanted l bytes h in
    let may : may_end s.place ≡ true = none-or s.fault (may_end s.place) (faults.Truncated (length bytes)) (sym (ap (λ (x : Story). x.fault) w) ∙ e) in
    let b = may-end-bound s.place may in
    (b.0, ap (λ (x : Story). shown_at x.place) w ∙ b.1)

none-settled : settled [] ≡ []
unfolding tokens_from
none-settled = refl

pub bound-none : (wanted : Wanted) (l : Limits) → bound_by wanted l [] ≡ None
bound-none wanted l = within-shown wanted l [] (omega arith) ∙ ap (λ hs. shown_at (story wanted l hs).place) none-settled
