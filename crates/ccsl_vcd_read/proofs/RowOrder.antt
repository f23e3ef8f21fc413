-- The rows of every text are in order.
use Rattle.std.proofs.Common.{◌≡◌, ◌≢◌, ℕ, ◌≤◌, ◌<◌, List, [], ◌∷◌, ◌++◌, Bool, true, false, Option, Some, None, nat_eq, nat_lt, cond, filter, map, refl, sym}
use Rattle.std.proofs.Common.{◌∙◌, subst, append_assoc, length, take, arith}
use Rattle.std.specs.Prelude.{fold, bytes_eq, codes}
use Rattle.std.specs.List.{list_all, AllByRecursion}
use Rattle.std.proofs.lemmas.Bool.{and_parts, lt-ltb, ltb-false, eq-eqb}
use Rattle.std.proofs.lemmas.List.{append-nil}
use Rattle.ccsl_base.specs.declared.rows.Row.{Row}
use Rattle.ccsl_vcd_lex.specs.Tokens.{Token, Heard, word, too_long, settled, heard}
use Rattle.ccsl_vcd.specs.declared.fault.VcdFault.{VcdFault}
use Rattle.ccsl_vcd.specs.declared.fault.VcdFault.TheVariants as faults
use Rattle.ccsl_vcd.specs.declared.limits.Limits.{Limits}
use Rattle.ccsl_vcd.specs.Binding.{Wanted, Bound}
use Rattle.ccsl_vcd.specs.Places as p
use Rattle.ccsl_vcd.specs.Header as d
use Rattle.ccsl_vcd.specs.Words as w
use Rattle.ccsl_vcd.specs.Body.{is_declared, changed, change_says, body_says}
use Rattle.ccsl_vcd.specs.Reading.{says, Story, told, next_from, next, begin, story, decides, is_over, so_far, ends_at, reading}
use Rattle.ccsl_vcd.specs.Rows.{put_time, times, row_at, rows, rows_of, has_ticks, bound_at, recorded}
use Rattle.ccsl_vcd.specs.Completed.{now_at, is_before, done}
use Rattle.ccsl_vcd.proofs.Quiet.{Quiet, header-quiet}
use Rattle.ccsl_vcd_read.specs.Order.{ascend, AreInOrder}

-- Changes whose times do not fall, up to a time.

abbrev NotFalling : List p.Change → Type 0
NotFalling [] = Unit {0}
NotFalling (c ∷ cs) = AllByRecursion (λ e. c.time ≤ e.time) cs × NotFalling cs

all-one : (P : p.Change → Type 0) (cs : List p.Change) (c : p.Change) → AllByRecursion P cs → P c → AllByRecursion P (cs ++ c ∷ [])
all-one P [] c h k = (k, tt)
all-one P (e ∷ cs) c h k = (h.0, all-one P cs c h.1 k)

up-to : (n m : ℕ) (cs : List p.Change) → n ≤ m → AllByRecursion (λ c. c.time ≤ n) cs → AllByRecursion (λ c. c.time ≤ m) cs
up-to n m [] l h = tt
up-to n m (c ∷ cs) l h = (omega (arith, l, h.0), up-to n m cs l h.1)

one-more : (cs : List p.Change) (c : p.Change) → NotFalling cs → AllByRecursion (λ e. e.time ≤ c.time) cs → NotFalling (cs ++ c ∷ [])
one-more [] c f u = (tt, tt)
one-more (e ∷ cs) c f u = (all-one (λ x. e.time ≤ x.time) cs c f.0 u.0, one-more cs c f.1 u.1)

-- Their times, each once, rise.

abbrev Rises : List ℕ → Type 0
Rises [] = Unit {0}
Rises (t ∷ ts) = AllByRecursion (λ u. t < u) ts × Rises ts

put-least : (t n : ℕ) (us : List ℕ) → t ≤ n → AllByRecursion (λ u. t ≤ u) us → AllByRecursion (λ u. t ≤ u) (put_time n us)
put-least t n [] l h = (l, tt)
put-least t n (u ∷ us) l h = elim (nat_eq u n) as (λ b. AllByRecursion (λ x. t ≤ x) (cond b (u ∷ us) (n ∷ u ∷ us))) [ true ↦ h | false ↦ (l, h) ]

least-times : (t : ℕ) (cs : List p.Change) → AllByRecursion (λ c. t ≤ c.time) cs → AllByRecursion (λ u. t ≤ u) (times cs)
least-times t [] h = tt
least-times t (c ∷ cs) h = put-least t c.time (times cs) h.0 (least-times t cs h.1)

above-first : (t u : ℕ) (us : List ℕ) → t < u → AllByRecursion (λ x. u < x) us → AllByRecursion (λ x. t < x) us
above-first t u [] l h = tt
above-first t u (x ∷ us) l h = (omega (arith, l, h.0), above-first t u us l h.1)

put-rises : (n : ℕ) (us : List ℕ) → AllByRecursion (λ u. n ≤ u) us → Rises us → Rises (put_time n us)
put-rises n [] h r = (tt, tt)
put-rises n (u ∷ us) h r = (elim (nat_eq u n) as (λ b. nat_eq u n ≡ b → Rises (cond b (u ∷ us) (n ∷ u ∷ us))) [
  | true ↦ λ e. r
  | false ↦ λ e.
      let other : u ≢ n = λ q. let no : true ≡ false = sym (eq-eqb u n q) ∙ e in absurd (cc) in
      let l : n < u = omega (arith, h.0, other) in
      ((l, above-first n u us l r.0), r)
]) refl

times-rise : (cs : List p.Change) → NotFalling cs → Rises (times cs)
times-rise [] f = tt
times-rise (c ∷ cs) f = put-rises c.time (times cs) (least-times c.time cs f.0) (times-rise cs f.1)

-- So do those of the rows.

later-rows : (t : ℕ) (q : Row → Bool) (f : ℕ → Row) (ts : List ℕ) → ((u : ℕ) → (f u).time ≡ u) → AllByRecursion (λ u. t < u) ts
    → list_all (λ r. nat_lt t r.time) (filter q (map f ts)) ≡ true
later-rows t q f [] same h = refl
later-rows t q f (u ∷ ts) same h =
    let ih = later-rows t q f ts same h.1 in
    elim (q (f u)) as (λ b. list_all (λ r. nat_lt t r.time) (cond b (f u ∷ filter q (map f ts)) (filter q (map f ts))) ≡ true) [
      | true ↦ rw (same u, lt-ltb t u h.0) ih
      | false ↦ ih
    ]

rows-ascend : (q : Row → Bool) (f : ℕ → Row) (ts : List ℕ) → ((u : ℕ) → (f u).time ≡ u) → Rises ts → ascend (filter q (map f ts)) ≡ true
rows-ascend q f [] same r = refl
rows-ascend q f (t ∷ ts) same r =
    let ih = rows-ascend q f ts same r.1 in
    elim (q (f t)) as (λ b. ascend (cond b (f t ∷ filter q (map f ts)) (filter q (map f ts))) ≡ true) [
      | true ↦ rw (same t, later-rows t q f ts same r.0) ih
      | false ↦ ih
    ]

filter-all : (q s : Row → Bool) (rs : List Row) → list_all s rs ≡ true → list_all s (filter q rs) ≡ true
filter-all q s [] h = refl
filter-all q s (r ∷ rs) h =
    let k = and_parts (s r) (list_all s rs) h in
    let ih = filter-all q s rs k.1 in
    elim (q r) as (λ b. list_all s (cond b (r ∷ filter q rs) (filter q rs)) ≡ true) [ true ↦ rw k.0 ih | false ↦ ih ]

filter-ascends : (q : Row → Bool) (rs : List Row) → ascend rs ≡ true → ascend (filter q rs) ≡ true
filter-ascends q [] h = refl
filter-ascends q (r ∷ rs) h =
    let k = and_parts (list_all (λ x. nat_lt r.time x.time) rs) (ascend rs) h in
    let ih = filter-ascends q rs k.1 in
    elim (q r) as (λ b. ascend (cond b (r ∷ filter q rs) (filter q rs)) ≡ true) [
      | true ↦ rw (filter-all q (λ x. nat_lt r.time x.time) rs k.0) ih
      | false ↦ ih
    ]

filtered : (q : Row → Bool) (rs : List Row) → list_all q (filter q rs) ≡ true
filtered q [] = refl
filtered q (r ∷ rs) =
    let ih = filtered q rs in
    (elim (q r) as (λ b. q r ≡ b → list_all q (cond b (r ∷ filter q rs) (filter q rs)) ≡ true) [ true ↦ λ e. rw e ih | false ↦ λ e. ih ]) refl

rows-in-order : (bound : List Bound) (cs : List p.Change) → NotFalling cs → AreInOrder (rows bound cs)
unfolding rows
rows-in-order bound cs f = record {
  ascending = rows-ascend has_ticks (row_at bound cs) (times cs) (λ u. refl) (times-rise cs f);
  ticking = filtered has_ticks (map (row_at bound cs) (times cs));
}

filter-in-order : (q : Row → Bool) (rs : List Row) → AreInOrder rs → AreInOrder (filter q rs)
filter-in-order q rs o = record { ascending = filter-ascends q rs o.ascending; ticking = filter-all q has_ticks rs o.ticking }

-- A token makes at most one change, at the present time, and the time does not fall.

abbrev Steps : ℕ → p.Said → Type 0
Steps n (p.goes v ds) = (n ≤ now_at v) × AllByRecursion (λ c. c.time ≡ now_at v) ds
Steps n (p.refused f) = Unit {0}

-- in the header it makes none
quiet-steps : (s : p.Said) → Quiet s → Steps 0 s
quiet-steps (p.goes v []) q = (omega arith, tt)
quiet-steps (p.goes v (c ∷ ds)) q = absurd (let e : c ∷ ds ≡ [] = q in cc)
quiet-steps (p.refused f) q = tt

same-time : (n : ℕ) → (n ≤ n) × Unit {0}
same-time n = (omega arith, tt)

changed-steps : (b : p.Body) (t : Token) (code : List ℕ) (one : Bool) → Steps b.now (changed b t code one)
changed-steps b t code one =
    elim (is_declared b.declared code) as (λ x. Steps b.now
    (cond x (p.goes (p.body (record b { amid = p.changes })) (record { time = b.now; code = code; one = one; dumped = b.dumping } ∷ []))
    (p.refused (faults.UnknownCode t.at)))) [
      | true ↦ (omega arith, (refl, tt))
      | false ↦ tt
    ]

either-steps : (b : p.Body) (x : Bool) (r s : p.Said) → Steps b.now r → Steps b.now s → Steps b.now (cond x r s)
either-steps b true r s h k = h
either-steps b false r s h k = k

change-steps : (b : p.Body) (t : Token) (x : w.Word) → Steps b.now (change_says b t x)
change-steps b t (w.time n) =
    (elim (nat_lt n b.now) as (λ y. nat_lt n b.now ≡ y
    → Steps b.now (cond y (p.refused (faults.TimeBack t.at b.now n)) (p.goes (p.body (record b { now = n })) []))) [
      | true ↦ λ e. tt
      | false ↦ λ e. (ltb-false n b.now e, tt)
    ]) refl
change-steps b t (w.scalar one code) = changed-steps b t code one
change-steps b t (w.vector one) = same-time b.now
change-steps b t w.skipped = same-time b.now
change-steps b t w.comment = same-time b.now
change-steps b t w.dump = either-steps b b.dumping _ _ tt (same-time b.now)
change-steps b t w.gap = either-steps b b.dumping _ _ tt tt
change-steps b t w.close = either-steps b b.dumping _ _ (same-time b.now) tt
change-steps b t w.bad_time = tt
change-steps b t w.bad_change = tt
change-steps b t w.unknown = tt

body-steps : (b : p.Body) (t : Token) (a : p.Amid) → Steps b.now (body_says b t a)
body-steps b t p.changes = change-steps b t (w.word_of t.text)
body-steps b t p.remark = either-steps b (bytes_eq t.text (codes "$end")) _ _ (same-time b.now) (same-time b.now)
body-steps b t (p.code_of one) = changed-steps b t t.text one
body-steps b t p.code_skipped = either-steps b (is_declared b.declared t.text) _ _ (same-time b.now) tt

says-steps : (wanted : Wanted) (l : Limits) (v : p.Where) (h : Heard) → Steps (now_at v) (says wanted l v h)
unfolding says
says-steps wanted l v (too_long at) = tt
says-steps wanted l (p.header h) (word t) = quiet-steps (d.header_says wanted l h t h.among) (header-quiet wanted l h t h.among)
says-steps wanted l (p.body b) (word t) = body-steps b t b.amid

-- A story whose changes do not fall, up to its present time.

record Orderly (cs : List p.Change) (v : p.Where) : Type 0 where
  pub falls : NotFalling cs
  pub within : AllByRecursion (λ c. c.time ≤ now_at v) cs

told-orderly : (cs : List p.Change) (v : p.Where) (s : p.Said) → Orderly cs v → Steps (now_at v) s → Orderly (told cs v s).changes (told cs v s).place
told-orderly cs v (p.refused f) o s = o
told-orderly cs v (p.goes u ds) o s = grow cs ds o.falls (up-to (now_at v) (now_at u) cs s.0 o.within) s.1
  where
    grow : (xs es : List p.Change) → NotFalling xs → AllByRecursion (λ c. c.time ≤ now_at u) xs → AllByRecursion (λ c. c.time ≡ now_at u) es
        → Orderly (xs ++ es) u
    grow xs [] f k e = subst (λ ys. Orderly ys u) (sym (append-nil xs)) (record { falls = f; within = k })
    grow xs (c ∷ es) f k e =
        let low : AllByRecursion (λ x. x.time ≤ c.time) xs = up-to (now_at u) c.time xs (omega (arith, e.0)) k in
        subst (λ ys. Orderly ys u) (append_assoc xs (c ∷ []) es)
        (grow (xs ++ c ∷ []) es (one-more xs c f low) (all-one (λ x. x.time ≤ now_at u) xs c k (omega (arith, e.0))) e.1)

next-orderly : (wanted : Wanted) (l : Limits) (cs : List p.Change) (v : p.Where) (o : Option VcdFault) (h : Heard) → Orderly cs v
    → Orderly (next_from wanted l cs v o h).changes (next_from wanted l cs v o h).place
next-orderly wanted l cs v None h k = told-orderly cs v (says wanted l v h) k (says-steps wanted l v h)
next-orderly wanted l cs v (Some f) h k = k

fold-orderly : (wanted : Wanted) (l : Limits) (s : Story) (hs : List Heard) → Orderly s.changes s.place
    → Orderly (fold (next wanted l) s hs).changes (fold (next wanted l) s hs).place
fold-orderly wanted l s [] k = k
fold-orderly wanted l s (h ∷ hs) k = fold-orderly wanted l (next wanted l s h) hs (next-orderly wanted l s.changes s.place s.fault h k)

story-orderly : (wanted : Wanted) (l : Limits) (hs : List Heard) → Orderly (story wanted l hs).changes (story wanted l hs).place
story-orderly wanted l hs = fold-orderly wanted l begin hs (record { falls = tt; within = tt })

so-far-orderly : (wanted : Wanted) (l : Limits) (bytes : List ℕ) → Orderly (so_far wanted l bytes).changes (so_far wanted l bytes).place
unfolding so_far
so-far-orderly wanted l bytes =
    let over : Story = decides (story wanted l (settled (take l.bytes bytes))) (Some (faults.TooLong l.bytes)) in
    let rest : Story = story wanted l (settled bytes) in
    elim (is_over l bytes) as (λ b. Orderly (cond b over rest).changes (cond b over rest).place) [
      | true ↦ story-orderly wanted l (settled (take l.bytes bytes))
      | false ↦ story-orderly wanted l (settled bytes)
    ]

reading-orderly : (wanted : Wanted) (l : Limits) (file : List ℕ) → Orderly (reading wanted l file).changes (reading wanted l file).place
unfolding reading
reading-orderly wanted l file =
    let over : Story = so_far wanted l file in
    let rest : Story = ends_at (length file) (story wanted l (heard file)) in
    elim (is_over l file) as (λ b. Orderly (cond b over rest).changes (cond b over rest).place) [
      | true ↦ so-far-orderly wanted l file
      | false ↦ story-orderly wanted l (heard file)
    ]

pub recorded-in-order : (wanted : Wanted) (l : Limits) (file : List ℕ) → AreInOrder (recorded wanted l file)
unfolding recorded
recorded-in-order wanted l file = rows-in-order (bound_at (reading wanted l file).place) (reading wanted l file).changes (reading-orderly wanted l file).falls

pub done-in-order : (wanted : Wanted) (l : Limits) (bytes : List ℕ) → AreInOrder (done wanted l bytes)
unfolding done
done-in-order wanted l bytes =
    filter-in-order (is_before (now_at (so_far wanted l bytes).place)) (rows_of (so_far wanted l bytes))
    (rows-in-order (bound_at (so_far wanted l bytes).place) (so_far wanted l bytes).changes (so-far-orderly wanted l bytes).falls)
