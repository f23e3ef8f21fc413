-- The rows of changes of which the last ones stand at the present time.
use Rattle.std.proofs.Common.{◌≡◌, ℕ, ◌≤◌, ◌<◌, List, [], ◌∷◌, ◌++◌, Bool, true, false, nat_lt, cond, refl, ap, ◌∙◌, arith, filter, map, nat_eq}
use Rattle.std.specs.List.{AllByRecursion}
use Rattle.std.proofs.lemmas.List.{append-nil, map-append}
use Rattle.std.proofs.lemmas.List.Elements.{filter-append}
use Rattle.std.proofs.lemmas.Grind.{common_steps}
use Rattle.std.proofs.lemmas.Bool.{lt-ltb, le-ltb, eq-eqb}
use Rattle.ccsl_vcd.specs.Binding.{Bound}
use Rattle.ccsl_vcd.specs.Places.{Change}
use Rattle.ccsl_base.specs.declared.rows.Row.{Row}
use Rattle.ccsl_vcd.specs.Rows.{row, row_at, rows, times, put_time, at, before, ticks, has_ticks}

abbrev pub Earlier : ℕ → List Change → Type 0
Earlier now cs = AllByRecursion (λ c. c.time < now) cs

abbrev pub Now : ℕ → List Change → Type 0
Now now cs = AllByRecursion (λ c. c.time ≡ now) cs

pub not-eq : (a b : ℕ) → a < b → nat_eq a b ≡ false
not-eq a b h = grind (arith, common_steps)

pub not-eq' : (a b : ℕ) → a < b → nat_eq b a ≡ false
not-eq' a b h = grind (arith, common_steps)

-- the time of the last changes
abbrev pub time_now : ℕ → List Change → List ℕ
time_now now [] = []
time_now now (c ∷ cs) = now ∷ []

put-now : (now : ℕ) (cs : List Change) → put_time now (time_now now cs) ≡ now ∷ []
put-now now [] = refl
put-now now (c ∷ cs) = rw (eq-eqb now now refl) refl

times-now : (now : ℕ) (cs : List Change) → Now now cs → times cs ≡ time_now now cs
times-now now [] h = refl
times-now now (c ∷ cs) h = rw (h.0, times-now now cs h.1) (put-now now cs)

put-before : (t now : ℕ) (us : List ℕ) (cs : List Change) → t < now → put_time t (us ++ time_now now cs) ≡ put_time t us ++ time_now now cs
put-before t now [] [] h = refl
put-before t now [] (c ∷ cs) h = rw (not-eq' t now h) refl
put-before t now (u ∷ us) cs h =
    elim (nat_eq u t) as (λ b. cond b (u ∷ (us ++ time_now now cs)) (t ∷ u ∷ (us ++ time_now now cs)) ≡ cond b (u ∷ us) (t ∷ u ∷ us)
    ++ time_now now cs) [ true ↦ refl | false ↦ refl ]

pub times-parts : (now : ℕ) (old cur : List Change) → Earlier now old → Now now cur → times (old ++ cur) ≡ times old ++ time_now now cur
times-parts now [] cur e n = times-now now cur n
times-parts now (c ∷ old) cur e n = ap (put_time c.time) (times-parts now old cur e.1 n) ∙ put-before c.time now (times old) cur e.0

abbrev Below : ℕ → List ℕ → Type 0
Below now ts = AllByRecursion (λ t. t < now) ts

put-below : (t now : ℕ) (us : List ℕ) → t < now → Below now us → Below now (put_time t us)
put-below t now [] h b = (h, tt)
put-below t now (u ∷ us) h b =
    elim (nat_eq u t) as (λ w. Below now (cond w (u ∷ us) (t ∷ u ∷ us))) [ true ↦ b | false ↦ (h, b) ]

times-below : (now : ℕ) (old : List Change) → Earlier now old → Below now (times old)
times-below now [] e = tt
times-below now (c ∷ old) e = put-below c.time now (times old) e.0 (times-below now old e.1)

-- an earlier time sees nothing of the last changes
at-earlier : (t now : ℕ) (cur : List Change) → t < now → Now now cur → at t cur ≡ []
at-earlier t now [] h n = refl
at-earlier t now (c ∷ cur) h n = rw (n.0, not-eq' t now h) (at-earlier t now cur h n.1)

before-earlier : (t now : ℕ) (cur : List Change) → t ≤ now → Now now cur → before t cur ≡ []
before-earlier t now [] h n = refl
before-earlier t now (c ∷ cur) h n = rw (n.0, le-ltb now t h) (before-earlier t now cur h n.1)

row-earlier : (bound : List Bound) (t now : ℕ) (old cur : List Change) → t < now → Now now cur → row_at bound (old ++ cur) t ≡ row_at bound old t
row-earlier bound t now old cur h n =
    let a : at t (old ++ cur) ≡ at t old =
    filter-append (λ c. nat_eq c.time t) old cur ∙ ap (λ (xs : List Change). at t old ++ xs) (at-earlier t now cur h n) ∙ append-nil (at t old) in
    let b : before t (old ++ cur) ≡ before t old =
    filter-append (λ c. nat_lt c.time t) old cur ∙ ap (λ (xs : List Change). before t old ++ xs) (before-earlier t now cur (omega arith) n)
    ∙ append-nil (before t old) in
    ap (λ (xs : List Change). row bound t xs (before t (old ++ cur))) a ∙ ap (λ (xs : List Change). row bound t (at t old) xs) b

rows-earlier : (bound : List Bound) (now : ℕ) (old cur : List Change) (ts : List ℕ) → Below now ts → Now now cur
    → map (row_at bound (old ++ cur)) ts ≡ map (row_at bound old) ts
rows-earlier bound now old cur [] b n = refl
rows-earlier bound now old cur (t ∷ ts) b n = rw (row-earlier bound t now old cur b.0 n, rows-earlier bound now old cur ts b.1 n) refl

-- the present time sees the last changes, and the others as earlier ones
at-now : (now : ℕ) (cur : List Change) → Now now cur → at now cur ≡ cur
at-now now [] n = refl
at-now now (c ∷ cur) n = rw (eq-eqb c.time now n.0, at-now now cur n.1) refl

at-none : (now : ℕ) (old : List Change) → Earlier now old → at now old ≡ []
at-none now [] e = refl
at-none now (c ∷ old) e = rw (not-eq c.time now e.0) (at-none now old e.1)

before-all : (now : ℕ) (old : List Change) → Earlier now old → before now old ≡ old
before-all now [] e = refl
before-all now (c ∷ old) e = rw (lt-ltb c.time now e.0, before-all now old e.1) refl

row-now : (bound : List Bound) (now : ℕ) (old cur : List Change) → Earlier now old → Now now cur → row_at bound (old ++ cur) now ≡ row bound now cur old
row-now bound now old cur e n =
    let a : at now (old ++ cur) ≡ cur =
    filter-append (λ c. nat_eq c.time now) old cur ∙ ap (λ (xs : List Change). xs ++ at now cur) (at-none now old e) ∙ at-now now cur n in
    let b : before now (old ++ cur) ≡ old =
    filter-append (λ c. nat_lt c.time now) old cur ∙ ap (λ (xs : List Change). before now old ++ xs) (before-earlier now now cur (omega arith) n)
    ∙ append-nil (before now old) ∙ before-all now old e in
    ap (λ (xs : List Change). row bound now xs (before now (old ++ cur))) a ∙ ap (λ (xs : List Change). row bound now cur xs) b

-- no clock ticks without a change
none-ticks : (bound : List Bound) (old : List Change) → filter (ticks [] old) bound ≡ []
none-ticks [] old = refl
none-ticks (b ∷ bs) old =
    elim b.event as (λ w. cond (cond w false false) (b ∷ filter (ticks [] old) bs) (filter (ticks [] old) bs) ≡ []) [
      | true ↦ none-ticks bs old
      | false ↦ none-ticks bs old
    ]

-- the row of the present time, if a clock ticks
abbrev pub row_now : List Bound → ℕ → List Change → List Change → List Row
row_now bound now cur old = filter has_ticks (row bound now cur old ∷ [])

last-row : (bound : List Bound) (now : ℕ) (old cur : List Change) → Earlier now old → Now now cur
    → filter has_ticks (map (row_at bound (old ++ cur)) (time_now now cur)) ≡ row_now bound now cur old
last-row bound now old [] e n = rw (none-ticks bound old) refl
last-row bound now old (c ∷ cur) e n = ap (λ (r : Row). filter has_ticks (r ∷ [])) (row-now bound now old (c ∷ cur) e n)

-- All rows are those of the earlier changes and that of the present time.
pub rows-all : (bound : List Bound) (now : ℕ) (old cur : List Change) → Earlier now old → Now now cur
    → rows bound (old ++ cur) ≡ rows bound old ++ row_now bound now cur old
unfolding rows
rows-all bound now old cur e n =
    let F : Row → Bool = has_ticks in
    ap (λ (ts : List ℕ). filter has_ticks (map (row_at bound (old ++ cur)) ts)) (times-parts now old cur e n)
    ∙ ap (filter has_ticks) (map-append (row_at bound (old ++ cur)) (times old) (time_now now cur))
    ∙ filter-append has_ticks (map (row_at bound (old ++ cur)) (times old)) (map (row_at bound (old ++ cur)) (time_now now cur))
    ∙ ap (λ (rs : List Row). filter has_ticks rs ++ filter has_ticks (map (row_at bound (old ++ cur)) (time_now now cur)))
    (rows-earlier bound now old cur (times old) (times-below now old e) n)
    ∙ ap (λ (rs : List Row). rows bound old ++ rs) (last-row bound now old cur e n)

abbrev pub is_before : ℕ → Row → Bool
is_before now r = nat_lt r.time now

-- rows of earlier times are complete
kept : (bound : List Bound) (now : ℕ) (cs : List Change) (ts : List ℕ) → Below now ts
    → filter (is_before now) (filter has_ticks (map (row_at bound cs) ts)) ≡ filter has_ticks (map (row_at bound cs) ts)
kept bound now cs [] b = refl
kept bound now cs (t ∷ ts) b =
    (elim (has_ticks (row_at bound cs t)) as (λ w. filter (is_before now)
    (cond w (row_at bound cs t ∷ filter has_ticks (map (row_at bound cs) ts)) (filter has_ticks (map (row_at bound cs) ts))) ≡ cond w
    (row_at bound cs t ∷ filter has_ticks (map (row_at bound cs) ts)) (filter has_ticks (map (row_at bound cs) ts))) [
      | true ↦ rw (lt-ltb t now b.0) (ap (λ (rs : List Row). row_at bound cs t ∷ rs) (kept bound now cs ts b.1))
      | false ↦ kept bound now cs ts b.1
    ])

pub rows-earlier-kept : (bound : List Bound) (now : ℕ) (old : List Change) → Earlier now old → filter (is_before now) (rows bound old) ≡ rows bound old
unfolding rows
rows-earlier-kept bound now old e = kept bound now old (times old) (times-below now old e)

now-dropped : (bound : List Bound) (now : ℕ) (cur old : List Change) → filter (is_before now) (row_now bound now cur old) ≡ []
now-dropped bound now cur old =
    elim (has_ticks (row bound now cur old)) as (λ w. filter (is_before now) (cond w (row bound now cur old ∷ []) []) ≡ []) [
      | true ↦ rw (le-ltb now now (omega arith)) refl
      | false ↦ refl
    ]

-- The rows that are complete are those of the earlier changes.
pub rows-done : (bound : List Bound) (now : ℕ) (old cur : List Change) → Earlier now old → Now now cur
    → filter (is_before now) (rows bound (old ++ cur)) ≡ rows bound old
rows-done bound now old cur e n =
    ap (filter (is_before now)) (rows-all bound now old cur e n) ∙ filter-append (is_before now) (rows bound old) (row_now bound now cur old)
    ∙ ap (λ (rs : List Row). rs ++ filter (is_before now) (row_now bound now cur old)) (rows-earlier-kept bound now old e)
    ∙ ap (λ (rs : List Row). rows bound old ++ rs) (now-dropped bound now cur old) ∙ append-nil (rows bound old)
