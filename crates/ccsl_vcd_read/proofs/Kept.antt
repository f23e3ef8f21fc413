-- Marks that are kept as sets of clocks.
use Rattle.std.proofs.Common.{◌≡◌, ◌≢◌, ℕ, zero, suc, ◌+◌, ◌<◌, length, get_or, List, [], ◌∷◌, ◌++◌, Bool, true, false, not, ◌||◌, ◌&&◌, nat_eq, nat_lt}
use Rattle.std.proofs.Common.{cond, map, filter, refl, sym, ap, ap₂, ◌∙◌, arith, eq-eqb}
use Rattle.std.specs.List.{list_all, AllByRecursion}
use Rattle.std.proofs.lemmas.Bool.{and_parts, ne_eqb, ltb-true, eqb-true}
use Rattle.std.proofs.Math.Bool.{or-true, or-false, and-false}
use Rattle.ccsl_base.specs.declared.limits.TheConstants.{MAX_CLOCKS}
use Rattle.ccsl_base.specs.Clocks.{ticks_in, with_clock, is_ascending, are_below}
use Rattle.ccsl_base.specs.Changes.{put_clock, difference}
use Rattle.ccsl_base.proofs.Sets.{ticks_in-with_same, ticks_in-with_other, ticks_in-put_same, ticks_in-put_other, ticks_in-difference, by_case}
use Rattle.ccsl_vcd_read.specs.declared.marks.Mark.{Mark}
use Rattle.ccsl_vcd_read.specs.declared.users.Slot.{Slot}
use Rattle.ccsl_vcd_read.specs.declared.users.User.{User}
use Rattle.ccsl_vcd_read.specs.declared.users.User.TheVariants.{Nobody, One, Many}
use Rattle.ccsl_vcd_read.specs.Marks.{put, aged, is_ticking, ticking}
use Rattle.ccsl_vcd_read.specs.Users.{with_slot, user_of, IsMore}
use Rattle.ccsl_vcd_read.specs.Kept.{mark_in, clocks_of, put_in, put_each, put_all, AreKept}
use Rattle.ccsl_base.proofs.Ascending.{part-ascends, same-members, no-member}

-- a change of a clock's code

put-same : (s : Slot) (one dumped : Bool) (now : List ℕ) → ticks_in s.clock (put_in s one dumped now) ≡ cond s.event (ticks_in s.clock now || not dumped) one
put-same s one dumped now =
    elim s.event as (λ w. ticks_in s.clock (cond w (cond dumped now (with_clock s.clock now)) (put_clock s.clock one now)) ≡ cond w
    (ticks_in s.clock now || not dumped) one) [
      | true ↦ elim dumped as (λ w. ticks_in s.clock (cond w now (with_clock s.clock now)) ≡ (ticks_in s.clock now || not w)) [
        | true ↦ sym (or-false (ticks_in s.clock now))
        | false ↦ ticks_in-with_same s.clock now ∙ sym (or-true (ticks_in s.clock now))
      ]
      | false ↦ ticks_in-put_same s.clock one now
    ]

put-other : (s : Slot) (one dumped : Bool) (now : List ℕ) (x : ℕ) → x ≢ s.clock → ticks_in x (put_in s one dumped now) ≡ ticks_in x now
put-other s one dumped now x o =
    elim s.event as (λ w. ticks_in x (cond w (cond dumped now (with_clock s.clock now)) (put_clock s.clock one now)) ≡ ticks_in x now) [
      | true ↦ elim dumped as (λ w. ticks_in x (cond w now (with_clock s.clock now)) ≡ ticks_in x now) [
        | true ↦ refl
        | false ↦ ticks_in-with_other s.clock x now o
      ]
      | false ↦ ticks_in-put_other s.clock one x now o
    ]

each-other : (code : ℕ) (one dumped : Bool) (now : List ℕ) (s : Slot) (x : ℕ) → x ≢ s.clock → ticks_in x (put_each code one dumped now s) ≡ ticks_in x now
each-other code one dumped now s x o =
    elim (nat_eq s.code code) as (λ w. ticks_in x (cond w (put_in s one dumped now) now) ≡ ticks_in x now) [
      | true ↦ put-other s one dumped now x o
      | false ↦ refl
    ]

-- the mark of the clock itself
mark-put : (code : ℕ) (one dumped : Bool) (now before : List ℕ) (s : Slot)
    → mark_in (put_each code one dumped now s) before s ≡ put code one dumped (mark_in now before s)
mark-put code one dumped now before s =
    let at : Bool → Mark = λ b. record { clock = s.clock; code = s.code; event = s.event; now = b; before = ticks_in s.clock before } in
    elim (nat_eq s.code code) as (λ w. at (ticks_in s.clock (cond w (put_in s one dumped now) now)) ≡ cond w
    (cond s.event (at (ticks_in s.clock now || not dumped)) (at one)) (at (ticks_in s.clock now))) [
      | true ↦
          ap at (put-same s one dumped now)
          ∙ elim s.event as (λ w. at (cond w (ticks_in s.clock now || not dumped) one) ≡ cond w (at (ticks_in s.clock now || not dumped)) (at one)) [
            | true ↦ refl
            | false ↦ refl
          ]
      | false ↦ refl
    ]

-- a clock that is not among some

split-or : (x y : ℕ) (rest : Bool) → (nat_eq x y || rest) ≡ false → (x ≢ y) × (rest ≡ false)
split-or x y rest h = (elim (nat_eq x y) as (λ w. nat_eq x y ≡ w → (w || rest) ≡ false → (x ≢ y) × (rest ≡ false)) [
  | true ↦ λ e g. absurd (let k : true ≡ false = g in cc)
  | false ↦ λ e g. ((λ q. let k : true ≡ false = sym (eq-eqb x y q) ∙ e in absurd (cc)), g)
]) refl h

pub absent : (code : ℕ) (one dumped : Bool) (slots : List Slot) (now : List ℕ) (x : ℕ) → ticks_in x (clocks_of slots) ≡ false
    → ticks_in x (put_all code one dumped slots now) ≡ ticks_in x now
absent code one dumped [] now x h = refl
absent code one dumped (s ∷ ss) now x h =
    let p = split-or x s.clock (ticks_in x (clocks_of ss)) h in
    absent code one dumped ss (put_each code one dumped now s) x p.1 ∙ each-other code one dumped now s x p.0

-- marks of other clocks stay
pub others-stay : (now later before : List ℕ) (c : ℕ) (slots : List Slot) → list_all (nat_lt c) (clocks_of slots) ≡ true
    → ((x : ℕ) → x ≢ c → ticks_in x later ≡ ticks_in x now)
    → map (mark_in later before) slots ≡ map (mark_in now before) slots
others-stay now later before c [] h same = refl
others-stay now later before c (s ∷ ss) h same =
    let p = and_parts (nat_lt c s.clock) (list_all (nat_lt c) (clocks_of ss)) h in
    let l : c < s.clock = ltb-true c s.clock p.0 in
    let at : Bool → Mark = λ b. record { clock = s.clock; code = s.code; event = s.event; now = b; before = ticks_in s.clock before } in
    ap₂ (λ (m : Mark) (ms : List Mark). m ∷ ms) (ap at (same s.clock (λ q. omega (arith, l, q)))) (others-stay now later before c ss p.1 same)

-- a change makes of the marks what it makes of each
pub marks-put : (code : ℕ) (one dumped : Bool) (slots : List Slot) (now before : List ℕ) → is_ascending (clocks_of slots) ≡ true
    → map (mark_in (put_all code one dumped slots now) before) slots ≡ map (put code one dumped) (map (mark_in now before) slots)
marks-put code one dumped [] now before a = refl
marks-put code one dumped (s ∷ ss) now before a =
    let p = and_parts (list_all (nat_lt s.clock) (clocks_of ss)) (is_ascending (clocks_of ss)) a in
    let step = put_each code one dumped now s in
    let at : Bool → Mark = λ b. record { clock = s.clock; code = s.code; event = s.event; now = b; before = ticks_in s.clock before } in
    ap₂ (λ (m : Mark) (ms : List Mark). m ∷ ms)
    (ap at (absent code one dumped ss step s.clock (no-member s.clock (clocks_of ss) p.0)) ∙ mark-put code one dumped now before s)
    (marks-put code one dumped ss step before p.1 ∙ ap (map (put code one dumped))
    (others-stay now step before s.clock ss p.0 (λ x o. each-other code one dumped now s x o)))

-- The users of a code.

nobody-with : (u : User) (s : Slot) → with_slot u s ≡ Nobody → ⊥
nobody-with Nobody s e = cc
nobody-with (One t) s e = cc
nobody-with Many s e = cc

pub nobody-puts : (code : ℕ) (one dumped : Bool) (slots : List Slot) (now : List ℕ) → user_of code slots ≡ Nobody → put_all code one dumped slots now ≡ now
nobody-puts code one dumped [] now h = refl
nobody-puts code one dumped (s ∷ ss) now h =
    (elim (nat_eq s.code code) as (λ w. cond w (with_slot (user_of code ss) s) (user_of code ss) ≡ Nobody
    → put_all code one dumped ss (cond w (put_in s one dumped now) now) ≡ now) [
      | true ↦ λ e. absurd (nobody-with (user_of code ss) s e)
      | false ↦ λ e. nobody-puts code one dumped ss now e
    ]) h

same-one : (s t : Slot) → One s ≡ One t → s ≡ t
same-one s t e = cc

one-with : (u : User) (s t : Slot) → with_slot u s ≡ One t → (u ≡ Nobody) × (s ≡ t)
one-with Nobody s t e = (refl, same-one s t e)
one-with (One r) s t e = absurd (cc)
one-with Many s t e = absurd (cc)

pub one-puts : (code : ℕ) (one dumped : Bool) (slots : List Slot) (now : List ℕ) (t : Slot) → user_of code slots ≡ One t
    → put_all code one dumped slots now ≡ put_in t one dumped now
one-puts code one dumped [] now t h = absurd (cc)
one-puts code one dumped (s ∷ ss) now t h =
    (elim (nat_eq s.code code) as (λ w. cond w (with_slot (user_of code ss) s) (user_of code ss) ≡ One t
    → put_all code one dumped ss (cond w (put_in s one dumped now) now) ≡ put_in t one dumped now) [
      | true ↦ λ e.
          let p = one-with (user_of code ss) s t e in
          nobody-puts code one dumped ss (put_in s one dumped now) p.0 ∙ ap (λ (r : Slot). put_in r one dumped now) p.1
      | false ↦ λ e. one-puts code one dumped ss now t e
    ]) h

pub one-below : (bound code : ℕ) (slots : List Slot) (t : Slot) → are_below bound (clocks_of slots) ≡ true → user_of code slots ≡ One t → t.clock < bound
one-below bound code [] t b h = absurd (cc)
one-below bound code (s ∷ ss) t b h =
    let q = and_parts (nat_lt s.clock bound) (are_below bound (clocks_of ss)) b in
    (elim (nat_eq s.code code) as (λ w. cond w (with_slot (user_of code ss) s) (user_of code ss) ≡ One t → t.clock < bound) [
      | true ↦ λ e. let p = one-with (user_of code ss) s t e in Rattle.std.proofs.Common.subst (λ (r : Slot). r.clock < bound) p.1 (ltb-true s.clock bound q.0)
      | false ↦ λ e. one-below bound code ss t q.1 e
    ]) h

with-both : (u : User) (s t : Slot) → with_slot (with_slot u t) s ≡ with_slot (with_slot u s) t
with-both Nobody s t = refl
with-both (One r) s t = refl
with-both Many s t = refl

pub user-more : (code : ℕ) (slots : List Slot) (s : Slot)
    → user_of code (slots ++ s ∷ []) ≡ cond (nat_eq s.code code) (with_slot (user_of code slots) s) (user_of code slots)
user-more code [] s = refl
user-more code (t ∷ ss) s =
    ap (λ u. cond (nat_eq t.code code) (with_slot u t) u) (user-more code ss s)
    ∙ elim (nat_eq s.code code) as (λ w. cond (nat_eq t.code code) (with_slot (cond w (with_slot (user_of code ss) s) (user_of code ss)) t)
    (cond w (with_slot (user_of code ss) s) (user_of code ss))
    ≡ cond w (with_slot (cond (nat_eq t.code code) (with_slot (user_of code ss) t) (user_of code ss)) s)
    (cond (nat_eq t.code code) (with_slot (user_of code ss) t) (user_of code ss))) [
      | true ↦ elim (nat_eq t.code code) as (λ w. cond w (with_slot (with_slot (user_of code ss) s) t) (with_slot (user_of code ss) s) ≡ with_slot
          (cond w (with_slot (user_of code ss) t) (user_of code ss)) s) [
            | true ↦ sym (with-both (user_of code ss) s t)
            | false ↦ refl
          ]
      | false ↦ refl
    ]

-- The clocks that tick.

and-swap : (a b : Bool) → (a && b) ≡ (b && a)
and-swap true true = refl
and-swap true false = refl
and-swap false true = refl
and-swap false false = refl

pick : (t same rest among all : Bool) → rest ≡ (among && all) → (same ≡ true → t ≡ all) → cond t (same || rest) rest ≡ ((same || among) && all)
pick true true rest among all h e = e refl
pick false true rest among all h e = h ∙ ap (λ v. among && v) (sym (e refl)) ∙ and-false among ∙ e refl
pick true false rest among all h e = h
pick false false rest among all h e = h

ticks-of : (now before : List ℕ) (slots : List Slot) (x : ℕ)
    → ticks_in x (ticking (map (mark_in now before) slots)) ≡ (ticks_in x (clocks_of slots) && (ticks_in x now && not (ticks_in x before)))
ticks-of now before [] x = refl
ticks-of now before (s ∷ ss) x =
    let t = ticks_in s.clock now && not (ticks_in s.clock before) in
    let rest = filter is_ticking (map (mark_in now before) ss) in
    elim t as (λ w. ticks_in x (map (λ m. m.clock) (cond w (mark_in now before s ∷ rest) rest)) ≡ cond w
    (nat_eq x s.clock || ticks_in x (map (λ m. m.clock) rest)) (ticks_in x (map (λ m. m.clock) rest))) [ true ↦ refl | false ↦ refl ]
    ∙ pick t (nat_eq x s.clock) (ticks_in x (map (λ m. m.clock) rest)) (ticks_in x (clocks_of ss)) (ticks_in x now && not (ticks_in x before))
    (ticks-of now before ss x)
    (λ e. ap (λ y. ticks_in y now && not (ticks_in y before)) (sym (eqb-true x s.clock e)))

above-ticking : (now before : List ℕ) (slots : List Slot) (c : ℕ) → list_all (nat_lt c) (clocks_of slots) ≡ true
    → list_all (nat_lt c) (ticking (map (mark_in now before) slots)) ≡ true
above-ticking now before [] c h = refl
above-ticking now before (s ∷ ss) c h =
    let p = and_parts (nat_lt c s.clock) (list_all (nat_lt c) (clocks_of ss)) h in
    let rest = filter is_ticking (map (mark_in now before) ss) in
    let ih = above-ticking now before ss c p.1 in
    elim (is_ticking (mark_in now before s)) as (λ w. list_all (nat_lt c) (map (λ m. m.clock) (cond w (mark_in now before s ∷ rest) rest)) ≡ true) [
      | true ↦ rw p.0 ih
      | false ↦ ih
    ]

pub ticking-ascends : (now before : List ℕ) (slots : List Slot) → is_ascending (clocks_of slots) ≡ true
    → is_ascending (ticking (map (mark_in now before) slots)) ≡ true
ticking-ascends now before [] a = refl
ticking-ascends now before (s ∷ ss) a =
    let p = and_parts (list_all (nat_lt s.clock) (clocks_of ss)) (is_ascending (clocks_of ss)) a in
    let rest = filter is_ticking (map (mark_in now before) ss) in
    let ih = ticking-ascends now before ss p.1 in
    elim (is_ticking (mark_in now before s)) as (λ w. is_ascending (map (λ m. m.clock) (cond w (mark_in now before s ∷ rest) rest)) ≡ true) [
      | true ↦ rw (above-ticking now before ss s.clock p.0) ih
      | false ↦ ih
    ]

implied : (a b : Bool) → (b ≡ true → a ≡ true) → (c : Bool) → (b && c) ≡ (a && (b && c))
implied a true h c = ap (λ v. v && c) (sym (h refl))
implied a false h c = sym (and-false a)

-- the members of the one set that are not the other's tick
pub difference-ticks : (now before : List ℕ) (slots : List Slot) → is_ascending now ≡ true → is_ascending (clocks_of slots) ≡ true
    → ((x : ℕ) → ticks_in x now ≡ true → ticks_in x (clocks_of slots) ≡ true) → difference now before ≡ ticking (map (mark_in now before) slots)
difference-ticks now before slots a b inside =
    same-members (difference now before) (ticking (map (mark_in now before) slots)) (part-ascends (λ x. not (ticks_in x before)) now a)
    (ticking-ascends now before slots b)
    (λ x. ticks_in-difference now before x ∙ implied (ticks_in x (clocks_of slots)) (ticks_in x now) (inside x) (not (ticks_in x before))
    ∙ sym (ticks-of now before slots x))

-- A later time.

pub marks-age : (now before later former events : List ℕ) (slots : List Slot) → AllByRecursion (λ s. ticks_in s.clock events ≡ s.event) slots
    → ((x : ℕ) → ticks_in x later ≡ (ticks_in x now && not (ticks_in x events))) → ((x : ℕ) → ticks_in x former ≡ (ticks_in x now && not (ticks_in x events)))
    → map (mark_in later former) slots ≡ map aged (map (mark_in now before) slots)
marks-age now before later former events [] e h g = refl
marks-age now before later former events (s ∷ ss) e h g =
    let at : Bool → Bool → Mark = λ a b. record { clock = s.clock; code = s.code; event = s.event; now = a; before = b } in
    let v : (ticks_in s.clock now && not (ticks_in s.clock events)) ≡ (not s.event && ticks_in s.clock now) =
    ap (λ w. ticks_in s.clock now && not w) e.0 ∙ and-swap (ticks_in s.clock now) (not s.event) in
    ap₂ (λ (m : Mark) (ms : List Mark). m ∷ ms) (ap₂ at (h s.clock ∙ v) (g s.clock ∙ v)) (marks-age now before later former events ss e.1 h g)

-- A change keeps them.

pub put-kept : (code : ℕ) (one dumped : Bool) (slots : List Slot) (users : List User) (events now : List ℕ) → AreKept slots users events now
    → AreKept slots users events (put_all code one dumped slots now)
put-kept code one dumped slots users events now k = record {
  ascending = k.ascending;
  below = k.below;
  marked = k.marked;
  inside = λ x t. by_case (ticks_in x (clocks_of slots)) (ticks_in x (clocks_of slots) ≡ true) (λ e. e)
      (λ e. k.inside x (sym (absent code one dumped slots now x e) ∙ t));
  known = k.known;
}

-- One clock more.

pub clocks-view : (now before : List ℕ) (slots : List Slot) → map (λ m. m.clock) (map (mark_in now before) slots) ≡ clocks_of slots
clocks-view now before [] = refl
clocks-view now before (s ∷ ss) = ap (λ xs. s.clock ∷ xs) (clocks-view now before ss)

last-fresh : (xs : List ℕ) (y : ℕ) → is_ascending (xs ++ y ∷ []) ≡ true → ticks_in y xs ≡ false
last-fresh [] y a = refl
last-fresh (x ∷ xs) y a =
    let p = and_parts (list_all (nat_lt x) (xs ++ y ∷ [])) (is_ascending (xs ++ y ∷ [])) a in
    let l : x < y = last-of xs p.0 in
    rw (ne_eqb y x (λ q. omega (arith, l, q)), last-fresh xs y p.1) refl
  where
    last-of : (zs : List ℕ) → list_all (nat_lt x) (zs ++ y ∷ []) ≡ true → x < y
    last-of [] h = ltb-true x y ((and_parts (nat_lt x y) true h).0)
    last-of (z ∷ zs) h = last-of zs ((and_parts (nat_lt x z) (list_all (nat_lt x) (zs ++ y ∷ [])) h).1)

fresh-stay : (now before : List ℕ) (c : ℕ) (a b : Bool) (slots : List Slot) → ticks_in c (clocks_of slots) ≡ false
    → map (mark_in (put_clock c a now) (put_clock c b before)) slots ≡ map (mark_in now before) slots
fresh-stay now before c a b [] h = refl
fresh-stay now before c a b (s ∷ ss) h =
    let p = split-or c s.clock (ticks_in c (clocks_of ss)) h in
    let at : Bool → Bool → Mark = λ v w. record { clock = s.clock; code = s.code; event = s.event; now = v; before = w } in
    ap₂ (λ (m : Mark) (ms : List Mark). m ∷ ms)
    (ap₂ at (ticks_in-put_other c a s.clock now (λ q. p.0 (sym q))) (ticks_in-put_other c b s.clock before (λ q. p.0 (sym q))))
    (fresh-stay now before c a b ss p.1)

events-stay : (events : List ℕ) (s : Slot) (slots : List Slot) → ticks_in s.clock (clocks_of slots) ≡ false
    → AllByRecursion (λ t. ticks_in t.clock events ≡ t.event) slots
    → AllByRecursion (λ t. ticks_in t.clock (put_clock s.clock s.event events) ≡ t.event) (slots ++ s ∷ [])
events-stay events s [] h e = (ticks_in-put_same s.clock s.event events, tt)
events-stay events s (t ∷ ts) h e =
    let p = split-or s.clock t.clock (ticks_in s.clock (clocks_of ts)) h in
    (ticks_in-put_other s.clock s.event t.clock events (λ q. p.0 (sym q)) ∙ e.0, events-stay events s ts p.1 e.1)

clocks-more : (slots : List Slot) (s : Slot) → clocks_of (slots ++ s ∷ []) ≡ clocks_of slots ++ s.clock ∷ []
clocks-more [] s = refl
clocks-more (t ∷ ts) s = ap (λ xs. t.clock ∷ xs) (clocks-more ts s)

below-more : (bound : ℕ) (slots : List Slot) (s : Slot) → are_below bound (clocks_of slots) ≡ true → nat_lt s.clock bound ≡ true
    → are_below bound (clocks_of (slots ++ s ∷ [])) ≡ true
below-more bound [] s h l = rw l refl
below-more bound (t ∷ ts) s h l =
    let p = and_parts (nat_lt t.clock bound) (are_below bound (clocks_of ts)) h in
    rw (p.0) (below-more bound ts s p.1 l)

among-more : (x : ℕ) (slots : List Slot) (s : Slot) → ticks_in x (clocks_of (slots ++ s ∷ [])) ≡ (ticks_in x (clocks_of slots) || nat_eq x s.clock)
among-more x [] s = or-false (nat_eq x s.clock)
among-more x (t ∷ ts) s =
    elim (nat_eq x t.clock) as (λ w. (w || ticks_in x (clocks_of (ts ++ s ∷ []))) ≡ ((w || ticks_in x (clocks_of ts)) || nat_eq x s.clock)) [
      | true ↦ refl
      | false ↦ among-more x ts s
    ]

pub marks-more-in : (now before : List ℕ) (slots : List Slot) (s : Slot)
    → is_ascending (map (λ m. m.clock) (map (mark_in now before) slots) ++ s.clock ∷ []) ≡ true
    → map (mark_in (put_clock s.clock (not s.event) now) (put_clock s.clock (not s.event) before)) (slots ++ s ∷ [])
    ≡ map (mark_in now before) slots ++ record { clock = s.clock; code = s.code; event = s.event; now = not s.event; before = not s.event } ∷ []
marks-more-in now before slots s a =
    let f : ticks_in s.clock (clocks_of slots) ≡ false =
    last-fresh (clocks_of slots) s.clock (ap (λ xs. is_ascending (xs ++ s.clock ∷ [])) (sym (clocks-view now before slots)) ∙ a) in
    let at : Bool → Bool → Mark = λ v w. record { clock = s.clock; code = s.code; event = s.event; now = v; before = w } in
    Rattle.std.proofs.lemmas.List.map-append (mark_in (put_clock s.clock (not s.event) now) (put_clock s.clock (not s.event) before)) slots (s ∷ [])
    ∙ ap₂ (λ (xs ys : List Mark). xs ++ ys) (fresh-stay now before s.clock (not s.event) (not s.event) slots f)
    (ap (λ (m : Mark). m ∷ []) (ap₂ at (ticks_in-put_same s.clock (not s.event) now) (ticks_in-put_same s.clock (not s.event) before)))

pub push-kept : (slots : List Slot) (users more : List User) (events now before : List ℕ) (s : Slot) → AreKept slots users events now → IsMore users more s
    → s.clock < MAX_CLOCKS
    → is_ascending (map (λ m. m.clock) (map (mark_in now before) slots) ++ s.clock ∷ []) ≡ true
    → AreKept (slots ++ s ∷ []) more (put_clock s.clock s.event events) (put_clock s.clock (not s.event) now)
push-kept slots users more events now before s k m l a =
    let asc : is_ascending (clocks_of slots ++ s.clock ∷ []) ≡ true = ap (λ xs. is_ascending (xs ++ s.clock ∷ [])) (sym (clocks-view now before slots)) ∙ a in
    record {
      ascending = ap is_ascending (clocks-more slots s) ∙ asc;
      below = below-more MAX_CLOCKS slots s k.below (Rattle.std.proofs.lemmas.Bool.lt-ltb s.clock MAX_CLOCKS l);
      marked = events-stay events s slots (last-fresh (clocks_of slots) s.clock asc) k.marked;
      inside = λ x t. among-more x slots s ∙ by_case (nat_eq x s.clock) ((ticks_in x (clocks_of slots) || nat_eq x s.clock) ≡ true)
          (λ e. ap (λ v. ticks_in x (clocks_of slots) || v) e ∙ or-true (ticks_in x (clocks_of slots)))
          (λ e. ap (λ v. v || nat_eq x s.clock)
          (k.inside x (sym (ticks_in-put_other s.clock (not s.event) x now (λ q. let z : true ≡ false = sym (eq-eqb x s.clock q) ∙ e in absurd (cc)))
          ∙ t)));
      known = λ code. m code ∙ ap (λ u. cond (nat_eq s.code code) (with_slot u s) u) (k.known code) ∙ sym (user-more code slots s);
    }

-- Those of a loop.

pub clock-below : (bound : ℕ) (slots : List Slot) (i : ℕ) (d : Slot) → are_below bound (clocks_of slots) ≡ true → i < length slots
    → (get_or slots i d).clock < bound
clock-below bound [] i d h l = absurd (omega arith)
clock-below bound (s ∷ ss) zero d h l = ltb-true s.clock bound ((and_parts (nat_lt s.clock bound) (are_below bound (clocks_of ss)) h).0)
clock-below bound (s ∷ ss) (suc i) d h l = clock-below bound ss i d ((and_parts (nat_lt s.clock bound) (are_below bound (clocks_of ss)) h).1) (omega arith)

pub pushed : (slots all : List Slot) (users more : List User) (events marked ones before earlier : List ℕ) (s : Slot) → AreKept slots users events ones
    → all ≡ slots ++ s ∷ []
    → marked ≡ put_clock s.clock s.event events → before ≡ put_clock s.clock (not s.event) ones → IsMore users more s → s.clock < MAX_CLOCKS
    → is_ascending (map (λ m. m.clock) (map (mark_in ones earlier) slots) ++ s.clock ∷ []) ≡ true → AreKept all more marked before
pushed slots all users more events marked ones before earlier s k a b c m l h = rw (a, b, c) (push-kept slots users more events ones earlier s k m l h)

pub view-more : (slots all : List Slot) (ones before earlier former : List ℕ) (s : Slot) → all ≡ slots ++ s ∷ [] → before ≡ put_clock s.clock (not s.event) ones
    → former ≡ put_clock s.clock (not s.event) earlier
    → is_ascending (map (λ m. m.clock) (map (mark_in ones earlier) slots) ++ s.clock ∷ []) ≡ true
    → map (mark_in before former) all ≡ map (mark_in ones earlier) slots ++ record {
      clock = s.clock;
      code = s.code;
      event = s.event;
      now =
          not s.event;
      before = not s.event;
    } ∷ []
view-more slots all ones before earlier former s a b c h = rw (a, b, c) (marks-more-in ones earlier slots s h)
