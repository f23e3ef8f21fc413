-- The names that are known, and those that are found by the variables that changed, are those that happen; and what the end of a
-- time makes of the variables.
use Rattle.std.proofs.Common.{◌≡◌, ◌⊎◌, inl, inr, ℕ, zero, suc, ◌+◌, ◌<◌, ◌≤◌, List, [], ◌∷◌, ◌++◌, length, map, filter, Bool, true, false, ◌||◌, ◌&&◌, Option}
use Rattle.std.proofs.Common.{Some, None, slice_get}
use Rattle.std.proofs.Common.{nat_eq, nat_lt, if◌then◌else◌, refl, sym, ap, subst, ◌∙◌, ⊎_elim, arith, lt-ltb, eq-eqb, eqb-true}
use Rattle.std.specs.List.{list_all, range_with_len}
use Rattle.std.specs.declared.vec.Vec.{Vec}
use Rattle.std.specs.declared.alloc.Global.{Global}
use Rattle.std.proofs.Math.Bool.{or-true, and-false}
use Rattle.std.proofs.lemmas.Bool.{cases_eq, ne_eqb, and_parts, and_from}
use Rattle.std.proofs.lemmas.Option.{slice_get_within}
use Rattle.ccsl_base.specs.declared.limits.TheConstants.{MAX_CLOCKS}
use Rattle.ccsl_base.specs.Clocks.{ticks_in, with_clock, is_ascending}
use Rattle.ccsl_base.proofs.Sets.{ticks_in-with_same, ticks_in-with_other, ticks_in-filter}
use Rattle.ccsl_base.proofs.Ascending.{part-ascends, same-members, with_clock-ascends}
use Rattle.ccsl_triggers.specs.declared.watch.Watch.{Watch}
use Rattle.ccsl_triggers.specs.Views.{View, at_rest}
use Rattle.ccsl_triggers.specs.Held.{Held, held, settle_held, IsQuiet}
use Rattle.ccsl_triggers.specs.Triggers.{variable_of, sets_off, held_before, happens, view_at}
use Rattle.ccsl_triggers.proofs.Quiet.{sets_off-quiet}
use Rattle.ccsl_triggers.proofs.Alike.{happens-alike}
use Rattle.ccsl_events.specs.declared.values.Values.{Values}
use Rattle.ccsl_events.specs.Dump.{Plan, happens_in, names_at}
use Rattle.ccsl_events.specs.Keeping.{AreUsers, IsNamed, fires, with_names, users_of, with_users, replaced, settle_each, read_by, settle_read, SameTables}
use Rattle.ccsl_events.specs.Keeping.{Keeps}
use Rattle.ccsl_events.proofs.Settling.{view_at-held}
use Rattle.ccsl_events.proofs.Kept.{keeps-settled}

-- one name more, if a test holds
ticks_in-with_if : (t : Bool) (x c : ℕ) (s : List ℕ) → ticks_in x (if t then with_clock c s else s) ≡ (ticks_in x s || (nat_eq x c && t))
ticks_in-with_if true x c s =
    ⊎_elim
    (λ (e : x ≡ c). ap (λ y. ticks_in y (with_clock c s)) e ∙ ticks_in-with_same c s
    ∙ sym (ap (λ b. ticks_in x s || (b && true)) (eq-eqb x c e) ∙ or-true (ticks_in x s)))
    (λ (n : x ≡ c → ⊥). ticks_in-with_other c x s n ∙ or-no (ticks_in x s) ∙ sym (ap (λ b. ticks_in x s || (b && true)) (ne_eqb x c n)))
    (cases_eq x c)
  where
    or-no : (b : Bool) → b ≡ (b || false)
    or-no true = refl
    or-no false = refl
ticks_in-with_if false x c s = none (ticks_in x s) (nat_eq x c)
  where
    none : (b e : Bool) → b ≡ (b || (e && false))
    none true e = refl
    none false true = refl
    none false false = refl

-- a test of the one is a test of the other where they are equal
same-test : (test : ℕ → Bool) (x c : ℕ) → (nat_eq x c && test c) ≡ (nat_eq x c && test x)
same-test test x c = by (nat_eq x c) refl
  where
    by : (b : Bool) → nat_eq x c ≡ b → (b && test c) ≡ (b && test x)
    by true e = ap test (sym (eqb-true x c e))
    by false e = refl

regroup : (s e m f : Bool) → ((s || (e && f)) || (m && f)) ≡ (s || ((e || m) && f))
regroup true e m f = refl
regroup false true m true = refl
regroup false true m false = and-false m
regroup false false m f = refl

ticks_in-with_names : (names : List ℕ) (ws : List Watch) (v : ℕ → View) (s : List ℕ) (x : ℕ) →
    ticks_in x (with_names names ws v s) ≡ (ticks_in x s || (ticks_in x names && fires ws v x))
ticks_in-with_names [] ws v s x = or-no (ticks_in x s)
  where
    or-no : (b : Bool) → b ≡ (b || false)
    or-no true = refl
    or-no false = refl
ticks_in-with_names (c ∷ names) ws v s x =
    ticks_in-with_names names ws v (if fires ws v c then with_clock c s else s) x
    ∙ ap (λ b. b || (ticks_in x names && fires ws v x)) (ticks_in-with_if (fires ws v c) x c s ∙ ap (λ b. ticks_in x s || b) (same-test (fires ws v) x c))
    ∙ regroup (ticks_in x s) (nat_eq x c) (ticks_in x names) (fires ws v x)

-- whether one of some variables has a name among its users
is_user : List ℕ → List (Vec ℕ Global) → ℕ → Bool
is_user [] users x = false
is_user (n ∷ ns) users x = ticks_in x (users_of users n) || is_user ns users x

ticks_in-with_users : (ns : List ℕ) (users : List (Vec ℕ Global)) (ws : List Watch) (v : ℕ → View) (s : List ℕ) (x : ℕ) →
    ticks_in x (with_users ns users ws v s) ≡ (ticks_in x s || (is_user ns users x && fires ws v x))
unfolding is_user
ticks_in-with_users [] users ws v s x = or-no (ticks_in x s)
  where
    or-no : (b : Bool) → b ≡ (b || false)
    or-no true = refl
    or-no false = refl
ticks_in-with_users (n ∷ ns) users ws v s x =
    ticks_in-with_users ns users ws v (with_names (users_of users n) ws v s) x
    ∙ ap (λ b. b || (is_user ns users x && fires ws v x)) (ticks_in-with_names (users_of users n) ws v s x)
    ∙ regroup (ticks_in x s) (ticks_in x (users_of users n)) (is_user ns users x) (fires ws v x)

with_if-ascends : (t : Bool) (c : ℕ) (s : List ℕ) → is_ascending s ≡ true → is_ascending (if t then with_clock c s else s) ≡ true
with_if-ascends true c s h = with_clock-ascends c s h
with_if-ascends false c s h = h

with_names-ascends : (names : List ℕ) (ws : List Watch) (v : ℕ → View) (s : List ℕ) → is_ascending s ≡ true → is_ascending (with_names names ws v s) ≡ true
with_names-ascends [] ws v s h = h
with_names-ascends (c ∷ names) ws v s h = with_names-ascends names ws v _ (with_if-ascends (fires ws v c) c s h)

with_users-ascends : (ns : List ℕ) (users : List (Vec ℕ Global)) (ws : List Watch) (v : ℕ → View) (s : List ℕ) →
    is_ascending s ≡ true → is_ascending (with_users ns users ws v s) ≡ true
with_users-ascends [] users ws v s h = h
with_users-ascends (n ∷ ns) users ws v s h = with_users-ascends ns users ws v _ (with_names-ascends (users_of users n) ws v s h)

-- the numbers from one on are ascending, and those that they are
above-range : (a b n : ℕ) → a < b → list_all (nat_lt a) (range_with_len b n) ≡ true
above-range a b zero l = refl
above-range a b (suc n) l = and_from (nat_lt a b) (list_all (nat_lt a) (range_with_len (b + 1) n)) (lt-ltb a b l) (above-range a (b + 1) n (omega (arith, l)))

range-ascends : (a n : ℕ) → is_ascending (range_with_len a n) ≡ true
range-ascends a zero = refl
range-ascends a (suc n) = and_from (list_all (nat_lt a) (range_with_len (a + 1) n)) (is_ascending (range_with_len (a + 1) n))
    (above-range a (a + 1) n (omega arith)) (range-ascends (a + 1) n)

in-range : (a n x : ℕ) → a ≤ x → x < a + n → ticks_in x (range_with_len a n) ≡ true
in-range a zero x l h = absurd (omega (arith, l, h))
in-range a (suc n) x l h =
    ⊎_elim
    (λ (e : x ≡ a). ap (λ b. b || ticks_in x (range_with_len (a + 1) n)) (eq-eqb x a e))
    (λ (e : x ≡ a → ⊥). ap (λ b. nat_eq x a || b) (in-range (a + 1) n x (omega (arith, l, e)) (omega (arith, h))) ∙ or-true (nat_eq x a))
    (cases_eq x a)

-- a name that happens is a user of a variable of which something was recorded
user-there : (ns : List ℕ) (users : List (Vec ℕ Global)) (n x : ℕ) → ticks_in n ns ≡ true → ticks_in x (users_of users n) ≡ true → is_user ns users x ≡ true
unfolding is_user
user-there [] users n x h u = cc
user-there (m ∷ ns) users n x h u = by (nat_eq n m) refl (λ t. user-there ns users n x t u)
  where
    by : (b : Bool) → nat_eq n m ≡ b → (ticks_in n ns ≡ true → is_user ns users x ≡ true) → (ticks_in x (users_of users m) || is_user ns users x) ≡ true
    by true e later = ap (λ b. b || is_user ns users x) (ap (λ k. ticks_in x (users_of users k)) (sym (eqb-true n m e)) ∙ u)
    by false e later = ap (λ b. ticks_in x (users_of users m) || b) (later (sym (ap (λ b. b || ticks_in n ns) e) ∙ h)) ∙ or-true (ticks_in x (users_of users m))

-- the one user of a variable
only-user : (names : List ℕ) (name x : ℕ) → names ≡ name ∷ [] → ticks_in x names ≡ true → x ≡ name
only-user names name x only h = by (nat_eq x name) refl
  where
    or-no : (b : Bool) → (b || false) ≡ b
    or-no true = refl
    or-no false = refl

    by : (b : Bool) → nat_eq x name ≡ b → x ≡ name
    by true e = eqb-true x name e
    by false e = absurd (let no : ticks_in x names ≡ false = ap (ticks_in x) only ∙ or-no (nat_eq x name) ∙ e in cc (no, h))

-- what is known before the variables are looked at: each name of a set happens, and where a variable that is not among some is not
-- quiet its only user is in the set
pub record IsStarted (ns : List ℕ) (users : List (Vec ℕ Global)) (ws : List Watch) (v : ℕ → View) (s : List ℕ) : Type 0 where
  pub ascends : is_ascending s ≡ true
  pub happen : (x : ℕ) → ticks_in x s ≡ true → (w : Watch) × ((slice_get ws x ≡ Some w) × (happens w v ≡ true))
  pub quiet : (n : ℕ) → ticks_in n ns ≡ false → IsQuiet (v n) ⊎ ((x : ℕ) × ((users_of users n ≡ x ∷ []) × (ticks_in x s ≡ true)))

happens-used : (ns : List ℕ) (users : List (Vec ℕ Global)) (ws : List Watch) (v : ℕ → View) (s : List ℕ) (x : ℕ) (w : Watch) →
    AreUsers ws users → IsStarted ns users ws v s → ticks_in x s ≡ false → slice_get ws x ≡ Some w → happens w v ≡ true → is_user ns users x ≡ true
happens-used ns users ws v s x w are start out at met =
    user-there ns users n x (by (ticks_in n ns) refl) (are x w at)
  where
    n : ℕ
    n = variable_of w.trigger

    set : sets_off w.trigger v ≡ true
    set = (and_parts (sets_off w.trigger v) (list_all (held_before v) w.conditions.items) met).0

    never : IsQuiet (v n) ⊎ ((y : ℕ) × ((users_of users n ≡ y ∷ []) × (ticks_in y s ≡ true))) → ⊥
    never (inl q) = let no : sets_off w.trigger v ≡ false = sets_off-quiet w.trigger v q in absurd (cc (set, no))
    never (inr named) =
        let same : x ≡ named.0 = only-user (users_of users n) named.0 x named.1.0 (are x w at) in
        let yes : ticks_in x s ≡ true = ap (λ y. ticks_in y s) same ∙ named.1.1 in
        absurd (cc (yes, out))

    by : (b : Bool) → ticks_in n ns ≡ b → ticks_in n ns ≡ true
    by true e = e
    by false e = absurd (never (start.quiet n e))

-- THE NAMES ARE THOSE THAT HAPPEN
pub names-found : (ns : List ℕ) (users : List (Vec ℕ Global)) (ws : List Watch) (v : ℕ → View) (s : List ℕ) →
    AreUsers ws users → IsStarted ns users ws v s → length ws ≤ MAX_CLOCKS → with_users ns users ws v s ≡ names_at ws v
names-found ns users ws v s are start few =
    same-members (with_users ns users ws v s) (names_at ws v) (with_users-ascends ns users ws v s start.ascends)
    (part-ascends test (range_with_len 0 (length ws)) (range-ascends 0 (length ws)))
    (λ x. ticks_in-with_users ns users ws v s x ∙ either x (ticks_in x s) refl ∙ sym (ticks_in-filter test x (range_with_len 0 (length ws))))
  where
    test : ℕ → Bool
    test name = happens_in (slice_get ws name) v

    neither : (a b c : Bool) → (a && (b && false)) ≡ (c && false)
    neither a b c = ap (λ d. a && d) (and-false b) ∙ and-false a ∙ sym (and-false c)

    among : (x : ℕ) (w : Watch) → slice_get ws x ≡ Some w → ticks_in x (range_with_len 0 (length ws)) ≡ true
    among x w at = in-range 0 (length ws) x (omega arith) (omega (arith, slice_get_within ws x w at))

    alike : (x : ℕ) (o : Option Watch) → ticks_in x s ≡ false → slice_get ws x ≡ o →
        (is_user ns users x && (nat_lt x MAX_CLOCKS && happens_in (slice_get ws x) v)) ≡
        (ticks_in x (range_with_len 0 (length ws)) && happens_in (slice_get ws x) v)
    alike x None out at = rw at (neither (is_user ns users x) (nat_lt x MAX_CLOCKS) (ticks_in x (range_with_len 0 (length ws))))
    alike x (Some w) out at = rw at (by (happens w v) refl)
      where
        by : (b : Bool) → happens w v ≡ b → (is_user ns users x && (nat_lt x MAX_CLOCKS && b)) ≡ (ticks_in x (range_with_len 0 (length ws)) && b)
        by false e = neither (is_user ns users x) (nat_lt x MAX_CLOCKS) (ticks_in x (range_with_len 0 (length ws)))
        by true e =
            ap (λ b. b && (nat_lt x MAX_CLOCKS && true)) (happens-used ns users ws v s x w are start out at e)
            ∙ ap (λ b. b && true) (lt-ltb x MAX_CLOCKS (omega (arith, slice_get_within ws x w at, few)))
            ∙ sym (ap (λ b. b && true) (among x w at))

    either : (x : ℕ) (b : Bool) → ticks_in x s ≡ b → (ticks_in x s || (is_user ns users x && fires ws v x)) ≡
        (ticks_in x (range_with_len 0 (length ws)) && test x)
    either x false e = ap (λ b. b || (is_user ns users x && fires ws v x)) e ∙ alike x (slice_get ws x) e refl
    either x true e =
        let found = start.happen x e in
        ap (λ b. b || (is_user ns users x && fires ws v x)) e
        ∙ sym (ap (λ b. b && test x) (among x found.0 found.1.0) ∙ ap (λ o. happens_in o v) found.1.0 ∙ found.1.1)

-- they depend on what is seen of the variables alone

happens_in-alike : (o : Option Watch) (u v : ℕ → View) → ((n : ℕ) → u n ≡ v n) → happens_in o u ≡ happens_in o v
happens_in-alike None u v same = refl
happens_in-alike (Some w) u v same = happens-alike w u v same

filter-alike : (p q : ℕ → Bool) → ((x : ℕ) → p x ≡ q x) → (xs : List ℕ) → filter p xs ≡ filter q xs
filter-alike p q same [] = refl
filter-alike p q same (x ∷ xs) =
    ap (λ b. if b then x ∷ filter p xs else filter p xs) (same x) ∙ ap (λ ys. if q x then x ∷ ys else ys) (filter-alike p q same xs)

-- the names that are found of what is kept
pub names-kept : (plan : Plan) (views : ℕ → View) (v : Values) → Keeps plan views v → is_ascending v.names ≡ true →
    with_users v.touched.items v.users.items v.watches.items (view_at v.signals.items) v.names ≡ names_at plan.watches views
names-kept plan views v k ascends =
    ap (λ ws. with_users v.touched.items v.users.items ws seen v.names) k.watches
    ∙ names-found v.touched.items v.users.items plan.watches seen v.names k.users (record { ascends = ascends; happen = happen; quiet = quiet }) k.few
    ∙ filter-alike (λ name. happens_in (slice_get plan.watches name) seen) (λ name. happens_in (slice_get plan.watches name) views)
    (λ name. happens_in-alike (slice_get plan.watches name) seen views same) (range_with_len 0 (length plan.watches))
  where
    seen : ℕ → View
    seen = view_at v.signals.items

    same : (n : ℕ) → seen n ≡ views n
    same n = view_at-held v.signals.items n ∙ k.seen n

    happen : (x : ℕ) → ticks_in x v.names ≡ true → (w : Watch) × ((slice_get plan.watches x ≡ Some w) × (happens w seen ≡ true))
    happen x e =
        let was = k.recorded x e in
        let is = k.sole was.variable x was.sole in
        (is.watch, (is.there, is.recorded seen ∙ ap (λ w. w.heard) (same was.variable) ∙ was.heard))

    quiet : (n : ℕ) → ticks_in n v.touched.items ≡ false →
        IsQuiet (seen n) ⊎ ((x : ℕ) × ((users_of v.users.items n ≡ x ∷ []) × (ticks_in x v.names ≡ true)))
    quiet n e = by (k.quiet n e)
      where
        by : IsQuiet (views n) ⊎ IsNamed v.sole_names.items v.names n →
            IsQuiet (seen n) ⊎ ((x : ℕ) × ((users_of v.users.items n ≡ x ∷ []) × (ticks_in x v.names ≡ true)))
        by (inl q) = inl (subst IsQuiet (sym (same n)) q)
        by (inr is) = inr (is.name, ((k.sole n is.name is.sole).only, is.among))

-- the variables that the triggers of some names read

pub read_by_all : List ℕ → List Watch → List ℕ
read_by_all [] ws = []
read_by_all (x ∷ xs) ws = read_by (slice_get ws x) ++ read_by_all xs ws

settle_each-append : (ns ms : List ℕ) (hs : List Held) → settle_each (ns ++ ms) hs ≡ settle_each ms (settle_each ns hs)
settle_each-append [] ms hs = refl
settle_each-append (n ∷ ns) ms hs = settle_each-append ns ms (replaced n settle_held hs)

settle_read-all : (xs : List ℕ) (ws : List Watch) (hs : List Held) → settle_read xs ws hs ≡ settle_each (read_by_all xs ws) hs
unfolding read_by_all
settle_read-all [] ws hs = refl
settle_read-all (x ∷ xs) ws hs =
    settle_read-all xs ws (settle_each (read_by (slice_get ws x)) hs) ∙ sym (settle_each-append (read_by (slice_get ws x)) (read_by_all xs ws) hs)

ticks_in-both : (n : ℕ) (xs ys : List ℕ) → ticks_in n (xs ++ ys) ≡ (ticks_in n xs || ticks_in n ys)
ticks_in-both n [] ys = refl
ticks_in-both n (x ∷ xs) ys = by (nat_eq n x) (ticks_in-both n xs ys)
  where
    by : (b : Bool) → ticks_in n (xs ++ ys) ≡ (ticks_in n xs || ticks_in n ys) → (b || ticks_in n (xs ++ ys)) ≡ ((b || ticks_in n xs) || ticks_in n ys)
    by true later = refl
    by false later = later

read-there : (xs : List ℕ) (ws : List Watch) (x : ℕ) (w : Watch) → slice_get ws x ≡ Some w → ticks_in x xs ≡ true →
    ticks_in (variable_of w.trigger) (read_by_all xs ws) ≡ true
unfolding read_by_all
read-there [] ws x w at h = absurd (cc)
read-there (y ∷ xs) ws x w at h =
    ticks_in-both n (read_by (slice_get ws y)) (read_by_all xs ws) ∙ by (nat_eq x y) refl (read-there xs ws x w at)
  where
    n : ℕ
    n = variable_of w.trigger

    here : slice_get ws y ≡ Some w → ticks_in n (read_by (slice_get ws y)) ≡ true
    here e = ap (λ o. ticks_in n (read_by o)) e ∙ ap (λ b. b || false) (eq-eqb n n refl)

    by : (b : Bool) → nat_eq x y ≡ b → (ticks_in x xs ≡ true → ticks_in n (read_by_all xs ws) ≡ true) →
        (ticks_in n (read_by (slice_get ws y)) || ticks_in n (read_by_all xs ws)) ≡ true
    by true e later = ap (λ b. b || ticks_in n (read_by_all xs ws)) (here (ap (slice_get ws) (sym (eqb-true x y e)) ∙ at))
    by false e later =
        ap (λ b. ticks_in n (read_by (slice_get ws y)) || b) (later (sym (ap (λ b. b || ticks_in x xs) e) ∙ h))
        ∙ or-true (ticks_in n (read_by (slice_get ws y)))

-- THE END OF A TIME: the variables that changed are settled, and those that the triggers of its names read, where names were known
-- before
module _ (plan : Plan) (views : ℕ → View) (old : Values) (names : List ℕ) (k : Keeps plan views old) where
  Found : Type 0
  Found = names ≡ with_users old.touched.items old.users.items old.watches.items (view_at old.signals.items) old.names

  reads : List ℕ
  reads = read_by_all names old.watches.items

  known : Found → (x : ℕ) → ticks_in x old.names ≡ true → ticks_in x names ≡ true
  unfolding Found
  known found x h =
      ap (ticks_in x) found
      ∙ ticks_in-with_users old.touched.items old.users.items old.watches.items (view_at old.signals.items) old.names x
      ∙ ap (λ b. b || (is_user old.touched.items old.users.items x && fires old.watches.items (view_at old.signals.items) x)) h

  named-read : Found → (n : ℕ) → IsNamed old.sole_names.items old.names n → ticks_in n reads ≡ true
  unfolding reads
  named-read found n is =
      let sole = k.sole n is.name is.sole in
      let at : slice_get old.watches.items is.name ≡ Some sole.watch = ap (λ ws. slice_get ws is.name) k.watches ∙ sole.there in
      ap (λ m. ticks_in m (read_by_all names old.watches.items)) (sym sole.reads)
      ∙ read-there names old.watches.items is.name sole.watch at (known found is.name is.among)

  out : (a b : Bool) → (a || b) ≡ false → (a ≡ false) × (b ≡ false)
  out true b e = absurd (cc)
  out false b e = (refl, e)

  quiet-read : Found → (n : ℕ) → ticks_in n (reads ++ old.touched.items) ≡ false → IsQuiet (views n)
  quiet-read found n e = by (k.quiet n parts.1)
    where
      parts : (ticks_in n reads ≡ false) × (ticks_in n old.touched.items ≡ false)
      parts = out (ticks_in n reads) (ticks_in n old.touched.items) (sym (ticks_in-both n reads old.touched.items) ∙ e)

      by : IsQuiet (views n) ⊎ IsNamed old.sole_names.items old.names n → IsQuiet (views n)
      by (inl q) = q
      by (inr is) = absurd (cc (named-read found n is, parts.0))

  quiet-none : old.names ≡ [] → (n : ℕ) → ticks_in n old.touched.items ≡ false → IsQuiet (views n)
  quiet-none none n e = by (k.quiet n e)
    where
      by : IsQuiet (views n) ⊎ IsNamed old.sole_names.items old.names n → IsQuiet (views n)
      by (inl q) = q
      by (inr is) = absurd (let no : ticks_in is.name old.names ≡ false = ap (ticks_in is.name) none in cc (no, is.among))

  pub keeps-rested : (new : Values) (is_any : Bool) → SameTables old new →
      names ≡ with_users old.touched.items old.users.items old.watches.items (view_at old.signals.items) old.names →
      (is_any ≡ false → old.names ≡ []) →
      map held new.signals.items ≡ settle_each old.touched.items
      (if is_any then settle_read names old.watches.items (map held old.signals.items) else map held old.signals.items) →
      new.touched.items ≡ [] → new.names ≡ [] → Keeps plan (λ n. at_rest (views n)) new
  unfolding Found reads
  keeps-rested new true tables found any is none unnamed =
      let hs = map held old.signals.items in
      let ns = read_by_all names old.watches.items in
      keeps-settled plan views old new (ns ++ old.touched.items) k tables
      (is ∙ ap (settle_each old.touched.items) (settle_read-all names old.watches.items hs) ∙ sym (settle_each-append ns old.touched.items hs))
      none unnamed (quiet-read found)
      (λ n e. ticks_in-both n ns old.touched.items ∙ ap (λ b. ticks_in n ns || b) (k.flags n e) ∙ or-true (ticks_in n ns))
  keeps-rested new false tables found any is none unnamed =
      keeps-settled plan views old new old.touched.items k tables is none unnamed (quiet-none (any refl)) k.flags
