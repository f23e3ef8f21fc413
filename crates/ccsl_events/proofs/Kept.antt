-- What is kept goes on suiting its plan.
use Rattle.std.proofs.Common.{◌≡◌, ◌⊎◌, inl, inr, ℕ, zero, suc, ◌<◌, List, [], ◌∷◌, length, map, ◌||◌, Bool, true, false, not, Option, Some, None}
use Rattle.std.proofs.Common.{slice_get, slice_set, bytes_eq, nat_eq, nat_lt, if◌then◌else◌, refl, sym, ap, subst, ◌∙◌, ⊎_elim, arith, eqb-true, eq-eqb, lt-ltb}
use Rattle.std.proofs.lemmas.List.{length-set}
use Rattle.std.proofs.lemmas.Bool.{cases_eq, ne_eqb}
use Rattle.ccsl_base.specs.Clocks.{ticks_in, with_clock}
use Rattle.ccsl_base.proofs.Sets.{ticks_in-with_same, ticks_in-with_other}
use Rattle.ccsl_triggers.specs.Views.{View, no_view, with_value, at_rest}
use Rattle.ccsl_triggers.specs.Held.{Held, held, set_held, settle_held, forget_held, IsQuiet}
use Rattle.ccsl_events.specs.declared.codes.Entry.{Entry}
use Rattle.ccsl_events.specs.declared.codes.Entry.TheVariants.{Undeclared, Unused, Used}
use Rattle.ccsl_events.specs.declared.values.Values.{Values}
use Rattle.ccsl_events.specs.Dump.{Variable, Plan, is_declared, heard_by, heard_in}
use Rattle.ccsl_events.specs.Places.{entry_of}
use Rattle.ccsl_events.specs.Keeping.{AreUsers, AreSole, sole_at, IsNamed, IsRecorded, held_at, replaced, settle_each, SameTables, Kept, kept, touch_held}
use Rattle.ccsl_events.specs.Keeping.{set_one}
use Rattle.ccsl_events.specs.Keeping.{set_chain, chain, is_known, forget_kept, has_code, reads, Knows, SizeIn, Keeps}
use Rattle.ccsl_events.proofs.Settling.{held_at-same, held_at-other, settle_each-at, settle_each-view, settle_each-touched}
use Rattle.ccsl_events.proofs.Chains.{set_one-length, set_chain-at, set_chain-touched, set_chain-flags}

-- variables that are kept as before, but for what is seen of them
pub record SameLayout (old new : List Held) : Type 0 where
  pub len : length new ≡ length old
  pub sizes : (n : ℕ) → (held_at new n).size ≡ (held_at old n).size
  pub nexts : (n : ℕ) → (held_at new n).next ≡ (held_at old n).next

chain-same : (old new : List Held) → SameLayout old new → (most : ℕ) (first : Option ℕ) → chain most first new ≡ chain most first old
chain-same old new same zero first = refl
chain-same old new same (suc most) None = refl
chain-same old new same (suc most) (Some n) =
    ap (λ len. if nat_lt n len then n ∷ chain most (held_at new n).next new else []) same.len
    ∙ ap (λ o. if nat_lt n (length old) then n ∷ chain most o new else []) (same.nexts n)
    ∙ ap (λ ns. if nat_lt n (length old) then n ∷ ns else []) (chain-same old new same most (held_at old n).next)

knows-same : (plan : Plan) (old new : List Held) → SameLayout old new → (code : List ℕ) (e : Entry) → Knows plan old code e → Knows plan new code e
knows-same plan old new same code Undeclared k = k
knows-same plan old new same code Unused k = k
knows-same plan old new same code (Used first) k =
    (k.0, λ n. k.1 n ∙ ap (ticks_in n) (sym (ap (λ len. chain len (Some first) new) same.len ∙ chain-same old new same (length old) (Some first))))

pub keeps-same : (plan : Plan) (views views' : ℕ → View) (old new : Values) → Keeps plan views old → SameTables old new →
    SameLayout (map held old.signals.items) (map held new.signals.items) →
    ((n : ℕ) → (held_at (map held new.signals.items) n).view ≡ views' n) →
    ((n : ℕ) → ticks_in n new.touched.items ≡ false → IsQuiet (views' n) ⊎ IsNamed new.sole_names.items new.names n) →
    ((name : ℕ) → ticks_in name new.names ≡ true → IsRecorded new.sole_names.items views' name) →
    ((n : ℕ) → (held_at (map held new.signals.items) n).touched ≡ true → ticks_in n new.touched.items ≡ true) → Keeps plan views' new
keeps-same plan views views' old new k tables layout seen quiet recorded flags = record {
  watches = ap (λ w. w.items) tables.watches ∙ k.watches;
  few = k.few;
  none = tables.none ∙ k.none;
  users = subst (λ u. AreUsers plan.watches u.items) (sym tables.users) k.users;
  codes = λ code. knows-same plan (map held old.signals.items) (map held new.signals.items) layout code (entry_of new.codes code)
      (subst (λ c. Knows plan (map held old.signals.items) code (entry_of c code)) (sym tables.codes) (k.codes code));
  sizes = λ n. subst (λ size. SizeIn (slice_get plan.variables n) size) (sym (layout.sizes n)) (k.sizes n);
  seen = seen;
  quiet = quiet;
  sole =
      subst (λ names. AreSole plan.watches new.users.items names.items) (sym tables.sole_names)
      (subst (λ users. AreSole plan.watches users.items old.sole_names.items) (sym tables.users) k.sole);
  recorded = recorded;
  flags = flags;
}

pub tables-both : (a b c : Values) → SameTables a b → SameTables b c → SameTables a c
tables-both a b c s t = record {
  codes = t.codes ∙ s.codes;
  users = t.users ∙ s.users;
  watches = t.watches ∙ s.watches;
  none = t.none ∙ s.none;
  sole_names = t.sole_names ∙ s.sole_names;
}

-- the name of a variable is among others where it was, and the names stay
named-too : (old new : Values) (n : ℕ) → SameTables old new → ((name : ℕ) → ticks_in name old.names ≡ true → ticks_in name new.names ≡ true)
    → IsNamed old.sole_names.items old.names n → IsNamed new.sole_names.items new.names n
named-too old new n tables more is = record {
  name = is.name;
  sole = ap (λ names. sole_at names.items n) tables.sole_names ∙ is.sole;
  among = more is.name is.among;
}

quiet-or-named : (old new : Values) (n : ℕ) (v v' : View) → SameTables old new → ((name : ℕ) → ticks_in name old.names ≡ true → ticks_in name new.names ≡ true)
    → v ≡ v' → IsQuiet v ⊎ IsNamed old.sole_names.items old.names n → IsQuiet v' ⊎ IsNamed new.sole_names.items new.names n
quiet-or-named old new n v v' tables more e (inl q) = inl (subst IsQuiet e q)
quiet-or-named old new n v v' tables more e (inr is) = inr (named-too old new n tables more is)

recorded-too : (old new : Values) (views views' : ℕ → View) (name : ℕ) → SameTables old new
    → ((n : ℕ) → (views n).heard ≡ true → (views' n).heard ≡ true) → IsRecorded old.sole_names.items views name
    → IsRecorded new.sole_names.items views' name
recorded-too old new views views' name tables more is = record {
  variable = is.variable;
  sole = ap (λ names. sole_at names.items is.variable) tables.sole_names ∙ is.sole;
  heard = more is.variable is.heard;
}

-- the end of a time

settle_each-length : (ns : List ℕ) (hs : List Held) → length (settle_each ns hs) ≡ length hs
settle_each-length [] hs = refl
settle_each-length (n ∷ ns) hs = settle_each-length ns (slice_set hs n (settle_held (held_at hs n))) ∙ length-set hs n (settle_held (held_at hs n))

settle-layout : (ns : List ℕ) (hs : List Held) → SameLayout hs (settle_each ns hs)
settle-layout ns hs = record {
  len = settle_each-length ns hs;
  sizes = λ n. ap (λ h. h.size) (settle_each-at ns hs n) ∙ size (ticks_in n ns) (held_at hs n);
  nexts = λ n. ap (λ h. h.next) (settle_each-at ns hs n) ∙ next (ticks_in n ns) (held_at hs n);
}
  where
    size : (b : Bool) (h : Held) → (if b then settle_held h else h).size ≡ h.size
    size true h = refl
    size false h = refl

    next : (b : Bool) (h : Held) → (if b then settle_held h else h).next ≡ h.next
    next true h = refl
    next false h = refl

-- Those with some numbers are settled, which are all that changed.
pub keeps-settled : (plan : Plan) (views : ℕ → View) (old new : Values) (ns : List ℕ) → Keeps plan views old → SameTables old new →
    map held new.signals.items ≡ settle_each ns (map held old.signals.items) → new.touched.items ≡ [] → new.names ≡ [] →
    ((n : ℕ) → ticks_in n ns ≡ false → IsQuiet (views n)) →
    ((n : ℕ) → (held_at (map held old.signals.items) n).touched ≡ true → ticks_in n ns ≡ true) →
    Keeps plan (λ n. at_rest (views n)) new
keeps-settled plan views old new ns k tables is none unnamed quiet flags =
    keeps-same plan views (λ n. at_rest (views n)) old new k tables (subst (SameLayout hs) (sym is) (settle-layout ns hs))
    (λ n.
    ap (λ gs. (held_at gs n).view) is
    ∙ settle_each-view ns hs n (λ e. subst IsQuiet (sym (k.seen n)) (quiet n e))
    ∙ ap at_rest (k.seen n))
    (λ n e. inl (record { same = refl; unheard = refl }))
    (λ name e. absurd (let no : ticks_in name new.names ≡ false = ap (ticks_in name) unnamed in cc (no, e)))
    (λ n e. absurd (let no : (held_at (settle_each ns hs) n).touched ≡ false = settle_each-touched ns hs n (flags n) in
    let yes : (held_at (settle_each ns hs) n).touched ≡ true = sym (ap (λ gs. (held_at gs n).touched) is) ∙ e in cc (no, yes)))
  where
    hs : List Held
    hs = map held old.signals.items

-- a value

set_chain-length : (most : ℕ) (first : Option ℕ) (letters : List ℕ) (dumped : Bool) (k : Kept)
    → length (set_chain most first letters dumped k).all ≡ length k.all
set_chain-length zero first letters dumped k = refl
set_chain-length (suc most) None letters dumped k = refl
set_chain-length (suc most) (Some number) letters dumped k =
    by (nat_lt number (length k.all)) (set_chain-length most (held_at k.all number).next letters dumped (set_one number letters dumped k))
  where
    by : (b : Bool)
        → length (set_chain most (held_at k.all number).next letters dumped (set_one number letters dumped k)).all ≡ length
        (set_one number letters dumped k).all → length (if b then set_chain most (held_at k.all number).next letters dumped
        (set_one number letters dumped k) else k).all ≡ length k.all
    by false later = refl
    by true later = later ∙ set_one-length number letters dumped k

set-layout : (most : ℕ) (first : Option ℕ) (letters : List ℕ) (dumped : Bool) (k : Kept) → SameLayout k.all (set_chain most first letters dumped k).all
set-layout most first letters dumped k = record {
  len = set_chain-length most first letters dumped k;
  sizes = λ n. ap (λ h. h.size) (set_chain-at most first letters dumped k n) ∙ size (ticks_in n (chain most first k.all)) (held_at k.all n);
  nexts = λ n. ap (λ h. h.next) (set_chain-at most first letters dumped k n) ∙ next (ticks_in n (chain most first k.all)) (held_at k.all n);
}
  where
    size : (b : Bool) (h : Held) → (if b then touch_held letters dumped h else h).size ≡ h.size
    size true h = refl
    size false h = refl

    next : (b : Bool) (h : Held) → (if b then touch_held letters dumped h else h).next ≡ h.next
    next true h = refl
    next false h = refl

-- what a variable hears of a value, by whether it has the code
heard-by : (code letters : List ℕ) (dumped : Bool) (o : Option Variable) (h : Held) (v : View) → h.view ≡ v → SizeIn o h.size →
    (if has_code code o then touch_held letters dumped h else h).view ≡ heard_by code letters dumped o v
heard-by code letters dumped None h v seen size = seen
heard-by code letters dumped (Some x) h v seen size = by (bytes_eq x.code code)
  where
    by : (b : Bool) → (if b then touch_held letters dumped h else h).view ≡ (if b then with_value x.size letters dumped v else v)
    by true = ap (λ n. with_value n letters dumped h.view) size ∙ ap (with_value x.size letters dumped) seen
    by false = seen

unread : (code letters : List ℕ) (dumped : Bool) (o : Option Variable) (v : View) → has_code code o ≡ false → v ≡ heard_by code letters dumped o v
unread code letters dumped None v e = refl
unread code letters dumped (Some x) v e = rw e refl

-- a record that was heard stays so
heard-stays : (code letters : List ℕ) (dumped : Bool) (o : Option Variable) (v : View) → v.heard ≡ true → (heard_by code letters dumped o v).heard ≡ true
heard-stays code letters dumped None v e = e
heard-stays code letters dumped (Some x) v e = by (bytes_eq x.code code)
  where
    by : (b : Bool) → (if b then with_value x.size letters dumped v else v).heard ≡ true
    by true = ap (λ h. h || not dumped) e
    by false = e

pub keeps-set : (plan : Plan) (views : ℕ → View) (old new : Values) (code letters : List ℕ) (dumped : Bool) (first : ℕ) → Keeps plan views old
    → SameTables old new → new.names ≡ old.names →
    kept new ≡ set_chain (length (map held old.signals.items)) (Some first) letters dumped (kept old) →
    ((n : ℕ) → reads plan code n ≡ ticks_in n (chain (length (map held old.signals.items)) (Some first) (map held old.signals.items))) →
    Keeps plan (heard_in plan code letters dumped views) new
keeps-set plan views old new code letters dumped first k tables names is readers =
    keeps-same plan views views' old new k tables (subst (λ s. SameLayout hs s.all) (sym is)
    (set-layout most (Some first) letters dumped (kept old))) seen quiet
    (λ name e.
    recorded-too old new views views' name tables (λ n h. heard-stays code letters dumped (slice_get plan.variables n) (views n) h)
    (k.recorded name (sym (ap (ticks_in name) names) ∙ e)))
    (λ n. subst (λ s. (held_at s.all n).touched ≡ true → ticks_in n s.touched ≡ true) (sym is)
    (set_chain-flags most (Some first) letters dumped (kept old) k.flags n))
  where
    hs : List Held
    hs = map held old.signals.items

    most : ℕ
    most = length hs

    views' : ℕ → View
    views' = heard_in plan code letters dumped views

    hears : ℕ → Bool
    hears n = ticks_in n (chain most (Some first) hs)

    at : (n : ℕ) → held_at (map held new.signals.items) n ≡ (if hears n then touch_held letters dumped (held_at hs n) else held_at hs n)
    at n = ap (λ s. held_at s.all n) is ∙ set_chain-at most (Some first) letters dumped (kept old) n

    seen : (n : ℕ) → (held_at (map held new.signals.items) n).view ≡ views' n
    seen n =
        ap (λ h. h.view) (at n)
        ∙ ap (λ b. (if b then touch_held letters dumped (held_at hs n) else held_at hs n).view) (sym (readers n))
        ∙ heard-by code letters dumped (slice_get plan.variables n) (held_at hs n) (views n) (k.seen n) (k.sizes n)

    touched : (n : ℕ) → hears n ≡ true → ticks_in n new.touched.items ≡ true
    touched n e =
        ap (λ s. ticks_in n s.touched) is
        ∙ set_chain-flags most (Some first) letters dumped (kept old) k.flags n
        (ap (λ h. h.touched) (set_chain-at most (Some first) letters dumped (kept old) n)
        ∙ ap (λ b. (if b then touch_held letters dumped (held_at hs n) else held_at hs n).touched) e)

    quiet : (n : ℕ) → ticks_in n new.touched.items ≡ false → IsQuiet (views' n) ⊎ IsNamed new.sole_names.items new.names n
    quiet n e = by (hears n) refl
      where
        was : (b : Bool) → ticks_in n old.touched.items ≡ b → ticks_in n old.touched.items ≡ false
        was false f = f
        was true f = absurd (let yes : ticks_in n new.touched.items ≡ true =
            ap (λ s. ticks_in n s.touched) is ∙ set_chain-touched most (Some first) letters dumped (kept old) n f in cc (yes, e))

        by : (b : Bool) → hears n ≡ b → IsQuiet (views' n) ⊎ IsNamed new.sole_names.items new.names n
        by true h = absurd (let yes : ticks_in n new.touched.items ≡ true = touched n h in cc (yes, e))
        by false h =
            quiet-or-named old new n (views n) (views' n) tables (λ name f. ap (ticks_in name) names ∙ f)
            (unread code letters dumped (slice_get plan.variables n) (views n) (readers n ∙ h))
            (k.quiet n (was (ticks_in n old.touched.items) refl))

-- a record of a variable for which one name waits

chain-ends : (most : ℕ) (hs : List Held) (first : Option ℕ) → first ≡ None → chain most first hs ≡ []
chain-ends zero hs first e = refl
chain-ends (suc most) hs None e = refl
chain-ends (suc most) hs (Some n) e = absurd (cc)

-- a variable with no next is the only one of its code
chain-alone : (len number : ℕ) (hs : List Held) → number < len → len ≡ length hs → (held_at hs number).next ≡ None → chain len (Some number) hs ≡ number ∷ []
chain-alone zero number hs l e none = absurd (omega (arith, l))
chain-alone (suc most) number hs l e none =
    ap (λ b. if b then number ∷ chain most (held_at hs number).next hs else []) (lt-ltb number (length hs) (omega (arith, l, e)))
    ∙ ap (λ ns. number ∷ ns) (chain-ends most hs (held_at hs number).next none)

replaced-at : (hs : List Held) (number : ℕ) (f : Held → Held) (n : ℕ) → number < length hs →
    held_at (replaced number f hs) n ≡ (if nat_eq n number then f (held_at hs n) else held_at hs n)
replaced-at hs number f n l =
    ⊎_elim
    (λ (e : n ≡ number).
    ap (held_at (replaced number f hs)) e ∙ held_at-same hs number f l
    ∙ sym (ap (λ t. if t then f (held_at hs n) else held_at hs n) (eq-eqb n number e) ∙ ap (λ i. f (held_at hs i)) e))
    (λ (e : n ≡ number → ⊥).
    held_at-other hs number n f e ∙ sym (ap (λ t. if t then f (held_at hs n) else held_at hs n) (ne_eqb n number e)))
    (cases_eq n number)

name-there : (name : ℕ) (set : List ℕ) (x : ℕ) → ticks_in x set ≡ true → ticks_in x (with_clock name set) ≡ true
name-there name set x h =
    ⊎_elim
    (λ (e : x ≡ name). ap (λ y. ticks_in y (with_clock name set)) e ∙ ticks_in-with_same name set)
    (λ (n : x ≡ name → ⊥). ticks_in-with_other name x set n ∙ h)
    (cases_eq x name)

pub keeps-record : (plan : Plan) (views : ℕ → View) (old new : Values) (code letters : List ℕ) (number name : ℕ) → Keeps plan views old →
    SameTables old new → map held new.signals.items ≡ replaced number (set_held letters false) (map held old.signals.items) →
    new.touched ≡ old.touched → new.names ≡ with_clock name old.names → number < length (map held old.signals.items) →
    (held_at (map held old.signals.items) number).next ≡ None → sole_at old.sole_names.items number ≡ Some name →
    ((n : ℕ) → reads plan code n ≡ ticks_in n (chain (length (map held old.signals.items)) (Some number) (map held old.signals.items))) →
    Keeps plan (heard_in plan code letters false views) new
keeps-record plan views old new code letters number name k tables is touched names l alone sole readers =
    keeps-same plan views views' old new k tables layout seen quiet recorded flags
  where
    hs : List Held
    hs = map held old.signals.items

    views' : ℕ → View
    views' = heard_in plan code letters false views

    at : (n : ℕ) → held_at (map held new.signals.items) n ≡ (if nat_eq n number then set_held letters false (held_at hs n) else held_at hs n)
    at n = ap (λ gs. held_at gs n) is ∙ replaced-at hs number (set_held letters false) n l

    size : (b : Bool) (h : Held) → (if b then set_held letters false h else h).size ≡ h.size
    size true h = refl
    size false h = refl

    next : (b : Bool) (h : Held) → (if b then set_held letters false h else h).next ≡ h.next
    next true h = refl
    next false h = refl

    flag : (b : Bool) (h : Held) → (if b then set_held letters false h else h).touched ≡ h.touched
    flag true h = refl
    flag false h = refl

    view : (b : Bool) (h : Held) → (if b then set_held letters false h else h).view ≡ (if b then touch_held letters false h else h).view
    view true h = refl
    view false h = refl

    layout : SameLayout hs (map held new.signals.items)
    layout = record {
      len = ap length is ∙ length-set hs number (set_held letters false (held_at hs number));
      sizes = λ n. ap (λ h. h.size) (at n) ∙ size (nat_eq n number) (held_at hs n);
      nexts = λ n. ap (λ h. h.next) (at n) ∙ next (nat_eq n number) (held_at hs n);
    }

    or-false : (b : Bool) → (b || false) ≡ b
    or-false true = refl
    or-false false = refl

    hears : (n : ℕ) → reads plan code n ≡ nat_eq n number
    hears n = readers n ∙ ap (ticks_in n) (chain-alone (length hs) number hs l refl alone) ∙ or-false (nat_eq n number)

    seen : (n : ℕ) → (held_at (map held new.signals.items) n).view ≡ views' n
    seen n =
        ap (λ h. h.view) (at n)
        ∙ view (nat_eq n number) (held_at hs n)
        ∙ ap (λ b. (if b then touch_held letters false (held_at hs n) else held_at hs n).view) (sym (hears n))
        ∙ heard-by code letters false (slice_get plan.variables n) (held_at hs n) (views n) (k.seen n) (k.sizes n)

    sole-too : sole_at new.sole_names.items number ≡ Some name
    sole-too = ap (λ ns. sole_at ns.items number) tables.sole_names ∙ sole

    there : (x : ℕ) → ticks_in x old.names ≡ true → ticks_in x new.names ≡ true
    there x h = ap (ticks_in x) names ∙ name-there name old.names x h

    quiet : (n : ℕ) → ticks_in n new.touched.items ≡ false → IsQuiet (views' n) ⊎ IsNamed new.sole_names.items new.names n
    quiet n e = by (nat_eq n number) refl
      where
        by : (b : Bool) → nat_eq n number ≡ b → IsQuiet (views' n) ⊎ IsNamed new.sole_names.items new.names n
        by true h = inr (record {
          name = name;
          sole = ap (sole_at new.sole_names.items) (eqb-true n number h) ∙ sole-too;
          among = ap (ticks_in name) names ∙ ticks_in-with_same name old.names;
        })
        by false h =
            quiet-or-named old new n (views n) (views' n) tables there
            (unread code letters false (slice_get plan.variables n) (views n) (hears n ∙ h))
            (k.quiet n (sym (ap (λ t. ticks_in n t.items) touched) ∙ e))

    or-true : (b : Bool) → (b || true) ≡ true
    or-true true = refl
    or-true false = refl

    heard : (views' number).heard ≡ true
    heard =
        sym (ap (λ v. v.heard) (seen number))
        ∙ ap (λ h. h.view.heard) (at number)
        ∙ ap (λ b. (if b then set_held letters false (held_at hs number) else held_at hs number).view.heard) (eq-eqb number number refl)
        ∙ or-true (held_at hs number).view.heard

    recorded : (x : ℕ) → ticks_in x new.names ≡ true → IsRecorded new.sole_names.items views' x
    recorded x e =
        ⊎_elim
        (λ (same : x ≡ name). record { variable = number; sole = sole-too ∙ ap (λ y. Some y) (sym same); heard = heard })
        (λ (other : x ≡ name → ⊥).
        recorded-too old new views views' x tables (λ n h. heard-stays code letters false (slice_get plan.variables n) (views n) h)
        (k.recorded x (sym (ap (ticks_in x) names ∙ ticks_in-with_other name x old.names other) ∙ e)))
        (cases_eq x name)

    flags : (n : ℕ) → (held_at (map held new.signals.items) n).touched ≡ true → ticks_in n new.touched.items ≡ true
    flags n e =
        ap (λ t. ticks_in n t.items) touched
        ∙ k.flags n (sym (ap (λ h. h.touched) (at n) ∙ flag (nat_eq n number) (held_at hs n)) ∙ e)

pub declared : (plan : Plan) (hs : List Held) (code : List ℕ) (known : Entry) → Knows plan hs code known → is_declared plan code ≡ is_known known
declared plan hs code Undeclared k = k
declared plan hs code Unused k = k.0
declared plan hs code (Used first) k = k.0

-- a gap

forget-at : (hs : List Held) (n : ℕ) → held_at (map forget_held hs) n ≡ forget_held (held_at hs n)
forget-at [] n = refl
forget-at (h ∷ hs) zero = refl
forget-at (h ∷ hs) (suc n) = forget-at hs n

forget-length : (hs : List Held) → length (map forget_held hs) ≡ length hs
forget-length [] = refl
forget-length (h ∷ hs) = ap suc (forget-length hs)

pub keeps-forgotten : (plan : Plan) (views : ℕ → View) (old new : Values) → Keeps plan views old → SameTables old new → kept new ≡ forget_kept (kept old) →
    new.names ≡ [] → Keeps plan (λ n. no_view) new
keeps-forgotten plan views old new k tables is unnamed =
    keeps-same plan views (λ n. no_view) old new k tables
    (subst (λ s. SameLayout hs s.all) (sym is) (record {
      len = forget-length hs;
      sizes = λ n. ap (λ h. h.size) (forget-at hs n);
      nexts =
          λ n. ap (λ h. h.next) (forget-at hs n);
    }))
    (λ n. ap (λ s. (held_at s.all n).view) is ∙ ap (λ h. h.view) (forget-at hs n))
    (λ n e. inl (record { same = refl; unheard = refl }))
    (λ name e. absurd (let no : ticks_in name new.names ≡ false = ap (ticks_in name) unnamed in cc (no, e)))
    (λ n e. ap (λ s. ticks_in n s.touched) is ∙ k.flags n (sym (ap (λ s. (held_at s.all n).touched) is ∙ ap (λ h. h.touched) (forget-at hs n)) ∙ e))
  where
    hs : List Held
    hs = map held old.signals.items
