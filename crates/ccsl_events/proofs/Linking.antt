-- Variables that are kept, one more after another.
use Rattle.std.proofs.Common.{◌≡◌, ℕ, zero, suc, ◌+◌, ◌<◌, ◌≤◌, List, [], ◌∷◌, ◌++◌, length, ◌||◌, ◌&&◌, Bool, true, false, Option, Some, None, nat_eq}
use Rattle.std.proofs.Common.{if◌then◌else◌, slice_get, slice_set, refl, sym, ap, ap₂, ◌∙◌, ⊎_elim, arith, lt-ltb, eq-eqb}
use Rattle.std.specs.Prelude.{◌==◌}
use Rattle.std.proofs.Math.ListN.{get_or-append}
use Rattle.std.proofs.lemmas.List.{map-append, length-map, get_or_past, length-set}
use Rattle.std.proofs.lemmas.Bool.{cases_eq, cases_lt, ne_eqb}
use Rattle.ccsl_base.specs.Clocks.{ticks_in}
use Rattle.ccsl_triggers.specs.Held.{Held, new_held}
use Rattle.ccsl_events.specs.declared.binder.Source.{Source}
use Rattle.ccsl_events.specs.declared.codes.Entry.{Entry}
use Rattle.ccsl_events.specs.declared.codes.Entry.TheVariants.{Undeclared, Unused, Used}
use Rattle.ccsl_events.specs.Keeping.{held_at, chain}
use Rattle.ccsl_events.specs.Links.{first_in, has_number, alone, IsLinked}

-- ## Lists with one more

held-before : (hs : List Held) (h : Held) (n : ℕ) → n < length hs → held_at (hs ++ h ∷ []) n ≡ held_at hs n
held-before hs h n l = get_or-append hs (h ∷ []) (new_held 0) n l

held-last : (hs : List Held) (h : Held) (n : ℕ) → n ≡ length hs → held_at (hs ++ h ∷ []) n ≡ h
held-last [] h n e = rw e refl
held-last (g ∷ hs) h zero e = absurd (omega (arith, e))
held-last (g ∷ hs) h (suc n) e = held-last hs h n (omega (arith, e))

held-past : (hs : List Held) (n : ℕ) → length hs ≤ n → held_at hs n ≡ new_held 0
held-past hs n l = get_or_past hs n (new_held 0) l

length-last : {A : Type 0} (xs : List A) (x : A) → length (xs ++ x ∷ []) ≡ length xs + 1
length-last [] x = refl
length-last (y ∷ xs) x = ap suc (length-last xs x) ∙ omega arith

or-none : (b : Bool) → b ≡ (b || false)
or-none true = refl
or-none false = refl

got-past : (ss : List Source) (code n : ℕ) → length ss ≤ n → has_number code (slice_get ss n) ≡ false
got-past [] code n l = refl
got-past (s ∷ ss) code zero l = absurd (omega (arith, l))
got-past (s ∷ ss) code (suc n) l = got-past ss code n (omega (arith, l))

got-before : (ss : List Source) (s : Source) (code n : ℕ) → n < length ss → has_number code (slice_get (ss ++ s ∷ []) n) ≡ has_number code (slice_get ss n)
got-before [] s code n l = absurd (omega (arith, l))
got-before (t ∷ ss) s code zero l = refl
got-before (t ∷ ss) s code (suc n) l = got-before ss s code n (omega (arith, l))

got-at : (ss : List Source) (s : Source) (code n : ℕ) → n ≡ length ss → has_number code (slice_get (ss ++ s ∷ []) n) ≡ s.code == code
got-at [] s code zero e = refl
got-at [] s code (suc n) e = absurd (omega (arith, e))
got-at (t ∷ ss) s code zero e = absurd (omega (arith, e))
got-at (t ∷ ss) s code (suc n) e = got-at ss s code n (omega (arith, e))

got-last : (ss : List Source) (s : Source) (code n : ℕ)
    → has_number code (slice_get (ss ++ s ∷ []) n) ≡ ((nat_eq n (length ss) && (s.code == code)) || has_number code (slice_get ss n))
got-last ss s code n =
    ⊎_elim
    (λ (before : n < length ss).
    got-before ss s code n before
    ∙ sym (ap (λ b. (b && (s.code == code)) || has_number code (slice_get ss n)) (ne_eqb n (length ss) (λ e. absurd (omega (arith, e, before))))))
    (λ (after : length ss ≤ n).
    ⊎_elim
    (λ (last : n ≡ length ss).
    got-at ss s code n last ∙ or-none (s.code == code)
    ∙ sym (ap₂ (λ b h. (b && (s.code == code)) || h) (eq-eqb n (length ss) last) (got-past ss code n after)))
    (λ (past : n ≡ length ss → ⊥).
    got-past (ss ++ s ∷ []) code n (omega (arith, after, past, length-last ss s))
    ∙ sym (ap₂ (λ b h. (b && (s.code == code)) || h) (ne_eqb n (length ss) past) (got-past ss code n after)))
    (cases_eq n (length ss)))
    (cases_lt n (length ss))

entry-same : (es : List Entry) (n : ℕ) (e : Entry) → n < length es → slice_get (slice_set es n e) n ≡ Some e
entry-same [] n e l = absurd (omega (arith, l))
entry-same (d ∷ es) zero e l = refl
entry-same (d ∷ es) (suc n) e l = entry-same es n e (omega (arith, l))

entry-other : (es : List Entry) (n m : ℕ) (e : Entry) → (m ≡ n → ⊥) → slice_get (slice_set es n e) m ≡ slice_get es m
entry-other [] n m e ne = refl
entry-other (d ∷ es) zero zero e ne = absurd (ne refl)
entry-other (d ∷ es) zero (suc m) e ne = refl
entry-other (d ∷ es) (suc n) zero e ne = refl
entry-other (d ∷ es) (suc n) (suc m) e ne = entry-other es n m e (λ same. ne (ap suc same))

-- ## Chains

-- a chain from a variable on is the same where one more is kept, whatever bounds its length
pub chain-longer : (a b : ℕ) (hs : List Held) (h : Held) (first : Option ℕ) → ((n next : ℕ) → (held_at hs n).next ≡ Some next → next < n) →
    ((f : ℕ) → first ≡ Some f → f < length hs) → ((f : ℕ) → first ≡ Some f → f < a) → ((f : ℕ) → first ≡ Some f → f < b) →
    chain a first (hs ++ h ∷ []) ≡ chain b first hs
chain-longer zero zero hs h None down low la lb = refl
chain-longer zero (suc b) hs h None down low la lb = refl
chain-longer (suc a) zero hs h None down low la lb = refl
chain-longer (suc a) (suc b) hs h None down low la lb = refl
chain-longer zero b hs h (Some f) down low la lb = absurd (omega (arith, la f refl))
chain-longer (suc a) zero hs h (Some f) down low la lb = absurd (omega (arith, lb f refl))
chain-longer (suc a) (suc b) hs h (Some f) down low la lb =
    let here : f < length hs = low f refl in
    let below : f < suc a = la f refl in
    let under : f < suc b = lb f refl in
    ap (λ t. if t then f ∷ chain a (held_at (hs ++ h ∷ []) f).next (hs ++ h ∷ []) else [])
    (lt-ltb f (length (hs ++ h ∷ [])) (omega (arith, here, length-last hs h)))
    ∙ ap (λ g. f ∷ chain a g.next (hs ++ h ∷ [])) (held-before hs h f here)
    ∙ ap (λ ns. f ∷ ns)
    (chain-longer a b hs h (held_at hs f).next down
    (λ j e. omega (arith, down f j e, here))
    (λ j e. omega (arith, down f j e, below))
    (λ j e. omega (arith, down f j e, under)))
    ∙ sym (ap (λ t. if t then f ∷ chain b (held_at hs f).next hs else []) (lt-ltb f (length hs) here))

-- ## One more variable

first-used : (o : Option Entry) (f : ℕ) → first_in o ≡ Some f → o ≡ Some (Used f)
first-used None f e = absurd (cc)
first-used (Some Undeclared) f e = absurd (cc)
first-used (Some Unused) f e = absurd (cc)
first-used (Some (Used g)) f e = cc

pub linked-more : (codes : ℕ) (ss : List Source) (hs : List Held) (es : List Entry) (s : Source) (h : Held) → IsLinked codes ss hs es → s.code < codes →
    h ≡ record (new_held s.size) { next = first_in (slice_get es s.code) } →
    IsLinked codes (ss ++ s ∷ []) (hs ++ h ∷ []) (slice_set es s.code (Used (length hs)))
linked-more codes ss hs es s h k l is = record {
  new =
      map-append alone hs (h ∷ []) ∙ ap₂ (λ gs g. gs ++ g ∷ []) k.new (ap alone is)
      ∙ sym (map-append (λ t. new_held t.size) ss (s ∷ []));
  len = length-set es s.code (Used (length hs)) ∙ k.len;
  declared = λ code e. ⊎_elim
      (λ (same : code ≡ s.code). let used = entry-same es s.code (Used (length hs)) inside in absurd (cc (used, same, e)))
      (λ (other : code ≡ s.code → ⊥). k.declared code (sym (entry-other es s.code code (Used (length hs)) other) ∙ e))
      (cases_eq code s.code);
  behind = behind;
  firsts = firsts;
  chains = λ code n. ⊎_elim (λ (same : code ≡ s.code). own code n same) (λ (other : code ≡ s.code → ⊥). others code n other) (cases_eq code s.code);
}
  where
    inside : s.code < length es
    inside = omega (arith, l, k.len)

    count : length hs ≡ length ss
    count = sym (length-map hs alone) ∙ ap length k.new ∙ length-map ss (λ t. new_held t.size)

    hs' : List Held
    hs' = hs ++ h ∷ []

    es' : List Entry
    es' = slice_set es s.code (Used (length hs))

    low : (code f : ℕ) → first_in (slice_get es code) ≡ Some f → f < length hs
    low code f e = k.firsts code f (first-used (slice_get es code) f e)

    behind : (n next : ℕ) → (held_at hs' n).next ≡ Some next → next < n
    behind n next e =
        ⊎_elim
        (λ (before : n < length hs). k.behind n next (ap (λ g. g.next) (sym (held-before hs h n before)) ∙ e))
        (λ (after : length hs ≤ n).
        ⊎_elim
        (λ (last : n ≡ length hs).
        omega (arith, last, low s.code next (ap (λ g. g.next) (sym is) ∙ ap (λ g. g.next) (sym (held-last hs h n last)) ∙ e)))
        (λ (past : n ≡ length hs → ⊥).
        let none : held_at hs' n ≡ new_held 0 = held-past hs' n (omega (arith, after, past, length-last hs h)) in
        let never : None ≡ Some next = ap (λ g. g.next) (sym none) ∙ e in
        absurd (cc (never)))
        (cases_eq n (length hs)))
        (cases_lt n (length hs))

    firsts : (code first : ℕ) → slice_get es' code ≡ Some (Used first) → first < length hs'
    firsts code first e =
        ⊎_elim
        (λ (same : code ≡ s.code).
        let used : slice_get es' s.code ≡ Some (Used (length hs)) = entry-same es s.code (Used (length hs)) inside in
        let is_last : first ≡ length hs = cc (used, same, e) in
        omega (arith, is_last, length-last hs h))
        (λ (other : code ≡ s.code → ⊥).
        omega (arith, k.firsts code first (sym (entry-other es s.code code (Used (length hs)) other) ∙ e), length-last hs h))
        (cases_eq code s.code)

    longer : (a : ℕ) (code : ℕ) → length hs ≤ a → chain a (first_in (slice_get es code)) hs' ≡ chain (length hs) (first_in (slice_get es code)) hs
    longer a code more =
        chain-longer a (length hs) hs h (first_in (slice_get es code)) k.behind (low code) (λ f e. omega (arith, low code f e, more)) (low code)

    others : (code n : ℕ) → (code ≡ s.code → ⊥)
        → has_number code (slice_get (ss ++ s ∷ []) n) ≡ ticks_in n (chain (length hs') (first_in (slice_get es' code)) hs')
    others code n other =
        got-last ss s code n
        ∙ ap (λ b. (nat_eq n (length ss) && b) || has_number code (slice_get ss n)) (ne_eqb s.code code (λ e. other (sym e)))
        ∙ no (nat_eq n (length ss)) (has_number code (slice_get ss n))
        ∙ k.chains code n
        ∙ sym (ap (λ o. ticks_in n (chain (length hs') (first_in o) hs')) (entry-other es s.code code (Used (length hs)) other)
        ∙ ap (ticks_in n) (longer (length hs') code (omega (arith, length-last hs h))))
      where
        no : (a b : Bool) → ((a && false) || b) ≡ b
        no true b = refl
        no false b = refl

    links_of : ℕ → List ℕ
    links_of code = chain (length hs) (first_in (slice_get es code)) hs

    last-chain : chain (length hs') (Some (length hs)) hs' ≡ length hs ∷ links_of s.code
    last-chain =
        ap (λ m. chain m (Some (length hs)) hs') (length-last hs h ∙ plus (length hs))
        ∙ ap (λ t. if t then length hs ∷ chain (length hs) (held_at hs' (length hs)).next hs' else [])
        (lt-ltb (length hs) (length hs') (omega (arith, length-last hs h)))
        ∙ ap (λ g. length hs ∷ chain (length hs) g.next hs') (held-last hs h (length hs) refl ∙ is)
        ∙ ap (λ ns. length hs ∷ ns) (longer (length hs) s.code (omega arith))
      where
        plus : (m : ℕ) → m + 1 ≡ suc m
        plus m = omega arith

    own : (code n : ℕ) → code ≡ s.code → has_number code (slice_get (ss ++ s ∷ []) n) ≡ ticks_in n (chain (length hs') (first_in (slice_get es' code)) hs')
    own code n same =
        ap (λ c. has_number c (slice_get (ss ++ s ∷ []) n)) same
        ∙ got-last ss s s.code n
        ∙ ap (λ b. (nat_eq n (length ss) && b) || has_number s.code (slice_get ss n)) (eq-eqb s.code s.code refl)
        ∙ yes (nat_eq n (length ss)) (has_number s.code (slice_get ss n))
        ∙ ap₂ (λ m b. nat_eq n m || b) (sym count) (k.chains s.code n)
        ∙ sym (ap (λ c. ticks_in n (chain (length hs') (first_in (slice_get es' c)) hs')) same
        ∙ ap (λ o. ticks_in n (chain (length hs') (first_in o) hs')) (entry-same es s.code (Used (length hs)) inside)
        ∙ ap (ticks_in n) last-chain)
      where
        yes : (a b : Bool) → ((a && true) || b) ≡ (a || b)
        yes true b = refl
        yes false b = refl
