-- A certificate by splitting on one clock after the other: the line of a full assignment is that of a formula that is false under it,
-- or of the clause that a declared clock ticks, and the line of a lesser one follows from those of the two that know one clock more.
use Rattle.std.proofs.Common.{◌≡◌, ◌⊎◌, ℕ, zero, suc, ◌<◌, ◌≤◌, List, [], ◌∷◌, ◌++◌, length, Bool, true, false, not, ◌&&◌, ◌||◌, cond, Option, Some, None, refl}
use Rattle.std.proofs.Common.{sym, ap, ap₂, ◌∙◌, ⊎_elim, inl, inr, subst, arith, slice_get, append_assoc, append-nil, nat_eq, nat_lt}
use Rattle.std.specs.List.{All}
use Rattle.std.proofs.lemmas.Bool.{cases_eq, and_parts, and_from, eq-eqb, ne_eqb, lt-ltb, or_parts}
use Rattle.std.proofs.lemmas.List.Elements.{All-head, All-tail}
use Rattle.ccsl_base.specs.Clocks.{ticks_in, is_ascending, are_below}
use Rattle.ccsl_base.specs.Bits.{members_where}
use Rattle.ccsl_base.proofs.Picked.{ticks_in-members, members-ascending, members-below}
use Rattle.ccsl_formula.specs.declared.truth3.Truth3.{Truth3}
use Rattle.ccsl_formula.specs.declared.truth3.Truth3.TheVariants.{Yes, No, Open}
use Rattle.ccsl_formula.specs.declared.scope.Scope.{Scope}
use Rattle.ccsl_formula.specs.Truth.{known_as, not3, Part, Assignment, with_value}
use Rattle.ccsl_formula.specs.Agreement.{is_open}
use Rattle.ccsl_formula.specs.Formula.{Formula, truth, kleene, in_set}
use Rattle.ccsl_formula.specs.Variables.{ReadsBelow}
use Rattle.ccsl_formula.proofs.Variables.{kleene-known}
use Rattle.ccsl_refute.specs.declared.line.Lit.{Lit}
use Rattle.ccsl_refute.specs.declared.line.Line.{Line}
use Rattle.ccsl_refute.specs.declared.line.Line.TheVariants.{Nonempty, Item, Derived}
use Rattle.ccsl_refute.specs.Literals.{falsified, is_no, lit_value, all_false, unit, names, are_proper, positives}
use Rattle.ccsl_refute.specs.Validity.{clause, fails_line, fails_at, unit_line, unit_at, closes, is_refuted, is_valid, ends_empty, valid_from, are_valid}
use Rattle.ccsl_base.specs.Empty.{is_empty}
use Rattle.ccsl_refute.specs.Meaning.{AllTrue}
use Rattle.ccsl_refute.specs.Existence.{HasCertificate, IsUnsolved}

-- one of the first numbers passes a test, or none does
pub first-or-none : (test : ℕ → Bool) (n : ℕ) → ((x : ℕ) × (x < n) × (test x ≡ true)) ⊎ ((x : ℕ) → x < n → test x ≡ false)
first-or-none test zero = inr (λ x l. absurd (omega (arith, l)))
first-or-none test (suc n) = by-test (test n) refl (first-or-none test n)
  where
    by-test : (b : Bool) → test n ≡ b → ((x : ℕ) × (x < n) × (test x ≡ true)) ⊎ ((x : ℕ) → x < n → test x ≡ false) →
        ((x : ℕ) × (x < suc n) × (test x ≡ true)) ⊎ ((x : ℕ) → x < suc n → test x ≡ false)
    by-test true e rest = inl (n, omega arith, e)
    by-test false e rest = ⊎_elim
        (λ q. inl (q.0, omega (arith, q.1), q.2))
        (λ none. inr (λ x l. ⊎_elim (λ s. ap test s ∙ e) (λ d. none x (omega (arith, l, d))) (cases_eq x n)))
        rest

-- which formula is false, where not all are true
record IsFalseOne (fs : List Formula) (v : Assignment) : Type 0 where
  place : ℕ
  one : Formula
  stands : slice_get fs place ≡ Some one
  fails : truth one v ≡ false

false-one : (fs : List Formula) (v : Assignment) → (AllTrue fs v → ⊥) → IsFalseOne fs v
false-one [] v h = absurd (h tt)
false-one (f ∷ fs) v h = by-truth (truth f v) refl (λ k. false-one fs v k)
  where
    by-truth : (b : Bool) → truth f v ≡ b → ((AllTrue fs v → ⊥) → IsFalseOne fs v) → IsFalseOne (f ∷ fs) v
    by-truth true e rest = let q = rest (λ a. h (e, a)) in record { place = suc q.place; one = q.one; stands = q.stands; fails = q.fails }
    by-truth false e rest = record { place = zero; one = f; stands = refl; fails = e }

reads-named : (n : ℕ) (fs : List Formula) (i : ℕ) (f : Formula) → All (ReadsBelow n) fs → slice_get fs i ≡ Some f → ReadsBelow n f
reads-named n [] i f h e = absurd (cc)
reads-named n (g ∷ fs) zero f h e = let is : g ≡ f = cc in subst (ReadsBelow n) is (All-head (ReadsBelow n) g fs h)
reads-named n (g ∷ fs) (suc i) f h e = reads-named n fs i f (All-tail (ReadsBelow n) g fs h) e

-- literals of other clocks are false as they were
other-value : (p : Part) (x : ℕ) (b : Bool) (l : Lit) → nat_eq x l.clock ≡ false → lit_value (with_value p x b) l ≡ lit_value p l
other-value p x b l e =
    let turned : nat_eq l.clock x ≡ false = ⊎_elim (λ s. absurd (not-same (sym s) e)) (λ d. ne_eqb l.clock x d) (cases_eq l.clock x) in
    ap (λ (t : Truth3). cond l.positive t (not3 t)) (ap (λ c. cond c (known_as b) (p l.clock)) turned)
  where
    not-same : x ≡ l.clock → nat_eq x l.clock ≡ false → ⊥
    not-same s f = let clash : true ≡ false = sym (eq-eqb x l.clock s) ∙ f in absurd (cc)

others-false : (p : Part) (x : ℕ) (b : Bool) (ls : List Lit) → names x ls ≡ false → all_false (with_value p x b) ls ≡ all_false p ls
others-false p x b [] e = refl
others-false p x b (l ∷ ls) e =
    let q = or_parts (nat_eq x l.clock) (names x ls) e in
    ap₂ (λ t r. is_no t && r) (other-value p x b l q.0) (others-false p x b ls q.1)

-- a clock that no literal names is open
unnamed-open : (x : ℕ) (ls : List Lit) → names x ls ≡ false → falsified ls x ≡ Open
unnamed-open x [] e = refl
unnamed-open x (l ∷ ls) e =
    let q = or_parts (nat_eq x l.clock) (names x ls) e in
    ap (λ c. cond c (known_as (not l.positive)) (falsified ls x)) q.0 ∙ unnamed-open x ls q.1

false-here : (p : Part) (m : ℕ) (b : Bool) → is_no (lit_value (with_value p m (not b)) (record { clock = m; positive = b })) ≡ true
false-here p m true = ap (λ c. is_no (cond c No (p m))) (eq-eqb m m refl)
false-here p m false = ap (λ c. is_no (not3 (cond c Yes (p m)))) (eq-eqb m m refl)

open-here : (p : Part) (m : ℕ) (b : Bool) → p m ≡ Open → lit_value p (record { clock = m; positive = b }) ≡ Open
open-here p m true e = e
open-here p m false e = ap not3 e

positives-false : (p : Part) (d : ℕ) → ((x : ℕ) → x < d → p x ≡ No) → all_false p (positives d) ≡ true
positives-false p zero h = refl
positives-false p (suc d) h = append-false (positives d) (positives-false p d (λ x l. h x (omega (arith, l))))
  where
    append-false : (ls : List Lit) → all_false p ls ≡ true → all_false p (ls ++ record { clock = d; positive = true } ∷ []) ≡ true
    append-false [] e = and_from (is_no (p d)) true (ap is_no (h d (omega arith))) refl
    append-false (l ∷ ls) e =
        let q = and_parts (is_no (lit_value p l)) (all_false p ls) e in
        and_from (is_no (lit_value p l)) (all_false p (ls ++ record { clock = d; positive = true } ∷ [])) q.0 (append-false ls q.1)

-- THE LITERALS of a clause name the clocks from m on, each once
record Covers (n m : ℕ) (lits : List Lit) : Type 0 where
  proper : are_proper n lits ≡ true
  unnamed : (x : ℕ) → x < m → names x lits ≡ false
  falsify : all_false (falsified lits) lits ≡ true
  known : (x : ℕ) → m ≤ x → x < n → is_open (falsified lits x) ≡ false

covers-none : (n : ℕ) → Covers n n []
covers-none n = record { proper = refl; unnamed = λ x l. refl; falsify = refl; known = λ x a b. absurd (omega (arith, a, b)) }

covers-more : (n m : ℕ) (lits : List Lit) (b : Bool) → m < n → Covers n (suc m) lits → Covers n m (record { clock = m; positive = b } ∷ lits)
covers-more n m lits b l c =
    let alone = c.unnamed m (omega arith) in
    record {
      proper = and_from (nat_lt m n) (not (names m lits) && are_proper n lits) (lt-ltb m n l)
          (and_from (not (names m lits)) (are_proper n lits) (ap not alone) c.proper);
      unnamed = λ x k. ap₂ (λ s r. s || r) (ne_eqb x m (λ e. omega (arith, e, k))) (c.unnamed x (omega (arith, k)));
      falsify = and_from (is_no (lit_value (with_value (falsified lits) m (not b)) (record { clock = m; positive = b })))
          (all_false (with_value (falsified lits) m (not b)) lits)
          (false-here (falsified lits) m b) (others-false (falsified lits) m (not b) lits alone ∙ c.falsify);
      known = λ x a k. ⊎_elim
          (λ e. ap (λ t. is_open (cond t (known_as (not b)) (falsified lits x))) (eq-eqb x m e) ∙ never-open (not b))
          (λ d. ap (λ t. is_open (cond t (known_as (not b)) (falsified lits x))) (ne_eqb x m d) ∙ c.known x (omega (arith, a, d)) k)
          (cases_eq x m);
    }
  where
    never-open : (t : Bool) → is_open (known_as t) ≡ false
    never-open true = refl
    never-open false = refl

-- the values that literals leave, where they are known
is-yes : Truth3 → Bool
is-yes Yes = true
is-yes No = false
is-yes Open = false

known-value : (t : Truth3) → is_open t ≡ false → t ≡ known_as (is-yes t)
unfolding is-yes
known-value Yes e = refl
known-value No e = refl
known-value Open e = absurd (cc)

-- LINES that are valid behind earlier ones, of which the last has this clause
record Follow (scope : Scope) (fs : List Formula) (earlier : List Line) (lits : List Lit) : Type 0 where
  more : List Line
  last : Line
  valid : valid_from scope fs earlier (more ++ last ∷ []) ≡ true
  gives : clause scope.declared last ≡ lits

module _ (scope : Scope) (fs : List Formula) where
  valid-append : (earlier xs ys : List Line) → valid_from scope fs earlier xs ≡ true → valid_from scope fs (earlier ++ xs) ys ≡ true →
      valid_from scope fs earlier (xs ++ ys) ≡ true
  valid-append earlier [] ys a b = subst (λ es. valid_from scope fs es ys ≡ true) (append-nil earlier) b
  valid-append earlier (x ∷ xs) ys a b =
      let q = and_parts (is_valid scope fs earlier x) (valid_from scope fs (earlier ++ x ∷ []) xs) a in
      and_from (is_valid scope fs earlier x) (valid_from scope fs (earlier ++ x ∷ []) (xs ++ ys)) q.0
      (valid-append (earlier ++ x ∷ []) xs ys q.1 (subst (λ es. valid_from scope fs es ys ≡ true) (sym (append_assoc earlier (x ∷ []) xs)) b))

  one-valid : (earlier : List Line) (e : Line) → is_valid scope fs earlier e ≡ true → valid_from scope fs earlier (e ∷ []) ≡ true
  one-valid earlier e v = and_from (is_valid scope fs earlier e) true v refl

get-seam : (xs : List Line) (x : Line) (ys : List Line) → slice_get (xs ++ x ∷ ys) (length xs) ≡ Some x
get-seam [] x ys = refl
get-seam (z ∷ xs) x ys = get-seam xs x ys

module _ (scope : Scope) (fs : List Formula) (low : scope.declared ≤ scope.named) (below : All (ReadsBelow scope.named) fs) (none : IsUnsolved scope fs) where
  -- the line of a full assignment
  module _ (lits : List Lit) (c : Covers scope.named zero lits) (rest : List Line) where
    value : ℕ → Bool
    value x = is-yes (falsified lits x)

    set : List ℕ
    set = members_where value 0 scope.named

    in-set : (x : ℕ) → x < scope.named → ticks_in x set ≡ value x
    unfolding set
    in-set x l = ticks_in-members value 0 scope.named x (omega arith) (omega (arith, l))

    is-known : (x : ℕ) → x < scope.named → falsified lits x ≡ known_as (ticks_in x set)
    unfolding value
    is-known x l = known-value (falsified lits x) (c.known x (omega arith) l) ∙ ap known_as (sym (in-set x l))

    ascends : is_ascending set ≡ true
    unfolding set
    ascends = members-ascending value 0 scope.named

    is-below : are_below scope.named set ≡ true
    unfolding set
    is-below = members-below value 0 scope.named scope.named (omega arith)

    -- no declared clock ticks
    by-nonempty : ((x : ℕ) → x < scope.declared → ticks_in x set ≡ false) → Follow scope fs (Nonempty ∷ rest) lits
    by-nonempty h = record {
      more = [];
      last = Derived lits (1 ∷ []);
      valid = one-valid scope fs (Nonempty ∷ rest) (Derived lits (1 ∷ []))
          (and_from (are_proper scope.named lits) (all_false (falsified lits) (positives scope.declared)) c.proper
          (positives-false (falsified lits) scope.declared (λ x l. is-known x (omega (arith, l, low)) ∙ ap known_as (h x l))));
      gives = refl;
    }

    -- some formula is false
    by-formula : (x : ℕ) → x < scope.declared → ticks_in x set ≡ true → Follow scope fs (Nonempty ∷ rest) lits
    by-formula x l t =
        let q = false-one fs (in_set set) (λ all. none set ascends is-below (record { member = (x, l, t); all = all })) in
        let no : kleene q.one (falsified lits) ≡ No =
        kleene-known q.one (falsified lits) (in_set set) (λ y r. is-known y (reads-named scope.named fs q.place q.one below q.stands y r))
        ∙ ap known_as q.fails in
        record {
          more = [];
          last = Item q.place lits;
          valid = one-valid scope fs (Nonempty ∷ rest) (Item q.place lits)
              (and_from (are_proper scope.named lits) (is_refuted (falsified lits) (slice_get fs q.place)) c.proper
              (ap (is_refuted (falsified lits)) q.stands ∙ ap is_no no));
          gives = refl;
        }

    full : Follow scope fs (Nonempty ∷ rest) lits
    full = ⊎_elim (λ q. by-formula q.0 q.1 q.2) by-nonempty (first-or-none (λ x. ticks_in x set) scope.declared)

  -- the line of a lesser assignment
  module _ (m : ℕ) (lits : List Lit) (l : m < scope.named) (c : Covers scope.named (suc m) lits) (rest : List Line)
      (a : Follow scope fs (Nonempty ∷ rest) (record { clock = m; positive = true } ∷ lits))
      (b : Follow scope fs ((Nonempty ∷ rest) ++ (a.more ++ a.last ∷ [])) (record { clock = m; positive = false } ∷ lits)) where
    abbrev first : List Line
    first = a.more ++ a.last ∷ []

    abbrev second : List Line
    second = b.more ++ b.last ∷ []

    abbrev lines : List Line
    lines = ((Nonempty ∷ rest) ++ first) ++ second

    first-at : ℕ
    first-at = length ((Nonempty ∷ rest) ++ a.more)

    second-at : ℕ
    second-at = length (((Nonempty ∷ rest) ++ first) ++ b.more)

    at-first : slice_get lines first-at ≡ Some a.last
    unfolding first-at
    at-first =
        ap (λ ls. slice_get ls (length ((Nonempty ∷ rest) ++ a.more)))
        (ap (λ ls. ls ++ second) (sym (append_assoc (Nonempty ∷ rest) a.more (a.last ∷ []))) ∙ append_assoc ((Nonempty ∷ rest) ++ a.more) (a.last ∷ []) second)
        ∙ get-seam ((Nonempty ∷ rest) ++ a.more) a.last second

    at-second : slice_get lines second-at ≡ Some b.last
    unfolding second-at
    at-second =
        ap (λ ls. slice_get ls (length (((Nonempty ∷ rest) ++ first) ++ b.more))) (sym (append_assoc ((Nonempty ∷ rest) ++ first) b.more (b.last ∷ [])))
        ∙ get-seam (((Nonempty ∷ rest) ++ first) ++ b.more) b.last []

    alone : names m lits ≡ false
    alone = c.unnamed m (omega arith)

    unit-first : unit_at scope.declared lines (falsified lits) (suc first-at) ≡ Some (record { clock = m; positive = true })
    unit-first =
        ap (unit_line scope.declared (falsified lits)) at-first
        ∙ ap (unit (falsified lits)) a.gives
        ∙ ap (λ (t : Truth3). elim t as (λ x. Option Lit) [
          | Yes ↦ None
          | No ↦ unit (falsified lits) lits
          | Open ↦ cond (all_false (falsified lits) lits) (Some (record { clock = m; positive = true })) None
        ]) (open-here (falsified lits) m true (unnamed-open m lits alone))
        ∙ ap (λ t. cond t (Some (record { clock = m; positive = true })) None) c.falsify

    fails-second : fails_at scope.declared lines (with_value (falsified lits) m true) (suc second-at) ≡ true
    fails-second =
        ap (fails_line scope.declared (with_value (falsified lits) m true)) at-second
        ∙ ap (all_false (with_value (falsified lits) m true)) b.gives
        ∙ and_from (is_no (lit_value (with_value (falsified lits) m true) (record { clock = m; positive = false })))
        (all_false (with_value (falsified lits) m true) lits)
        (false-here (falsified lits) m false) (others-false (falsified lits) m true lits alone ∙ c.falsify)

    both-close : closes scope.declared lines (falsified lits) (suc first-at ∷ suc second-at ∷ []) ≡ true
    both-close =
        ap (λ (o : Option Lit). elim o as (λ x. Bool) [
          | None ↦ false
          | Some k ↦ closes scope.declared lines (with_value (falsified lits) k.clock k.positive) (suc second-at ∷ [])
        ]) unit-first
        ∙ fails-second

    split : Follow scope fs (Nonempty ∷ rest) lits
    split = record {
      more = first ++ second;
      last = Derived lits (suc first-at ∷ suc second-at ∷ []);
      valid = valid-append scope fs (Nonempty ∷ rest) (first ++ second) (Derived lits (suc first-at ∷ suc second-at ∷ []) ∷ [])
          (valid-append scope fs (Nonempty ∷ rest) first second a.valid b.valid)
          (subst (λ ls. valid_from scope fs ls (Derived lits (suc first-at ∷ suc second-at ∷ []) ∷ []) ≡ true) (append_assoc (Nonempty ∷ rest) first second)
          (one-valid scope fs lines (Derived lits (suc first-at ∷ suc second-at ∷ [])) (and_from (are_proper scope.named lits)
          (closes scope.declared lines (falsified lits) (suc first-at ∷ suc second-at ∷ [])) c.proper both-close)));
      gives = refl;
    }

  -- by the clocks from the last one on
  derive : (m : ℕ) (lits : List Lit) → m ≤ scope.named → Covers scope.named m lits → (rest : List Line) → Follow scope fs (Nonempty ∷ rest) lits
  derive zero lits l c rest = full lits c rest
  derive (suc m) lits l c rest =
      let within : m < scope.named = omega (arith, l) in
      let a = derive m (record { clock = m; positive = true } ∷ lits) (omega (arith, l)) (covers-more scope.named m lits true within c) rest in
      let b = derive m (record { clock = m; positive = false } ∷ lits) (omega (arith, l)) (covers-more scope.named m lits false within c)
      (rest ++ (a.more ++ a.last ∷ [])) in
      split m lits within c rest a b

  ends-empty : (xs : List Line) (e : Line) → clause scope.declared e ≡ [] → ends_empty scope.declared (xs ++ e ∷ []) ≡ true
  ends-empty [] e g = ap is_empty g
  ends-empty (x ∷ []) e g = ap is_empty g
  ends-empty (x ∷ y ∷ xs) e g = ends-empty (y ∷ xs) e g

  pub has-certificate : HasCertificate scope fs
  has-certificate =
      let q = derive scope.named [] (omega arith) (covers-none scope.named) [] in
      record {
        lines = Nonempty ∷ (q.more ++ q.last ∷ []);
        valid = and_from (are_valid scope fs (Nonempty ∷ (q.more ++ q.last ∷ []))) (ends_empty scope.declared (Nonempty ∷ (q.more ++ q.last ∷ [])))
            q.valid (ends-empty (Nonempty ∷ q.more) q.last q.gives);
      }
