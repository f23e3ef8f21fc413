-- Lines as clauses that deny some values.
use Rattle.std.proofs.Common.{◌≡◌, ℕ, zero, suc, ◌<◌, ◌≤◌, ◌-◌, List, [], ◌∷◌, ◌++◌, length, true, false, not, ◌&&◌, ◌||◌, nat_eq, nat_lt}
use Rattle.std.proofs.Common.{Some, None, get_or, slice_get, map, option_map, refl, sym, ap, ◌∙◌, subst, arith}
use Rattle.std.proofs.lemmas.Bool.{and_parts, lt-ltb, ne_eqb, eqb-false, or_parts}
use Rattle.std.proofs.lemmas.Option.{get_or_from_slice_get, slice_get-get_or, slice_get-map}
use Rattle.ccsl_formula.specs.declared.scope.Scope.{Scope}
use Rattle.ccsl_formula.specs.declared.truth3.Truth3.TheVariants.{No}
use Rattle.ccsl_formula.specs.Truth.{Part}
use Rattle.ccsl_formula.specs.Formula.{Formula, kleene}
use Rattle.ccsl_refute.specs.declared.line.Lit.{Lit}
use Rattle.ccsl_refute.specs.declared.line.Line.{Line}
use Rattle.ccsl_refute.specs.declared.line.Line.TheVariants.{Nonempty, Item, Derived}
use Rattle.ccsl_refute.specs.Literals.{falsified, is_no, names, are_proper, positives, all_false}
use Rattle.ccsl_refute.specs.Validity.{clause, line_at, fails_line, fails_at, is_refuted, refutes_item, is_valid, valid_from, are_valid}
use Rattle.ccsl_solve.specs.Under.{Under}
use Rattle.ccsl_guide.specs.declared.problem.Problem.{Problem}
use Rattle.ccsl_solve.specs.Posed.{AreValid, asked}
use Rattle.ccsl_solve.specs.Conflict.{IsClause, IsConflict, IsDenial, Extends, AddsLines}
use Rattle.ccsl_solve.proofs.Units.{denial-fails, fails-under}
use Rattle.ccsl_solve.proofs.Lines.{line-more, line-last, adds-line}

names-snoc : (x : ℕ) (ls : List Lit) (l : Lit) → (x ≡ l.clock → ⊥) → names x (ls ++ l ∷ []) ≡ names x ls
names-snoc x [] l n = ap (λ t. t || false) (ne_eqb x l.clock n)
names-snoc x (m ∷ ls) l n = ap (λ t. nat_eq x m.clock || t) (names-snoc x ls l n)

pub proper-snoc : (n : ℕ) (ls : List Lit) (l : Lit) → are_proper n ls ≡ true → names l.clock ls ≡ false → l.clock < n → are_proper n (ls ++ l ∷ []) ≡ true
proper-snoc n [] l a u b = ap (λ t. t && true) (lt-ltb l.clock n b)
proper-snoc n (m ∷ ls) l a u b =
    let rest = (and_parts (nat_lt m.clock n) _ a).1 in
    let other : m.clock ≡ l.clock → ⊥ = λ e. eqb-false l.clock m.clock (or_parts _ _ u).0 (sym e) in
    ap (λ t. t && (not (names m.clock (ls ++ l ∷ [])) && are_proper n (ls ++ l ∷ []))) (and_parts _ _ a).0
    ∙ ap (λ t. not t && are_proper n (ls ++ l ∷ [])) (names-snoc m.clock ls l other)
    ∙ ap (λ t. t && are_proper n (ls ++ l ∷ [])) (and_parts (not (names m.clock ls)) _ rest).0
    ∙ proper-snoc n ls l (and_parts (not (names m.clock ls)) _ rest).1 (or_parts (nat_eq l.clock m.clock) _ u).1 b

names-positives : (x n : ℕ) → n ≤ x → names x (positives n) ≡ false
names-positives x zero l = refl
names-positives x (suc n) l = names-snoc x (positives n) _ (λ e. omega arith) ∙ names-positives x n (omega arith)

pub positives-proper : (n m : ℕ) → n ≤ m → are_proper m (positives n) ≡ true
positives-proper zero m l = refl
positives-proper (suc n) m l = proper-snoc m (positives n) _ (positives-proper n m (omega arith)) (names-positives n n (omega arith)) (omega arith)

line-proper : (scope : Scope) (fs : List Formula) (earlier : List Line) (e : Line) → scope.declared ≤ scope.named → is_valid scope fs earlier e ≡ true →
    are_proper scope.named (clause scope.declared e) ≡ true
line-proper scope fs earlier Nonempty d h = positives-proper scope.declared scope.named d
line-proper scope fs earlier (Item k lits) d h = (and_parts _ _ h).0
line-proper scope fs earlier (Derived lits hints) d h = (and_parts _ _ h).0

proper-from : (scope : Scope) (fs : List Formula) (earlier lines : List Line) (i : ℕ) (e : Line) → scope.declared ≤ scope.named →
    valid_from scope fs earlier lines ≡ true → slice_get lines i ≡ Some e → are_proper scope.named (clause scope.declared e) ≡ true
proper-from scope fs earlier [] i e d v g = absurd (cc)
proper-from scope fs earlier (x ∷ lines) zero e d v g =
    let q : x ≡ e = cc in
    subst (λ (z : Line). are_proper scope.named (clause scope.declared z) ≡ true) q
    (line-proper scope fs earlier x d (and_parts (is_valid scope fs earlier x) _ v).0)
proper-from scope fs earlier (x ∷ lines) (suc i) e d v g =
    proper-from scope fs (earlier ++ x ∷ []) lines i e d (and_parts (is_valid scope fs earlier x) _ v).1 g

-- no clause of a valid line names a clock twice, or one that is not there
pub clause-proper : (scope : Scope) (fs : List Formula) (lines : List Line) (j : ℕ) (e : Line) → scope.declared ≤ scope.named →
    are_valid scope fs lines ≡ true → line_at lines j ≡ Some e → are_proper scope.named (clause scope.declared e) ≡ true
clause-proper scope fs lines zero e d v g = absurd (cc)
clause-proper scope fs lines (suc i) e d v g = proper-from scope fs [] lines i e d v g

-- a line whose clause fails is there
pub failing-line : (declared : ℕ) (lines : List Line) (p : Part) (j : ℕ) → fails_at declared lines p j ≡ true →
    (e : Line) × (line_at lines j ≡ Some e) × (all_false p (clause declared e) ≡ true)
failing-line declared lines p j h =
    (elim (line_at lines j) as (λ o. line_at lines j ≡ o → fails_line declared p o ≡ true →
    (e : Line) × (line_at lines j ≡ Some e) × (all_false p (clause declared e) ≡ true)) [ None ↦ λ q f. absurd (cc) | Some e ↦ λ q f. (e, q, f) ]) refl h

pub clause-more : {scope : Scope} {lines new : List Line} {j : ℕ} {q : Part} → Extends lines new → IsClause scope lines j q → IsClause scope new j q
clause-more {lines} {j} x c = record {
  line = c.line;
  found = ap (λ ls. line_at ls j) x.is ∙ line-more lines x.added j c.line c.found;
  part = c.part;
  proper = c.proper;
}

-- the clause of a new last line
pub clause-last : {scope : Scope} (lines : List Line) (e : Line) {new : List Line} {q : Part} {n : ℕ} → new ≡ lines ++ e ∷ [] → n ≡ length new →
    IsDenial scope.named (clause scope.declared e) q → IsClause scope new n q
clause-last lines e s m d = record {
  line = e;
  found = line-last lines e m s;
  part = d.part;
  proper = d.proper;
}

-- a line whose clause denies some values, as a conflict
pub clause-conflict : {scope : Scope} {lines : List Line} {p q : Part} {j : ℕ} {hints : List ℕ} → hints ≡ j ∷ [] → IsClause scope lines j q → Under q p →
    IsConflict scope lines p q hints
clause-conflict {scope} {lines} {p} {q} {j} h c u =
    subst (λ hs. IsConflict scope lines p q hs) (sym h)
    (record {
      within = u;
      closing = λ r w v. ap (fails_line scope.declared r) c.found ∙ denial-fails scope.named r q (clause scope.declared c.line) c.proper c.part w;
      single = λ i s. let same : j ≡ i = cc in subst (λ k. IsClause scope lines k q) same c;
    })

-- one more line, by which an item denies some values
pub added-item : (q : Problem) (k : ℕ) (f : Formula) {lines new : List Line} {part : Part} {n : ℕ} {lits : List Lit} → AreValid q lines →
    new ≡ lines ++ Item k lits ∷ [] → n ≡ length new → slice_get (asked q) k ≡ Some f →
    IsDenial q.scope.named lits part → kleene f part ≡ No → AddsLines q lines new × IsClause q.scope new n part
added-item q k f {lines} {lits} v e m g d h =
    let this : is_valid q.scope (asked q) lines (Item k lits) ≡ true =
    ap (λ b. b && refutes_item (asked q) k lits) d.proper
    ∙ ap (is_refuted (falsified lits)) g
    ∙ ap (λ (r : Part). is_no (kleene f r)) d.part
    ∙ ap is_no h
    in
    (adds-line q (Item k lits) e v this, clause-last lines (Item k lits) e m d)

-- the line of a clause, as it is read
line-read : (lines : List Line) (j : ℕ) (e x : Line) → line_at lines j ≡ Some e → x ≡ get_or lines (j - 1) x → x ≡ e
line-read lines zero e x f g = absurd (cc)
line-read lines (suc i) e x f g =
    let place : suc i - 1 ≡ i = omega arith in
    g ∙ ap (λ n. get_or lines n x) place ∙ get_or_from_slice_get lines i e x f

-- the literals of a clause that fails are proper
pub read-proper : (scope : Scope) (fs : List Formula) (lines : List Line) (p : Part) (j : ℕ) (x : Line) (lits : List Lit) → scope.declared ≤ scope.named →
    are_valid scope fs lines ≡ true → fails_at scope.declared lines p j ≡ true → x ≡ get_or lines (j - 1) x → lits ≡ clause scope.declared x →
    are_proper scope.named lits ≡ true
read-proper scope fs lines p j x lits d v h g e =
    let there = failing-line scope.declared lines p j h in
    ap (are_proper scope.named) (e ∙ ap (clause scope.declared) (line-read lines j there.0 x there.1 g)) ∙ clause-proper scope fs lines j there.0 d v there.1

-- and they are as values what the clause denies
pub read-clause : (scope : Scope) (lines : List Line) (p q : Part) (j : ℕ) (x : Line) (lits : List Lit) →
    fails_at scope.declared lines p j ≡ true → x ≡ get_or lines (j - 1) x → lits ≡ clause scope.declared x →
    are_proper scope.named lits ≡ true → q ≡ falsified lits → IsClause scope lines j q × Under q p
read-clause scope lines p q j x lits h g e a s =
    let there = failing-line scope.declared lines p j h in
    let same : lits ≡ clause scope.declared there.0 = e ∙ ap (clause scope.declared) (line-read lines j there.0 x there.1 g) in (
      record { line = there.0; found = there.1; part = ap falsified (sym same) ∙ sym s; proper = ap (are_proper scope.named) (sym same) ∙ a },
      subst (λ (r : Part). Under r p) (sym s) (fails-under p lits (ap (all_false p) same ∙ there.2)),
    )

pub refuted-inside : (p : Part) (fs : List Formula) (k n : ℕ) → length fs ≡ n → is_refuted p (slice_get fs k) ≡ true → k < n
refuted-inside p [] k n e h = absurd (cc)
refuted-inside p (f ∷ fs) zero n e h = omega arith
refuted-inside p (f ∷ fs) (suc k) n e h = let r : k < length fs = refuted-inside p fs k (length fs) refl h in omega arith

-- an element of a list, as it is read, under a function
pub read-map : {A B : Type 0} (f : A → B) (xs : List A) (i : ℕ) (d : A) → i < length xs → slice_get (map f xs) i ≡ Some (f (get_or xs i d))
read-map f xs i d l = slice_get-map f xs i ∙ ap (option_map f) (slice_get-get_or xs i d l)
