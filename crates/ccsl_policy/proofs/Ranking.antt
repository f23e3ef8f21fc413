-- Wishes in the order of priority.
use Rattle.std.proofs.Common.{◌≡◌, ◌⊎◌, ℕ, zero, suc, ◌<◌, ◌≤◌, List, [], ◌∷◌, ◌++◌, length, map, get_or, slice_get, Bool, true, false, not, cond, Some, nat_lt}
use Rattle.std.proofs.Common.{nat_eq, refl, sym, ap, ◌∙◌, ⊎_elim, inl, inr, subst, arith}
use Rattle.std.specs.List.{All, Contains}
use Rattle.std.specs.Ordering.{nat_cmp, ordering_then, is_lt}
use Rattle.std.specs.Cmp.{IsStrictWeakOrder, nat_cmp_total, then_total, on_total}
use Rattle.std.proofs.lemmas.List.Sorted.{ranks_by, sorted_far}
use Rattle.std.specs.declared.cmp.Ordering.TheVariants.{Less, Equal, Greater}
use Rattle.std.proofs.lemmas.List.Elements.{All-push, All-head, All-tail, All-get_or, Contains-append_left, Contains-push}
use Rattle.std.proofs.lemmas.Option.{slice_get-get_or, get_or_from_slice_get}
use Rattle.std.proofs.lemmas.Bool.{cases_eq, lt-ltb, le-ltb, ltb-true, ltb-false, eq-eqb}
use Rattle.ccsl_formula.specs.declared.scope.Scope.{Scope}
use Rattle.ccsl_formula.specs.declared.truth3.Truth3.TheVariants.{Open}
use Rattle.ccsl_formula.specs.Truth.{Assignment, Part}
use Rattle.ccsl_formula.specs.Formula.{Formula, same, in_set}
use Rattle.ccsl_refute.specs.declared.line.Lit.{Lit}
use Rattle.ccsl_refute.specs.Below.{AreBelow}
use Rattle.ccsl_solve.specs.Better.{is_better}
use Rattle.ccsl_solve.specs.Answers.{IsBestStep}
use Rattle.ccsl_policy.specs.declared.policies.Policy.{Policy}
use Rattle.ccsl_policy.specs.Priority.{word_of, comes_before, preferred}
use Rattle.ccsl_policy.specs.Better.{IsBetter}
use Rattle.ccsl_policy.specs.Chosen.{IsChosen}
use Rattle.ccsl_policy.specs.Ranks.{IsRank, IsRanked, wish}
use Rattle.ccsl_policy.proofs.Order.{is-before}
use Rattle.ccsl_base.proofs.Sets.{by_case}
use Rattle.ccsl_formula.proofs.Same.{same-if}

-- the first n clocks, each behind its word
abbrev pub ranks_to : List ℕ → ℕ → List (ℕ × ℕ)
ranks_to words zero = []
ranks_to words (suc n) = ranks_to words n ++ (word_of words n, n) ∷ []

pub ranks-all : (words : List ℕ) (n : ℕ) → n ≤ length words → All (IsRank words) (ranks_to words n)
ranks-all words zero l = λ k d h. absurd (omega arith)
ranks-all words (suc n) l = All-push (IsRank words) (ranks_to words n) (word_of words n, n) (ranks-all words n (omega arith)) (refl, omega arith)

pub ranks-each : (words : List ℕ) (n c : ℕ) → c < n → Contains (ranks_to words n) (word_of words c, c)
ranks-each words zero c l = absurd (omega arith)
ranks-each words (suc n) c l =
    ⊎_elim
    (λ e. subst (λ x. Contains (ranks_to words (suc n)) (word_of words x, x)) (sym e) (Contains-push (ranks_to words n) (word_of words n, n)))
    (λ d. Contains-append_left (ranks_to words n) ((word_of words n, n) ∷ []) (word_of words c, c) (ranks-each words n c (omega arith)))
    (cases_eq c n)

abbrev less : ℕ × ℕ → ℕ × ℕ → Bool
less r q = is_lt (ordering_then (nat_cmp r.0 q.0) (nat_cmp r.1 q.1))

less-order : IsStrictWeakOrder less
less-order = ranks_by (then_total (on_total (λ (r : ℕ × ℕ). r.0) nat_cmp_total) (on_total (λ (r : ℕ × ℕ). r.1) nat_cmp_total)) (λ (r : ℕ × ℕ). r)

cmp-less : (x y : ℕ) → x < y → nat_cmp x y ≡ Less
cmp-less x y l = ap (λ b. cond b Less (cond (nat_eq x y) Equal Greater)) (lt-ltb x y l)

cmp-equal : (x y : ℕ) → x ≡ y → nat_cmp x y ≡ Equal
cmp-equal x y e =
    let not_less : y ≤ x = omega arith in
    ap (λ b. cond b Less (cond (nat_eq x y) Equal Greater)) (le-ltb x y not_less) ∙ ap (λ b. cond b Equal Greater) (eq-eqb x y e)

-- what is not above is below, or the same
not-less : (r q : ℕ × ℕ) → less r q ≡ false → (q.0 < r.0) ⊎ ((q.0 ≡ r.0) × (q.1 ≤ r.1))
not-less r q h =
    ⊎_elim
    (λ e.
    by_case (nat_lt r.1 q.1) ((q.0 < r.0) ⊎ ((q.0 ≡ r.0) × (q.1 ≤ r.1)))
    (λ l.
    let bad : true ≡ false =
    sym (ap (λ o. is_lt (ordering_then o (nat_cmp r.1 q.1))) (cmp-equal r.0 q.0 e) ∙ ap is_lt (cmp-less r.1 q.1 (ltb-true r.1 q.1 l))) ∙ h in
    absurd (cc))
    (λ l. inr (sym e, ltb-false r.1 q.1 l)))
    (λ d.
    by_case (nat_lt r.0 q.0) ((q.0 < r.0) ⊎ ((q.0 ≡ r.0) × (q.1 ≤ r.1)))
    (λ l.
    let bad : true ≡ false = sym (ap (λ o. is_lt (ordering_then o (nat_cmp r.1 q.1))) (cmp-less r.0 q.0 (ltb-true r.0 q.0 l))) ∙ h in
    absurd (cc))
    (λ l. let le : q.0 ≤ r.0 = ltb-false r.0 q.0 l in let less : q.0 < r.0 = omega (arith, le, d) in inl less))
    (cases_eq r.0 q.0)

same-not : (a b : Bool) → a ≡ not b → same a b ≡ false
same-not true true e = absurd (cc)
same-not true false e = refl
same-not false true e = refl
same-not false false e = absurd (cc)

-- a wish for a clock at which the sets differ decides
decides : (l : Lit) (ls : List Lit) (s t : Assignment) → s l.clock ≡ not (t l.clock) → s l.clock ≡ l.positive → is_better (l ∷ ls) s t ≡ true
decides l ls s t d p =
    ap (λ b. elim b [ true ↦ is_better ls s t | false ↦ same (s l.clock) l.positive ]) (same-not (s l.clock) (t l.clock) d)
    ∙ same-if (s l.clock) l.positive p

-- the wish for a clock decides where those before it are for the same clock, or for clocks at which the sets are the same
found : (policy : Policy) (w c : ℕ) (s t : Assignment) → s c ≡ not (t c) → s c ≡ preferred policy w →
    (xs : List (ℕ × ℕ)) (j : ℕ) → slice_get xs j ≡ Some (w, c) →
    ((i : ℕ) (e : ℕ × ℕ) → i < j → slice_get xs i ≡ Some e → ((e.1 ≡ c) × (e.0 ≡ w)) ⊎ (s e.1 ≡ t e.1)) →
    is_better (map (wish policy) xs) s t ≡ true
found policy w c s t d p [] j g h = absurd (cc)
found policy w c s t d p (x ∷ xs) zero g h =
    let e : x ≡ (w, c) = cc in
    subst (λ (y : ℕ × ℕ). is_better (wish policy y ∷ map (wish policy) xs) s t ≡ true) (sym e) (decides (wish policy (w, c)) (map (wish policy) xs) s t d p)
found policy w c s t d p (x ∷ xs) (suc j) g h =
    ⊎_elim
    (λ e. decides (wish policy x) (map (wish policy) xs) s t (ap s e.0 ∙ d ∙ ap (λ y. not (t y)) (sym e.0)) (ap s e.0 ∙ p ∙ ap (preferred policy) (sym e.1)))
    (λ e.
    ap (λ b. elim b [ true ↦ is_better (map (wish policy) xs) s t | false ↦ same (s x.1) (preferred policy x.0) ]) (same-if (s x.1) (t x.1) e)
    ∙ found policy w c s t d p xs j g (λ i y l f. h (suc i) y (omega arith) f))
    (h 0 x (omega arith) refl)

at-most : (a b : ℕ) → a ≤ b → (a < b) ⊎ (a ≡ b)
at-most a b l = ⊎_elim inr (λ d. let m : a < b = omega arith in inl m) (cases_eq a b)

-- what is better by priority is better by the wishes
pub better-wished : (policy : Policy) (words : List ℕ) (m : ℕ) (ranks : List (ℕ × ℕ)) (s t : Assignment) → length words ≡ m → IsRanked words ranks →
    IsBetter m policy words s t → is_better (map (wish policy) ranks) s t ≡ true
better-wished policy words m ranks s t n r b =
    let c = b.clock in
    let target : ℕ × ℕ = (word_of words c, c) in
    let there = r.each c (subst (λ x. c < x) (sym n) b.declared) in
    let k = there.0 in
    found policy (word_of words c) c s t b.differ b.preferred ranks k (slice_get-get_or ranks k target there.1 ∙ ap Some there.2)
    (λ i e l g.
    let read : get_or ranks i target ≡ e = get_or_from_slice_get ranks i e target g in
    let rank : IsRank words e = subst (IsRank words) read (All-get_or (IsRank words) ranks i target (omega (arith, there.1)) r.ranks) in
    let far : less target e ≡ false =
    subst (λ (q : ℕ × ℕ). less target q ≡ false) read
    (subst (λ (q : ℕ × ℕ). less q (get_or ranks i target) ≡ false) there.2 (sorted_far less less-order ranks r.sorted i k target (omega arith) there.1)) in
    let earlier : comes_before words e.1 c ≡ true → s e.1 ≡ t e.1 = b.before e.1 (subst (λ x. e.1 < x) n rank.1) in
    ⊎_elim
    (λ q. inr (earlier (is-before words e.1 c (inl (subst (λ x. x < word_of words c) rank.0 q)))))
    (λ q. ⊎_elim
    (λ less. inr (earlier (is-before words e.1 c (inr (sym rank.0 ∙ q.0, less)))))
    (λ same. inl (same, q.0))
    (at-most e.1 c q.1))
    (not-less target e far))

-- the wishes are for named clocks
pub wishes-below : (n : ℕ) (policy : Policy) (words : List ℕ) (ranks : List (ℕ × ℕ)) → length words ≤ n → All (IsRank words) ranks
    → AreBelow n (map (wish policy) ranks)
wishes-below n policy words [] l a = tt
wishes-below n policy words (r ∷ ranks) l a =
    (omega (arith, (All-head (IsRank words) r ranks a).1), wishes-below n policy words ranks l (All-tail (IsRank words) r ranks a))

-- the best step by the wishes is the chosen one
pub chosen : (scope : Scope) (fs : List Formula) (policy : Policy) (words : List ℕ) (ranks : List (ℕ × ℕ)) (ws : List Lit) (p : Part) (s : List ℕ) →
    length words ≡ scope.declared → IsRanked words ranks → ws ≡ map (wish policy) ranks → ((x : ℕ) → p x ≡ Open) →
    IsBestStep scope fs ws p s → IsChosen scope fs policy words s
chosen scope fs policy words ranks ws p s n r e o h = record {
  solves = h.solves;
  inside = h.inside;
  best = λ t g b.
      let bad : true ≡ false =
      sym (better-wished policy words scope.declared ranks t (in_set s) n r b) ∙ ap (λ (ls : List Lit). is_better ls t (in_set s)) (sym e)
      ∙ h.best t (record { fits = λ x. inl (o x) }) g in
      absurd (cc);
}
