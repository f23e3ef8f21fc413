-- The allowed clocks: after a run they are the declared clocks that sets have which solve the items' formulas.
use Rattle.std.proofs.Common.{⊎_elim, inl, inr, ◌≡◌, ℕ, zero, suc, ◌+◌, ◌<◌, List, [], ◌∷◌, ◌++◌, length, map, All, Bool, true, false, filter, if◌then◌else◌}
use Rattle.std.proofs.Common.{refl, sym, ap, ◌∙◌, arith, append-nil}
use Rattle.std.specs.Cmp.{both_ways}
use Rattle.std.specs.List.{list_any}
use Rattle.std.proofs.lemmas.Bool.{and_parts, and_from, or_cases, or_left, or_right, le-ltb}
use Rattle.std.proofs.lemmas.List.Elements.{filter-append}
use Rattle.ccsl_base.specs.Clocks.{ticks_in, with_clock, is_ascending, are_below}
use Rattle.ccsl_base.proofs.Sets.{member-below}
use Rattle.ccsl_formula.specs.declared.formula.Formula.{Formula as Boxed}
use Rattle.ccsl_formula.specs.Variables.{ReadsBelow}
use Rattle.ccsl_formula.specs.Plain.{plain}
use Rattle.ccsl_kernel.specs.Syntax.{System, item_count}
use Rattle.ccsl_kernel.specs.Lives.{Step, steps}
use Rattle.ccsl_kernel.specs.Accepted.{IsAccepted}
use Rattle.ccsl_kernel.specs.Runs.{IsAdmissible, declared_part}
use Rattle.ccsl_kernel.proofs.Steps.{steps-suc}
use Rattle.ccsl_base.proofs.Ascending.{with_clock-last}
use Rattle.ccsl_kernel.proofs.Sets.{below, below-all, below-suc, below-below, ticks_in-below}
use Rattle.ccsl_items.specs.Formulas.{item_formulas, scope_of}
use Rattle.ccsl_items.specs.Laws.{IsNamedRun, IsSolution}
use Rattle.ccsl_items.proofs.Sets.{below-members}
use Rattle.ccsl_items.proofs.Solutions.{admissible_solution, solution_admissible}
use Rattle.ccsl_items.specs.Admissible.{admissible_sets}
use Rattle.ccsl_items.proofs.Among.{Among}
use Rattle.ccsl_items.proofs.Admissible.{is-admissible, admissible-is}
use Rattle.ccsl_solve.proofs.PosedLaws.{all-below}
use Rattle.ccsl_possible.specs.Possible.{is_allowed, allowed_clocks}
use Rattle.ccsl_possible.specs.Ticking.{CanBeAsked, MayTick, AreThoseBelow}

-- a test of some is a test of one that stands in the list
any-among : {X : Type 0} (p : X → Bool) (xs : List X) → list_any p xs ≡ true → (x : X) × Among x xs × (p x ≡ true)
any-among p [] h = absurd (cc)
any-among p (y ∷ xs) h =
    ⊎_elim
    (λ e. (y, inl refl, e))
    (λ e. let q = any-among p xs e in (q.0, inr q.1, q.2))
    (or_cases (p y) (list_any p xs) h)

among-any : {X : Type 0} (p : X → Bool) (x : X) (xs : List X) → Among x xs → p x ≡ true → list_any p xs ≡ true
among-any p x [] a h = absurd a
among-any p x (y ∷ xs) a h =
    ⊎_elim
    (λ e. or_left (p y) (list_any p xs) (ap p e ∙ h))
    (λ r. or_right (p y) (list_any p xs) (among-any p x xs r h))
    a

-- A CLOCK IS ALLOWED exactly where it is a member of some admissible set
pub allowed-ticks : (K : System) (T : List Step) (x : ℕ) → is_allowed K T x ≡ true → (s : Step) × IsAdmissible K T s × (ticks_in x s ≡ true)
allowed-ticks K T x h = let q = any-among (ticks_in x) (admissible_sets K T) h in (q.0, admissible-is K T q.0 q.1, q.2)

pub ticks-allowed : (K : System) (T : List Step) (x : ℕ) (s : Step) → IsAdmissible K T s → ticks_in x s ≡ true → is_allowed K T x ≡ true
ticks-allowed K T x s a t = among-any (ticks_in x) s (admissible_sets K T) (is-admissible K T s a) t

-- the numbers below n that pass a test
filter-suc : (p : ℕ → Bool) (n : ℕ) → filter p (steps 0 (suc n)) ≡ filter p (steps 0 n) ++ (if p n then n ∷ [] else [])
filter-suc p n = ap (filter p) (steps-suc 0 n (omega arith)) ∙ filter-append p (steps 0 n) (n ∷ [])

-- an ascending list with just these members is the list of them
below-filter : (p : ℕ → Bool) (n : ℕ) (s : Step) → is_ascending s ≡ true → ((x : ℕ) → x < n → ticks_in x s ≡ p x) → below n s ≡ filter p (steps 0 n)
below-filter p zero s a h = none s
  where
    none : (s : Step) → below 0 s ≡ []
    none [] = refl
    none (x ∷ s) = ap (λ b. if b then x ∷ below 0 s else below 0 s) (le-ltb x 0 (omega arith)) ∙ none s
below-filter p (suc n) s a h =
    below-suc n s a
    ∙ ap (λ t. if t then with_clock n (below n s) else below n s) (h n (omega arith))
    ∙ one (p n)
    ∙ ap (λ r. r ++ (if p n then n ∷ [] else [])) (below-filter p n s a (λ x l. h x (omega arith)))
    ∙ sym (filter-suc p n)
  where
    one : (t : Bool) → (if t then with_clock n (below n s) else below n s) ≡ below n s ++ (if t then n ∷ [] else [])
    one true = with_clock-last n (below n s) (below-below n s)
    one false = sym (append-nil (below n s))

-- the solver may be asked about the items' formulas
pub asked : (K : System) → IsAccepted K → (formulas : List Boxed) → All (ReadsBelow (length K.names)) (map plain formulas) → length formulas ≡ item_count K
    → CanBeAsked (scope_of K) formulas
asked K ok formulas reads count = record {
  declared = omega (arith, ok.declared, ok.written);
  named = ok.few_clocks;
  reads = all-below (length K.names) (map plain formulas) reads;
  few = omega (arith, count, ok.defined, ok.few_clocks, ok.few_constraints);
}

module _ (K : System) (ok : IsAccepted K) (T : List Step) (r : IsNamedRun K T) where
  allowed-may : (x : ℕ) → is_allowed K T x ≡ true → MayTick (scope_of K) (item_formulas K T) x
  allowed-may x h =
      let q = allowed-ticks K T x h in
      let u = admissible_solution K ok T r q.0 q.1 in
      let declared = (and_parts (is_ascending q.0) (are_below K.declared q.0) q.1.declared).1 in
      let low = member-below K.declared q.0 x declared q.2 in
      let named = and_parts (is_ascending u.0) (are_below (K.declared + length K.definitions) u.0) u.1.named in (
        u.0,
        record {
          member = sym (ticks_in-below K.declared x u.0 low) ∙ ap (ticks_in x) u.2 ∙ q.2;
          ascending = named.0;
          inside = λ y t. let l = member-below (K.declared + length K.definitions) u.0 y named.1 t in omega (arith, ok.defined);
          solves = u.1.solves;
        },
      )

  may-allowed : (x : ℕ) → x < K.declared → MayTick (scope_of K) (item_formulas K T) x → is_allowed K T x ≡ true
  may-allowed x low m =
      let below_all = below-members (K.declared + length K.definitions) m.0 (λ y t. let l = m.1.inside y t in omega (arith, ok.defined)) in
      let u : IsSolution K T m.0 = record {
        named = and_from (is_ascending m.0) (are_below (K.declared + length K.definitions) m.0) m.1.ascending below_all;
        solves = m.1.solves;
      } in
      ticks-allowed K T x (declared_part K m.0) (solution_admissible K ok T r m.0 u) (ticks_in-below K.declared x m.0 low ∙ m.1.member)

  -- THE DECLARED CLOCKS THAT MAY TICK by the items' formulas are the allowed ones
  pub those-allowed : (clocks : Step) → is_ascending clocks ≡ true → AreThoseBelow (scope_of K) (item_formulas K T) K.declared clocks
      → clocks ≡ allowed_clocks K T
  those-allowed clocks a h =
      sym (below-all K.declared clocks (below-members K.declared clocks h.below))
      ∙ below-filter (is_allowed K T) K.declared clocks a
      (λ x l. both_ways (ticks_in x clocks) (is_allowed K T x) (λ t. may-allowed x l (h.may x t)) (λ t. h.all x l (allowed-may x t)))
