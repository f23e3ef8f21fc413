-- The least set that satisfies formulas over named clocks, or that there is none: by one clock after the other from the first on,
-- first without it and then with it.
use Rattle.std.proofs.Common.{◌≡◌, ◌≢◌, ◌⊎◌, ℕ, zero, suc, ◌+◌, ◌<◌, ◌≤◌, List, [], ◌∷◌, Bool, true, false, cond, Some, slice_get, refl, sym, ap, ◌∙◌, ⊎_elim}
use Rattle.std.proofs.Common.{inl, inr, subst, arith, nat_eq}
use Rattle.std.proofs.lemmas.Bool.{cases_eq, cases_lt, cases_Bool, eq-eqb, ne_eqb}
use Rattle.ccsl_base.specs.Clocks.{ticks_in, is_ascending}
use Rattle.ccsl_base.specs.Bits.{members_where}
use Rattle.ccsl_base.proofs.Picked.{ticks_in-members, members-ascending, members-below}
use Rattle.ccsl_base.proofs.Sets.{member-below}
use Rattle.ccsl_formula.specs.declared.scope.Scope.{Scope}
use Rattle.ccsl_formula.specs.Truth.{Assignment}
use Rattle.ccsl_formula.specs.Formula.{Formula, truth, in_set}
use Rattle.ccsl_formula.specs.Variables.{ReadsBelow}
use Rattle.ccsl_formula.proofs.Variables.{truth-same}
use Rattle.ccsl_refute.specs.Meaning.{AllTrue, Solves, Blocks}
use Rattle.ccsl_explain.specs.Least.{IsLesser}
use Rattle.ccsl_explain.specs.LeastSteps.{IsLeastStep}
use Rattle.ccsl_refute.proofs.Existence.{first-or-none}

-- each formula reads clocks below n alone
abbrev pub EachBelow : ℕ → List Formula → Type 0
EachBelow n fs = (j : ℕ) (f : Formula) → slice_get fs j ≡ Some f → ReadsBelow n f

-- the two agree on the clocks below k
abbrev Agree : ℕ → Assignment → Assignment → Type 0
Agree k t v = (x : ℕ) → x < k → t x ≡ v x

-- the values v, but b at clock k
changed : Assignment → ℕ → Bool → Assignment
changed v k b x = cond (nat_eq x k) b (v x)

changed-here : (v : Assignment) (k : ℕ) (b : Bool) → changed v k b k ≡ b
unfolding changed
changed-here v k b = ap (λ t. cond t b (v k)) (eq-eqb k k refl)

changed-other : (v : Assignment) (k : ℕ) (b : Bool) (x : ℕ) → x ≢ k → changed v k b x ≡ v x
unfolding changed
changed-other v k b x d = ap (λ t. cond t b (v x)) (ne_eqb x k d)

agree-more : (k : ℕ) (t v : Assignment) (b : Bool) → Agree k t v → t k ≡ b → Agree (suc k) t (changed v k b)
agree-more k t v b a e x l =
    ⊎_elim
    (λ s. ap t s ∙ e ∙ sym (ap (changed v k b) s ∙ changed-here v k b))
    (λ d. a x (omega (arith, l, d)) ∙ sym (changed-other v k b x d))
    (cases_eq x k)

agree-less : (k : ℕ) (t v : Assignment) (b : Bool) → Agree (suc k) t (changed v k b) → Agree k t v
agree-less k t v b a x l = a x (omega (arith, l)) ∙ changed-other v k b x (λ e. omega (arith, e, l))

-- all formulas are true, or not
all-or-not : (fs : List Formula) (v : Assignment) → AllTrue fs v ⊎ (AllTrue fs v → ⊥)
all-or-not [] v = inl tt
all-or-not (f ∷ fs) v = ⊎_elim
    (λ t. ⊎_elim (λ a. inl (t, a)) (λ n. inr (λ a. n a.1)) (all-or-not fs v))
    (λ n. inr (λ a. let clash : true ≡ false = sym a.0 ∙ n in absurd (cc)))
    (cases_Bool (truth f v))

same-all : (n : ℕ) (fs : List Formula) (v w : Assignment) → EachBelow n fs → Agree n v w → AllTrue fs v → AllTrue fs w
same-all n [] v w b a h = tt
same-all n (f ∷ fs) v w b a h =
    (sym (truth-same f v w (λ x r. a x (b zero f refl x r))) ∙ h.0, same-all n fs v w (λ j g e. b (suc j) g e) a h.1)

module _ (scope : Scope) (fs : List Formula) (low : scope.declared ≤ scope.named) (below : EachBelow scope.named fs) where
  same-solves : (v w : Assignment) → Agree scope.named v w → Solves scope fs v → Solves scope fs w
  same-solves v w a s = record {
    member = (s.member.0, s.member.1, sym (a s.member.0 (omega (arith, s.member.1, low))) ∙ s.member.2);
    all = same-all scope.named fs v w below a s.all;
  }

  solves-or-not : (v : Assignment) → Solves scope fs v ⊎ (Solves scope fs v → ⊥)
  solves-or-not v = ⊎_elim
      (λ q. ⊎_elim (λ a. inl (record { member = q; all = a })) (λ n. inr (λ s. n s.all)) (all-or-not fs v))
      (λ none. inr (λ s. let clash : true ≡ false = sym s.member.2 ∙ none s.member.0 s.member.1 in absurd (cc)))
      (first-or-none v scope.declared)

  -- a set that agrees with v below k, satisfies the formulas, and is the least of all that do both
  record IsLeastFrom (k : ℕ) (v : Assignment) : Type 0 where
    set : List ℕ
    ascending : is_ascending set ≡ true
    named : (x : ℕ) → ticks_in x set ≡ true → x < scope.named
    solves : Solves scope fs (in_set set)
    agrees : Agree k (in_set set) v
    least : (t : Assignment) → Agree k t v → Solves scope fs t → IsLesser scope.named t (in_set set) → ⊥

  -- nothing that agrees with v below k satisfies the formulas
  abbrev NoneFrom : ℕ → Assignment → Type 0
  NoneFrom k v = (t : Assignment) → Agree k t v → Solves scope fs t → ⊥

  module _ (v : Assignment) where
    members : List ℕ
    members = members_where v 0 scope.named

    member-value : Agree scope.named (in_set members) v
    unfolding members
    member-value x l = ticks_in-members v 0 scope.named x (omega arith) (omega (arith, l))

    members-ascend : is_ascending members ≡ true
    unfolding members
    members-ascend = members-ascending v 0 scope.named

    members-named : (x : ℕ) → ticks_in x members ≡ true → x < scope.named
    unfolding members
    members-named x t = member-below scope.named (members_where v 0 scope.named) x (members-below v 0 scope.named scope.named (omega arith)) t

    -- all clocks are decided
    whole : (k : ℕ) → k ≡ scope.named → IsLeastFrom k v ⊎ NoneFrom k v
    whole k e = ⊎_elim
        (λ s. inl (record {
          set = members;
          ascending = members-ascend;
          named = members-named;
          solves = s;
          agrees = λ x l. member-value x (omega (arith, l, e));
          least = λ t a g r.
              let clash : true ≡ false = sym r.in_other ∙ member-value r.clock r.named ∙ sym (a r.clock (omega (arith, r.named, e))) ∙ r.out in absurd (cc);
        }))
        (λ n. inr (λ t a g. n (same-solves t (in_set members) (λ x l. a x (omega (arith, l, e)) ∙ sym (member-value x l)) g)))
        (solves-or-not (in_set members))

  -- the values of clocks from k on are open
  module _ (k : ℕ) (v : Assignment) where
    -- without clock k
    least-out : IsLeastFrom (suc k) (changed v k false) → IsLeastFrom k v
    least-out b = record {
      set = b.set;
      ascending = b.ascending;
      named = b.named;
      solves = b.solves;
      agrees = agree-less k (in_set b.set) v false b.agrees;
      least = λ t a g r. ⊎_elim
          (λ one. ahead t a r one)
          (λ out. b.least t (agree-more k t v false a out) g r)
          (cases_Bool (t k));
    }
      where
        here : ticks_in k b.set ≡ false
        here = b.agrees k (omega arith) ∙ changed-here v k false

        ahead : (t : Assignment) → Agree k t v → IsLesser scope.named t (in_set b.set) → t k ≡ true → ⊥
        ahead t a r one = ⊎_elim
            (λ (e : r.clock ≡ k). let clash : true ≡ false = sym r.in_other ∙ ap (in_set b.set) e ∙ here in absurd (cc))
            (λ (d : r.clock ≢ k). ⊎_elim
            (λ (l : r.clock < k).
            let clash : true ≡ false = sym r.in_other ∙ agree-less k (in_set b.set) v false b.agrees r.clock l ∙ sym (a r.clock l) ∙ r.out in absurd (cc))
            (λ (m : k ≤ r.clock). let clash : true ≡ false = sym one ∙ r.before k (omega (arith, m, d)) ∙ here in absurd (cc))
            (cases_lt r.clock k))
            (cases_eq r.clock k)

    -- with clock k, where none is without it
    least-in : NoneFrom (suc k) (changed v k false) → IsLeastFrom (suc k) (changed v k true) → IsLeastFrom k v
    least-in none b = record {
      set = b.set;
      ascending = b.ascending;
      named = b.named;
      solves = b.solves;
      agrees = agree-less k (in_set b.set) v true b.agrees;
      least = λ t a g r. ⊎_elim
          (λ one. b.least t (agree-more k t v true a one) g r)
          (λ out. none t (agree-more k t v false a out) g)
          (cases_Bool (t k));
    }

    none-either : NoneFrom (suc k) (changed v k false) → NoneFrom (suc k) (changed v k true) → NoneFrom k v
    none-either out one t a g = ⊎_elim (λ e. one t (agree-more k t v true a e) g) (λ e. out t (agree-more k t v false a e) g) (cases_Bool (t k))

  find-from : (m k : ℕ) → k + m ≡ scope.named → (v : Assignment) → IsLeastFrom k v ⊎ NoneFrom k v
  find-from zero k e v = whole v k (omega (arith, e))
  find-from (suc m) k e v = ⊎_elim
      (λ b. inl (least-out k v b))
      (λ none. ⊎_elim (λ b. inl (least-in k v none b)) (λ one. inr (none-either k v none one)) (find-from m (suc k) (omega (arith, e)) (changed v k true)))
      (find-from m (suc k) (omega (arith, e)) (changed v k false))

  -- THE LEAST STEP, or none
  pub least-or-none : ((s : List ℕ) × IsLeastStep scope fs s) ⊎ Blocks scope fs
  least-or-none = ⊎_elim
      (λ b. inl (
        b.set,
        record {
          ascending = b.ascending;
          named = b.named;
          solves = b.solves;
          least =
              λ t g r. b.least t (λ x l. absurd (omega (arith, l))) g r;
        },
      ))
      (λ none. inr (λ set s. none (in_set set) (λ x l. absurd (omega (arith, l))) s))
      (find-from scope.named 0 (omega arith) (λ x. false))
