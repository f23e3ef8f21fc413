-- A core blocks, none of its members can go, and there is one.
use Rattle.std.proofs.Common.{◌≡◌, ◌⊎◌, ℕ, zero, suc, ◌<◌, ◌≤◌, List, length, true, false, sym, subst, ◌∙◌, ⊎_elim, inl, inr, arith}
use Rattle.std.specs.List.{Contains}
use Rattle.std.proofs.lemmas.Bool.{cases_eq, cases_order, cases_Bool, false_from_ne_true}
use Rattle.std.proofs.lemmas.List.Elements.{All-contains}
use Rattle.std.proofs.lemmas.Option.{slice_get_within}
use Rattle.ccsl_base.specs.Clocks.{ticks_in}
use Rattle.ccsl_formula.specs.declared.scope.Scope.{Scope}
use Rattle.ccsl_formula.specs.Formula.{Formula}
use Rattle.ccsl_refute.specs.Meaning.{Blocks}
use Rattle.ccsl_explain.specs.Core.{Block, AreOpen, BesideIt, IsCore}
use Rattle.ccsl_explain.specs.Deletion.{IsLeft}
use Rattle.ccsl_explain.specs.Laws.{CoresBlock, CoresAreMinimal, CoresAreOne}
use Rattle.ccsl_explain.specs.Least.{IsOther}
use Rattle.ccsl_explain.proofs.Items.{fewer-open, more-block, blocks-all}
use Rattle.ccsl_base.proofs.Ascending.{same-members}
use Rattle.ccsl_explain.proofs.Members.{contains-ticks, ticks-contains}

-- a number is in a list or not
pub is-in : (xs : List ℕ) (x : ℕ) → Contains xs x ⊎ (Contains xs x → ⊥)
is-in xs x = ⊎_elim
    (λ t. inl (ticks-contains xs x t))
    (λ f. inr (λ c. let bad : true ≡ false = sym (contains-ticks xs x c) ∙ f in absurd (cc)))
    (cases_Bool (ticks_in x xs))

-- none of the members of a core can go
pub minimal : (scope : Scope) (fs : List Formula) → CoresAreMinimal scope fs
minimal scope fs core h i c =
    fewer-open scope fs (BesideIt core i) (IsOther core i)
    (λ j o. ⊎_elim (λ e. absurd (o.1 e)) (λ d. ⊎_elim (λ l. inl (o.0, l)) inr d) (cases_order j i))
    (All-contains (λ k. AreOpen scope fs (BesideIt core k)) core i h.kept c)

-- the items that are left when the turn comes to an item block
left-block : (scope : Scope) (fs : List Formula) (core : List ℕ) → Blocks scope fs → IsCore scope fs core → (n : ℕ) → n ≤ length fs
    → Block scope fs (IsLeft core n)
left-block scope fs core b h zero l = blocks-all scope fs (IsLeft core zero) (λ j m. inr (omega arith)) b
left-block scope fs core b h (suc n) l =
    ⊎_elim
    (λ c. more-block scope fs (IsLeft core (suc n)) (IsLeft core n) (λ j p. stays j c p) (left-block scope fs core b h n (omega arith)))
    (λ c. more-block scope fs (IsLeft core (suc n)) (BesideIt core n) (λ j p. goes j p) (h.dropped n (omega arith) c))
    (is-in core n)
  where
    stays : (j : ℕ) → Contains core n → IsLeft core n j → IsLeft core (suc n) j
    stays j c p =
        ⊎_elim
        (λ m. inl (m.0, omega arith))
        (λ m. ⊎_elim (λ e. inl (subst (Contains core) (sym e) c, omega arith)) (λ d. inr (omega arith)) (cases_eq j n))
        p

    goes : (j : ℕ) → BesideIt core n j → IsLeft core (suc n) j
    goes j p = ⊎_elim (λ m. inl (m.0, omega arith)) (λ m. inr (omega arith)) p

-- the core blocks
pub core-block : (scope : Scope) (fs : List Formula) → CoresBlock scope fs
core-block scope fs core b h set s =
    left-block scope fs core b h (length fs) (omega arith) set
    (record {
      member = s.member;
      each = λ j f p g.
          ⊎_elim (λ m. s.each j f m.0 g) (λ m. let l : j < length fs = slice_get_within fs j f g in absurd (omega arith)) p;
    })

-- where cores agree below an item, a member of one is one of the other
step : (scope : Scope) (fs : List Formula) (a b : List ℕ) → IsCore scope fs a → IsCore scope fs b → (i : ℕ) →
    ((j : ℕ) → j < i → Contains b j → Contains a j) → Contains a i → Contains b i
step scope fs a b h k i below c =
    ⊎_elim (λ m. m)
    (λ d.
    let open-set : AreOpen scope fs (BesideIt a i) = All-contains (λ j. AreOpen scope fs (BesideIt a j)) a i h.kept c in
    let inside : i < length fs = All-contains (λ j. j < length fs) a i h.items c in
    let beside : AreOpen scope fs (BesideIt b i) =
    fewer-open scope fs (BesideIt a i) (BesideIt b i) (λ j p. ⊎_elim (λ m. inl (below j m.1 m.0, m.1)) inr p) open-set in
    absurd (k.dropped i inside d beside.set beside.satisfies))
    (is-in b i)

agree : (scope : Scope) (fs : List Formula) (a b : List ℕ) → IsCore scope fs a → IsCore scope fs b → (n j : ℕ) → j < n
    → (Contains a j → Contains b j) × (Contains b j → Contains a j)
agree scope fs a b h k zero j l = absurd (omega arith)
agree scope fs a b h k (suc n) j l = (
  step scope fs a b h k j (λ i m. (agree scope fs a b h k n i (omega arith)).1),
  step scope fs b a k h j (λ i m. (agree scope fs a b h k n i (omega arith)).0),
)

-- there is one core
pub one-core : (scope : Scope) (fs : List Formula) → CoresAreOne scope fs
one-core scope fs a b h k =
    same-members a b h.ascending k.ascending (λ x.
    let both = agree scope fs a b h k (suc x) x (omega arith) in
    ⊎_elim
    (λ t. t ∙ sym (contains-ticks b x (both.0 (ticks-contains a x t))))
    (λ f. f ∙ sym (false_from_ne_true (ticks_in x b) (λ t. let bad : true ≡ false =
    sym (contains-ticks a x (both.1 (ticks-contains b x t))) ∙ f in absurd (cc))))
    (cases_Bool (ticks_in x a)))
