-- The members of a core: how many they are, and the lines on them.
use Rattle.std.proofs.Common.{◌≡◌, ◌⊎◌, ℕ, suc, ◌+◌, ◌<◌, ◌≤◌, ◌^◌, List, [], ◌∷◌, ◌++◌, length, true, nat_lt, inl, inr, sym, ◌∙◌}
use Rattle.std.proofs.Common.{subst, arith, append-nil, ltb-true}
use Rattle.std.specs.List.{AllByRecursion, list_all}
use Rattle.std.proofs.lemmas.List.Elements.{recursion_from_All}
use Rattle.std.proofs.lemmas.Bool.{and_parts}
use Rattle.ccsl_base.specs.Clocks.{is_ascending}
use Rattle.ccsl_formula.specs.declared.scope.Scope.{Scope}
use Rattle.ccsl_formula.specs.Formula.{Formula}
use Rattle.ccsl_kernel.specs.Syntax.{System, item_count}
use Rattle.ccsl_kernel.specs.Accepted.{IsAccepted}
use Rattle.ccsl_refute.specs.declared.line.Line.{Line}
use Rattle.ccsl_refute.specs.Validity.{are_valid, ends_empty, is_certificate}
use Rattle.ccsl_items.specs.Formulas.{scope_of}
use Rattle.ccsl_explain.specs.Core.{IsCore}
use Rattle.ccsl_explain.specs.Explained.{AreLeast}
use Rattle.ccsl_top.specs.Explain.{member_lines}
use Rattle.ccsl_top.specs.Explaining.{AreMembers}

-- the lines of a certificate are valid
pub valid-lines : (scope : Scope) (formulas : List Formula) (lines : List Line) → is_certificate scope formulas lines ≡ true
    → are_valid scope formulas lines ≡ true
valid-lines scope formulas lines e = (and_parts (are_valid scope formulas lines) (ends_empty scope.declared lines) e).0

-- every number is at least low and below n
abbrev AreBetween : ℕ → ℕ → List ℕ → Type 0
AreBetween low n [] = Unit {0}
AreBetween low n (x ∷ xs) = (low ≤ x) × (x < n) × AreBetween low n xs

above : (x n : ℕ) (xs : List ℕ) → list_all (nat_lt x) xs ≡ true → AllByRecursion (λ y. y < n) xs → AreBetween (suc x) n xs
above x n [] e h = tt
above x n (y ∷ ys) e h =
    let p = and_parts (nat_lt x y) (list_all (nat_lt x) ys) e in
    let l : x < y = ltb-true x y p.0 in
    (omega (arith, l), h.0, above x n ys p.1 h.1)

few-between : (low n : ℕ) (xs : List ℕ) → low ≤ n → is_ascending xs ≡ true → AllByRecursion (λ y. y < n) xs → AreBetween low n xs → length xs + low ≤ n
few-between low n [] l e h b = omega (arith, l)
few-between low n (x ∷ xs) l e h b =
    let p = and_parts (list_all (nat_lt x) xs) (is_ascending xs) e in
    let below = b.1 in
    let least = b.0 in
    let rest = few-between (suc x) n xs (omega (arith, below)) p.1 h.1 (above x n xs p.0 h.1) in
    omega (arith, rest, least)

from-none : (n : ℕ) (xs : List ℕ) → AllByRecursion (λ y. y < n) xs → AreBetween 0 n xs
from-none n [] h = tt
from-none n (x ∷ xs) h = (omega arith, h.0, from-none n xs h.1)

module _ (K : System) (ok : IsAccepted K) where
  pub few-items : item_count K < 2 ^ 32
  few-items = let a = ok.few_clocks in let b = ok.few_constraints in let d = ok.defined in omega (arith, a, b, d)

  module _ (scope : Scope) (formulas : List Formula) (core : List ℕ) (is : IsCore scope formulas core) (count : length formulas ≡ item_count K) where
    items : AllByRecursion (λ i. i < length formulas) core
    items = recursion_from_All (λ i. i < length formulas) core is.items

    -- as many as there are items, at most
    pub few-members : length core < 2 ^ 32
    few-members =
        let few = few-between 0 (length formulas) core (omega arith) is.ascending items (from-none (length formulas) core items) in
        let all = few-items in
        omega (arith, few, all, count)

    pub are-members : (without : List (List ℕ)) → scope ≡ scope_of K → AreLeast scope formulas core core without → AreMembers K core without
    are-members without scope_is least = of-each core without items least
      where
        of-each : (is : List ℕ) (sets : List (List ℕ)) → AllByRecursion (λ i. i < length formulas) is → AreLeast scope formulas core is sets
            → AreMembers K is sets
        of-each [] [] h l = tt
        of-each [] (s ∷ sets) h l = l
        of-each (i ∷ is) [] h l = l
        of-each (i ∷ is) (s ∷ sets) h l = (
          subst (λ n. i < n) count h.0,
          λ x t. subst (λ (z : Scope). x < z.named) scope_is (l.0.named x t),
          of-each is sets h.1 l.1,
        )

-- no line is left
module _ (K : System) where
  pub members-end : (text all : List ℕ) (is : List ℕ) (sets : List (List ℕ)) → (length is ≡ 0) ⊎ (length sets ≡ 0) →
      text ++ member_lines K is sets ≡ all → text ≡ all
  members-end text all [] sets h e = sym (append-nil text) ∙ e
  members-end text all (i ∷ is) [] h e = sym (append-nil text) ∙ e
  members-end text all (i ∷ is) (s ∷ sets) (inl e) _ = absurd (omega (arith, e))
  members-end text all (i ∷ is) (s ∷ sets) (inr e) _ = absurd (omega (arith, e))
