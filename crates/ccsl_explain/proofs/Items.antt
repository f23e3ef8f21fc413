-- Values that satisfy the formulas of some items.
use Rattle.std.proofs.Common.{◌≡◌, ℕ, zero, suc, ◌<◌, List, [], ◌∷◌, length, true, Some, slice_get, refl, subst}
use Rattle.std.proofs.lemmas.Option.{slice_get_within}
use Rattle.ccsl_formula.specs.declared.scope.Scope.{Scope}
use Rattle.ccsl_formula.specs.Truth.{Assignment}
use Rattle.ccsl_formula.specs.Formula.{Formula, truth, in_set}
use Rattle.ccsl_refute.specs.Meaning.{AllTrue, Solves, Blocks}
use Rattle.ccsl_explain.specs.Core.{Satisfies, Block, AreOpen}
use Rattle.ccsl_refute.proofs.Sound.{item-true}

-- values that satisfy the formulas of some items satisfy those of fewer ones
pub fewer : (scope : Scope) (fs : List Formula) (P Q : ℕ → Type 0) (v : Assignment) → ((j : ℕ) → Q j → P j) → Satisfies scope fs P v → Satisfies scope fs Q v
fewer scope fs P Q v h s = record { member = s.member; each = λ i f q g. s.each i f (h i q) g }

-- what blocks still does with more items
pub more-block : (scope : Scope) (fs : List Formula) (P Q : ℕ → Type 0) → ((j : ℕ) → Q j → P j) → Block scope fs Q → Block scope fs P
more-block scope fs P Q h b = λ set s. b set (fewer scope fs P Q (in_set set) h s)

-- what does not block does not with fewer items
pub fewer-open : (scope : Scope) (fs : List Formula) (P Q : ℕ → Type 0) → ((j : ℕ) → Q j → P j) → AreOpen scope fs P → AreOpen scope fs Q
fewer-open scope fs P Q h o = record { set = o.set; named = o.named; satisfies = fewer scope fs P Q (in_set o.set) h o.satisfies }

pub all-true : (fs : List Formula) (v : Assignment) → ((j : ℕ) (f : Formula) → slice_get fs j ≡ Some f → truth f v ≡ true) → AllTrue fs v
all-true [] v h = tt
all-true (f ∷ fs) v h = (h zero f refl, all-true fs v (λ j g e. h (suc j) g e))

-- values that satisfy the formulas of all items
pub solves-all : (scope : Scope) (fs : List Formula) (P : ℕ → Type 0) (v : Assignment) → ((j : ℕ) → j < length fs → P j) → Satisfies scope fs P v
    → Solves scope fs v
solves-all scope fs P v h s = record { member = s.member; all = all-true fs v (λ j f e. s.each j f (h j (slice_get_within fs j f e)) e) }

-- some items block only where all do
pub all-block : (scope : Scope) (fs : List Formula) (P : ℕ → Type 0) → Block scope fs P → Blocks scope fs
all-block scope fs P b = λ set s. b set (record { member = s.member; each = λ j f p e. item-true fs (in_set set) j f s.all e })

pub blocks-all : (scope : Scope) (fs : List Formula) (P : ℕ → Type 0) → ((j : ℕ) → j < length fs → P j) → Blocks scope fs → Block scope fs P
blocks-all scope fs P h b = λ set s. b set (solves-all scope fs P (in_set set) h s)
