-- In the space of relations and expressions group numbers rise with the numbers of definitions.
use Rattle.std.proofs.Common.{◌≡◌, ℕ, zero, suc, ◌+◌, ◌-◌, ◌<◌, ◌≤◌, List, [], ◌∷◌, ◌++◌, Bool, true, false, cond, Option, Some, find, bytes_eq, refl, sym, ap}
use Rattle.std.proofs.Common.{◌∙◌, subst, arith}
use Rattle.std.specs.List.{AllByRecursion}
use Rattle.ccsl_ast.specs.Trees.{PlainMember, PlainDefinition, DRelation, DGroup}
use Rattle.ccsl_rules.specs.Spaces.{Known, Callee, member, look, parts_space, calls_space}
use Rattle.ccsl_rules.specs.Uses.{Scene}
use Rattle.ccsl_rules.proofs.Guarded.{Ordered}

-- how many of the first n definitions are groups
abbrev pub groups_in : ℕ → List PlainDefinition → ℕ
groups_in zero bs = 0
groups_in (suc n) [] = 0
groups_in (suc n) (DRelation name params lines ∷ bs) = groups_in n bs
groups_in (suc n) (DGroup members ∷ bs) = suc (groups_in n bs)

-- a known name, seen from definition number h, which is, or comes behind, group number g
pub record Good (h g : ℕ) (k : Known Callee) : Type 0 where
  pub since : k.since ≡ k.what.block + 1
  pub order : (group number : ℕ) → k.what.role ≡ member group number → (k.what.block < h → group < g) × (k.what.block ≡ h → group ≡ g)

pub all-append : {X : Type 0} (P : X → Type 0) (xs ys : List X) → AllByRecursion P xs → AllByRecursion P ys → AllByRecursion P (xs ++ ys)
all-append P [] ys a b = b
all-append P (x ∷ xs) ys a b = (a.0, all-append P xs ys a.1 b)

here-or-later : (P : Known Callee → Type 0) (x k : Known Callee) (b : Bool) (rest : Option (Known Callee)) → P x → (rest ≡ Some k → P k)
    → cond b (Some x) rest ≡ Some k → P k
here-or-later P x k true rest a f e = let same : x ≡ k = cc in subst P same a
here-or-later P x k false rest a f e = f e

pub found-all : (P : Known Callee → Type 0) (test : Known Callee → Bool) (xs : List (Known Callee)) (k : Known Callee) → AllByRecursion P xs
    → find test xs ≡ Some k → P k
found-all P test [] k a e = absurd (cc)
found-all P test (x ∷ xs) k a e = here-or-later P x k (test x) (find test xs) a.0 (found-all P test xs k a.1) e

pub same-group : (a b c d : ℕ) → member a b ≡ member c d → a ≡ c
same-group a b c d e = cc

parts-good : (h g block group number : ℕ) (ps : List PlainMember) → (block < h → group < g) → (block ≡ h → group ≡ g)
    → AllByRecursion (Good h g) (parts_space block group number ps)
parts-good h g block group number [] below here = tt
parts-good h g block group number (p ∷ ps) below here = (
  record {
    since = refl;
    order = λ group' number' e. let same : group ≡ group' = same-group group number group' number' e in
        ((λ l. subst (λ x. x < g) same (below l)), (λ l. sym same ∙ here l));
  },
  parts-good h g block group (number + 1) ps below here,
)

pub space-good : (h g block group : ℕ) (bs : List PlainDefinition) → (block ≤ h → g ≡ group + groups_in (h - block) bs)
    → AllByRecursion (Good h g) (calls_space block group bs)
space-good h g block group [] e = tt
space-good h g block group (DRelation name params lines ∷ bs) e =
    (record { since = refl; order = λ group' number r. absurd (cc) }, space-good h g (block + 1) group bs (later e))
  where
    later : (block ≤ h → g ≡ group + groups_in (h - block) (DRelation name params lines ∷ bs)) → block + 1 ≤ h → g ≡ group + groups_in (h - (block + 1)) bs
    later e l =
        let n : h - block ≡ suc (h - (block + 1)) = omega arith in
        e (omega arith) ∙ ap (λ m. group + groups_in m (DRelation name params lines ∷ bs)) n
space-good h g block group (DGroup members ∷ bs) e =
    all-append (Good h g) (parts_space block group 0 members) (calls_space (block + 1) (group + 1) bs)
    (parts-good h g block group 0 members below here) (space-good h g (block + 1) (group + 1) bs later)
  where
    below : block < h → group < g
    below l =
        let n : h - block ≡ suc (h - (block + 1)) = omega arith in
        let f : g ≡ group + suc (groups_in (h - (block + 1)) bs) = e (omega arith) ∙ ap (λ m. group + groups_in m (DGroup members ∷ bs)) n in
        omega arith

    here : block ≡ h → group ≡ g
    here l =
        let n : h - block ≡ 0 = omega arith in
        let f : g ≡ group + 0 = e (omega arith) ∙ ap (λ m. group + groups_in m (DGroup members ∷ bs)) n in
        omega arith

    later : block + 1 ≤ h → g ≡ group + 1 + groups_in (h - (block + 1)) bs
    later l =
        let n : h - block ≡ suc (h - (block + 1)) = omega arith in
        let f : g ≡ group + suc (groups_in (h - (block + 1)) bs) = e (omega arith) ∙ ap (λ m. group + groups_in m (DGroup members ∷ bs)) n in
        omega arith

-- so each scene over that space is as the law of guarded calls needs it
pub space-ordered : (S : Scene) (bs : List PlainDefinition) → S.calls ≡ calls_space 0 0 bs → Ordered S (groups_in S.home bs)
space-ordered S bs same name k group number l r =
    let home : S.home - 0 ≡ S.home = omega arith in
    let good : AllByRecursion (Good S.home (groups_in S.home bs)) (calls_space 0 0 bs) =
    space-good S.home (groups_in S.home bs) 0 0 bs (λ _. zero-plus (ap (λ n. groups_in n bs) home)) in
    let at : Good S.home (groups_in S.home bs) k =
    found-all (Good S.home (groups_in S.home bs)) (λ x. bytes_eq x.name.name name) (calls_space 0 0 bs) k good
    (ap (λ (c : List (Known Callee)). look name c) (sym same) ∙ l) in
    let both = at.order group number r in
    let since : k.since ≡ k.what.block + 1 = at.since in
    ((λ h. both.0 (omega arith)), both.1)
  where
    zero-plus : {a b : ℕ} → a ≡ b → b ≡ 0 + a
    zero-plus {a} {b} e = omega arith
