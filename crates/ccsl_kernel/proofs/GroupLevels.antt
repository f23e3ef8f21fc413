-- The levels of groups, one group after another.
use Rattle.std.proofs.Common.{◌≡◌, ℕ, suc, ◌+◌, ◌<◌, List, [], ◌∷◌, ◌++◌, length, get_or, drop, map, refl, sym, ap, subst, ◌∙◌, arith, append_assoc}
use Rattle.std.proofs.Common.{length-append}
use Rattle.std.proofs.lemmas.List.{drop_more, append-nil, get_or_append_left, length_push, get_or_push}
use Rattle.std.specs.Prelude.{All}
use Rattle.std.proofs.lemmas.List.Elements.{All-get_or}
use Rattle.ccsl_kernel.specs.Syntax.{Body}
use Rattle.ccsl_kernel.specs.Cells.{greatest}
use Rattle.ccsl_kernel.specs.Accepted.{height, group_levels}

-- the level of a group behind others
abbrev pub level_of : List ℕ → List Body → ℕ
level_of levels members = suc (greatest (map (λ b. height levels b.root) members))

-- levels are only added
pub levels_added : (levels : List ℕ) (groups : List (List Body)) → (more : List ℕ) × (group_levels levels groups ≡ levels ++ more)
levels_added levels [] = ([], sym (append-nil levels))
levels_added levels (g ∷ groups) =
    let r = levels_added (levels ++ level_of levels g ∷ []) groups in
    (level_of levels g ∷ r.0, r.1 ∙ append_assoc levels (level_of levels g ∷ []) r.0)

-- a level that is there stays
pub level_stays : (P : ℕ → Type 0) (levels : List ℕ) (n : ℕ) (groups : List (List Body)) → All P (group_levels (levels ++ n ∷ []) groups) → P n
level_stays P levels n groups all =
    let r = levels_added (levels ++ n ∷ []) groups in
    let within : length levels < length (group_levels (levels ++ n ∷ []) groups) =
    omega (arith, ap length r.1, length-append (levels ++ n ∷ []) r.0, length_push levels n) in
    subst P
    (ap (λ (xs : List ℕ). get_or xs (length levels) 0) r.1
    ∙ get_or_append_left (levels ++ n ∷ []) r.0 0 (length levels) (omega (arith, length_push levels n))
    ∙ get_or_push levels n 0 (length levels) refl)
    (All-get_or P (group_levels (levels ++ n ∷ []) groups) (length levels) 0 within all)

-- one group more
pub levels_more : {A : Type 0} (g : A → List Body) (levels : List ℕ) (groups : List A) (i : ℕ) (d : A) → i < length groups →
    group_levels levels (map g (drop i groups)) ≡ group_levels (levels ++ level_of levels (g (get_or groups i d)) ∷ []) (map g (drop (i + 1) groups))
levels_more g levels groups i d l = ap (λ r. group_levels levels (map g r)) (drop_more groups i d l)
