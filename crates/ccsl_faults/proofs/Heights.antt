-- The greatest of joined lists.
use Rattle.std.proofs.Common.{◌≡◌, ℕ, zero, suc, ◌+◌, ◌≤◌, ◌<◌, List, [], ◌∷◌, ◌++◌, map, flat_map, drop, length, length-append, get_or, max, slice_index, Some}
use Rattle.std.proofs.Common.{None, refl, sym, ap, ◌∙◌, arith}
use Rattle.ccsl_ast.specs.declared.spot.Spot.{Spot}
use Rattle.ccsl_rules.specs.Spaces.{Known, Callee, look}
use Rattle.ccsl_ast.specs.Trees.{PlainDefinition}
use Rattle.ccsl_rules.specs.Levels.{Sort, level_in, level, levels, counted}
use Rattle.ccsl_kernel.specs.Cells.{greatest}
use Rattle.ccsl_faults.specs.Levels.{height_of}
use Rattle.ccsl_faults.proofs.Walks.{drop-at}
use Rattle.ccsl_ast.proofs.Levels.{greatest-append}

pub height-append : (calls : List (Known Callee)) (seen : List ℕ) (xs ys : List Spot)
    → height_of calls seen (xs ++ ys) ≡ max (height_of calls seen xs) (height_of calls seen ys)
height-append calls seen [] ys = omega arith
height-append calls seen (x ∷ xs) ys = ap (max (level_in calls seen x.name)) (height-append calls seen xs ys) ∙ omega arith

index-within : (seen : List ℕ) (i : ℕ) → slice_index seen i ≤ greatest seen
index-within [] i = omega arith
index-within (x ∷ xs) zero = omega arith
index-within (x ∷ xs) (suc i) = omega (arith, index-within xs i)

level-within : (calls : List (Known Callee)) (seen : List ℕ) (name : List ℕ) → level_in calls seen name ≤ greatest seen
level-within calls seen name =
    elim (look name calls) as (λ o. elim o as (λ _. ℕ) [ None ↦ 0 | Some k ↦ slice_index seen k.what.block ] ≤ greatest seen) [
      | None ↦ omega arith
      | Some k ↦ index-within seen k.what.block
    ]

-- no call has a level above the greatest
pub height-within : (calls : List (Known Callee)) (seen : List ℕ) (names : List Spot) → height_of calls seen names ≤ greatest seen
height-within calls seen [] = omega arith
height-within calls seen (x ∷ xs) = omega (arith, level-within calls seen x.name, height-within calls seen xs)

pub ruleset the_greatest = (greatest-append, height-append, height-within)

-- the levels of joined definitions
pub levels-append : (sort : Sort) (calls : List (Known Callee)) (seen : List ℕ) (xs ys : List PlainDefinition) →
    levels sort calls seen (xs ++ ys) ≡ levels sort calls (levels sort calls seen xs) ys
levels-append sort calls seen [] ys = refl
levels-append sort calls seen (x ∷ xs) ys = levels-append sort calls (seen ++ level calls seen (counted sort x) ∷ []) xs ys

-- one step over members: the greatest so far, that of the next member, and that of the rest
pub height-step : {X Y : Type 0} (calls : List (Known Callee)) (seen : List ℕ) (g : Y → List Spot) (f : X → Y) (xs : List X)
    (height : ℕ) {i : ℕ} {x : X} {found next all : ℕ} →
    i < length xs → x ≡ get_or xs i x → next ≡ max height found → found ≡ height_of calls seen (g (f x)) →
    max height (height_of calls seen (flat_map g (map f (drop i xs)))) ≡ all → max next (height_of calls seen (flat_map g (map f (drop (i + 1) xs)))) ≡ all
height-step calls seen g f xs height {i} {x} {found} {next} h at n e so_far =
    let here = ap (λ l. height_of calls seen (flat_map g (map f l))) (drop-at xs h at)
    ∙ height-append calls seen (g (f x)) (flat_map g (map f (drop (i + 1) xs))) in
    omega (arith, n, e, here, so_far)

-- one step over definitions
pub levels-step : (sort : Sort) (calls : List (Known Callee)) {X : Type 0} (f : X → PlainDefinition) (xs : List X)
    (seen : List ℕ) {i : ℕ} {x : X} {next : ℕ} {new all : List ℕ} →
    i < length xs → x ≡ get_or xs i x → new ≡ seen ++ next ∷ [] → next ≡ level calls seen (counted sort (f x)) →
    levels sort calls seen (map f (drop i xs)) ≡ all → levels sort calls new (map f (drop (i + 1) xs)) ≡ all
levels-step sort calls f xs seen {i} h at n e so_far =
    ap (λ l. levels sort calls l (map f (drop (i + 1) xs))) (n ∙ ap (λ k. seen ++ k ∷ []) e)
    ∙ sym (ap (λ l. levels sort calls seen (map f l)) (drop-at xs h at)) ∙ so_far

-- levels stay below the number of definitions
pub greatest-step : (seen : List ℕ) (next : ℕ) → greatest seen ≤ length seen → next ≤ length seen + 1
    → greatest (seen ++ next ∷ []) ≤ length (seen ++ next ∷ [])
greatest-step seen next h n = omega (arith, greatest-append seen (next ∷ []), length-append seen (next ∷ []))
