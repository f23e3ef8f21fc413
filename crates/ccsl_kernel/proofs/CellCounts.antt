-- Counts of cells that stop at the greatest number of 32 bits are the counts, as far as they go.
use Rattle.std.proofs.Common.{◌≡◌, ℕ, zero, suc, ◌+◌, ◌/◌, ◌<◌, List, [], ◌∷◌, ◌++◌, length, get_or, take, map, max, sum, refl, sym, ap, ap₂, ◌∙◌, arith}
use Rattle.std.proofs.lemmas.List.{take_more, map_push}
use Rattle.std.proofs.lemmas.List.Sums.{sum_by-cons}
use Rattle.ccsl_kernel.specs.declared.expr.ExprOp.{ExprOp}
use Rattle.ccsl_kernel.specs.declared.expr.ExprOp.TheVariants as op
use Rattle.ccsl_kernel.specs.Syntax.{Expression, EName, ECall, ENever, EBinary, EDelay, EAwait, EFilter, EDelayed, EIf, Body}
use Rattle.ccsl_kernel.specs.Cells.{saturated, greatest, cells_of_two, cells_in, group_cells, groups_cells}
use Rattle.ccsl_kernel.proofs.Greatest.{greatest_more}

-- ONE ELEMENT MORE
pub most_more : {A B : Type 0} (g : A → B) (f : B → ℕ) (xs : List A) (i : ℕ) (d : A) (most here next : ℕ) → i < length xs
    → most ≡ saturated (greatest (map f (map g (take i xs)))) →
    here ≡ saturated (f (g (get_or xs i d))) → next ≡ max most here → next ≡ saturated (greatest (map f (map g (take (i + 1) xs))))
most_more g f xs i d most here next l e e' e'' = omega (arith, e, e', e'', greatest_more g f xs i d l)

-- CAPPED counts of earlier groups are enough
capped_at : (ns : List ℕ) (i : ℕ) → get_or (map saturated ns) i 0 ≡ saturated (get_or ns i 0)
capped_at [] i = refl
capped_at (n ∷ ns) zero = refl
capped_at (n ∷ ns) (suc i) = capped_at ns i

capped_two : (o : ExprOp) (a d a' d' : ℕ) → saturated a ≡ saturated a' → saturated d ≡ saturated d'
    → saturated (cells_of_two o a d) ≡ saturated (cells_of_two o a' d')
capped_two op.Union a d a' d' e f = omega (arith, e, f)
capped_two op.Inter a d a' d' e f = omega (arith, e, f)
capped_two op.Minus a d a' d' e f = omega (arith, e, f)
capped_two op.Inf a d a' d' e f = omega (arith, e, f)
capped_two op.Sup a d a' d' e f = omega (arith, e, f)
capped_two op.Upto a d a' d' e f = omega (arith, e, f)
capped_two op.UptoWeakly a d a' d' e f = omega (arith, e, f)
capped_two op.Then a d a' d' e f = omega (arith, e, f)
capped_two op.Sampled a d a' d' e f = omega (arith, e, f)
capped_two op.SampledWeakly a d a' d' e f = omega (arith, e, f)

pub capped_cells_in : (ns : List ℕ) (e : Expression) → saturated (cells_in (map saturated ns) e) ≡ saturated (cells_in ns e)
capped_cells_in ns (EName x) = refl
capped_cells_in ns (ECall group member args) = omega (arith, capped_at ns group)
capped_cells_in ns ENever = refl
capped_cells_in ns (EBinary o a d) =
    capped_two o (cells_in (map saturated ns) a) (cells_in (map saturated ns) d) (cells_in ns a) (cells_in ns d) (capped_cells_in ns a) (capped_cells_in ns d)
capped_cells_in ns (EDelay a m) = omega (arith, capped_cells_in ns a)
capped_cells_in ns (EAwait a m) = omega (arith, capped_cells_in ns a)
capped_cells_in ns (EFilter a w) = omega (arith, capped_cells_in ns a)
capped_cells_in ns (EDelayed a m d) =
    capped_sum (2 + (m + 63) / 64) (cells_in (map saturated ns) a) (cells_in (map saturated ns) d) (cells_in ns a) (cells_in ns d) (capped_cells_in ns a)
    (capped_cells_in ns d)
  where
    capped_sum : (k a d a' d' : ℕ) → saturated a ≡ saturated a' → saturated d ≡ saturated d' → saturated (k + a + d) ≡ saturated (k + a' + d')
    capped_sum k a d a' d' e f = omega (arith, e, f)
capped_cells_in ns (EIf q a d) = omega (arith, capped_cells_in ns a, capped_cells_in ns d)

capped_most : (ns : List ℕ) (members : List Body)
    → saturated (greatest (map (λ b. cells_in (map saturated ns) b.root) members)) ≡ saturated (greatest (map (λ b. cells_in ns b.root) members))
capped_most ns [] = refl
capped_most ns (b ∷ members) = omega (arith, capped_cells_in ns b.root, capped_most ns members)

pub capped_group : (ns : List ℕ) (members : List Body) → saturated (group_cells (map saturated ns) members) ≡ saturated (group_cells ns members)
capped_group ns members = omega (arith, capped_most ns members)

pub capped_all : (ns : List ℕ) (es : List Expression) → saturated (sum (map (cells_in (map saturated ns)) es)) ≡ saturated (sum (map (cells_in ns) es))
capped_all ns [] = refl
capped_all ns (e ∷ es) =
    omega (
      arith,
      capped_cells_in ns e,
      capped_all ns es,
      sum_cons (cells_in (map saturated ns) e) (map (cells_in (map saturated ns)) es),
      sum_cons (cells_in ns e) (map (cells_in ns) es),
    )
  where
    sum_cons : (n : ℕ) (ns : List ℕ) → sum (n ∷ ns) ≡ n + sum ns
    sum_cons n ns = sum_by-cons (λ (x : ℕ). x) n ns

-- GROUPS one after another
groups_push : (ns : List ℕ) (gs : List (List Body)) (g : List Body)
    → groups_cells ns (gs ++ g ∷ []) ≡ groups_cells ns gs ++ group_cells (groups_cells ns gs) g ∷ []
groups_push ns [] g = refl
groups_push ns (h ∷ gs) g = groups_push (ns ++ group_cells ns h ∷ []) gs g

pub groups_more : {A : Type 0} (plain : A → List Body) (groups : List A) (i : ℕ) (d : A) (earlier : List ℕ) (count : ℕ) → i < length groups →
    earlier ≡ map saturated (groups_cells [] (map plain (take i groups))) → count ≡ saturated (group_cells earlier (plain (get_or groups i d))) →
    earlier ++ count ∷ [] ≡ map saturated (groups_cells [] (map plain (take (i + 1) groups)))
groups_more plain groups i d earlier count l e e' =
    let before = groups_cells [] (map plain (take i groups)) in
    let group = plain (get_or groups i d) in
    let same : count ≡ saturated (group_cells before group) = e' ∙ ap (λ (ns : List ℕ). saturated (group_cells ns group)) e ∙ capped_group before group in
    sym
    (ap (λ r. map saturated (groups_cells [] (map plain r))) (take_more groups i d l)
    ∙ ap (λ r. map saturated (groups_cells [] r)) (map_push plain (take i groups) (get_or groups i d))
    ∙ ap (map saturated) (groups_push [] (map plain (take i groups)) group)
    ∙ map_push saturated before (group_cells before group)
    ∙ ap₂ (λ (ns : List ℕ) (n : ℕ). ns ++ n ∷ []) (sym e) (sym same))
