-- The cells of an expansion are what its items weigh.
use Rattle.std.proofs.Common.{◌≡◌, ℕ, ◌+◌, ◌*◌, List, [], ◌∷◌, ◌++◌, length, map, sum, filter_map, refl, sym, ap, ◌∙◌, arith}
use Rattle.std.proofs.lemmas.Grind.{common_steps}
use Rattle.std.proofs.lemmas.List.Sums.{sum_by-cons}
use Rattle.ccsl_ast.specs.Trees.{PlainFile}
use Rattle.ccsl_kernel.specs.Cells.{saturated, cells_in, groups_cells, cells}
use Rattle.ccsl_rules.specs.Texts.{sheet_texts}
use Rattle.ccsl_rules.specs.Resolved.{Tables}
use Rattle.ccsl_rules.specs.Unfolded.{Item, Defines, Binds}
use Rattle.ccsl_rules.specs.Expansion.{written_item, hidden_item, item_definition, constraint_of, groups_of, items_of, expand, words_of}
use Rattle.ccsl_rules.specs.Counts.{Weights, weight, file_count}
use Rattle.ccsl_rules.proofs.Counting.{file-weight}
use Rattle.ccsl_elaborate.specs.TreeCells.{tree_cells, groups_before}
use Rattle.ccsl_elaborate.specs.Weighed.{calls_of}
use Rattle.ccsl_elaborate.proofs.TreeCells.{tree-cells, capped-tree, all-groups, groups_cells-append}

module _ (K : Tables) (G : List ℕ) where
  -- the weights by exact counts of calls, and by counts that are cut
  abbrev exact : Weights
  exact = record { definition = tree_cells K.calls G; constraint = 2 }

  abbrev capped : Weights
  capped = record { definition = tree_cells K.calls (map saturated G); constraint = 2 }

  capped-weight : (xs : List Item) → saturated (weight capped xs) ≡ saturated (weight exact xs)
  capped-weight [] = refl
  capped-weight (Defines path name σ k e ∷ xs) = omega (arith, capped-tree K G e, capped-weight xs)
  capped-weight (Binds path σ a r b ∷ xs) = omega (arith, capped-weight xs)

  -- the cells of the definitions of items
  abbrev total : List Item → ℕ
  total [] = 0
  total (x ∷ xs) = cells_in G (item_definition K x) + total xs

  sum-total : (xs : List Item) → sum (map (cells_in G) (map (item_definition K) xs)) ≡ total xs
  sum-total [] = refl
  sum-total (x ∷ xs) =
      sum_by-cons (λ (n : ℕ). n) (cells_in G (item_definition K x)) (map (cells_in G) (map (item_definition K) xs))
      ∙ ap (λ n. cells_in G (item_definition K x) + n) (sum-total xs)

  total-append : (xs ys : List Item) → total (xs ++ ys) ≡ total xs + total ys
  total-append [] ys = omega arith
  total-append (x ∷ xs) ys = omega (arith, total-append xs ys)

  -- written definitions, hidden ones and constraints are all items
  total-weight : (names : List (List ℕ)) (xs : List Item)
      → total (filter_map written_item xs) + total (filter_map hidden_item xs) + 2 * length (filter_map (constraint_of names) xs) ≡ weight exact xs
  total-weight names [] = refl
  total-weight names (Defines [] name σ k e ∷ xs) = grind (arith, common_steps, tree-cells K G σ k e, total-weight names xs)
  total-weight names (Defines (b ∷ bs) name σ k e ∷ xs) = grind (arith, common_steps, tree-cells K G σ k e, total-weight names xs)
  total-weight names (Binds path σ a r b ∷ xs) = grind (arith, common_steps, total-weight names xs)

  all-weight : (names : List (List ℕ)) (xs : List Item) →
      sum (map (cells_in G) (map (item_definition K) (filter_map written_item xs ++ filter_map hidden_item xs)))
      + 2 * length (filter_map (constraint_of names) xs) ≡ weight exact xs
  all-weight names xs =
      let both = sum-total (filter_map written_item xs ++ filter_map hidden_item xs) in
      let split = total-append (filter_map written_item xs) (filter_map hidden_item xs) in
      let whole = total-weight names xs in
      omega arith

-- the counts of the groups of a file behind a library
abbrev pub file_groups : PlainFile → PlainFile → List ℕ
file_groups library file =
    let calls = calls_of library file in groups_before calls (groups_before calls [] library.definitions) file.definitions

-- THE CELLS are what the trees weigh
pub cells-agree : (library file : PlainFile) →
    saturated (cells (expand library file)) ≡ file_count (record { definition = tree_cells (calls_of library file) (file_groups library file); constraint = 2 })
    library file
cells-agree library file =
    let calls = calls_of library file in
    let items = items_of library file in
    let K : Tables = record { names = (expand library file).names; words = words_of library file; calls = calls } in
    let first = groups_of K 0 library.definitions in
    let second = groups_of K (length (sheet_texts library)) file.definitions in
    let G = groups_cells [] (first ++ second) in
    let groups : file_groups library file ≡ map saturated G =
    ap (λ H. groups_before calls H file.definitions) (all-groups K [] 0 library.definitions)
    ∙ (all-groups K (groups_cells [] first) (length (sheet_texts library)) file.definitions
    ∙ ap (map saturated) (sym (groups_cells-append [] first second))) in
    ap saturated (all-weight K G (expand library file).names items)
    ∙ (sym (capped-weight K G items)
    ∙ (file-weight (capped K G) library file
    ∙ ap (λ H. file_count (record { definition = tree_cells calls H; constraint = 2 }) library file) (sym groups)))
