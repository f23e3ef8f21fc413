-- The cells of expressions and groups as their trees have them.
use Rattle.std.specs.Prelude.{ℕ, ◌+◌, ◌/◌, List, [], ◌∷◌, ◌++◌, length, map, max, slice_index, Option, Some, None}
use Rattle.ccsl_ast.specs.Trees.{Expression, EName, ECall, ENever, EBinary, EDelay, EAwait, EFilter, EDelayed, EIf, PlainMember, PlainDefinition, DRelation}
use Rattle.ccsl_ast.specs.Trees.{DGroup}
use Rattle.ccsl_kernel.specs.Cells.{saturated, greatest, cells_of_two}
use Rattle.ccsl_rules.specs.Spaces.{Known, Callee, Role, relation, member, look}
use Rattle.ccsl_rules.specs.Resolved.{resolve_op}

-- of a call of what a name stands for; what is no expression calls nothing
abbrev pub role_cells : List ℕ → Role → ℕ
role_cells groups relation = 1
role_cells groups (member group number) = slice_index groups group

abbrev pub call_cells : List ℕ → Option (Known Callee) → ℕ
call_cells groups None = 1
call_cells groups (Some k) = role_cells groups k.what.role

module _ (calls : List (Known Callee)) where
  -- of an expression, by those of a call to each group
  abbrev pub tree_cells : List ℕ → Expression → ℕ
  tree_cells groups (EName s) = 1
  tree_cells groups (ECall s args) = call_cells groups (look s.name calls)
  tree_cells groups ENever = 1
  tree_cells groups (EBinary op a d) = cells_of_two (resolve_op op) (tree_cells groups a) (tree_cells groups d)
  tree_cells groups (EDelay a m) = 1 + tree_cells groups a
  tree_cells groups (EAwait a m) = 1 + tree_cells groups a
  tree_cells groups (EFilter a w) = 1 + tree_cells groups a
  tree_cells groups (EDelayed a at m d) = 2 + (m + 63) / 64 + tree_cells groups a + tree_cells groups d
  tree_cells groups (EIf q a d) = 1 + max (tree_cells groups a) (tree_cells groups d)

  -- of a call to a group, as far as they are counted
  abbrev pub members_cells : List ℕ → List PlainMember → ℕ
  members_cells groups members = saturated (1 + greatest (map (λ m. length m.params) members) + greatest (map (λ m. tree_cells groups m.body) members))

  -- of a call to each group among definitions, behind those before
  abbrev pub groups_before : List ℕ → List PlainDefinition → List ℕ
  groups_before groups [] = groups
  groups_before groups (DRelation name params lines ∷ bs) = groups_before groups bs
  groups_before groups (DGroup members ∷ bs) = groups_before (groups ++ members_cells groups members ∷ []) bs
