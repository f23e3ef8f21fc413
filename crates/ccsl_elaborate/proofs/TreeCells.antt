-- The cells of trees are those of what they become, whatever their names stand for.
use Rattle.std.proofs.Common.{◌≡◌, ℕ, ◌+◌, ◌/◌, List, [], ◌∷◌, ◌++◌, length, map, max, Option, Some, None, refl, sym, ap, ap₂, ◌∙◌}
use Rattle.std.proofs.lemmas.List.{map_push, length-map}
use Rattle.ccsl_ast.specs.Trees.{Expression, EName, ECall, ENever, EBinary, EDelay, EAwait, EFilter, EDelayed, EIf, PlainMember, PlainDefinition, DRelation}
use Rattle.ccsl_ast.specs.Trees.{DGroup}
use Rattle.ccsl_ast.specs.declared.definition.Param.{Param}
use Rattle.ccsl_kernel.specs.declared.expr.Value.{Value}
use Rattle.ccsl_kernel.specs.Syntax.{Body}
use Rattle.ccsl_kernel.specs.Cells.{saturated, greatest, cells_of_two, cells_in, group_cells, groups_cells}
use Rattle.ccsl_kernel.proofs.CellCounts.{capped_cells_in, capped_group}
use Rattle.ccsl_rules.specs.Spaces.{Known, Callee, Role, relation, member, look}
use Rattle.ccsl_rules.specs.Texts.{texts, block_texts}
use Rattle.ccsl_rules.specs.Settings.{Setting}
use Rattle.ccsl_rules.specs.Resolved.{Tables, resolve_op, resolve_arguments, role_call, resolve_call, resolve}
use Rattle.ccsl_rules.specs.Expansion.{kind_in, own_params, part_bodies, groups_of}
use Rattle.ccsl_elaborate.specs.TreeCells.{role_cells, call_cells, tree_cells, members_cells, groups_before}

module _ (K : Tables) where
  role-cells : (G : List ℕ) (r : Role) (args : List Value) → cells_in G (role_call r args) ≡ role_cells G r
  role-cells G relation args = refl
  role-cells G (member group number) args = refl

  call-cells : (G : List ℕ) (found : Option (Known Callee)) (args : List Value) → cells_in G (resolve_call found args) ≡ call_cells G found
  call-cells G None args = refl
  call-cells G (Some k) args = role-cells G k.what.role args

  -- OF AN EXPRESSION
  pub tree-cells : (G : List ℕ) (σ : Setting) (k : ℕ) (e : Expression) → cells_in G (resolve K σ k e) ≡ tree_cells K.calls G e
  tree-cells G σ k (EName s) = refl
  tree-cells G σ k (ECall s args) = call-cells G (look s.name K.calls) (resolve_arguments K σ k args)
  tree-cells G σ k ENever = refl
  tree-cells G σ k (EBinary op a d) = ap₂ (cells_of_two (resolve_op op)) (tree-cells G σ k a) (tree-cells G σ (k + length (texts a)) d)
  tree-cells G σ k (EDelay a m) = ap (λ n. 1 + n) (tree-cells G σ k a)
  tree-cells G σ k (EAwait a m) = ap (λ n. 1 + n) (tree-cells G σ k a)
  tree-cells G σ k (EFilter a w) = ap (λ n. 1 + n) (tree-cells G σ k a)
  tree-cells G σ k (EDelayed a at m d) = ap₂ (λ x y. 2 + (m + 63) / 64 + x + y) (tree-cells G σ k a) (tree-cells G σ (k + length (texts a)) d)
  tree-cells G σ k (EIf q a d) = ap₂ (λ x y. 1 + max x y) (tree-cells G σ k a) (tree-cells G σ (k + length (texts a)) d)

  -- counts of calls that are cut give the same count, as far as it goes
  pub capped-tree : (G : List ℕ) (e : Expression) → saturated (tree_cells K.calls (map saturated G) e) ≡ saturated (tree_cells K.calls G e)
  capped-tree G e =
      ap saturated (sym (tree-cells (map saturated G) [] 0 e)) ∙ capped_cells_in G (resolve K [] 0 e) ∙ ap saturated (tree-cells G [] 0 e)

  -- OF A GROUP
  most-params : (k : ℕ) (ms : List PlainMember) → greatest (map (λ b. length b.params) (part_bodies K k ms)) ≡ greatest (map (λ m. length m.params) ms)
  most-params k [] = refl
  most-params k (m ∷ ms) = ap₂ max (length-map m.params (λ (p : Param). kind_in p.kind)) (most-params (k + length (texts m.body)) ms)

  most-cells : (G : List ℕ) (k : ℕ) (ms : List PlainMember)
      → greatest (map (λ b. cells_in G b.root) (part_bodies K k ms)) ≡ greatest (map (λ m. tree_cells K.calls G m.body) ms)
  most-cells G k [] = refl
  most-cells G k (m ∷ ms) = ap₂ max (tree-cells G (own_params 0 m.params) k m.body) (most-cells G (k + length (texts m.body)) ms)

  members-cells : (G : List ℕ) (k : ℕ) (ms : List PlainMember) → saturated (group_cells G (part_bodies K k ms)) ≡ members_cells K.calls G ms
  members-cells G k ms = ap₂ (λ x y. saturated (1 + x + y)) (most-params k ms) (most-cells G k ms)

  -- OF ALL GROUPS
  pub all-groups : (G : List ℕ) (k : ℕ) (bs : List PlainDefinition)
      → groups_before K.calls (map saturated G) bs ≡ map saturated (groups_cells G (groups_of K k bs))
  all-groups G k [] = refl
  all-groups G k (DRelation name params lines ∷ bs) = all-groups G (k + length (block_texts (DRelation name params lines))) bs
  all-groups G k (DGroup members ∷ bs) =
      let bodies = part_bodies K k members in
      let here : members_cells K.calls (map saturated G) members ≡ saturated (group_cells G bodies) =
      sym (members-cells (map saturated G) k members) ∙ capped_group G bodies in
      ap (λ n. groups_before K.calls (map saturated G ++ n ∷ []) bs) here
      ∙ ap (λ H. groups_before K.calls H bs) (sym (map_push saturated G (group_cells G bodies)))
      ∙ all-groups (G ++ group_cells G bodies ∷ []) (k + length (block_texts (DGroup members))) bs

-- groups one after another
pub groups_cells-append : (G : List ℕ) (gs hs : List (List Body)) → groups_cells G (gs ++ hs) ≡ groups_cells (groups_cells G gs) hs
groups_cells-append G [] hs = refl
groups_cells-append G (g ∷ gs) hs = groups_cells-append (G ++ group_cells G g ∷ []) gs hs
