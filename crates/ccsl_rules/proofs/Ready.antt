-- All relations of a list of definitions without a fault keep the order of clocks.
use Rattle.std.proofs.Common.{◌≡◌, ℕ, zero, suc, ◌+◌, ◌<◌, List, [], ◌∷◌, ◌++◌, Some, length, length-append, map, flat_map, take, slice_get, refl, sym, ap, ◌∙◌}
use Rattle.std.proofs.Common.{subst, ◌⊎◌, inl, inr, arith}
use Rattle.std.proofs.lemmas.Option.{slice_get_past}
use Rattle.ccsl_ast.specs.declared.definition.Param.{Param}
use Rattle.ccsl_ast.specs.Trees.{Line, SLineOf, PlainDefinition, DRelation, DGroup}
use Rattle.ccsl_kernel.specs.Syntax.{Body, body_of}
use Rattle.ccsl_rules.specs.Spaces.{Known, Callee, relation, member, look, params_space, lines_space, repeated, spots}
use Rattle.ccsl_rules.specs.Texts.{line_texts, entry_texts, block_texts}
use Rattle.ccsl_rules.specs.Resolved.{Tables}
use Rattle.ccsl_rules.specs.Unfolded.{Unfolding, Unfoldings, unfolding_at, unfold_block, unfoldings}
use Rattle.ccsl_rules.specs.Blocks.{Heights, params_faults, block_faults, blocks_faults}
use Rattle.ccsl_rules.specs.Expansion.{kind_in}
use Rattle.ccsl_rules.proofs.Lookups.{get-front}
use Rattle.ccsl_rules.proofs.Guarded.{left-empty, right-empty}
use Rattle.ccsl_rules.proofs.Known.{AreAt, at-left, at-right}
use Rattle.ccsl_rules.proofs.Rising.{nowhere, Keeps, Ready, relation-keeps}
use Rattle.ccsl_base.proofs.Cases.{get-last}

by-order : (a b : ℕ) → (a < b) ⊎ ((a ≡ b) ⊎ (b < a))
by-order zero zero = inr (inl refl)
by-order zero (suc b) = inl (omega arith)
by-order (suc a) zero = inr (inr (omega arith))
by-order (suc a) (suc b) = elim (by-order a b) [ inl h ↦ inl (omega arith) | inr o ↦ inr (elim o [ inl e ↦ inl (ap suc e) | inr h ↦ inr (omega arith) ]) ]

lines-texts : (ls : List Line) → flat_map entry_texts (map SLineOf ls) ≡ flat_map line_texts ls
lines-texts [] = refl
lines-texts (l ∷ ls) = ap (λ x. line_texts l ++ x) (lines-texts ls)

-- a definition is the relation with these parameters
abbrev pub IsRelation : PlainDefinition → List Param → Type 0
IsRelation (DRelation name params lines) ps = params ≡ ps
IsRelation (DGroup members) ps = ⊥

module _ (groups : List (List Body)) (K : Tables) where
  -- what a space says of each relation is so
  abbrev pub AreThere : ℕ → List PlainDefinition → Type 0
  AreThere home [] = Unit {0}
  AreThere home (b ∷ bs) =
      ((name : List ℕ) (c : Known Callee) → look name K.calls ≡ Some c → c.what.role ≡ relation → c.what.block ≡ home → IsRelation b c.what.params)
      × AreThere (home + 1) bs

  pub none-ready : ((name : List ℕ) (c : Known Callee) (g m : ℕ) → look name K.calls ≡ Some c → c.what.role ≡ member g m →
      (b : Body) × (body_of groups g m ≡ Some b) × (b.params ≡ map (λ p. kind_in p.kind) c.what.params)) → Ready groups K []
  none-ready bodies = record { bodies = bodies; keeps = λ name c l r X path args fit placed. tt }

  -- the definition that stands next
  next-keeps : (R : Unfoldings) → Ready groups K R → (heights : Heights) (k : ℕ) (b : PlainDefinition) (ps : List Param) → IsRelation b ps
      → AreAt groups 0 [] K (nowhere groups K) [] k (block_texts b) →
      block_faults K.calls heights (length R) b ≡ [] → Keeps groups K ps (unfold_block K.words K.calls R k b)
  next-keeps R ready heights k (DRelation name params lines) ps e h f =
      let locals : List (Known _) = params_space params ++ lines_space 0 (map SLineOf lines) in
      subst (λ q. Keeps groups K q (unfold_block K.words K.calls R k (DRelation name params lines))) e
      (relation-keeps groups K R ready (length R) (take (length R) heights.relations) k params lines
      (subst (λ ts. AreAt groups 0 [] K (nowhere groups K) [] k ts) (sym (lines-texts lines)) h)
      (right-empty (params_faults params ++ repeated [] (spots locals)) _ f))
  next-keeps R ready heights k (DGroup members) ps e h f = absurd e

  more-ready : (R : Unfoldings) (ready : Ready groups K R) (u : Unfolding) →
      ((name : List ℕ) (c : Known Callee) → look name K.calls ≡ Some c → c.what.role ≡ relation → c.what.block ≡ length R → Keeps groups K c.what.params u)
      → Ready groups K (R ++ u ∷ [])
  more-ready R ready u this = record {
    bodies = ready.bodies;
    keeps = λ name c l r. by_place name c l r (by-order c.what.block (length R));
  }
    where
      by_place : (name : List ℕ) (c : Known Callee) → look name K.calls ≡ Some c → c.what.role ≡ relation
          → (c.what.block < length R) ⊎ ((c.what.block ≡ length R) ⊎ (length R < c.what.block)) →
          Keeps groups K c.what.params (unfolding_at (slice_get (R ++ u ∷ []) c.what.block))
      by_place name c l r (inl h) =
          subst (λ x. Keeps groups K c.what.params (unfolding_at x)) (sym (get-front R (u ∷ []) c.what.block h)) (ready.keeps name c l r)
      by_place name c l r (inr (inl e)) =
          subst (λ x. Keeps groups K c.what.params (unfolding_at x)) (sym (ap (slice_get (R ++ u ∷ [])) e ∙ get-last R u)) (this name c l r e)
      by_place name c l r (inr (inr h)) =
          subst (λ x. Keeps groups K c.what.params (unfolding_at x))
          (sym (slice_get_past (R ++ u ∷ []) c.what.block (omega (arith, length-append R (u ∷ [])))))
          (λ X path args fit placed. tt)

  -- ALL DEFINITIONS without a fault
  pub blocks-ready : (heights : Heights) (R : Unfoldings) → Ready groups K R → (k home : ℕ) → length R ≡ home → (bs : List PlainDefinition) → AreThere home bs
      → AreAt groups 0 [] K (nowhere groups K) [] k (flat_map block_texts bs) →
      blocks_faults K.calls heights home bs ≡ [] → Ready groups K (unfoldings K.words K.calls R k bs)
  blocks-ready heights R ready k home n [] t h f = ready
  blocks-ready heights R ready k home n (b ∷ bs) t h f =
      let here : block_faults K.calls heights (length R) b ≡ [] =
      subst (λ m. block_faults K.calls heights m b ≡ []) (sym n)
      (left-empty (block_faults K.calls heights home b) (blocks_faults K.calls heights (home + 1) bs) f) in
      let texts = at-left groups 0 [] K (nowhere groups K) [] k (block_texts b) (flat_map block_texts bs) h in
      blocks-ready heights (R ++ unfold_block K.words K.calls R k b ∷ [])
      (more-ready R ready (unfold_block K.words K.calls R k b)
      (λ name c l r e. next-keeps R ready heights k b c.what.params (t.0 name c l r (e ∙ n)) texts here))
      (k + length (block_texts b)) (home + 1) (let a = length-append R (unfold_block K.words K.calls R k b ∷ []) in omega arith) bs t.1
      (at-right groups 0 [] K (nowhere groups K) [] k (block_texts b) (flat_map block_texts bs) h)
      (right-empty (block_faults K.calls heights home b) (blocks_faults K.calls heights (home + 1) bs) f)
