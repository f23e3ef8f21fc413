-- Each line that declares no clock expands to an item at least, so that a body has no more such lines than items.
use Rattle.std.proofs.Common.{◌≡◌, ℕ, ◌+◌, ◌<◌, ◌≤◌, List, [], ◌∷◌, ◌++◌, Option, Some, None, Bool, true, false, not, ◌&&◌, length, length-append, map}
use Rattle.std.proofs.Common.{flat_map, take, slice_get, bytes_eq, nat_lt, nat_eq, refl, sym, ap, ◌∙◌, subst, arith, ⊎_elim}
use Rattle.std.specs.List.{list_all}
use Rattle.std.proofs.lemmas.Bool.{and_parts, cases_lt}
use Rattle.std.proofs.lemmas.Bool.Decides.{nat_tests}
use Rattle.ccsl_ast.specs.declared.spot.Spot.{Spot}
use Rattle.ccsl_ast.specs.declared.definition.Param.{Param}
use Rattle.ccsl_ast.specs.declared.term.Argument.{Argument}
use Rattle.ccsl_ast.specs.Trees.{Line, LDefine, LConstraint, LCall, SLine, SClocks, SLineOf, PlainDefinition, DRelation, DGroup}
use Rattle.ccsl_ast.specs.Kept.{has_member, spot_kept, param_kept, rline_kept, sline_kept, definition_kept}
use Rattle.ccsl_kernel.specs.declared.position.Position.TheVariants.{Inner}
use Rattle.ccsl_kernel.specs.Syntax.{Body}
use Rattle.ccsl_rules.specs.Faults.{Fault, where_so, Unknown, Later, WrongKind}
use Rattle.ccsl_rules.specs.Spaces.{Known, Callee, Role, relation, member, look, calls_space, repeated, spots, params_space, lines_space}
use Rattle.ccsl_rules.specs.Uses.{Scene, is_own, has_role, callee_faults, argument_faults}
use Rattle.ccsl_rules.specs.Blocks.{Heights, entry_faults, entries_faults, params_faults, block_faults, blocks_faults}
use Rattle.ccsl_rules.specs.Settings.{Atom, Setting, argument_atoms}
use Rattle.ccsl_rules.specs.Texts.{entry_texts, block_texts}
use Rattle.ccsl_rules.specs.Resolved.{Tables}
use Rattle.ccsl_rules.specs.Unfolded.{Unfolding, Unfoldings, unfolding_at, unfold_line, unfold_entry, unfold_body, unfold_block, unfoldings, call_path}
use Rattle.ccsl_rules.specs.Unfolded.{arguments, own_clocks}
use Rattle.ccsl_rules.specs.Expansion.{declared_names}
use Rattle.ccsl_rules.proofs.Lookups.{get-front}
use Rattle.ccsl_rules.proofs.Guarded.{left-empty, right-empty, no-fault}
use Rattle.ccsl_rules.proofs.Ordered.{groups_in, Good, space-good, found-all}
use Rattle.ccsl_rules.proofs.Ready.{IsRelation, AreThere}
use Rattle.ccsl_base.proofs.Cases.{get-last}

no-relation : (g m : ℕ) → not (has_role (member g m) true) ≡ false → ⊥
no-relation g m e = cc

module _ (K : Tables) (blocks : List PlainDefinition) (same : K.calls ≡ calls_space 0 0 blocks) where
  abbrev pub Full : Unfolding → Type 0
  Full u = (path : List ℕ) (args : List Atom) → 1 ≤ length (u path args)

  -- each relation that stands in R expands to an item at least
  abbrev pub AreFull : Unfoldings → Type 0
  AreFull R = (name : List ℕ) (c : Known Callee) → look name K.calls ≡ Some c → c.what.role ≡ relation → c.what.block < length R
      → Full (unfolding_at (slice_get R c.what.block))

  pub none-full : AreFull []
  none-full name c l r h = absurd (omega arith)

  -- a call of a relation without a fault is one of an earlier relation
  since-next : (name : List ℕ) (c : Known Callee) → look name K.calls ≡ Some c → c.since ≡ c.what.block + 1
  since-next name c l =
      (found-all (Good 0 0) (λ x. bytes_eq x.name.name name) (calls_space 0 0 blocks) c (space-good 0 0 0 0 blocks (λ _. none blocks))
      (ap (λ (cs : List (Known Callee)). look name cs) (sym same) ∙ l)).since
    where
      none : (bs : List PlainDefinition) → 0 ≡ 0 + groups_in 0 bs
      none bs = refl

  module _ (R : Unfoldings) (full : AreFull R) (two : Bool) where
    call-full : (S : Scene) → S.calls ≡ K.calls → S.home ≤ length R
        → (path : List ℕ) (args : List Atom) (s : Spot) (as' : List Argument) (o : Option (Known Callee)) → look s.name K.calls ≡ o →
        elim o as (λ _. List Fault) [ None ↦ where_so true Unknown s.at | Some k ↦ callee_faults S true Inner s as' k ] ≡ [] →
        1 ≤ length (elim o as (λ _. Unfolding) [ None ↦ λ path args. [] | Some k ↦ unfolding_at (slice_get R k.what.block) ] path args)
    call-full S own h path args s as' None l e = absurd (cc)
    call-full S own h path args s as' (Some c) l e = full s.name c l (role c.what.role refl) earlier path args where
      role : (r : Role) → c.what.role ≡ r → c.what.role ≡ relation
      role relation e' = e'
      role (member g m) e' =
          let wrong : not (has_role c.what.role true) ≡ false =
          no-fault _ WrongKind s.at (right-empty _ _ (left-empty _ _ (left-empty _ _ (left-empty _ _ (left-empty _ _ e))))) in
          let z : not (has_role (member g m) true) ≡ false = subst (λ x. not (has_role x true) ≡ false) e' wrong in
          absurd (no-relation g m z)

      earlier : c.what.block < length R
      earlier =
          let later : (not (is_own S c.what) && nat_lt S.home c.since) ≡ false =
          no-fault _ Later s.at (left-empty _ _ (left-empty _ _ (left-empty _ _ (left-empty _ _ (left-empty _ _ e))))) in
          let foreign : is_own S c.what ≡ false = ap (λ r. has_role r false && nat_eq c.what.block S.home) (role c.what.role refl) in
          let now : nat_lt S.home c.since ≡ false = subst (λ b. (not b && nat_lt S.home c.since) ≡ false) foreign later in
          let before : c.since ≤ S.home = grind (arith, nat_tests) in
          let up = since-next s.name c l in
          omega arith

    -- a line
    line-full : (S : Scene) → S.calls ≡ K.calls → S.home ≤ length R → (path : List ℕ) (σ : Setting) (k i : ℕ) (l : Line) → entry_faults S (SLineOf l) ≡ []
        → 1 ≤ length (unfold_line K.words K.calls R path σ k i l)
    line-full S own h path σ k i (LDefine s e) f = omega arith
    line-full S own h path σ k i (LConstraint a r b) f = omega arith
    line-full S own h path σ k i (LCall s args) f =
        call-full S own h (call_path path s.name i) (argument_atoms K.words σ k args) s args (look s.name K.calls) refl
        (ap (λ (cs : List (Known Callee)). elim (look s.name cs) as (λ _. List Fault) [
          | None ↦ where_so true Unknown s.at
          | Some k ↦ callee_faults S true Inner s args k
        ]) (sym own)
        ∙ left-empty _ (flat_map (argument_faults S) args) f)

    entry-full : (S : Scene) → S.calls ≡ K.calls → S.home ≤ length R → (path : List ℕ) (σ : Setting) (k i : ℕ) (e : SLine) → entry_faults S e ≡ []
        → sline_kept two e ≡ true →
        1 ≤ length (declared_names e) + length (unfold_entry K.words K.calls R path σ k i e)
    entry-full S own h path σ k i (SClocks []) f kept = absurd (cc)
    entry-full S own h path σ k i (SClocks (s ∷ ss)) f kept = omega arith
    entry-full S own h path σ k i (SLineOf l) f kept = let z = line-full S own h path σ k i l f in omega arith

    pub body-full : (S : Scene) → S.calls ≡ K.calls → S.home ≤ length R → (path : List ℕ) (σ : Setting) (k i : ℕ) (es : List SLine) → entries_faults S i es ≡ []
        → list_all (sline_kept two) es ≡ true →
        length es ≤ length (flat_map declared_names es) + length (unfold_body K.words K.calls R path σ k i es)
    body-full S own h path σ k i [] f kept = omega arith
    body-full S own h path σ k i (e ∷ es) f kept =
        let w = and_parts (sline_kept two e) (list_all (sline_kept two) es) kept in
        let here = unfold_entry K.words K.calls R path σ k i e in
        let rest = unfold_body K.words K.calls R path σ (k + length (entry_texts e)) (i + 1) es in
        let p = entry-full (record S { line = i }) own h path σ k i e (left-empty _ (entries_faults S (i + 1) es) f) w.0 in
        let q = body-full S own h path σ (k + length (entry_texts e)) (i + 1) es (right-empty (entry_faults (record S { line = i }) e) _ f) w.1 in
        let a = length-append (declared_names e) (flat_map declared_names es) in
        let b = length-append here rest in
        omega arith

  -- a relation's lines declare no clocks
  pub none-declared : (ls : List Line) → flat_map declared_names (map SLineOf ls) ≡ []
  none-declared [] = refl
  none-declared (l ∷ ls) = none-declared ls

  pub lines-kept : (two : Bool) (ls : List Line) → list_all (rline_kept two) ls ≡ true → list_all (sline_kept two) (map SLineOf ls) ≡ true
  lines-kept two [] h = refl
  lines-kept two (l ∷ ls) h =
      let w = and_parts (rline_kept two l) (list_all (rline_kept two) ls) h in
      ap (λ b. b && list_all (sline_kept two) (map SLineOf ls)) w.0 ∙ lines-kept two ls w.1

  -- the lines of a relation that is kept: at least one
  pub relation-lines : (two : Bool) (name : Spot) (params : List Param) (lines : List Line) → definition_kept two (DRelation name params lines) ≡ true
      → (has_member lines ≡ true) × (list_all (rline_kept two) lines ≡ true)
  relation-lines two name params lines h =
      and_parts (has_member lines) (list_all (rline_kept two) lines) (and_parts (list_all param_kept params) _ (and_parts (spot_kept name) _ h).1).1

  some-line : (ls : List Line) → has_member ls ≡ true → 1 ≤ length (map SLineOf ls)
  some-line [] h = absurd (cc)
  some-line (l ∷ ls) h = omega arith

  -- the definition that stands next
  pub next-full : (R : Unfoldings) → AreFull R → (two : Bool) (heights : Heights) (k : ℕ) (b : PlainDefinition) (ps : List Param) → IsRelation b ps
      → block_faults K.calls heights (length R) b ≡ [] → definition_kept two b ≡ true →
      Full (unfold_block K.words K.calls R k b)
  next-full R full two heights k (DRelation name params lines) ps is f h path args =
      let locals : List (Known _) = params_space params ++ lines_space 0 (map SLineOf lines) in
      let S : Scene = record { locals = locals; line = 0; calls = K.calls; home = length R; levels = take (length R) heights.relations } in
      let w = relation-lines two name params lines h in
      let some = some-line lines w.0 in
      let none : length (flat_map declared_names (map SLineOf lines)) ≡ 0 = ap length (none-declared lines) in
      let all = body-full R full two S refl (omega arith) path (arguments params args ++ own_clocks path (map SLineOf lines)) k 0 (map SLineOf lines)
      (right-empty (params_faults params ++ repeated [] (spots locals)) _ f) (lines-kept two lines w.1) in
      omega arith
  next-full R full two heights k (DGroup members) ps is f h path args = absurd is

  pub more-full : (R : Unfoldings) → AreFull R → (u : Unfolding)
      → ((name : List ℕ) (c : Known Callee) → look name K.calls ≡ Some c → c.what.role ≡ relation → c.what.block ≡ length R → Full u) → AreFull (R ++ u ∷ [])
  more-full R full u this name c l r h =
      let a = length-append R (u ∷ []) in
      ⊎_elim (λ (s : c.what.block < length R). subst (λ x. Full (unfolding_at x)) (sym (get-front R (u ∷ []) c.what.block s)) (full name c l r s))
      (λ (s : length R ≤ c.what.block).
      let e : c.what.block ≡ length R = omega arith in
      subst (λ x. Full (unfolding_at x)) (sym (ap (slice_get (R ++ u ∷ [])) e ∙ get-last R u)) (this name c l r e))
      (cases_lt c.what.block (length R))

  pub blocks-full : (groups : List (List Body)) (two : Bool) (heights : Heights) (R : Unfoldings) → AreFull R → (k home : ℕ) → length R ≡ home
      → (bs : List PlainDefinition) → AreThere groups K home bs → blocks_faults K.calls heights home bs ≡ [] →
      list_all (definition_kept two) bs ≡ true → AreFull (unfoldings K.words K.calls R k bs)
  blocks-full groups two heights R full k home n [] t f h = full
  blocks-full groups two heights R full k home n (b ∷ bs) t f h =
      let w = and_parts (definition_kept two b) (list_all (definition_kept two) bs) h in
      let here : block_faults K.calls heights (length R) b ≡ [] =
      subst (λ m. block_faults K.calls heights m b ≡ []) (sym n)
      (left-empty (block_faults K.calls heights home b) (blocks_faults K.calls heights (home + 1) bs) f) in
      let l = length-append R (unfold_block K.words K.calls R k b ∷ []) in
      blocks-full groups two heights (R ++ unfold_block K.words K.calls R k b ∷ [])
      (more-full R full (unfold_block K.words K.calls R k b) (λ name c l r e. next-full R full two heights k b c.what.params (t.0 name c l r (e ∙ n)) here w.0))
      (k + length (block_texts b)) (home + 1) (omega arith) bs t.1
      (right-empty (block_faults K.calls heights home b) (blocks_faults K.calls heights (home + 1) bs) f) w.1
