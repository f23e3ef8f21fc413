-- What a file without a fault expands to is sound, item by item: its calls are allowed, it is not too deep, its bounds are at least 1, and
-- its names are names of the grammar, or paths where a relation hides them.
use Rattle.std.proofs.Common.{◌≡◌, ℕ, zero, suc, ◌+◌, ◌≤◌, List, [], ◌∷◌, ◌++◌, Option, Some, None, Bool, true, false, length, map, take, slice_get, nat_eq}
use Rattle.std.proofs.Common.{refl, sym, ◌∙◌, subst, arith, inl, inr}
use Rattle.std.specs.List.{AllByRecursion, list_all}
use Rattle.std.proofs.lemmas.Bool.{and_parts}
use Rattle.std.proofs.lemmas.Bool.Decides.{nat_tests}
use Rattle.ccsl_base.specs.Name.{is_name}
use Rattle.ccsl_ast.specs.declared.definition.Kind.TheVariants as kind
use Rattle.ccsl_ast.specs.declared.line.Relation.{Relation}
use Rattle.ccsl_ast.specs.declared.line.Relation.TheVariants as rel
use Rattle.ccsl_ast.specs.Trees.{Expression, Line, LDefine, LConstraint, LCall, SLine, SClocks, SLineOf, PlainDefinition, DRelation, DGroup}
use Rattle.ccsl_ast.specs.Depth.{depth, greatest, rline_depth, sline_depth, definition_depth}
use Rattle.ccsl_ast.specs.Kept.{spot_kept, arg_kept, expression_kept, rline_kept, sline_kept, param_kept, definition_kept, has_member}
use Rattle.ccsl_kernel.specs.declared.position.Position.TheVariants.{Inner}
use Rattle.ccsl_kernel.specs.declared.expr.ExprOp.{ExprOp}
use Rattle.ccsl_kernel.specs.declared.expr.ExprOp.TheVariants as does
use Rattle.ccsl_kernel.specs.Syntax as kernel
use Rattle.ccsl_kernel.specs.Guarded.{Allowed, right_of}
use Rattle.ccsl_kernel.specs.Accepted as accepted
use Rattle.ccsl_kernel.specs.Accepted.{is_hidden, IsRelation}
use Rattle.ccsl_rules.specs.Faults.{Arguments}
use Rattle.ccsl_rules.specs.Spaces.{Known, Callee, look, calls_space, repeated, spots, params_space, lines_space}
use Rattle.ccsl_rules.specs.Uses.{Scene, used_as, expr_faults}
use Rattle.ccsl_rules.specs.Blocks.{Heights, relation_faults, line_faults, entry_faults, entries_faults, params_faults, block_faults, blocks_faults}
use Rattle.ccsl_rules.specs.Settings.{Atom, Setting, argument_atoms}
use Rattle.ccsl_rules.specs.Texts.{entry_texts, block_texts}
use Rattle.ccsl_rules.specs.Resolved.{Tables, resolve}
use Rattle.ccsl_rules.specs.Unfolded.{Item, Defines, Binds, Unfolding, Unfoldings, unfolding_at, unfold_line, unfold_entry, unfold_body, unfold_block}
use Rattle.ccsl_rules.specs.Unfolded.{unfoldings, inside, call_path, arguments, own_clocks}
use Rattle.ccsl_rules.specs.Expansion.{relation_in}
use Rattle.ccsl_rules.proofs.Guarded.{left-empty, right-empty, no-fault, allowed}
use Rattle.ccsl_rules.proofs.Ordered.{groups_in, space-ordered, all-append}
use Rattle.ccsl_accepts.proofs.Shallow.{shallow}
use Rattle.ccsl_accepts.proofs.HiddenNames.{IsPath, inside-hidden, inner-path, first-path, name-seen}

-- inside operators calls go to earlier groups alone, so that more groups change nothing
inner-right : (op : ExprOp) → right_of op Inner ≡ Inner
inner-right does.Union = refl
inner-right does.Inter = refl
inner-right does.Minus = refl
inner-right does.Inf = refl
inner-right does.Sup = refl
inner-right does.Upto = refl
inner-right does.UptoWeakly = refl
inner-right does.Then = refl
inner-right does.Sampled = refl
inner-right does.SampledWeakly = refl

more-groups : (g G : ℕ) → g ≤ G → (e : kernel.Expression) → Allowed g Inner e → Allowed G Inner e
more-groups g G h (kernel.EName x) a = tt
more-groups g G h (kernel.ECall group member args) (inl l) = inl (omega arith)
more-groups g G h (kernel.ECall group member args) (inr p) = absurd (let z = p.1 in cc)
more-groups g G h kernel.ENever a = tt
more-groups g G h (kernel.EBinary op x d) a =
    (more-groups g G h x a.0, subst (λ p. Allowed G p d) (sym (inner-right op)) (more-groups g G h d (subst (λ p. Allowed g p d) (inner-right op) a.1)))
more-groups g G h (kernel.EDelay x m) a = more-groups g G h x a
more-groups g G h (kernel.EAwait x m) a = more-groups g G h x a
more-groups g G h (kernel.EFilter x w) a = more-groups g G h x a
more-groups g G h (kernel.EDelayed x m d) a = (a.0, a.1, more-groups g G h x a.2, more-groups g G h d a.3)
more-groups g G h (kernel.EIf q x d) a = (more-groups g G h x a.0, more-groups g G h d a.1)

few-groups : (n : ℕ) (bs : List PlainDefinition) → groups_in n bs ≤ groups_in (length bs) bs
few-groups zero bs = omega arith
few-groups (suc n) [] = omega arith
few-groups (suc n) (DRelation name params lines ∷ bs) = few-groups n bs
few-groups (suc n) (DGroup members ∷ bs) = let r = few-groups n bs in omega arith

bound-kept : (r : Relation) → relation_faults r ≡ [] → IsRelation (relation_in r)
bound-kept rel.Subclock f = tt
bound-kept rel.Coincides f = tt
bound-kept rel.Excludes f = tt
bound-kept rel.Precedes f = tt
bound-kept rel.PrecedesWeakly f = tt
bound-kept (rel.PrecedesWithin at m) f = positive m (no-fault (nat_eq m 0) Arguments at f) where
  positive : (m : ℕ) → nat_eq m 0 ≡ false → 1 ≤ m
  positive m h = grind (arith, nat_tests)

module _ (K : Tables) (blocks : List PlainDefinition) (calls : K.calls ≡ calls_space 0 0 blocks) where
  -- a definition that the kernel takes, whatever the bound on clocks
  abbrev pub Fine : kernel.Expression → Type 0
  Fine e = Allowed (groups_in (length blocks) blocks) Inner e × (accepted.depth e ≤ 128)

  -- an item of the system, and one that a relation hides
  abbrev pub Sound : Item → Type 0
  Sound (Defines [] name σ k e) = Fine (resolve K σ k e) × (is_name name ≡ true)
  Sound (Defines (b ∷ bs) name σ k e) = Fine (resolve K σ k e) × (is_hidden name ≡ true)
  Sound (Binds path σ a r b) = IsRelation (relation_in r)

  abbrev pub Veiled : Item → Type 0
  Veiled (Defines [] name σ k e) = ⊥
  Veiled (Defines (b ∷ bs) name σ k e) = Fine (resolve K σ k e) × (is_hidden name ≡ true)
  Veiled (Binds path σ a r b) = IsRelation (relation_in r)

  pub veiled-sound : (xs : List Item) → AllByRecursion Veiled xs → AllByRecursion Sound xs
  veiled-sound [] a = tt
  veiled-sound (Defines [] name σ k e ∷ xs) a = absurd a.0
  veiled-sound (Defines (b ∷ bs) name σ k e ∷ xs) a = (a.0, veiled-sound xs a.1)
  veiled-sound (Binds path σ c r d ∷ xs) a = (a.0, veiled-sound xs a.1)

  veiled-define : (path name : List ℕ) (σ : Setting) (k : ℕ) (e : Expression) → IsPath path → Fine (resolve K σ k e) → is_hidden name ≡ true
      → Veiled (Defines path name σ k e)
  veiled-define [] name σ k e p f h = absurd (nowhere-path p.front p.rest p.whole) where
    nowhere-path : (front rest : List ℕ) → [] ≡ front ++ (64 ∷ rest) → ⊥
    nowhere-path [] rest w = cc
    nowhere-path (b ∷ front) rest w = cc
  veiled-define (b ∷ bs) name σ k e p f h = (f, h)

  -- what a definition unfolds to, under every path
  abbrev pub Safe : Unfolding → Type 0
  Safe u = (path : List ℕ) (args : List Atom) → IsPath path → AllByRecursion Veiled (u path args)

  safe-at : (R : Unfoldings) (i : ℕ) → AllByRecursion Safe R → Safe (unfolding_at (slice_get R i))
  safe-at [] i a path args p = tt
  safe-at (u ∷ R) zero a path args p = a.0 path args p
  safe-at (u ∷ R) (suc i) a path args p = safe-at R i a.1 path args p

  pub safe-call : (R : Unfoldings) → AllByRecursion Safe R → (o : Option (Known Callee)) (path : List ℕ) (args : List Atom) → IsPath path →
      AllByRecursion Veiled (elim o as (λ _. Unfolding) [ None ↦ λ path args. [] | Some k ↦ unfolding_at (slice_get R k.what.block) ] path args)
  safe-call R a None path args p = tt
  safe-call R a (Some k) path args p = safe-at R k.what.block a path args p

  fine-define : (S : Scene) (σ : Setting) (k : ℕ) (e : Expression) → S.calls ≡ K.calls → expr_faults S Inner e ≡ [] → depth e ≤ 128 → Fine (resolve K σ k e)
  fine-define S σ k e same f d =
      let g = groups_in S.home blocks in
      let low = shallow K σ k e in (
        more-groups g (groups_in (length blocks) blocks) (few-groups S.home blocks) (resolve K σ k e)
            (allowed K S g (sym same) (space-ordered S blocks (same ∙ calls)) σ k Inner e f),
        omega arith,
      )

  module _ (R : Unfoldings) (safe : AllByRecursion Safe R) (two : Bool) where
    -- a line of a relation
    line-veiled : (S : Scene) → S.calls ≡ K.calls → (path : List ℕ) → IsPath path → (σ : Setting) (k i : ℕ) (l : Line) → line_faults S l ≡ []
        → rline_kept two l ≡ true → rline_depth l ≤ 128 →
        AllByRecursion Veiled (unfold_line K.words K.calls R path σ k i l)
    line-veiled S same path p σ k i (LDefine s e) f h d =
        let name = (and_parts (is_name s.name) (expression_kept two e) h).0 in
        (veiled-define path (inside path s.name) σ k e p (fine-define S σ k e same f d) (inside-hidden path s.name p (name-seen s.name name)), tt)
    line-veiled S same path p σ k i (LConstraint a r b) f h d =
        (bound-kept r (right-empty (used_as S kind.Clock a) _ (left-empty (used_as S kind.Clock a ++ relation_faults r) (used_as S kind.Clock b) f)), tt)
    line-veiled S same path p σ k i (LCall s args) f h d =
        let name = (and_parts (is_name s.name) (list_all arg_kept args) h).0 in
        safe-call R safe (look s.name K.calls) (call_path path s.name i) (argument_atoms K.words σ k args) (inner-path path s.name i p name)

    lines-veiled : (S : Scene) → S.calls ≡ K.calls → (path : List ℕ) → IsPath path → (σ : Setting) (k i : ℕ) (ls : List Line)
        → entries_faults S i (map SLineOf ls) ≡ [] →
        list_all (rline_kept two) ls ≡ true → greatest (map rline_depth ls) ≤ 128
        → AllByRecursion Veiled (unfold_body K.words K.calls R path σ k i (map SLineOf ls))
    lines-veiled S same path p σ k i [] f h d = tt
    lines-veiled S same path p σ k i (l ∷ ls) f h d =
        let w = and_parts (rline_kept two l) (list_all (rline_kept two) ls) h in
        all-append Veiled (unfold_line K.words K.calls R path σ k i l) _
        (line-veiled (record S { line = i }) same path p σ k i l (left-empty _ (entries_faults S (i + 1) (map SLineOf ls)) f) w.0 (omega arith))
        (lines-veiled S same path p σ (k + length (entry_texts (SLineOf l))) (i + 1) ls (right-empty (line_faults (record S { line = i }) l) _ f) w.1
        (omega arith))

    block-safe : (heights : Heights) (home k : ℕ) (b : PlainDefinition) → block_faults K.calls heights home b ≡ [] → definition_kept two b ≡ true
        → definition_depth b ≤ 128 → Safe (unfold_block K.words K.calls R k b)
    block-safe heights home k (DRelation name params lines) f h d path args p =
        let locals : List (Known _) = params_space params ++ lines_space 0 (map SLineOf lines) in
        let S : Scene = record { locals = locals; line = 0; calls = K.calls; home = home; levels = take home heights.relations } in
        let w = (and_parts (has_member lines) (list_all (rline_kept two) lines)
        (and_parts (list_all param_kept params) _ (and_parts (spot_kept name) _ h).1).1).1 in
        lines-veiled S refl path p (arguments params args ++ own_clocks path (map SLineOf lines)) k 0 lines
        (right-empty (params_faults params ++ repeated [] (spots locals)) _ f) w d
    block-safe heights home k (DGroup members) f h d path args p = tt

    -- a line of the system
    entry-sound : (S : Scene) → S.calls ≡ K.calls → (σ : Setting) (k i : ℕ) (e : SLine) → entry_faults S e ≡ [] → sline_kept two e ≡ true → sline_depth e ≤ 128
        → AllByRecursion Sound (unfold_entry K.words K.calls R [] σ k i e)
    entry-sound S same σ k i (SClocks names) f h d = tt
    entry-sound S same σ k i (SLineOf (LDefine s e)) f h d = ((fine-define S σ k e same f d, (and_parts (is_name s.name) (expression_kept two e) h).0), tt)
    entry-sound S same σ k i (SLineOf (LConstraint a r b)) f h d =
        (bound-kept r (right-empty (used_as S kind.Clock a) _ (left-empty (used_as S kind.Clock a ++ relation_faults r) (used_as S kind.Clock b) f)), tt)
    entry-sound S same σ k i (SLineOf (LCall s args)) f h d =
        let name = (and_parts (is_name s.name) (list_all arg_kept args) h).0 in
        veiled-sound (unfold_line K.words K.calls R [] σ k i (LCall s args))
        (safe-call R safe (look s.name K.calls) (call_path [] s.name i) (argument_atoms K.words σ k args) (first-path s.name i name))

    pub body-sound : (S : Scene) → S.calls ≡ K.calls → (σ : Setting) (k i : ℕ) (es : List SLine) → entries_faults S i es ≡ []
        → list_all (sline_kept two) es ≡ true → greatest (map sline_depth es) ≤ 128 →
        AllByRecursion Sound (unfold_body K.words K.calls R [] σ k i es)
    body-sound S same σ k i [] f h d = tt
    body-sound S same σ k i (e ∷ es) f h d =
        let w = and_parts (sline_kept two e) (list_all (sline_kept two) es) h in
        all-append Sound (unfold_entry K.words K.calls R [] σ k i e) _
        (entry-sound (record S { line = i }) same σ k i e (left-empty _ (entries_faults S (i + 1) es) f) w.0 (omega arith))
        (body-sound S same σ (k + length (entry_texts e)) (i + 1) es (right-empty (entry_faults (record S { line = i }) e) _ f) w.1 (omega arith))

  -- ALL DEFINITIONS
  pub blocks-safe : (two : Bool) (heights : Heights) (R : Unfoldings) → AllByRecursion Safe R → (k home : ℕ) (bs : List PlainDefinition)
      → blocks_faults K.calls heights home bs ≡ [] →
      list_all (definition_kept two) bs ≡ true → greatest (map definition_depth bs) ≤ 128 → AllByRecursion Safe (unfoldings K.words K.calls R k bs)
  blocks-safe two heights R safe k home [] f h d = safe
  blocks-safe two heights R safe k home (b ∷ bs) f h d =
      let w = and_parts (definition_kept two b) (list_all (definition_kept two) bs) h in
      let here : Safe (unfold_block K.words K.calls R k b) =
      block-safe R safe two heights home k b (left-empty _ (blocks_faults K.calls heights (home + 1) bs) f) w.0 (omega arith) in
      blocks-safe two heights (R ++ unfold_block K.words K.calls R k b ∷ []) (all-append Safe R (unfold_block K.words K.calls R k b ∷ []) safe (here, tt))
      (k + length (block_texts b)) (home + 1) bs
      (right-empty (block_faults K.calls heights home b) _ f) w.1 (omega arith)
