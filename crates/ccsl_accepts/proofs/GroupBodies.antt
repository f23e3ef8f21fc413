-- The members of groups without a fault are bodies of an accepted system.
use Rattle.std.proofs.Common.{◌≡◌, ℕ, suc, ◌+◌, ◌≤◌, List, [], ◌∷◌, ◌++◌, Some, true, length, length-append, map, flat_map, take, drop, slice_get, refl, sym}
use Rattle.std.proofs.Common.{ap, ap₂, ◌∙◌, subst, arith}
use Rattle.std.specs.Prelude.{All}
use Rattle.std.specs.List.{AllByRecursion}
use Rattle.ccsl_ast.specs.declared.definition.Param.{Param}
use Rattle.ccsl_ast.specs.declared.definition.Kind.{Kind}
use Rattle.ccsl_ast.specs.declared.definition.Kind.TheVariants as kind
use Rattle.ccsl_ast.specs.Trees.{PlainMember, PlainDefinition, DRelation, DGroup}
use Rattle.ccsl_ast.specs.Depth.{depth, greatest, member_depth, definition_depth}
use Rattle.ccsl_kernel.specs.declared.position.Position.TheVariants.{Tail}
use Rattle.ccsl_kernel.specs.declared.group.ParamKind.{ParamKind}
use Rattle.ccsl_kernel.specs.Syntax.{Body, System, body_of}
use Rattle.ccsl_kernel.specs.Accepted.{Each, IsBody}
use Rattle.ccsl_rules.specs.Faults.{where_so, Arguments}
use Rattle.ccsl_rules.specs.Spaces.{Known, Callee, member, look, calls_space, repeated, spots, params_space}
use Rattle.ccsl_rules.specs.Uses.{Scene, expr_faults}
use Rattle.ccsl_rules.specs.Blocks.{Heights, params_faults, part_faults, block_faults, blocks_faults}
use Rattle.ccsl_rules.specs.Settings.{Atom, AParam, Setting}
use Rattle.ccsl_rules.specs.Texts.{texts, block_texts}
use Rattle.ccsl_rules.specs.Resolved.{Tables, resolve}
use Rattle.ccsl_rules.specs.Expansion.{kind_in, own_params, part_body, part_bodies, groups_of}
use Rattle.ccsl_rules.proofs.Guarded.{left-empty, right-empty, allowed}
use Rattle.ccsl_rules.proofs.Ordered.{groups_in, space-ordered}
use Rattle.ccsl_rules.proofs.Known.{Fits, Standing, AreAt, at-left, at-right, known}
use Rattle.ccsl_rules.proofs.Rising.{Aligned, aligned-look, nowhere}
use Rattle.ccsl_accepts.proofs.Lists.{all-listed, no-more, one-on}
use Rattle.ccsl_accepts.proofs.Shallow.{shallow}

-- no more parameters than there may be
all-faults : (ps : List Param) → flat_map (λ p. where_so true Arguments p.name.at) ps ≡ [] → ps ≡ []
all-faults [] e = refl
all-faults (p ∷ ps) e = absurd (cc)

pub few-params : (ps : List Param) → params_faults ps ≡ [] → length ps ≤ 8
few-params ps e = no-more 8 ps (all-faults (drop 8 ps) e)

map-length : (ps : List Param) → length (map (λ p. kind_in p.kind) ps) ≡ length ps
map-length [] = refl
map-length (p ∷ ps) = ap suc (map-length ps)

-- how many groups there are before the next definition
groups-behind : (done : List PlainDefinition) (b : PlainDefinition) (bs : List PlainDefinition) →
    groups_in (suc (length done)) (done ++ (b ∷ bs)) ≡ groups_in (length done) (done ++ (b ∷ bs)) + groups_in 1 (b ∷ [])
groups-behind [] (DRelation name params lines) bs = refl
groups-behind [] (DGroup members) bs = refl
groups-behind (DRelation name params lines ∷ done) b bs = groups-behind done b bs
groups-behind (DGroup members ∷ done) b bs = let r = groups-behind done b bs in omega arith

pub groups-next : (blocks done : List PlainDefinition) (b : PlainDefinition) (bs : List PlainDefinition) (home : ℕ) → length done ≡ home
    → blocks ≡ done ++ (b ∷ bs) →
    groups_in (home + 1) blocks ≡ groups_in home blocks + groups_in 1 (b ∷ [])
groups-next blocks done b bs home n whole =
    let up : home + 1 ≡ suc (length done) = omega arith in
    ap₂ groups_in up whole ∙ groups-behind done b bs ∙ ap (λ g. g + groups_in 1 (b ∷ [])) (sym (ap₂ groups_in (sym n) whole))

-- parameters stand for themselves
module _ (K : Tables) (params : List ParamKind) where
  abbrev Own : Known Kind → Atom → Type 0
  Own c a = Fits [] 0 params K (nowhere [] K) [] c.what a

  own-fits : (k : Kind) (i : ℕ) → slice_get params i ≡ Some (kind_in k) → Fits [] 0 params K (nowhere [] K) [] k (AParam i k)
  own-fits kind.Clock i h = (refl, h)
  own-fits kind.Number i h = (refl, h)
  own-fits kind.Word i h = (refl, h)

  own-aligned : (i : ℕ) (ps : List Param) → ((j : ℕ) → slice_get params (i + j) ≡ slice_get (map (λ p. kind_in p.kind) ps) j)
      → Aligned Own (params_space ps) (own_params i ps)
  own-aligned i [] f = tt
  own-aligned i (p ∷ ps) f =
      let z : i ≡ i + 0 = omega arith in (
        refl,
        own-fits p.kind i (ap (slice_get params) z ∙ f 0),
        own-aligned (i + 1) ps (λ j. let s : i + 1 + j ≡ i + suc j =
            omega arith in ap (slice_get params) s ∙ f (suc j)),
      )

module _ (K : Tables) (system : System) (blocks : List PlainDefinition) (calls : K.calls ≡ calls_space 0 0 blocks) (words : K.words ≡ system.words)
    (bodies : (name : List ℕ) (c : Known Callee) (group number : ℕ) → look name K.calls ≡ Some c → c.what.role ≡ member group number →
    (b : Body) × (body_of system.groups group number ≡ Some b) × (b.params ≡ map (λ p. kind_in p.kind) c.what.params)) where
  abbrev Texts : ℕ → List (List ℕ) → Type 0
  Texts k ts = AreAt [] 0 [] K (nowhere [] K) [] k ts

  texts-left : (k : ℕ) (xs ys : List (List ℕ)) → Texts k (xs ++ ys) → Texts k xs
  texts-left = at-left [] 0 [] K (nowhere [] K) []

  texts-right : (k : ℕ) (xs ys : List (List ℕ)) → Texts k (xs ++ ys) → Texts (k + length xs) ys
  texts-right = at-right [] 0 [] K (nowhere [] K) []

  -- a member
  member-body : (home : ℕ) (levels : List ℕ) (k : ℕ) (m : PlainMember) → part_faults K.calls home levels m ≡ [] → Texts k (texts m.body) → depth m.body ≤ 128 →
      IsBody system (groups_in home blocks) (part_body K k m)
  member-body home levels k m f h d =
      let locals : List (Known Kind) = params_space m.params in
      let S : Scene = record { locals = locals; line = 0; calls = K.calls; home = home; levels = levels } in
      let front : params_faults m.params ++ repeated [] (spots locals) ≡ [] = left-empty _ (expr_faults S Tail m.body) f in
      let body : expr_faults S Tail m.body ≡ [] = right-empty (params_faults m.params ++ repeated [] (spots locals)) _ f in
      let few = few-params m.params (left-empty (params_faults m.params) (repeated [] (spots locals)) front) in
      let long = map-length m.params in
      let params : List ParamKind = map (λ p. kind_in p.kind) m.params in
      let σ : Setting = own_params 0 m.params in
      let standing : Standing system.groups 0 params K S σ = record {
        same = refl;
        atoms = λ name c l since. aligned-look (Own K params) locals σ name c
            (own-aligned K params 0 m.params (λ j. let z : 0 + j ≡ j = omega arith in ap (slice_get params) z)) l;
        bodies = bodies;
      } in
      let low = shallow K σ k m.body in
      record {
        few = omega arith;
        calls = allowed K S (groups_in home blocks) refl (space-ordered S blocks calls) σ k Tail m.body body;
        known = subst (λ ws. Rattle.ccsl_kernel.specs.Accepted.IsKnown system.groups ws 0 params (resolve K σ k m.body)) words
            (known system.groups 0 params K S σ standing k Tail m.body h body);
        shallow = omega arith;
      }

  members-bodies : (home : ℕ) (levels : List ℕ) (k : ℕ) (ms : List PlainMember) → flat_map (part_faults K.calls home levels) ms ≡ []
      → Texts k (flat_map (λ m. texts m.body) ms) → greatest (map member_depth ms) ≤ 128 →
      AllByRecursion (IsBody system (groups_in home blocks)) (part_bodies K k ms)
  members-bodies home levels k [] f h d = tt
  members-bodies home levels k (m ∷ ms) f h d = (
    member-body home levels k m (left-empty (part_faults K.calls home levels m) (flat_map (part_faults K.calls home levels) ms) f)
        (texts-left k (texts m.body) (flat_map (λ m. texts m.body) ms) h) (omega arith),
    members-bodies home levels (k + length (texts m.body)) ms
        (right-empty (part_faults K.calls home levels m) (flat_map (part_faults K.calls home levels) ms) f)
        (texts-right k (texts m.body) (flat_map (λ m. texts m.body) ms) h) (omega arith),
  )

  -- the definitions from number `home` on
  pub groups-bodies : (heights : Heights) (home k : ℕ) (done bs : List PlainDefinition) → length done ≡ home → (rest : List PlainDefinition)
      → blocks ≡ done ++ (bs ++ rest) →
      blocks_faults K.calls heights home bs ≡ [] → Texts k (flat_map block_texts bs) → greatest (map definition_depth bs) ≤ 128 →
      Each (λ g members. All (IsBody system g) members) (groups_in home blocks) (groups_of K k bs)
  groups-bodies heights home k done [] n rest whole f h d = tt
  groups-bodies heights home k done (DRelation name params lines ∷ bs) n rest whole f h d =
      let b : PlainDefinition = DRelation name params lines in
      let l = length-append done (b ∷ []) in
      let next : groups_in (home + 1) blocks ≡ groups_in home blocks + 0 = groups-next blocks done b (bs ++ rest) home n whole in
      let same : groups_in (home + 1) blocks ≡ groups_in home blocks = omega arith in
      subst (λ g. Each (λ g members. All (IsBody system g) members) g (groups_of K (k + length (block_texts b)) bs)) same
      (groups-bodies heights (home + 1) (k + length (block_texts b)) (done ++ b ∷ []) bs (omega arith) rest (whole ∙ one-on done b (bs ++ rest))
      (right-empty (block_faults K.calls heights home b) _ f) (texts-right k (block_texts b) (flat_map block_texts bs) h) (omega arith))
  groups-bodies heights home k done (DGroup members ∷ bs) n rest whole f h d =
      let b : PlainDefinition = DGroup members in
      let l = length-append done (b ∷ []) in
      let next : groups_in (home + 1) blocks ≡ groups_in home blocks + 1 = groups-next blocks done b (bs ++ rest) home n whole in
      let same : groups_in (home + 1) blocks ≡ suc (groups_in home blocks) = omega arith in (
        all-listed (IsBody system (groups_in home blocks)) (part_bodies K k members)
            (members-bodies home (take home heights.groups) k members
            (left-empty (block_faults K.calls heights home b) (blocks_faults K.calls heights (home + 1) bs) f)
            (texts-left k (block_texts b) (flat_map block_texts bs) h) (omega arith)),
        subst (λ g. Each (λ g members. All (IsBody system g) members) g (groups_of K (k + length (block_texts b)) bs)) same
            (groups-bodies heights (home + 1) (k + length (block_texts b)) (done ++ b ∷ []) bs (omega arith) rest (whole ∙ one-on done b (bs ++ rest))
            (right-empty (block_faults K.calls heights home b) _ f) (texts-right k (block_texts b) (flat_map block_texts bs) h) (omega arith)),
      )
