-- The groups of an accepted file are no taller than groups may be.
use Rattle.std.proofs.Common.{◌≡◌, ℕ, zero, suc, ◌+◌, ◌-◌, ◌<◌, ◌≤◌, List, [], ◌∷◌, ◌++◌, Option, Some, None, true, false, nat_lt, length, length-append, map}
use Rattle.std.proofs.Common.{max, flat_map, take, slice_index, bytes_eq, refl, sym, ap, ◌∙◌, subst, arith, ⊎_elim}
use Rattle.std.specs.List.{AllByRecursion}
use Rattle.std.proofs.lemmas.Bool.{cases_lt}
use Rattle.std.proofs.lemmas.List.{append-nil}
use Rattle.std.proofs.lemmas.Bool.Decides.{nat_tests}
use Rattle.ccsl_ast.specs.declared.spot.Spot.{Spot}
use Rattle.ccsl_ast.specs.declared.term.Argument.{Argument}
use Rattle.ccsl_ast.specs.Trees.{Expression, EName, ECall, ENever, EBinary, EDelay, EAwait, EFilter, EDelayed, EIf, PlainMember, PlainDefinition, DRelation}
use Rattle.ccsl_ast.specs.Trees.{DGroup}
use Rattle.ccsl_kernel.specs.declared.expr.Value.{Value}
use Rattle.ccsl_kernel.specs.declared.position.Position.{Position}
use Rattle.ccsl_kernel.specs.declared.position.Position.TheVariants.{Inner, Tail}
use Rattle.ccsl_kernel.specs.Syntax.{Body}
use Rattle.ccsl_kernel.specs.Cells as cells
use Rattle.ccsl_kernel.specs.Accepted.{height, group_levels}
use Rattle.ccsl_rules.specs.Faults.{Fault, where_so, Unknown, TooTall}
use Rattle.ccsl_rules.specs.Spaces.{Known, Callee, Role, relation, member, look, calls_space, repeated, spots, params_space}
use Rattle.ccsl_rules.specs.Levels.{groups, counted, called, level_in, level, levels}
use Rattle.ccsl_kernel.specs.Cells.{greatest}
use Rattle.ccsl_rules.specs.Uses.{Scene, callee_faults, argument_faults, expr_faults, right_of, term_faults, word_faults, test_faults}
use Rattle.ccsl_rules.specs.Blocks.{Heights, params_faults, part_faults, block_faults, blocks_faults}
use Rattle.ccsl_rules.specs.Settings.{Setting}
use Rattle.ccsl_rules.specs.Texts.{texts, block_texts}
use Rattle.ccsl_rules.specs.Resolved.{Tables, resolve, resolve_call, resolve_arguments, role_call}
use Rattle.ccsl_rules.specs.Expansion.{own_params, part_bodies, groups_of}
use Rattle.ccsl_rules.proofs.Guarded.{left-empty, right-empty, no-fault}
use Rattle.ccsl_rules.proofs.Ordered.{groups_in, Good, space-good, found-all, all-append}
use Rattle.ccsl_accepts.proofs.Lists.{one-on}
use Rattle.ccsl_accepts.proofs.Joined.{index-past, levels-append, levels-length, levels-front}
use Rattle.ccsl_accepts.proofs.GroupBodies.{groups-next}
use Rattle.ccsl_ast.proofs.Levels.{greatest-append}

-- ## Lists of levels

take-whole : (xs : List ℕ) → take (length xs) xs ≡ xs
take-whole [] = refl
take-whole (x ∷ xs) = ap (λ l. x ∷ l) (take-whole xs)

index-front : (xs ys : List ℕ) (i : ℕ) → i < length xs → slice_index (xs ++ ys) i ≡ slice_index xs i
index-front [] ys i h = absurd (omega arith)
index-front (x ∷ xs) ys zero h = refl
index-front (x ∷ xs) ys (suc i) h = index-front xs ys i (omega arith)

index-last : (xs : List ℕ) (y : ℕ) → slice_index (xs ++ y ∷ []) (length xs) ≡ y
index-last [] y = refl
index-last (x ∷ xs) y = index-last xs y

index-grows : (xs ys : List ℕ) (i : ℕ) → slice_index xs i ≤ slice_index (xs ++ ys) i
index-grows [] ys i = omega arith
index-grows (x ∷ xs) ys zero = omega arith
index-grows (x ∷ xs) ys (suc i) = index-grows xs ys i

map-append : (f : Spot → ℕ) (xs ys : List Spot) → map f (xs ++ ys) ≡ map f xs ++ map f ys
map-append f [] ys = refl
map-append f (x ∷ xs) ys = ap (λ l. f x ∷ l) (map-append f xs ys)

-- the greatest level among what names call
abbrev top : List (Known Callee) → List ℕ → List Spot → ℕ
top calls seen names = greatest (map (λ s. level_in calls seen s.name) names)

top-append : (calls : List (Known Callee)) (seen : List ℕ) (xs ys : List Spot) → top calls seen (xs ++ ys) ≡ max (top calls seen xs) (top calls seen ys)
top-append calls seen xs ys =
    ap greatest (map-append (λ s. level_in calls seen s.name) xs ys)
    ∙ greatest-append (map (λ s. level_in calls seen s.name) xs) (map (λ s. level_in calls seen s.name) ys)

-- the names that members call
abbrev all_called : List PlainMember → List Spot
all_called ms = flat_map (λ m. called m.body) ms

groups-mono : (bs : List PlainDefinition) (n m : ℕ) → n ≤ m → groups_in n bs ≤ groups_in m bs
groups-mono bs zero m h = omega arith
groups-mono bs (suc n) zero h = absurd (omega arith)
groups-mono [] (suc n) (suc m) h = omega arith
groups-mono (DRelation name params lines ∷ bs) (suc n) (suc m) h = groups-mono bs n m (omega arith)
groups-mono (DGroup members ∷ bs) (suc n) (suc m) h = let r = groups-mono bs n m (omega arith) in omega arith

pub group_levels-append : (tall : List ℕ) (G H : List (List Body)) → group_levels tall (G ++ H) ≡ group_levels (group_levels tall G) H
group_levels-append tall [] H = refl
group_levels-append tall (g ∷ G) H = group_levels-append (tall ++ suc (cells.greatest (map (λ b. height tall b.root) g)) ∷ []) G H

module _ (K : Tables) (blocks : List PlainDefinition) (same : K.calls ≡ calls_space 0 0 blocks) where
  -- a group is no taller than its definition
  abbrev InStep : List ℕ → List ℕ → Type 0
  InStep seen tall = (name : List ℕ) (c : Known Callee) (g m : ℕ) → look name K.calls ≡ Some c → c.what.role ≡ member g m
      → slice_index tall g ≤ slice_index seen c.what.block

  module _ (seen tall : List ℕ) (step : InStep seen tall) where
    role-height : (s : Spot) (args : List Value) (c : Known Callee) (r : Role) → look s.name K.calls ≡ Some c → c.what.role ≡ r
        → height tall (role_call r args) ≤ slice_index seen c.what.block
    role-height s args c relation l r = omega arith
    role-height s args c (member g m) l r = step s.name c g m l r

    call-height : (s : Spot) (args : List Value) (o : Option (Known Callee)) → look s.name K.calls ≡ o
        → height tall (resolve_call o args) ≤ level_in K.calls seen s.name
    call-height s args None l = omega arith
    call-height s args (Some c) l =
        let F : Option (Known Callee) → ℕ = λ o. elim o as (λ _. ℕ) [ None ↦ 0 | Some k ↦ slice_index seen k.what.block ] in
        let at : level_in K.calls seen s.name ≡ slice_index seen c.what.block = ap F l in
        let h = role-height s args c c.what.role l refl in
        omega arith

    expr-height : (σ : Setting) (k : ℕ) (e : Expression) → height tall (resolve K σ k e) ≤ top K.calls seen (called e)
    expr-height σ k (EName s) = omega arith
    expr-height σ k (ECall s args) = let h = call-height s (resolve_arguments K σ k args) (look s.name K.calls) refl in omega arith
    expr-height σ k ENever = omega arith
    expr-height σ k (EBinary b a d) = let p = expr-height σ k a in let q = expr-height σ (k + length (texts a)) d in let r =
        top-append K.calls seen (called a) (called d) in omega arith
    expr-height σ k (EDelay a m) = expr-height σ k a
    expr-height σ k (EAwait a m) = expr-height σ k a
    expr-height σ k (EFilter a w) = expr-height σ k a
    expr-height σ k (EDelayed a at m d) = let p = expr-height σ k a in let q = expr-height σ (k + length (texts a)) d in let r =
        top-append K.calls seen (called a) (called d) in omega arith
    expr-height σ k (EIf t a d) = let p = expr-height σ k a in let q = expr-height σ (k + length (texts a)) d in let r =
        top-append K.calls seen (called a) (called d) in omega arith

    -- the members of a group
    members-height : (k : ℕ) (ms : List PlainMember) → cells.greatest (map (λ b. height tall b.root) (part_bodies K k ms)) ≤ top K.calls seen (all_called ms)
    members-height k [] = omega arith
    members-height k (m ∷ ms) =
        let p = expr-height (own_params 0 m.params) k m.body in
        let q = members-height (k + length (texts m.body)) ms in
        let r = top-append K.calls seen (called m.body) (all_called ms) in
        omega arith

  -- ## No call is too tall

  not-tall : (n : ℕ) → nat_lt 8 (suc n) ≡ false → n ≤ 7
  not-tall n h = grind (arith, nat_tests)

  module _ (S : Scene) (own : S.calls ≡ K.calls) where
    call-low : (p : Position) (s : Spot) (args : List Argument) (o : Option (Known Callee)) → look s.name S.calls ≡ o →
        elim o as (λ _. List Fault) [ None ↦ where_so true Unknown s.at | Some k ↦ callee_faults S false p s args k ] ≡ []
        → level_in S.calls S.levels s.name ≤ 7
    call-low p s args None l e = absurd (cc)
    call-low p s args (Some c) l e = not-tall (level_in S.calls S.levels s.name) (no-fault _ TooTall s.at (right-empty _ _ (left-empty _ _ (left-empty _ _ e))))

    abbrev low : Expression → Type 0
    low e = top S.calls S.levels (called e) ≤ 7

    low-two : (a d : Expression) → low a → low d → top S.calls S.levels (called a ++ called d) ≤ 7
    low-two a d p q = let r = top-append S.calls S.levels (called a) (called d) in omega arith

    expr-low : (p : Position) (e : Expression) → expr_faults S p e ≡ [] → low e
    expr-low p (EName s) f = omega arith
    expr-low p (ECall s args) f = let h = call-low p s args (look s.name S.calls) refl (left-empty _ (flat_map (argument_faults S) args) f) in omega arith
    expr-low p ENever f = omega arith
    expr-low p (EBinary b a d) f =
        low-two a d (expr-low Inner a (left-empty _ (expr_faults S (right_of b p) d) f)) (expr-low (right_of b p) d (right-empty (expr_faults S Inner a) _ f))
    expr-low p (EDelay a m) f = expr-low Inner a (left-empty _ (term_faults S m) f)
    expr-low p (EAwait a m) f = expr-low Inner a (left-empty _ (term_faults S m) f)
    expr-low p (EFilter a w) f = expr-low Inner a (left-empty _ (word_faults S w) f)
    expr-low p (EDelayed a at m d) f =
        low-two a d (expr-low Inner a (left-empty (expr_faults S Inner a) _ (left-empty _ (expr_faults S Inner d) f)))
        (expr-low Inner d (right-empty _ (expr_faults S Inner d) f))
    expr-low p (EIf q a d) f =
        low-two a d (expr-low p a (right-empty (test_faults S q) _ (left-empty (test_faults S q ++ expr_faults S p a) (expr_faults S p d) f)))
        (expr-low p d (right-empty (test_faults S q ++ expr_faults S p a) _ f))

  members-low : (home : ℕ) (seen : List ℕ) (ms : List PlainMember) → flat_map (part_faults K.calls home seen) ms ≡ [] → top K.calls seen (all_called ms) ≤ 7
  members-low home seen [] f = omega arith
  members-low home seen (m ∷ ms) f =
      let locals : List (Known _) = params_space m.params in
      let S : Scene = record { locals = locals; line = 0; calls = K.calls; home = home; levels = seen } in
      let here = left-empty (part_faults K.calls home seen m) (flat_map (part_faults K.calls home seen) ms) f in
      let p = expr-low S refl Tail m.body (right-empty (params_faults m.params ++ repeated [] (spots locals)) _ here) in
      let q = members-low home seen ms (right-empty (part_faults K.calls home seen m) (flat_map (part_faults K.calls home seen) ms) f) in
      let r = top-append K.calls seen (called m.body) (all_called ms) in
      omega arith

  -- ## All groups

  -- a member of the group that stands next is of the definition that stands next
  good : (h : ℕ) (name : List ℕ) (c : Known Callee) → look name K.calls ≡ Some c → Good h (groups_in h blocks) c
  good h name c l =
      found-all (Good h (groups_in h blocks)) (λ x. bytes_eq x.name.name name) (calls_space 0 0 blocks) c
      (space-good h (groups_in h blocks) 0 0 blocks (λ _. let z : h - 0 ≡ h = omega arith in let w : groups_in h blocks ≡ 0 + groups_in h blocks =
      omega arith in w ∙ ap (λ n. 0 + groups_in n blocks) (sym z)))
      (ap (λ (cs : List (Known Callee)). look name cs) (sym same) ∙ l)

  home-of : (home : ℕ) → groups_in (home + 1) blocks ≡ groups_in home blocks + 1 → (name : List ℕ) (c : Known Callee) (g m : ℕ) → look name K.calls ≡ Some c
      → c.what.role ≡ member g m →
      g ≡ groups_in home blocks → c.what.block ≡ home
  home-of home up name c g m l r e =
      let before = ((good home name c l).order g m r).0 in
      let here = ((good c.what.block name c l).order g m r).1 refl in
      ⊎_elim (λ (s : c.what.block < home). absurd (omega (arith, before s)))
      (λ (s : home ≤ c.what.block). ⊎_elim
      (λ (t : home < c.what.block). let mono = groups-mono blocks (home + 1) c.what.block (omega arith) in absurd (omega arith))
      (λ (t : c.what.block ≤ home). omega arith) (cases_lt home c.what.block))
      (cases_lt c.what.block home)

  pub record State (done : List PlainDefinition) (tall : List ℕ) : Type 0 where
    pub many : length tall ≡ groups_in (length done) blocks
    pub low : AllByRecursion (λ n. n ≤ 8) tall
    pub step : InStep (levels groups K.calls [] done) tall

  pub none-tall : State [] []
  none-tall = record { many = refl; low = tt; step = λ name c g m l r. omega arith }

  wider : (done : List PlainDefinition) (b : PlainDefinition) (tall : List ℕ) → InStep (levels groups K.calls [] done) tall
      → InStep (levels groups K.calls [] (done ++ b ∷ [])) tall
  wider done b tall step name c g m l r =
      let old = step name c g m l r in
      let seen = levels groups K.calls [] done in
      let new : levels groups K.calls [] (done ++ b ∷ []) ≡ seen ++ level K.calls seen (counted groups b) ∷ [] =
      levels-append groups K.calls [] done (b ∷ []) in
      let more = index-grows seen (level K.calls seen (counted groups b) ∷ []) c.what.block in
      let at : slice_index (levels groups K.calls [] (done ++ b ∷ [])) c.what.block ≡ _ = ap (λ xs. slice_index xs c.what.block) new in
      omega arith

  group-step : (done : List PlainDefinition) (members : List PlainMember) (tall : List ℕ) (next : ℕ)
      → groups_in (length done + 1) blocks ≡ groups_in (length done) blocks + 1 → State done tall →
      next ≤ suc (top K.calls (levels groups K.calls [] done) (all_called members)) →
      InStep (levels groups K.calls [] (done ++ DGroup members ∷ [])) (tall ++ next ∷ [])
  group-step done members tall next up state below name c g m l r =
      let seen = levels groups K.calls [] done in
      let long = levels-length groups K.calls [] done in
      let most : ℕ = suc (top K.calls seen (all_called members)) in
      let new : levels groups K.calls [] (done ++ DGroup members ∷ []) ≡ seen ++ most ∷ [] = levels-append groups K.calls [] done (DGroup members ∷ []) in
      let at : slice_index (levels groups K.calls [] (done ++ DGroup members ∷ [])) c.what.block ≡ slice_index (seen ++ most ∷ []) c.what.block =
      ap (λ xs. slice_index xs c.what.block) new in
      let grows = index-grows seen (most ∷ []) c.what.block in
      let old = state.step name c g m l r in
      let many = state.many in
      ⊎_elim (λ (s : g < length tall). let front = index-front tall (next ∷ []) g s in omega arith)
      (λ (s : length tall ≤ g). ⊎_elim
      (λ (t : length tall < g). let a = length-append tall (next ∷ []) in let past = index-past (tall ++ next ∷ []) g (omega arith) in omega arith)
      (λ (t : g ≤ length tall).
      let e : g ≡ length tall = omega arith in
      let home : c.what.block ≡ length seen = home-of (length done) up name c g m l r (omega arith) ∙ (let z : length done ≡ length seen = omega arith in z) in
      let one : slice_index (tall ++ next ∷ []) g ≡ next = ap (slice_index (tall ++ next ∷ [])) e ∙ index-last tall next in
      let two : slice_index (seen ++ most ∷ []) c.what.block ≡ most = ap (slice_index (seen ++ most ∷ [])) home ∙ index-last seen most in
      omega arith)
      (cases_lt (length tall) g))
      (cases_lt g (length tall))

  -- the levels that count for a definition are those of the definitions before it
  seen-so-far : (heights : List ℕ) → heights ≡ levels groups K.calls [] blocks → (done rest : List PlainDefinition) → blocks ≡ done ++ rest
      → take (length done) heights ≡ levels groups K.calls [] done
  seen-so-far heights e done rest whole =
      let seen = levels groups K.calls [] done in
      let long : length seen ≡ length done = levels-length groups K.calls [] done ∙ (let z : 0 + length done ≡ length done = omega arith in z) in
      ap (take (length done)) (e ∙ ap (levels groups K.calls []) whole ∙ levels-append groups K.calls [] done rest)
      ∙ levels-front groups K.calls seen rest (length done) (omega arith)
      ∙ ap (λ n. take n seen) (sym long)
      ∙ take-whole seen

  group-state : (k : ℕ) (done rest : List PlainDefinition) (members : List PlainMember) (tall : List ℕ) (seen : List ℕ)
      → blocks ≡ done ++ (DGroup members ∷ rest) → seen ≡ levels groups K.calls [] done → State done tall →
      flat_map (part_faults K.calls (length done) seen) members ≡ []
      → State (done ++ DGroup members ∷ []) (tall ++ suc (cells.greatest (map (λ b. height tall b.root) (part_bodies K k members))) ∷ [])
  group-state k done rest members tall seen whole e state f =
      let up : groups_in (length done + 1) blocks ≡ groups_in (length done) blocks + 1 =
      groups-next blocks done (DGroup members) rest (length done) refl whole in
      let level : ℕ = suc (cells.greatest (map (λ b. height tall b.root) (part_bodies K k members))) in
      let below = members-height (levels groups K.calls [] done) tall state.step k members in
      let few : top K.calls (levels groups K.calls [] done) (all_called members) ≤ 7 =
      subst (λ l. top K.calls l (all_called members) ≤ 7) e (members-low (length done) seen members f) in
      let a = length-append done (DGroup members ∷ []) in
      let b = length-append tall (level ∷ []) in
      let many = state.many in
      let next : groups_in (length (done ++ DGroup members ∷ [])) blocks ≡ groups_in (length done + 1) blocks =
      ap (λ n. groups_in n blocks) (let z : length (done ++ DGroup members ∷ []) ≡ length done + 1 = omega arith in z) in
      record {
        many = omega arith;
        low = all-append (λ n. n ≤ 8) tall (level ∷ []) state.low (omega arith, tt);
        step = group-step done members tall level up state (omega arith);
      }

  relation-state : (done rest : List PlainDefinition) (b : PlainDefinition) (tall : List ℕ) → blocks ≡ done ++ (b ∷ rest) → groups_in 1 (b ∷ []) ≡ 0
      → State done tall → State (done ++ b ∷ []) tall
  relation-state done rest b tall whole none state =
      let up = groups-next blocks done b rest (length done) refl whole in
      let a = length-append done (b ∷ []) in
      let many = state.many in
      let next : groups_in (length (done ++ b ∷ [])) blocks ≡ groups_in (length done + 1) blocks =
      ap (λ n. groups_in n blocks) (let z : length (done ++ b ∷ []) ≡ length done + 1 = omega arith in z) in
      record { many = omega arith; low = state.low; step = wider done b tall state.step }

  pub advance : (heights : Heights) → heights.groups ≡ levels groups K.calls [] blocks → (k : ℕ) (done bs rest : List PlainDefinition) (tall : List ℕ)
      → blocks ≡ done ++ (bs ++ rest) → State done tall →
      blocks_faults K.calls heights (length done) bs ≡ [] → State (done ++ bs) (group_levels tall (groups_of K k bs))
  advance heights e k done [] rest tall whole state f = subst (λ ds. State ds tall) (sym (append-nil done)) state
  advance heights e k done (DRelation name params lines ∷ bs) rest tall whole state f =
      let b : PlainDefinition = DRelation name params lines in
      let a = length-append done (b ∷ []) in
      let n : length done + 1 ≡ length (done ++ b ∷ []) = omega arith in
      subst (λ ds. State ds (group_levels tall (groups_of K (k + length (block_texts b)) bs))) (sym (one-on done b bs))
      (advance heights e (k + length (block_texts b)) (done ++ b ∷ []) bs rest tall (whole ∙ one-on done b (bs ++ rest))
      (relation-state done (bs ++ rest) b tall whole refl state)
      (subst (λ m. blocks_faults K.calls heights m bs ≡ []) n (right-empty (block_faults K.calls heights (length done) b) _ f)))
  advance heights e k done (DGroup members ∷ bs) rest tall whole state f =
      let b : PlainDefinition = DGroup members in
      let a = length-append done (b ∷ []) in
      let n : length done + 1 ≡ length (done ++ b ∷ []) = omega arith in
      let level : ℕ = suc (cells.greatest (map (λ b. height tall b.root) (part_bodies K k members))) in
      let here = group-state k done (bs ++ rest) members tall (take (length done) heights.groups) whole
      (seen-so-far heights.groups e done (b ∷ (bs ++ rest)) whole) state
      (left-empty _ (blocks_faults K.calls heights (length done + 1) bs) f) in
      subst (λ ds. State ds (group_levels (tall ++ level ∷ []) (groups_of K (k + length (block_texts b)) bs))) (sym (one-on done b bs))
      (advance heights e (k + length (block_texts b)) (done ++ b ∷ []) bs rest (tall ++ level ∷ []) (whole ∙ one-on done b (bs ++ rest)) here
      (subst (λ m. blocks_faults K.calls heights m bs ≡ []) n (right-empty (block_faults K.calls heights (length done) b) _ f)))
