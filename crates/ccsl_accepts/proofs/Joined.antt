-- What has no fault in a library has none among more definitions: names stand for what they stood for, at the levels that they had.
use Rattle.std.proofs.Common.{◌≡◌, ℕ, zero, suc, ◌+◌, ◌≤◌, List, [], ◌∷◌, ◌++◌, append_assoc, Bool, true, false, not, ◌&&◌, cond, Option, Some, None, nat_lt}
use Rattle.std.proofs.Common.{nat_eq, length, length-append, map, flat_map, zip, take, slice_index, find, bytes_eq, refl, sym, ap, ap₂, ◌∙◌, subst, arith}
use Rattle.std.specs.List.{AllByRecursion}
use Rattle.std.proofs.lemmas.List.{take-append-le}
use Rattle.ccsl_ast.specs.declared.spot.Spot.{Spot}
use Rattle.ccsl_ast.specs.declared.definition.Param.{Param}
use Rattle.ccsl_ast.specs.declared.term.Argument.{Argument}
use Rattle.ccsl_ast.specs.Trees.{Expression, EName, ECall, ENever, EBinary, EDelay, EAwait, EFilter, EDelayed, EIf, LDefine, LConstraint, LCall, SLine, SClocks}
use Rattle.ccsl_ast.specs.Trees.{SLineOf, PlainMember, PlainDefinition, DRelation, DGroup}
use Rattle.ccsl_kernel.specs.declared.position.Position.{Position}
use Rattle.ccsl_kernel.specs.declared.position.Position.TheVariants.{Inner, Tail}
use Rattle.ccsl_rules.specs.Faults.{Fault, where_so, Unknown, Later, WrongKind, Unguarded, TooTall, Arguments}
use Rattle.ccsl_rules.specs.Spaces.{Known, Callee, relation, look, parts_space, calls_space, repeated, spots, params_space, lines_space}
use Rattle.ccsl_rules.specs.Levels.{Sort, groups, relations, level_in, level, levels, counted}
use Rattle.ccsl_rules.specs.Uses.{Scene, is_own, has_role, is_guarded, mismatch, callee_faults, argument_faults, call_faults, expr_faults, right_of}
use Rattle.ccsl_rules.specs.Uses.{term_faults, word_faults, test_faults}
use Rattle.ccsl_rules.specs.Blocks.{Heights, entry_faults, entries_faults, params_faults, body_faults, part_faults, block_faults, blocks_faults}
use Rattle.ccsl_rules.proofs.Guarded.{left-empty, right-empty}
use Rattle.ccsl_rules.proofs.Ordered.{groups_in, all-append}

pub both-empty : {X : Type 0} (xs ys : List X) → xs ≡ [] → ys ≡ [] → xs ++ ys ≡ []
both-empty [] ys a b = b
both-empty (x ∷ xs) ys a b = absurd (cc)

-- ## The space of more definitions

space-append : (block group : ℕ) (bs cs : List PlainDefinition) →
    calls_space block group (bs ++ cs) ≡ calls_space block group bs ++ calls_space (block + length bs) (group + groups_in (length bs) bs) cs
space-append block group [] cs =
    ap₂ (λ b g. calls_space b g cs) (let e : block ≡ block + 0 = omega arith in e) (let e : group ≡ group + 0 = omega arith in e)
space-append block group (DRelation name params lines ∷ bs) cs =
    ap (λ ks. record { name = name; since = block + 1; what = record { role = relation; block = block; params = params } } ∷ ks)
    (space-append (block + 1) group bs cs
    ∙ ap (λ b. calls_space (block + 1) group bs ++ calls_space b (group + groups_in (length bs) bs) cs)
    (let e : block + 1 + length bs ≡ block + suc (length bs) = omega arith in e))
space-append block group (DGroup members ∷ bs) cs =
    ap (λ ks. parts_space block group 0 members ++ ks)
    (space-append (block + 1) (group + 1) bs cs
    ∙ ap₂ (λ b g. calls_space (block + 1) (group + 1) bs ++ calls_space b g cs) (let e : block + 1 + length bs ≡ block + suc (length bs) = omega arith in e)
    (let e : group + 1 + groups_in (length bs) bs ≡ group + suc (groups_in (length bs) bs) = omega arith in e))
    ∙ sym (append_assoc (parts_space block group 0 members) _ _)

abbrev From : ℕ → Known Callee → Type 0
From n c = n ≤ c.what.block

from-less : (n m : ℕ) (cs : List (Known Callee)) → n ≤ m → AllByRecursion (From m) cs → AllByRecursion (From n) cs
from-less n m [] h a = tt
from-less n m (c ∷ cs) h a = let l : m ≤ c.what.block = a.0 in (omega arith, from-less n m cs h a.1)

parts-from : (block group number : ℕ) (ps : List PlainMember) → AllByRecursion (From block) (parts_space block group number ps)
parts-from block group number [] = tt
parts-from block group number (p ∷ ps) = (omega arith, parts-from block group (number + 1) ps)

space-from : (block group : ℕ) (bs : List PlainDefinition) → AllByRecursion (From block) (calls_space block group bs)
space-from block group [] = tt
space-from block group (DRelation name params lines ∷ bs) =
    (omega arith, from-less block (block + 1) (calls_space (block + 1) group bs) (omega arith) (space-from (block + 1) group bs))
space-from block group (DGroup members ∷ bs) =
    all-append (From block) (parts_space block group 0 members) (calls_space (block + 1) (group + 1) bs) (parts-from block group 0 members)
    (from-less block (block + 1) (calls_space (block + 1) (group + 1) bs) (omega arith) (space-from (block + 1) (group + 1) bs))

find-front : (test : Known Callee → Bool) (xs ys : List (Known Callee)) (k : Known Callee) → find test xs ≡ Some k → find test (xs ++ ys) ≡ Some k
find-front test [] ys k e = absurd (cc)
find-front test (x ∷ xs) ys k e = on (test x) (find test xs) (find test (xs ++ ys)) e (find-front test xs ys k) where
  on : (b : Bool) (o p : Option (Known Callee)) → cond b (Some x) o ≡ Some k → (o ≡ Some k → p ≡ Some k) → cond b (Some x) p ≡ Some k
  on true o p e f = e
  on false o p e f = f e

-- ## Levels

pub index-past : (xs : List ℕ) (i : ℕ) → length xs ≤ i → slice_index xs i ≡ 0
index-past [] i h = refl
index-past (x ∷ xs) zero h = absurd (omega arith)
index-past (x ∷ xs) (suc i) h = index-past xs i (omega arith)

level-more : (calls more : List (Known Callee)) (seen : List ℕ) (name : List ℕ) → AllByRecursion (From (length seen)) more →
    level_in (calls ++ more) seen name ≡ level_in calls seen name
level-more [] more seen name a = behind more a where
  behind : (more : List (Known Callee)) → AllByRecursion (From (length seen)) more → level_in more seen name ≡ 0
  behind [] a = refl
  behind (c ∷ cs) a = on (bytes_eq c.name.name name) (find (λ k. bytes_eq k.name.name name) cs) (behind cs a.1) where
    on : (b : Bool) (o : Option (Known Callee)) → elim o as (λ _. ℕ) [ None ↦ 0 | Some k ↦ slice_index seen k.what.block ] ≡ 0 →
        elim (cond b (Some c) o) as (λ _. ℕ) [ None ↦ 0 | Some k ↦ slice_index seen k.what.block ] ≡ 0
    on true o e = index-past seen c.what.block a.0
    on false o e = e
level-more (c ∷ cs) more seen name a =
    on (bytes_eq c.name.name name) (find (λ k. bytes_eq k.name.name name) (cs ++ more)) (find (λ k. bytes_eq k.name.name name) cs)
    (level-more cs more seen name a) where
      on : (b : Bool) (o p : Option (Known Callee))
          → elim o as (λ _. ℕ) [ None ↦ 0 | Some k ↦ slice_index seen k.what.block ]
          ≡ elim p as (λ _. ℕ) [ None ↦ 0 | Some k ↦ slice_index seen k.what.block ] →
          elim (cond b (Some c) o) as (λ _. ℕ) [ None ↦ 0 | Some k ↦ slice_index seen k.what.block ] ≡ elim (cond b (Some c) p) as (λ _. ℕ) [
            | None ↦ 0
            | Some k ↦ slice_index seen k.what.block
          ]
      on true o p e = refl
      on false o p e = e

map-same : (f g : Spot → ℕ) → ((s : Spot) → f s ≡ g s) → (ss : List Spot) → map f ss ≡ map g ss
map-same f g e [] = refl
map-same f g e (s ∷ ss) = ap₂ (λ x xs. x ∷ xs) (e s) (map-same f g e ss)

definition-level : (calls more : List (Known Callee)) (seen : List ℕ) (names : Option (List Spot)) → AllByRecursion (From (length seen)) more
    → level (calls ++ more) seen names ≡ level calls seen names
definition-level calls more seen None a = refl
definition-level calls more seen (Some names) a =
    ap (λ ns. suc (Rattle.ccsl_kernel.specs.Cells.greatest ns))
    (map-same (λ s. level_in (calls ++ more) seen s.name) (λ s. level_in calls seen s.name) (λ s. level-more calls more seen s.name a) names)

levels-more : (sort : Sort) (calls more : List (Known Callee)) (seen : List ℕ) (bs : List PlainDefinition)
    → AllByRecursion (From (length seen + length bs)) more →
    levels sort (calls ++ more) seen bs ≡ levels sort calls seen bs
levels-more sort calls more seen [] a = refl
levels-more sort calls more seen (b ∷ bs) a =
    let here : level (calls ++ more) seen (counted sort b) ≡ level calls seen (counted sort b) =
    definition-level calls more seen (counted sort b) (from-less (length seen) (length seen + suc (length bs)) more (omega arith) a) in
    let l = length-append seen (level calls seen (counted sort b) ∷ []) in
    ap (λ n. levels sort (calls ++ more) (seen ++ n ∷ []) bs) here
    ∙ levels-more sort calls more (seen ++ level calls seen (counted sort b) ∷ []) bs
    (from-less (length (seen ++ level calls seen (counted sort b) ∷ []) + length bs) (length seen + suc (length bs)) more (omega arith) a)

pub levels-append : (sort : Sort) (calls : List (Known Callee)) (seen : List ℕ) (bs cs : List PlainDefinition)
    → levels sort calls seen (bs ++ cs) ≡ levels sort calls (levels sort calls seen bs) cs
levels-append sort calls seen [] cs = refl
levels-append sort calls seen (b ∷ bs) cs = levels-append sort calls (seen ++ level calls seen (counted sort b) ∷ []) bs cs

pub levels-length : (sort : Sort) (calls : List (Known Callee)) (seen : List ℕ) (bs : List PlainDefinition)
    → length (levels sort calls seen bs) ≡ length seen + length bs
levels-length sort calls seen [] = omega arith
levels-length sort calls seen (b ∷ bs) =
    let l = length-append seen (level calls seen (counted sort b) ∷ []) in
    let r = levels-length sort calls (seen ++ level calls seen (counted sort b) ∷ []) bs in
    omega arith

pub levels-front : (sort : Sort) (calls : List (Known Callee)) (seen : List ℕ) (bs : List PlainDefinition) (n : ℕ) → n ≤ length seen
    → take n (levels sort calls seen bs) ≡ take n seen
levels-front sort calls seen [] n h = refl
levels-front sort calls seen (b ∷ bs) n h =
    let l = length-append seen (level calls seen (counted sort b) ∷ []) in
    levels-front sort calls (seen ++ level calls seen (counted sort b) ∷ []) bs n (omega arith)
    ∙ take-append-le n seen (level calls seen (counted sort b) ∷ []) h

-- ## Faults

module _ (calls calls' : List (Known Callee)) (more : (name : List ℕ) (k : Known Callee) → look name calls ≡ Some k → look name calls' ≡ Some k) where
  callee-more : (S : Scene) → S.calls ≡ calls → (w : Bool) (p : Position) (s : Spot) (args : List Argument) (k : Known Callee) → look s.name calls ≡ Some k →
      callee_faults S w p s args k ≡ callee_faults (record S { calls = calls' }) w p s args k
  callee-more S same w p s args k l =
      let F : ℕ → List Fault = λ n.
      where_so (not (is_own S k.what) && nat_lt S.home k.since) Later s.at
      ++ where_so (not (has_role k.what.role w)) WrongKind s.at
      ++ where_so (is_own S k.what && not (is_guarded p)) Unguarded s.at
      ++ where_so (nat_lt 8 (suc n)) TooTall s.at
      ++ where_so (not (nat_eq (length args) (length k.what.params))) Arguments s.at
      ++ flat_map (λ a. mismatch S a.0 a.1) (zip k.what.params args) in
      let G : Option (Known Callee) → ℕ = λ o. elim o as (λ _. ℕ) [ None ↦ 0 | Some k ↦ slice_index S.levels k.what.block ] in
      let old : level_in S.calls S.levels s.name ≡ slice_index S.levels k.what.block =
      ap (λ (cs : List (Known Callee)). level_in cs S.levels s.name) same ∙ ap G l in
      let new : level_in calls' S.levels s.name ≡ slice_index S.levels k.what.block = ap G (more s.name k l) in
      ap F (old ∙ sym new)

  call-more : (S : Scene) → S.calls ≡ calls → (w : Bool) (p : Position) (s : Spot) (args : List Argument) → call_faults S w p s args ≡ []
      → call_faults (record S { calls = calls' }) w p s args ≡ []
  call-more S same w p s args e =
      both-empty _ (flat_map (argument_faults S) args)
      (on (look s.name calls) refl
      (ap (λ (cs : List (Known Callee)). elim (look s.name cs) as (λ _. List Fault) [
        | None ↦ where_so true Unknown s.at
        | Some k ↦ callee_faults S w p s args k
      ]) (sym same)
      ∙ left-empty _ (flat_map (argument_faults S) args) e))
      (right-empty _ (flat_map (argument_faults S) args) e)
    where
      on : (o : Option (Known Callee)) → look s.name calls ≡ o
          → elim o as (λ _. List Fault) [ None ↦ where_so true Unknown s.at | Some k ↦ callee_faults S w p s args k ] ≡ [] →
          elim (look s.name calls') as (λ _. List Fault) [
            | None ↦ where_so true Unknown s.at
            | Some k ↦ callee_faults (record S { calls = calls' }) w p s args k
          ] ≡ []
      on None l e = absurd (cc)
      on (Some k) l e =
          ap (λ (o : Option (Known Callee)). elim o as (λ _. List Fault) [
            | None ↦ where_so true Unknown s.at
            | Some k ↦ callee_faults (record S { calls = calls' }) w p s args k
          ]) (more s.name k l)
          ∙ sym (callee-more S same w p s args k l) ∙ e

  expr-more : (S : Scene) → S.calls ≡ calls → (p : Position) (e : Expression) → expr_faults S p e ≡ [] → expr_faults (record S { calls = calls' }) p e ≡ []
  expr-more S same p (EName s) e = e
  expr-more S same p (ECall s args) e = call-more S same false p s args e
  expr-more S same p ENever e = e
  expr-more S same p (EBinary b a d) e =
      both-empty _ _ (expr-more S same Inner a (left-empty _ (expr_faults S (right_of b p) d) e))
      (expr-more S same (right_of b p) d (right-empty (expr_faults S Inner a) _ e))
  expr-more S same p (EDelay a m) e =
      both-empty _ (term_faults S m) (expr-more S same Inner a (left-empty _ (term_faults S m) e)) (right-empty (expr_faults S Inner a) _ e)
  expr-more S same p (EAwait a m) e =
      both-empty _ (term_faults S m) (expr-more S same Inner a (left-empty _ (term_faults S m) e)) (right-empty (expr_faults S Inner a) _ e)
  expr-more S same p (EFilter a w) e =
      both-empty _ (word_faults S w) (expr-more S same Inner a (left-empty _ (word_faults S w) e)) (right-empty (expr_faults S Inner a) _ e)
  expr-more S same p (EDelayed a at m d) e =
      let front = left-empty _ (expr_faults S Inner d) e in
      both-empty _ _ (both-empty _ _ (expr-more S same Inner a (left-empty (expr_faults S Inner a) _ front)) (right-empty (expr_faults S Inner a) _ front))
      (expr-more S same Inner d (right-empty _ (expr_faults S Inner d) e))
  expr-more S same p (EIf q a d) e =
      let front = left-empty (test_faults S q ++ expr_faults S p a) (expr_faults S p d) e in
      both-empty _ _ (both-empty (test_faults S q) _ (left-empty (test_faults S q) _ front) (expr-more S same p a (right-empty (test_faults S q) _ front)))
      (expr-more S same p d (right-empty (test_faults S q ++ expr_faults S p a) _ e))

  entry-more : (S : Scene) → S.calls ≡ calls → (e : SLine) → entry_faults S e ≡ [] → entry_faults (record S { calls = calls' }) e ≡ []
  entry-more S same (SClocks names) e = e
  entry-more S same (SLineOf (LDefine s x)) e = expr-more S same Inner x e
  entry-more S same (SLineOf (LConstraint a r b)) e = e
  entry-more S same (SLineOf (LCall s args)) e = call-more S same true Inner s args e

  entries-more : (S : Scene) → S.calls ≡ calls → (line : ℕ) (es : List SLine) → entries_faults S line es ≡ []
      → entries_faults (record S { calls = calls' }) line es ≡ []
  entries-more S same line [] e = e
  entries-more S same line (x ∷ es) e =
      both-empty _ _ (entry-more (record S { line = line }) same x (left-empty _ (entries_faults S (line + 1) es) e))
      (entries-more S same (line + 1) es (right-empty (entry_faults (record S { line = line }) x) _ e))

  body-more : (home : ℕ) (ls : List ℕ) (params : List Param) (es : List SLine) → body_faults calls home ls params es ≡ []
      → body_faults calls' home ls params es ≡ []
  body-more home ls params es e =
      let locals : List (Known _) = params_space params ++ lines_space 0 es in
      let S : Scene = record { locals = locals; line = 0; calls = calls; home = home; levels = ls } in
      both-empty (params_faults params ++ repeated [] (spots locals)) _ (left-empty (params_faults params ++ repeated [] (spots locals)) _ e)
      (entries-more S refl 0 es (right-empty (params_faults params ++ repeated [] (spots locals)) _ e))

  part-more : (home : ℕ) (ls : List ℕ) (m : PlainMember) → part_faults calls home ls m ≡ [] → part_faults calls' home ls m ≡ []
  part-more home ls m e =
      let locals : List (Known _) = params_space m.params in
      let S : Scene = record { locals = locals; line = 0; calls = calls; home = home; levels = ls } in
      both-empty (params_faults m.params ++ repeated [] (spots locals)) _ (left-empty (params_faults m.params ++ repeated [] (spots locals)) _ e)
      (expr-more S refl Tail m.body (right-empty (params_faults m.params ++ repeated [] (spots locals)) _ e))

  parts-more : (home : ℕ) (ls : List ℕ) (ms : List PlainMember) → flat_map (part_faults calls home ls) ms ≡ [] → flat_map (part_faults calls' home ls) ms ≡ []
  parts-more home ls [] e = refl
  parts-more home ls (m ∷ ms) e =
      both-empty _ _ (part-more home ls m (left-empty _ (flat_map (part_faults calls home ls) ms) e))
      (parts-more home ls ms (right-empty (part_faults calls home ls m) _ e))

  block-more : (heights heights' : Heights) (home : ℕ) (b : PlainDefinition) → take home heights.groups ≡ take home heights'.groups
      → take home heights.relations ≡ take home heights'.relations →
      block_faults calls heights home b ≡ [] → block_faults calls' heights' home b ≡ []
  block-more H H' home (DRelation name params lines) g r e =
      subst (λ ls. body_faults calls' home ls params (map SLineOf lines) ≡ []) r (body-more home (take home H.relations) params (map SLineOf lines) e)
  block-more H H' home (DGroup members) g r e =
      subst (λ ls. flat_map (part_faults calls' home ls) members ≡ []) g (parts-more home (take home H.groups) members e)

  blocks-more : (heights heights' : Heights) (most : ℕ) → ((n : ℕ) → n ≤ most → take n heights.groups ≡ take n heights'.groups)
      → ((n : ℕ) → n ≤ most → take n heights.relations ≡ take n heights'.relations) →
      (home : ℕ) (bs : List PlainDefinition) → home + length bs ≤ most → blocks_faults calls heights home bs ≡ [] → blocks_faults calls' heights' home bs ≡ []
  blocks-more H H' most g r home [] l e = refl
  blocks-more H H' most g r home (b ∷ bs) l e =
      both-empty _ _ (block-more H H' home b (g home (omega arith)) (r home (omega arith)) (left-empty _ (blocks_faults calls H (home + 1) bs) e))
      (blocks-more H H' most g r (home + 1) bs (omega arith) (right-empty (block_faults calls H home b) _ e))

-- the levels of all definitions
abbrev pub heights_of : List PlainDefinition → Heights
heights_of bs = let calls = calls_space 0 0 bs in record { groups = levels groups calls [] bs; relations = levels relations calls [] bs }

heights-front : (sort : Sort) (bs cs : List PlainDefinition) (n : ℕ) → n ≤ length bs →
    take n (levels sort (calls_space 0 0 bs) [] bs) ≡ take n (levels sort (calls_space 0 0 (bs ++ cs)) [] (bs ++ cs))
heights-front sort bs cs n h =
    let whole = calls_space 0 0 (bs ++ cs) in
    let rest = calls_space (0 + length bs) (0 + groups_in (length bs) bs) cs in
    let same : levels sort whole [] bs ≡ levels sort (calls_space 0 0 bs) [] bs =
    ap (λ (ks : List (Known Callee)). levels sort ks [] bs) (space-append 0 0 bs cs)
    ∙ levels-more sort (calls_space 0 0 bs) rest [] bs (space-from (0 + length bs) (0 + groups_in (length bs) bs) cs) in
    let long = levels-length sort whole [] bs in
    sym (ap (take n) (levels-append sort whole [] bs cs) ∙ levels-front sort whole (levels sort whole [] bs) cs n (omega arith) ∙ ap (take n) same)

-- so definitions without a fault have none with further ones behind them
pub blocks-joined : (bs cs : List PlainDefinition) → blocks_faults (calls_space 0 0 bs) (heights_of bs) 0 bs ≡ []
    → blocks_faults (calls_space 0 0 (bs ++ cs)) (heights_of (bs ++ cs)) 0 bs ≡ []
blocks-joined bs cs e =
    blocks-more (calls_space 0 0 bs) (calls_space 0 0 (bs ++ cs)) found (heights_of bs) (heights_of (bs ++ cs)) (length bs)
    (λ n l. heights-front groups bs cs n l) (λ n l. heights-front relations bs cs n l) 0 bs (omega arith) e
  where
    found : (name : List ℕ) (k : Known Callee) → look name (calls_space 0 0 bs) ≡ Some k → look name (calls_space 0 0 (bs ++ cs)) ≡ Some k
    found name k l =
        ap (λ (ks : List (Known Callee)). look name ks) (space-append 0 0 bs cs)
        ∙ find-front (λ x. bytes_eq x.name.name name) (calls_space 0 0 bs) (calls_space (0 + length bs) (0 + groups_in (length bs) bs) cs) k l
