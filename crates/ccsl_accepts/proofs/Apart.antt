-- The names that a body expands to are distinct.
use Rattle.std.proofs.Common.{◌≡◌, ℕ, zero, suc, ◌+◌, ◌<◌, ◌≤◌, ◌^◌, List, [], ◌∷◌, ◌++◌, append_assoc, Option, Some, None, Bool, true, length, length-append}
use Rattle.std.proofs.Common.{map, flat_map, take, slice_get, refl, sym, ap, ap₂, ◌∙◌, subst, arith, ◌⊎◌, inl, inr, ⊎_elim}
use Rattle.std.specs.Prelude.{decimal}
use Rattle.std.specs.List.{AllByRecursion, list_all}
use Rattle.std.proofs.lemmas.Bool.{and_parts}
use Rattle.std.proofs.lemmas.List.{append-nil}
use Rattle.ccsl_base.specs.Name.{is_name}
use Rattle.ccsl_base.specs.Letters.{is_inner}
use Rattle.ccsl_ast.specs.declared.spot.Spot.{Spot}
use Rattle.ccsl_ast.specs.declared.definition.Param.{Param}
use Rattle.ccsl_ast.specs.declared.term.Argument.{Argument}
use Rattle.ccsl_ast.specs.Trees.{Expression, LDefine, LConstraint, LCall, SLine, SClocks, SLineOf, PlainDefinition, DRelation, DGroup}
use Rattle.ccsl_ast.specs.Kept.{arg_kept, expression_kept, sline_kept, definition_kept}
use Rattle.ccsl_rules.specs.Spaces.{Known, Callee, look, calls_space, clock_known, declared_by, repeated, spots, params_space, lines_space}
use Rattle.ccsl_rules.specs.Uses.{Scene}
use Rattle.ccsl_rules.specs.Blocks.{Heights, params_faults, block_faults, blocks_faults}
use Rattle.ccsl_rules.specs.Settings.{Atom, Setting, argument_atoms}
use Rattle.ccsl_rules.specs.Texts.{entry_texts, block_texts}
use Rattle.ccsl_rules.specs.Resolved.{Tables}
use Rattle.ccsl_rules.specs.Unfolded.{Item, Defines, Binds, Unfolding, Unfoldings, unfolding_at, unfold_line, unfold_entry, unfold_body, unfold_block}
use Rattle.ccsl_rules.specs.Unfolded.{unfoldings, inside, call_path, arguments, own_clocks}
use Rattle.ccsl_rules.specs.Expansion.{declared_names}
use Rattle.ccsl_kernel.specs.Syntax.{Body}
use Rattle.ccsl_rules.proofs.Ready.{AreThere}
use Rattle.ccsl_rules.proofs.Guarded.{left-empty, right-empty}
use Rattle.ccsl_rules.proofs.Ordered.{all-append}
use Rattle.ccsl_rules.proofs.Rising.{names_in, names-append}
use Rattle.ccsl_rules.proofs.Apart.{Without, calls-apart}
use Rattle.ccsl_accepts.proofs.HiddenNames.{name-inner}
use Rattle.ccsl_accepts.proofs.Distinct.{In, Distinct, in-parts, distinct-join, distinct-right, by-parts, names_of_spots, declared-once}
use Rattle.ccsl_accepts.proofs.OwnLines.{defined_names}
use Rattle.ccsl_accepts.proofs.Lines.{AreFull, next-full, more-full, body-full, none-declared, lines-kept, relation-lines}

-- ## Names have no @

inner-without : (bs : List ℕ) → list_all is_inner bs ≡ true → Without 64 bs
inner-without [] h = tt
inner-without (b ∷ bs) h =
    let w = and_parts (is_inner b) (list_all is_inner bs) h in
    ((λ e. let z : is_inner 64 ≡ true = subst (λ x. is_inner x ≡ true) e w.0 in cc), inner-without bs w.1)

pub name-without : (name : List ℕ) → is_name name ≡ true → Without 64 name
name-without name h = inner-without name (name-inner name h)

pub at-is-with : (front rest : List ℕ) → Without 64 (front ++ (64 ∷ rest)) → ⊥
at-is-with [] rest w = w.0 refl
at-is-with (b ∷ front) rest w = at-is-with front rest w.1

cancel : (p x y : List ℕ) → p ++ x ≡ p ++ y → x ≡ y
cancel [] x y e = e
cancel (b ∷ p) x y e = cancel p x y (tails b (p ++ x) (p ++ y) e) where
  tails : (b : ℕ) (xs ys : List ℕ) → b ∷ xs ≡ b ∷ ys → xs ≡ ys
  tails b xs ys e = cc

-- a name under a path
pub record IsUnder (path name : List ℕ) : Type 0 where
  pub rest : List ℕ
  pub whole : name ≡ path ++ (46 ∷ rest)

-- what a definition unfolds to, under each path, has distinct names, all of them under the path
pub record AreApart (path : List ℕ) (ns : List (List ℕ)) : Type 0 where
  pub distinct : Distinct ns
  pub under : (n : List ℕ) → In n ns → IsUnder path n

abbrev pub Parts : Unfolding → Type 0
Parts u = (path : List ℕ) (args : List Atom) → (path ≡ [] → ⊥) → length (u path args) < 2 ^ 64 → AreApart path (names_in (u path args))

none-apart : (path : List ℕ) → AreApart path []
none-apart path = record { distinct = tt; under = λ n i. absurd i }

parts-at : (R : Unfoldings) (i : ℕ) → AllByRecursion Parts R → Parts (unfolding_at (slice_get R i))
parts-at [] i a path args p l = none-apart path
parts-at (u ∷ R) zero a path args p l = a.0 path args p l
parts-at (u ∷ R) (suc i) a path args p l = parts-at R i a.1 path args p l

parts-call : (R : Unfoldings) → AllByRecursion Parts R → (o : Option (Known Callee)) (path : List ℕ) (args : List Atom) → (path ≡ [] → ⊥) →
    length (elim o as (λ _. Unfolding) [ None ↦ λ path args. [] | Some k ↦ unfolding_at (slice_get R k.what.block) ] path args) < 2 ^ 64 →
    AreApart path (names_in (elim o as (λ _. Unfolding) [ None ↦ λ path args. [] | Some k ↦ unfolding_at (slice_get R k.what.block) ] path args))
parts-call R a None path args p l = none-apart path
parts-call R a (Some k) path args p l = parts-at R k.what.block a path args p l

nonempty-path : (path : List ℕ) → (path ≡ [] → ⊥) → (x : List ℕ) → inside path x ≡ (path ++ 46 ∷ []) ++ x
nonempty-path [] p x = absurd (p refl)
nonempty-path (b ∷ bs) p x = ap (λ l. b ∷ l) (sym (append_assoc bs (46 ∷ []) x))

not-nothing : (pre name rest : List ℕ) → pre ++ (name ++ (64 ∷ rest)) ≡ [] → ⊥
not-nothing [] [] rest e = cc
not-nothing [] (b ∷ bs) rest e = cc
not-nothing (b ∷ pre) name rest e = cc

defined-without : (two : Bool) (es : List SLine) → list_all (sline_kept two) es ≡ true → (n : List ℕ) → In n (flat_map defined_names es) → Without 64 n
defined-without two [] h n i = absurd i
defined-without two (SClocks ss ∷ es) h n i = defined-without two es (and_parts (sline_kept two (SClocks ss)) (list_all (sline_kept two) es) h).1 n i
defined-without two (SLineOf (LDefine s x) ∷ es) h n (inl e) =
    let w = and_parts (sline_kept two (SLineOf (LDefine s x))) (list_all (sline_kept two) es) h in
    subst (Without 64) (sym e) (name-without s.name (and_parts (is_name s.name) (expression_kept two x) w.0).0)
defined-without two (SLineOf (LDefine s x) ∷ es) h n (inr i) =
    defined-without two es (and_parts (sline_kept two (SLineOf (LDefine s x))) (list_all (sline_kept two) es) h).1 n i
defined-without two (SLineOf (LConstraint a r b) ∷ es) h n i =
    defined-without two es (and_parts (sline_kept two (SLineOf (LConstraint a r b))) (list_all (sline_kept two) es) h).1 n i
defined-without two (SLineOf (LCall s args) ∷ es) h n i =
    defined-without two es (and_parts (sline_kept two (SLineOf (LCall s args))) (list_all (sline_kept two) es) h).1 n i

-- ## A body

-- a name that a line from number i on defines itself, and one that a call in such a line hides
pub record IsOwn (pre : List ℕ) (defined : List (List ℕ)) (n : List ℕ) : Type 0 where
  pub name : List ℕ
  pub whole : n ≡ pre ++ name
  pub one : In name defined

pub record IsCalled (pre : List ℕ) (i : ℕ) (n : List ℕ) : Type 0 where
  pub name : List ℕ
  pub place : ℕ
  pub rest : List ℕ
  pub whole : n ≡ pre ++ (name ++ (64 ∷ (decimal place ++ (46 ∷ rest))))
  pub without : Without 64 name
  pub from : i ≤ place
  pub small : place < 2 ^ 64

abbrev Shape : List ℕ → ℕ → List SLine → List ℕ → Type 0
Shape pre i es n = IsOwn pre (flat_map defined_names es) n ⊎ IsCalled pre i n

pub record IsApart (pre : List ℕ) (i : ℕ) (es : List SLine) (ns : List (List ℕ)) : Type 0 where
  pub distinct : Distinct ns
  pub shape : (n : List ℕ) → In n ns → Shape pre i es n

later : (pre : List ℕ) (i : ℕ) (n : List ℕ) → IsCalled pre (i + 1) n → IsCalled pre i n
later pre i n c = let f =
    c.from in record { name = c.name; place = c.place; rest = c.rest; whole = c.whole; without = c.without; from = omega arith; small = c.small }

-- a line that defines nothing
pass : (pre : List ℕ) (i : ℕ) (e : SLine) (es : List SLine) (ns : List (List ℕ)) → defined_names e ≡ [] → IsApart pre (i + 1) es ns → IsApart pre i (e ∷ es) ns
pass pre i e es ns none a = record {
  distinct = a.distinct;
  shape = λ n j. ⊎_elim (λ o. inl (subst (λ l. IsOwn pre (l ++ flat_map defined_names es) n) (sym none) o)) (λ c. inr (later pre i n c)) (a.shape n j);
}

-- a definition
define : (pre : List ℕ) (i : ℕ) (s : Spot) (x : Expression) (es : List SLine) (ns : List (List ℕ)) → Without 64 s.name
    → (In s.name (flat_map defined_names es) → ⊥) → IsApart pre (i + 1) es ns →
    IsApart pre i (SLineOf (LDefine s x) ∷ es) ((pre ++ s.name) ∷ ns)
define pre i s x es ns w fresh a = record {
  distinct = (
    (λ j. ⊎_elim
        (λ (o : IsOwn pre (flat_map defined_names es) (pre ++ s.name)). fresh
        (subst (λ m. In m (flat_map defined_names es)) (sym (cancel pre s.name o.name o.whole)) o.one))
        (λ (c : IsCalled pre (i + 1) (pre ++ s.name)). at-is-with c.name (decimal c.place ++ (46 ∷ c.rest))
        (subst (Without 64) (cancel pre s.name (c.name ++ (64 ∷ (decimal c.place ++ (46 ∷ c.rest)))) c.whole) w))
        (a.shape (pre ++ s.name) j)),
    a.distinct,
  );
  shape = λ n j. ⊎_elim
      (λ (e : n ≡ pre ++ s.name). inl (record { name = s.name; whole = e; one = inl refl }))
      (λ k. ⊎_elim (λ (o : IsOwn pre (flat_map defined_names es) n). inl (record { name = o.name; whole = o.whole; one = inr o.one }))
      (λ c. inr (later pre i n c)) (a.shape n k)) j;
}

-- a call
called : (two : Bool) (pre : List ℕ) (i : ℕ) (s : Spot) (args : List Argument) (es : List SLine) (path : List ℕ) (hs ns : List (List ℕ))
    → path ≡ pre ++ (s.name ++ (64 ∷ decimal i)) → Without 64 s.name → i < 2 ^ 64 →
    list_all (sline_kept two) es ≡ true → AreApart path hs → IsApart pre (i + 1) es ns → IsApart pre i (SLineOf (LCall s args) ∷ es) (hs ++ ns)
called two pre i s args es path hs ns p w small kept h a = record {
  distinct = distinct-join hs ns h.distinct a.distinct (λ n j k.
      let c = here n j in
      ⊎_elim
      (λ (o : IsOwn pre (flat_map defined_names es) n). at-is-with c.name (decimal c.place ++ (46 ∷ c.rest))
      (subst (Without 64) (cancel pre o.name (c.name ++ (64 ∷ (decimal c.place ++ (46 ∷ c.rest)))) (sym o.whole ∙ c.whole))
      (defined-without two es kept o.name o.one)))
      (λ (d : IsCalled pre (i + 1) n). let same =
      calls-apart c.name d.name c.place d.place c.rest d.rest c.without d.without c.small d.small (cancel pre _ _ (sym c.whole ∙ d.whole)) in
      let one : i ≡ d.place = same.1 in let f = d.from in omega arith)
      (a.shape n k));
  shape = λ n j. ⊎_elim (λ k. inr (here n k)) (λ k. ⊎_elim (λ (o : IsOwn pre (flat_map defined_names es) n). inl o) (λ c. inr (later pre i n c)) (a.shape n k))
      (in-parts n hs ns j);
}
  where
    here : (n : List ℕ) → In n hs → IsCalled pre i n
    here n j =
        let u = h.under n j in
        record {
          name = s.name;
          place = i;
          rest = u.rest;
          whole = u.whole ∙ ap (λ q. q ++ (46 ∷ u.rest)) p ∙ append_assoc pre (s.name ++ (64 ∷ decimal i)) (46 ∷ u.rest)
              ∙ ap (λ l. pre ++ l) (append_assoc s.name (64 ∷ decimal i) (46 ∷ u.rest));
          without = w;
          from = omega arith;
          small = small;
        }

-- ## A body: its lines from number i on

module _ (K : Tables) (R : Unfoldings) (parts : AllByRecursion Parts R) (path pre : List ℕ) (before : (x : List ℕ) → inside path x ≡ pre ++ x) (σ : Setting)
    (two : Bool) where
  line-apart : (i k : ℕ) (e : SLine) (es : List SLine) (ns : List (List ℕ)) → Distinct (defined_names e ++ flat_map defined_names es) → sline_kept two e ≡ true
      → list_all (sline_kept two) es ≡ true → i < 2 ^ 64 →
      length (unfold_entry K.words K.calls R path σ k i e) < 2 ^ 64 → IsApart pre (i + 1) es ns
      → IsApart pre i (e ∷ es) (names_in (unfold_entry K.words K.calls R path σ k i e) ++ ns)
  line-apart i k (SClocks ss) es ns d h hs small l a = pass pre i (SClocks ss) es ns refl a
  line-apart i k (SLineOf (LDefine s x)) es ns d h hs small l a =
      subst (λ n. IsApart pre i (SLineOf (LDefine s x) ∷ es) (n ∷ ns)) (sym (before s.name))
      (define pre i s x es ns (name-without s.name (and_parts (is_name s.name) (expression_kept two x) h).0) d.0 a)
  line-apart i k (SLineOf (LConstraint b r c)) es ns d h hs small l a = pass pre i (SLineOf (LConstraint b r c)) es ns refl a
  line-apart i k (SLineOf (LCall s args)) es ns d h hs small l a =
      let q : List ℕ = call_path path s.name i in
      let p : q ≡ pre ++ (s.name ++ (64 ∷ decimal i)) = before (s.name ++ 64 ∷ decimal i) in
      let here = parts-call R parts (look s.name K.calls) q (argument_atoms K.words σ k args) (λ e. not-nothing pre s.name (decimal i) (sym p ∙ e)) l in
      called two pre i s args es q (names_in (unfold_line K.words K.calls R path σ k i (LCall s args))) ns p
      (name-without s.name (and_parts (is_name s.name) (list_all arg_kept args) h).0) small hs here a

  pub body-apart : (i k : ℕ) (es : List SLine) → Distinct (flat_map defined_names es) → list_all (sline_kept two) es ≡ true → i + length es ≤ 2 ^ 64
      → length (unfold_body K.words K.calls R path σ k i es) < 2 ^ 64 →
      IsApart pre i es (names_in (unfold_body K.words K.calls R path σ k i es))
  body-apart i k [] d h m l = record { distinct = tt; shape = λ n j. absurd j }
  body-apart i k (e ∷ es) d h m l =
      let w = and_parts (sline_kept two e) (list_all (sline_kept two) es) h in
      let here = unfold_entry K.words K.calls R path σ k i e in
      let rest = unfold_body K.words K.calls R path σ (k + length (entry_texts e)) (i + 1) es in
      let a = length-append here rest in
      let behind = body-apart (i + 1) (k + length (entry_texts e)) es (distinct-right (defined_names e) (flat_map defined_names es) d) w.1 (omega arith)
      (omega arith) in
      subst (λ ns. IsApart pre i (e ∷ es) ns) (sym (names-append here rest)) (line-apart i k e es (names_in rest) d w.0 w.1 (omega arith) (omega arith) behind)

-- ## The names that lines declare

abbrev pub all_names : SLine → List (List ℕ)
all_names e = declared_names e ++ defined_names e

spots-append : {A : Type 0} (xs ys : List (Known A)) → names_of_spots (spots (xs ++ ys)) ≡ names_of_spots (spots xs) ++ names_of_spots (spots ys)
spots-append [] ys = refl
spots-append (x ∷ xs) ys = ap (λ l. x.name.name ∷ l) (spots-append xs ys)

clocks-names : (n : ℕ) (ss : List Spot) → names_of_spots (spots (map (clock_known n) ss)) ≡ map (λ s. s.name) ss
clocks-names n [] = refl
clocks-names n (s ∷ ss) = ap (λ l. s.name ∷ l) (clocks-names n ss)

entry-names : (i : ℕ) (e : SLine) → names_of_spots (spots (declared_by i e)) ≡ all_names e
entry-names i (SClocks ss) = clocks-names (i + 1) ss ∙ sym (append-nil (map (λ s. s.name) ss))
entry-names i (SLineOf (LDefine s x)) = refl
entry-names i (SLineOf (LConstraint a r b)) = refl
entry-names i (SLineOf (LCall s args)) = refl

space-names : (i : ℕ) (es : List SLine) → names_of_spots (spots (lines_space i es)) ≡ flat_map all_names es
space-names i [] = refl
space-names i (e ∷ es) = spots-append (declared_by i e) (lines_space (i + 1) es) ∙ ap₂ (λ a b. a ++ b) (entry-names i e) (space-names (i + 1) es)

-- where no name is declared twice, declared and defined names are distinct
pub lines-distinct : (params : List Param) (es : List SLine) → repeated [] (spots (params_space params ++ lines_space 0 es)) ≡ []
    → Distinct (flat_map declared_names es ++ flat_map defined_names es)
lines-distinct params es e =
    let d : Distinct (names_of_spots (spots (params_space params)) ++ names_of_spots (spots (lines_space 0 es))) =
    subst Distinct (spots-append (params_space params) (lines_space 0 es)) (declared-once (spots (params_space params ++ lines_space 0 es)) e) in
    by-parts declared_names defined_names es
    (subst Distinct (space-names 0 es) (distinct-right (names_of_spots (spots (params_space params))) (names_of_spots (spots (lines_space 0 es))) d))

-- ## All definitions

module _ (K : Tables) (blocks : List PlainDefinition) (same : K.calls ≡ calls_space 0 0 blocks) where
  under-path : (path : List ℕ) (es : List SLine) (ns : List (List ℕ)) → IsApart (path ++ 46 ∷ []) 0 es ns → AreApart path ns
  under-path path es ns a = record {
    distinct = a.distinct;
    under = λ n j. ⊎_elim
        (λ (o : IsOwn (path ++ 46 ∷ []) (flat_map defined_names es) n). record { rest = o.name; whole = o.whole ∙ append_assoc path (46 ∷ []) o.name })
        (λ (c : IsCalled (path ++ 46 ∷ []) 0 n). record {
          rest = c.name ++ (64 ∷ (decimal c.place ++ (46 ∷ c.rest)));
          whole =
              c.whole ∙ append_assoc path (46 ∷ []) (c.name ++ (64 ∷ (decimal c.place ++ (46 ∷ c.rest))));
        })
        (a.shape n j);
  }

  block-parts : (R : Unfoldings) → AllByRecursion Parts R → AreFull K blocks same R → (two : Bool) (heights : Heights) (k : ℕ) (b : PlainDefinition)
      → block_faults K.calls heights (length R) b ≡ [] → definition_kept two b ≡ true →
      Parts (unfold_block K.words K.calls R k b)
  block-parts R parts full two heights k (DRelation name params lines) f h path args p l =
      let es : List SLine = map SLineOf lines in
      let locals : List (Known _) = params_space params ++ lines_space 0 es in
      let S : Scene = record { locals = locals; line = 0; calls = K.calls; home = length R; levels = take (length R) heights.relations } in
      let σ : Setting = arguments params args ++ own_clocks path es in
      let kept = lines-kept K blocks same two lines (relation-lines K blocks same two name params lines h).1 in
      let front : params_faults params ++ repeated [] (spots locals) ≡ [] = left-empty (params_faults params ++ repeated [] (spots locals)) _ f in
      let distinct = lines-distinct params es (right-empty (params_faults params) _ front) in
      let none : length (flat_map declared_names es) ≡ 0 = ap length (none-declared K blocks same lines) in
      let many = body-full K blocks same R full two S refl (omega arith) path σ k 0 es (right-empty (params_faults params ++ repeated [] (spots locals)) _ f)
      kept in
      under-path path es (names_in (unfold_body K.words K.calls R path σ k 0 es))
      (body-apart K R parts path (path ++ 46 ∷ []) (nonempty-path path p) σ two 0 k es
      (distinct-right (flat_map declared_names es) (flat_map defined_names es) distinct) kept (omega arith) l)
  block-parts R parts full two heights k (DGroup members) f h path args p l = none-apart path

  pub blocks-parts : (groups : List (List Body)) (two : Bool) (heights : Heights) (R : Unfoldings) → AllByRecursion Parts R → AreFull K blocks same R
      → (k home : ℕ) → length R ≡ home → (bs : List PlainDefinition) →
      AreThere groups K home bs → blocks_faults K.calls heights home bs ≡ [] → list_all (definition_kept two) bs ≡ true
      → AllByRecursion Parts (unfoldings K.words K.calls R k bs)
  blocks-parts groups two heights R parts full k home n [] t f h = parts
  blocks-parts groups two heights R parts full k home n (b ∷ bs) t f h =
      let w = and_parts (definition_kept two b) (list_all (definition_kept two) bs) h in
      let here : block_faults K.calls heights (length R) b ≡ [] =
      subst (λ m. block_faults K.calls heights m b ≡ []) (sym n)
      (left-empty (block_faults K.calls heights home b) (blocks_faults K.calls heights (home + 1) bs) f) in
      let l = length-append R (unfold_block K.words K.calls R k b ∷ []) in
      let u : Parts (unfold_block K.words K.calls R k b) = block-parts R parts full two heights k b here w.0 in
      blocks-parts groups two heights (R ++ unfold_block K.words K.calls R k b ∷ [])
      (all-append Parts R (unfold_block K.words K.calls R k b ∷ []) parts (u, tt))
      (more-full K blocks same R full (unfold_block K.words K.calls R k b)
      (λ name c l r e. next-full K blocks same R full two heights k b c.what.params (t.0 name c l r (e ∙ n)) here w.0))
      (k + length (block_texts b)) (home + 1) (omega arith) bs t.1
      (right-empty (block_faults K.calls heights home b) (blocks_faults K.calls heights (home + 1) bs) f) w.1
