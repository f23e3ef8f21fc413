-- Hidden clocks name lower clocks: the items of a relation's expansion, in a list of names in which their own names stand in order.
use Rattle.std.proofs.Common.{◌≡◌, ℕ, zero, suc, ◌+◌, ◌<◌, ◌≤◌, List, [], ◌∷◌, ◌++◌, append_assoc, Bool, true, false, not, cond, Option, Some, None, length}
use Rattle.std.proofs.Common.{length-append, map, flat_map, take, slice_get, find, bytes_eq, refl, sym, ap, ◌∙◌, subst, arith}
use Rattle.std.specs.List.{position_or_len}
use Rattle.ccsl_ast.specs.declared.definition.Kind.{Kind}
use Rattle.ccsl_ast.specs.declared.definition.Kind.TheVariants as kind
use Rattle.ccsl_ast.specs.declared.definition.Param.{Param}
use Rattle.ccsl_ast.specs.Trees.{Expression, Line, LDefine, LConstraint, LCall, SLine, SClocks, SLineOf}
use Rattle.ccsl_kernel.specs.Syntax.{Body, body_of}
use Rattle.ccsl_kernel.specs.declared.position.Position.TheVariants.{Inner}
use Rattle.ccsl_kernel.specs.Accepted.{IsKnown}
use Rattle.ccsl_rules.specs.Spaces.{Known, Callee, relation, member, look, params_space, lines_space}
use Rattle.ccsl_rules.specs.Uses.{Scene, used_as}
use Rattle.ccsl_rules.specs.Blocks.{relation_faults, entry_faults, entries_faults}
use Rattle.ccsl_rules.specs.Texts.{entry_texts}
use Rattle.ccsl_rules.specs.Expansion.{kind_in}
use Rattle.ccsl_rules.specs.Settings.{Atom, AClock, ANumber, AWord, AParam, Setting, atom_of, snd_of, argument_atoms}
use Rattle.ccsl_rules.specs.Resolved.{Tables, clock_number, resolve}
use Rattle.ccsl_rules.specs.Unfolded.{Item, Defines, Binds, Unfolding, Unfoldings, unfolding_at, unfold_line, unfold_entry, unfold_body, unfold_relation}
use Rattle.ccsl_rules.specs.Unfolded.{call_path, inside, arguments, own_clocks}
use Rattle.ccsl_rules.specs.Counts.{weight, clock_weights}
use Rattle.ccsl_rules.proofs.Counting.{weight-append}
use Rattle.ccsl_rules.proofs.Guarded.{left-empty, right-empty}
use Rattle.ccsl_rules.proofs.Known.{Fits, Standing, AreAt, at-left, at-right, AtomsFit, known, used_as-fits, use-ok}
use Rattle.std.proofs.lemmas.Slice.Eq.{bytes_eq-Decides}
use Rattle.ccsl_base.proofs.Tables.{own-name}

-- A SPACE AND A SETTING IN STEP: the same names in the same order, and P of each pair
abbrev pub Aligned : (Known Kind → Atom → Type 0) → List (Known Kind) → Setting → Type 0
Aligned P [] [] = Unit {0}
Aligned P (k ∷ ks) (p ∷ σ) = (k.name.name ≡ p.0) × P k p.1 × Aligned P ks σ
Aligned P _ _ = ⊥

aligned-step : (P : Known Kind → Atom → Type 0) (x k : Known Kind) (p : List ℕ × Atom) (b : Bool) (ks : Option (Known Kind)) (σ : Option (List ℕ × Atom)) →
    P x p.1 → (ks ≡ Some k → P k (snd_of σ)) → cond b (Some x) ks ≡ Some k → P k (snd_of (cond b (Some p) σ))
aligned-step P x k p true ks σ h f e = let same : x ≡ k = cc in subst (λ y. P y p.1) same h
aligned-step P x k p false ks σ h f e = f e

-- what a name stands for is what stands beside its declaration
pub aligned-look : (P : Known Kind → Atom → Type 0) (ks : List (Known Kind)) (σ : Setting) (name : List ℕ) (k : Known Kind) → Aligned P ks σ
    → look name ks ≡ Some k → P k (atom_of σ name)
aligned-look P [] [] name k a e = absurd (cc)
aligned-look P (x ∷ ks) (p ∷ σ) name k a e =
    subst (λ n. P k (snd_of (cond (bytes_eq n name) (Some p) (find (λ q. bytes_eq q.0 name) σ)))) a.0
    (aligned-step P x k p (bytes_eq x.name.name name) (find (λ y. bytes_eq y.name.name name) ks) (find (λ q. bytes_eq q.0 name) σ) a.1
    (aligned-look P ks σ name k a.2) e)
aligned-look P [] (p ∷ σ) name k a e = absurd a
aligned-look P (x ∷ ks) [] name k a e = absurd a

pub aligned-append : (P : Known Kind → Atom → Type 0) (ks ls : List (Known Kind)) (σ τ : Setting) → Aligned P ks σ → Aligned P ls τ
    → Aligned P (ks ++ ls) (σ ++ τ)
aligned-append P [] ls [] τ a b = b
aligned-append P (k ∷ ks) ls (p ∷ σ) τ a b = (a.0, a.1, aligned-append P ks ls σ τ a.2 b)
aligned-append P [] ls (p ∷ σ) τ a b = absurd a
aligned-append P (k ∷ ks) ls [] τ a b = absurd a

place-zero : (b : Bool) (n : ℕ) → b ≡ true → cond (not b) n 0 ≤ 0
place-zero true n e = omega arith
place-zero false n e = absurd (cc)

place-more : (b : Bool) (n m : ℕ) → n ≤ m → cond (not b) (1 + n) 0 ≤ suc m
place-more true n m h = omega arith
place-more false n m h = omega arith

pub place-front : (front rest : List (List ℕ)) (name : List ℕ) → position_or_len (λ x. bytes_eq x name) (front ++ name ∷ rest) ≤ length front
place-front [] rest name = place-zero (bytes_eq name name) _ (own-name name)
place-front (x ∷ front) rest name = place-more (bytes_eq x name) _ (length front) (place-front front rest name)

-- the names of an expansion's clocks, in order
abbrev pub names_in : List Item → List (List ℕ)
names_in [] = []
names_in (Defines path name σ k e ∷ xs) = name ∷ names_in xs
names_in (Binds path σ a r b ∷ xs) = names_in xs

pub names-append : (xs ys : List Item) → names_in (xs ++ ys) ≡ names_in xs ++ names_in ys
names-append [] ys = refl
names-append (Defines path name σ k e ∷ xs) ys = ap (λ l. name ∷ l) (names-append xs ys)
names-append (Binds path σ a r b ∷ xs) ys = names-append xs ys

names-weight : (xs : List Item) → length (names_in xs) ≡ weight clock_weights xs
names-weight [] = refl
names-weight (Defines path name σ k e ∷ xs) = omega (arith, names-weight xs)
names-weight (Binds path σ a r b ∷ xs) = omega (arith, names-weight xs)

module _ (groups : List (List Body)) (K : Tables) where
  -- the names of these items stand in the list of all names, from place X on
  pub record Placed (X : ℕ) (xs : List Item) : Type 0 where
    pub front : List (List ℕ)
    pub back : List (List ℕ)
    pub whole : K.names ≡ front ++ (names_in xs ++ back)
    pub long : length front ≡ X

  pub placed-left : (X : ℕ) (xs ys : List Item) → Placed X (xs ++ ys) → Placed X xs
  placed-left X xs ys p = record {
    front = p.front;
    back = names_in ys ++ p.back;
    whole = p.whole ∙ ap (λ l. p.front ++ l) (ap (λ l. l ++ p.back) (names-append xs ys) ∙ append_assoc (names_in xs) (names_in ys) p.back);
    long = p.long;
  }

  pub placed-right : (X : ℕ) (xs ys : List Item) → Placed X (xs ++ ys) → Placed (X + weight clock_weights xs) ys
  placed-right X xs ys p = record {
    front = p.front ++ names_in xs;
    back = p.back;
    whole = p.whole ∙ (ap (λ l. p.front ++ l) (ap (λ l. l ++ p.back) (names-append xs ys) ∙ append_assoc (names_in xs) (names_in ys) p.back)
        ∙ sym (append_assoc p.front (names_in xs) (names_in ys ++ p.back)));
    long = let a = length-append p.front (names_in xs) in let b = names-weight xs in let l = p.long in omega arith;
  }

  -- the first one stands at X or before
  pub placed-first : (X : ℕ) (path name : List ℕ) (σ : Setting) (k : ℕ) (e : Expression) (xs : List Item) → Placed X (Defines path name σ k e ∷ xs)
      → clock_number K.names name < suc X
  placed-first X path name σ k e xs p =
      let at : clock_number (p.front ++ name ∷ (names_in xs ++ p.back)) name ≤ length p.front = place-front p.front (names_in xs ++ p.back) name in
      let l = p.long in
      subst (λ names. clock_number names name < suc X) (sym p.whole) (omega arith)

  -- nothing is said of a scene here
  abbrev pub nowhere : Scene
  nowhere = record { locals = []; line = 0; calls = []; home = 0; levels = [] }

  -- EACH ITEM NAMES LOWER CLOCKS ONLY; X is the number of the next clock
  abbrev pub Orderly : ℕ → List Item → Type 0
  Orderly X [] = Unit {0}
  Orderly X (Defines path name σ k e ∷ xs) = IsKnown groups K.words X [] (resolve K σ k e) × Orderly (suc X) xs
  Orderly X (Binds path σ a r b ∷ xs) =
      Fits groups X [] K nowhere [] kind.Clock (atom_of σ a) × Fits groups X [] K nowhere [] kind.Clock (atom_of σ b) × Orderly X xs

  pub orderly-append : (X : ℕ) (xs ys : List Item) → Orderly X xs → Orderly (X + weight clock_weights xs) ys → Orderly X (xs ++ ys)
  orderly-append X [] ys a b = let e : X + 0 ≡ X = omega arith in subst (λ n. Orderly n ys) e b
  orderly-append X (Defines path name σ k e ∷ xs) ys a b =
      let n : X + (1 + weight clock_weights xs) ≡ suc X + weight clock_weights xs = omega arith in
      (a.0, orderly-append (suc X) xs ys a.1 (subst (λ m. Orderly m ys) n b))
  orderly-append X (Binds path σ c r d ∷ xs) ys a b =
      let n : X + (0 + weight clock_weights xs) ≡ X + weight clock_weights xs = omega arith in
      (a.0, a.1, orderly-append X xs ys a.2 (subst (λ m. Orderly m ys) n b))

  -- what fits goes on fitting
  pub fits-more : (X Y : ℕ) (k : Kind) (a : Atom) → X ≤ Y → Fits groups X [] K nowhere [] k a → Fits groups Y [] K nowhere [] k a
  fits-more X Y kind.Clock (AClock n) h f = omega arith
  fits-more X Y kind.Number (ANumber n) h f = tt
  fits-more X Y kind.Word (AWord w o) h f = f
  fits-more X Y kind.Clock (AParam i o) h f = f
  fits-more X Y kind.Number (AParam i o) h f = f
  fits-more X Y kind.Word (AParam i o) h f = f
  fits-more X Y kind.Clock (ANumber n) h f = absurd f
  fits-more X Y kind.Clock (AWord w o) h f = absurd f
  fits-more X Y kind.Number (AClock n) h f = absurd f
  fits-more X Y kind.Number (AWord w o) h f = absurd f
  fits-more X Y kind.Word (AClock n) h f = absurd f
  fits-more X Y kind.Word (ANumber n) h f = absurd f

  -- an unfolding that keeps the order, whatever path and fit arguments
  abbrev pub Keeps : List Param → Unfolding → Type 0
  Keeps params u = (X : ℕ) (path : List ℕ) (args : List Atom) → AtomsFit groups X [] K nowhere [] params args → Placed X (u path args) → Orderly X (u path args)

  -- what is called: expressions have their bodies, relations keep the order
  pub record Ready (R : Unfoldings) : Type 0 where
    pub bodies : (name : List ℕ) (c : Known Callee) (g m : ℕ) → look name K.calls ≡ Some c → c.what.role ≡ member g m →
        (b : Body) × (body_of groups g m ≡ Some b) × (b.params ≡ map (λ p. kind_in p.kind) c.what.params)
    pub keeps : (name : List ℕ) (c : Known Callee) → look name K.calls ≡ Some c → c.what.role ≡ relation
        → Keeps c.what.params (unfolding_at (slice_get R c.what.block))

  -- Xat i is the number of the next clock before line i
  module _ (R : Unfoldings) (path : List ℕ) (σ : Setting) (Xat : ℕ → ℕ) where
    abbrev pub Rises : ℕ → ℕ → List SLine → Type 0
    Rises k i [] = Unit {0}
    Rises k i (e ∷ es) = (Xat (i + 1) ≡ Xat i + weight clock_weights (unfold_entry K.words K.calls R path σ k i e))
        × Rises (k + length (entry_texts e)) (i + 1) es

    -- the clocks of the first n lines
    abbrev pub upto : ℕ → ℕ → List SLine → ℕ → ℕ
    upto k i es n = weight clock_weights (unfold_body K.words K.calls R path σ k i (take n es))

    upto-suc : (k i : ℕ) (e : SLine) (es : List SLine) (n : ℕ) →
        upto k i (e ∷ es) (suc n) ≡ weight clock_weights (unfold_entry K.words K.calls R path σ k i e) + upto (k + length (entry_texts e)) (i + 1) es n
    upto-suc k i e es n = weight-append clock_weights (unfold_entry K.words K.calls R path σ k i e)
        (unfold_body K.words K.calls R path σ (k + length (entry_texts e)) (i + 1) (take n es))

    pub upto-zero : (k i : ℕ) (es : List SLine) → upto k i es 0 ≡ 0
    upto-zero k i [] = refl
    upto-zero k i (e ∷ es) = refl

    pub upto-mono : (k i : ℕ) (es : List SLine) (a b : ℕ) → a ≤ b → upto k i es a ≤ upto k i es b
    upto-mono k i es zero b h = let z = upto-zero k i es in omega arith
    upto-mono k i es (suc a) zero h = absurd (omega arith)
    upto-mono k i [] (suc a) (suc b) h = omega arith
    upto-mono k i (e ∷ es) (suc a) (suc b) h =
        let p = upto-suc k i e es a in
        let q = upto-suc k i e es b in
        let r = upto-mono (k + length (entry_texts e)) (i + 1) es a b (omega arith) in
        omega arith

    pub rises : (k i : ℕ) (es : List SLine) → ((n : ℕ) → Xat (i + n) ≡ Xat i + upto k i es n) → Rises k i es
    rises k i [] f = tt
    rises k i (e ∷ es) f =
        let here : Xat (i + 1) ≡ Xat i + weight clock_weights (unfold_entry K.words K.calls R path σ k i e) =
        f 1 ∙ ap (λ n. Xat i + n) (upto-suc k i e es 0 ∙ sum-zero _ _ (upto-zero (k + length (entry_texts e)) (i + 1) es)) in (
          here,
          rises (k + length (entry_texts e)) (i + 1) es (λ n.
              let p = f (suc n) in
              let q = upto-suc k i e es n in
              let there : i + 1 + n ≡ i + suc n = omega arith in
              ap Xat there ∙ sum-next _ _ _ _ _ _ p q here),
        )
      where
        sum-zero : (a b : ℕ) → b ≡ 0 → a + b ≡ a
        sum-zero a b e = omega arith

        sum-next : (x y z u w v : ℕ) → x ≡ y + u → u ≡ w + v → z ≡ y + w → x ≡ z + v
        sum-next x y z u w v a b c = omega arith

    -- the clocks that lines declare stand in step with their whole names
    pub own-aligned : (k i : ℕ) (ls : List Line) → Rises k i (map SLineOf ls) → Placed (Xat i) (unfold_body K.words K.calls R path σ k i (map SLineOf ls)) →
        Aligned (λ c a. Fits groups (Xat c.since) [] K nowhere [] c.what a) (lines_space i (map SLineOf ls)) (own_clocks path (map SLineOf ls))
    own-aligned k i [] r p = tt
    own-aligned k i (LDefine s e ∷ ls) r p =
        let rest = unfold_body K.words K.calls R path σ (k + length (entry_texts (SLineOf (LDefine s e)))) (i + 1) (map SLineOf ls) in
        let first : clock_number K.names (inside path s.name) < suc (Xat i) = placed-first (Xat i) path (inside path s.name) σ k e rest p in
        let next : Xat (i + 1) ≡ Xat i + (1 + 0) = r.0 in (
          refl,
          omega arith,
          own-aligned (k + length (entry_texts (SLineOf (LDefine s e)))) (i + 1) ls r.1
              (subst (λ n. Placed n rest) (sym r.0) (placed-right (Xat i) (Defines path (inside path s.name) σ k e ∷ []) rest p)),
        )
    own-aligned k i (LConstraint a c b ∷ ls) r p =
        let rest = unfold_body K.words K.calls R path σ (k + length (entry_texts (SLineOf (LConstraint a c b)))) (i + 1) (map SLineOf ls) in
        own-aligned (k + length (entry_texts (SLineOf (LConstraint a c b)))) (i + 1) ls r.1
        (subst (λ n. Placed n rest) (sym r.0) (placed-right (Xat i) (Binds path σ a.name c b.name ∷ []) rest p))
    own-aligned k i (LCall s args ∷ ls) r p =
        let rest = unfold_body K.words K.calls R path σ (k + length (entry_texts (SLineOf (LCall s args)))) (i + 1) (map SLineOf ls) in
        own-aligned (k + length (entry_texts (SLineOf (LCall s args)))) (i + 1) ls r.1
        (subst (λ n. Placed n rest) (sym r.0) (placed-right (Xat i) (unfold_entry K.words K.calls R path σ k i (SLineOf (LCall s args))) rest p))

  params-aligned : (X : ℕ) (Xat : ℕ → ℕ) (params : List Param) (args : List Atom) → X ≤ Xat 0 → AtomsFit groups X [] K nowhere [] params args →
      Aligned (λ c a. Fits groups (Xat c.since) [] K nowhere [] c.what a) (params_space params) (arguments params args)
  params-aligned X Xat [] [] h f = tt
  params-aligned X Xat (p ∷ ps) (a ∷ as') h f = (refl, fits-more X (Xat 0) p.kind a h f.0, params-aligned X Xat ps as' h f.1)
  params-aligned X Xat [] (a ∷ as') h f = absurd f
  params-aligned X Xat (p ∷ ps) [] h f = absurd f

  -- A BODY: its space and setting in step, Xat i the number of the next clock before line i
  module _ (R : Unfoldings) (ready : Ready R) (home : ℕ) (levels : List ℕ) (locals : List (Known Kind)) (path : List ℕ) (σ : Setting) (Xat : ℕ → ℕ)
      (mono : (a b : ℕ) → a ≤ b → Xat a ≤ Xat b) (aligned : Aligned (λ k a. Fits groups (Xat k.since) [] K nowhere [] k.what a) locals σ) where
    abbrev scene : ℕ → Scene
    scene i = record { locals = locals; line = i; calls = K.calls; home = home; levels = levels }

    standing : (i : ℕ) → Standing groups (Xat i) [] K (scene i) σ
    standing i = record {
      same = refl;
      atoms = λ name k l since. fits-more (Xat k.since) (Xat i) k.what (atom_of σ name) (mono k.since i since)
          (aligned-look (λ k a. Fits groups (Xat k.since) [] K nowhere [] k.what a) locals σ name k aligned l);
      bodies = ready.bodies;
    }

    entry-orderly : (k i : ℕ) (e : SLine) → AreAt groups (Xat i) [] K (scene i) σ k (entry_texts e) → entry_faults (scene i) e ≡ [] →
        Placed (Xat i) (unfold_entry K.words K.calls R path σ k i e) → Orderly (Xat i) (unfold_entry K.words K.calls R path σ k i e)
    entry-orderly k i (SClocks names) h f p = tt
    entry-orderly k i (SLineOf (LDefine s e)) h f p = (known groups (Xat i) [] K (scene i) σ (standing i) k Inner e h f, tt)
    entry-orderly k i (SLineOf (LConstraint a r b)) h f p =
        let front = left-empty (used_as (scene i) kind.Clock a ++ relation_faults r) (used_as (scene i) kind.Clock b) f in
        let back = right-empty (used_as (scene i) kind.Clock a ++ relation_faults r) (used_as (scene i) kind.Clock b) f in (
          used_as-fits groups (Xat i) [] K (scene i) σ (standing i) a kind.Clock (left-empty (used_as (scene i) kind.Clock a) (relation_faults r) front),
          used_as-fits groups (Xat i) [] K (scene i) σ (standing i) b kind.Clock back,
          tt,
        )
    entry-orderly k i (SLineOf (LCall s args)) h f p =
        let call = use-ok groups (Xat i) [] K (scene i) σ (standing i) k s args h f in
        let same : unfold_line K.words K.calls R path σ k i (LCall s args) ≡ unfolding_at (slice_get R call.0.what.block) (call_path path s.name i)
        (argument_atoms K.words σ k args) =
        ap (λ (found : Option (Known Callee)). elim found as (λ _. Unfolding) [ None ↦ λ path args. [] | Some c ↦ unfolding_at (slice_get R c.what.block) ]
        (call_path path s.name i) (argument_atoms K.words σ k args)) call.1 in
        subst (λ xs. Orderly (Xat i) xs) (sym same)
        (ready.keeps s.name call.0 call.1 call.2 (Xat i) (call_path path s.name i) (argument_atoms K.words σ k args) call.3
        (subst (λ xs. Placed (Xat i) xs) same p))

    pub body-orderly : (k i : ℕ) (es : List SLine) → AreAt groups 0 [] K nowhere [] k (flat_map entry_texts es) → entries_faults (scene 0) i es ≡ []
        → Rises R path σ Xat k i es →
        Placed (Xat i) (unfold_body K.words K.calls R path σ k i es) → Orderly (Xat i) (unfold_body K.words K.calls R path σ k i es)
    body-orderly k i [] h f r p = tt
    body-orderly k i (e ∷ es) h f r p =
        let here = unfold_entry K.words K.calls R path σ k i e in
        let rest = unfold_body K.words K.calls R path σ (k + length (entry_texts e)) (i + 1) es in
        orderly-append (Xat i) here rest
        (entry-orderly k i e (at-left groups 0 [] K nowhere [] k (entry_texts e) (flat_map entry_texts es) h)
        (left-empty (entry_faults (scene i) e) (entries_faults (scene 0) (i + 1) es) f) (placed-left (Xat i) here rest p))
        (subst (λ n. Orderly n rest) r.0
        (body-orderly (k + length (entry_texts e)) (i + 1) es (at-right groups 0 [] K nowhere [] k (entry_texts e) (flat_map entry_texts es) h)
        (right-empty (entry_faults (scene i) e) (entries_faults (scene 0) (i + 1) es) f) r.1
        (subst (λ n. Placed n rest) (sym r.0) (placed-right (Xat i) here rest p))))

  -- A RELATION WITHOUT A FAULT keeps the order
  pub relation-keeps : (R : Unfoldings) → Ready R → (home : ℕ) (levels : List ℕ) (k : ℕ) (params : List Param) (lines : List Line) →
      AreAt groups 0 [] K nowhere [] k (flat_map entry_texts (map SLineOf lines)) →
      entries_faults (record { locals = params_space params ++ lines_space 0 (map SLineOf lines); line = 0; calls = K.calls; home = home; levels = levels }) 0
      (map SLineOf lines) ≡ [] →
      Keeps params (unfold_relation K.words K.calls R k params (map SLineOf lines))
  relation-keeps R ready home levels k params lines h f X path args fit placed =
      let σ : Setting = arguments params args ++ own_clocks path (map SLineOf lines) in
      let Xat : ℕ → ℕ = λ n. X + upto R path σ (λ m. m) k 0 (map SLineOf lines) n in
      let first : Xat 0 ≡ X = sum-zero X _ (upto-zero R path σ (λ m. m) k 0 (map SLineOf lines)) in
      let up : Rises R path σ Xat k 0 (map SLineOf lines) =
      rises R path σ Xat k 0 (map SLineOf lines)
      (λ n. shift n X (upto R path σ (λ m. m) k 0 (map SLineOf lines)) (upto-zero R path σ (λ m. m) k 0 (map SLineOf lines))) in
      let start : Placed (Xat 0) (unfold_body K.words K.calls R path σ k 0 (map SLineOf lines)) =
      subst (λ n. Placed n (unfold_body K.words K.calls R path σ k 0 (map SLineOf lines))) (sym first) placed in
      let steps = aligned-append (λ c a. Fits groups (Xat c.since) [] K nowhere [] c.what a) (params_space params) (lines_space 0 (map SLineOf lines))
      (arguments params args) (own_clocks path (map SLineOf lines))
      (params-aligned X Xat params args (same-le X (Xat 0) (sym first)) fit) (own-aligned R path σ Xat k 0 lines up start) in
      subst (λ n. Orderly n (unfold_body K.words K.calls R path σ k 0 (map SLineOf lines))) first
      (body-orderly R ready home levels (params_space params ++ lines_space 0 (map SLineOf lines)) path σ Xat
      (λ a b l. plus-mono X _ _ (upto-mono R path σ (λ m. m) k 0 (map SLineOf lines) a b l)) steps k 0 (map SLineOf lines) h f up start)
    where
      sum-zero : (a b : ℕ) → b ≡ 0 → a + b ≡ a
      sum-zero a b e = omega arith

      same-le : (a b : ℕ) → a ≡ b → a ≤ b
      same-le a b e = omega arith

      plus-mono : (X a b : ℕ) → a ≤ b → X + a ≤ X + b
      plus-mono X a b h = omega arith

      shift : (n X : ℕ) (u : ℕ → ℕ) → u 0 ≡ 0 → X + u (0 + n) ≡ X + u 0 + u n
      shift n X u e = let z : 0 + n ≡ n = omega arith in ap (λ m. X + u m) z ∙ drop-zero X (u 0) (u n) e where
        drop-zero : (x y z : ℕ) → y ≡ 0 → x + z ≡ x + y + z
        drop-zero x y z e = omega arith
