-- The system's own lines: what they define names lower clocks, and so do the clocks that their calls hide.
use Rattle.std.proofs.Common.{◌≡◌, ℕ, suc, ◌+◌, ◌<◌, ◌≤◌, List, [], ◌∷◌, ◌++◌, Option, Some, None, Bool, true, length, length-append, map, flat_map, slice_get}
use Rattle.std.proofs.Common.{filter_map, refl, sym, ap, subst, arith}
use Rattle.std.specs.List.{AllByRecursion, list_all}
use Rattle.std.proofs.lemmas.Bool.{and_parts}
use Rattle.ccsl_base.specs.Name.{is_name}
use Rattle.ccsl_ast.specs.declared.spot.Spot.{Spot}
use Rattle.ccsl_ast.specs.declared.definition.Kind.{Kind}
use Rattle.ccsl_ast.specs.declared.definition.Kind.TheVariants as kind
use Rattle.ccsl_ast.specs.declared.definition.Param.{Param}
use Rattle.ccsl_ast.specs.Trees.{LDefine, LConstraint, LCall, SLine, SClocks, SLineOf, PlainDefinition}
use Rattle.ccsl_ast.specs.Kept.{arg_kept, sline_kept}
use Rattle.ccsl_kernel.specs.Syntax.{Body}
use Rattle.ccsl_kernel.specs.declared.position.Position.TheVariants.{Inner}
use Rattle.ccsl_rules.specs.Spaces.{Known, Callee, look, clock_known, lines_space, calls_space, declares}
use Rattle.ccsl_rules.specs.Uses.{Scene, used_as}
use Rattle.ccsl_rules.specs.Blocks.{relation_faults, entry_faults, entries_faults}
use Rattle.ccsl_rules.specs.Texts.{entry_texts}
use Rattle.ccsl_rules.specs.Settings.{Atom, AClock, Setting, atom_of, argument_atoms}
use Rattle.ccsl_rules.specs.Resolved.{Tables, clock_number}
use Rattle.ccsl_rules.specs.Unfolded.{Item, Defines, Binds, Unfolding, Unfoldings, unfolding_at, unfold_line, unfold_entry, unfold_body, call_path, inside}
use Rattle.ccsl_rules.specs.Unfolded.{own_clocks}
use Rattle.ccsl_rules.specs.Expansion.{written_item, hidden_item, declared_names}
use Rattle.ccsl_rules.specs.Counts.{weight, clock_weights}
use Rattle.ccsl_rules.proofs.Guarded.{left-empty, right-empty}
use Rattle.ccsl_rules.proofs.Ordered.{all-append}
use Rattle.ccsl_rules.proofs.Known.{Fits, Standing, AreAt, at-left, at-right, AtomsFit, known, used_as-fits, use-ok}
use Rattle.ccsl_rules.proofs.Rising.{Aligned, aligned-look, aligned-append, nowhere, names_in, Placed, Orderly, orderly-append, fits-more, Ready}
use Rattle.ccsl_accepts.proofs.HiddenNames.{first-path}
use Rattle.ccsl_accepts.proofs.Sound.{Veiled, Safe, safe-call}
use Rattle.ccsl_accepts.proofs.Placing.{filter-append, hidden_names, hidden-append, map-append, Stand, stand-left, stand-right, stand-first, stand-room}
use Rattle.ccsl_accepts.proofs.Placing.{placed-of, none-written, names-hidden, hidden-orderly, Bound, orderly-bound, Good}

-- the names that lines define
abbrev pub defined_names : SLine → List (List ℕ)
defined_names (SClocks names) = []
defined_names (SLineOf (LDefine s e)) = s.name ∷ []
defined_names (SLineOf (LConstraint a r b)) = []
defined_names (SLineOf (LCall s args)) = []

hidden-weight : (xs : List Item) → weight clock_weights (filter_map hidden_item xs) ≡ length (hidden_names xs)
hidden-weight [] = refl
hidden-weight (Defines [] name σ k e ∷ xs) = hidden-weight xs
hidden-weight (Defines (b ∷ bs) name σ k e ∷ xs) = let r = hidden-weight xs in omega arith
hidden-weight (Binds path σ a r b ∷ xs) = hidden-weight xs

module _ (groups : List (List Body)) (K : Tables) (Xat : ℕ → ℕ) where
  -- Xat i is the number of the clock that the next definition defines, from line i on
  abbrev pub Counts : ℕ → List SLine → Type 0
  Counts i [] = Unit {0}
  Counts i (e ∷ es) = (Xat (i + 1) ≡ Xat i + length (defined_names e)) × Counts (i + 1) es

  abbrev Beside : Known Kind → Atom → Type 0
  Beside c a = Fits groups (Xat c.since) [] K (nowhere groups K) [] c.what a

  own_setting : List Spot → Setting
  own_setting ss = map (λ s. (s.name, AClock (inside [] s.name))) ss

  declared-aligned : (i X : ℕ) (names : List Spot) → Stand K X (map (λ s. s.name) names) → X + length names ≤ Xat (i + 1)
      → Aligned Beside (map (clock_known (i + 1)) names) (map (λ s. (s.name, AClock (inside [] s.name))) names)
  declared-aligned i X [] p l = tt
  declared-aligned i X (s ∷ ss) p l =
      let first : clock_number K.names s.name < suc X = stand-first K X s.name (map (λ s. s.name) ss) p in
      let next : Stand K (X + 1) (map (λ s. s.name) ss) = stand-right K X (s.name ∷ []) (map (λ s. s.name) ss) p in
      (refl, omega arith, declared-aligned i (X + 1) ss next (omega arith))

  names-length : (ss : List Spot) → length (map (λ s. s.name) ss) ≡ length ss
  names-length [] = refl
  names-length (s ∷ ss) = ap suc (names-length ss)

  -- the space and the setting of the lines from line i on, where Y declared clocks stand before them
  pub lines-aligned : (i Y : ℕ) (es : List SLine) → Counts i es → Stand K Y (flat_map declared_names es) → Y + length (flat_map declared_names es) ≤ Xat i
      → Stand K (Xat i) (flat_map defined_names es) →
      Aligned Beside (lines_space i es) (own_clocks [] es)
  lines-aligned i Y [] c d l w = tt
  lines-aligned i Y (SClocks names ∷ es) c d l w =
      let first : List (List ℕ) = map (λ s. s.name) names in
      let a = length-append first (flat_map declared_names es) in
      let m = names-length names in
      let same : Xat (i + 1) ≡ Xat i + 0 = c.0 in
      let here = declared-aligned i Y names (stand-left K Y first (flat_map declared_names es) d) (omega arith) in
      let rest = lines-aligned (i + 1) (Y + length first) es c.1 (stand-right K Y first (flat_map declared_names es) d) (omega arith)
      (subst (λ n. Stand K n (flat_map defined_names es)) (let z : Xat i ≡ Xat (i + 1) = omega arith in z) w) in
      subst (λ σ. Aligned Beside (map (clock_known (i + 1)) names ++ lines_space (i + 1) es) σ)
      {x = map (λ s. (s.name, AClock (inside [] s.name))) names ++ own_clocks [] es}
      (sym (map-append (λ s. (s.name, AClock (inside [] s.name))) names (flat_map declares es)))
      (aligned-append Beside (map (clock_known (i + 1)) names) (lines_space (i + 1) es) (map (λ s. (s.name, AClock (inside [] s.name))) names)
      (own_clocks [] es) here rest)
  lines-aligned i Y (SLineOf (LDefine s e) ∷ es) c d l w =
      let next : Xat (i + 1) ≡ Xat i + 1 = c.0 in
      let first : clock_number K.names s.name < suc (Xat i) = stand-first K (Xat i) s.name (flat_map defined_names es) w in (
        refl,
        omega arith,
        lines-aligned (i + 1) Y es c.1 d (omega arith)
            (subst (λ n. Stand K n (flat_map defined_names es)) (sym next) (stand-right K (Xat i) (s.name ∷ []) (flat_map defined_names es) w)),
      )
  lines-aligned i Y (SLineOf (LConstraint a r b) ∷ es) c d l w =
      let same : Xat (i + 1) ≡ Xat i + 0 = c.0 in
      lines-aligned (i + 1) Y es c.1 d (omega arith) (subst (λ n. Stand K n (flat_map defined_names es)) (let z : Xat i ≡ Xat (i + 1) = omega arith in z) w)
  lines-aligned i Y (SLineOf (LCall s args) ∷ es) c d l w =
      let same : Xat (i + 1) ≡ Xat i + 0 = c.0 in
      lines-aligned (i + 1) Y es c.1 d (omega arith) (subst (λ n. Stand K n (flat_map defined_names es)) (let z : Xat i ≡ Xat (i + 1) = omega arith in z) w)

  atoms-more : (X Y : ℕ) → X ≤ Y → (ps : List Param) (as' : List Atom) → AtomsFit groups X [] K (nowhere groups K) [] ps as'
      → AtomsFit groups Y [] K (nowhere groups K) [] ps as'
  atoms-more X Y h [] [] f = tt
  atoms-more X Y h (p ∷ ps) (a ∷ as') f = (fits-more groups K X Y p.kind a h f.0, atoms-more X Y h ps as' f.1)
  atoms-more X Y h [] (a ∷ as') f = absurd f
  atoms-more X Y h (p ∷ ps) [] f = absurd f

  module _ (blocks : List PlainDefinition) (calls : K.calls ≡ calls_space 0 0 blocks) (R : Unfoldings) (ready : Ready groups K R)
      (safe : AllByRecursion (Safe K blocks calls) R)
      (two : Bool) (home : ℕ) (locals : List (Known Kind)) (σ : Setting) (mono : (a b : ℕ) → a ≤ b → Xat a ≤ Xat b) (aligned : Aligned Beside locals σ) where
    abbrev scene : ℕ → Scene
    scene i = record { locals = locals; line = i; calls = K.calls; home = home; levels = [] }

    standing : (i : ℕ) → Standing groups (Xat i) [] K (scene i) σ
    standing i = record {
      same = refl;
      atoms = λ name k l since. fits-more groups K (Xat k.since) (Xat i) k.what (atom_of σ name) (mono k.since i since)
          (aligned-look Beside locals σ name k aligned l);
      bodies = ready.bodies;
    }

    call-good : (X H : ℕ) (xs : List Item) → AllByRecursion (Veiled K blocks calls) xs → Stand K H (hidden_names xs)
        → (Placed groups K H xs → Orderly groups K H xs) → Good K blocks calls groups X H xs
    call-good X H xs v p f =
        let names = names-hidden K blocks calls groups xs v in
        let stand : Stand K H (names_in xs) = subst (Stand K H) names p in
        let orderly = f (placed-of K groups H xs stand) in
        record {
          written = subst (λ ys. Orderly groups K X ys) (sym (none-written K blocks calls groups xs v)) tt;
          hidden = hidden-orderly K blocks calls groups H xs v orderly;
          bound = orderly-bound K blocks calls groups H xs (stand-room K H (names_in xs) stand) orderly;
        }

    entry-good : (i k H : ℕ) (e : SLine) → Xat i ≤ H → AreAt groups (Xat i) [] K (scene i) σ k (entry_texts e) → entry_faults (scene i) e ≡ []
        → sline_kept two e ≡ true → Xat i ≤ length K.names →
        Stand K H (hidden_names (unfold_entry K.words K.calls R [] σ k i e)) → Good K blocks calls groups (Xat i) H (unfold_entry K.words K.calls R [] σ k i e)
    entry-good i k H (SClocks names) l h f kept n p = record { written = tt; hidden = tt; bound = tt }
    entry-good i k H (SLineOf (LDefine s e)) l h f kept n p =
        record { written = (known groups (Xat i) [] K (scene i) σ (standing i) k Inner e h f, tt); hidden = tt; bound = (tt, tt) }
    entry-good i k H (SLineOf (LConstraint a r b)) l h f kept n p =
        let front = left-empty (used_as (scene i) kind.Clock a ++ relation_faults r) (used_as (scene i) kind.Clock b) f in
        let back = right-empty (used_as (scene i) kind.Clock a ++ relation_faults r) (used_as (scene i) kind.Clock b) f in
        record {
          written = tt;
          hidden = tt;
          bound = (
            (
              fits-more groups K (Xat i) (length K.names) kind.Clock (atom_of σ a.name) n
                  (used_as-fits groups (Xat i) [] K (scene i) σ (standing i) a kind.Clock
                  (left-empty (used_as (scene i) kind.Clock a) (relation_faults r) front)),
              fits-more groups K (Xat i) (length K.names) kind.Clock (atom_of σ b.name) n
                  (used_as-fits groups (Xat i) [] K (scene i) σ (standing i) b kind.Clock back),
            ),
            tt,
          );
        }
    entry-good i k H (SLineOf (LCall s args)) l h f kept n p =
        let name = (and_parts (is_name s.name) (list_all arg_kept args) kept).0 in
        let xs = unfold_line K.words K.calls R [] σ k i (LCall s args) in
        let veiled : AllByRecursion (Veiled K blocks calls) xs =
        safe-call K blocks calls R safe (look s.name K.calls) (call_path [] s.name i) (argument_atoms K.words σ k args) (first-path s.name i name) in
        let call = use-ok groups (Xat i) [] K (scene i) σ (standing i) k s args h f in
        let same : xs ≡ unfolding_at (slice_get R call.0.what.block) (call_path [] s.name i) (argument_atoms K.words σ k args) =
        ap (λ (found : Option (Known Callee)). elim found as (λ _. Unfolding) [ None ↦ λ path args. [] | Some c ↦ unfolding_at (slice_get R c.what.block) ]
        (call_path [] s.name i) (argument_atoms K.words σ k args)) call.1 in
        call-good (Xat i) H xs veiled p (λ placed. subst (λ ys. Orderly groups K H ys) (sym same)
        (ready.keeps s.name call.0 call.1 call.2 H (call_path [] s.name i) (argument_atoms K.words σ k args)
        (atoms-more (Xat i) H l call.0.what.params (argument_atoms K.words σ k args) call.3)
        (subst (λ ys. Placed groups K H ys) same placed)))

    entry-count : (i k : ℕ) (e : SLine) → sline_kept two e ≡ true
        → weight clock_weights (filter_map written_item (unfold_entry K.words K.calls R [] σ k i e)) ≡ length (defined_names e)
    entry-count i k (SClocks names) kept = refl
    entry-count i k (SLineOf (LDefine s e)) kept = omega arith
    entry-count i k (SLineOf (LConstraint a r b)) kept = refl
    entry-count i k (SLineOf (LCall s args)) kept =
        let name = (and_parts (is_name s.name) (list_all arg_kept args) kept).0 in
        let xs = unfold_line K.words K.calls R [] σ k i (LCall s args) in
        let veiled : AllByRecursion (Veiled K blocks calls) xs =
        safe-call K blocks calls R safe (look s.name K.calls) (call_path [] s.name i) (argument_atoms K.words σ k args) (first-path s.name i name) in
        ap (weight clock_weights) (none-written K blocks calls groups xs veiled)

    good-append : (X H n : ℕ) (xs ys : List Item) → weight clock_weights (filter_map written_item xs) ≡ n → Good K blocks calls groups X H xs
        → Good K blocks calls groups (X + n) (H + length (hidden_names xs)) ys → Good K blocks calls groups X H (xs ++ ys)
    good-append X H n xs ys w a b = record {
      written = subst (λ zs. Orderly groups K X zs) (sym (filter-append written_item xs ys))
          (orderly-append groups K X (filter_map written_item xs) (filter_map written_item ys) a.written
          (subst (λ m. Orderly groups K (X + m) (filter_map written_item ys)) (sym w) b.written));
      hidden = subst (λ zs. Orderly groups K H zs) (sym (filter-append hidden_item xs ys))
          (orderly-append groups K H (filter_map hidden_item xs) (filter_map hidden_item ys) a.hidden
          (subst (λ m. Orderly groups K (H + m) (filter_map hidden_item ys)) (sym (hidden-weight xs)) b.hidden));
      bound = all-append (Bound K blocks calls groups) xs ys a.bound b.bound;
    }

    pub body-good : (i k H : ℕ) (es : List SLine) → Counts i es → Xat i + length (flat_map defined_names es) ≤ H
        → AreAt groups 0 [] K (nowhere groups K) [] k (flat_map entry_texts es) → entries_faults (scene 0) i es ≡ [] →
        list_all (sline_kept two) es ≡ true → H ≤ length K.names →
        Stand K H (hidden_names (unfold_body K.words K.calls R [] σ k i es)) → Good K blocks calls groups (Xat i) H (unfold_body K.words K.calls R [] σ k i es)
    body-good i k H [] c l h f kept n p = record { written = tt; hidden = tt; bound = tt }
    body-good i k H (e ∷ es) c l h f kept n p =
        let here = unfold_entry K.words K.calls R [] σ k i e in
        let rest = unfold_body K.words K.calls R [] σ (k + length (entry_texts e)) (i + 1) es in
        let w = and_parts (sline_kept two e) (list_all (sline_kept two) es) kept in
        let a = length-append (defined_names e) (flat_map defined_names es) in
        let next : Xat (i + 1) ≡ Xat i + length (defined_names e) = c.0 in
        let split : Stand K H (hidden_names here ++ hidden_names rest) = subst (Stand K H) (hidden-append here rest) p in
        let behind : Stand K (H + length (hidden_names here)) (hidden_names rest) = stand-right K H (hidden_names here) (hidden_names rest) split in
        let room = stand-room K (H + length (hidden_names here)) (hidden_names rest) behind in
        good-append (Xat i) H (length (defined_names e)) here rest (entry-count i k e w.0)
        (entry-good i k H e (omega arith) (at-left groups 0 [] K (nowhere groups K) [] k (entry_texts e) (flat_map entry_texts es) h)
        (left-empty (entry_faults (scene i) e) (entries_faults (scene 0) (i + 1) es) f) w.0 (omega arith)
        (stand-left K H (hidden_names here) (hidden_names rest) split))
        (subst (λ m. Good K blocks calls groups m (H + length (hidden_names here)) rest) next
        (body-good (i + 1) (k + length (entry_texts e)) (H + length (hidden_names here)) es c.1 (omega arith)
        (at-right groups 0 [] K (nowhere groups K) [] k (entry_texts e) (flat_map entry_texts es) h)
        (right-empty (entry_faults (scene i) e) (entries_faults (scene 0) (i + 1) es) f) w.1 (omega arith) behind))
