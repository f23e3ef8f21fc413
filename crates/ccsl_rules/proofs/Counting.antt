-- The count is the length of the expansion.
use Rattle.std.proofs.Common.{◌≡◌, ℕ, zero, suc, ◌+◌, List, [], ◌∷◌, ◌++◌, length, map, flat_map, slice_get, filter_map, Option, Some, None, length-append}
use Rattle.std.proofs.Common.{refl, ap, ◌∙◌, arith}
use Rattle.std.proofs.lemmas.Grind.{common_steps}
use Rattle.std.proofs.lemmas.List.{length-map}
use Rattle.ccsl_ast.specs.Trees.{Line, LDefine, LConstraint, LCall, SLine, SClocks, SLineOf, PlainDefinition, DRelation, DGroup, PlainFile}
use Rattle.ccsl_words.specs.Word.{BinaryWord}
use Rattle.ccsl_rules.specs.Settings.{Atom, Setting, argument_atoms}
use Rattle.ccsl_rules.specs.Texts.{entry_texts, block_texts, sheet_texts}
use Rattle.ccsl_rules.specs.Spaces.{Known, Callee, look, calls_space}
use Rattle.ccsl_rules.specs.Unfolded.{unfolding_at, unfold_block, Item, Defines, Binds, Unfolding, Unfoldings, unfold_line, unfold_entry, unfold_body}
use Rattle.ccsl_rules.specs.Unfolded.{unfoldings, call_path, arguments, own_clocks}
use Rattle.ccsl_rules.specs.Expansion.{items_of, expand, written_item, hidden_item, item_name, constraint_of, declared_names, words_of, names_of}
use Rattle.ccsl_rules.specs.Counts.{cut, Weights, clock_weights, constraint_weights, weight, count_at, block_count, line_count, entry_count, body_count, counts}
use Rattle.ccsl_rules.specs.Counts.{file_count}

pub weight-append : (w : Weights) (xs ys : List Item) → weight w (xs ++ ys) ≡ weight w xs + weight w ys
weight-append w [] ys = omega arith
weight-append w (x ∷ xs) ys = omega (arith, weight-append w xs ys)

-- each definition's unfolding weighs its count
abbrev pub Agree : Weights → Unfoldings → List ℕ → Type 0
Agree w [] [] = Unit {0}
Agree w (u ∷ R) (n ∷ C) = ((path : List ℕ) (args : List Atom) → cut (weight w (u path args)) ≡ n) × Agree w R C
Agree w _ _ = ⊥

agree-at : (w : Weights) (R : Unfoldings) (C : List ℕ) (i : ℕ) → Agree w R C → (path : List ℕ) (args : List Atom)
    → cut (weight w (unfolding_at (slice_get R i) path args)) ≡ count_at (slice_get C i)
agree-at w [] [] i a path args = refl
agree-at w (u ∷ R) (n ∷ C) zero a path args = a.0 path args
agree-at w (u ∷ R) (n ∷ C) (suc i) a path args = agree-at w R C i a.1 path args
agree-at w [] (n ∷ C) i a path args = absurd a
agree-at w (u ∷ R) [] i a path args = absurd a

agree-more : (w : Weights) (R : Unfoldings) (C : List ℕ) (u : Unfolding) (n : ℕ) → Agree w R C
    → ((path : List ℕ) (args : List Atom) → cut (weight w (u path args)) ≡ n) → Agree w (R ++ u ∷ []) (C ++ n ∷ [])
agree-more w [] [] u n a e = (e, tt)
agree-more w (r ∷ R) (c ∷ C) u n a e = (a.0, agree-more w R C u n a.1 e)
agree-more w [] (c ∷ C) u n a e = absurd a
agree-more w (r ∷ R) [] u n a e = absurd a

module _ (w : Weights) (words : List BinaryWord) (calls : List (Known Callee)) where
  agree-call : (R : Unfoldings) (C : List ℕ) → Agree w R C → (found : Option (Known Callee)) (path : List ℕ) (args : List Atom) →
      cut (weight w (elim found as (λ _. Unfolding) [ None ↦ λ path args. [] | Some k ↦ unfolding_at (slice_get R k.what.block) ] path
      args)) ≡ elim found as (λ _. ℕ) [ None ↦ 0 | Some k ↦ count_at (slice_get C k.what.block) ]
  agree-call R C a None path args = refl
  agree-call R C a (Some k) path args = agree-at w R C k.what.block a path args

  line-weight : (R : Unfoldings) (C : List ℕ) → Agree w R C → (path : List ℕ) (σ : Setting) (k i : ℕ) (l : Line)
      → cut (weight w (unfold_line words calls R path σ k i l)) ≡ line_count w calls C l
  line-weight R C a path σ k i (LDefine s e) = ap cut (omega arith)
  line-weight R C a path σ k i (LConstraint x r y) = ap cut (omega arith)
  line-weight R C a path σ k i (LCall s args) = agree-call R C a (look s.name calls) (call_path path s.name i) (argument_atoms words σ k args)

  entry-weight : (R : Unfoldings) (C : List ℕ) → Agree w R C → (path : List ℕ) (σ : Setting) (k i : ℕ) (e : SLine)
      → cut (weight w (unfold_entry words calls R path σ k i e)) ≡ entry_count w calls C e
  entry-weight R C a path σ k i (SClocks names) = refl
  entry-weight R C a path σ k i (SLineOf l) = line-weight R C a path σ k i l

  pub body-weight : (R : Unfoldings) (C : List ℕ) → Agree w R C → (path : List ℕ) (σ : Setting) (k i : ℕ) (es : List SLine)
      → cut (weight w (unfold_body words calls R path σ k i es)) ≡ body_count w calls C es
  body-weight R C a path σ k i [] = refl
  body-weight R C a path σ k i (e ∷ es) =
      let here = unfold_entry words calls R path σ k i e in
      let rest = unfold_body words calls R path σ (k + length (entry_texts e)) (i + 1) es in
      let p = weight-append w here rest in
      let q = entry-weight R C a path σ k i e in
      let r = body-weight R C a path σ (k + length (entry_texts e)) (i + 1) es in
      omega arith

  block-weight : (R : Unfoldings) (C : List ℕ) → Agree w R C → (k : ℕ) (b : PlainDefinition) (path : List ℕ) (args : List Atom)
      → cut (weight w (unfold_block words calls R k b path args)) ≡ block_count w calls C b
  block-weight R C a k (DRelation name params lines) path args =
      body-weight R C a path (arguments params args ++ own_clocks path (map SLineOf lines)) k 0 (map SLineOf lines)
  block-weight R C a k (DGroup members) path args = refl

  pub blocks-agree : (R : Unfoldings) (C : List ℕ) → Agree w R C → (k : ℕ) (bs : List PlainDefinition)
      → Agree w (unfoldings words calls R k bs) (counts w calls C bs)
  blocks-agree R C a k [] = a
  blocks-agree R C a k (b ∷ bs) =
      blocks-agree (R ++ unfold_block words calls R k b ∷ []) (C ++ block_count w calls C b ∷ [])
      (agree-more w R C (unfold_block words calls R k b) (block_count w calls C b) a (block-weight R C a k b)) (k + length (block_texts b)) bs

-- THE COUNT of a file is the weight of its expansion
pub file-weight : (w : Weights) (library file : PlainFile) → cut (weight w (items_of library file)) ≡ file_count w library file
file-weight w library file =
    let words = words_of library file in
    let calls = calls_space 0 0 (library.definitions ++ file.definitions) in
    body-weight w words calls _ _
    (blocks-agree w words calls _ _ (blocks-agree w words calls [] [] tt 0 library.definitions) (length (sheet_texts library)) file.definitions)
    [] (own_clocks [] file.lines) (length (sheet_texts library) + length (flat_map block_texts file.definitions)) 0 file.lines

constraints-weight : (names : List (List ℕ)) (xs : List Item) → length (filter_map (constraint_of names) xs) ≡ weight constraint_weights xs
constraints-weight names [] = refl
constraints-weight names (Defines path name σ k e ∷ xs) = omega (arith, constraints-weight names xs)
constraints-weight names (Binds path σ a r b ∷ xs) = grind (arith, common_steps, constraints-weight names xs)

clocks-weight : (xs : List Item) → length (filter_map written_item xs) + length (filter_map hidden_item xs) ≡ weight clock_weights xs
clocks-weight [] = refl
clocks-weight (Defines [] name σ k e ∷ xs) = grind (arith, common_steps, clocks-weight xs)
clocks-weight (Defines (b ∷ bs) name σ k e ∷ xs) = grind (arith, common_steps, clocks-weight xs)
clocks-weight (Binds path σ a r b ∷ xs) = omega (arith, clocks-weight xs)

names-length : (declared : List (List ℕ)) (xs : List Item) → length (names_of declared xs) ≡ length declared + weight clock_weights xs
names-length declared xs =
    let a = length-append (declared ++ map item_name (filter_map written_item xs)) (map item_name (filter_map hidden_item xs)) in
    let b = length-append declared (map item_name (filter_map written_item xs)) in
    let p : length (map item_name (filter_map written_item xs)) ≡ length (filter_map written_item xs) = length-map (filter_map written_item xs) item_name in
    let q : length (map item_name (filter_map hidden_item xs)) ≡ length (filter_map hidden_item xs) = length-map (filter_map hidden_item xs) item_name in
    let r = clocks-weight xs in
    omega arith

cut-sum : (a b c : ℕ) → cut b ≡ c → cut (a + b) ≡ cut (a + c)
cut-sum a b c e = omega arith

-- the two totals that are reported, without the expansion
pub constraints-total : (library file : PlainFile) → cut (length (expand library file).constraints) ≡ file_count constraint_weights library file
constraints-total library file = ap cut (constraints-weight _ (items_of library file)) ∙ file-weight constraint_weights library file

pub clocks-total : (library file : PlainFile) →
    cut (length (expand library file).names) ≡ cut (length (flat_map declared_names file.lines) + file_count clock_weights library file)
clocks-total library file =
    let a : length (expand library file).names ≡ length (flat_map declared_names file.lines) + weight clock_weights (items_of library file) =
    names-length _ (items_of library file) in
    let b = file-weight clock_weights library file in
    ap cut a ∙ cut-sum (length (flat_map declared_names file.lines)) (weight clock_weights (items_of library file)) (file_count clock_weights library file) b
