-- The expansion by numbered definitions is the expansion.
use Rattle.std.proofs.Common.{◌≡◌, ℕ, ◌+◌, List, [], ◌∷◌, ◌++◌, append_assoc, take, map, flat_map, filter_map, length, refl, sym, ap, ◌∙◌}
use Rattle.ccsl_ast.specs.Trees.{SLine, PlainDefinition, DRelation, DGroup, PlainFile}
use Rattle.ccsl_words.specs.Word.{BinaryWord}
use Rattle.ccsl_kernel.specs.Syntax.{System, Body, Expression}
use Rattle.ccsl_kernel.specs.declared.constraint.Constraint.{Constraint}
use Rattle.ccsl_rules.specs.Spaces.{Known, Callee, calls_space}
use Rattle.ccsl_rules.specs.Texts.{block_texts, sheet_texts}
use Rattle.ccsl_rules.specs.Resolved.{Tables}
use Rattle.ccsl_rules.specs.Unfolded.{Item, Unfoldings, unfold_block, unfoldings, unfold_body, own_clocks}
use Rattle.ccsl_rules.specs.Expansion.{groups_of, part_bodies, declared_names, written_item, hidden_item, item_definition, constraint_of, names_of, words_of}
use Rattle.ccsl_rules.specs.Expansion.{items_of, expand}
use Rattle.ccsl_expand.specs.Numbered.{NumberedDefinition, numbered, unfold_all, group_in, numbered_groups}
use Rattle.ccsl_expand.specs.Expanded.{numbered_files, expanded, expanded_texts}

module _ (words : List BinaryWord) (calls : List (Known Callee)) where
  unfoldings-numbered : (R : Unfoldings) (k : ℕ) (bs : List PlainDefinition) → unfoldings words calls R k bs ≡ unfold_all words calls R (numbered k bs)
  unfolding unfold_all
  unfoldings-numbered R k [] = refl
  unfoldings-numbered R k (b ∷ bs) = unfoldings-numbered (R ++ unfold_block words calls R k b ∷ []) (k + length (block_texts b)) bs

  unfold_all-append : (R : Unfoldings) (xs ys : List NumberedDefinition)
      → unfold_all words calls R (xs ++ ys) ≡ unfold_all words calls (unfold_all words calls R xs) ys
  unfolding unfold_all
  unfold_all-append R [] ys = refl
  unfold_all-append R (x ∷ xs) ys = unfold_all-append (R ++ unfold_block words calls R x.start x.definition ∷ []) xs ys

  -- the unfoldings of the library and then of the file
  pub unfoldings-whole : (library file : PlainFile) →
      unfold_all words calls [] (numbered_files library file)
      ≡ unfoldings words calls (unfoldings words calls [] 0 library.definitions) (length (sheet_texts library)) file.definitions
  unfoldings-whole library file =
      let n = length (sheet_texts library) in
      unfold_all-append [] (numbered 0 library.definitions) (numbered n file.definitions)
      ∙ (ap (λ R. unfold_all words calls R (numbered n file.definitions)) (sym (unfoldings-numbered [] 0 library.definitions))
      ∙ sym (unfoldings-numbered (unfoldings words calls [] 0 library.definitions) n file.definitions))

groups-numbered : (K : Tables) (k : ℕ) (bs : List PlainDefinition) → groups_of K k bs ≡ numbered_groups K (numbered k bs)
groups-numbered K k [] = refl
groups-numbered K k (DRelation name params lines ∷ bs) = groups-numbered K (k + length (block_texts (DRelation name params lines))) bs
groups-numbered K k (DGroup members ∷ bs) = ap (λ gs. part_bodies K k members ∷ gs) (groups-numbered K (k + length (block_texts (DGroup members))) bs)

groups-append : (K : Tables) (xs ys : List NumberedDefinition) → numbered_groups K (xs ++ ys) ≡ numbered_groups K xs ++ numbered_groups K ys
groups-append K [] ys = refl
groups-append K (x ∷ xs) ys =
    ap (λ gs. group_in K x.start x.definition ++ gs) (groups-append K xs ys)
    ∙ sym (append_assoc (group_in K x.start x.definition) (numbered_groups K xs) (numbered_groups K ys))

pub groups-whole : (K : Tables) (library file : PlainFile) →
    numbered_groups K (numbered_files library file) ≡ groups_of K 0 library.definitions ++ groups_of K (length (sheet_texts library)) file.definitions
groups-whole K library file =
    let n = length (sheet_texts library) in
    groups-append K (numbered 0 library.definitions) (numbered n file.definitions)
    ∙ (ap (λ gs. gs ++ numbered_groups K (numbered n file.definitions)) (sym (groups-numbered K 0 library.definitions))
    ∙ ap (λ gs. groups_of K 0 library.definitions ++ gs) (sym (groups-numbered K n file.definitions)))

pub take-whole : {X Y : Type 0} (f : X → Y) (xs : List X) → take (length xs) (map f xs) ≡ map f xs
take-whole f [] = refl
take-whole f (x ∷ xs) = ap (λ l. f x ∷ l) (take-whole f xs)

-- a system by its parts
abbrev system_of : List BinaryWord → List (List ℕ) → ℕ → ℕ → List (List Body) → List Expression → List Constraint → System
system_of words names declared written groups definitions constraints =
    record { names = names; declared = declared; written = written; words = words; groups = groups; definitions = definitions; constraints = constraints }

pub parts-whole : (words : List BinaryWord) (calls : List (Known Callee)) (blocks : List NumberedDefinition) (declared : List (List ℕ)) (items : List Item)
    (W : List BinaryWord) (names : List (List ℕ)) (d w : ℕ) (groups : List (List Body)) (definitions : List Expression) (constraints : List Constraint) →
    W ≡ words → names ≡ names_of declared items → d ≡ length declared → w ≡ length declared + length (filter_map written_item items) →
    groups ≡ numbered_groups (record { names = names; words = words; calls = calls }) blocks →
    definitions ≡ map (item_definition (record { names = names; words = words; calls = calls })) (filter_map written_item items ++ filter_map hidden_item items)
    → constraints ≡ filter_map (constraint_of names) items →
    system_of W names d w groups definitions constraints ≡ expanded words calls blocks declared items
parts-whole words calls blocks declared items W names d w groups definitions constraints eW en ed ew eg ef ec = rw (eW, ed, ew, eg, ef, ec, en)

-- the expansion, from what is read
pub expand-whole : (library file : PlainFile) (words : List BinaryWord) (calls : List (Known Callee)) (blocks : List NumberedDefinition) (start : ℕ)
    (lines : List SLine) →
    words ≡ words_of library file → calls ≡ calls_space 0 0 (library.definitions ++ file.definitions) → blocks ≡ numbered_files library file →
    start ≡ length (sheet_texts library) + length (flat_map block_texts file.definitions) → lines ≡ file.lines →
    expanded_texts calls words blocks start lines ≡ expand library file
expand-whole library file words calls blocks start lines ew ec eb es el =
    let W = words_of library file in
    let C = calls_space 0 0 (library.definitions ++ file.definitions) in
    let B = numbered_files library file in
    let S = length (sheet_texts library) + length (flat_map block_texts file.definitions) in
    let declared = flat_map declared_names file.lines in
    let body : Unfoldings → List Item = λ R. unfold_body W C R [] (own_clocks [] file.lines) S 0 file.lines in
    let K : Tables = record { names = names_of declared (items_of library file); words = W; calls = C } in
    rw (el, ew, ec, eb, es)
    (ap (λ R. expanded W C B declared (body R)) (unfoldings-whole W C library file)
    ∙ ap (λ g. record (expand library file) { groups = g }) (groups-whole K library file))
