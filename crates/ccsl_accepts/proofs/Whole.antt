-- A file behind a library, where neither has a fault: its definitions in one space, its words, its unfoldings, and the places of its names.
use Rattle.std.proofs.Common.{◌≡◌, ℕ, zero, suc, ◌+◌, ◌≤◌, List, [], ◌∷◌, ◌++◌, append_assoc, Option, Some, None, true, length, length-append, map, flat_map}
use Rattle.std.proofs.Common.{take, slice_get, filter_map, refl, sym, ap, ap₂, ◌∙◌, subst, arith}
use Rattle.std.specs.List.{AllByRecursion, list_all}
use Rattle.std.proofs.lemmas.Bool.{and_parts}
use Rattle.std.proofs.lemmas.List.{append-nil}
use Rattle.ccsl_base.specs.Name.{is_name}
use Rattle.ccsl_ast.specs.Trees.{LDefine, LConstraint, LCall, SLine, SClocks, SLineOf, PlainDefinition, PlainFile}
use Rattle.ccsl_ast.specs.Kept.{arg_kept, is_two, sline_kept, definition_kept}
use Rattle.ccsl_ast.specs.Depth.{greatest, sline_depth, definition_depth}
use Rattle.ccsl_kernel.specs.Syntax.{Body, System, body_of}
use Rattle.ccsl_kernel.specs.Actuals.{word_or_empty}
use Rattle.ccsl_words.specs.Spelling.{read_word}
use Rattle.ccsl_words.specs.Word.{BinaryWord}
use Rattle.ccsl_rules.specs.Faults.{Fault}
use Rattle.ccsl_rules.specs.Spaces.{Known, Callee, member, look, calls_space, repeated, spots, lines_space}
use Rattle.ccsl_rules.specs.Uses.{Scene}
use Rattle.ccsl_rules.specs.Blocks.{heads, entries_faults, params_faults, body_faults, blocks_faults, faults, first_fault}
use Rattle.ccsl_rules.specs.Texts.{entry_texts, block_texts, sheet_texts}
use Rattle.ccsl_rules.specs.Settings.{Setting, argument_atoms}
use Rattle.ccsl_rules.specs.Resolved.{Tables}
use Rattle.ccsl_rules.specs.Unfolded.{Item, Unfoldings, unfold_line, unfold_entry, unfold_body, unfold_block, unfoldings, call_path, own_clocks}
use Rattle.ccsl_rules.specs.Expansion.{kind_in, groups_of, declared_names, item_name, written_item, words_of, items_of, names_of, expand}
use Rattle.ccsl_rules.proofs.Least.{none-empty}
use Rattle.ccsl_rules.proofs.Guarded.{left-empty, right-empty}
use Rattle.ccsl_rules.proofs.Known.{AreAt, at-left, at-right}
use Rattle.ccsl_rules.proofs.Rising.{nowhere, Ready}
use Rattle.ccsl_rules.proofs.Ready.{AreThere, none-ready, blocks-ready}
use Rattle.ccsl_rules.proofs.There.{space-there}
use Rattle.ccsl_rules.proofs.Bodies.{groups-match, match-append, bodies-there}
use Rattle.ccsl_accepts.specs.Acceptance.{IsFile, IsLibrary, empty}
use Rattle.ccsl_accepts.proofs.Joined.{heights_of, blocks-joined}
use Rattle.ccsl_accepts.proofs.HiddenNames.{first-path}
use Rattle.ccsl_accepts.proofs.Sound.{Sound, Veiled, Safe, safe-call, blocks-safe, body-sound}
use Rattle.ccsl_accepts.proofs.Placing.{map-append, filter-append, hidden_names, written_names, Stand, none-written, Good, stand-room}
use Rattle.ccsl_accepts.proofs.OwnLines.{defined_names, Counts, lines-aligned, body-good}

-- ## Words

get-behind : (front rest : List BinaryWord) (w : BinaryWord) → slice_get (front ++ (w ∷ rest)) (length front) ≡ Some w
get-behind [] rest w = refl
get-behind (x ∷ front) rest w = get-behind front rest w

word-at : (t : List ℕ) (v : BinaryWord) → read_word t ≡ Some v → word_or_empty (read_word t) ≡ v
word-at t v e = ap word_or_empty e

all-at : (K : Tables) (front : List BinaryWord) (ts : List (List ℕ)) → K.words ≡ front ++ map (λ t. word_or_empty (read_word t)) ts
    → AreAt [] 0 [] K (nowhere [] K) [] (length front) ts
all-at K front [] e = tt
all-at K front (t ∷ ts) e =
    let w = word_or_empty (read_word t) in
    let rest : List BinaryWord = map (λ t. word_or_empty (read_word t)) ts in
    let up : length (front ++ w ∷ []) ≡ suc (length front) =
    length-append front (w ∷ []) ∙ (let z : length front + 1 ≡ suc (length front) = omega arith in z) in (
      (λ v r. ap (λ ws. slice_get ws (length front)) e ∙ get-behind front rest w ∙ ap Some (word-at t v r)),
      subst (λ n. AreAt [] 0 [] K (nowhere [] K) [] n ts) up (all-at K (front ++ w ∷ []) ts (e ∙ sym (append_assoc front (w ∷ []) rest))),
    )

-- ## Definitions of two lists

pub unfoldings-length : (words : List BinaryWord) (calls : List (Known Callee)) (R : Unfoldings) (k : ℕ) (bs : List PlainDefinition)
    → length (unfoldings words calls R k bs) ≡ length R + length bs
unfoldings-length words calls R k [] = omega arith
unfoldings-length words calls R k (b ∷ bs) =
    let a = length-append R (unfold_block words calls R k b ∷ []) in
    let r = unfoldings-length words calls (R ++ unfold_block words calls R k b ∷ []) (k + length (block_texts b)) bs in
    omega arith

pub there-left : (groups : List (List Body)) (K : Tables) (home : ℕ) (bs cs : List PlainDefinition) → AreThere groups K home (bs ++ cs)
    → AreThere groups K home bs
there-left groups K home [] cs a = tt
there-left groups K home (b ∷ bs) cs a = (a.0, there-left groups K (home + 1) bs cs a.1)

pub there-right : (groups : List (List Body)) (K : Tables) (home : ℕ) (bs cs : List PlainDefinition) → AreThere groups K home (bs ++ cs)
    → AreThere groups K (home + length bs) cs
there-right groups K home [] cs a = let z : home ≡ home + 0 = omega arith in subst (λ n. AreThere groups K n cs) z a
there-right groups K home (b ∷ bs) cs a =
    let z : home + 1 + length bs ≡ home + suc (length bs) = omega arith in subst (λ n. AreThere groups K n cs) z (there-right groups K (home + 1) bs cs a.1)

-- ## The count of definitions up to a line

abbrev defs : ℕ → List SLine → ℕ
defs n es = length (flat_map defined_names (take n es))

defs-zero : (es : List SLine) → defs 0 es ≡ 0
defs-zero [] = refl
defs-zero (e ∷ es) = refl

defs-suc : (e : SLine) (es : List SLine) (n : ℕ) → defs (suc n) (e ∷ es) ≡ length (defined_names e) + defs n es
defs-suc e es n = length-append (defined_names e) (flat_map defined_names (take n es))

defs-mono : (es : List SLine) (a b : ℕ) → a ≤ b → defs a es ≤ defs b es
defs-mono es zero b h = let z = defs-zero es in omega arith
defs-mono es (suc a) zero h = absurd (omega arith)
defs-mono [] (suc a) (suc b) h = omega arith
defs-mono (e ∷ es) (suc a) (suc b) h = let p = defs-suc e es a in let q = defs-suc e es b in let r = defs-mono es a b (omega arith) in omega arith

counts-of : (groups : List (List Body)) (K : Tables) (Xat : ℕ → ℕ) (i : ℕ) (es : List SLine) → ((n : ℕ) → Xat (i + n) ≡ Xat i + defs n es)
    → Counts groups K Xat i es
counts-of groups K Xat i [] f = tt
counts-of groups K Xat i (e ∷ es) f =
    let one = f 1 in
    let p = defs-suc e es 0 in
    let z = defs-zero es in
    let here : Xat (i + 1) ≡ Xat i + length (defined_names e) = omega arith in (
      here,
      counts-of groups K Xat (i + 1) es (λ n.
          let q = f (suc n) in
          let r = defs-suc e es n in
          let s : Xat (i + 1 + n) ≡ Xat (i + suc n) = ap Xat (let t : i + 1 + n ≡ i + suc n = omega arith in t) in
          omega arith),
    )

module _ (library file : PlainFile) (lib : IsLibrary library) (is : IsFile file) (none : first_fault library file ≡ None) where
  abbrev pub blocks : List PlainDefinition
  blocks = library.definitions ++ file.definitions

  abbrev pub calls : List (Known Callee)
  calls = calls_space 0 0 blocks

  abbrev pub names : List (List ℕ)
  names = names_of (flat_map declared_names file.lines) (items_of library file)

  abbrev pub tables : Tables
  tables = record { names = names; words = words_of library file; calls = calls }

  -- the numbers of the first texts of the file's definitions, and of its system
  abbrev pub first_text : ℕ
  first_text = length (sheet_texts library)

  abbrev pub system_text : ℕ
  system_text = length (sheet_texts library) + length (flat_map block_texts file.definitions)

  abbrev pub groups : List (List Body)
  groups = groups_of tables 0 library.definitions ++ groups_of tables first_text file.definitions

  abbrev pub R : Unfoldings
  R = unfoldings tables.words calls (unfoldings tables.words calls [] 0 library.definitions) first_text file.definitions

  -- ## No fault

  none-faults : faults library file ≡ []
  none-faults = none-empty (faults library file) none

  pub library-faults : blocks_faults calls (heights_of blocks) 0 library.definitions ≡ []
  library-faults = blocks-joined library.definitions file.definitions alone where
    unrefused : (o : Option Fault) (K : System) → Rattle.ccsl_rules.specs.Elaborated.refusal_with o K ≡ None → o ≡ None
    unrefused None K e = refl
    unrefused (Some f) K e = absurd (cc)

    alone : blocks_faults (calls_space 0 0 library.definitions) (heights_of library.definitions) 0 library.definitions ≡ []
    alone =
        let e = none-empty (faults empty library) (unrefused (first_fault empty library) (expand empty library) lib.accepted) in
        right-empty (repeated [] (flat_map heads library.definitions)) _
        (left-empty (repeated [] (flat_map heads library.definitions)
        ++ blocks_faults (calls_space 0 0 library.definitions) (heights_of library.definitions) 0 library.definitions) _ e)

  pub file-faults : blocks_faults calls (heights_of blocks) (length library.definitions) file.definitions ≡ []
  file-faults = right-empty (repeated (map (λ s. s.name) (flat_map heads library.definitions)) (flat_map heads file.definitions)) _
      (left-empty (repeated (map (λ s. s.name) (flat_map heads library.definitions)) (flat_map heads file.definitions)
      ++ blocks_faults calls (heights_of blocks) (length library.definitions) file.definitions) _ none-faults)

  system-faults : body_faults calls (length blocks) [] [] file.lines ≡ []
  system-faults =
      right-empty (repeated (map (λ s. s.name) (flat_map heads library.definitions)) (flat_map heads file.definitions)
      ++ blocks_faults calls (heights_of blocks) (length library.definitions) file.definitions) _ none-faults

  abbrev pub scene : Scene
  scene = record { locals = lines_space 0 file.lines; line = 0; calls = calls; home = length blocks; levels = [] }

  pub lines-faults : entries_faults scene 0 file.lines ≡ []
  lines-faults = right-empty (params_faults [] ++ repeated [] (spots (lines_space 0 file.lines))) _ system-faults

  pub once-declared : repeated [] (spots (lines_space 0 file.lines)) ≡ []
  once-declared = right-empty (params_faults []) _ (left-empty (params_faults [] ++ repeated [] (spots (lines_space 0 file.lines))) _ system-faults)

  -- ## Texts

  abbrev Texts : ℕ → List (List ℕ) → Type 0
  Texts k ts = AreAt [] 0 [] tables (nowhere [] tables) [] k ts

  all-texts : Texts 0 (sheet_texts library ++ sheet_texts file)
  all-texts = all-at tables [] (sheet_texts library ++ sheet_texts file) refl

  pub library-texts : Texts 0 (flat_map block_texts library.definitions)
  library-texts = at-left [] 0 [] tables (nowhere [] tables) [] 0 (flat_map block_texts library.definitions) (flat_map entry_texts library.lines)
      (at-left [] 0 [] tables (nowhere [] tables) [] 0 (sheet_texts library) (sheet_texts file) all-texts)

  file-texts : Texts first_text (sheet_texts file)
  file-texts =
      let z : 0 + length (sheet_texts library) ≡ length (sheet_texts library) = omega arith in
      subst (λ n. Texts n (sheet_texts file)) z (at-right [] 0 [] tables (nowhere [] tables) [] 0 (sheet_texts library) (sheet_texts file) all-texts)

  pub definition-texts : Texts first_text (flat_map block_texts file.definitions)
  definition-texts = at-left [] 0 [] tables (nowhere [] tables) [] first_text (flat_map block_texts file.definitions) (flat_map entry_texts file.lines)
      file-texts

  pub line-texts : Texts system_text (flat_map entry_texts file.lines)
  line-texts = at-right [] 0 [] tables (nowhere [] tables) [] first_text (flat_map block_texts file.definitions) (flat_map entry_texts file.lines) file-texts

  -- ## What is called

  pub bodies : (name : List ℕ) (c : Known Callee) (g m : ℕ) → look name calls ≡ Some c → c.what.role ≡ member g m →
      (b : Body) × (body_of groups g m ≡ Some b) × (b.params ≡ map (λ p. kind_in p.kind) c.what.params)
  bodies = bodies-there tables blocks groups refl
      (match-append library.definitions file.definitions (groups_of tables 0 library.definitions) (groups_of tables first_text file.definitions)
      (groups-match tables 0 library.definitions) (groups-match tables first_text file.definitions))

  pub ready : Ready groups tables R
  ready =
      let there = space-there groups tables blocks refl in
      let first = blocks-ready groups tables (heights_of blocks) [] (none-ready groups tables bodies) 0 0 refl library.definitions
      (there-left groups tables 0 library.definitions file.definitions there) library-texts library-faults in
      let long : length (unfoldings tables.words calls [] 0 library.definitions) ≡ length library.definitions =
      unfoldings-length tables.words calls [] 0 library.definitions
      ∙ (let z : 0 + length library.definitions ≡ length library.definitions = omega arith in z) in
      let z : 0 + length library.definitions ≡ length library.definitions = omega arith in
      blocks-ready groups tables (heights_of blocks) (unfoldings tables.words calls [] 0 library.definitions) first first_text (length library.definitions) long
      file.definitions
      (subst (λ n. AreThere groups tables n file.definitions) z (there-right groups tables 0 library.definitions file.definitions there)) definition-texts
      file-faults

  -- ## What files keep

  pub kept-definitions : (f : PlainFile) → IsFile f → list_all (definition_kept (is_two f)) f.definitions ≡ true
  kept-definitions f k = (and_parts (list_all (definition_kept (is_two f)) f.definitions) (list_all (sline_kept (is_two f)) f.lines) (and_parts _ _ k.kept).1).0

  pub kept-lines : list_all (sline_kept (is_two file)) file.lines ≡ true
  kept-lines = (and_parts (list_all (definition_kept (is_two file)) file.definitions) (list_all (sline_kept (is_two file)) file.lines)
      (and_parts _ _ is.kept).1).1

  pub depth-definitions : (f : PlainFile) → IsFile f → greatest (map definition_depth f.definitions) ≤ 128
  depth-definitions f k = let d = k.depth in omega arith

  depth-lines : greatest (map sline_depth file.lines) ≤ 128
  depth-lines = let d = is.depth in omega arith

  pub safe : AllByRecursion (Safe tables blocks refl) R
  safe =
      blocks-safe tables blocks refl (is_two file) (heights_of blocks) (unfoldings tables.words calls [] 0 library.definitions)
      (blocks-safe tables blocks refl (is_two library) (heights_of blocks) [] tt 0 0 library.definitions library-faults (kept-definitions library lib.file)
      (depth-definitions library lib.file))
      first_text (length library.definitions) file.definitions file-faults (kept-definitions file is) (depth-definitions file is)

  -- ## The items of the system

  abbrev pub setting : Setting
  setting = own_clocks [] file.lines

  abbrev pub items : List Item
  items = unfold_body tables.words calls R [] setting system_text 0 file.lines

  pub sound : AllByRecursion (Sound tables blocks refl) items
  sound = body-sound tables blocks refl R safe (is_two file) scene refl setting system_text 0 file.lines lines-faults kept-lines depth-lines

  entry-names : (k i : ℕ) (e : SLine) → sline_kept (is_two file) e ≡ true → written_names (unfold_entry tables.words calls R [] setting k i e) ≡ defined_names e
  entry-names k i (SClocks ns) kept = refl
  entry-names k i (SLineOf (LDefine s e)) kept = refl
  entry-names k i (SLineOf (LConstraint a r b)) kept = refl
  entry-names k i (SLineOf (LCall s args)) kept =
      let name = (and_parts (is_name s.name) (list_all arg_kept args) kept).0 in
      let xs = unfold_line tables.words calls R [] setting k i (LCall s args) in
      let veiled : AllByRecursion (Veiled tables blocks refl) xs =
      safe-call tables blocks refl R safe (look s.name calls) (call_path [] s.name i) (argument_atoms tables.words setting k args)
      (first-path s.name i name) in
      ap (map item_name) (none-written tables blocks refl groups xs veiled)

  lines-names : (k i : ℕ) (es : List SLine) → list_all (sline_kept (is_two file)) es ≡ true
      → written_names (unfold_body tables.words calls R [] setting k i es) ≡ flat_map defined_names es
  lines-names k i [] kept = refl
  lines-names k i (e ∷ es) kept =
      let w = and_parts (sline_kept (is_two file) e) (list_all (sline_kept (is_two file)) es) kept in
      let here = unfold_entry tables.words calls R [] setting k i e in
      let rest = unfold_body tables.words calls R [] setting (k + length (entry_texts e)) (i + 1) es in
      ap (map item_name) (filter-append written_item here rest) ∙ map-append item_name (filter_map written_item here) (filter_map written_item rest)
      ∙ ap₂ (λ a b. a ++ b) (entry-names k i e w.0) (lines-names (k + length (entry_texts e)) (i + 1) es w.1)

  pub all-written : written_names items ≡ flat_map defined_names file.lines
  all-written = lines-names system_text 0 file.lines kept-lines

  -- ## Where the names stand

  abbrev pub declared : List (List ℕ)
  declared = flat_map declared_names file.lines

  pub three-parts : names ≡ declared ++ (written_names items ++ hidden_names items)
  three-parts = append_assoc declared (written_names items) (hidden_names items)

  declared-stand : Stand tables 0 declared
  declared-stand = record { front = []; back = written_names items ++ hidden_names items; whole = three-parts; long = refl }

  written-stand : Stand tables (length declared) (flat_map defined_names file.lines)
  written-stand = record {
    front = declared;
    back = hidden_names items;
    whole =
        three-parts ∙ ap (λ ns. declared ++ (ns ++ hidden_names items)) all-written;
    long = refl;
  }

  abbrev pub count : ℕ
  count = length declared + length (flat_map defined_names file.lines)

  hidden-stand : Stand tables count (hidden_names items)
  hidden-stand = record {
    front = declared ++ written_names items;
    back = [];
    whole = ap (λ l. (declared ++ written_names items) ++ l) (sym (append-nil (hidden_names items)));
    long = length-append declared (written_names items) ∙ ap (λ ns. length declared + length ns) all-written;
  }

  -- the number of the clock that the next definition defines, from a line on
  abbrev Xat : ℕ → ℕ
  Xat n = length declared + defs n file.lines

  Xat-zero : Xat 0 ≡ length declared
  Xat-zero = let z = defs-zero file.lines in omega arith

  counts : Counts groups tables Xat 0 file.lines
  counts = counts-of groups tables Xat 0 file.lines (λ n.
      let z = defs-zero file.lines in
      let s : defs (0 + n) file.lines ≡ defs n file.lines = ap (λ m. defs m file.lines) (let t : 0 + n ≡ n = omega arith in t) in
      omega arith)

  mono : (a b : ℕ) → a ≤ b → Xat a ≤ Xat b
  mono a b h = let r = defs-mono file.lines a b h in omega arith

  -- THE ITEMS: written definitions from the declared clocks on, hidden ones behind these, and constraints between named clocks
  pub good : Good tables blocks refl groups (length declared) count items
  good =
      let first = Xat-zero in
      let room = stand-room tables count (hidden_names items) hidden-stand in
      let none : Stand tables 0 declared = declared-stand in
      let own = lines-aligned groups tables Xat 0 0 file.lines counts none (omega arith)
      (subst (λ n. Stand tables n (flat_map defined_names file.lines)) (sym first) written-stand) in
      subst (λ X. Good tables blocks refl groups X count items) first
      (body-good groups tables Xat blocks refl R ready safe (is_two file) (length blocks) (lines_space 0 file.lines) setting mono own 0 system_text count
      file.lines counts (omega arith) line-texts lines-faults kept-lines (omega arith) hidden-stand)
