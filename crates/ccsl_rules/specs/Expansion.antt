-- THE EXPANSION of a file behind a library.
use Rattle.std.specs.Prelude.{ℕ, ◌+◌, List, [], ◌∷◌, ◌++◌, length, map, flat_map, filter_map, Option, Some, None}
use Rattle.ccsl_ast.specs.declared.definition.Param.{Param}
use Rattle.ccsl_ast.specs.declared.definition.Kind.{Kind}
use Rattle.ccsl_ast.specs.declared.definition.Kind.TheVariants as kind
use Rattle.ccsl_ast.specs.declared.line.Relation.{Relation}
use Rattle.ccsl_ast.specs.declared.line.Relation.TheVariants as rel
use Rattle.ccsl_ast.specs.Trees.{SLine, SClocks, SLineOf, PlainMember, PlainDefinition, DRelation, DGroup, PlainFile}
use Rattle.ccsl_kernel.specs.declared.group.ParamKind.{ParamKind}
use Rattle.ccsl_kernel.specs.declared.group.ParamKind.TheVariants as takes
use Rattle.ccsl_kernel.specs.declared.constraint.RelationKind.{RelationKind}
use Rattle.ccsl_kernel.specs.declared.constraint.RelationKind.TheVariants as does
use Rattle.ccsl_kernel.specs.declared.constraint.Constraint.{Constraint}
use Rattle.ccsl_kernel.specs.Syntax as kernel
use Rattle.ccsl_kernel.specs.Syntax.{Body, System}
use Rattle.ccsl_words.specs.Spelling.{read_word}
use Rattle.ccsl_words.specs.Word.{BinaryWord}
use Rattle.ccsl_kernel.specs.Actuals.{word_or_empty}
use Rattle.ccsl_rules.specs.Spaces.{calls_space}
use Rattle.ccsl_rules.specs.Settings.{Atom, AClock, AParam, Setting, atom_of}
use Rattle.ccsl_rules.specs.Texts.{texts, block_texts, sheet_texts}
use Rattle.ccsl_rules.specs.Resolved.{Tables, clock_number, resolve}
use Rattle.ccsl_rules.specs.Unfolded.{Item, Defines, Binds, unfoldings, unfold_body, own_clocks}

-- the words: those of the library's texts and then of the file's
abbrev pub words_of : PlainFile → PlainFile → List BinaryWord
words_of library file = map (λ t. word_or_empty (read_word t)) (sheet_texts library ++ sheet_texts file)

-- THE GROUPS
abbrev pub kind_in : Kind → ParamKind
kind_in kind.Clock = takes.Clock
kind_in kind.Number = takes.Number
kind_in kind.Word = takes.Word

abbrev pub own_params : ℕ → List Param → Setting
own_params i [] = []
own_params i (p ∷ ps) = (p.name.name, AParam i p.kind) ∷ own_params (i + 1) ps

abbrev pub part_body : Tables → ℕ → PlainMember → Body
part_body K k m = record { params = map (λ p. kind_in p.kind) m.params; root = resolve K (own_params 0 m.params) k m.body }

abbrev pub part_bodies : Tables → ℕ → List PlainMember → List Body
part_bodies K k [] = []
part_bodies K k (m ∷ ms) = part_body K k m ∷ part_bodies K (k + length (texts m.body)) ms

abbrev pub groups_of : Tables → ℕ → List PlainDefinition → List (List Body)
groups_of K k [] = []
groups_of K k (DRelation name params lines ∷ bs) = groups_of K (k + length (block_texts (DRelation name params lines))) bs
groups_of K k (DGroup members ∷ bs) = part_bodies K k members ∷ groups_of K (k + length (block_texts (DGroup members))) bs

-- THE CLOCKS
abbrev pub declared_names : SLine → List (List ℕ)
declared_names (SClocks names) = map (λ s. s.name) names
declared_names (SLineOf l) = []

-- a clock that the system defines, and one that a relation hides
abbrev pub written_item : Item → Option Item
written_item (Defines [] name σ k e) = Some (Defines [] name σ k e)
written_item _ = None

abbrev pub hidden_item : Item → Option Item
hidden_item (Defines (b ∷ bs) name σ k e) = Some (Defines (b ∷ bs) name σ k e)
hidden_item _ = None

abbrev pub item_name : Item → List ℕ
item_name (Defines path name σ k e) = name
item_name (Binds path σ a r b) = []

abbrev pub item_definition : Tables → Item → kernel.Expression
item_definition K (Defines path name σ k e) = resolve K σ k e
item_definition K (Binds path σ a r b) = kernel.ENever

-- THE CONSTRAINTS
abbrev pub relation_in : Relation → RelationKind
relation_in rel.Subclock = does.Subclock
relation_in rel.Coincides = does.Coincides
relation_in rel.Excludes = does.Excludes
relation_in rel.Precedes = does.Precedes
relation_in rel.PrecedesWeakly = does.PrecedesWeakly
relation_in (rel.PrecedesWithin at m) = does.PrecedesWithin m

abbrev pub clock_in : List (List ℕ) → Atom → ℕ
clock_in names (AClock name) = clock_number names name
clock_in names _ = 0

abbrev pub constraint_of : List (List ℕ) → Item → Option Constraint
constraint_of names (Defines path name σ k e) = None
constraint_of names (Binds path σ a r b) =
    Some (record { kind = relation_in r; left = clock_in names (atom_of σ a); right = clock_in names (atom_of σ b); label = path })

-- THE ITEMS of the system's own lines, calls replaced by bodies
abbrev pub items_of : PlainFile → PlainFile → List Item
items_of library file =
    let words = words_of library file in
    let calls = calls_space 0 0 (library.definitions ++ file.definitions) in
    unfold_body words calls
    (unfoldings words calls (unfoldings words calls [] 0 library.definitions) (length (sheet_texts library)) file.definitions)
    [] (own_clocks [] file.lines)
    (length (sheet_texts library) + length (flat_map block_texts file.definitions)) 0 file.lines

abbrev pub expansion_of : List (List ℕ) → List Item → List (List ℕ) → List BinaryWord → PlainFile → PlainFile → System
expansion_of declared items names words library file =
    let written = filter_map written_item items in
    let hidden = filter_map hidden_item items in
    let K : Tables = record { names = names; words = words; calls = calls_space 0 0 (library.definitions ++ file.definitions) } in
    record {
      names = names;
      declared = length declared;
      written = length declared + length written;
      words = words;
      groups = groups_of K 0 library.definitions ++ groups_of K (length (sheet_texts library)) file.definitions;
      definitions = map (item_definition K) (written ++ hidden);
      constraints = filter_map (constraint_of names) items;
    }

-- the names: declared, defined by the system, hidden
abbrev pub names_of : List (List ℕ) → List Item → List (List ℕ)
names_of declared items = declared ++ map item_name (filter_map written_item items) ++ map item_name (filter_map hidden_item items)

abbrev pub expand : PlainFile → PlainFile → System
expand library file =
    let declared = flat_map declared_names file.lines in
    let items = items_of library file in
    expansion_of declared items (names_of declared items) (words_of library file) library file
