-- WHAT IS NOT REFUSED EXPANDS TO AN ACCEPTED SYSTEM.
use Rattle.std.proofs.Common.{◌≡◌, ℕ, suc, ◌+◌, ◌≤◌, List, [], ◌∷◌, ◌++◌, Option, Some, None, Bool, true, false, cond, nat_lt, length, length-append, map}
use Rattle.std.proofs.Common.{flat_map, filter_map, refl, sym, ap, ◌∙◌, subst, arith, if◌then◌else◌, lt-ltb}
use Rattle.std.specs.Prelude.{All, IsTrue}
use Rattle.std.specs.List.{AllByRecursion, list_all}
use Rattle.std.proofs.lemmas.Bool.{and_parts, and_from}
use Rattle.std.proofs.lemmas.List.Folds.{list_all-append}
use Rattle.std.proofs.lemmas.List.{append-nil}
use Rattle.std.proofs.lemmas.Bool.Decides.{nat_tests}
use Rattle.ccsl_base.specs.Name.{is_name}
use Rattle.ccsl_base.specs.declared.limits.TheConstants.{MAX_CLOCKS, MAX_CONSTRAINTS, MAX_CELLS}
use Rattle.ccsl_ast.specs.declared.spot.Spot.{Spot}
use Rattle.ccsl_ast.specs.Trees.{SLine, SClocks, SLineOf, PlainDefinition, DRelation, DGroup, PlainFile}
use Rattle.ccsl_ast.specs.Kept.{is_two, has_member, spot_kept, sline_kept}
use Rattle.ccsl_kernel.specs.Syntax.{System}
use Rattle.ccsl_kernel.specs.Cells.{cells}
use Rattle.ccsl_kernel.specs.Accepted.{Each, IsBody, IsDefinition, IsConstraint, IsAccepted, is_hidden, group_levels}
use Rattle.ccsl_rules.specs.Faults.{Fault}
use Rattle.ccsl_rules.specs.Spaces.{calls_space}
use Rattle.ccsl_rules.specs.Blocks.{first_fault}
use Rattle.ccsl_rules.specs.Elaborated.{totals_refusal, refusal_with}
use Rattle.ccsl_rules.specs.Resolved.{Tables}
use Rattle.ccsl_rules.specs.Texts.{block_texts}
use Rattle.ccsl_rules.specs.Unfolded.{Item, Defines, Binds}
use Rattle.ccsl_rules.specs.Expansion.{groups_of, declared_names, item_name, item_definition, written_item, hidden_item, expand}
use Rattle.ccsl_rules.proofs.Ordered.{groups_in}
use Rattle.ccsl_accepts.specs.Acceptance.{IsFile, IsLibrary, FilesExpand}
use Rattle.ccsl_accepts.proofs.Lists.{all-listed, each-append}
use Rattle.ccsl_accepts.proofs.GroupBodies.{groups-bodies}
use Rattle.ccsl_accepts.proofs.GroupHeights.{none-tall, advance, group_levels-append}
use Rattle.ccsl_accepts.proofs.Joined.{heights_of}
use Rattle.ccsl_accepts.proofs.Sound.{Sound}
use Rattle.ccsl_accepts.proofs.Placing.{map-append, hidden_names, written_names, bound-constraints, written-definitions, hidden-definitions}
use Rattle.ccsl_accepts.proofs.Whole as whole
use Rattle.ccsl_base.proofs.Cases.{not-less}

-- ## Totals

not-over : {X : Type 0} (b : Bool) (x : X) (r : Option X) → (if b then Some x else r) ≡ None → (b ≡ false) × (r ≡ None)
not-over true x r e = absurd (cc)
not-over false x r e = (refl, e)

record AreFew (K : System) : Type 0 where
  clocks : length K.names ≤ MAX_CLOCKS
  constraints : length K.constraints ≤ MAX_CONSTRAINTS
  cells : cells K ≤ MAX_CELLS

few : (K : System) → totals_refusal K ≡ None → AreFew K
few K e =
    let a = not-over (nat_lt MAX_CLOCKS (length K.names)) _ _ e in
    let b = not-over (nat_lt MAX_CONSTRAINTS (length K.constraints)) _ _ a.1 in
    let c = not-over (nat_lt MAX_CELLS (cells K)) _ _ b.1 in
    record {
      clocks = not-less MAX_CLOCKS (length K.names) a.0;
      constraints = not-less MAX_CONSTRAINTS (length K.constraints) b.0;
      cells =
          not-less MAX_CELLS (cells K) c.0;
    }

unrefused : (o : Option Fault) (K : System) → refusal_with o K ≡ None → (o ≡ None) × (totals_refusal K ≡ None)
unrefused None K e = (refl, e)
unrefused (Some f) K e = absurd (cc)

-- ## Names

abbrev Named : ℕ → ℕ → List ℕ → Type 0
Named written i name = IsTrue (if nat_lt i written then is_name name else is_hidden name)

front-named : (written i : ℕ) (ns : List (List ℕ)) → i + length ns ≤ written → list_all is_name ns ≡ true → Each (Named written) i ns
front-named written i [] l h = tt
front-named written i (n ∷ ns) l h =
    let w = and_parts (is_name n) (list_all is_name ns) h in
    (ap (λ t. cond t (is_name n) (is_hidden n)) (lt-ltb i written (omega arith)) ∙ w.0, front-named written (suc i) ns (omega arith) w.1)

back-named : (written i : ℕ) (ns : List (List ℕ)) → written ≤ i → list_all is_hidden ns ≡ true → Each (Named written) i ns
back-named written i [] l h = tt
back-named written i (n ∷ ns) l h =
    let w = and_parts (is_hidden n) (list_all is_hidden ns) h in
    let past : nat_lt i written ≡ false = grind (arith, nat_tests) in
    (ap (λ t. cond t (is_name n) (is_hidden n)) past ∙ w.0, back-named written (suc i) ns (omega arith) w.1)

spots-named : (ss : List Spot) → list_all spot_kept ss ≡ true → list_all is_name (map (λ s. s.name) ss) ≡ true
spots-named [] h = refl
spots-named (s ∷ ss) h = let w = and_parts (is_name s.name) (list_all spot_kept ss) h in and_from (is_name s.name) _ w.0 (spots-named ss w.1)

pub declared-named : (two : Bool) (es : List SLine) → list_all (sline_kept two) es ≡ true → list_all is_name (flat_map declared_names es) ≡ true
declared-named two [] h = refl
declared-named two (SClocks ss ∷ es) h =
    let w = and_parts (sline_kept two (SClocks ss)) (list_all (sline_kept two) es) h in
    let v = and_parts (has_member ss) (list_all spot_kept ss) w.0 in
    list_all-append is_name (map (λ s. s.name) ss) (flat_map declared_names es) ∙ and_from _ _ (spots-named ss v.1) (declared-named two es w.1)
declared-named two (SLineOf l ∷ es) h = declared-named two es (and_parts (sline_kept two (SLineOf l)) (list_all (sline_kept two) es) h).1

pub written-named : (K : Tables) (blocks : List PlainDefinition) (calls : K.calls ≡ calls_space 0 0 blocks) (xs : List Item)
    → AllByRecursion (Sound K blocks calls) xs → list_all is_name (written_names xs) ≡ true
written-named K blocks calls [] s = refl
written-named K blocks calls (Defines [] name σ k e ∷ xs) s = and_from (is_name name) _ s.0.1 (written-named K blocks calls xs s.1)
written-named K blocks calls (Defines (b ∷ bs) name σ k e ∷ xs) s = written-named K blocks calls xs s.1
written-named K blocks calls (Binds path σ a r b ∷ xs) s = written-named K blocks calls xs s.1

pub hidden-named : (K : Tables) (blocks : List PlainDefinition) (calls : K.calls ≡ calls_space 0 0 blocks) (xs : List Item)
    → AllByRecursion (Sound K blocks calls) xs → list_all is_hidden (hidden_names xs) ≡ true
hidden-named K blocks calls [] s = refl
hidden-named K blocks calls (Defines [] name σ k e ∷ xs) s = hidden-named K blocks calls xs s.1
hidden-named K blocks calls (Defines (b ∷ bs) name σ k e ∷ xs) s = and_from (is_hidden name) _ s.0.1 (hidden-named K blocks calls xs s.1)
hidden-named K blocks calls (Binds path σ a r b ∷ xs) s = hidden-named K blocks calls xs s.1

-- ## Groups

groups-length : (K : Tables) (k : ℕ) (bs cs : List PlainDefinition) → length (groups_of K k bs) ≡ groups_in (length bs) (bs ++ cs)
groups-length K k [] cs = refl
groups-length K k (DRelation name params lines ∷ bs) cs = groups-length K (k + length (block_texts (DRelation name params lines))) bs cs
groups-length K k (DGroup members ∷ bs) cs = ap suc (groups-length K (k + length (block_texts (DGroup members))) bs cs)

groups-whole : (K : Tables) (j k : ℕ) (bs cs : List PlainDefinition) → length (groups_of K j bs ++ groups_of K k cs) ≡ groups_in (length (bs ++ cs)) (bs ++ cs)
groups-whole K j k [] cs = groups-length K k cs [] ∙ ap (groups_in (length cs)) (append-nil cs)
groups-whole K j k (DRelation name params lines ∷ bs) cs = groups-whole K (j + length (block_texts (DRelation name params lines))) k bs cs
groups-whole K j k (DGroup members ∷ bs) cs = ap suc (groups-whole K (j + length (block_texts (DGroup members))) k bs cs)

map-long : {X Y : Type 0} (f : X → Y) (xs : List X) → length (map f xs) ≡ length xs
map-long f [] = refl
map-long f (x ∷ xs) = ap suc (map-long f xs)

module _ (library file : PlainFile) (lib : IsLibrary library) (is : IsFile file) (none : first_fault library file ≡ None) where
  abbrev system : System
  system = expand library file

  abbrev K : Tables
  K = whole.tables library file lib is none

  abbrev blocks : List PlainDefinition
  blocks = whole.blocks library file lib is none

  at-end : blocks ≡ library.definitions ++ (file.definitions ++ [])
  at-end = ap (λ bs. library.definitions ++ bs) (sym (append-nil file.definitions))

  first-groups : length (groups_of K 0 library.definitions) ≡ groups_in (length library.definitions) blocks
  first-groups = groups-length K 0 library.definitions file.definitions

  many-groups : length system.groups ≡ groups_in (length blocks) blocks
  many-groups = groups-whole K 0 (whole.first_text library file lib is none) library.definitions file.definitions

  group-bodies : Each (λ g members. All (IsBody system g) members) 0 system.groups
  group-bodies =
      let bodies = whole.bodies library file lib is none in
      let first = groups-bodies K system blocks refl refl bodies (heights_of blocks) 0 0 [] library.definitions refl file.definitions refl
      (whole.library-faults library file lib is none)
      (whole.library-texts library file lib is none) (whole.depth-definitions library file lib is none library lib.file) in
      let second = groups-bodies K system blocks refl refl bodies (heights_of blocks) (length library.definitions) (whole.first_text library file lib is none)
      library.definitions file.definitions refl [] at-end
      (whole.file-faults library file lib is none) (whole.definition-texts library file lib is none)
      (whole.depth-definitions library file lib is none file is) in
      let start : groups_in (length library.definitions) blocks ≡ 0 + length (groups_of K 0 library.definitions) = (let f = first-groups in omega arith) in
      each-append (λ g members. All (IsBody system g) members) 0 (groups_of K 0 library.definitions)
      (groups_of K (whole.first_text library file lib is none) file.definitions) first
      (subst (λ n. Each (λ g members. All (IsBody system g) members) n (groups_of K (whole.first_text library file lib is none) file.definitions)) start second)

  group-heights : All (λ n. n ≤ 8) (group_levels [] system.groups)
  group-heights =
      let heights = heights_of blocks in
      let first = advance K blocks refl heights refl 0 [] library.definitions file.definitions [] refl (none-tall K blocks refl)
      (whole.library-faults library file lib is none) in
      let tall = group_levels [] (groups_of K 0 library.definitions) in
      let second = advance K blocks refl heights refl (whole.first_text library file lib is none) library.definitions file.definitions [] tall at-end first
      (whole.file-faults library file lib is none) in
      subst (λ ns. All (λ n. n ≤ 8) ns)
      (sym (group_levels-append [] (groups_of K 0 library.definitions) (groups_of K (whole.first_text library file lib is none) file.definitions)))
      (all-listed (λ n. n ≤ 8) (group_levels tall (groups_of K (whole.first_text library file lib is none) file.definitions)) second.low)

  abbrev items : List Item
  items = whole.items library file lib is none

  abbrev written : List Item
  written = filter_map written_item items

  abbrev hidden : List Item
  hidden = filter_map hidden_item items

  abbrev declared : List (List ℕ)
  declared = flat_map declared_names file.lines

  names-length : length system.names ≡ length declared + (length written + length hidden)
  names-length =
      let parts : length system.names ≡ length (declared ++ (written_names items ++ hidden_names items)) =
      ap length (whole.three-parts library file lib is none) in
      let a = length-append declared (written_names items ++ hidden_names items) in
      let b = length-append (written_names items) (hidden_names items) in
      let c = map-long item_name written in
      let d = map-long item_name hidden in
      omega arith

  written-count : whole.count library file lib is none ≡ length declared + length written
  written-count =
      let w : length (written_names items) ≡ _ = ap length (whole.all-written library file lib is none) in
      let c = map-long item_name written in
      omega arith

  all-named : Each (Named system.written) 0 system.names
  all-named =
      let sound = whole.sound library file lib is none in
      let a : list_all is_name (declared ++ written_names items) ≡ true =
      list_all-append is_name declared (written_names items)
      ∙ and_from _ _ (declared-named (is_two file) file.lines (whole.kept-lines library file lib is none)) (written-named K blocks refl items sound) in
      let l = length-append declared (written_names items) in
      let c = map-long item_name written in
      each-append (Named system.written) 0 (declared ++ written_names items) (hidden_names items)
      (front-named system.written 0 (declared ++ written_names items) (omega arith) a)
      (back-named system.written (0 + length (declared ++ written_names items)) (hidden_names items) (omega arith) (hidden-named K blocks refl items sound))

  all-definitions : Each (IsDefinition system) system.declared system.definitions
  all-definitions =
      let good = whole.good library file lib is none in
      let sound = whole.sound library file lib is none in
      let first = written-definitions K blocks refl system.groups system refl refl many-groups (length declared) items sound good.written in
      let second = hidden-definitions K blocks refl system.groups system refl refl many-groups (whole.count library file lib is none) items sound good.hidden in
      let long = map-long (item_definition K) written in
      let start : whole.count library file lib is none ≡ length declared + length (map (item_definition K) written) = (let w = written-count in omega arith) in
      subst (λ ds. Each (IsDefinition system) (length declared) ds) (sym (map-append (item_definition K) written hidden))
      (each-append (IsDefinition system) (length declared) (map (item_definition K) written) (map (item_definition K) hidden) first
      (subst (λ n. Each (IsDefinition system) n (map (item_definition K) hidden)) start second))

  all-constraints : All (IsConstraint (length system.names)) system.constraints
  all-constraints =
      let good = whole.good library file lib is none in
      all-listed (IsConstraint (length system.names)) system.constraints
      (bound-constraints K blocks refl system.groups items (whole.sound library file lib is none) good.bound)

  accepted : AreFew system → IsAccepted system
  accepted f =
      let long = names-length in
      let a = map-append (item_definition K) written hidden in
      let b = map-long (item_definition K) (written ++ hidden) in
      let c = length-append written hidden in
      record {
        declared = omega arith;
        written = omega arith;
        few_clocks = f.clocks;
        defined = omega arith;
        names = all-named;
        bodies = group-bodies;
        definitions = all-definitions;
        constraints = all-constraints;
        levels = group-heights;
        few_constraints = f.constraints;
        few_cells = f.cells;
      }

pub files-expand : FilesExpand
files-expand library file lib is none =
    let w = unrefused (first_fault library file) (expand library file) none in
    accepted library file lib is w.0 (few (expand library file) w.1)
