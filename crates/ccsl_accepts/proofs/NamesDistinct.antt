-- NO NAME OF AN EXPANSION IS THERE TWICE.
use Rattle.std.proofs.Common.{◌≡◌, ℕ, suc, ◌+◌, ◌<◌, ◌≤◌, ◌^◌, List, [], ◌∷◌, ◌++◌, Bool, true, false, cond, length, length-append, flat_map, take, drop}
use Rattle.std.proofs.Common.{filter_map, refl, sym, ap, ap₂, ◌∙◌, subst, arith, inl, inr, ⊎_elim}
use Rattle.std.specs.List.{AllByRecursion, list_all, prefix_len}
use Rattle.std.proofs.lemmas.Bool.{and_parts}
use Rattle.ccsl_base.specs.Name.{is_name}
use Rattle.ccsl_base.specs.Letters.{is_inner}
use Rattle.ccsl_ast.specs.Trees.{PlainDefinition, PlainFile}
use Rattle.ccsl_ast.specs.Kept.{is_two}
use Rattle.ccsl_kernel.specs.Accepted.{is_hidden, is_path_rest}
use Rattle.ccsl_kernel.specs.declared.constraint.Constraint.{Constraint}
use Rattle.ccsl_rules.specs.Resolved.{Tables}
use Rattle.ccsl_rules.specs.Unfolded.{Item, Defines, Binds, Unfoldings, unfoldings}
use Rattle.ccsl_rules.specs.Expansion.{declared_names, constraint_of, expand}
use Rattle.ccsl_rules.proofs.There.{space-there}
use Rattle.ccsl_rules.proofs.Ready.{AreThere}
use Rattle.ccsl_rules.proofs.Rising.{names_in}
use Rattle.ccsl_accepts.specs.Acceptance.{IsFile, IsLibrary, IsFaultless, NamesAreDistinct, NamesAreNew}
use Rattle.ccsl_accepts.proofs.HiddenNames.{name-inner}
use Rattle.ccsl_accepts.proofs.Joined.{heights_of}
use Rattle.ccsl_accepts.proofs.Placing.{written_names, hidden_names}
use Rattle.ccsl_accepts.proofs.OwnLines.{defined_names}
use Rattle.ccsl_accepts.proofs.Distinct.{In, Distinct, in-parts, distinct-join, distinct-left, distinct-right, distinct-across, by-parts, tested, new-behind}
use Rattle.ccsl_accepts.proofs.Lines.{AreFull, none-full, blocks-full, body-full}
use Rattle.ccsl_accepts.proofs.Apart.{Parts, body-apart, blocks-parts, lines-distinct}
use Rattle.ccsl_accepts.proofs.Accepts.{declared-named, hidden-named}
use Rattle.ccsl_accepts.proofs.Whole.{there-left, there-right, unfoldings-length}
use Rattle.ccsl_accepts.proofs.Whole as whole

-- ## A name is no path

take-none : (xs : List ℕ) → list_all is_inner xs ≡ true → drop (prefix_len is_inner xs) xs ≡ []
take-none [] h = refl
take-none (x ∷ xs) h =
    let w = and_parts (is_inner x) (list_all is_inner xs) h in
    ap (λ t. drop (cond t (1 + prefix_len is_inner xs) 0) (x ∷ xs)) w.0
    ∙ (let z : 1 + prefix_len is_inner xs ≡ suc (prefix_len is_inner xs) = omega arith in ap (λ n. drop n (x ∷ xs)) z) ∙ take-none xs w.1

prefix-whole : (xs : List ℕ) → list_all is_inner xs ≡ true → length (take (prefix_len is_inner xs) xs) ≡ prefix_len is_inner xs
prefix-whole [] h = refl
prefix-whole (x ∷ xs) h =
    let w = and_parts (is_inner x) (list_all is_inner xs) h in
    let z : 1 + prefix_len is_inner xs ≡ suc (prefix_len is_inner xs) = omega arith in
    let e : prefix_len is_inner (x ∷ xs) ≡ suc (prefix_len is_inner xs) = ap (λ t. cond t (1 + prefix_len is_inner xs) 0) w.0 ∙ z in
    ap (λ n. length (take n (x ∷ xs))) e ∙ ap suc (prefix-whole xs w.1) ∙ sym e

name-or-path : (name : List ℕ) → is_name name ≡ true → is_hidden name ≡ true → ⊥
name-or-path name n h =
    let inner = name-inner name n in
    let rest = (and_parts (is_name (take (prefix_len is_inner name) name)) _ h).1 in
    let none : drop (length (take (prefix_len is_inner name) name)) name ≡ [] = ap (λ k. drop k name) (prefix-whole name inner) ∙ take-none name inner in
    let z : false ≡ true = sym (ap is_path_rest none) ∙ rest in
    cc

in-all : (p : List ℕ → Bool) (xs : List (List ℕ)) → list_all p xs ≡ true → (n : List ℕ) → In n xs → p n ≡ true
in-all p [] h n i = absurd i
in-all p (x ∷ xs) h n (inl e) = ap p e ∙ (and_parts (p x) (list_all p xs) h).0
in-all p (x ∷ xs) h n (inr i) = in-all p xs (and_parts (p x) (list_all p xs) h).1 n i

-- ## Items by what they name

abbrev one_written : Item → List (List ℕ)
one_written (Defines [] name σ k e) = name ∷ []
one_written (Defines (b ∷ bs) name σ k e) = []
one_written (Binds path σ a r b) = []

abbrev one_hidden : Item → List (List ℕ)
one_hidden (Defines [] name σ k e) = []
one_hidden (Defines (b ∷ bs) name σ k e) = name ∷ []
one_hidden (Binds path σ a r b) = []

written-are : (xs : List Item) → written_names xs ≡ flat_map one_written xs
written-are [] = refl
written-are (Defines [] name σ k e ∷ xs) = ap (λ l. name ∷ l) (written-are xs)
written-are (Defines (b ∷ bs) name σ k e ∷ xs) = written-are xs
written-are (Binds path σ a r b ∷ xs) = written-are xs

hidden-are : (xs : List Item) → hidden_names xs ≡ flat_map one_hidden xs
hidden-are [] = refl
hidden-are (Defines [] name σ k e ∷ xs) = hidden-are xs
hidden-are (Defines (b ∷ bs) name σ k e ∷ xs) = ap (λ l. name ∷ l) (hidden-are xs)
hidden-are (Binds path σ a r b ∷ xs) = hidden-are xs

names-are : (xs : List Item) → names_in xs ≡ flat_map (λ x. one_written x ++ one_hidden x) xs
names-are [] = refl
names-are (Defines [] name σ k e ∷ xs) = ap (λ l. name ∷ l) (names-are xs)
names-are (Defines (b ∷ bs) name σ k e ∷ xs) = ap (λ l. name ∷ l) (names-are xs)
names-are (Binds path σ a r b ∷ xs) = names-are xs

-- each item is a written or a hidden definition, or a constraint
items-counted : (names : List (List ℕ)) (xs : List Item)
    → length xs ≡ length (written_names xs) + length (hidden_names xs) + length (filter_map (constraint_of names) xs)
items-counted names [] = refl
items-counted names (Defines [] name σ k e ∷ xs) = let r = items-counted names xs in omega arith
items-counted names (Defines (b ∷ bs) name σ k e ∷ xs) = let r = items-counted names xs in omega arith
items-counted names (Binds path σ a r b ∷ xs) =
    let s = items-counted names xs in
    let rest : List Constraint = filter_map (constraint_of names) xs in
    omega arith

module _ (library file : PlainFile) (lib : IsLibrary library) (is : IsFile file) (ok : IsFaultless library file) where
  abbrev K : Tables
  K = whole.tables library file lib is ok.no_fault

  abbrev blocks : List PlainDefinition
  blocks = whole.blocks library file lib is ok.no_fault

  abbrev R : Unfoldings
  R = whole.R library file lib is ok.no_fault

  abbrev first : Unfoldings
  first = unfoldings K.words K.calls [] 0 library.definitions

  abbrev text : ℕ
  text = whole.first_text library file lib is ok.no_fault

  there : AreThere (whole.groups library file lib is ok.no_fault) K 0 blocks
  there = space-there (whole.groups library file lib is ok.no_fault) K blocks refl

  file-there : AreThere (whole.groups library file lib is ok.no_fault) K (length library.definitions) file.definitions
  file-there =
      let z : 0 + length library.definitions ≡ length library.definitions = omega arith in
      subst (λ n. AreThere (whole.groups library file lib is ok.no_fault) K n file.definitions) z
      (there-right (whole.groups library file lib is ok.no_fault) K 0 library.definitions file.definitions there)

  first-long : length first ≡ length library.definitions
  first-long = unfoldings-length K.words K.calls [] 0 library.definitions
      ∙ (let z : 0 + length library.definitions ≡ length library.definitions = omega arith in z)

  first-full : AreFull K blocks refl first
  first-full = blocks-full K blocks refl (whole.groups library file lib is ok.no_fault) (is_two library) (heights_of blocks) [] (none-full K blocks refl) 0 0
      refl library.definitions
      (there-left (whole.groups library file lib is ok.no_fault) K 0 library.definitions file.definitions there)
      (whole.library-faults library file lib is ok.no_fault) (whole.kept-definitions library file lib is ok.no_fault library lib.file)

  full : AreFull K blocks refl R
  full = blocks-full K blocks refl (whole.groups library file lib is ok.no_fault) (is_two file) (heights_of blocks) first first-full text
      (length library.definitions) first-long file.definitions
      file-there (whole.file-faults library file lib is ok.no_fault) (whole.kept-definitions library file lib is ok.no_fault file is)

  parts : AllByRecursion Parts R
  parts =
      let front : AllByRecursion Parts first =
      blocks-parts K blocks refl (whole.groups library file lib is ok.no_fault) (is_two library) (heights_of blocks) [] tt (none-full K blocks refl) 0 0
      refl library.definitions
      (there-left (whole.groups library file lib is ok.no_fault) K 0 library.definitions file.definitions there)
      (whole.library-faults library file lib is ok.no_fault) (whole.kept-definitions library file lib is ok.no_fault library lib.file) in
      blocks-parts K blocks refl (whole.groups library file lib is ok.no_fault) (is_two file) (heights_of blocks) first front first-full text
      (length library.definitions) first-long file.definitions
      file-there (whole.file-faults library file lib is ok.no_fault) (whole.kept-definitions library file lib is ok.no_fault file is)

  abbrev items : List Item
  items = whole.items library file lib is ok.no_fault

  abbrev declared : List (List ℕ)
  declared = flat_map declared_names file.lines

  all-there : length blocks ≤ length R
  all-there =
      let a = length-append library.definitions file.definitions in
      let b = unfoldings-length K.words K.calls first text file.definitions in
      let c = first-long in
      omega arith

  -- so many items, and so many lines, as decimal numbers tell apart
  few-items : (length declared + length items < 2 ^ 64) × (length file.lines < 2 ^ 64)
  few-items =
      let names : length (expand library file).names ≡ length (declared ++ (written_names items ++ hidden_names items)) =
      ap length (whole.three-parts library file lib is ok.no_fault) in
      let a = length-append declared (written_names items ++ hidden_names items) in
      let b = length-append (written_names items) (hidden_names items) in
      let c = items-counted K.names items in
      let d = body-full K blocks refl R full (is_two file) (whole.scene library file lib is ok.no_fault) refl all-there []
      (whole.setting library file lib is ok.no_fault) (whole.system_text library file lib is ok.no_fault) 0 file.lines
      (whole.lines-faults library file lib is ok.no_fault) (whole.kept-lines library file lib is ok.no_fault) in
      let e = ok.few_clocks in
      let f = ok.few_constraints in
      (omega arith, omega arith)

  own-distinct : Distinct (declared ++ flat_map defined_names file.lines)
  own-distinct = lines-distinct [] file.lines (whole.once-declared library file lib is ok.no_fault)

  items-distinct : Distinct (written_names items ++ hidden_names items)
  items-distinct =
      let few = few-items in
      let a = body-apart K R parts [] [] (λ x. refl) (whole.setting library file lib is ok.no_fault) (is_two file) 0
      (whole.system_text library file lib is ok.no_fault) file.lines (distinct-right declared (flat_map defined_names file.lines) own-distinct)
      (whole.kept-lines library file lib is ok.no_fault) (omega (arith, few.1)) (omega (arith, few.0)) in
      subst Distinct (sym (ap₂ (λ p q. p ++ q) (written-are items) (hidden-are items)))
      (by-parts one_written one_hidden items (subst Distinct (names-are items) a.distinct))

  all-distinct : Distinct (expand library file).names
  all-distinct =
      let sound = whole.sound library file lib is ok.no_fault in
      let two = items-distinct in
      subst Distinct (sym (whole.three-parts library file lib is ok.no_fault))
      (distinct-join declared (written_names items ++ hidden_names items) (distinct-left declared (flat_map defined_names file.lines) own-distinct) two
      (λ n i j. ⊎_elim
      (λ k. distinct-across declared (flat_map defined_names file.lines) own-distinct n i (subst (In n) (whole.all-written library file lib is ok.no_fault) k))
      (λ k. name-or-path n (in-all is_name declared (declared-named (is_two file) file.lines (whole.kept-lines library file lib is ok.no_fault)) n i)
      (in-all is_hidden (hidden_names items) (hidden-named K blocks refl items sound) n k))
      (in-parts n (written_names items) (hidden_names items) j)))

pub names-distinct : NamesAreDistinct
names-distinct library file lib is ok = tested (expand library file).names (all-distinct library file lib is ok)

pub names-new : NamesAreNew
names-new library file lib is ok front back name e = new-behind front back name (subst Distinct e (all-distinct library file lib is ok))
