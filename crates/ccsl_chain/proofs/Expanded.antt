-- What the lines of a chain's text expand to.
use Rattle.std.proofs.Common.{◌≡◌, ℕ, zero, suc, ◌+◌, ◌-◌, ◌<◌, ◌≤◌, ◌^◌, List, [], ◌∷◌, ◌++◌, append-nil, map, flat_map, filter_map, length, get_or, not, cond}
use Rattle.std.proofs.Common.{Some, find, bytes_eq, refl, sym, ap, ap₂, ◌∙◌, arith}
use Rattle.std.specs.Prelude.{codes}
use Rattle.std.specs.List.{range_with_len}
use Rattle.std.proofs.lemmas.List.FromFn.{length-map-range_with_len}
use Rattle.std.proofs.lemmas.Slice.Eq.{bytes_eq-Decides}
use Rattle.ccsl_ast.specs.declared.spot.Spot.{Spot}
use Rattle.ccsl_ast.specs.declared.line.Relation.TheVariants as rel
use Rattle.ccsl_ast.specs.Trees.{EDelay, PlainFile}
use Rattle.ccsl_words.specs.Word.{BinaryWord}
use Rattle.ccsl_words.specs.Spelling.{read_word}
use Rattle.ccsl_kernel.specs.declared.expr.Place.TheVariants as place
use Rattle.ccsl_kernel.specs.declared.expr.NumPrim.TheVariants as num
use Rattle.ccsl_kernel.specs.Actuals.{word_or_empty}
use Rattle.ccsl_kernel.specs.Syntax as kernel
use Rattle.ccsl_rules.specs.Spaces.{Known, Callee, calls_space, declares}
use Rattle.ccsl_rules.specs.Settings.{Atom, AClock, Setting, atom_of, snd_of}
use Rattle.ccsl_rules.specs.Texts.{entry_texts}
use Rattle.ccsl_rules.specs.Resolved.{Tables, clock_number}
use Rattle.ccsl_rules.specs.Unfolded.{Item, Defines, Binds, unfoldings, unfold_body, own_clocks, inside}
use Rattle.ccsl_rules.specs.Expansion.{declared_names, written_item, hidden_item, item_name, item_definition, constraint_of, names_of, expand, words_of}
use Rattle.ccsl_rules.specs.Expansion.{items_of}
use Rattle.ccsl_library.specs.Library.{the_library, name_at, clock_at, number_at}
use Rattle.ccsl_chain.specs.Chain.{clock_name, call_path, hidden_name, all_but_first, precedes, alternation, chain}
use Rattle.ccsl_chain.specs.Text.{call_line, chain_file}
use Rattle.ccsl_chain.proofs.Whole.{whole}
use Rattle.ccsl_chain.proofs.NewNames.{same_clock, same_hidden}
use Rattle.ccsl_accepts.proofs.Distinct.{other}

-- ## Names and their numbers

-- the number of a name among those that f makes
number-among : (f : ℕ → List ℕ) (rest : List (List ℕ)) (a m i : ℕ) → i < m → ((j : ℕ) → a ≤ j → j < a + i → f j ≡ f (a + i) → ⊥) →
    clock_number (map f (range_with_len a m) ++ rest) (f (a + i)) ≡ i
number-among f rest a zero i l h = absurd (omega arith)
number-among f rest a (suc m) zero l h =
    ap (λ t. cond (not t) (1 + clock_number (map f (range_with_len (a + 1) m) ++ rest) (f (a + 0))) 0)
    ((bytes_eq-Decides (f a) (f (a + 0))).1 (ap f (let s : a ≡ a + 0 = omega arith in s)))
number-among f rest a (suc m) (suc i) l h =
    let shift : a + suc i ≡ a + 1 + i = omega arith in
    ap (λ t. cond (not t) (1 + clock_number (map f (range_with_len (a + 1) m) ++ rest) (f (a + suc i))) 0)
    (other (f a) (f (a + suc i)) (h a (omega arith) (omega arith)))
    ∙ ap (λ k. 1 + clock_number (map f (range_with_len (a + 1) m) ++ rest) (f k)) shift
    ∙ ap (λ k. 1 + k) (number-among f rest (a + 1) m i (omega arith) (λ j l' u e. h j (omega arith) (omega arith) (e ∙ ap f (sym shift))))
    ∙ (let s : 1 + i ≡ suc i = omega arith in s)

-- and behind them
number-behind : (f : ℕ → List ℕ) (rest : List (List ℕ)) (x : List ℕ) (a m : ℕ) → ((j : ℕ) → f j ≡ x → ⊥) →
    clock_number (map f (range_with_len a m) ++ rest) x ≡ m + clock_number rest x
number-behind f rest x a zero h = let s : clock_number rest x ≡ 0 + clock_number rest x = omega arith in s
number-behind f rest x a (suc m) h =
    ap (λ t. cond (not t) (1 + clock_number (map f (range_with_len (a + 1) m) ++ rest) x) 0) (other (f a) x (h a))
    ∙ ap (λ k. 1 + k) (number-behind f rest x (a + 1) m h)
    ∙ (let s : 1 + (m + clock_number rest x) ≡ suc m + clock_number rest x = omega arith in s)

-- the clocks that the line of clocks declares stand for themselves
abbrev own : ℕ → List ℕ × Atom
own j = (clock_name j, AClock (clock_name j))

atom-among : (a m i : ℕ) → i < m → a + m < 2 ^ 63
    → snd_of (find (λ p. bytes_eq p.0 (clock_name (a + i))) (map own (range_with_len a m))) ≡ AClock (clock_name (a + i))
atom-among a zero i l u = absurd (omega arith)
atom-among a (suc m) zero l u =
    let same : a ≡ a + 0 = omega arith in
    ap (λ t. snd_of (cond t (Some (own a)) (find (λ p. bytes_eq p.0 (clock_name (a + 0))) (map own (range_with_len (a + 1) m)))))
    ((bytes_eq-Decides (clock_name a) (clock_name (a + 0))).1 (ap clock_name same))
    ∙ ap (λ j. AClock (clock_name j)) same
atom-among a (suc m) (suc i) l u =
    let shift : a + suc i ≡ a + 1 + i = omega arith in
    ap (λ t. snd_of (cond t (Some (own a)) (find (λ p. bytes_eq p.0 (clock_name (a + suc i))) (map own (range_with_len (a + 1) m)))))
    (other (clock_name a) (clock_name (a + suc i)) (λ e. let z = same_clock a (a + suc i) (omega arith) (omega arith) e in omega arith))
    ∙ ap (λ j. snd_of (find (λ p. bytes_eq p.0 (clock_name j)) (map own (range_with_len (a + 1) m)))) shift
    ∙ atom-among (a + 1) m i (omega arith) (omega arith)
    ∙ ap (λ j. AClock (clock_name j)) (sym shift)

-- ## The items of the calls

-- what the names of the relation's body stand for in call i
abbrev setting : ℕ → Atom → Atom → Setting
setting i a b = (codes "a", a) ∷ (codes "b", b) ∷ (codes "next", AClock (hidden_name i)) ∷ []

abbrev three : ℕ → Atom → Atom → List Item
three i a b =
    Defines (call_path i) (hidden_name i) (setting i a b) 0 (EDelay (clock_at 64 (codes "a")) (number_at 72 1))
    ∷ Binds (call_path i) (setting i a b) (codes "a") rel.Precedes (codes "b")
    ∷ Binds (call_path i) (setting i a b) (codes "b") rel.Precedes (codes "next")
    ∷ []

abbrev items_at : ℕ → List Item
items_at i = three i (AClock (clock_name i)) (AClock (clock_name (i + 1)))

module _ (where_at : ℕ → ℕ → ℕ) (n : ℕ) (few : n < 2 ^ 62) where
  abbrev calls : List (Known Callee)
  calls = calls_space 0 0 the_library.definitions

  no-texts : (a m : ℕ) → flat_map entry_texts (map (call_line where_at) (range_with_len a m)) ≡ []
  no-texts a zero = refl
  no-texts a (suc m) = no-texts (a + 1) m

  no-declared : (a m : ℕ) → flat_map declares (map (call_line where_at) (range_with_len a m)) ≡ []
  no-declared a zero = refl
  no-declared a (suc m) = no-declared (a + 1) m

  no-names : (a m : ℕ) → flat_map declared_names (map (call_line where_at) (range_with_len a m)) ≡ []
  no-names a zero = refl
  no-names a (suc m) = no-names (a + 1) m

  -- the setting of the system's own lines
  own-setting : own_clocks [] (chain_file where_at n).lines ≡ map own (range_with_len 0 n)
  own-setting =
      ap (λ ss. map (λ s. (s.name, AClock (inside [] s.name))) (map (λ j. name_at (where_at 0 j) (clock_name j)) (range_with_len 0 n) ++ ss))
      (no-declared 0 (n - 1))
      ∙ ap (map (λ s. (s.name, AClock (inside [] s.name)))) (append-nil (map (λ j. name_at (where_at 0 j) (clock_name j)) (range_with_len 0 n)))
      ∙ spots 0 n
    where
      spots : (a m : ℕ) → map (λ s. (s.name, AClock (inside [] s.name))) (map (λ j. name_at (where_at 0 j) (clock_name j)) (range_with_len a m)) ≡ map own
          (range_with_len a m)
      spots a zero = refl
      spots a (suc m) = ap (λ ps. own a ∷ ps) (spots (a + 1) m)

  own-atom : (i : ℕ) → i < n → atom_of (map own (range_with_len 0 n)) (clock_name i) ≡ AClock (clock_name i)
  own-atom i l =
      let same : i ≡ 0 + i = omega arith in
      ap (λ j. atom_of (map own (range_with_len 0 n)) (clock_name j)) same ∙ atom-among 0 n i l (omega arith) ∙ ap (λ j. AClock (clock_name j)) (sym same)

  -- each call is its three items
  calls-unfold : (words : List BinaryWord) (k a m : ℕ) → a + m ≤ n - 1 →
      unfold_body words calls (unfoldings words calls [] 0 the_library.definitions) [] (map own (range_with_len 0 n)) k (a + 1)
      (map (call_line where_at) (range_with_len a m))
      ≡ flat_map items_at (range_with_len a m)
  calls-unfold words k a zero l = refl
  calls-unfold words k a (suc m) l =
      ap₂ (λ (x y : Atom). three a x y ++ unfold_body words calls (unfoldings words calls [] 0 the_library.definitions) [] (map own (range_with_len 0 n))
      (k + 0) (a + 1 + 1) (map (call_line where_at) (range_with_len (a + 1) m)))
      (own-atom a (omega arith)) (own-atom (a + 1) (omega arith))
      ∙ ap (λ xs. items_at a ++ xs) (calls-unfold words (k + 0) (a + 1) m (omega arith))

  abbrev file : PlainFile
  file = chain_file where_at n

  abbrev links : List ℕ
  links = range_with_len 0 (n - 1)

  items-are : items_of the_library file ≡ flat_map items_at links
  items-are =
      ap (λ σ. unfold_body (words_of the_library file) calls (unfoldings (words_of the_library file) calls [] 0 the_library.definitions) [] σ (0 + 0 + 0)
      (0 + 1) (map (call_line where_at) links)) own-setting
      ∙ calls-unfold (words_of the_library file) (0 + 0 + 0) 0 (n - 1) (omega arith)

  -- ## Names

  abbrev names : List (List ℕ)
  names = map clock_name (range_with_len 0 n) ++ map hidden_name links

  declared-are : flat_map declared_names file.lines ≡ map clock_name (range_with_len 0 n)
  declared-are =
      ap (λ xs. map (λ (s : Spot). s.name) (map (λ j. name_at (where_at 0 j) (clock_name j)) (range_with_len 0 n)) ++ xs) (no-names 0 (n - 1))
      ∙ append-nil (map (λ (s : Spot). s.name) (map (λ j. name_at (where_at 0 j) (clock_name j)) (range_with_len 0 n)))
      ∙ spelled 0 n
    where
      spelled : (a m : ℕ) → map (λ (s : Spot). s.name) (map (λ j. name_at (where_at 0 j) (clock_name j)) (range_with_len a m)) ≡ map clock_name
          (range_with_len a m)
      spelled a zero = refl
      spelled a (suc m) = ap (λ xs. clock_name a ∷ xs) (spelled (a + 1) m)

  written-none : (a m : ℕ) → filter_map written_item (flat_map items_at (range_with_len a m)) ≡ []
  written-none a zero = refl
  written-none a (suc m) = written-none (a + 1) m

  hidden-names : (a m : ℕ) → map item_name (filter_map hidden_item (flat_map items_at (range_with_len a m))) ≡ map hidden_name (range_with_len a m)
  hidden-names a zero = refl
  hidden-names a (suc m) = ap (λ xs. hidden_name a ∷ xs) (hidden-names (a + 1) m)

  names-are : (expand the_library file).names ≡ names
  names-are =
      ap₂ names_of declared-are items-are
      ∙ ap₂ (λ w h. map clock_name (range_with_len 0 n) ++ map item_name w ++ h) (written-none 0 (n - 1)) (hidden-names 0 (n - 1))
      ∙ ap (λ xs. xs ++ map hidden_name links) (append-nil (map clock_name (range_with_len 0 n)))

  clock-number : (i : ℕ) → i < n → clock_number names (clock_name i) ≡ i
  clock-number i l =
      let same : i ≡ 0 + i = omega arith in
      ap (λ j. clock_number names (clock_name j)) same
      ∙ number-among clock_name (map hidden_name links) 0 n i l (λ j l' u e. let z = same_clock j (0 + i) (omega arith) (omega arith) e in omega arith)

  hidden-number : (i : ℕ) → i < n - 1 → clock_number names (hidden_name i) ≡ n + i
  hidden-number i l =
      let same : i ≡ 0 + i = omega arith in
      number-behind clock_name (map hidden_name links) (hidden_name i) 0 n (λ j e. let first : 99 ≡ 97 = ap (λ (xs : List ℕ). get_or xs 0 0) e in omega arith)
      ∙ ap (λ xs. n + clock_number xs (hidden_name i)) (sym (append-nil (map hidden_name links)))
      ∙ ap (λ j. n + clock_number (map hidden_name links ++ []) (hidden_name j)) same
      ∙ ap (λ k. n + k) (number-among hidden_name [] 0 (n - 1) i l (λ j l' u e. let z = same_hidden j (0 + i) (omega arith) (omega arith) e in omega arith))

  -- ## Definitions and constraints

  definitions-of : (tables : Tables) → tables.names ≡ names → (a m : ℕ) → a + m ≤ n - 1 →
      map (item_definition tables) (filter_map hidden_item (flat_map items_at (range_with_len a m))) ≡ map all_but_first (range_with_len a m)
  definitions-of tables is a zero l = refl
  definitions-of tables is a (suc m) l =
      ap₂ (λ x es. kernel.EDelay (kernel.EName (place.Clock x)) (record { first = num.Num 1; rest = [] }) ∷ es)
      (ap (λ xs. clock_number xs (clock_name a)) is ∙ clock-number a (omega arith)) (definitions-of tables is (a + 1) m (omega arith))

  constraints-of : (a m : ℕ) → a + m ≤ n - 1
      → filter_map (constraint_of names) (flat_map items_at (range_with_len a m)) ≡ flat_map (alternation n) (range_with_len a m)
  constraints-of a zero l = refl
  constraints-of a (suc m) l =
      ap₂ (λ x y. precedes a x y ∷ precedes a y (clock_number names (hidden_name a)) ∷ filter_map (constraint_of names)
      (flat_map items_at (range_with_len (a + 1) m)))
      (clock-number a (omega arith)) (clock-number (a + 1) (omega arith))
      ∙ ap₂ (λ z cs. precedes a a (a + 1) ∷ precedes a (a + 1) z ∷ cs) (hidden-number a (omega arith)) (constraints-of (a + 1) m (omega arith))

  definitions-are : (expand the_library file).definitions ≡ map all_but_first links
  definitions-are =
      let tables : Tables = record {
        names = names_of (flat_map declared_names file.lines) (items_of the_library file);
        words =
            words_of the_library file;
        calls = calls;
      } in
      ap (λ xs. map (item_definition tables) (filter_map written_item xs ++ filter_map hidden_item xs)) items-are
      ∙ ap (λ w. map (item_definition tables) (w ++ filter_map hidden_item (flat_map items_at links))) (written-none 0 (n - 1))
      ∙ definitions-of tables names-are 0 (n - 1) (omega arith)

  constraints-are : (expand the_library file).constraints ≡ flat_map (alternation n) links
  constraints-are = ap₂ (λ xs is. filter_map (constraint_of xs) is) names-are items-are ∙ constraints-of 0 (n - 1) (omega arith)

  -- ## The whole

  count-declared : (expand the_library file).declared ≡ n
  count-declared = ap length declared-are ∙ length-map-range_with_len clock_name 0 n

  count-written : (expand the_library file).written ≡ n
  count-written =
      ap₂ (λ d xs. length d + length (filter_map written_item xs)) declared-are items-are
      ∙ ap₂ (λ k w. k + length w) (length-map-range_with_len clock_name 0 n) (written-none 0 (n - 1))
      ∙ (let s : n + 0 ≡ n = omega arith in s)

  words-none : (expand the_library file).words ≡ []
  words-none = ap (λ ts. map (λ t. word_or_empty (read_word t)) ts) (no-texts 0 (n - 1))

  pub expanded : expand the_library file ≡ chain n
  expanded =
      let K = expand the_library file in
      whole n K.names K.declared K.written K.groups K.words K.definitions K.constraints names-are count-declared count-written refl words-none definitions-are
      constraints-are
