-- The text of a chain has no fault.
use Rattle.std.proofs.Common.{◌≡◌, ℕ, zero, suc, ◌+◌, ◌-◌, ◌<◌, ◌≤◌, ◌^◌, List, [], ◌∷◌, ◌++◌, append-nil, map, length, true, false, ◌||◌, cond, Option, Some}
use Rattle.std.proofs.Common.{None, Ok, nat_lt, le-ltb, refl, sym, ap, ap₂, ◌∙◌, arith}
use Rattle.std.specs.List.{range_with_len}
use Rattle.std.proofs.lemmas.Bool.{cond-false}
use Rattle.std.proofs.lemmas.List.FromFn.{map-range_with_len_more}
use Rattle.std.proofs.lemmas.Slice.Eq.{bytes_eq-Decides}
use Rattle.ccsl_base.specs.declared.limits.TheConstants.{MAX_CLOCKS, MAX_CONSTRAINTS, MAX_CELLS}
use Rattle.ccsl_base.specs.declared.limits.TheConstants.{MAX_TRIAL_CLOCKS}
use Rattle.ccsl_ast.specs.declared.spot.Spot.{Spot}
use Rattle.ccsl_ast.specs.declared.definition.Kind.{Kind}
use Rattle.ccsl_ast.specs.declared.definition.Kind.TheVariants as kind
use Rattle.ccsl_ast.specs.Trees.{PlainFile}
use Rattle.ccsl_kernel.specs.Syntax.{System}
use Rattle.ccsl_kernel.specs.Cells.{cells}
use Rattle.ccsl_kernel.specs.Accepted.{IsAccepted}
use Rattle.ccsl_rules.specs.Faults.{Fault, least, where_so, Duplicate, Unknown, Later, WrongKind}
use Rattle.ccsl_rules.specs.Spaces.{Known, Callee, look, repeated, spots, clock_known, lines_space, calls_space}
use Rattle.ccsl_base.specs.Names.{is_among}
use Rattle.ccsl_rules.specs.Uses.{Scene, has_other_kind}
use Rattle.ccsl_rules.specs.Blocks.{entries_faults, faults}
use Rattle.ccsl_rules.specs.Elaborated.{totals_refusal, refusal_with, refusal}
use Rattle.ccsl_rules.specs.Answer.{answer, elaborated}
use Rattle.ccsl_library.specs.Library.{the_library, name_at}
use Rattle.ccsl_chain.specs.Chain.{clock_name, chain}
use Rattle.ccsl_chain.specs.Text.{call_line, chain_file}
use Rattle.ccsl_chain.proofs.NewNames.{same_clock}
use Rattle.ccsl_chain.proofs.Accepted.{accepted}
use Rattle.ccsl_chain.proofs.Expanded.{expanded}
use Rattle.ccsl_accepts.proofs.Distinct.{other}

module _ (where_at : ℕ → ℕ → ℕ) where
  -- the names as they stand in the line of clocks
  abbrev spot : ℕ → Spot
  spot j = name_at (where_at 0 j) (clock_name j)

  abbrev known : ℕ → Known Kind
  known j = clock_known (0 + 1) (spot j)

  -- ## No name is there twice

  new-name : (x : List ℕ) (a m : ℕ) → ((j : ℕ) → a ≤ j → j < a + m → clock_name j ≡ x → ⊥) → is_among x (map clock_name (range_with_len a m)) ≡ false
  new-name x a zero h = refl
  new-name x a (suc m) h =
      ap₂ ◌||◌ (other x (clock_name a) (λ e. h a (omega arith) (omega arith) (sym e))) (new-name x (a + 1) m (λ j l u. h j (omega arith) (omega arith)))

  none-repeated : (a m : ℕ) → a + m < 2 ^ 62 → repeated (map clock_name (range_with_len 0 a)) (map spot (range_with_len a m)) ≡ []
  none-repeated a zero l = refl
  none-repeated a (suc m) l =
      ap₂ (λ b (seen : List (List ℕ)). where_so b Duplicate (where_at 0 a) ++ repeated seen (map spot (range_with_len (a + 1) m)))
      (new-name (clock_name a) 0 a (λ j l' u e. let z = same_clock j a (omega arith) (omega arith) e in omega arith))
      (sym (map-range_with_len_more clock_name 0 a a (omega arith)))
      ∙ none-repeated (a + 1) m (omega arith)

  -- ## Each call names declared clocks

  find-known : (rest : List (Known Kind)) (a m i : ℕ) → i < m → a + m < 2 ^ 62
      → look (clock_name (a + i)) (map known (range_with_len a m) ++ rest) ≡ Some (known (a + i))
  find-known rest a zero i l u = absurd (omega arith)
  find-known rest a (suc m) zero l u =
      let same : a ≡ a + 0 = omega arith in
      ap (λ t. cond t (Some (known a)) (look (clock_name (a + 0)) (map known (range_with_len (a + 1) m) ++ rest)))
      ((bytes_eq-Decides (clock_name a) (clock_name (a + 0))).1 (ap clock_name same))
      ∙ ap (λ j. Some (known j)) same
  find-known rest a (suc m) (suc i) l u =
      let shift : a + suc i ≡ a + 1 + i = omega arith in
      ap (λ t. cond t (Some (known a)) (look (clock_name (a + suc i)) (map known (range_with_len (a + 1) m) ++ rest)))
      (other (clock_name a) (clock_name (a + suc i)) (λ e. let z = same_clock a (a + suc i) (omega arith) (omega arith) e in omega arith))
      ∙ ap (λ j. look (clock_name j) (map known (range_with_len (a + 1) m) ++ rest)) shift
      ∙ find-known rest (a + 1) m i (omega arith) (omega arith)
      ∙ ap (λ j. Some (known j)) (sym shift)

  module _ (n : ℕ) (few : n < 2 ^ 61) where
    abbrev calls : List (Known Callee)
    calls = calls_space 0 0 the_library.definitions

    abbrev locals : List (Known Kind)
    locals = map known (range_with_len 0 n)

    abbrev scene : ℕ → Scene
    scene line = record { locals = locals; line = line; calls = calls; home = 4; levels = [] }

    look-clock : (i : ℕ) → i < n → look (clock_name i) locals ≡ Some (known i)
    look-clock i l =
        let same : i ≡ 0 + i = omega arith in
        ap₂ (λ j xs. look (clock_name j) xs) same (sym (append-nil locals)) ∙ find-known [] 0 n i l (omega arith) ∙ ap (λ j. Some (known j)) (sym same)

    -- the faults of a call's line, from what stands for its two names
    abbrev kind_found : Option (Known Kind) → Option Kind
    kind_found found = elim found [ None ↦ None | Some k ↦ Some k.what ]

    abbrev use_found : ℕ → Option (Known Kind) → ℕ → List Fault
    use_found line found at = elim found [ None ↦ where_so true Unknown at | Some k ↦ where_so (nat_lt line k.since) Later at ]

    abbrev call_found : ℕ → ℕ → Option (Known Kind) → Option (Known Kind) → List Fault
    call_found line i x y =
        (where_so (has_other_kind (kind_found x) kind.Clock) WrongKind (where_at (i + 1) 1)
        ++ (where_so (has_other_kind (kind_found y) kind.Clock) WrongKind (where_at (i + 1) 2) ++ []))
        ++ (use_found line x (where_at (i + 1) 1) ++ (use_found line y (where_at (i + 1) 2) ++ []))

    calls-faultless : (a m : ℕ) → a + m ≤ n - 1 → entries_faults (scene 0) (a + 1) (map (call_line where_at) (range_with_len a m)) ≡ []
    calls-faultless a zero l = refl
    calls-faultless a (suc m) l =
        let rest = entries_faults (scene 0) (a + 1 + 1) (map (call_line where_at) (range_with_len (a + 1) m)) in
        ap₂ (λ x y. call_found (a + 1) a x y ++ rest) (look-clock a (omega arith)) (look-clock (a + 1) (omega arith))
        ∙ ap (λ late. (where_so late Later (where_at (a + 1) 1) ++ (where_so late Later (where_at (a + 1) 2) ++ [])) ++ rest) (le-ltb (a + 1) 1 (omega arith))
        ∙ calls-faultless (a + 1) m (omega arith)

    -- ## The whole

    abbrev file : PlainFile
    file = chain_file where_at n

    no-more-names : (line a m : ℕ) → lines_space line (map (call_line where_at) (range_with_len a m)) ≡ []
    no-more-names line a zero = refl
    no-more-names line a (suc m) = no-more-names (line + 1) (a + 1) m

    known-are : (a m : ℕ) → map (clock_known (0 + 1)) (map spot (range_with_len a m)) ≡ map known (range_with_len a m)
    known-are a zero = refl
    known-are a (suc m) = ap (λ ks. known a ∷ ks) (known-are (a + 1) m)

    locals-are : lines_space 0 file.lines ≡ locals
    locals-are =
        ap (λ ks. map (clock_known (0 + 1)) (map spot (range_with_len 0 n)) ++ ks) (no-more-names (0 + 1) 0 (n - 1))
        ∙ append-nil (map (clock_known (0 + 1)) (map spot (range_with_len 0 n)))
        ∙ known-are 0 n

    spots-are : (a m : ℕ) → spots (map known (range_with_len a m)) ≡ map spot (range_with_len a m)
    spots-are a zero = refl
    spots-are a (suc m) = ap (λ ss. spot a ∷ ss) (spots-are (a + 1) m)

    no-faults : faults the_library file ≡ []
    no-faults =
        ap (λ (ls : List (Known Kind)). repeated [] (spots ls)
        ++ entries_faults (record { locals = ls; line = 0; calls = calls; home = 4; levels = [] }) 0 file.lines) locals-are
        ∙ ap (λ ss. repeated [] ss ++ entries_faults (scene 0) 0 file.lines) (spots-are 0 n)
        ∙ ap₂ (λ (xs ys : List Fault). xs ++ ys) (none-repeated 0 n (omega arith)) (calls-faultless 0 (n - 1) (omega arith))

-- an accepted system is within the limits
totals-none : (K : System) → IsAccepted K → totals_refusal K ≡ None
totals-none K ok =
    cond-false (nat_lt MAX_CLOCKS (length K.names)) _ _ (le-ltb MAX_CLOCKS (length K.names) ok.few_clocks)
    ∙ cond-false (nat_lt MAX_CONSTRAINTS (length K.constraints)) _ _ (le-ltb MAX_CONSTRAINTS (length K.constraints) ok.few_constraints)
    ∙ cond-false (nat_lt MAX_CELLS (cells K)) _ _ (le-ltb MAX_CELLS (cells K) ok.few_cells)

pub elaborated_as : (where_at : ℕ → ℕ → ℕ) (n : ℕ) → n ≤ MAX_TRIAL_CLOCKS → elaborated the_library (chain_file where_at n) ≡ Ok (chain n)
elaborated_as where_at n few =
    let is = expanded where_at n (omega arith) in
    let accepts : refusal the_library (chain_file where_at n) ≡ None =
    ap₂ refusal_with (ap least (no-faults where_at n (omega arith))) is ∙ totals-none (chain n) (accepted n few) in
    ap₂ answer accepts is
