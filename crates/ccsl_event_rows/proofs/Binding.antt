-- A clock is bound to the declaration of its name.
use Rattle.std.proofs.Common.{◌≡◌, ℕ, zero, suc, ◌+◌, ◌≤◌, List, [], ◌∷◌, ◌++◌, length, map, filter, take, Bool, true, false, ◌&&◌, not, nat_lt}
use Rattle.std.proofs.Common.{cond, Option, Some, None, Result, Ok, refl, sym, ap, ap₂, ◌∙◌, arith}
use Rattle.std.specs.List.{list_all}
use Rattle.std.specs.Str.{bytes_eq}
use Rattle.std.proofs.lemmas.Bool.{and_parts, not-true, le-ltb}
use Rattle.std.proofs.lemmas.List.{map-append}
use Rattle.std.proofs.lemmas.List.Elements.{filter-append}
use Rattle.ccsl_base.specs.Names.{is_among, are_distinct}
use Rattle.ccsl_base.proofs.Tables.{bytes_eq-true, bytes_eq-comm}
use Rattle.ccsl_vcd.specs.declared.fault.VcdFault.{VcdFault}
use Rattle.ccsl_vcd.specs.Binding.{Declaration, Wanted, Bound, qualifies, candidates, outermost, joined, bind_from, bind_one, bind}
use Rattle.ccsl_vcd.specs.Places.{Change}
use Rattle.ccsl_vcd.specs.Rows.{ticks}
use Rattle.ccsl_vcd_write.proofs.HeaderStory.{declaration, declarations}
use Rattle.ccsl_vcd_write.proofs.Binds.{bounds, others-away, binds}
use Rattle.ccsl_vcd_write.specs.Code.{code_of}
use Rattle.ccsl_vcd_write.proofs.BodyStory.{step_changes}
use Rattle.ccsl_vcd_write.proofs.StepRows.{IsWithin, are-below, picked, event-member}
use Rattle.ccsl_event_rows.specs.ReadsBack.{named, clocks_from}
use Rattle.ccsl_event_rows.proofs.Numbers.{number_of, none-among, some-among, number-told, none-told}
use Rattle.ccsl_base.proofs.Sets.{by_case}

-- the declaration of a name by its number, where it has one
abbrev declared_as : List ℕ → Option ℕ → List Declaration
declared_as name None = []
declared_as name (Some n) = declaration n name ∷ []

none-there : (name : List ℕ) (first : ℕ) (names : List (List ℕ)) → are_distinct names ≡ true
    → filter (qualifies name) (declarations first names) ≡ declared_as name (number_of first name names)
none-there name first [] d = refl
none-there name first (n ∷ names) d =
    let parts = and_parts (not (is_among n names)) (are_distinct names) d in
    let rest : List Declaration = filter (qualifies name) (declarations (first + 1) names) in
    ap (λ w. cond (w && true) (declaration first n ∷ rest) rest) (bytes_eq-comm n name)
    ∙ by_case (bytes_eq name n) _
    (λ t.
    let same : name ≡ n = bytes_eq-true name n t in
    let away : is_among name names ≡ false = ap (λ (m : List ℕ). is_among m names) same ∙ not-true (is_among n names) parts.0 in
    ap (λ w. cond (w && true) (declaration first n ∷ rest) rest) t
    ∙ ap₂ (λ (m : List ℕ) (ds : List Declaration). declaration first m ∷ ds) (sym same) (others-away name (first + 1) names away)
    ∙ sym (ap (λ w. declared_as name (cond w (Some first) (number_of (first + 1) name names))) t))
    (λ f.
    ap (λ w. cond (w && true) (declaration first n ∷ rest) rest) f
    ∙ none-there name (first + 1) names parts.1
    ∙ sym (ap (λ w. declared_as name (cond w (Some first) (number_of (first + 1) name names))) f))

-- what a clock is bound to
abbrev bound_as : ℕ → Option ℕ → List Bound
bound_as clock None = []
bound_as clock (Some n) = record { clock = clock; code = code_of n; event = true } ∷ []

abbrev pub bound_from : List (List ℕ) → ℕ → List (List ℕ) → List Bound
bound_from names clock [] = []
bound_from names clock (name ∷ wanted) = bound_as clock (number_of 0 name names) ++ bound_from names (clock + 1) wanted

-- a clock with a number is bound, and one without a number where it has not to be
binds-one : (clock : ℕ) (must : Bool) (name : List ℕ) (number : Option ℕ) → (number ≡ None → must ≡ false)
    → bind_one clock must (outermost (declared_as name number)) ≡ Ok (bound_as clock number)
binds-one clock must name None h = rw (h refl) refl
binds-one clock must name (Some n) h = refl

must-none : (must : Bool) (name : List ℕ) (names : List (List ℕ)) → (must ≡ true → is_among name names ≡ true) → number_of 0 name names ≡ None → must ≡ false
must-none true name names h e = absurd (let t : true ≡ false = sym (h refl) ∙ none-among 0 name names e in cc)
must-none false name names h e = refl

module _ (names : List (List ℕ)) (d : are_distinct names ≡ true) where
  abbrev ds : List Declaration
  ds = declarations 0 names

  one-bound : (clock : ℕ) (must : Bool) (name : List ℕ) → (must ≡ true → is_among name names ≡ true)
      → bind_one clock must (candidates name ds) ≡ Ok (bound_as clock (number_of 0 name names))
  one-bound clock must name h =
      ap (λ (xs : List Declaration). bind_one clock must (outermost xs)) (none-there name 0 names d)
      ∙ binds-one clock must name (number_of 0 name names) (must-none must name names h)

  both : (clock : ℕ) (must : Bool) (name : List ℕ) (declared : ℕ) (wanted : List (List ℕ)) → (must ≡ true → is_among name names ≡ true)
      → bind_from (clock + 1) declared wanted ds ≡ Ok (bound_from names (clock + 1) wanted)
      → joined (bind_one clock must (candidates name ds)) (bind_from (clock + 1) declared wanted ds) ≡ Ok (bound_from names clock (name ∷ wanted))
  both clock must name declared wanted h e =
      ap₂ (λ (r s : Result (List Bound) VcdFault). joined r s) (one-bound clock must name h) e

  -- the first clocks have to be bound
  binds-from : (declared clock k : ℕ) (wanted : List (List ℕ)) → clock + k ≡ declared → list_all (λ name. is_among name names) (take k wanted) ≡ true
      → bind_from clock declared wanted ds ≡ Ok (bound_from names clock wanted)
  binds-from declared clock k [] e h = refl
  binds-from declared clock zero (name ∷ wanted) e h =
      both clock (nat_lt clock declared) name declared wanted (λ t. absurd (let f : true ≡ false = sym t ∙ le-ltb clock declared (omega arith) in cc))
      (free-from declared (clock + 1) wanted (omega arith))
    where
      free-from : (declared clock : ℕ) (wanted : List (List ℕ)) → declared ≤ clock → bind_from clock declared wanted ds ≡ Ok (bound_from names clock wanted)
      free-from declared clock [] l = refl
      free-from declared clock (name ∷ wanted) l =
          both clock (nat_lt clock declared) name declared wanted (λ t. absurd (let f : true ≡ false = sym t ∙ le-ltb clock declared l in cc))
          (free-from declared (clock + 1) wanted (omega arith))
  binds-from declared clock (suc k) (name ∷ wanted) e h =
      let parts = and_parts (is_among name names) (list_all (λ name. is_among name names) (take k wanted)) h in
      both clock (nat_lt clock declared) name declared wanted (λ t. parts.0) (binds-from declared (clock + 1) k wanted (omega arith) parts.1)

  -- Each clock whose name is among these is bound to it.
  pub binds-named : (w : Wanted) → list_all (λ name. is_among name names) (take w.declared w.names) ≡ true → bind w ds ≡ Ok (bound_from names 0 w.names)
  unfolding bind
  binds-named w h = binds-from w.declared 0 w.declared w.names (omega arith) h

  clock-bound : (clock : ℕ) (name : List ℕ) (wanted : List (List ℕ)) (xs : List (List ℕ)) (b : Bool) → is_among name xs ≡ b
      → clocks_from clock (name ∷ wanted) xs ≡ cond b (clock ∷ clocks_from (clock + 1) wanted xs) (clocks_from (clock + 1) wanted xs)
  clock-bound clock name wanted xs b e = ap (λ t. cond t (clock ∷ clocks_from (clock + 1) wanted xs) (clocks_from (clock + 1) wanted xs)) e

  -- The bound clocks are those whose names are among these.
  pub clocks-bound : (clock : ℕ) (wanted : List (List ℕ)) → map (λ (b : Bound). b.clock) (bound_from names clock wanted) ≡ clocks_from clock wanted names
  clocks-bound clock [] = refl
  clocks-bound clock (name ∷ wanted) =
      map-append (λ (b : Bound). b.clock) (bound_as clock (number_of 0 name names)) (bound_from names (clock + 1) wanted)
      ∙ ap (λ (xs : List ℕ). map (λ (b : Bound). b.clock) (bound_as clock (number_of 0 name names)) ++ xs) (clocks-bound (clock + 1) wanted)
      ∙ (elim (number_of 0 name names) as
      (λ o. number_of 0 name names ≡ o
      → map (λ (b : Bound). b.clock) (bound_as clock o) ++ clocks_from (clock + 1) wanted names ≡ clocks_from clock (name ∷ wanted) names) [
        | None ↦ λ e. sym (clock-bound clock name wanted names false (none-among 0 name names e))
        | Some n ↦ λ e. sym (clock-bound clock name wanted names true (some-among 0 name names n e))
      ]) refl

  -- TICKS

  module _ (time : ℕ) (old : List Change) (xs : List ℕ) (within : IsWithin 0 (length names) xs) where
    abbrev test : Bound → Bool
    test = ticks (step_changes time xs) old

    -- The clocks that tick are those whose names happen.
    pub clocks-tick : (clock : ℕ) (wanted : List (List ℕ))
        → map (λ (b : Bound). b.clock) (filter test (bound_from names clock wanted)) ≡ clocks_from clock wanted (named names xs)
    clocks-tick clock [] = refl
    clocks-tick clock (name ∷ wanted) =
        let more : List Bound = bound_from names (clock + 1) wanted in
        ap (map (λ (b : Bound). b.clock)) (filter-append test (bound_as clock (number_of 0 name names)) more)
        ∙ map-append (λ (b : Bound). b.clock) (filter test (bound_as clock (number_of 0 name names))) (filter test more)
        ∙ ap (λ (ys : List ℕ). map (λ (b : Bound). b.clock) (filter test (bound_as clock (number_of 0 name names))) ++ ys) (clocks-tick (clock + 1) wanted)
        ∙ (elim (number_of 0 name names) as
        (λ o. number_of 0 name names ≡ o
        → map (λ (b : Bound). b.clock) (filter test (bound_as clock o)) ++ clocks_from (clock + 1) wanted (named names xs)
        ≡ clocks_from clock (name ∷ wanted) (named names xs)) [
          | None ↦ λ e. sym (clock-bound clock name wanted (named names xs) false
              (none-told name names xs (none-among 0 name names e) (are-below 0 (length names) xs within)))
          | Some n ↦ λ e. by-number clock n name wanted e
        ]) refl
      where
        front : (b : Bool) (clock n : ℕ) (ys : List ℕ)
            → map (λ (b : Bound). b.clock) (cond b (record { clock = clock; code = code_of n; event = true } ∷ []) []) ++ ys ≡ cond b (clock ∷ ys) ys
        front true clock n ys = refl
        front false clock n ys = refl

        by-number : (clock n : ℕ) (name : List ℕ) (wanted : List (List ℕ)) → number_of 0 name names ≡ Some n
            → map (λ (b : Bound). b.clock) (filter test (bound_as clock (Some n))) ++ clocks_from (clock + 1) wanted (named names xs)
            ≡ clocks_from clock (name ∷ wanted) (named names xs)
        by-number clock n name wanted e =
            let rest : List ℕ = clocks_from (clock + 1) wanted (named names xs) in
            let told : test (record { clock = clock; code = code_of n; event = true }) ≡ is_among name (named names xs) =
            event-member time n xs ∙ number-told name names n xs e d (are-below 0 (length names) xs within) in
            front (test (record { clock = clock; code = code_of n; event = true })) clock n rest ∙ ap (λ b. cond b (clock ∷ rest) rest) told

    -- Where the clocks have just these names, each has the number of its name.
    pub own-tick : clocks_from 0 names (named names xs) ≡ xs
    own-tick =
        let w : Wanted = record { names = names; declared = 0 } in
        let same : Ok (bound_from names 0 names) ≡ Ok (bounds 0 (length names)) = sym (binds-named w refl) ∙ binds 0 names d in
        let is : bound_from names 0 names ≡ bounds 0 (length names) = cc in
        sym (clocks-tick 0 names) ∙ ap (λ (bs : List Bound). map (λ (b : Bound). b.clock) (filter test bs)) is
        ∙ picked test 0 (length names) (length names) xs (omega arith) within (λ y l. event-member time y xs)
