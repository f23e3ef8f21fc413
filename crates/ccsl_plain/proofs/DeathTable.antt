-- The table of deaths, and what is followed with it.
use Rattle.std.proofs.Common.{◌≡◌, ℕ, zero, suc, ◌+◌, ◌-◌, ◌<◌, ◌≤◌, ⊎_elim, List, [], ◌∷◌, ◌++◌, map, length, get_or, Bool, false, Some, None, slice_get}
use Rattle.std.proofs.Common.{if◌then◌else◌, refl, sym, ap, ap₂, ◌∙◌, arith, length-append, lt-ltb, le-ltb}
use Rattle.std.proofs.lemmas.Bool.{cases_lt, ne_eqb}
use Rattle.std.proofs.lemmas.List.{get_or_past}
use Rattle.std.proofs.Math.ListN.{get_or-append}
use Rattle.std.proofs.Math.Seq.{get_or-append_seam}
use Rattle.ccsl_formula.specs.Formula.{Formula, FVar, FIff}
use Rattle.ccsl_kernel.specs.Syntax.{Expression, System, definition_of}
use Rattle.ccsl_kernel.specs.Table.{Now}
use Rattle.ccsl_kernel.specs.Lives.{Step, steps}
use Rattle.ccsl_kernel.specs.Meaning.{definition_dead, dead_below, meaning, formula_at}
use Rattle.ccsl_plain.specs.Course.{Course, now_of, opening, grown, course_life}
use Rattle.ccsl_plain.specs.Held.{gone_at}
use Rattle.ccsl_kernel.specs.Items.{item_formula}
use Rattle.ccsl_plain.specs.Columns.{column, columns}
use Rattle.ccsl_kernel.proofs.GuardedCalls.{IsGuarded}
use Rattle.ccsl_kernel.proofs.Steps.{map-steps, map-steps-suc}
use Rattle.ccsl_kernel.proofs.TableHolds.{first_steps_matter}
use Rattle.ccsl_kernel.proofs.Definitions.{choice, definitions-are, dead_below-at, definition_allowed}
use Rattle.ccsl_kernel.proofs.ItemCases.{item-definition}
use Rattle.ccsl_plain.proofs.Follows.{course_is}

-- one value for each step
length-steps : {X : Type 0} (f : ℕ → X) (n : ℕ) → length (map f (steps 0 n)) ≡ n
length-steps f zero = refl
length-steps f (suc n) =
    ap length (map-steps-suc f 0 n (omega arith)) ∙ (let e = length-steps f n in omega (arith, e, length-append (map f (steps 0 n)) (f n ∷ [])))

steps-at : {X : Type 0} (f : ℕ → X) (n i : ℕ) (d : X) → i < n → get_or (map f (steps 0 n)) i d ≡ f i
steps-at f zero i d l = let z : ⊥ = omega arith in absurd z
steps-at {X} f (suc n) i d l =
    ap (λ (xs : List X). get_or xs i d) (map-steps-suc f 0 n (omega arith))
    ∙ ⊎_elim
    (λ (m : i < n). get_or-append (map f (steps 0 n)) (f n ∷ []) d i (omega (arith, length-steps f n, m)) ∙ steps-at f n i d m)
    (λ (m : n ≤ i).
    let at : i ≡ length (map f (steps 0 n)) = omega (arith, length-steps f n) in
    ap (λ k. get_or (map f (steps 0 n) ++ f n ∷ []) k d) at ∙ get_or-append_seam (map f (steps 0 n)) (f n) [] d ∙ ap f (let same : n ≡ i = omega arith in same))
    (cases_lt i n)

module _ (K : System) (T : List Step) where
  length-columns : (j : ℕ) → length (columns K T j) ≡ j
  length-columns zero = refl
  length-columns (suc j) = let e = length-columns j in omega (arith, e, length-append (columns K T j) (column K T (K.declared + j) ∷ []))

  columns-at : (j k : ℕ) → k < j → get_or (columns K T j) k [] ≡ column K T (K.declared + k)
  columns-at zero k l = let z : ⊥ = omega arith in absurd z
  columns-at (suc j) k l =
      ⊎_elim
      (λ (m : k < j). get_or-append (columns K T j) (column K T (K.declared + j) ∷ []) [] k (omega (arith, length-columns j, m)) ∙ columns-at j k m)
      (λ (m : j ≤ k).
      let at : k ≡ length (columns K T j) = omega (arith, length-columns j) in
      ap (λ i. get_or (columns K T j ++ column K T (K.declared + j) ∷ []) i []) at ∙ get_or-append_seam (columns K T j) (column K T (K.declared + j)) [] []
      ∙ ap (λ i. column K T (K.declared + i)) (let same : j ≡ k = omega arith in same))
      (cases_lt k j)

  dead_below-past : (x n y : ℕ) → x ≤ y → dead_below K T x n y ≡ false
  dead_below-past zero n y l = refl
  dead_below-past (suc x) n y l =
      ap (λ t. choice t (definition_dead K T (dead_below K T x) n (definition_of K x)) (dead_below K T x n y)) (ne_eqb y x (λ e. omega arith))
      ∙ dead_below-past x n y (omega arith)

  -- the table tells which clocks are dead
  pub table_tells : (j n y : ℕ) → n ≤ length T → gone_at K.declared (columns K T j) n y ≡ dead_below K T (K.declared + j) n y
  table_tells j n y u =
      ⊎_elim
      (λ (l : y < K.declared).
      ap (λ t. if t then false else get_or (get_or (columns K T j) (y - K.declared) []) n false) (lt-ltb y K.declared l)
      ∙ sym (dead_below-at K T (K.declared + j) n y (omega arith)
      ∙ ap (λ t. definition_dead K T (dead_below K T y) n (if t then None else slice_get K.definitions (y - K.declared))) (lt-ltb y K.declared l)))
      (λ (l : K.declared ≤ y).
      ap (λ t. if t then false else get_or (get_or (columns K T j) (y - K.declared) []) n false) (le-ltb y K.declared l)
      ∙ ⊎_elim
      (λ (m : y < K.declared + j).
      let at : K.declared + (y - K.declared) ≡ y = omega arith in
      ap (λ col. get_or col n false) (columns-at j (y - K.declared) (omega arith) ∙ ap (column K T) at)
      ∙ steps-at (λ i. definition_dead K T (dead_below K T y) i (definition_of K y)) (suc (length T)) n false (omega arith)
      ∙ sym (dead_below-at K T (K.declared + j) n y m))
      (λ (m : K.declared + j ≤ y).
      ap (λ col. get_or col n false) (get_or_past (columns K T j) (y - K.declared) [] (omega (arith, length-columns j)))
      ∙ sym (dead_below-past (K.declared + j) n y m))
      (cases_lt y (K.declared + j)))
      (cases_lt y K.declared)

  module _ (ok : IsGuarded K) (j : ℕ) (e : Expression) (is : slice_get K.definitions j ≡ Some e) where
    defined : definition_of K (K.declared + j) ≡ Some e
    defined = sym (definitions-are K j) ∙ is

    -- what is followed under the table is the meaning of the definition
    pub followed_is : (n : ℕ) → n ≤ length T → course_life K T (gone_at K.declared (columns K T j)) e [] 0 n ≡ meaning K T (K.declared + j) e [] 0 n
    followed_is n u =
        course_is K ok.bodies T (gone_at K.declared (columns K T j)) e [] 0 n (definition_allowed K ok (K.declared + j) e defined) (omega arith) u
        ∙ first_steps_matter K T T (gone_at K.declared (columns K T j)) (dead_below K T (K.declared + j)) ok.bodies e [] 0 n
        (definition_allowed K ok (K.declared + j) e defined) (omega arith) u u
        (λ i l. refl) (λ i y l. table_tells j i y (omega arith))

    -- and so are its deaths
    pub followed_column : map (λ n. (course_life K T (gone_at K.declared (columns K T j)) e [] 0 n).dead) (steps 0 (suc (length T))) ≡ column K T
        (K.declared + j)
    followed_column =
        map-steps (λ n. (course_life K T (gone_at K.declared (columns K T j)) e [] 0 n).dead)
        (λ n. definition_dead K T (dead_below K T (K.declared + j)) n (definition_of K (K.declared + j))) 0 (suc (length T))
        (λ n l u. ap (λ (now : Now). now.dead) (followed_is n (omega arith)) ∙ sym (ap (definition_dead K T (dead_below K T (K.declared + j)) n) defined))

    pub followed_formula : (course_life K T (gone_at K.declared (columns K T j)) e [] 0 (length T)).formula ≡ formula_at K T (K.declared + j) e [] 0 (length T)
    followed_formula = ap (λ (now : Now). now.formula) (followed_is (length T) (omega arith))

    -- one more column, where the table is held under other names
    pub column_step : (declared : ℕ) (held old new : List (List Bool)) (more : List Bool) → declared ≡ K.declared → held ≡ old → old ≡ columns K T j →
        more ≡ map (λ n. (course_life K T (gone_at declared held) e [] 0 n).dead) (steps 0 (suc (length T))) → new ≡ old ++ more ∷ []
        → new ≡ columns K T (j + 1)
    column_step declared held old new more d h o m n =
        let one : suc j ≡ j + 1 = omega arith in
        n
        ∙ ap₂ (λ xs x. xs ++ x ∷ []) o (m ∙ ap₂ (λ d h. map (λ n. (course_life K T (gone_at d h) e [] 0 n).dead) (steps 0 (suc (length T)))) d (h ∙ o)
        ∙ followed_column)
        ∙ ap (columns K T) one

    -- the formula of the definition, from that of the course that was followed
    pub formula_step : (declared : ℕ) (held : List (List Bool)) (asked : Formula) (c : Course) → declared ≡ K.declared → held ≡ columns K T j →
        c ≡ grown K T (gone_at declared held) (opening K e []) 0 (length T) → ((gone : ℕ → Bool) → asked ≡ (now_of gone c).formula) →
        FIff (FVar (declared + j)) asked ≡ item_formula K T (length T) j
    formula_step declared held asked c d h at f =
        ap₂ (λ x g. FIff (FVar (x + j)) g) d
        (f (gone_at declared held (length T))
        ∙ ap (λ c. (now_of (gone_at declared held (length T)) c).formula) at
        ∙ ap₂ (λ d h. (course_life K T (gone_at d h) e [] 0 (length T)).formula) d h
        ∙ followed_formula)
        ∙ sym (item-definition K T (length T) j e is)
