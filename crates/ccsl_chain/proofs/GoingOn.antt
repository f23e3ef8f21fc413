-- After every run of a chain some clock may tick alone: the first one that is level with the next one, or the last.
use Rattle.std.proofs.Common.{◌≡◌, ◌≢◌, ℕ, zero, suc, ◌+◌, ◌-◌, ◌*◌, ◌<◌, ◌≤◌, List, [], ◌∷◌, length, Bool, true, false, not, ◌&&◌, ◌||◌, cond, nat_eq, nat_lt}
use Rattle.std.proofs.Common.{nat_le, filter, refl, sym, ap, ap₂, ◌∙◌, subst, ◌⊎◌, inl, inr, ⊎_elim, arith, lt-ltb, le-ltb, eq-eqb, if◌then◌else◌}
use Rattle.std.proofs.lemmas.Bool.{cases_lt, cases_eq, cond-false, ne_eqb, leb-true, ltb-true, and_from, and_parts}
use Rattle.ccsl_base.specs.Clocks.{ticks_in, is_ascending, are_below}
use Rattle.ccsl_formula.specs.Formula.{FFalse, FTrue, FVar, FNot, eval, same}
use Rattle.ccsl_kernel.specs.declared.constraint.RelationKind.TheVariants.{Precedes}
use Rattle.ccsl_kernel.specs.Syntax.{item_count}
use Rattle.ccsl_kernel.specs.Lives.{Step}
use Rattle.ccsl_kernel.specs.Items.{clock_count, relation_formula, item_formula}
use Rattle.ccsl_kernel.specs.Laws.{ExtendsToStep}
use Rattle.ccsl_kernel.specs.Runs.{IsRun, declared_part, is_named}
use Rattle.ccsl_kernel.proofs.Quiet.{eval_cond}
use Rattle.ccsl_chain.specs.Chain.{chain}
use Rattle.ccsl_chain.proofs.Alternating.{alternates, first_item, second_item, hidden-formula, first-formula, second-formula, item_count-chain}
use Rattle.ccsl_chain.proofs.Alternating.{length-definitions}
use Rattle.ccsl_formula.proofs.Same.{same-if}

-- ## The clock that ticks

-- of m + 1 counts the first one that is that of the next, or the last
record IsFree (count : ℕ → ℕ) (m i : ℕ) : Type 0 where
  pub low : i ≤ m
  pub level : i < m → count i ≡ count (i + 1)
  pub ahead : (j : ℕ) → j + 1 ≡ i → count j ≢ count i

free : (count : ℕ → ℕ) (m : ℕ) → (i : ℕ) × IsFree count m i
free count zero = (0, record { low = omega arith; level = λ l. absurd (omega arith); ahead = λ j e. absurd (omega arith) })
free count (suc m) = on (free count m)
  where
    on : (i : ℕ) × IsFree count m i → (i : ℕ) × IsFree count (suc m) i
    on (i, f) =
        ⊎_elim
        (λ (l : i < m). (i, record { low = omega arith; level = λ l'. f.level l; ahead = f.ahead }))
        (λ (l : m ≤ i).
        let same : i ≡ m = omega (arith, f.low) in
        ⊎_elim
        (λ (e : count m ≡ count (m + 1)). (
          i,
          record {
            low = omega arith;
            level = λ l'. ap count same ∙ e ∙ ap (λ k. count (k + 1)) (sym same);
            ahead =
                f.ahead;
          },
        ))
        (λ (ne : count m ≡ count (m + 1) → ⊥). (
          m + 1,
          record {
            low = omega arith;
            level = λ l'. absurd (omega arith);
            ahead = λ j e h. ne (ap count (let s : m ≡ j = omega arith in s) ∙ h);
          },
        ))
        (cases_eq (count m) (count (m + 1))))
        (cases_lt i m)

-- ## The step in which it ticks alone, with its hidden clock or without

abbrev alone : ℕ → ℕ → Bool → Step
alone n i t = i ∷ (if t then (n + i) ∷ [] else [])

quiet : (n i : ℕ) (t : Bool) (x : ℕ) → x ≢ i → x ≢ n + i → ticks_in x (alone n i t) ≡ false
quiet n i true x ne ne' = ap₂ (λ a b. a || (b || false)) (ne_eqb x i ne) (ne_eqb x (n + i) ne')
quiet n i false x ne ne' = ap (λ a. a || false) (ne_eqb x i ne)

itself : (n i : ℕ) (t : Bool) → ticks_in i (alone n i t) ≡ true
itself n i t = ap (λ a. a || ticks_in i (if t then (n + i) ∷ [] else [])) (eq-eqb i i refl)

hidden : (n i : ℕ) (t : Bool) → 0 < n → ticks_in (n + i) (alone n i t) ≡ t
hidden n i true pos = ap₂ (λ a b. a || (b || false)) (ne_eqb (n + i) i (λ e. omega arith)) (eq-eqb (n + i) (n + i) refl)
hidden n i false pos = ap (λ a. a || false) (ne_eqb (n + i) i (λ e. omega arith))

ascending : (n i : ℕ) (t : Bool) → 0 < n → is_ascending (alone n i t) ≡ true
ascending n i true pos = ap (λ b. (b && true) && true) (lt-ltb i (n + i) (omega arith))
ascending n i false pos = refl

below : (n i bound : ℕ) (t : Bool) → i < bound → (t ≡ true → n + i < bound) → are_below bound (alone n i t) ≡ true
below n i bound true l u = ap₂ (λ a b. a && (b && true)) (lt-ltb i bound l) (lt-ltb (n + i) bound (u refl))
below n i bound false l u = ap (λ a. a && true) (lt-ltb i bound l)

declared : (n i : ℕ) (t : Bool) → i < n → filter (λ x. nat_lt x n) (alone n i t) ≡ i ∷ []
declared n i true l = ap₂ (λ a b. let rest = cond b ((n + i) ∷ []) [] in cond a (i ∷ rest) rest) (lt-ltb i n l) (le-ltb (n + i) n (omega arith))
declared n i false l = ap (λ a. cond a (i ∷ []) []) (lt-ltb i n l)

-- ## Precedence, where the counts differ, and where the right clock does not tick

differ : (a b p q : ℕ) (s : Step) → p ≢ q → eval (relation_formula Precedes a b p q) s ≡ true
differ a b p q s ne = eval_cond (nat_eq p q) (FNot (FVar b)) FTrue s ∙ cond-false (nat_eq p q) (not (ticks_in b s)) true (ne_eqb p q ne)

silent : (a b p q : ℕ) (s : Step) → ticks_in b s ≡ false → eval (relation_formula Precedes a b p q) s ≡ true
silent a b p q s e = eval_cond (nat_eq p q) (FNot (FVar b)) FTrue s ∙ ap (λ t. if nat_eq p q then not t else true) e ∙ both (nat_eq p q)
  where
    both : (c : Bool) → (if c then true else true) ≡ true
    both true = refl
    both false = refl

-- ## It may tick

module _ (n : ℕ) (pos : 0 < n) (T : List Step) (run : IsRun (chain n) T) where
  abbrev count : ℕ → ℕ
  count x = clock_count T x (length T)

  module _ (i : ℕ) (f : IsFree count (n - 1) i) where
    -- whether the hidden clock ticks with it
    abbrev follows : Bool
    follows = nat_lt i (n - 1) && nat_le 1 (count i)

    abbrev step : Step
    step = alone n i follows

    in_chain : follows ≡ true → i < n - 1
    in_chain h = ltb-true i (n - 1) (and_parts (nat_lt i (n - 1)) (nat_le 1 (count i)) h).0

    ticked : follows ≡ true → 1 ≤ count i
    ticked h = leb-true 1 (count i) (and_parts (nat_lt i (n - 1)) (nat_le 1 (count i)) h).1

    hidden-holds : (j : ℕ) → j < n - 1 → ticks_in (n + j) step ≡ (if nat_le 1 (count j) then ticks_in j step else false)
    hidden-holds j l = ⊎_elim here away (cases_eq j i)
      where
        when : (c : Bool) → c ≡ (if c then true else false)
        when true = refl
        when false = refl

        never : (c : Bool) → false ≡ (if c then false else false)
        never true = refl
        never false = refl

        here : j ≡ i → ticks_in (n + j) step ≡ (if nat_le 1 (count j) then ticks_in j step else false)
        here e =
            subst (λ k. ticks_in (n + k) step ≡ (if nat_le 1 (count k) then ticks_in k step else false)) (sym e)
            (hidden n i follows pos
            ∙ ap (λ b. b && nat_le 1 (count i)) (lt-ltb i (n - 1) (let s : i < n - 1 = omega arith in s))
            ∙ when (nat_le 1 (count i))
            ∙ ap (λ t. if nat_le 1 (count i) then t else false) (sym (itself n i follows)))

        away : (j ≡ i → ⊥) → ticks_in (n + j) step ≡ (if nat_le 1 (count j) then ticks_in j step else false)
        away ne =
            quiet n i follows (n + j) (λ e. omega (arith, f.low)) (λ e. ne (omega arith))
            ∙ never (nat_le 1 (count j))
            ∙ ap (λ t. if nat_le 1 (count j) then t else false) (sym (quiet n i follows j ne (λ e. omega (arith, f.low))))

    hidden-item : (j : ℕ) → j < n - 1 → eval (item_formula (chain n) T (length T) j) step ≡ true
    hidden-item j l =
        ap (λ g. eval g step) (hidden-formula n T (length T) j l (omega arith))
        ∙ same-if (ticks_in (n + j) step) (eval (if nat_le 1 (count j) then FVar j else FFalse) step)
        (hidden-holds j l ∙ sym (eval_cond (nat_le 1 (count j)) (FVar j) FFalse step))

    first-item : (j : ℕ) → j < n - 1 → eval (item_formula (chain n) T (length T) (first_item n j)) step ≡ true
    first-item j l =
        ap (λ g. eval g step) (first-formula n T (length T) j l)
        ∙ ⊎_elim
        (λ (e : j + 1 ≡ i). differ j (j + 1) (count j) (count (j + 1)) step (λ h. f.ahead j e (h ∙ ap count e)))
        (λ (ne : j + 1 ≡ i → ⊥). silent j (j + 1) (count j) (count (j + 1)) step (quiet n i follows (j + 1) ne (λ e. omega arith)))
        (cases_eq (j + 1) i)

    second-item : (j : ℕ) → j < n - 1 → eval (item_formula (chain n) T (length T) (second_item n j)) step ≡ true
    second-item j l =
        ap (λ g. eval g step) (second-formula n T (length T) j l)
        ∙ ⊎_elim
        (λ (e : j ≡ i). here e follows refl)
        (λ (ne : j ≡ i → ⊥). silent (j + 1) (n + j) (count (j + 1)) (count (n + j)) step
        (quiet n i follows (n + j) (λ e. omega (arith, f.low)) (λ e. ne (omega arith))))
        (cases_eq j i)
      where
        here : j ≡ i → (t : Bool) → follows ≡ t → eval (relation_formula Precedes (j + 1) (n + j) (count (j + 1)) (count (n + j))) step ≡ true
        here e true h =
            let level : count j ≡ count (j + 1) = ap count e ∙ f.level (in_chain h) ∙ ap (λ k. count (k + 1)) (sym e) in
            let some : 1 ≤ count j = subst (λ k. 1 ≤ count k) (sym e) (ticked h) in
            let counts = (alternates n T run j l (length T) (omega arith)).hidden in
            differ (j + 1) (n + j) (count (j + 1)) (count (n + j)) step (λ same. omega arith)
        here e false h = silent (j + 1) (n + j) (count (j + 1)) (count (n + j)) step (ap (λ k. ticks_in (n + k) step) e ∙ hidden n i follows pos ∙ h)

    items : (k : ℕ) → k < item_count (chain n) → eval (item_formula (chain n) T (length T) k) step ≡ true
    items k u = ⊎_elim (λ (l : k < n - 1). hidden-item k l) (λ (l : n - 1 ≤ k). pair l (halves (k - (n - 1)))) (cases_lt k (n - 1))
      where
        halves : (r : ℕ) → (j : ℕ) × ((r ≡ 2 * j) ⊎ (r ≡ 2 * j + 1))
        halves zero = (0, inl refl)
        halves (suc r) = next (halves r)
          where
            next : (j : ℕ) × ((r ≡ 2 * j) ⊎ (r ≡ 2 * j + 1)) → (j : ℕ) × ((suc r ≡ 2 * j) ⊎ (suc r ≡ 2 * j + 1))
            next (j, inl e) = (j, inr (omega arith))
            next (j, inr e) = (j + 1, inl (omega arith))

        pair : n - 1 ≤ k → (j : ℕ) × ((k - (n - 1) ≡ 2 * j) ⊎ (k - (n - 1) ≡ 2 * j + 1)) → eval (item_formula (chain n) T (length T) k) step ≡ true
        pair l (j, inl e) =
            ap (λ m. eval (item_formula (chain n) T (length T) m) step) (let s : k ≡ first_item n j = omega arith in s)
            ∙ first-item j (omega (arith, item_count-chain n))
        pair l (j, inr e) =
            ap (λ m. eval (item_formula (chain n) T (length T) m) step) (let s : k ≡ second_item n j = omega arith in s)
            ∙ second-item j (omega (arith, item_count-chain n))

    named : is_named (chain n) step ≡ true
    unfolding chain
    named =
        and_from (is_ascending step) (are_below (n + length (chain n).definitions) step) (ascending n i follows pos)
        (below n i (n + length (chain n).definitions) follows (omega (arith, f.low)) (λ h. omega (arith, in_chain h, length-definitions n)))

    declared-alone : declared_part (chain n) step ≡ i ∷ []
    unfolding chain
    declared-alone = declared n i follows (omega (arith, f.low))

    extends : ExtendsToStep (chain n) T (i ∷ [])
    extends = record { step = step; named = named; items = items; declared = declared-alone }

  -- A CHAIN GOES ON
  pub goes_on : (s : Step) × (s ≢ []) × ExtendsToStep (chain n) T s
  goes_on = on (free count (n - 1))
    where
      on : (i : ℕ) × IsFree count (n - 1) i → (s : Step) × (s ≢ []) × ExtendsToStep (chain n) T s
      on (i, f) = (i ∷ [], (λ e. cc), extends i f)
