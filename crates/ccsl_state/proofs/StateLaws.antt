-- The trees of a system after one more step, and that they give the meaning.
use Rattle.std.proofs.lemmas.Grind.{common_steps}
use Rattle.std.proofs.Common.{◌≡◌, ℕ, zero, suc, ◌+◌, ◌-◌, ◌<◌, ◌≤◌, List, [], ◌∷◌, ◌++◌, length, Bool, true, false, Some, None, slice_get}
use Rattle.std.proofs.Common.{if◌then◌else◌, refl, sym, ap, ap₂, ◌∙◌, arith, length-append, lt-ltb}
use mathlib.Core.Path.{fun_ext}
use Rattle.ccsl_base.specs.Clocks.{ticks_in, with_clock}
use Rattle.ccsl_kernel.specs.Syntax.{Expression, System, definition_of}
use Rattle.ccsl_kernel.specs.Lives.{Step, step_at}
use Rattle.ccsl_kernel.specs.Table.{Now}
use Rattle.ccsl_kernel.specs.Meaning.{definition_dead, dead_below, meaning, formula_at}
use Rattle.ccsl_kernel.proofs.GuardedCalls.{IsGuarded}
use Rattle.ccsl_kernel.proofs.Steps.{from_birth}
use Rattle.ccsl_kernel.specs.Runs.{derived_from as kernel_derived, full_step}
use Rattle.ccsl_formula.specs.Formula.{eval}
use Rattle.ccsl_kernel.proofs.Definitions.{step_at-front, step_at-last, definitions-are, dead_below-at, definition_allowed, dead_below-same}
use Rattle.ccsl_base.proofs.Sets.{ticks_in-with_same, ticks_in-with_other}
use Rattle.ccsl_state.specs.Tree.{most, Tree, opening, next, formula_of, dead_of}
use Rattle.ccsl_state.specs.Grown.{grown}
use Rattle.ccsl_state.specs.Moves.{gone_in}
use Rattle.ccsl_state.specs.States.{put, next_all, deaths_from, derived_in, tree_after, trees_from, trees_after, opened_all}
use Rattle.ccsl_state.proofs.TreeFollows.{grown-suc, grown-first, tree_theorem}

-- a state depends on the steps and deaths that it saw
grown_same : (K : System) (T T' : List Step) (gone gone' : ℕ → ℕ → Bool) (t : Tree) (b n : ℕ) → b ≤ n →
    ((i : ℕ) → i < n → step_at T i ≡ step_at T' i) → ((i : ℕ) → i ≤ n → gone i ≡ gone' i) → grown K T gone t b n ≡ grown K T' gone' t b n
grown_same K T T' gone gone' t b n l same same_gone =
    from_birth (λ n. ((i : ℕ) → i < n → step_at T i ≡ step_at T' i) → ((i : ℕ) → i ≤ n → gone i ≡ gone' i) → grown K T gone t b n ≡ grown K T' gone' t b n) b
    (λ _ _. grind (arith, common_steps, grown-first)) (λ n l ih same same_gone. grind (arith, common_steps, grown-suc))
    n l same same_gone

-- a clock that is put, and any other
pub put_same : (t : Bool) (x : ℕ) (s : List ℕ) → ticks_in x s ≡ false → ticks_in x (put t x s) ≡ t
put_same true x s none = ticks_in-with_same x s
put_same false x s none = none

pub put_other : (t : Bool) (x y : ℕ) (s : List ℕ) → (y ≡ x → ⊥) → ticks_in y (put t x s) ≡ ticks_in y s
put_other true x y s ne = ticks_in-with_other x y s ne
put_other false x y s ne = refl

module _ (K : System) (ok : IsGuarded K) where
  -- the clocks below x that are dead at n, as a set
  abbrev pub table : List Step → ℕ → ℕ → List ℕ
  table T n zero = []
  table T n (suc x) = put (definition_dead K T (dead_below K T x) n (definition_of K x)) x (table T n x)

  table-past : (T : List Step) (n x y : ℕ) → x ≤ y → ticks_in y (table T n x) ≡ false
  table-past T n zero y l = refl
  table-past T n (suc x) y l = put_other _ x y (table T n x) (λ e. omega (arith, e, l)) ∙ table-past T n x y (omega (arith, l))

  pub table-reads : (T : List Step) (n x y : ℕ) → gone_in (table T n x) y ≡ dead_below K T x n y
  table-reads T n zero y = refl
  table-reads T n (suc x) y = grind (arith, common_steps, put_same, put_other, table-past, table-reads T n x y)

  -- the tree of a definition after one more step
  pub tree_step : (T : List Step) (s : Step) (x : ℕ) (e : Expression) →
      tree_after K (T ++ s ∷ []) x e ≡ next K s (dead_below K (T ++ s ∷ []) x (suc (length T))) (tree_after K T x e)
  tree_step T s x e =
      let T' = T ++ s ∷ [] in
      ap (grown K T' (dead_below K T' x) (opening K e []) 0) (let h : length T' ≡ suc (length T) = omega (arith, length-append T (s ∷ [])) in h)
      ∙ grown-suc K T' (dead_below K T' x) (opening K e []) 0 (length T) (omega arith)
      ∙ ap₂ (λ s t. next K s (dead_below K T' x (suc (length T))) t) (step_at-last T s)
      (grown_same K T' T (dead_below K T' x) (dead_below K T x) (opening K e []) 0 (length T) (omega arith) (λ i l. step_at-front T s i l)
      (λ i l. fun_ext (λ y. dead_below-same K ok T' T (length T) (omega (arith, length-append T (s ∷ []))) (omega arith) (λ i l. step_at-front T s i l) x i y
      l)))

  pub length-step : (T : List Step) (s : Step) → length (T ++ s ∷ []) ≡ suc (length T)
  length-step T s = omega (arith, length-append T (s ∷ []))

  -- the death of a definition's tree is the clock's
  pub tree_dead : (T : List Step) (x : ℕ) (e : Expression) → length T ≤ most → definition_of K x ≡ Some e →
      dead_of (dead_below K T x (length T)) (tree_after K T x e) ≡ definition_dead K T (dead_below K T x) (length T) (definition_of K x)
  tree_dead T x e few is =
      ap (λ (now : Now). now.dead)
      (tree_theorem K ok.bodies T (dead_below K T x) e [] 0 (length T) few (definition_allowed K ok x e is) (omega arith) (omega arith))
      ∙ ap (definition_dead K T (dead_below K T x) (length T)) (sym is)

  -- the trees of the definitions from clock x on
  next-from : (T : List Step) (s : Step) (x : ℕ) (es : List Expression) → length (T ++ s ∷ []) ≤ most → ((j : ℕ) → slice_get es j ≡ definition_of K (x + j)) →
      next_all K s (table (T ++ s ∷ []) (length (T ++ s ∷ [])) x) x (trees_from K T x es) ≡ trees_from K (T ++ s ∷ []) x es
  next-from T s x [] few h = refl
  next-from T s x (e ∷ es) few h =
      ap₂ (λ t' known. t' ∷ next_all K s known (suc x) (trees_from K T (suc x) es)) here
      (ap (λ v. put v x (table (T ++ s ∷ []) (length (T ++ s ∷ [])) x)) (ap₂ (λ g t. dead_of g t) reads here
      ∙ tree_dead (T ++ s ∷ []) x e few (sym (h 0 ∙ ap (definition_of K) (let z : x + 0 ≡ x = omega arith in z)))))
      ∙ ap (λ ts. tree_after K (T ++ s ∷ []) x e ∷ ts) (next-from T s (suc x) es few (λ j. h (suc j) ∙ ap (definition_of K) (omega arith)))
    where
      reads : gone_in (table (T ++ s ∷ []) (length (T ++ s ∷ [])) x) ≡ dead_below K (T ++ s ∷ []) x (length (T ++ s ∷ []))
      reads = fun_ext (table-reads (T ++ s ∷ []) (length (T ++ s ∷ [])) x)

      here : next K s (gone_in (table (T ++ s ∷ []) (length (T ++ s ∷ [])) x)) (tree_after K T x e) ≡ tree_after K (T ++ s ∷ []) x e
      here =
          ap (λ g. next K s g (tree_after K T x e)) (reads ∙ ap (dead_below K (T ++ s ∷ []) x) (length-step T s))
          ∙ sym (tree_step T s x e)

  -- the dead clocks, from the trees
  deaths-from : (T : List Step) (x : ℕ) (es : List Expression) → length T ≤ most → ((j : ℕ) → slice_get es j ≡ definition_of K (x + j)) →
      deaths_from (table T (length T) x) x (trees_from K T x es) ≡ table T (length T) (x + length es)
  deaths-from T x [] few h = ap (table T (length T)) (let e : x ≡ x + 0 = omega arith in e)
  deaths-from T x (e ∷ es) few h =
      ap (λ known. deaths_from known (suc x) (trees_from K T (suc x) es))
      (ap (λ v. put v x (table T (length T) x)) (ap (λ g. dead_of g (tree_after K T x e)) (fun_ext (table-reads T (length T) x))
      ∙ tree_dead T x e few (sym (h 0 ∙ ap (definition_of K) (let z : x + 0 ≡ x = omega arith in z)))))
      ∙ deaths-from T (suc x) es few (λ j. h (suc j) ∙ ap (definition_of K) (let z : x + suc j ≡ suc x + j = omega arith in z))
      ∙ ap (table T (length T)) (let z : suc x + length es ≡ x + suc (length es) = omega arith in z)

  -- before the definitions no clock is dead
  pub table-declared : (T : List Step) (n x : ℕ) → x ≤ K.declared → table T n x ≡ []
  table-declared T n zero l = refl
  table-declared T n (suc x) l =
      ap₂ (λ v s. put v x s) (ap (definition_dead K T (dead_below K T x) n)
      (ap (λ t. if t then None else slice_get K.definitions (x - K.declared)) (lt-ltb x K.declared l))) (table-declared T n x (omega arith))

  -- THE STEP OF THE STATES: the trees after one more step are the next trees
  pub states_step : (T : List Step) (s : Step) → length (T ++ s ∷ []) ≤ most → next_all K s [] K.declared (trees_after K T) ≡ trees_after K (T ++ s ∷ [])
  states_step T s few =
      ap (λ known. next_all K s known K.declared (trees_after K T)) (sym (table-declared (T ++ s ∷ []) (length (T ++ s ∷ [])) K.declared (omega arith)))
      ∙ next-from T s K.declared K.definitions few (definitions-are K)

  -- THE DEATHS OF THE STATES
  pub states_dead : (T : List Step) (i : ℕ) (e : Expression) → length T ≤ most → definition_of K (K.declared + i) ≡ Some e → i < length K.definitions →
      ticks_in (K.declared + i) (deaths_from [] K.declared (trees_after K T)) ≡ (meaning K T (K.declared + i) e [] 0 (length T)).dead
  states_dead T i e few is l =
      let x = K.declared + i in
      ap (λ known. ticks_in x (deaths_from known K.declared (trees_after K T))) (sym (table-declared T (length T) K.declared (omega arith)))
      ∙ ap (ticks_in x) (deaths-from T K.declared K.definitions few (definitions-are K))
      ∙ table-reads T (length T) (K.declared + length K.definitions) x
      ∙ dead_below-at K T (K.declared + length K.definitions) (length T) x (omega (arith, l))
      ∙ ap (definition_dead K T (dead_below K T x) (length T)) is

  -- THE STATES AT THE OPENING
  pub states_opened : opened_all K K.definitions ≡ trees_after K []
  states_opened = go K.declared K.definitions
    where
      go : (x : ℕ) (es : List Expression) → opened_all K es ≡ trees_from K [] x es
      go x [] = refl
      go x (e ∷ es) = ap (λ ts. opening K e [] ∷ ts) (go (suc x) es)

  -- THE STATES GIVE THE MEANING of each definition
  pub states_mean : (T : List Step) (x : ℕ) (e : Expression) → length T ≤ most → definition_of K x ≡ Some e →
      (let N : Now = record { formula = formula_of (tree_after K T x e); dead = dead_of (dead_below K T x (length T)) (tree_after K T x e) } in N) ≡ meaning K T
      x e [] 0 (length T)
  states_mean T x e few is = tree_theorem K ok.bodies T (dead_below K T x) e [] 0 (length T) few (definition_allowed K ok x e is) (omega arith) (omega arith)

  -- THE DERIVED STEP is the full step
  derived-from : (T : List Step) (x : ℕ) (s : Step) (es : List Expression) → length T ≤ most → ((j : ℕ) → slice_get es j ≡ definition_of K (x + j)) →
      derived_in (trees_from K T x es) x s ≡ kernel_derived K T es x s
  derived-from T x s [] few h = refl
  derived-from T x s (e ∷ es) few h =
      let is : definition_of K x ≡ Some e = sym (h 0 ∙ ap (definition_of K) (let z : x + 0 ≡ x = omega arith in z)) in
      ap (λ f. derived_in (trees_from K T (suc x) es) (suc x) (put (eval f s) x s)) (ap (λ (now : Now). now.formula) (states_mean T x e few is))
      ∙ ap (derived_in (trees_from K T (suc x) es) (suc x)) (put_if (eval (formula_at K T x e [] 0 (length T)) s) x s)
      ∙ derived-from T (suc x) (if eval (formula_at K T x e [] 0 (length T)) s then with_clock x s else s) es few
      (λ j. h (suc j) ∙ ap (definition_of K) (let z : x + suc j ≡ suc x + j = omega arith in z))
    where
      put_if : (t : Bool) (x : ℕ) (s : Step) → put t x s ≡ (if t then with_clock x s else s)
      put_if true x s = refl
      put_if false x s = refl

  pub states_derive : (T : List Step) (s : Step) → length T ≤ most → derived_in (trees_after K T) K.declared s ≡ full_step K T s
  states_derive T s few = derived-from T K.declared s K.definitions few (definitions-are K)
