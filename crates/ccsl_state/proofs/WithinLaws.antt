-- An expression and a tree that name clocks with P only. What is born of them and what a step makes of them names no others, and
-- steps and deaths that are the same for these clocks are all one to them.
use Rattle.std.proofs.lemmas.Grind.{common_steps}
use Rattle.std.proofs.Common.{◌≡◌, ℕ, zero, suc, ◌<◌, List, [], ◌∷◌, map, length, Bool, true, false, ◌||◌, Option, Some, None, nat_le, refl, sym, ap, ap₂}
use Rattle.std.proofs.Common.{subst, ◌∙◌, arith, ⊎_elim, eqb-true, eq-eqb}
use Rattle.std.proofs.lemmas.Bool.{or_cases, or_left, or_right, cond_both}
use Rattle.ccsl_base.specs.Clocks.{ticks_in}
use Rattle.ccsl_formula.specs.Formula.{eval, Formula}
use Rattle.ccsl_kernel.specs.declared.expr.Place.{Place}
use Rattle.ccsl_kernel.specs.declared.expr.Value.{Value}
use Rattle.ccsl_kernel.specs.declared.expr.Place.TheVariants as place
use Rattle.ccsl_kernel.specs.declared.expr.Value.TheVariants as value
use Rattle.ccsl_kernel.specs.declared.actual.Actual.TheVariants as actual
use Rattle.ccsl_kernel.specs.Syntax.{Expression, EName, ECall, ENever, EBinary, EDelay, EAwait, EFilter, EDelayed, EIf, System, root_of}
use Rattle.ccsl_kernel.specs.declared.actual.Actual.{Actual}
use Rattle.ccsl_kernel.specs.Actuals.{place_of, value_of, test_of}
use Rattle.ccsl_kernel.specs.Lives.{Step, step_at}
use Rattle.ccsl_kernel.specs.Within.{PlaceWithin, ArgsWithin, NamesWithin, ActualsWithin}
use Rattle.ccsl_kernel.proofs.Scoped.{NamesBelow}
use Rattle.ccsl_kernel.proofs.WithinLaws.{ActualWithin, names_more, place_within as place_in, args_within}
use Rattle.ccsl_state.specs.Tree.{Tree, TName, TNever, TOne, TTwo, TThen, Two, one_next, one_ticks, one_dead, two_next, two_ticks, two_dead, leaf, over}
use Rattle.ccsl_state.specs.Tree.{two_opened, open_with, open_bodies, opening, then_or_right, next, formula_of, dead_of, One, one_formula, two_formula}
use Rattle.ccsl_state.specs.Grown.{grown}
use Rattle.ccsl_state.specs.Within.{TreeWithin}
use Rattle.ccsl_state.specs.Reach.{place_names, arguments_name, names_clock}
use Rattle.ccsl_state.specs.Nodes.{pair_at, node_ticks, node_dead}

-- Whether a node ticks, from whether its operands do.

module _ (s : List ℕ) where
  pub one_eval : (o : One) (f : Formula) → eval (one_formula o f) s ≡ one_ticks o (eval f s)
  one_eval o f = grind (arith, common_steps)

  pub two_eval : (o : Two) (f g : Formula) → eval (two_formula o f g) s ≡ two_ticks o (eval f s) (eval g s)
  two_eval o f g = grind (arith, common_steps)

  pub pair_eval : (o : Option Two) (a d : Tree) → eval (formula_of (pair_at o a d)) s ≡ node_ticks o (eval (formula_of a) s) (eval (formula_of d) s)
  pair_eval None a d = refl
  pair_eval (Some o) a d = two_eval o (formula_of a) (formula_of d)

-- and its death, from theirs
pub pair_dead : (gone : ℕ → Bool) (o : Option Two) (a d : Tree) → node_dead o (dead_of gone a) (dead_of gone d) ≡ dead_of gone (pair_at o a d)
pair_dead gone None a d = refl
pair_dead gone (Some o) a d = refl

module _ (P : ℕ → Type 0) where
  -- AN EXPRESSION names clocks with P only where each clock that it names has P
  place_within : (x : Place) → ((y : ℕ) → place_names x y ≡ true → P y) → PlaceWithin P x
  place_within (place.Clock x) h = h x (eq-eqb x x refl)
  place_within (place.Param i) h = tt

  arguments_within : (args : List Value) → ((y : ℕ) → arguments_name args y ≡ true → P y) → ArgsWithin P args
  arguments_within [] h = tt
  arguments_within (value.Clock x ∷ args) h = (
    place_within x (λ y e. h y (or_left (place_names x y) (arguments_name args y) e)),
    arguments_within args (λ y e. h y (or_right (place_names x y) (arguments_name args y) e)),
  )
  arguments_within (value.Number t ∷ args) h = arguments_within args h
  arguments_within (value.Word w ∷ args) h = arguments_within args h

  both_within : (a d : Expression) → (((y : ℕ) → names_clock a y ≡ true → P y) → NamesWithin P a) → (((y : ℕ) → names_clock d y ≡ true → P y) → NamesWithin P d)
      → ((y : ℕ) → (names_clock a y || names_clock d y) ≡ true → P y) → NamesWithin P a × NamesWithin P d
  both_within a d left right h = grind (arith, common_steps)

  pub names_within : (e : Expression) → ((y : ℕ) → names_clock e y ≡ true → P y) → NamesWithin P e
  names_within (EName x) h = place_within x h
  names_within (ECall group member args) h = arguments_within args h
  names_within ENever h = tt
  names_within (EBinary op a d) h = both_within a d (names_within a) (names_within d) h
  names_within (EDelay a m) h = names_within a h
  names_within (EAwait a m) h = names_within a h
  names_within (EFilter a w) h = names_within a h
  names_within (EDelayed a m d) h = both_within a d (names_within a) (names_within d) h
  names_within (EIf q a d) h = both_within a d (names_within a) (names_within d) h

  -- what it names then has P
  place_named : (x : Place) (y : ℕ) → PlaceWithin P x → place_names x y ≡ true → P y
  place_named (place.Clock x) y h e = subst P (sym (eqb-true y x e)) h
  place_named (place.Param i) y h e = let z : ⊥ = cc in absurd z

  arguments_named : (args : List Value) (y : ℕ) → ArgsWithin P args → arguments_name args y ≡ true → P y
  arguments_named [] y h e = let z : ⊥ = cc in absurd z
  arguments_named (value.Clock x ∷ args) y h e =
      ⊎_elim (place_named x y h.0) (arguments_named args y h.1) (or_cases (place_names x y) (arguments_name args y) e)
  arguments_named (value.Number t ∷ args) y h e = arguments_named args y h e
  arguments_named (value.Word w ∷ args) y h e = arguments_named args y h e

  pub named : (e : Expression) (y : ℕ) → NamesWithin P e → names_clock e y ≡ true → P y
  named (EName x) y h n = place_named x y h n
  named (ECall group member args) y h n = arguments_named args y h n
  named ENever y h n = let z : ⊥ = cc in absurd z
  named (EBinary op a d) y h n = ⊎_elim (named a y h.0) (named d y h.1) (or_cases (names_clock a y) (names_clock d y) n)
  named (EDelay a m) y h n = named a y h n
  named (EAwait a m) y h n = named a y h n
  named (EFilter a w) y h n = named a y h n
  named (EDelayed a m d) y h n = ⊎_elim (named a y h.0) (named d y h.1) (or_cases (names_clock a y) (names_clock d y) n)
  named (EIf q a d) y h n = ⊎_elim (named a y h.0) (named d y h.1) (or_cases (names_clock a y) (names_clock d y) n)

  leaf_within : (v : Actual) → ActualWithin P v → TreeWithin P (leaf v)
  leaf_within (actual.Clock x) h = h.0
  leaf_within (actual.Number n) h = tt
  leaf_within (actual.Word w o) h = tt

  over_within : (o : Option Two) (a t : Tree) (d : Expression) (ρ : List Actual) → TreeWithin P a → TreeWithin P t → NamesWithin P d → ActualsWithin P ρ
      → TreeWithin P (over o a t d ρ)
  over_within None a t d ρ p q r s = (p, r, s)
  over_within (Some o) a t d ρ p q r s = (p, q)

  -- THE OPENING, where the members of groups name no clocks
  module _ (K : System) (closed : (g m : ℕ) → NamesBelow 0 (root_of K g m)) where
    open_within : (calls : ℕ → ℕ → List Actual → Tree) → ((g m : ℕ) (ρ : List Actual) → ActualsWithin P ρ → TreeWithin P (calls g m ρ)) →
        (e : Expression) (ρ : List Actual) → NamesWithin P e → ActualsWithin P ρ → TreeWithin P (open_with K calls e ρ)
    open_within calls at (EName x) ρ h v = leaf_within (place_of x ρ) (place_in P x ρ h v)
    open_within calls at (ECall group member args) ρ h v = at group member (map (value_of K.words ρ) args) (args_within P K.words args ρ h v)
    open_within calls at ENever ρ h v = tt
    open_within calls at (EBinary o a d) ρ h v = over_within (two_opened o) _ _ d ρ (open_within calls at a ρ h.0 v) (open_within calls at d ρ h.1 v) h.1 v
    open_within calls at (EDelay a m) ρ h v = open_within calls at a ρ h v
    open_within calls at (EAwait a m) ρ h v = open_within calls at a ρ h v
    open_within calls at (EFilter a w) ρ h v = open_within calls at a ρ h v
    open_within calls at (EDelayed a m d) ρ h v = (open_within calls at a ρ h.0 v, open_within calls at d ρ h.1 v)
    open_within calls at (EIf q a d) ρ h v =
        cond_both (test_of K.words q ρ) _ _ (TreeWithin P) (λ _. open_within calls at a ρ h.0 v) (λ _. open_within calls at d ρ h.1 v)

    bodies_within : (level g m : ℕ) (ρ : List Actual) → ActualsWithin P ρ → TreeWithin P (open_bodies K level g m ρ)
    bodies_within zero g m ρ v = tt
    bodies_within (suc level) g m ρ v =
        open_within (open_bodies K level) (bodies_within level) (root_of K g m) ρ
        (names_more (λ y. y < 0) P (λ y l. absurd (omega (arith, l))) (root_of K g m) (closed g m)) v

    pub opening_within : (e : Expression) (ρ : List Actual) → NamesWithin P e → ActualsWithin P ρ → TreeWithin P (opening K e ρ)
    opening_within = open_within (open_bodies K (length K.groups)) (bodies_within (length K.groups))

    -- A STEP keeps it
    right_within : (c : Bool) (a : Tree) (d : Expression) (ρ : List Actual) → TreeWithin P a → NamesWithin P d → ActualsWithin P ρ
        → TreeWithin P (then_or_right K c a d ρ)
    right_within true a d ρ p q r = opening_within d ρ q r
    right_within false a d ρ p q r = (p, q, r)

    pub next_within : (s : Step) (gone : ℕ → Bool) (t : Tree) → TreeWithin P t → TreeWithin P (next K s gone t)
    next_within s gone (TName x) h = h
    next_within s gone TNever h = tt
    next_within s gone (TOne o a) h = next_within s gone a h
    next_within s gone (TTwo o a d) h = (next_within s gone a h.0, next_within s gone d h.1)
    next_within s gone (TThen a d ρ) h = right_within (dead_of gone (next K s gone a)) (next K s gone a) d ρ (next_within s gone a h.0) h.1 h.2

    pub grown_within : (T : List Step) (gone : ℕ → ℕ → Bool) (t : Tree) (b n : ℕ) → TreeWithin P t → TreeWithin P (grown K T gone t b n)
    grown_within T gone t b zero h = h
    grown_within T gone t b (suc n) h =
        cond_both (nat_le b n) _ _ (TreeWithin P) (λ _. next_within (step_at T n) (gone (suc n)) (grown K T gone t b n) (grown_within T gone t b n h)) (λ _. h)

  -- TWO STEPS that are the same for these clocks
  module _ (s s' : Step) (same : (x : ℕ) → P x → ticks_in x s ≡ ticks_in x s') where
    pub tick_same : (t : Tree) → TreeWithin P t → eval (formula_of t) s ≡ eval (formula_of t) s'
    tick_same (TName x) h = same x h
    tick_same TNever h = refl
    tick_same (TOne o a) h = one_eval s o (formula_of a) ∙ ap (one_ticks o) (tick_same a h) ∙ sym (one_eval s' o (formula_of a))
    tick_same (TTwo o a d) h =
        two_eval s o (formula_of a) (formula_of d) ∙ ap₂ (two_ticks o) (tick_same a h.0) (tick_same d h.1) ∙ sym (two_eval s' o (formula_of a) (formula_of d))
    tick_same (TThen a d ρ) h = tick_same a h.0

  -- two sets of dead clocks
  module _ (gone gone' : ℕ → Bool) (same : (x : ℕ) → P x → gone x ≡ gone' x) where
    pub dead_same : (t : Tree) → TreeWithin P t → dead_of gone t ≡ dead_of gone' t
    dead_same (TName x) h = same x h
    dead_same TNever h = refl
    dead_same (TOne o a) h = ap (one_dead o) (dead_same a h)
    dead_same (TTwo o a d) h = ap₂ (two_dead o) (dead_same a h.0) (dead_same d h.1)
    dead_same (TThen a d ρ) h = refl

  -- and both
  module _ (K : System) (closed : (g m : ℕ) → NamesBelow 0 (root_of K g m)) (s s' : Step) (same : (x : ℕ) → P x → ticks_in x s ≡ ticks_in x s')
      (gone gone' : ℕ → Bool) (same_gone : (x : ℕ) → P x → gone x ≡ gone' x) where
    pub next_same : (t : Tree) → TreeWithin P t → next K s gone t ≡ next K s' gone' t
    next_same (TName x) h = refl
    next_same TNever h = refl
    next_same (TOne o a) h = ap₂ TOne (ap (one_next o) (tick_same s s' same a h)) (next_same a h)
    next_same (TTwo o a d) h =
        ap (λ o'. TTwo o' (next K s gone a) (next K s gone d)) (ap₂ (two_next o) (tick_same s s' same a h.0) (tick_same s s' same d h.1))
        ∙ ap₂ (TTwo (two_next o (eval (formula_of a) s') (eval (formula_of d) s'))) (next_same a h.0) (next_same d h.1)
    next_same (TThen a d ρ) h =
        ap (λ c. then_or_right K c (next K s gone a) d ρ) (dead_same gone gone' same_gone (next K s gone a) (next_within K closed s gone a h.0))
        ∙ ap (λ a'. then_or_right K (dead_of gone' a') a' d ρ) (next_same a h.0)
