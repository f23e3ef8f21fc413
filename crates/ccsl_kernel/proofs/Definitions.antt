-- The definitions of a system: where they stand, that they are allowed, and the deaths of the clocks that they define.
use Rattle.std.proofs.Common.{◌≡◌, ℕ, zero, suc, ◌+◌, ◌-◌, ◌<◌, ◌≤◌, ⊎_elim, List, [], ◌∷◌, ◌++◌, length, Bool, true, false, Option, Some, None, slice_get}
use Rattle.std.proofs.Common.{nat_eq, nat_lt, if◌then◌else◌, refl, sym, ap, ap₂, ◌∙◌, subst, arith, eq-eqb, le-ltb}
use Rattle.std.proofs.lemmas.Bool.{cases_lt, ne_eqb}
use Rattle.std.proofs.Math.ListN.{get_or-append}
use Rattle.std.proofs.Math.Seq.{get_or-append_seam}
use Rattle.ccsl_kernel.specs.Syntax.{Expression, System, definition_of}
use Rattle.ccsl_kernel.specs.Table.{Now}
use Rattle.ccsl_kernel.specs.Lives.{Step, step_at}
use Rattle.ccsl_kernel.specs.Meaning.{definition_dead, dead_below}
use Rattle.ccsl_kernel.specs.Guarded.{IsAllowed}
use Rattle.ccsl_kernel.proofs.GuardedCalls.{AreAllowed, IsGuarded}
use Rattle.ccsl_kernel.proofs.TableHolds.{first_steps_matter}

abbrev pub choice : Bool → Bool → Bool → Bool
choice t x y = elim t [ true ↦ x | false ↦ y ]

pub step_at-front : (T : List Step) (s : Step) (i : ℕ) → i < length T → step_at (T ++ s ∷ []) i ≡ step_at T i
step_at-front T s i l = get_or-append T (s ∷ []) [] i l

pub step_at-last : (T : List Step) (s : Step) → step_at (T ++ s ∷ []) (length T) ≡ s
step_at-last T s = get_or-append_seam T s [] []

allowed_at : (K : System) (es : List Expression) (i : ℕ) (e : Expression) → AreAllowed K es → slice_get es i ≡ Some e → IsAllowed K e
allowed_at K [] i e ok h = let z : ⊥ = cc in absurd z
allowed_at K (e' ∷ es) zero e ok h = let s : e' ≡ e = cc in subst (IsAllowed K) s ok.0
allowed_at K (e' ∷ es) (suc i) e ok h = allowed_at K es i e ok.1 h

-- the definitions stand in the order of their clocks
pub definitions-are : (K : System) (j : ℕ) → slice_get K.definitions j ≡ definition_of K (K.declared + j)
definitions-are K j = ap (slice_get K.definitions) (omega arith)
    ∙ sym (ap (λ t. if t then None else slice_get K.definitions (K.declared + j - K.declared)) (le-ltb (K.declared + j) K.declared (omega arith)))

-- whether clock y is dead is the same for all clocks above it: where its definition is
pub dead_below-at : (K : System) (T : List Step) (x n y : ℕ) → y < x → dead_below K T x n y ≡ definition_dead K T (dead_below K T y) n (definition_of K y)
dead_below-at K T zero n y l = let z : ⊥ = omega arith in absurd z
dead_below-at K T (suc x) n y l =
    ⊎_elim
    (λ (l : y < x). ap (λ t. choice t here (dead_below K T x n y)) (ne_eqb y x (λ e. omega arith)) ∙ dead_below-at K T x n y l)
    (λ (l' : x ≤ y).
    let e : y ≡ x = omega arith in
    ap (λ t. choice t here (dead_below K T x n y)) (eq-eqb y x e) ∙ ap (λ z. definition_dead K T (dead_below K T z) n (definition_of K z)) (sym e))
    (cases_lt y x)
  where
    here : Bool
    here = definition_dead K T (dead_below K T x) n (definition_of K x)

module _ (K : System) (ok : IsGuarded K) where
  -- the definition of a clock is allowed
  pub definition_allowed : (x : ℕ) (e : Expression) → definition_of K x ≡ Some e → IsAllowed K e
  definition_allowed x e h = on (nat_lt x K.declared) h
    where
      on : (t : Bool) → (if t then None else slice_get K.definitions (x - K.declared)) ≡ Some e → IsAllowed K e
      on true h = let z : ⊥ = cc in absurd z
      on false h = allowed_at K K.definitions (x - K.declared) e ok.definitions h

  -- a death depends on the steps before it
  pub dead_below-same : (T T' : List Step) (N : ℕ) → N ≤ length T → N ≤ length T' → ((i : ℕ) → i < N → step_at T i ≡ step_at T' i) →
      (x i y : ℕ) → i ≤ N → dead_below K T x i y ≡ dead_below K T' x i y
  dead_below-same T T' N u u' same zero i y l = refl
  dead_below-same T T' N u u' same (suc x) i y l =
      ap₂ (choice (nat_eq y x))
      (at (dead_below K T x) (dead_below K T' x) (λ j z h. dead_below-same T T' N u u' same x j z (omega arith)) (definition_of K x) refl)
      (dead_below-same T T' N u u' same x i y l)
    where
      at : (gone gone' : ℕ → ℕ → Bool) → ((j z : ℕ) → j ≤ i → gone j z ≡ gone' j z) → (o : Option Expression) → definition_of K x ≡ o
          → definition_dead K T gone i o ≡ definition_dead K T' gone' i o
      at gone gone' h None e = refl
      at gone gone' h (Some e) is =
          ap (λ (now : Now). now.dead)
          (first_steps_matter K T T' gone gone' ok.bodies e [] 0 i (definition_allowed x e is) (omega arith) (omega arith) (omega arith)
          (λ j h. same j (omega arith)) h)
