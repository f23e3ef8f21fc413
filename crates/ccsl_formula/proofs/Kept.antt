-- What the two sets of a partial assignment say of a clock.
use Rattle.std.proofs.Common.{◌≡◌, ◌≢◌, ℕ, List, [], ◌∷◌, map, Bool, true, false, cond, not, ◌||◌, ◌&&◌, refl, sym, ap, ap₂, ◌∙◌, ⊎_elim, nat_eq}
use Rattle.std.proofs.Math.Path.{fun_ext}
use Rattle.std.proofs.lemmas.Bool.{cases_eq, eq-eqb, ne_eqb}
use Rattle.ccsl_base.specs.Clocks.{ticks_in, with_clock}
use Rattle.ccsl_base.specs.Changes.{without_clock}
use Rattle.ccsl_base.proofs.Sets.{ticks_in-with_same, ticks_in-with_other, ticks_in-without_same, ticks_in-without_other}
use Rattle.ccsl_formula.specs.declared.truth3.Truth3.{Truth3}
use Rattle.ccsl_formula.specs.declared.truth3.Truth3.TheVariants.{Open}
use Rattle.ccsl_formula.specs.Truth.{known_as, with_value}
use Rattle.ccsl_formula.specs.Agreement.{is_open}
use Rattle.ccsl_formula.specs.Known.{known, clocks, with_truth, joined}
use Rattle.ccsl_formula.specs.Kept.{pairs_of, IsWithin}

pub test_same : {A : Type 0} (x y : ℕ) (a b : A) → x ≡ y → cond (nat_eq x y) a b ≡ a
test_same x y a b e = ap (λ t. cond t a b) (eq-eqb x y e)

test_other : {A : Type 0} (x y : ℕ) (a b : A) → x ≢ y → cond (nat_eq x y) a b ≡ b
test_other x y a b n = ap (λ t. cond t a b) (ne_eqb x y n)

-- a member has the value that it is paired with
known-paired : (truth : ℕ → Bool) (xs : List ℕ) (x : ℕ) → known (map (λ y. (y, truth y)) xs) x ≡ cond (ticks_in x xs) (known_as (truth x)) Open
known-paired truth [] x = refl
known-paired truth (y ∷ ys) x =
    ⊎_elim
    (λ same. test_same x y (known_as (truth y)) (known (map (λ z. (z, truth z)) ys) x) same ∙ ap (λ z. known_as (truth z)) (sym same)
    ∙ sym (ap (λ b. cond (b || ticks_in x ys) (known_as (truth x)) Open) (eq-eqb x y same)))
    (λ other. test_other x y (known_as (truth y)) (known (map (λ z. (z, truth z)) ys) x) other ∙ known-paired truth ys x
    ∙ sym (ap (λ b. cond (b || ticks_in x ys) (known_as (truth x)) Open) (ne_eqb x y other)))
    (cases_eq x y)

-- what the two sets say of a clock
pub known-pairs : (valued truth : List ℕ) (x : ℕ) → known (pairs_of valued truth) x ≡ cond (ticks_in x valued) (known_as (ticks_in x truth)) Open
known-pairs valued truth x = known-paired (λ y. ticks_in y truth) valued x

clocks-paired : (truth : ℕ → Bool) (xs : List ℕ) → clocks (map (λ y. (y, truth y)) xs) ≡ xs
clocks-paired truth [] = refl
clocks-paired truth (x ∷ xs) = ap (λ ys. x ∷ ys) (clocks-paired truth xs)

pub clocks-pairs : (valued truth : List ℕ) → clocks (pairs_of valued truth) ≡ valued
clocks-pairs valued truth = clocks-paired (λ y. ticks_in y truth) valued

-- sets that differ at one clock alone
pub known-changed : (valued truth valued' truth' : List ℕ) (c : ℕ) (t : Truth3) →
    cond (ticks_in c valued') (known_as (ticks_in c truth')) Open ≡ t →
    ((x : ℕ) → x ≢ c → (ticks_in x valued' ≡ ticks_in x valued) × (ticks_in x truth' ≡ ticks_in x truth)) →
    known (pairs_of valued' truth') ≡ with_truth (known (pairs_of valued truth)) c t
known-changed valued truth valued' truth' c t here others =
    fun_ext
    (λ x.
    ⊎_elim
    (λ same. ap (known (pairs_of valued' truth')) same ∙ known-pairs valued' truth' c ∙ here ∙ sym (test_same x c t (known (pairs_of valued truth) x) same))
    (λ other.
    known-pairs valued' truth' x
    ∙ ap₂ (λ v t. cond v (known_as t) Open) (others x other).0 (others x other).1
    ∙ sym (known-pairs valued truth x)
    ∙ sym (test_other x c t (known (pairs_of valued truth) x) other))
    (cases_eq x c))

module _ (valued truth : List ℕ) (c : ℕ) where
  pub known-true : known (pairs_of (with_clock c valued) (with_clock c truth)) ≡ with_value (known (pairs_of valued truth)) c true
  known-true =
      known-changed valued truth (with_clock c valued) (with_clock c truth) c (known_as true)
      (ap₂ (λ v t. cond v (known_as t) Open) (ticks_in-with_same c valued) (ticks_in-with_same c truth))
      (λ x other. (ticks_in-with_other c x valued other, ticks_in-with_other c x truth other))

  pub known-false : known (pairs_of (with_clock c valued) (without_clock c truth)) ≡ with_value (known (pairs_of valued truth)) c false
  known-false =
      known-changed valued truth (with_clock c valued) (without_clock c truth) c (known_as false)
      (ap₂ (λ v t. cond v (known_as t) Open) (ticks_in-with_same c valued) (ticks_in-without_same c truth))
      (λ x other. (ticks_in-with_other c x valued other, ticks_in-without_other c x truth other))

  pub known-open : known (pairs_of (without_clock c valued) (without_clock c truth)) ≡ with_truth (known (pairs_of valued truth)) c Open
  known-open =
      known-changed valued truth (without_clock c valued) (without_clock c truth) c Open
      (ap (λ v. cond v (known_as (ticks_in c (without_clock c truth))) Open) (ticks_in-without_same c valued))
      (λ x other. (ticks_in-without_other c x valued other, ticks_in-without_other c x truth other))

  -- the true clocks stay among those that have a value
  pub within-true : IsWithin truth valued → IsWithin (with_clock c truth) (with_clock c valued)
  within-true within x t =
      ⊎_elim
      (λ e. ap (λ y. ticks_in y (with_clock c valued)) e ∙ ticks_in-with_same c valued)
      (λ e. ticks_in-with_other c x valued e ∙ within x (sym (ticks_in-with_other c x truth e) ∙ t))
      (cases_eq x c)

  pub within-false : IsWithin truth valued → IsWithin (without_clock c truth) (with_clock c valued)
  within-false within x t =
      ⊎_elim
      (λ e. ap (λ y. ticks_in y (with_clock c valued)) e ∙ ticks_in-with_same c valued)
      (λ e. ticks_in-with_other c x valued e ∙ within x (sym (ticks_in-without_other c x truth e) ∙ t))
      (cases_eq x c)

  pub within-open : IsWithin truth valued → IsWithin (without_clock c truth) (without_clock c valued)
  within-open within x t =
      ⊎_elim
      (λ e.
      let gone : ticks_in x (without_clock c truth) ≡ false = ap (λ y. ticks_in y (without_clock c truth)) e ∙ ticks_in-without_same c truth in
      let no : false ≡ true = sym gone ∙ t in
      absurd (cc))
      (λ e. ticks_in-without_other c x valued e ∙ within x (sym (ticks_in-without_other c x truth e) ∙ t))
      (cases_eq x c)

-- ---- two partial assignments as one

abbrev FitsKept : Bool → Bool → Type 0
FitsKept t v = t ≡ true → v ≡ true

joined-kept : (v t v' t' : Bool) → FitsKept t' v' →
    cond (v || v') (known_as ((t && not v') || t')) Open ≡ cond (is_open (cond v' (known_as t') Open)) (cond v (known_as t) Open) (cond v' (known_as t') Open)
joined-kept true true true true f = refl
joined-kept true true true false f = refl
joined-kept true true false true f = let no : false ≡ true = f refl in absurd (cc)
joined-kept true true false false f = refl
joined-kept true false true true f = refl
joined-kept true false true false f = refl
joined-kept true false false true f = let no : false ≡ true = f refl in absurd (cc)
joined-kept true false false false f = refl
joined-kept false true true true f = refl
joined-kept false true true false f = refl
joined-kept false true false true f = let no : false ≡ true = f refl in absurd (cc)
joined-kept false true false false f = refl
joined-kept false false true true f = refl
joined-kept false false true false f = refl
joined-kept false false false true f = let no : false ≡ true = f refl in absurd (cc)
joined-kept false false false false f = refl

module _ (valued truth valued' truth' : List ℕ) (v cleared t : List ℕ)
    (both : (x : ℕ) → ticks_in x v ≡ (ticks_in x valued || ticks_in x valued'))
    (less : (x : ℕ) → ticks_in x cleared ≡ (ticks_in x truth && not (ticks_in x valued')))
    (more : (x : ℕ) → ticks_in x t ≡ (ticks_in x cleared || ticks_in x truth')) where
  true-now : (x : ℕ) → ticks_in x t ≡ ((ticks_in x truth && not (ticks_in x valued')) || ticks_in x truth')
  true-now x = more x ∙ ap (λ b. b || ticks_in x truth') (less x)

  pub known-joined : IsWithin truth' valued' → known (pairs_of v t) ≡ joined (known (pairs_of valued truth)) (known (pairs_of valued' truth'))
  known-joined within =
      fun_ext
      (λ x.
      known-pairs v t x
      ∙ ap₂ (λ a b. cond a (known_as b) Open) (both x) (true-now x)
      ∙ joined-kept (ticks_in x valued) (ticks_in x truth) (ticks_in x valued') (ticks_in x truth') (within x)
      ∙ ap₂ (λ p q. cond (is_open q) p q) (sym (known-pairs valued truth x)) (sym (known-pairs valued' truth' x)))

  within-joined-at : (a b c d : Bool) → FitsKept b a → FitsKept d c → ((b && not c) || d) ≡ true → (a || c) ≡ true
  within-joined-at true b c d f g h = refl
  within-joined-at false true c d f g h = let no : false ≡ true = f refl in absurd (cc)
  within-joined-at false false c d f g h = g h

  pub within-joined : IsWithin truth valued → IsWithin truth' valued' → IsWithin t v
  within-joined within within' x h =
      both x ∙ within-joined-at (ticks_in x valued) (ticks_in x truth) (ticks_in x valued') (ticks_in x truth') (within x) (within' x) (sym (true-now x) ∙ h)
