-- An item none of whose clocks ticks neither fails nor changes.
use Rattle.std.proofs.lemmas.Grind.{common_steps}
use Rattle.std.proofs.Common.{arith, ◌≡◌, ℕ, ◌+◌, List, [], ◌∷◌, Bool, true, false, not, ◌||◌, ◌&&◌, cond, nat_eq, nat_le, refl, ap, ap₂, eq-eqb}
use Rattle.std.specs.List.{list_any}
use Rattle.ccsl_base.specs.Clocks.{ticks_in}
use Rattle.ccsl_formula.specs.Formula.{FTrue, FVar, FNot, FOr, eval, same}
use Rattle.ccsl_kernel.specs.declared.constraint.RelationKind.{RelationKind}
use Rattle.ccsl_kernel.specs.declared.constraint.RelationKind.TheVariants.{Subclock, Coincides, Excludes, Precedes, PrecedesWeakly, PrecedesWithin}
use Rattle.ccsl_kernel.specs.Lives.{Step}
use Rattle.ccsl_kernel.specs.Items.{relation_formula}
use Rattle.ccsl_relate.specs.declared.watched.Watched.{Watched}
use Rattle.ccsl_relate.specs.declared.watched.Watched.TheVariants.{Nothing, Definition, Relation}
use Rattle.ccsl_relate.specs.Reading.{clocks_of, IsQuiet}

-- whether one of some clocks is among those that are read
abbrev pub meet : List ℕ → List ℕ → Bool
meet clocks read = list_any (λ c. ticks_in c read) clocks

-- a test that no member passes
none-passes : (p : ℕ → Bool) (xs : List ℕ) (x : ℕ) → list_any p xs ≡ false → ticks_in x xs ≡ true → p x ≡ false
none-passes p [] x h t = absurd (cc)
none-passes p (y ∷ xs) x h t = grind (arith, common_steps, none-passes p xs x)

not-among : (clocks read : List ℕ) (x : ℕ) → meet clocks read ≡ false → ticks_in x read ≡ true → ticks_in x clocks ≡ false
not-among clocks read x h t = grind (arith, common_steps, none-passes)

module _ (s : Step) where
  abbrev Rests : ℕ → Type 0
  Rests x = ticks_in x s ≡ false

  not-asked : (v : Bool) (b : ℕ) → Rests b → eval (cond v (FNot (FVar b)) FTrue) s ≡ true
  not-asked true b e = ap not e
  not-asked false b e = refl

  not-asked-with : (v : Bool) (a b : ℕ) → Rests a → eval (cond v (FOr (FNot (FVar a)) (FVar b)) FTrue) s ≡ true
  not-asked-with true a b e = ap (λ x. not x || ticks_in b s) e
  not-asked-with false a b e = refl

  -- a relation holds where neither of its clocks ticks
  holds-quiet : (kind : RelationKind) (a b m n : ℕ) → Rests a → Rests b → eval (relation_formula kind a b m n) s ≡ true
  holds-quiet Subclock a b m n e d = ap (λ x. not x || ticks_in b s) e
  holds-quiet Coincides a b m n e d = ap₂ same e d
  holds-quiet Excludes a b m n e d = ap (λ x. not (x && ticks_in b s)) e
  holds-quiet Precedes a b m n e d = not-asked (nat_eq m n) b d
  holds-quiet PrecedesWeakly a b m n e d = not-asked-with (nat_eq m n) b a d
  holds-quiet (PrecedesWithin k) a b m n e d = ap₂ (λ x y. x && y) (not-asked (nat_eq m n) b d) (not-asked-with (nat_le (n + k) m) a b e)

  module _ (ticks others : List ℕ) (all : (x : ℕ) → ticks_in x s ≡ false → ticks_in x others ≡ false → ticks_in x ticks ≡ false) where
    rests : (w : Watched) → (meet s (clocks_of w) || meet others (clocks_of w)) ≡ false → (x : ℕ) → ticks_in x (clocks_of w) ≡ true
        → (ticks_in x ticks ≡ false) × (ticks_in x s ≡ false)
    rests w h x t = grind (arith, common_steps, not-among s (clocks_of w) x, not-among others (clocks_of w) x, all x)

    -- AN ITEM THAT READS NO CLOCK THAT TICKS
    pub quiet-unread : (w : Watched) → (meet s (clocks_of w) || meet others (clocks_of w)) ≡ false → IsQuiet ticks s w
    quiet-unread Nothing h = record { obeys = refl; stays = refl }
    quiet-unread (Definition clock) h =
        let r = rests (Definition clock) h clock (ap (λ b. b || false) (eq-eqb clock clock refl)) in
        record { obeys = ap₂ (λ x y. not (same x y)) r.0 r.1; stays = refl }
    quiet-unread (Relation r) h = grind (arith, common_steps, rests (Relation r) h, holds-quiet)
