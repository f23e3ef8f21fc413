-- Where all clocks that are followed are declared, the declared ticks are all that is followed of a full step.
use Rattle.std.proofs.Common.{◌≡◌, ℕ, ◌+◌, ◌<◌, ◌^◌, List, [], ◌∷◌, Bool, true, false, ◌||◌, ◌&&◌, None, filter}
use Rattle.std.proofs.Common.{nat_lt, length, if◌then◌else◌, refl, sym, ap, ap₂, ◌∙◌, arith, lt-ltb}
use Rattle.std.proofs.lemmas.Bool.{ltb-false}
use Rattle.ccsl_base.specs.Clocks.{ticks_in, are_below}
use Rattle.ccsl_base.proofs.Sets.{member-below, ticks_in-filter}
use Rattle.ccsl_kernel.specs.Syntax.{System}
use Rattle.ccsl_kernel.specs.Lives.{Step}
use Rattle.ccsl_kernel.specs.Runs.{full_step, declared_part}
use Rattle.ccsl_kernel.proofs.Completion.{declared-full}
use Rattle.ccsl_kernel.proofs.Sets.{below-below}
use Rattle.ccsl_state.specs.Reach.{is_within}
use Rattle.ccsl_state.specs.Part.{part_of, PartStandsFor}
use Rattle.ccsl_follow.specs.Following.{held_part}

module _ (K : System) (clocks : List ℕ) (declared : are_below K.declared clocks ≡ true) where
  is-within : (y : ℕ) → is_within K clocks y ≡ nat_lt y K.declared
  is-within y = by (nat_lt y K.declared) refl (ticks_in y clocks) refl
    where
      by : (a : Bool) → nat_lt y K.declared ≡ a → (b : Bool) → ticks_in y clocks ≡ b → (a || b) ≡ a
      by true e b f = refl
      by false e true f = absurd (omega (arith, member-below K.declared clocks y declared f, ltb-false y K.declared e))
      by false e false f = refl

  followed-is : (s : Step) → filter (is_within K clocks) s ≡ declared_part K s
  followed-is [] = refl
  followed-is (y ∷ s) = ap₂ (λ (t : Bool) (r : List ℕ). if t then y ∷ r else r) (is-within y) (followed-is s)

  pub followed-declared : (T : List Step) (s : Step) → are_below K.declared s ≡ true → s ≡ part_of (held_part K clocks None) (full_step K T s)
  followed-declared T s below =
      sym (followed-is (full_step K T s) ∙ declared-full K T s below)

  pub stands-declared : (T : List Step) → length T < 2 ^ 64 → PartStandsFor (held_part K clocks None) T
  stands-declared T few = record {
    trees = λ i is. absurd (omega (arith, member-below K.declared clocks (K.declared + i) declared is));
    few = few;
  }

  pub row-is : (T : List Step) (ticks : List ℕ) (x : ℕ) → x < K.declared
      → ticks_in x (part_of (held_part K clocks None) (full_step K T (declared_part K ticks))) ≡ ticks_in x ticks
  row-is T ticks x low =
      ap (ticks_in x) (sym (followed-declared T (declared_part K ticks) (below-below K.declared ticks)))
      ∙ ticks_in-filter (λ y. nat_lt y K.declared) x ticks
      ∙ ap (λ b. ticks_in x ticks && b) (lt-ltb x K.declared low)
      ∙ and-true (ticks_in x ticks)
    where
      and-true : (b : Bool) → (b && true) ≡ b
      and-true true = refl
      and-true false = refl
