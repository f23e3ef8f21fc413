-- The clocks from a number on.
use Rattle.std.proofs.lemmas.Grind.{common_steps}
use Rattle.std.proofs.Common.{◌≡◌, ℕ, ◌+◌, ◌<◌, ◌≤◌, List, true, false, Option, Some, None, refl, arith}
use Rattle.std.specs.Prelude.{is_some}
use Rattle.ccsl_base.specs.Clocks.{ticks_in, with_clock}
use Rattle.ccsl_kernel.proofs.Sets.{ticks_in-with_clock}

pub record IsRange (d c : ℕ) (s : List ℕ) : Type 0 where
  pub low : d ≤ c
  pub inside : (x : ℕ) → d ≤ x → x < c → ticks_in x s ≡ true
  pub outside : (x : ℕ) → x < d → ticks_in x s ≡ false

pub range-more : (d c : ℕ) (s : List ℕ) → IsRange d c s → IsRange d (c + 1) (with_clock c s)
range-more d c s r = grind (arith, common_steps, ticks_in-with_clock)

pub some-of : {A : Type 0} (o : Option A) → is_some o ≡ true → (x : A) × (o ≡ Some x)
some-of None e = absurd (cc)
some-of (Some x) e = (x, refl)
