-- What a generator stands for.
use Rattle.std.specs.Prelude.{ℕ, ◌≡◌}
use Rattle.rand_pcg.specs.Lcg.{Lcg, advance}
use Rattle.rand_pcg.specs.Pcg.{multiplier_64}
use Rattle.ccsl_policy.specs.Words.{seeded}

-- a generator of which j words of a seed are taken
abbrev pub StandsFor : Lcg → ℕ → ℕ → Type 0
StandsFor g seed j = g ≡ advance 64 multiplier_64 j (seeded seed)
