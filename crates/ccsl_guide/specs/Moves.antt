-- Where a watch moves to.
use Rattle.std.specs.Prelude.{ℕ, ◌<◌, ⊤}
use Rattle.ccsl_guide.specs.declared.watches.Move.{Move}
use Rattle.ccsl_guide.specs.declared.watches.Move.TheVariants.{Stay, To, Force}

-- a literal that is watched from now on is of a clock below n
abbrev pub IsWithin : ℕ → Move → Type 0
IsWithin n Stay = ⊤
IsWithin n (To watch l) = l.clock < n
IsWithin n (Force l) = ⊤
