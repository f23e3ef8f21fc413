-- Counts that can be counted on.
use Rattle.std.specs.Prelude.{ℕ, ◌+◌, ◌<◌, ◌^◌, List, All}
use Rattle.ccsl_relate.specs.declared.watched.Watched.{Watched}
use Rattle.ccsl_relate.specs.declared.watched.Watched.TheVariants.{Nothing, Definition, Relation}

-- the counts of a relation have room for so many ticks more
abbrev pub HasRoomFor : ℕ → Watched → Type 0
HasRoomFor n Nothing = Unit {0}
HasRoomFor n (Definition clock) = Unit {0}
HasRoomFor n (Relation r) = (r.left_count + n < 2 ^ 64) × (r.right_count + n < 2 ^ 64)

abbrev pub HasRoom : Watched → Type 0
HasRoom w = HasRoomFor 1 w

abbrev pub EachHasRoom : List Watched → Type 0
EachHasRoom kept = All HasRoom kept
