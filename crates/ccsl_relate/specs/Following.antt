-- WHAT A MONITOR FOLLOWS: the definitions that its items lead to, and no others.
use Rattle.std.specs.Prelude.{◌≡◌, ℕ, List, true, Option, Some, None}
use Rattle.std.specs.List.{list_all}
use Rattle.ccsl_base.specs.declared.limits.TheConstants.{MAX_CLOCKS}
use Rattle.ccsl_base.specs.Clocks.{are_below}
use Rattle.ccsl_kernel.specs.Syntax.{System}
use Rattle.ccsl_state.specs.Reach.{Includes, IsClosed, is_within}
use Rattle.ccsl_state.specs.Part.{HeldPart}
use Rattle.ccsl_relate.specs.declared.watched.Watched.{Watched}
use Rattle.ccsl_relate.specs.Watching.{reads_only}
use Rattle.ccsl_relate.specs.Reading.{clocks_of}

-- the clocks that an item reads are numbers of clocks
abbrev pub ReadsClocks : Watched → Type 0
ReadsClocks w = are_below MAX_CLOCKS (clocks_of w) ≡ true

-- what is followed is within each closed set that has all defined clocks that the items read
abbrev pub FollowsNoMore : System → Option HeldPart → List Watched → Type 0
FollowsNoMore K None kept = Unit {0}
FollowsNoMore K (Some p) kept = (set : List ℕ) → IsClosed K set → list_all (reads_only (is_within K set)) kept ≡ true → Includes K set p.followed
