-- The shares that take what a feed hands out.
use Rattle.std.proofs.Common.{◌≡◌, ℕ, List, ◌++◌, Option, Some, sym, ◌∙◌, ⊎_elim, ◌⊎◌}
use Rattle.ccsl_base.specs.declared.rows.Row.{Row}
use Rattle.ccsl_edge.specs.World.{State, Told}
use Rattle.ccsl_kernel.specs.Syntax.{System}
use Rattle.ccsl_bind.specs.Collected.{wanted_of}
use Rattle.ccsl_vcd.specs.declared.limits.Limits.{Limits}
use Rattle.ccsl_vcd_read.specs.declared.reader.Counts.{Counts}
use Rattle.ccsl_trace.specs.declared.next.Next.{Next}
use Rattle.ccsl_trace.specs.declared.next.Next.TheVariants.{Bound, Rows, Ended}
use Rattle.ccsl_trace.specs.Feeding.{Feeding, GivesEnd, Gives}
use Rattle.ccsl_trace.proofs.Giving.{not-bound, read-by}
use Rattle.ccsl_judge.specs.declared.share.Share.{Share}
use Rattle.ccsl_judge.specs.Divided.{FollowAll}
use Rattle.ccsl_judge.specs.Going.{Goes, HasEnded}

-- the shares that took the rows go on, or have ended with them
module _ (told : Told) (K : System) (limits : Limits) (start now : State) (before : Option (List ℕ)) (bound : List ℕ) (known : before ≡ Some bound)
    (feed : Feeding) (rows : List Row) (shares : List Share) (follow : FollowAll K bound (rows ++ feed.block.rows) shares) where
  pub goes-on : (next : Next) → Gives told (wanted_of K) limits start now next before feed rows → (next ≡ Bound) ⊎ (next ≡ Rows)
      → Goes told K limits start now feed shares
  goes-on Bound g e = not-bound told (wanted_of K) limits start now before bound known feed rows g
  goes-on (Ended n) g e = ⊎_elim (λ s. absurd (cc s)) (λ s. absurd (cc s)) e
  goes-on Rows g e = record {
    bound = bound;
    rows = rows ++ feed.block.rows;
    shows = g.shows ∙ sym g.known ∙ known;
    feeds = g.feeds;
    follow = follow;
  }

  pub has-ended : (n : Counts) → GivesEnd told (wanted_of K) limits start now before feed rows n → HasEnded told K limits start now n.rows shares
  has-ended n g = record {
    bound = bound;
    rows = rows ++ feed.block.rows;
    byte_count = n.bytes;
    is_read = read-by told (wanted_of K) limits start now before bound known feed rows n g;
    follow = follow;
  }
