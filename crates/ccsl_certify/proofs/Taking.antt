-- The follower that takes what a feed hands out.
use Rattle.std.proofs.Common.{◌≡◌, ℕ, List, ◌++◌, Option, Some, sym, ◌∙◌}
use Rattle.ccsl_base.specs.declared.rows.Row.{Row}
use Rattle.ccsl_edge.specs.World.{State, Told}
use Rattle.ccsl_kernel.specs.Syntax.{System}
use Rattle.ccsl_bind.specs.Collected.{wanted_of}
use Rattle.ccsl_vcd.specs.declared.limits.Limits.{Limits}
use Rattle.ccsl_vcd_read.specs.declared.reader.Counts.{Counts}
use Rattle.ccsl_trace.specs.Feeding.{Feeding, GivesRows, GivesEnd}
use Rattle.ccsl_trace.proofs.Giving.{read-by}
use Rattle.ccsl_certify.specs.declared.follower.Follower.{Follower}
use Rattle.ccsl_certify.specs.Replaying.{Follows, Goes, HasEnded}

-- the follower that took the rows goes on, or has ended with them
module _ {told : Told} {K : System} {limits : Limits} {start now : State} {before : Option (List ℕ)} {bound : List ℕ} (known : before ≡ Some bound)
    {feed : Feeding} {rows : List Row} {f : Follower} (follows : Follows K bound (rows ++ feed.block.rows) f) where
  pub goes-on : GivesRows told (wanted_of K) limits start now before feed rows → Goes told K limits start now feed f
  goes-on g = record {
    bound = bound;
    rows = rows ++ feed.block.rows;
    shows = g.shows ∙ sym g.known ∙ known;
    feeds = g.feeds;
    follows = follows;
  }

  pub has-ended : (n : Counts) → GivesEnd told (wanted_of K) limits start now before feed rows n → HasEnded told K limits start now n.rows f
  has-ended n g = record {
    bound = bound;
    rows = rows ++ feed.block.rows;
    byte_count = n.bytes;
    is_read = read-by told (wanted_of K) limits start now before bound known feed rows n g;
    follows = follows;
  }
