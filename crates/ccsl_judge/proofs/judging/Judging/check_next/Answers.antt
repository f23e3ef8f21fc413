use Rattle.std.proofs.Common.{◌+◌, ◌<◌, ◌++◌, ◌^◌, length, sym, ap, ◌∙◌, subst}
use Rattle.std.proofs.lemmas.List.{with_items_is}
use Rattle.ccsl_bind.specs.Collected.{wanted_of}
use Rattle.ccsl_trace.proofs.Giving.{given-few, nearer}
use Rattle.ccsl_judge.specs.Divided.{FollowAll}
use Rattle.ccsl_judge.specs.Going.{Goes, HasEnded}
use Rattle.ccsl_judge.proofs.Taking.{goes-on, has-ended}
use Rattle.ccsl_judge.proofs.judging.Judging.check_next.Goals as goal

pub returns-in-Err-clause-unread : goal.returns-in-Err-clause-unread
returns-in-Err-clause-unread g c = λ K limits start s. c.in-Err.ensures.unread (wanted_of K) limits start s.rows s.feeds

pub check_rows-requires-clause-follow : goal.check_rows-requires-clause-follow
check_rows-requires-clause-follow g c = λ κs b.
    let w = c.requires.goes in
    let s = w.3 in
    let now = g.W.World.state c.next.new.world in
    let given = c.in-Ok.ensures.gives (wanted_of w.0) w.1 w.2 s.rows s.feeds in
    let few = given-few g.W.World.told (wanted_of w.0) w.1 w.2 now _ s.bound s.shows c.next.new.self s.rows c.in-Ok.next given in (
      w.0,
      s.bound,
      s.rows,
      subst (FollowAll w.0 s.bound s.rows) (sym c.as_mut_slice-shares.ensures.value) s.follow,
      subst (λ b. length s.rows + length b.rows < 2 ^ 64) (sym c.block.ensures) few,
    )

pub returns-in-Bound : goal.returns-in-Bound
returns-in-Bound g c = record {
  stands = λ K limits start s.
      let now = g.W.World.state c.next.new.world in
      let given = c.in-Ok.ensures.gives (wanted_of K) limits start s.rows s.feeds in
      let few = given-few g.W.World.told (wanted_of K) limits start now _ s.bound s.shows c.next.new.self s.rows c.in-Ok.next given in
      let took = subst (λ b. FollowAll K s.bound (s.rows ++ b.rows) c.check_rows.new.shares) c.block.ensures
      (c.check_rows.ensures K s.bound s.rows (subst (FollowAll K s.bound s.rows) (sym c.as_mut_slice-shares.ensures.value) s.follow)
      (subst (λ b. length s.rows + length b.rows < 2 ^ 64) (sym c.block.ensures) few)) in
      let items = with_items_is c.args.self.now.shares c.check_rows.new.shares
      (c.check_rows.auto.shares ∙ ap length c.as_mut_slice-shares.ensures.value ∙ sym c.args.self.now.shares.ok.0) in
      subst (Goes g.W.World.told K limits start now c.next.new.self) (sym items)
      (goes-on g.W.World.told K limits start now _ s.bound s.shows c.next.new.self s.rows c.check_rows.new.shares took c.in-Ok.next given c.in-Bound.is);
  nears = nearer c.in-Ok.next c.args.self.now.feed c.next.new.self c.in-Ok.ensures.nears c.in-Bound.is;
  unread = tt;
}

pub returns-in-Ended-clause-stands : goal.returns-in-Ended-clause-stands
returns-in-Ended-clause-stands g c = λ K limits start s.
    let now = g.W.World.state c.next.new.world in
    let given = c.in-Ok.ensures.gives (wanted_of K) limits start s.rows s.feeds in
    let few = given-few g.W.World.told (wanted_of K) limits start now _ s.bound s.shows c.next.new.self s.rows c.in-Ok.next given in
    let took = subst (λ b. FollowAll K s.bound (s.rows ++ b.rows) c.check_rows.new.shares) c.block.ensures
    (c.check_rows.ensures K s.bound s.rows (subst (FollowAll K s.bound s.rows) (sym c.as_mut_slice-shares.ensures.value) s.follow)
    (subst (λ b. length s.rows + length b.rows < 2 ^ 64) (sym c.block.ensures) few)) in
    let items = with_items_is c.args.self.now.shares c.check_rows.new.shares
    (c.check_rows.auto.shares ∙ ap length c.as_mut_slice-shares.ensures.value ∙ sym c.args.self.now.shares.ok.0) in
    subst (HasEnded g.W.World.told K limits start now c.in-Ended.counts.rows) (sym items)
    (has-ended g.W.World.told K limits start now _ s.bound s.shows c.next.new.self s.rows c.check_rows.new.shares took c.in-Ended.counts
    (rw c.in-Ended.is at given))
