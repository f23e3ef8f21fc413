use Rattle.ccsl_follow.proofs.Fed.{fed-bound, fed-rows}
use Rattle.ccsl_follow.proofs.Rereading.{only-on, only-unread, calm-on}
use Rattle.ccsl_follow.proofs.feeding.next_rows.Goals as goal

pub next-requires : goal.next-requires
next-requires g c = let w = c.requires in record { feeds = (w.wanted, w.limits, w.start, w.rows, w.feeds) }

pub returns-in-Bound : goal.returns-in-Bound
returns-in-Bound g c =
    let w = c.requires in
    let given = rw c.in-Bound.is at (c.in-Ok.ensures.gives w.wanted w.limits w.start w.rows w.feeds) in
    record {
      fed = λ _. fed-bound g.W.World.told w.wanted w.limits w.start (g.W.World.state c.next.new.world) _ c.next.new.self w.rows given;
      reads = only-on g.W.World.told w.feeds.bytes w.start _ _ w.feeds.reads given.feeds.bytes given.feeds.reads;
      calm = calm-on g.W.World.told w.feeds.bytes w.start _ _ w.feeds.reads given.feeds.bytes given.feeds.reads;
    }

pub returns-in-Rows : goal.returns-in-Rows
returns-in-Rows g c =
    let w = c.requires in
    let given = rw c.in-Rows.is at (c.in-Ok.ensures.gives w.wanted w.limits w.start w.rows w.feeds) in
    record {
      fed = λ _. fed-rows g.W.World.told w.wanted w.limits w.start (g.W.World.state c.next.new.world) _ c.next.new.self w.rows given;
      reads = only-on g.W.World.told w.feeds.bytes w.start _ _ w.feeds.reads given.feeds.bytes given.feeds.reads;
      calm = calm-on g.W.World.told w.feeds.bytes w.start _ _ w.feeds.reads given.feeds.bytes given.feeds.reads;
    }

pub returns-in-Ended-clause-reads : goal.returns-in-Ended-clause-reads
returns-in-Ended-clause-reads g c =
    let w = c.requires in
    let given = rw c.in-Ended.is at (c.in-Ok.ensures.gives w.wanted w.limits w.start w.rows w.feeds) in
    only-on g.W.World.told w.feeds.bytes w.start _ _ w.feeds.reads given.is_read.bytes given.is_read.reads

pub returns-in-Ended-clause-calm : goal.returns-in-Ended-clause-calm
returns-in-Ended-clause-calm g c =
    let w = c.requires in
    let given = rw c.in-Ended.is at (c.in-Ok.ensures.gives w.wanted w.limits w.start w.rows w.feeds) in
    calm-on g.W.World.told w.feeds.bytes w.start _ _ w.feeds.reads given.is_read.bytes given.is_read.reads

pub returns-in-Err-clause-reads : goal.returns-in-Err-clause-reads
returns-in-Err-clause-reads g c =
    let w = c.requires in
    only-unread g.W.World.told w.feeds.bytes w.start _ _ w.feeds.reads w.wanted w.limits _ (c.in-Err.ensures.unread w.wanted w.limits w.start w.rows w.feeds)
