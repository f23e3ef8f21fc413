use Rattle.std.proofs.Common.{ℕ, length, sym, ap, ap₂, subst, ◌∙◌, ◌+◌}
use Rattle.std.proofs.lemmas.List.{with_items_is}
use Rattle.ccsl_events.specs.Links.{with_user}
use Rattle.ccsl_events.proofs.Users.{AreFirstUsers, got-watch, first-more, first-all}
use Rattle.ccsl_events.proofs.links.users.Goals as goal

pub loop-watch-preserved : goal.loop-watch-preserved
loop-watch-preserved c =
    let old = c.loop-watch.users in
    let new = c.put_user.new.users in
    let i = c.loop-watch.watch-index in
    let w = c.watch-item.result in
    record {
      counts = ap (λ n. n + 1) c.loop-watch.invariant.counts;
      first =
          subst (AreFirstUsers c.args.count (i + 1) c.args.watches.now)
          (sym (with_items_is old new (c.put_user.auto.users ∙ ap length c.as_mut_slice.ensures.value ∙ sym old.ok.0)))
          (first-more c.args.count i c.args.watches.now old.items new w c.loop-watch.invariant.first
          (got-watch c.args.watches.now i w c.loop-watch-test.true c.watch-item.is)
          (c.put_user.auto.users ∙ ap length c.as_mut_slice.ensures.value)
          (λ n.
          c.in_ok-put_user.ensures n ∙ ap (λ us. with_user c.signal.result c.loop-watch.name us n) c.as_mut_slice.ensures.value
          ∙ ap₂ (λ (v k : ℕ). with_user v k old.items n) c.signal.ensures c.loop-watch.invariant.counts));
    }

pub returns : goal.returns
returns c = first-all c.args.count c.loop-watch.watch-index c.args.watches.now c.loop-watch.users.items c.loop-watch.invariant.first c.loop-watch-test.false
