use Rattle.std.proofs.Common.{◌≡◌, ◌+◌, ◌-◌, [], ◌∷◌, ◌++◌, length, length-append, sym, ap, ◌∙◌, subst, arith}
use Rattle.ccsl_judge.specs.Shares.{IsAt}
use Rattle.ccsl_judge.specs.Divided.{Follow}
use Rattle.ccsl_judge.proofs.Sharing.{follow-more}
use Rattle.ccsl_judge.proofs.shares.open_into.Goals as goal

pub loop-done-preserved : goal.loop-done-preserved
loop-done-preserved c =
    let K = c.args.system.now in
    let bound = c.args.bound.now in
    let start = c.loop-done.cut.item in
    let next = c.next_cut-next.result.item in
    let size = next - start in
    let end : start + size ≡ next = omega (arith, c.next_cut-next.ensures.behind) in
    let s = c.in_ok-open.field-0 in
    let at : IsAt K bound [] start s.monitor =
    record { system = c.in_ok-open.ensures.system; start = c.in_ok-open.ensures.start; stands = c.in_ok-open.ensures.stands } in
    record {
      follow = subst (λ xs. Follow K bound [] 0 xs next) (sym c.in_ok-push.ensures.items)
          (subst (Follow K bound [] 0 (c.loop-done.shares.items ++ s ∷ [])) (ap (λ n. start + n) c.in_ok-open.ensures.count ∙ end)
          (follow-more K bound [] 0 c.loop-done.shares.items start s c.loop-done.invariant.follow at));
      room = omega (arith, c.next_cut-next.ensures.room);
      last = λ e. c.next_cut-next.ensures.last (omega (arith, e));
      opened = ap length c.in_ok-push.ensures.items ∙ omega (arith, length-append c.loop-done.shares.items (s ∷ []), c.loop-done.invariant.opened);
      weight = c.next_cut-next.ensures.weight;
      weighed = c.next_cut-next.ensures.weighed;
    }
