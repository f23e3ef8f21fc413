-- One row more completes one step more.
use Rattle.std.proofs.Common.{◌+◌, ◌<◌, ◌^◌, length, take, get_or, Some, sym, ◌∙◌, subst, subst₂, arith, length-take-le}
use Rattle.std.proofs.lemmas.List.{length-set, take_more, take_more_set}
use Rattle.ccsl_base.specs.declared.rows.Row.{Row}
use Rattle.ccsl_relate.specs.Completed.{Completes}
use Rattle.ccsl_relate.specs.Watching.{IsUndeclared, AreAfter}
use Rattle.ccsl_relate.proofs.Completing.{with_steps, with-more, with-length, completes-more}
use Rattle.ccsl_relate.proofs.steps.complete.Goals as goal

pub loop-i-preserved : goal.loop-i-preserved
loop-i-preserved c = record {
  undeclared = subst (λ K. IsUndeclared K c.args.undeclared.now) (sym c.next_step.ensures.system) c.loop-i.invariant.undeclared;
  room = length-set c.loop-i.completed c.loop-i.i _ ∙ c.loop-i.invariant.room;
  completes = λ K T after few.
      let held = Some c.args.states.now in
      let held' = Some c.next_step.new.states in
      let i = c.loop-i.i in
      let rows = take i c.args.rows.now in
      let row = get_or c.args.rows.now i c.index-rows-i.result in
      let d = c.index-completed-i.result in
      let step : Row = record { time = (get_or c.loop-i.completed i d).time; ticks = c.next_step.new.step } in
      let h = c.loop-i.invariant.completes K T after few in
      let before = with_steps K T rows in
      let more = take_more c.args.rows.now i c.index-rows-i.result c.loop-i-test.true in
      let short : length before + 1 < 2 ^ 64 = omega (arith, with-length K T rows, length-take-le i c.args.rows.now (omega arith), few) in
      let one = c.next_step.ensures.completed K before h.1 short in (
        subst₂ (λ rs ss. Completes K T held rs ss held') (sym more) (sym (take_more_set c.loop-i.completed i step (omega arith)))
            (completes-more K T held rows (take i c.loop-i.completed) (Some c.loop-i.states) row step held' h.0 one),
        subst (λ rs. AreAfter K held' (with_steps K T rs)) (sym more) (subst (AreAfter K held') (sym (with-more K T rows row)) one.after),
      );
}
