-- One more step.
use Rattle.std.proofs.Common.{[], arith}
use Rattle.std.proofs.lemmas.Grind.{common_steps}
use Rattle.std.proofs.lemmas.List.{get_or_read}
use Rattle.ccsl_kernel.specs.Plain.{plain_expr}
use Rattle.ccsl_plain.specs.Course.{opening}
use Rattle.ccsl_plain.specs.Held.{held, gone_in}
use Rattle.ccsl_plain.proofs.WalkSteps.{walk_course, walk_deaths}
use Rattle.ccsl_plain.proofs.walk.followed.Goals as goal

pub loop-i-init : goal.loop-i-init
loop-i-init c = grind (arith, common_steps)

pub loop-i-preserved : goal.loop-i-preserved
loop-i-preserved c =
    let K = c.args.system.now in
    let birth = opening K (plain_expr c.args.e.now) [] in
    let later =
    walk_course K c.args.list.now (gone_in c.args.deaths.now) birth c.loop-i.i (held K.words c.loop-i.course) (held K.words c.in_ok-moved.moved.course)
    c.index-list-i.result
    c.loop-i.invariant.course (get_or_read c.args.list.now c.loop-i.i c.index-list-i.result (omega arith) c.index-list-i.is [])
    (c.in_ok-moved.ensures.next (gone_in c.args.deaths.now c.loop-i.i)) in
    record {
      course = later;
      ready = c.in_ok-moved.ensures.ready;
      deaths = walk_deaths K c.args.list.now (gone_in c.args.deaths.now) birth c.loop-i.i c.loop-i.column.items c.push-in-loop-i.new.self.items
          (held K.words c.in_ok-moved.moved.course) c.is_dead-in-loop-i.result c.loop-i.invariant.deaths later
          (rw c.words-words.ensures at c.is_dead-in-loop-i.ensures) c.in_ok-push-2.ensures.items;
    }
