-- The course after the steps so far, and the deaths so far.
use Rattle.std.proofs.Common.{◌≡◌, [], map, suc}
use Rattle.ccsl_kernel.specs.Plain.{plain_expr}
use Rattle.ccsl_kernel.specs.Lives.{steps}
use Rattle.ccsl_plain.specs.Course.{opening, grown, course_life}
use Rattle.ccsl_plain.specs.Held.{held, gone_in, IsReady}
use Rattle.ccsl_plain.proofs.walk.followed.Given as goal

abbrev pub invariant-loop-i : goal.invariant-loop-i
invariant-loop-i l = record {
  course : held l.system.words l.course ≡ grown l.system l.list (gone_in l.deaths) (opening l.system (plain_expr l.e) []) 0 l.i;
  ready : IsReady l.system.words (held l.system.words l.course);
  deaths : l.column.items ≡ map (λ n. (course_life l.system l.list (gone_in l.deaths) (plain_expr l.e) [] 0 n).dead) (steps 0 (suc l.i));
}
