-- What stands in the list, and what the rest adds, is the whole. A call goes to an earlier definition.
use Rattle.std.proofs.Common.{◌≡◌, ◌+◌, ◌*◌, ◌++◌, drop, map}
use Rattle.ccsl_ast.specs.Trees.{SLineOf}
use Rattle.ccsl_ast.specs.Plain.{plain_line}
use Rattle.ccsl_rules.specs.Unfolded.{unfold_body}
use Rattle.ccsl_spaces.specs.Callees.{seen_call}
use Rattle.ccsl_expand.specs.Items.{seen_item, earlier}
use Rattle.ccsl_expand.proofs.unfold.+unfolding.Given as goal

abbrev pub decreases-unfold_lines : goal.decreases-unfold_lines
decreases-unfold_lines l = 2 * l.home + 1

abbrev pub decreases-unfold_line : goal.decreases-unfold_line
decreases-unfold_line l = 2 * l.home

abbrev pub invariant-unfold_lines-loop-i : goal.invariant-unfold_lines-loop-i
invariant-unfold_lines-loop-i l =
    let f = unfold_body l.sources.words.now (map seen_call l.sources.calls.now) (earlier l.sources l.home) l.frame.path l.frame.setting.value in
    map seen_item l.out.items ++ f l.next l.i (map SLineOf (map plain_line (drop l.i l.lines))) ≡ map seen_item l.fn.out.items
    ++ f l.start 0 (map SLineOf (map plain_line l.lines))
