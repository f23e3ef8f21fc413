-- What stands in the list, and what the rest adds, is the whole.
use Rattle.std.proofs.Common.{◌≡◌, ◌++◌, drop, map, length}
use Rattle.ccsl_ast.specs.Plain.{plain_sline}
use Rattle.ccsl_rules.specs.Unfolded.{unfold_body}
use Rattle.ccsl_spaces.specs.Callees.{seen_call}
use Rattle.ccsl_expand.specs.Items.{seen_item, earlier}
use Rattle.ccsl_expand.proofs.unfold.unfold_system.Given as goal

abbrev pub invariant-loop-i : goal.invariant-loop-i
invariant-loop-i l =
    let f = unfold_body l.sources.words.now (map seen_call l.sources.calls.now) (earlier l.sources (length l.sources.blocks.now)) l.frame.path
    l.frame.setting.value in
    map seen_item l.items.items ++ f l.next l.i (map plain_sline (drop l.i l.lines)) ≡ f l.start 0 (map plain_sline l.lines)
