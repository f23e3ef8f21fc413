use Rattle.std.proofs.Common.{◌≡◌, take}
use Rattle.std.specs.List.{flat_map}
use Rattle.ccsl_print.specs.Pages.{lines_after}
use Rattle.ccsl_print.proofs.lines.put_all.Given as goal

abbrev pub invariant-loop-item : goal.invariant-loop-item
invariant-loop-item g l = l.page ≡ lines_after l.fn.page (flat_map g.T.Lined.lines (take l.item-index l.items))
