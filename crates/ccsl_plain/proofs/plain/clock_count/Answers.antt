-- The chain counts the steps in which the clock ticks.
use Rattle.std.proofs.Common.{◌≡◌, ◌∙◌, sym, rules}
use Rattle.std.specs.List.{count_by}
use Rattle.ccsl_base.specs.Clocks.{ticks_in}
use Rattle.ccsl_kernel.proofs.ItemCases.{clock_count-is}
use Rattle.ccsl_plain.proofs.plain.clock_count.Goals as goal

pub returns-clause-number : goal.returns-clause-number
returns-clause-number c = let e : c.count.result ≡ count_by (ticks_in c.args.x) c.args.list.now =
    search rules in e ∙ sym (clock_count-is c.args.list.now c.args.x)
