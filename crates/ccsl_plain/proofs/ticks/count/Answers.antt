-- The chain counts what passes.
use Rattle.std.proofs.Common.{◌≡◌, ◌∙◌, sym, rules}
use Rattle.std.specs.List.{count_by}
use Rattle.ccsl_plain.proofs.TickWords.{count-is_count_by}
use Rattle.ccsl_plain.proofs.ticks.count.Goals as goal

pub returns-clause-number : goal.returns-clause-number
returns-clause-number c = let e : c.count.result ≡ count_by (λ t. t) c.args.ticks.now = search rules in e ∙ sym (count-is_count_by c.args.ticks.now)
