use Rattle.std.proofs.lemmas.Bool.{both_ways}
use Rattle.ccsl_periodic.proofs.Repeating.{own_period, none_more}
use Rattle.ccsl_periodic.proofs.shortest.shortest_period.Goals as goal

pub loop-period-preserved : goal.loop-period-preserved
loop-period-preserved c =
    none_more c.args.word.now c.loop-period.period c.loop-period.invariant (λ h. both_ways c.repeats.result c.if-repeats.false (c.repeats.ensures.1 h))

pub returns-clause-repeats : goal.returns-clause-repeats
returns-clause-repeats c = rw c.period_len-len.ensures.period (own_period c.args.word.now c.requires)
