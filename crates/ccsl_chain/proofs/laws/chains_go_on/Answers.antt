use Rattle.ccsl_chain.specs.Chain.{chain}
use Rattle.ccsl_chain.proofs.Accepted.{accepted}
use Rattle.ccsl_chain.proofs.GoingOn.{goes_on}
use Rattle.ccsl_chain.proofs.laws.chains_go_on.Goals as goal

pub returns : goal.returns
returns c = λ n pos few T run.
    let go = goes_on n pos T run.run in
    (go.0, (c.admissible_sets_extend.ensures (chain n) (accepted n few) T run.run run.named go.0).1 (go.1, go.2))
