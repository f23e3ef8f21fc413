use Rattle.std.proofs.Common.{◌≤◌, length, arith}
use Rattle.std.proofs.lemmas.Bool.Decides.{nat_tests}
use Rattle.ccsl_expand.specs.Seen.{seen_atom}
use Rattle.ccsl_expand.proofs.Walks.{past-the-last}
use Rattle.ccsl_expand.proofs.frame.bind_argument.Goals as goal

pub returns-in-None : goal.returns-in-None
returns-in-None c =
    let past : length c.args.params.now ≤ c.args.i = grind (arith, nat_tests, c.in-None.ensures.lookup) in
    past-the-last c.args.params.now c.args.i (seen_atom c.args.atom) c.args.setting past
