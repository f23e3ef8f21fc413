use Rattle.std.proofs.Common.{◌<◌, arith}
use Rattle.std.proofs.lemmas.List.{length-set}
use Rattle.ccsl_guide.proofs.watches.Watches.visit_one.Goals as goal

pub invariant_of-self : goal.invariant_of-self
invariant_of-self c = record {
  there = λ k d l k' d' l'. rw length-set (c.args.self.now.there k d l k' d' l');
}

pub enter-requires-clause-named : goal.enter-requires-clause-named
enter-requires-clause-named c =
    let n = c.args.problem.now.scope.named in
    let named : c.in-To.other.clock < n = c.in-To.ensures n c.in-Some.ensures in
    omega (arith, c.leave.ensures.places, c.requires.places)
