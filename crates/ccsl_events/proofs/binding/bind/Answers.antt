use Rattle.std.proofs.Common.{length, ap, ◌∙◌}
use Rattle.ccsl_scopes.specs.Codes.{are_declared}
use Rattle.ccsl_events.proofs.binding.bind.Goals as goal

pub bound-requires-clause-coded : goal.bound-requires-clause-coded
bound-requires-clause-coded c = ap (are_declared (length c.args.header.codes)) c.as_slice.ensures.value ∙ c.args.header.declared
