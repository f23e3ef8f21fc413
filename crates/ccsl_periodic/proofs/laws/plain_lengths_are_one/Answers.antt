use Rattle.ccsl_periodic.proofs.Alone.{plain_length_is_one}
use Rattle.ccsl_periodic.proofs.laws.plain_lengths_are_one.Goals as goal

pub returns : goal.returns
returns c = plain_length_is_one
