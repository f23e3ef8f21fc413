use Rattle.ccsl_lines.proofs.Taken.{given_lines_are_taken}
use Rattle.ccsl_lines.proofs.laws.given_lines_are_taken.Goals as goal

pub returns : goal.returns
returns c = given_lines_are_taken
