use Rattle.ccsl_lines.proofs.Searching.{search_ends_no_line}
use Rattle.ccsl_lines.proofs.laws.search_ends_no_line.Goals as goal

pub returns : goal.returns
returns c = search_ends_no_line
