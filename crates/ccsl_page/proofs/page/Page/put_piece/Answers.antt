use Rattle.std.proofs.Common.{rules}
use Rattle.ccsl_page.proofs.page.Page.put_piece.Goals as goal

pub returns-in-Name : goal.returns-in-Name
returns-in-Name c = search rules
