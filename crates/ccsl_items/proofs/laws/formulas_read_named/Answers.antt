use Rattle.ccsl_items.proofs.Named.{named_alone}
use Rattle.ccsl_items.proofs.laws.formulas_read_named.Goals as goal

pub returns : goal.returns
returns c K ok T = named_alone K ok (c.reads_lower.ensures K ok) T
