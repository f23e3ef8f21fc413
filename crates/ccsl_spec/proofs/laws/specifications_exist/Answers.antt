use Rattle.ccsl_spec.proofs.Existing.{settled}
use Rattle.ccsl_spec.proofs.laws.specifications_exist.Goals as goal

pub returns : goal.returns
returns c = settled c.tokens_or_fault.ensures c.reader_is_right.ensures
