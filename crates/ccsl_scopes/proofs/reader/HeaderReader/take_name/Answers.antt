use Rattle.std.proofs.Common.{rules}
use Rattle.ccsl_scopes.proofs.reader.HeaderReader.take_name.Goals as goal

pub returns-in_ok-extend_from_slice-clause-name : goal.returns-in_ok-extend_from_slice-clause-name
returns-in_ok-extend_from_slice-clause-name c = search rules
