use Rattle.std.proofs.Common.{arith}
use Rattle.std.proofs.lemmas.Bool.Decides.{nat_tests}
use Rattle.std.proofs.lemmas.Option.{slice_get_read}
use Rattle.ccsl_expand.proofs.tables.next_offset.Goals as goal

pub returns-in-Some : goal.returns-in-Some
returns-in-Some c = grind (arith, nat_tests, c.in-Some.ensures.lookup, slice_get_read)
