-- A definition has its place.
use Rattle.std.proofs.lemmas.Grind.{common_steps}
use Rattle.std.proofs.Common.{arith}
use Rattle.std.proofs.lemmas.Option.{slice_get-get_or}
use Rattle.ccsl_state.proofs.Each.{places_len}
use Rattle.ccsl_state.proofs.items.item_formula.Goals as goal

pub bounds-places-item : goal.bounds-places-item
bounds-places-item c = grind (arith, common_steps, places_len)

pub definition_item-requires-clause-place : goal.definition_item-requires-clause-place
definition_item-requires-clause-place c = grind (arith, common_steps, places_len, slice_get-get_or)
