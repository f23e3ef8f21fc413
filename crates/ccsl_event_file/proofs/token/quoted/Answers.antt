use Rattle.std.proofs.Common.{rules, arith}
use Rattle.std.proofs.lemmas.Grind.{common_steps}
use Rattle.ccsl_event_file.proofs.token.quoted.Goals as goal

pub slice_bounds-result-count : goal.slice_bounds-result-count
slice_bounds-result-count c = search rules

pub slice_bounds-result-start : goal.slice_bounds-result-start
slice_bounds-result-start c = search rules

pub returns-then-text-end-eq34-clause-behind : goal.returns-then-text-end-eq34-clause-behind
returns-then-text-end-eq34-clause-behind c = grind (arith, common_steps)
