use Rattle.std.proofs.Common.{◌≡◌, ◌≤◌, ℕ, List, [], length}
use Rattle.ccsl_event_file.specs.File.{Event, Trigger, event, behind, story}
use Rattle.ccsl_event_file.specs.Parsing.{ahead, conditions_in}
use Rattle.ccsl_event_file.proofs.statement.conditions.Given as goal

abbrev pub invariant-conditions : goal.invariant-conditions
invariant-conditions l = record {
  len : l.parser.len ≡ l.fn.parser.len;
  same : (es : List Event) (name : List ℕ) (t : Trigger) → story l.fn.parser.len (behind es (event name t [])) (ahead l.fn.parser.len l.fn.parser.rest.now)
      ≡ story l.fn.parser.len (behind es (event name t (conditions_in l.conditions.items))) (ahead l.fn.parser.len l.parser.rest.now);
  within : length l.parser.rest.now ≤ length l.fn.parser.rest.now;
}

abbrev pub decreases-conditions : goal.decreases-conditions
decreases-conditions l = length l.parser.rest.now
