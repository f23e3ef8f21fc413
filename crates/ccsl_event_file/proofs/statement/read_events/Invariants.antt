use Rattle.std.proofs.Common.{◌≡◌, ◌≤◌, map, length}
use Rattle.ccsl_base.specs.declared.limits.TheConstants.{MAX_CLOCKS}
use Rattle.ccsl_event_file.specs.File.{statement, story, names_of, reading}
use Rattle.ccsl_event_file.specs.Parsing.{ahead, event_in}
use Rattle.ccsl_event_file.proofs.statement.read_events.Given as goal

abbrev pub invariant-statements : goal.invariant-statements
invariant-statements l = record {
  len : l.parser.len ≡ length l.text;
  names : l.names ≡ names_of (map event_in l.events.items);
  few : length l.events.items ≤ MAX_CLOCKS;
  same : reading l.text ≡ story (length l.text) (statement (map event_in l.events.items)) (ahead (length l.text) l.parser.rest.now);
}

abbrev pub decreases-statements : goal.decreases-statements
decreases-statements l = length l.parser.rest.now
