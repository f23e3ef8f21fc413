use Rattle.std.proofs.Common.{◌≡◌, ◌≤◌, ℕ, length}
use Rattle.ccsl_event_file.specs.File.{Draft, behind_part, story}
use Rattle.ccsl_event_file.specs.Parsing.{ahead}
use Rattle.ccsl_event_file.proofs.parser.Parser.more_parts.Given as goal

abbrev pub invariant-parts : goal.invariant-parts
invariant-parts l = record {
  len : l.self.len ≡ l.fn.self.len;
  same : (d : Draft) (at : ℕ) → story l.fn.self.len (behind_part d at l.fn.parts.items) (ahead l.fn.self.len l.fn.self.rest.now)
      ≡ story l.fn.self.len (behind_part d at l.parts.items) (ahead l.fn.self.len l.self.rest.now);
  within : length l.self.rest.now ≤ length l.fn.self.rest.now;
}

abbrev pub decreases-parts : goal.decreases-parts
decreases-parts l = length l.self.rest.now
