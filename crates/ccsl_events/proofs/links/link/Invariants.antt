use Rattle.std.proofs.Common.{map, take}
use Rattle.ccsl_triggers.specs.Held.{held}
use Rattle.ccsl_events.specs.Links.{IsLinked}
use Rattle.ccsl_events.proofs.links.link.Given as goal

abbrev pub invariant-loop-source : goal.invariant-loop-source
invariant-loop-source l = IsLinked l.codes (take l.source-index l.sources) (map held l.links.signals.items) l.links.entries.items
