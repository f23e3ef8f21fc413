use Rattle.std.proofs.Common.{◌≡◌, ◌-◌, length, Some}
use Rattle.ccsl_events.specs.Keeping.{kept, set_chain, SameTables}
use Rattle.ccsl_events.proofs.values.Values.set_others.Given as goal

abbrev pub invariant-variables : goal.invariant-variables
invariant-variables l = record {
  goes :
      set_chain (l._count-end - l._count) l.next l.letters l.is_dumped (kept l.self)
      ≡ set_chain (length l.fn.self.signals.items - 1) (Some l.fn.second) l.letters l.is_dumped (kept l.fn.self);
  same : SameTables l.fn.self l.self;
  names : l.self.names ≡ l.fn.self.names;
}
