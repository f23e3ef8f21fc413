use Rattle.std.proofs.Common.{◌≡◌, ℕ, false, List, ◌++◌, ◌+◌, ◌-◌, ◌^◌, ◌<◌, length, take}
use Rattle.ccsl_events.specs.Dump.{Plan, Place}
use Rattle.ccsl_vcd.specs.declared.limits.Limits.{Limits}
use Rattle.ccsl_vcd.specs.Places.{Among}
use Rattle.ccsl_scopes.specs.Headings.{Heading}
use Rattle.ccsl_events.specs.Fed.{IsInHeader, Hears, HasTaken, Reaches, IsClear}
use Rattle.ccsl_events.proofs.Run.{IsRest}
use Rattle.ccsl_events.proofs.reader.Reader.feed.Given as goal

abbrev pub invariant-strides : goal.invariant-strides
invariant-strides l = record {
  some : length l.rest < length l.piece;
  rest : IsRest l.piece l.rest;
  counts : l.fn.self.taken + length l.piece < 2 ^ 64 → l.self.taken ≡ l.fn.self.taken + (length l.piece - length l.rest);
  clears : l.fn.self.is_header_over ≡ false → IsClear l.self;
  hears : (limits : Limits) (before : List ℕ) (among : Among) (h : Heading) → IsInHeader limits before among h l.fn.self
      → l.fn.self.taken + length l.piece < 2 ^ 64
      → Hears limits (before ++ take (length l.piece - length l.rest) l.piece) l.self × (l.out.items ≡ l.fn.out.items);
  reaches : (plan : Plan) (start : ℕ) (before : List ℕ) (p : Place) → HasTaken plan start before p l.fn.self → l.fn.self.taken + length l.piece < 2 ^ 64 →
      Reaches plan start (before ++ take (length l.piece - length l.rest) l.piece) p.written l.self l.fn.out.items l.out.items;
}

abbrev pub decreases-strides : goal.decreases-strides
decreases-strides l = length l.rest
