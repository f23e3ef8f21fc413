-- What stands, and what the rest of the text adds, is the whole; neither number outgrows the bytes that were passed.
use Rattle.std.proofs.Common.{◌≡◌, ◌+◌, ◌≤◌, drop}
use Rattle.ccsl_page.specs.Places.{start, place_from}
use Rattle.ccsl_page.proofs.place.place_of.Given as goal

abbrev pub invariant-loop-byte : goal.invariant-loop-byte
invariant-loop-byte l =
    (place_from l.place (drop l.byte-index l.front) ≡ place_from start l.front)
    × (l.place.line ≤ l.byte-index + 1)
    × (l.place.column ≤ l.byte-index + 1)
