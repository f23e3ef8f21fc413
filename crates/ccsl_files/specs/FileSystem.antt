-- A world over the real files: it tells the counts of faults and which slots are open, and nothing of the content.
use Rattle.std.specs.Prelude.{false}
use Rattle.ccsl_edge.specs.World.{Told}

abbrev pub tells_nothing : Told
tells_nothing = record { files = false; left = false; written = false }
