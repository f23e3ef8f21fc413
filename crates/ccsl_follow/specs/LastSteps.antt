-- Which steps are kept of a trace that is followed.
use Rattle.std.specs.Prelude.{ℕ, List, [], ◌∷◌, ◌++◌, ◌&&◌, length, nat_le, nat_lt, if◌then◌else◌}
use Rattle.ccsl_page.specs.declared.ticks.Column.{Column}

-- a step is kept where it is not in front of the first of the last ones, and fewer than 256 are kept
abbrev pub kept_with : ℕ → List Column → Column → List Column
kept_with first kept step = if nat_le first step.step && nat_lt (length kept) 256 then kept ++ step ∷ [] else kept
