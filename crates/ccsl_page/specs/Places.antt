-- A PLACE IN A TEXT: its line and its column, both from 1; a column counts bytes.
--     place_at text at      the place of the byte number `at`, or of the end, where the text has fewer
--     line_start, line_end      where the line around that byte begins, and where it ends: at its line feed or at the text's end
use Rattle.std.specs.Prelude.{ℕ, ◌+◌, List, [], ◌∷◌, take, ◌==◌, if◌then◌else◌}
use Rattle.ccsl_page.specs.declared.place.Place.{Place}

abbrev pub start : Place
start = record { line = 1; column = 1 }

-- behind a byte: a line feed ends a line
abbrev pub behind : Place → ℕ → Place
behind p b = if b == 10 then (record { line = p.line + 1; column = 1 }) else (record { line = p.line; column = p.column + 1 })

abbrev pub place_from : Place → List ℕ → Place
place_from p [] = p
place_from p (b ∷ bs) = place_from (behind p b) bs

abbrev pub place_at : List ℕ → ℕ → Place
place_at text at = place_from start (take at text)
