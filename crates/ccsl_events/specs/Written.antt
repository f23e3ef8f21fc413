-- WHAT IS WRITTEN BEFORE THE ROWS: a header that declares each name of the file of events as an event, all of them in one scope,
-- with the time scale of the dump. IEEE 1364-2005, clause 18.2; which of its forms are written is this project's own.
use Rattle.std.specs.Prelude.{ℕ, ◌+◌, List, [], ◌∷◌, ◌++◌, map, Option, Some, None, codes}
use Rattle.ccsl_event_file.specs.declared.event.Event.{Event}
use Rattle.ccsl_triggers.specs.Output.{code_of}

-- a line, with a line feed behind it
abbrev pub line : List ℕ → List ℕ
line text = text ++ 10 ∷ []

-- the time scale of the dump, where it has one
abbrev pub timescale_line : Option (List ℕ) → List ℕ
timescale_line None = []
timescale_line (Some scale) = line (codes "$timescale " ++ scale ++ codes " $end")

abbrev pub scope_line : List ℕ
scope_line = line (codes "$scope module events $end")

-- the declaration of the name with a number
abbrev pub event_line : ℕ → List ℕ → List ℕ
event_line number name = line (codes "$var event 1 " ++ code_of number ++ codes " " ++ name ++ codes " $end")

-- those of the names from a number on
abbrev pub event_lines : ℕ → List (List ℕ) → List ℕ
event_lines number [] = []
event_lines number (name ∷ names) = event_line number name ++ event_lines (number + 1) names

abbrev pub last_lines : List ℕ
last_lines = line (codes "$upscope $end") ++ line (codes "$enddefinitions $end")

-- THE HEADER of a trace of events with these names, by the time scale of a dump
abbrev pub header_text : Option (List ℕ) → List (List ℕ) → List ℕ
header_text timescale names = timescale_line timescale ++ scope_line ++ event_lines 0 names ++ last_lines

-- the names that a file of events declares, in its order
abbrev pub names_of : List Event → List (List ℕ)
names_of events = map (λ e. e.name.items) events
