-- THE TIMES OF A DUMP: a time is over where a token tells a greater one, or where the dump ends. All of it is this project's.
use Rattle.std.specs.Prelude.{ℕ, List, [], ◌∷◌, ◌++◌, map, true, None, nat_lt, if◌then◌else◌}
use Rattle.ccsl_base.specs.declared.rows.Row.{Row}
use Rattle.ccsl_vcd_lex.specs.Tokens.{Heard, hear, tokens_from}
use Rattle.ccsl_events.specs.Dump.{Plan, Place, Story, next, begin, story, names_at}

-- the present time, with the numbers of the names that happen at it
abbrev pub present : Plan → Place → Row
present plan p = record { time = p.now; ticks = names_at plan.watches p.views }

-- the time that is over where a token leads from one place to another: that of the first, if the second has a greater one
abbrev pub over : Plan → Place → Place → List Row
over plan p q = if nat_lt p.now q.now then present plan p ∷ [] else []

-- the times that are over behind some more tokens
abbrev pub over_behind : Plan → Story → List Heard → List Row
over_behind plan s [] = []
over_behind plan s (h ∷ hs) = over plan s.place (next plan s h).place ++ over_behind plan (next plan s h) hs

abbrev pub begun : Story
begun = record { place = begin; fault = None }

-- the tokens of a body that begins at a place of its dump
abbrev pub heard_from : ℕ → List ℕ → List Heard
heard_from start bytes = map hear (tokens_from true start bytes)

-- THE TIMES THAT ARE OVER behind some tokens of a body
abbrev pub times_over : Plan → List Heard → List Row
times_over plan hs = over_behind plan begun hs

-- ALL TIMES of a body that ends behind these tokens: the last one is over too
abbrev pub times : Plan → List Heard → List Row
times plan hs = times_over plan hs ++ present plan (story plan hs).place ∷ []
