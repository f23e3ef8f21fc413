-- WHAT A TRACE OF EVENTS IS WORTH: it reads back as the times at which the names of a system's clocks happen. All of it is this
-- project's.
use Rattle.std.specs.Prelude.{◌≡◌, ℕ, ◌+◌, ◌≤◌, List, [], ◌∷◌, ◌++◌, length, take, map, filter, Bool, true, not, ◌||◌, IsTrue, Option, Some, None}
use Rattle.std.specs.Prelude.{if◌then◌else◌, slice_index_or}
use Rattle.std.specs.List.{list_all}
use Rattle.ccsl_base.specs.declared.limits.TheConstants.{MAX_CLOCKS}
use Rattle.ccsl_base.specs.declared.rows.Row.{Row}
use Rattle.ccsl_base.specs.Name.{is_name}
use Rattle.ccsl_base.specs.Names.{is_among, are_distinct}
use Rattle.ccsl_kernel.specs.Syntax.{System}
use Rattle.ccsl_kernel.specs.Verdict.{verdict}
use Rattle.ccsl_vcd_lex.specs.Tokens.{Heard, is_long, tokens}
use Rattle.ccsl_vcd.specs.declared.limits.Limits.{Limits}
use Rattle.ccsl_vcd.specs.Binding.{Wanted}
use Rattle.ccsl_vcd.specs.Grammar.{is_end}
use Rattle.ccsl_vcd.specs.Rows.{IsRead, has_ticks, recorded}
use Rattle.ccsl_bind.specs.Collected.{wanted_of}
use Rattle.ccsl_trace.specs.Traces.{clocks_of}
use Rattle.ccsl_judge.specs.Judged.{verdict_on}
use Rattle.ccsl_events.specs.Dump.{Plan, Place, goes, story, body_says}
use Rattle.ccsl_events.specs.Written.{header_text}
use Rattle.ccsl_event_rows.specs.Times.{heard_from, times_over, times}

-- ## What is written

-- a time scale, as the header of a dump gives it: none of its words is too long, or ends a command
abbrev pub is_timescale : Option (List ℕ) → Bool
is_timescale None = true
is_timescale (Some scale) = list_all (λ word. not (is_long word || is_end word)) (tokens scale)

-- names as a file of events gives them: names of the grammar, each once
pub record AreEventNames (names : List (List ℕ)) : Type 0 where
  pub few : length names ≤ MAX_CLOCKS
  pub named : IsTrue (list_all is_name names)
  pub distinct : IsTrue (are_distinct names)

-- a plan for these names, and a time scale
pub record IsPlanned (plan : Plan) (timescale : Option (List ℕ)) (names : List (List ℕ)) : Type 0 where
  pub event_names : AreEventNames names
  pub watches : length plan.watches ≡ length names
  pub scale : IsTrue (is_timescale timescale)

-- ## What is read

-- the names with these numbers
abbrev pub named : List (List ℕ) → List ℕ → List (List ℕ)
named names numbers = map (λ n. slice_index_or names n []) numbers

-- the clocks, from a number on, whose names are among some
abbrev pub clocks_from : ℕ → List (List ℕ) → List (List ℕ) → List ℕ
clocks_from clock [] some = []
clocks_from clock (name ∷ names) some =
    if is_among name some then clock ∷ clocks_from (clock + 1) names some else clocks_from (clock + 1) names some

-- the clocks that a trace may bind whose names are among some
abbrev pub clocks_named : Wanted → List (List ℕ) → List ℕ
clocks_named w some = clocks_from 0 w.names some

-- a time with the clocks whose names happen at it
abbrev pub clock_row : Wanted → List (List ℕ) → Row → Row
clock_row w names at = record { time = at.time; ticks = clocks_named w (named names at.ticks) }

-- THE ROWS OF SOME TIMES: those at which the name of a clock happens, each with all such clocks
abbrev pub clock_rows : Wanted → List (List ℕ) → List Row → List Row
clock_rows w names ts = filter has_ticks (map (clock_row w names) ts)

-- each clock that has to be bound has its name there, and the text keeps to the limits
pub record MayBeRead (K : System) (limits : Limits) (names : List (List ℕ)) (text : List ℕ) : Type 0 where
  pub bound : IsTrue (list_all (λ name. is_among name names) (take K.declared (wanted_of K).names))
  pub bytes : length text ≤ limits.bytes
  pub vars : length names ≤ limits.vars
  pub scopes : 1 ≤ limits.scopes

-- A text is read without a fault. It binds the clocks whose names it has, its rows are those of these times, and the verdict on it
-- is the verdict on these rows.
pub record ReadsAs (K : System) (limits : Limits) (names : List (List ℕ)) (ts : List Row) (text : List ℕ) : Type 0 where
  pub read : IsRead (wanted_of K) limits text
  pub bound : clocks_of (wanted_of K) limits text ≡ clocks_named (wanted_of K) names
  pub rows : recorded (wanted_of K) limits text ≡ clock_rows (wanted_of K) names ts
  pub judged : verdict_on K limits text ≡ verdict K (clocks_named (wanted_of K) names) (clock_rows (wanted_of K) names ts)

-- ## The laws

-- EVENTS READ BACK: what is written of a whole body reads as its times
abbrev pub EventsReadBack : Type 0
EventsReadBack =
    (K : System) (limits : Limits) (plan : Plan) (timescale : Option (List ℕ)) (names : List (List ℕ)) →
    IsPlanned plan timescale names → (start len : ℕ) (bytes : List ℕ) (p : Place) → body_says plan start len bytes ≡ goes p →
    MayBeRead K limits names (header_text timescale names ++ p.written) →
    ReadsAs K limits names (times plan (heard_from start bytes)) (header_text timescale names ++ p.written)

-- what is written behind some tokens of a body, as up to a fault, reads as the times that are over
abbrev pub FrontsReadBack : Type 0
FrontsReadBack =
    (K : System) (limits : Limits) (plan : Plan) (timescale : Option (List ℕ)) (names : List (List ℕ)) →
    IsPlanned plan timescale names → (hs : List Heard) →
    MayBeRead K limits names (header_text timescale names ++ (story plan hs).place.written) →
    ReadsAs K limits names (times_over plan hs) (header_text timescale names ++ (story plan hs).place.written)

-- for a trace that binds just these names, in their order, the rows of a body's times are those at which something happens
abbrev pub RowsAreTimes : Type 0
RowsAreTimes =
    (w : Wanted) (plan : Plan) (timescale : Option (List ℕ)) (names : List (List ℕ)) → IsPlanned plan timescale names →
    w.names ≡ names → (hs : List Heard) → clock_rows w names (times plan hs) ≡ filter has_ticks (times plan hs)

-- the number of times that is told of a whole body is that of those at which something happens
abbrev pub TimesAreCounted : Type 0
TimesAreCounted =
    (plan : Plan) (start len : ℕ) (bytes : List ℕ) (p : Place) → body_says plan start len bytes ≡ goes p →
    p.times ≡ length (filter has_ticks (times plan (heard_from start bytes)))
