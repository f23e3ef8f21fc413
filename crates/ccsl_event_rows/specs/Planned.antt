-- WHAT IS READ MAY BE WRITTEN: the names of a file of events, the time scale of a dump's header, and the plan that the events mean for
-- it, are such that what is written of the dump reads back. All of it is this project's.
use Rattle.std.specs.Prelude.{◌≡◌, ℕ, List, Bool, Ok}
use Rattle.ccsl_vcd_lex.specs.Tokens.{heard}
use Rattle.ccsl_vcd.specs.declared.limits.Limits.{Limits}
use Rattle.ccsl_scopes.specs.declared.variable.Variable.{Variable}
use Rattle.ccsl_scopes.specs.Headings.{Heading}
use Rattle.ccsl_event_file.specs.File.{Event, events, reading, names_of}
use Rattle.ccsl_events.specs.Opening.{ended, opening}
use Rattle.ccsl_events.specs.Binding.{bound}
use Rattle.ccsl_events.specs.Binds.{seen_plan}
use Rattle.ccsl_events.specs.Dump.{Plan}
use Rattle.ccsl_event_rows.specs.ReadsBack.{IsPlanned}

-- where a file of events is read, a dump's header ends, and the events mean a plan for some variables and codes
abbrev pub WhatIsReadMayBeWritten : Type 0
WhatIsReadMayBeWritten =
    (file dump : List ℕ) (es : List Event) (limits : Limits) (heading : Heading) (at : ℕ)
    (vs : List Variable) (codes : List (List ℕ)) (skips : Bool) (plan : Plan) →
    reading file ≡ events es → opening limits (heard dump) ≡ ended heading at → bound es vs codes skips ≡ Ok (seen_plan plan) →
    IsPlanned plan heading.timescale (names_of es)
