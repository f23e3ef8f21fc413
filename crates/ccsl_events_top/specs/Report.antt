-- The exit status, and the line of report.
use Rattle.std.specs.Prelude.{◌≡◌, ◌≢◌, ◌⊎◌, ℕ, List, [], ◌∷◌, Result, Ok, Err, codes, decimal}
use Rattle.ccsl_page.specs.Pieces.{line}
use Rattle.ccsl_vcd.specs.declared.fault.VcdFault.{VcdFault}
use Rattle.ccsl_vcd.specs.declared.fault.VcdFault.TheVariants as t
use Rattle.ccsl_event_file.specs.declared.fault.EventFault.{EventFault}
use Rattle.ccsl_event_file.specs.declared.fault.EventFault.TheVariants as e
use Rattle.ccsl_events_top.specs.declared.words.Usage.{Usage}
use Rattle.ccsl_events_top.specs.declared.words.Usage.TheVariants as u
use Rattle.ccsl_events_top.specs.declared.stop.Stop.{Stop}
use Rattle.ccsl_events_top.specs.declared.stop.Stop.TheVariants.{Words, Events, Trace, Fault, Memory}
use Rattle.ccsl_events_top.specs.declared.answer.Answer.{Answer}
use Rattle.ccsl_events_top.specs.Words.{key_text}

-- ## Lines

abbrev pub usage_line : Usage → List ℕ
usage_line (u.NotPair i) = line (codes "words: word " ∷ decimal i ∷ codes " is no pair" ∷ [])
usage_line (u.UnknownKey i) = line (codes "words: unknown key in word " ∷ decimal i ∷ [])
usage_line (u.Repeated i) = line (codes "words: repeated key in word " ∷ decimal i ∷ [])
usage_line (u.BadValue i) = line (codes "words: bad value in word " ∷ decimal i ∷ [])
usage_line (u.Missing key) = line (codes "words: missing " ∷ key_text key ∷ [])
usage_line u.SameName = line (codes "words: same name" ∷ [])

-- on a file of events
abbrev pub events_line : EventFault → List ℕ
events_line (e.Syntax at) = line (codes "events: syntax at byte " ∷ decimal at ∷ [])
events_line (e.Duplicate at) = line (codes "events: duplicate name at byte " ∷ decimal at ∷ [])
events_line (e.Unknown at) = line (codes "events: unknown path at byte " ∷ decimal at ∷ [])
events_line (e.Ambiguous at) = line (codes "events: ambiguous path at byte " ∷ decimal at ∷ [])
events_line (e.NotOneBit at) = line (codes "events: not one bit at byte " ∷ decimal at ∷ [])
events_line (e.NoEvent at) = line (codes "events: no event at byte " ∷ decimal at ∷ [])
events_line (e.TooWide at) = line (codes "events: value too wide at byte " ∷ decimal at ∷ [])
events_line e.TooLong = line (codes "events: more than 1048576 bytes" ∷ [])
events_line e.Memory = []

-- on a dump
abbrev pub trace_line : VcdFault → List ℕ
trace_line (t.TokenTooLong at) = line (codes "trace: token too long at byte " ∷ decimal at ∷ [])
trace_line (t.BadHeader at) = line (codes "trace: bad header at byte " ∷ decimal at ∷ [])
trace_line (t.TooManyVars at) = line (codes "trace: too many variables at byte " ∷ decimal at ∷ [])
trace_line (t.TooDeep at) = line (codes "trace: scopes too deep at byte " ∷ decimal at ∷ [])
trace_line (t.BadTime at) = line (codes "trace: bad time at byte " ∷ decimal at ∷ [])
trace_line (t.BadChange at) = line (codes "trace: bad change at byte " ∷ decimal at ∷ [])
trace_line (t.UnknownCode at) = line (codes "trace: unknown code at byte " ∷ decimal at ∷ [])
trace_line (t.UnknownCommand at) = line (codes "trace: unknown command at byte " ∷ decimal at ∷ [])
trace_line (t.Gap at) = line (codes "trace: gap at byte " ∷ decimal at ∷ [])
trace_line (t.Truncated at) = line (codes "trace: truncated at byte " ∷ decimal at ∷ [])
trace_line (t.TooLong at) = line (codes "trace: too long at byte " ∷ decimal at ∷ [])
trace_line (t.TimeBack at present time) =
    line (codes "trace: time goes back from " ∷ decimal present ∷ codes " to " ∷ decimal time ∷ codes " at byte " ∷ decimal at ∷ [])
trace_line _ = line (codes "trace: refused" ∷ [])

-- on a whole trace: how many names it has, and times
abbrev pub whole_line : ℕ → ℕ → List ℕ
whole_line names times = line (codes "events: " ∷ decimal names ∷ codes " names, " ∷ decimal times ∷ codes " times" ∷ [])

-- ## What is answered

abbrev pub status_of : Result (ℕ × ℕ) Stop → ℕ
status_of (Ok counts) = 0
status_of (Err (Words fault)) = 2
status_of (Err (Events e.Memory near)) = 6
status_of (Err (Events fault near)) = 3
status_of (Err (Trace fault)) = 4
status_of (Err Fault) = 5
status_of (Err Memory) = 6

abbrev pub line_of : Result (ℕ × ℕ) Stop → List ℕ
line_of (Ok counts) = whole_line counts.0 counts.1
line_of (Err (Words fault)) = usage_line fault
line_of (Err (Events fault near)) = events_line fault
line_of (Err (Trace fault)) = trace_line fault
line_of (Err Fault) = []
line_of (Err Memory) = []

-- the answer to what was done, or that there is no memory for its line
abbrev pub IsAnswer : Answer → Result (ℕ × ℕ) Stop → Type 0
IsAnswer answer done =
    ((answer.status ≡ status_of done) × (answer.line ≡ line_of done))
    ⊎ ((status_of done ≢ 5) × (answer.status ≡ 6) × (answer.line ≡ []))
