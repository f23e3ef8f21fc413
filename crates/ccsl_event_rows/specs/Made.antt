-- WHAT THE PROGRAM MAKES READS BACK: a whole trace that is made of a file of events and a dump is, to `judge`, the times of the dump's
-- body at which these events happen. All of it is this project's.
use Rattle.std.specs.Prelude.{◌≡◌, ℕ, ◌+◌, List, length, filter, drop, Ok}
use Rattle.ccsl_kernel.specs.Syntax.{System}
use Rattle.ccsl_vcd.specs.declared.limits.Limits.{Limits}
use Rattle.ccsl_vcd.specs.Rows.{has_ticks}
use Rattle.ccsl_scopes.specs.Headings.{Heading}
use Rattle.ccsl_event_file.specs.File.{Event, names_of}
use Rattle.ccsl_event_file.specs.File as file
use Rattle.ccsl_events.specs.declared.body.Gaps.{Gaps}
use Rattle.ccsl_events.specs.Dump.{Plan}
use Rattle.ccsl_events.specs.Opening.{ended}
use Rattle.ccsl_events.specs.Standing.{counted}
use Rattle.ccsl_events_top.specs.Made.{reading_of, IsMade, IsPlanned}
use Rattle.ccsl_events_top.specs.Reading.{opened}
use Rattle.ccsl_event_rows.specs.ReadsBack.{MayBeRead, ReadsAs}
use Rattle.ccsl_event_rows.specs.Times.{heard_from, times}

-- The events of the file have a plan for the dump's header. As many names and times are told as there are events, and times of the
-- body at which one happens; and the trace reads as these times.
pub record IsReadBack (events dump : List ℕ) (gaps : Gaps) (counts : ℕ × ℕ) (text : List ℕ) : Type 0 where
  pub es : List Event
  pub says : reading_of events ≡ file.events es
  pub heading : Heading
  pub at : ℕ
  pub heads : opened dump ≡ ended heading at
  pub plan : Plan
  pub planned : IsPlanned es heading gaps plan
  pub names : counts.0 ≡ length es
  pub times_are : counts.1 ≡ counted (length (filter has_ticks (times plan (heard_from (at + 1) (drop (at + 1) dump)))))
  pub reads : (K : System) (limits : Limits) → MayBeRead K limits (names_of es) text →
      ReadsAs K limits (names_of es) (times plan (heard_from (at + 1) (drop (at + 1) dump))) text

abbrev pub WhatIsMadeReadsBack : Type 0
WhatIsMadeReadsBack =
    (events dump : List ℕ) (gaps : Gaps) (counts : ℕ × ℕ) (text : List ℕ) → IsMade events dump gaps (Ok counts) text →
    IsReadBack events dump gaps counts text
