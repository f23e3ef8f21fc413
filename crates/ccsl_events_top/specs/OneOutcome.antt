-- AN OUTCOME IS ONE: of a file of events and a dump one thing is made. All of it is this project's.
use Rattle.std.specs.Prelude.{◌≡◌, ℕ, List, Result}
use Rattle.ccsl_events.specs.declared.body.Gaps.{Gaps}
use Rattle.ccsl_events_top.specs.declared.stop.Stop.{Stop}
use Rattle.ccsl_events_top.specs.Report.{status_of, line_of}
use Rattle.ccsl_events_top.specs.Made.{IsMade}

-- one status, one line and one trace
abbrev pub OneIsMade : Type 0
OneIsMade =
    (events dump : List ℕ) (gaps : Gaps) (done other : Result (ℕ × ℕ) Stop) (text again : List ℕ) →
    IsMade events dump gaps done text → IsMade events dump gaps other again →
    (status_of done ≡ status_of other) × (line_of done ≡ line_of other) × (text ≡ again)
