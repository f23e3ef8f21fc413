-- WHAT IS MADE OF A FILE OF EVENTS AND A DUMP: a trace of events, whole or up to the dump's first fault, or why there is none.
use Rattle.std.specs.Prelude.{◌≡◌, ℕ, ◌+◌, List, [], ◌++◌, length, nat_lt, Some, Result, Ok, Err, if◌then◌else◌}
use Rattle.std.specs.declared.vec.Vec.{Vec}
use Rattle.std.specs.declared.alloc.Global.{Global}
use Rattle.ccsl_base.specs.declared.limits.TheConstants.{MAX_SPEC_BYTES}
use Rattle.ccsl_vcd.specs.declared.fault.VcdFault.{VcdFault}
use Rattle.ccsl_scopes.specs.declared.header.Header.{Header}
use Rattle.ccsl_scopes.specs.Headings.{Heading}
use Rattle.ccsl_scopes.specs.Standing.{IsHeaderOf}
use Rattle.ccsl_event_file.specs.declared.fault.EventFault.{EventFault}
use Rattle.ccsl_event_file.specs.declared.fault.EventFault.TheVariants.{TooLong}
use Rattle.ccsl_event_file.specs.File.{Event, Reading, fault, reading, names_of}
use Rattle.ccsl_event_file.specs.File as file
use Rattle.ccsl_events.specs.declared.body.Gaps.{Gaps}
use Rattle.ccsl_events.specs.Binding.{bound}
use Rattle.ccsl_events.specs.Binds.{seen_plan}
use Rattle.ccsl_events.specs.Dump.{Plan, Said, goes, refused}
use Rattle.ccsl_events.specs.Opening.{ended}
use Rattle.ccsl_events.specs.Standing.{are_skipped, counted}
use Rattle.ccsl_events.specs.Written.{header_text}
use Rattle.ccsl_events_top.specs.declared.stop.Stop.{Stop}
use Rattle.ccsl_events_top.specs.declared.stop.Stop.TheVariants.{Events, Trace}
use Rattle.ccsl_events_top.specs.Reading.{opened, header_fault, end_fault, body_said, rows_of}

-- what a file of events says
abbrev pub reading_of : List ℕ → Reading
reading_of text = if nat_lt MAX_SPEC_BYTES (length text) then fault TooLong else reading text

-- what events mean for a dump with a header, which is a plan of its body
pub record IsPlanned (es : List Event) (h : Heading) (gaps : Gaps) (plan : Plan) : Type 0 where
  pub header : Header
  pub declares : IsHeaderOf h header
  pub means : bound es header.variables.items header.codes (are_skipped gaps) ≡ Ok (seen_plan plan)

-- one of their paths is refused
pub record IsUnplanned (es : List Event) (h : Heading) (gaps : Gaps) (f : EventFault) : Type 0 where
  pub header : Header
  pub declares : IsHeaderOf h header
  pub means : bound es header.variables.items header.codes (are_skipped gaps) ≡ Err f

-- how many names and times there are, or what is wrong with the dump
abbrev pub answered : ℕ → Said → Result (ℕ × ℕ) Stop
answered names (goes last) = Ok (names, counted last.times)
answered names (refused f) = Err (Trace f)

pub data IsMade (events dump : List ℕ) (gaps : Gaps) (done : Result (ℕ × ℕ) Stop) (text : List ℕ) : Type 0 where
  no_events : (f : EventFault) (says : reading_of events ≡ fault f) (near : Vec ℕ Global) (is : done ≡ Err (Events f near))
      (nothing : text ≡ []) → IsMade events dump gaps done text
  no_header : (es : List Event) (says : reading_of events ≡ file.events es)
      (f : VcdFault) (heads : header_fault (end_fault dump) (opened dump) ≡ Some f) (is : done ≡ Err (Trace f))
      (nothing : text ≡ []) → IsMade events dump gaps done text
  no_path : (es : List Event) (says : reading_of events ≡ file.events es) (h : Heading) (at : ℕ) (heads : opened dump ≡ ended h at)
      (f : EventFault) (unplanned : IsUnplanned es h gaps f) (near : Vec ℕ Global) (is : done ≡ Err (Events f near))
      (nothing : text ≡ []) → IsMade events dump gaps done text
  -- the header of the trace and the rows of the body, which begins one byte behind the header of the dump
  rows : (es : List Event) (says : reading_of events ≡ file.events es) (h : Heading) (at : ℕ) (heads : opened dump ≡ ended h at)
      (plan : Plan) (planned : IsPlanned es h gaps plan) (is : done ≡ answered (length es) (body_said plan (at + 1) dump))
      (writes : text ≡ header_text h.timescale (names_of es) ++ rows_of plan (at + 1) dump) → IsMade events dump gaps done text
