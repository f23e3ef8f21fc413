-- THE WHOLE DUMP IS READ: within the limit its header and its body are what all its tokens say. All of it is this project's.
use Rattle.std.specs.Prelude.{◌≡◌, ◌≤◌, ℕ, List, length, drop}
use Rattle.ccsl_base.specs.declared.limits.TheConstants.{MAX_FILE_BYTES}
use Rattle.ccsl_vcd_lex.specs.Tokens.{heard}
use Rattle.ccsl_events.specs.Dump.{Plan, body_says}
use Rattle.ccsl_events.specs.Opening.{opening}
use Rattle.ccsl_vcd.specs.declared.limits.TheConstants.{LIMITS}
use Rattle.ccsl_events_top.specs.Reading.{opened, body_said}

abbrev pub HeaderIsRead : Type 0
HeaderIsRead = (dump : List ℕ) → length dump ≤ MAX_FILE_BYTES → opened dump ≡ opening LIMITS (heard dump)

-- the body from a place of the dump on
abbrev pub BodyIsRead : Type 0
BodyIsRead =
    (plan : Plan) (start : ℕ) (dump : List ℕ) → length dump ≤ MAX_FILE_BYTES →
    body_said plan start dump ≡ body_says plan start (length dump) (drop start dump)
