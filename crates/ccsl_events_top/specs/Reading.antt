-- What is read of a dump within the limits, and what its header and its body say of it.
use Rattle.std.specs.Prelude.{ℕ, List, [], ◌∷◌, ◌++◌, length, take, drop, Bool, Option, Some, None, nat_lt, if◌then◌else◌}
use Rattle.ccsl_base.specs.declared.limits.TheConstants.{MAX_FILE_BYTES}
use Rattle.ccsl_vcd.specs.declared.fault.VcdFault.{VcdFault}
use Rattle.ccsl_vcd.specs.declared.fault.VcdFault.TheVariants as faults
use Rattle.ccsl_vcd.specs.declared.limits.TheConstants.{LIMITS}
use Rattle.ccsl_events.specs.Dump.{Plan, Place, Said, goes, refused, Story, begin, ends_at}
use Rattle.ccsl_events.specs.Run.{settled_from, story_from}
use Rattle.ccsl_events.specs.Opening.{Opening, open_at, ended, broken, opening}

abbrev pub is_too_long : List ℕ → Bool
is_too_long dump = nat_lt MAX_FILE_BYTES (length dump)

-- What is read of a dump: all of it, and behind its last byte a line feed, which ends its last token. Of one that is too long the
-- bytes up to the limit.
abbrev pub read_of : List ℕ → List ℕ
read_of dump = if is_too_long dump then take MAX_FILE_BYTES dump else dump ++ 10 ∷ []

-- the fault of a dump that has no other one where it ends
abbrev pub end_fault : List ℕ → VcdFault
end_fault dump = if is_too_long dump then faults.TooLong MAX_FILE_BYTES else faults.Truncated (length dump)

-- ## The header

abbrev pub opened : List ℕ → Opening
opened dump = opening LIMITS (settled_from 0 (read_of dump))

-- why it does not end without a fault
abbrev pub header_fault : VcdFault → Opening → Option VcdFault
header_fault end (open_at among h) = Some end
header_fault end (ended h at) = None
header_fault end (broken f) = Some f

-- ## The body, which begins behind the header that ends at a place, and one byte of white space

-- what its tokens say, from a place of the dump on
abbrev pub story_behind : Plan → ℕ → List ℕ → Story
story_behind plan start dump = story_from plan begin (settled_from start (drop start (read_of dump)))

abbrev pub end_says : Plan → List ℕ → Place → Said
end_says plan dump p = if is_too_long dump then refused (faults.TooLong MAX_FILE_BYTES) else ends_at plan (length dump) p

abbrev pub body_ends : Plan → List ℕ → Place → Option VcdFault → Said
body_ends plan dump p None = end_says plan dump p
body_ends plan dump p (Some f) = refused f

-- what is said where it ends
abbrev pub body_said : Plan → ℕ → List ℕ → Said
body_said plan start dump = body_ends plan dump (story_behind plan start dump).place (story_behind plan start dump).fault

-- THE ROWS THAT ARE WRITTEN of a body: all, or those before its first fault
abbrev pub rows_at : Place → Said → List ℕ
rows_at p (goes q) = q.written
rows_at p (refused f) = p.written

abbrev pub rows_of : Plan → ℕ → List ℕ → List ℕ
rows_of plan start dump = rows_at (story_behind plan start dump).place (body_said plan start dump)
