-- Reading a whole file: what its tokens say one after another, and the fault that is decided first.
use Rattle.std.specs.Prelude.{ℕ, List, [], ◌++◌, length, take, Bool, true, false, not, Option, Some, None, nat_lt, ◌&&◌, if◌then◌else◌, fold}
use Rattle.std.specs.Option.{option_or}
use Rattle.ccsl_vcd_lex.specs.Tokens.{Token, Heard, word, too_long, settled, heard}
use Rattle.ccsl_vcd.specs.declared.fault.VcdFault.{VcdFault}
use Rattle.ccsl_vcd.specs.declared.fault.VcdFault.TheVariants as faults
use Rattle.ccsl_vcd.specs.declared.limits.Limits.{Limits}
use Rattle.ccsl_vcd.specs.Binding.{Wanted}
use Rattle.ccsl_vcd.specs.Places.{Change, commands, Amid, changes, Where, header, body, Said, goes, refused}
use Rattle.ccsl_vcd.specs.Header.{header_says}
use Rattle.ccsl_vcd.specs.Body.{body_says}

abbrev pub stands_at : Wanted → Limits → Token → Where → Said
stands_at wanted limits t (header h) = header_says wanted limits h t h.among
stands_at wanted limits t (body b) = body_says b t b.amid

-- what a token says where it stands
unfoldable pub says : Wanted → Limits → Where → Heard → Said
says wanted limits w (too_long at) = refused (faults.TokenTooLong at)
says wanted limits w (word t) = stands_at wanted limits t w

-- the changes, the place where the next token stands, or the refused one stood, and the first refusal
pub record Story : Type 0 where
  pub changes : List Change
  pub place : Where
  pub fault : Option VcdFault

abbrev pub told : List Change → Where → Said → Story
told cs w (goes v ds) = record { changes = cs ++ ds; place = v; fault = None }
told cs w (refused f) = record { changes = cs; place = w; fault = Some f }

-- after a fault nothing changes
abbrev pub next_from : Wanted → Limits → List Change → Where → Option VcdFault → Heard → Story
next_from wanted limits cs w None h = told cs w (says wanted limits w h)
next_from wanted limits cs w (Some f) h = record { changes = cs; place = w; fault = Some f }

abbrev pub next : Wanted → Limits → Story → Heard → Story
next wanted limits s h = next_from wanted limits s.changes s.place s.fault h

abbrev pub begin : Story
begin = record { changes = []; place = header (record { among = commands; depth = 0; declared = [] }); fault = None }

-- what tokens say one after another
abbrev pub story : Wanted → Limits → List Heard → Story
story wanted limits hs = fold (next wanted limits) begin hs

abbrev pub is_changes : Amid → Bool
is_changes changes = true
is_changes amid = false

-- whether a file may end there
abbrev pub may_end : Where → Bool
may_end (header h) = false
may_end (body b) = is_changes b.amid && not b.dumping

-- what the end of a file of that length decides
abbrev pub at_end : ℕ → Where → Option VcdFault
at_end len w = if may_end w then None else Some (faults.Truncated len)

-- a fault that is decided after all of a story
abbrev pub decides : Story → Option VcdFault → Story
decides s f = record { changes = s.changes; place = s.place; fault = option_or s.fault f }

abbrev pub is_over : Limits → List ℕ → Bool
is_over limits bytes = nat_lt limits.bytes (length bytes)

-- What these bytes of a file decide, whatever follows. The tokens' faults are decided in the tokens' order, and what the
-- limit decides comes after them. A byte past the limit is not taken.
unfoldable pub so_far : Wanted → Limits → List ℕ → Story
so_far wanted limits bytes =
    if is_over limits bytes
    then decides (story wanted limits (settled (take limits.bytes bytes))) (Some (faults.TooLong limits.bytes))
    else story wanted limits (settled bytes)

-- the story of a file of that length
abbrev pub ends_at : ℕ → Story → Story
ends_at len s = decides s (at_end len s.place)

-- The reading of a whole file: its changes and where it ends, or the fault that is decided first.
unfoldable pub reading : Wanted → Limits → List ℕ → Story
reading wanted limits file =
    if is_over limits file then so_far wanted limits file
    else ends_at (length file) (story wanted limits (heard file))
