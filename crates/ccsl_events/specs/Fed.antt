-- What a reader has taken of a dump, whatever pieces the bytes came in: of its header, and of its body, which begins at a place.
use Rattle.std.specs.Prelude.{◌≡◌, ◌⊎◌, ℕ, ◌+◌, ◌^◌, ◌<◌, ◌≤◌, List, [], ◌++◌, length, take, Bool, true, false, Some, None, Result, Ok, Err, IfOk, OnOk}
use Rattle.ccsl_base.specs.declared.limits.TheConstants.{MAX_TOKEN_BYTES}
use Rattle.ccsl_vcd_lex.specs.Runs.{fresh_after}
use Rattle.ccsl_vcd.specs.declared.fault.VcdFault.{VcdFault}
use Rattle.ccsl_vcd.specs.declared.fault.VcdFault.TheVariants as faults
use Rattle.ccsl_vcd.specs.declared.limits.Limits.{Limits}
use Rattle.ccsl_vcd.specs.Places.{Among}
use Rattle.ccsl_scopes.specs.declared.reader.HeaderReader.{HeaderReader}
use Rattle.ccsl_scopes.specs.Headings as headings
use Rattle.ccsl_scopes.specs.Standing as header
use Rattle.ccsl_events.specs.declared.body.Body.{Body}
use Rattle.ccsl_events.specs.declared.reader.Reader.{Reader}
use Rattle.ccsl_events.specs.Dump.{Plan, Place, Said, begin}
use Rattle.ccsl_events.specs.Standing.{Stands, Answers}
use Rattle.ccsl_events.specs.Run.{IsOpen, settled_from, story_from, Breaks}
use Rattle.ccsl_events.specs.Opening.{opening, open_at, ended, broken}

-- ## The header

-- a reader is inside a header, where the next token stands, and with so much declared
pub record ReadsHeader (limits : Limits) (among : Among) (h : headings.Heading) (r : Reader) : Type 0 where
  pub reader : HeaderReader
  pub has : r.heading ≡ Some reader
  pub stands : header.Stands limits h among reader
  pub bodyless : r.body ≡ None
  pub goes_on : r.is_header_over ≡ false

-- These bytes of a dump were taken, and its header has not ended: white space and whole tokens, which come to a place of the
-- header, and behind them the bytes of an open token, which are kept.
pub record IsInHeader (limits : Limits) (bytes : List ℕ) (among : Among) (h : headings.Heading) (r : Reader) : Type 0 where
  pub reads : ReadsHeader limits among h r
  pub whole : List ℕ
  pub parts : bytes ≡ whole ++ r.carry.items
  pub fresh : fresh_after true whole ≡ true
  pub told : opening limits (settled_from 0 whole) ≡ open_at among h
  pub unended : IsOpen r.carry.items
  pub few : length r.carry.items ≤ MAX_TOKEN_BYTES
  pub taken : r.taken ≡ length bytes

-- These bytes were taken, and they end the header: its last token, and one byte of white space behind it.
pub record IsBehindHeader (limits : Limits) (bytes : List ℕ) (h : headings.Heading) (r : Reader) : Type 0 where
  pub reader : HeaderReader
  pub has : r.heading ≡ Some reader
  pub over : header.IsOver h reader
  pub at : ℕ
  pub told : opening limits (settled_from 0 bytes) ≡ ended h at
  pub one_behind : length bytes ≡ at + 1
  pub fresh : fresh_after true bytes ≡ true
  pub clear : r.carry.items ≡ []
  pub taken : r.taken ≡ length bytes
  pub has_ended : r.is_header_over ≡ true

pub data Hears (limits : Limits) (bytes : List ℕ) (r : Reader) : Type 0 where
  goes_on : (among : Among) (h : headings.Heading) (at : IsInHeader limits bytes among h r) → Hears limits bytes r
  ends : (h : headings.Heading) (at : IsBehindHeader limits bytes h r) → Hears limits bytes r

-- what so many of the bytes settle has this first fault
pub record BreaksHeader (limits : Limits) (bytes : List ℕ) (f : VcdFault) : Type 0 where
  pub front : ℕ
  pub told : opening limits (settled_from 0 (take front bytes)) ≡ broken f

-- Behind the bytes that were taken so many of a piece were, and nothing was written, or one of the tokens is refused, unless memory
-- ran out.
abbrev pub FeedsHeader : Limits → List ℕ → List ℕ → Result ℕ VcdFault → Reader → List ℕ → List ℕ → Type 0
FeedsHeader limits bytes piece (Ok n) r old new = Hears limits (bytes ++ take n piece) r × (new ≡ old)
FeedsHeader limits bytes piece (Err f) r old new = (f ≡ faults.Memory) ⊎ BreaksHeader limits (bytes ++ piece) f

-- A PIECE IS GIVEN TO A READER: this is what is answered, and left, wherever it stands in a header.
abbrev pub TakesHeader : List ℕ → Result ℕ VcdFault → Reader → Reader → List ℕ → List ℕ → Type 0
TakesHeader piece result r s old new =
    (limits : Limits) (bytes : List ℕ) (among : Among) (h : headings.Heading) → IsInHeader limits bytes among h r →
    r.taken + length piece < 2 ^ 64 → FeedsHeader limits bytes piece result s old new

-- what is answered of a token: whether it ended the header
abbrev pub ends_it : Result (Unit {0}) VcdFault → Bool → Result Bool VcdFault
ends_it (Ok u) has_ended = Ok has_ended
ends_it (Err f) has_ended = Err f

-- what a reader answers, and leaves in its header, is what is said
pub record SaysHeader (limits : Limits) (said : headings.Said) (result : Result (Unit {0}) VcdFault) (r : Reader) : Type 0 where
  pub reader : HeaderReader
  pub has : r.heading ≡ Some reader
  pub bodyless : r.body ≡ None
  pub answers : header.Answers limits said (ends_it result r.is_header_over) reader

-- the body may begin, at a place of the dump
pub record MayBegin (start : ℕ) (r : Reader) : Type 0 where
  pub clear : r.carry.items ≡ []
  pub taken : r.taken ≡ start
  pub in_body : r.is_header_over ≡ false

-- ## The body

-- These bytes of the body were taken: white space and whole tokens, whose story comes to a place without a fault, and behind
-- them the bytes of an open token, which are kept.
pub record HasTaken (plan : Plan) (start : ℕ) (bytes : List ℕ) (p : Place) (r : Reader) : Type 0 where
  pub body : Body
  pub has : r.body ≡ Some body
  pub stands : Stands plan p body
  pub whole : List ℕ
  pub parts : bytes ≡ whole ++ r.carry.items
  pub fresh : fresh_after true whole ≡ true
  pub told : story_from plan begin (settled_from start whole) ≡ record { place = p; fault = None }
  pub unended : IsOpen r.carry.items
  pub few : length r.carry.items ≤ MAX_TOKEN_BYTES
  pub taken : r.taken ≡ start + length bytes
  pub in_body : r.is_header_over ≡ false

-- They were taken up to a place, and what was written on the way stands behind what was written before.
pub record Reaches (plan : Plan) (start : ℕ) (bytes before : List ℕ) (r : Reader) (old new : List ℕ) : Type 0 where
  pub place : Place
  pub taken : HasTaken plan start bytes place r
  pub more : List ℕ
  pub out : new ≡ old ++ more
  pub written : place.written ≡ before ++ more

-- Behind the bytes that were taken so many of a piece were, or one of the tokens is refused, unless memory ran out.
abbrev pub Feeds : Plan → ℕ → List ℕ → Place → List ℕ → Result ℕ VcdFault → Reader → List ℕ → List ℕ → Type 0
Feeds plan start bytes p piece (Ok n) r old new = Reaches plan start (bytes ++ take n piece) p.written r old new
Feeds plan start bytes p piece (Err f) r old new = (f ≡ faults.Memory) ⊎ Breaks plan begin start (bytes ++ piece) f p.written old new

-- and wherever it stands in a body
abbrev pub TakesBody : List ℕ → Result ℕ VcdFault → Reader → Reader → List ℕ → List ℕ → Type 0
TakesBody piece result r s old new =
    (plan : Plan) (start : ℕ) (bytes : List ℕ) (p : Place) → HasTaken plan start bytes p r → r.taken + length piece < 2 ^ 64 →
    Feeds plan start bytes p piece result s old new

-- what a reader answers, and leaves in its body, is what is said
pub record Says (plan : Plan) (before : List ℕ) (said : Said) (result : Result (Unit {0}) VcdFault) (r : Reader) (old new : List ℕ) : Type 0 where
  pub body : Body
  pub has : r.body ≡ Some body
  pub answers : Answers plan before said result body old new

-- behind the last token of a header nothing is kept
abbrev pub IsClear : Reader → Type 0
IsClear r = r.is_header_over ≡ true → r.carry.items ≡ []

-- WHAT A CALL THAT TAKES A PIECE ANSWERS, AND LEAVES: it takes so many of the bytes, one at least, wherever the reader stands.
pub record TakesPiece (piece : List ℕ) (result : Result ℕ VcdFault) (r s : Reader) (old new : List ℕ) : Type 0 where
  pub within : IfOk result (λ n. (0 < n) × (n ≤ length piece))
  pub feeds : TakesBody piece result r s old new
  pub heads : TakesHeader piece result r s old new
  pub counts : IfOk result (λ n. r.taken + length piece < 2 ^ 64 → s.taken ≡ r.taken + n)
  pub clears : OnOk result (r.is_header_over ≡ false → IsClear s)
