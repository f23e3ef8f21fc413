-- What is kept of a header, the story of which it is kept, and what a token makes of it.
use Rattle.std.specs.Prelude.{◌≡◌, ℕ, ◌+◌, ◌-◌, ◌<◌, List, [], ◌∷◌, ◌++◌, length, take, drop, Bool, true, false, Option, Some, None, Result, Ok, Err, nat_le}
use Rattle.std.specs.Prelude.{◌&&◌, if◌then◌else◌, codes, bytes_eq, flat_map}
use Rattle.ccsl_vcd_lex.specs.Tokens.{Token}
use Rattle.ccsl_vcd.specs.declared.fault.VcdFault.{VcdFault}
use Rattle.ccsl_vcd.specs.declared.fault.VcdFault.TheVariants as faults
use Rattle.ccsl_vcd.specs.declared.limits.Limits.{Limits}
use Rattle.ccsl_vcd.specs.Binding.{Declaration, Wanted, bind}
use Rattle.ccsl_vcd.specs.Places as p
use Rattle.ccsl_vcd.specs.Header as d
use Rattle.ccsl_vcd.specs.Reading.{Story, told}
use Rattle.ccsl_vcd.specs.Completed.{complete}
use Rattle.ccsl_bind.specs.Gathered.{StandsFor}
use Rattle.ccsl_vcd_read.specs.declared.command.Command.{Command}
use Rattle.ccsl_vcd_read.specs.declared.command.Command.TheVariants.{Between, Kind, Size, Code, Reference, More, Scope, Upscope, EndDefinitions, Other}
use Rattle.ccsl_vcd_read.specs.declared.heading.Heading.{Heading}

-- a token in a command's place
abbrev pub start_of : Limits → Heading → ℕ → d.HeaderWord → Result Heading VcdFault
start_of limits h at d.end_command = Err (faults.BadHeader at)
start_of limits h at d.plain = Err (faults.BadHeader at)
start_of limits h at d.var = if nat_le limits.vars h.vars then Err (faults.TooManyVars at) else Ok (record h { command = Kind })
start_of limits h at d.scope = Ok (record h { command = Scope at })
start_of limits h at d.upscope = Ok (record h { command = Upscope })
start_of limits h at d.end_definitions = Ok (record h { command = EndDefinitions })
start_of limits h at d.other_command = Ok (record h { command = Other })

abbrev pub put_size : Heading → ℕ → Option ℕ → Result Heading VcdFault
put_size h at None = Err (faults.BadHeader at)
put_size h at (Some n) = Ok (record h { size = n; command = Code })

abbrev pub size_in : Heading → ℕ → List ℕ → Result Heading VcdFault
size_in h at text = put_size h at (d.size_of text)

abbrev pub code_in : Heading → ℕ → List ℕ → Result Heading VcdFault
code_in h at text = if d.is_code text then Ok (record h { code = text; command = Reference }) else Err (faults.BadHeader at)

-- a token inside a command that does not end it
abbrev pub word_in : Heading → ℕ → List ℕ → Command → Result Heading VcdFault
word_in h at text Kind = Ok (record h { kind = text; command = Size })
word_in h at text Size = size_in h at text
word_in h at text Code = code_in h at text
word_in h at text Reference = Ok (record h { reference = text; first = length text; command = More })
word_in h at text More = Ok (record h { reference = h.reference ++ text })
word_in h at text Between = Ok h
word_in h at text (Scope head) = Ok h
word_in h at text Upscope = Ok h
word_in h at text EndDefinitions = Ok h
word_in h at text Other = Ok h

-- the end of a command that is no whole declaration, and not the header's last
abbrev pub end_in : Limits → Heading → ℕ → Command → Result Heading VcdFault
end_in limits h at (Scope head) =
    if nat_le limits.scopes h.depth then Err (faults.TooDeep head) else Ok (record h { depth = h.depth + 1; command = Between })
end_in limits h at Upscope = Ok (record h { depth = h.depth - 1; command = Between })
end_in limits h at Other = Ok (record h { command = Between })
end_in limits h at EndDefinitions = Ok (record h { command = Between })
end_in limits h at More = Ok (record h { command = Between })
end_in limits h at Between = Err (faults.BadHeader at)
end_in limits h at Kind = Err (faults.BadHeader at)
end_in limits h at Size = Err (faults.BadHeader at)
end_in limits h at Code = Err (faults.BadHeader at)
end_in limits h at Reference = Err (faults.BadHeader at)

-- the reference of a declaration: its first token alone, where the others are the range of a single bit
abbrev pub reference_in : List ℕ → ℕ → List ℕ
reference_in all first = if nat_le first (length all) && bytes_eq (drop first all) (codes "[0:0]") then take first all else all

abbrev pub declared_in : Heading → Declaration
declared_in h = record { depth = h.depth; kind = h.kind; size = h.size; code = h.code; reference = reference_in h.reference h.first }

-- what was answered, and what was left, is that; want of memory is free where there is no fault
abbrev pub Becomes : Result Heading VcdFault → Result (Unit {0}) VcdFault → Heading → Type 0
Becomes (Ok h) (Ok u) new = new ≡ h
Becomes (Ok h) (Err f) new = f ≡ faults.Memory
Becomes (Err g) (Ok u) new = ⊥
Becomes (Err g) (Err f) new = f ≡ g

-- Where a token stands.

pub record InVar (limits : Limits) (h : Heading) (among : p.Among) (words : List Token) : Type 0 where
  pub head : Token
  pub inside : among ≡ p.inside head words
  pub is_var : d.header_word head.text ≡ d.var
  pub few : h.vars < limits.vars

pub record InOther (among : p.Among) (w : d.HeaderWord) : Type 0 where
  pub head : Token
  pub words : List Token
  pub inside : among ≡ p.inside head words
  pub is_word : d.header_word head.text ≡ w

pub record SizeNext (limits : Limits) (h : Heading) (among : p.Among) : Type 0 where
  pub kind : Token
  pub opened : InVar limits h among (kind ∷ [])
  pub kind_is : h.kind ≡ kind.text

pub record CodeNext (limits : Limits) (h : Heading) (among : p.Among) : Type 0 where
  pub kind : Token
  pub size : Token
  pub opened : InVar limits h among (kind ∷ size ∷ [])
  pub kind_is : h.kind ≡ kind.text
  pub size_is : d.size_of size.text ≡ Some h.size

pub record ReferenceNext (limits : Limits) (h : Heading) (among : p.Among) : Type 0 where
  pub kind : Token
  pub size : Token
  pub code : Token
  pub opened : InVar limits h among (kind ∷ size ∷ code ∷ [])
  pub kind_is : h.kind ≡ kind.text
  pub size_is : d.size_of size.text ≡ Some h.size
  pub code_is : h.code ≡ code.text

pub record MoreNext (limits : Limits) (h : Heading) (among : p.Among) : Type 0 where
  pub kind : Token
  pub size : Token
  pub code : Token
  pub first : Token
  pub more : List Token
  pub opened : InVar limits h among (kind ∷ size ∷ code ∷ first ∷ more)
  pub kind_is : h.kind ≡ kind.text
  pub size_is : d.size_of size.text ≡ Some h.size
  pub code_is : h.code ≡ code.text
  pub reference_is : h.reference ≡ flat_map (λ t. t.text) (first ∷ more)
  pub first_is : h.first ≡ length first.text

pub record InScope (among : p.Among) (at : ℕ) : Type 0 where
  pub opened : InOther among d.scope
  pub place : opened.head.at ≡ at

abbrev pub Stands : Limits → Heading → p.Among → Command → Type 0
Stands limits h among Between = among ≡ p.commands
Stands limits h among Kind = InVar limits h among []
Stands limits h among Size = SizeNext limits h among
Stands limits h among Code = CodeNext limits h among
Stands limits h among Reference = ReferenceNext limits h among
Stands limits h among More = MoreNext limits h among
Stands limits h among (Scope at) = InScope among at
Stands limits h among Upscope = InOther among d.upscope
Stands limits h among EndDefinitions = InOther among d.end_definitions
Stands limits h among Other = InOther among d.other_command

abbrev pub header_of : Heading → p.Among → List Declaration → p.Header
header_of h among ds = record { among = among; depth = h.depth; declared = ds }

abbrev pub opening : p.Header → Story
opening header = record { changes = []; place = p.header header; fault = None }

-- the story so far is that of these declarations
pub record HeadShows (wanted : Wanted) (limits : Limits) (h : Heading) (st : Story) : Type 0 where
  pub among : p.Among
  pub declared : List Declaration
  pub told : st ≡ opening (header_of h among declared)
  pub binds : StandsFor wanted h.binder declared
  pub vars : h.vars ≡ length declared
  pub stands : Stands limits h among h.command

-- the header has ended, and its clocks are to be bound
pub record Closes (wanted : Wanted) (h : Heading) (st next : Story) : Type 0 where
  pub before : p.Header
  pub declared : List Declaration
  pub told : st ≡ opening before
  pub binds : StandsFor wanted h.binder declared
  pub ends : next ≡ Rattle.ccsl_vcd.specs.Reading.told [] (p.header before) (d.opens declared (bind wanted declared))

abbrev pub HeadGoes : Bool → Wanted → Limits → Heading → Story → Story → Type 0
HeadGoes true wanted limits h st next = Closes wanted h st next
HeadGoes false wanted limits h st next = HeadShows wanted limits h next

-- a token is refused: the place stays, and no row is completed
pub record Refuses (f : VcdFault) (st next : Story) : Type 0 where
  pub fault : next.fault ≡ Some f
  pub place : next.place ≡ st.place
  pub rows : complete next ≡ complete st

-- a fault has this cause, unless it is want of memory
abbrev pub Caused : VcdFault → Type 0 → Type 0
Caused faults.Memory cause = Unit {0}
Caused _ cause = cause

abbrev pub IsMemory : VcdFault → Type 0
IsMemory f = f ≡ faults.Memory

abbrev pub NotMemory : VcdFault → Type 0
NotMemory faults.Memory = ⊥
NotMemory _ = Unit {0}
