-- A header with the names of its scopes: what its tokens declare one after another. IEEE 1364-2005, clause 18.2.3. Every
-- command that is not named here is passed over. Where a fault stands, and the limits, are this project's profile.
use Rattle.std.specs.Prelude.{ℕ, List, [], ◌∷◌, ◌++◌, length, Bool, true, false, Option, Some, None, is_some, unwrap_or, nat_le, ◌==◌, ◌||◌, if◌then◌else◌}
use Rattle.std.specs.Prelude.{codes, bytes_eq, flat_map, fold}
use Rattle.ccsl_base.specs.Empty.{is_empty}
use Rattle.ccsl_base.specs.Decimal.{number_up_to}
use Rattle.ccsl_base.specs.Names.{is_among}
use Rattle.ccsl_vcd_lex.specs.Tokens.{Token}
use Rattle.ccsl_vcd.specs.declared.fault.VcdFault.{VcdFault}
use Rattle.ccsl_vcd.specs.declared.fault.VcdFault.TheVariants as faults
use Rattle.ccsl_vcd.specs.declared.limits.Limits.{Limits}
use Rattle.ccsl_vcd.specs.Places.{Among, commands, inside}
use Rattle.ccsl_vcd.specs.Header.{is_code}
use Rattle.ccsl_scopes.specs.declared.command.HeaderWord.{HeaderWord}
use Rattle.ccsl_scopes.specs.declared.command.HeaderWord.TheVariants.{Var, Scope, Upscope, EndDefinitions, Timescale, OtherCommand, End, Plain}
use Rattle.ccsl_scopes.specs.declared.variable.Kind.{Kind}
use Rattle.ccsl_scopes.specs.declared.variable.Kind.TheVariants as kinds

-- a declared variable: what its values are, its size and code, the names of its scopes, the innermost first, and its reference
pub record Declared : Type 0 where
  pub kind : Kind
  pub size : ℕ
  pub code : List ℕ
  pub scopes : List (List ℕ)
  -- the first word of the reference, and what the others make together
  pub first : List ℕ
  pub more : List ℕ

-- what was declared so far
pub record Heading : Type 0 where
  -- the names of the open scopes, the innermost first
  pub scopes : List (List ℕ)
  pub declared : List Declared
  -- what stands between the last $timescale and its $end
  pub timescale : Option (List ℕ)

-- the next token stands there, with so much declared, or the header is over, or the token is refused
pub data Said : Type 0 where
  goes : Among → Heading → Said
  over : Heading → Said
  refused : VcdFault → Said

abbrev pub begins_command : List ℕ → Bool
begins_command [] = false
begins_command (b ∷ bs) = b == 36

abbrev pub header_word : List ℕ → HeaderWord
header_word text =
    if bytes_eq text (codes "$end") then End
    else (if bytes_eq text (codes "$var") then Var
    else (if bytes_eq text (codes "$scope") then Scope
    else (if bytes_eq text (codes "$upscope") then Upscope
    else (if bytes_eq text (codes "$enddefinitions") then EndDefinitions
    else (if bytes_eq text (codes "$timescale") then Timescale
    else (if begins_command text then OtherCommand
    else Plain))))))

-- what the values of a type are
abbrev pub kind_named : List ℕ → Kind
kind_named text =
    if bytes_eq text (codes "event") then kinds.Event
    else (if bytes_eq text (codes "real") || (bytes_eq text (codes "realtime") || bytes_eq text (codes "string"))
    then kinds.Other
    else kinds.Bits)

-- a size fits 32 bits
abbrev pub size_of : List ℕ → Option ℕ
size_of text = number_up_to 4294967295 text

-- what some words make together
abbrev pub joined : List Token → List ℕ
joined words = flat_map (λ w. w.text) words

abbrev pub put_spaced : List ℕ → List ℕ → List ℕ
put_spaced before text = if is_empty before then text else before ++ 32 ∷ text

-- with a blank between two
abbrev pub spaced : List Token → List ℕ
spaced words = fold (λ before w. put_spaced before w.text) [] words

-- the name of a scope stands behind its type
abbrev pub scope_name : List Token → List ℕ
scope_name [] = []
scope_name (type ∷ words) = joined words

-- what the words of a $var declare: type, size, code and reference
abbrev pub declares : List (List ℕ) → List Token → Option Declared
declares scopes (type ∷ size ∷ code ∷ first ∷ more) =
    Some (record {
      kind = kind_named type.text;
      size = unwrap_or (size_of size.text) 0;
      code = code.text;
      scopes = scopes;
      first = first.text;
      more = joined more;
    })
declares scopes words = None

-- a token in a command's place
abbrev pub starts : Limits → Heading → Token → HeaderWord → Said
starts limits h t End = refused (faults.BadHeader t.at)
starts limits h t Plain = refused (faults.BadHeader t.at)
starts limits h t Var =
    if nat_le limits.vars (length h.declared) then refused (faults.TooManyVars t.at) else goes (inside t []) h
starts limits h t word = goes (inside t []) h

-- whether a token may stand inside a command, behind these
abbrev pub word_fits : HeaderWord → List Token → Token → Bool
word_fits Var (type ∷ []) t = is_some (size_of t.text)
word_fits Var (type ∷ size ∷ []) t = is_code t.text
word_fits word words t = true

abbrev pub put_declared : Heading → Token → Option Declared → Said
put_declared h t (Some d) = goes commands (record h { declared = h.declared ++ d ∷ [] })
put_declared h t None = refused (faults.BadHeader t.at)

abbrev pub outer : List (List ℕ) → List (List ℕ)
outer [] = []
outer (name ∷ names) = names

-- the end of a command that a token began, behind these words
abbrev pub ends : Limits → Heading → HeaderWord → Token → List Token → Token → Said
ends limits h Var head words t = put_declared h t (declares h.scopes words)
ends limits h Scope head words t =
    if nat_le limits.scopes (length h.scopes) then refused (faults.TooDeep head.at)
    else goes commands (record h { scopes = scope_name words ∷ h.scopes })
ends limits h Upscope head words t = goes commands (record h { scopes = outer h.scopes })
ends limits h EndDefinitions head words t = over h
ends limits h Timescale head words t = goes commands (record h { timescale = Some (spaced words) })
ends limits h word head words t = goes commands h

-- a token inside a command that a word began
abbrev pub inside_says : Limits → Heading → HeaderWord → Token → List Token → Token → Bool → Said
inside_says limits h word head words t true = ends limits h word head words t
inside_says limits h word head words t false =
    if word_fits word words t then goes (inside head (words ++ t ∷ [])) h else refused (faults.BadHeader t.at)

abbrev pub is_end : Token → Bool
is_end t = bytes_eq t.text (codes "$end")

-- WHAT A TOKEN OF A HEADER SAYS
abbrev pub heading_says : Limits → Heading → Token → Among → Said
heading_says limits h t commands = starts limits h t (header_word t.text)
heading_says limits h t (inside head words) = inside_says limits h (header_word head.text) head words t (is_end t)

-- before the first token
abbrev pub begin : Heading
begin = record { scopes = []; declared = []; timescale = None }

abbrev pub with_code : List (List ℕ) → List ℕ → List (List ℕ)
with_code known code = if is_among code known then known else known ++ code ∷ []

-- the codes, in the order in which they are declared first
abbrev pub codes_of : List Declared → List (List ℕ)
codes_of ds = fold (λ known d. with_code known d.code) [] ds
