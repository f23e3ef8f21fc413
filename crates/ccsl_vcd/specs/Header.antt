-- The header: a list of commands, each ended by $end. IEEE 1364-2005, clause 18.2.3: $var, $scope, $upscope and $enddefinitions;
-- every other command is passed over. Where a fault stands, and the limits, are this project's profile.
use Rattle.std.specs.Prelude.{ℕ, ◌+◌, ◌-◌, List, [], ◌∷◌, ◌++◌, length, Bool, true, false, Option, Some, None, is_some, unwrap_or, Result, Ok, Err, nat_le}
use Rattle.std.specs.Prelude.{◌==◌, ◌&&◌, if◌then◌else◌, codes, bytes_eq, flat_map}
use Rattle.std.specs.List.{list_all}
use Rattle.ccsl_vcd_lex.specs.Tokens.{Token}
use Rattle.ccsl_vcd.specs.declared.fault.VcdFault.{VcdFault}
use Rattle.ccsl_vcd.specs.declared.fault.VcdFault.TheVariants as faults
use Rattle.ccsl_vcd.specs.declared.limits.Limits.{Limits}
use Rattle.ccsl_vcd.specs.Words.{number}
use Rattle.ccsl_vcd.specs.Binding.{Declaration, Wanted, Bound, bind}
use Rattle.ccsl_vcd.specs.Places.{Among, commands, inside, Header, changes, header, body, Said, goes, refused}

pub data HeaderWord : Type 0 where
  var : HeaderWord
  scope : HeaderWord
  upscope : HeaderWord
  end_definitions : HeaderWord
  other_command : HeaderWord
  end_command : HeaderWord
  plain : HeaderWord

abbrev pub begins_command : List ℕ → Bool
begins_command [] = false
begins_command (b ∷ bs) = b == 36

abbrev pub header_word : List ℕ → HeaderWord
header_word text =
    if bytes_eq text (codes "$end") then end_command
    else (if bytes_eq text (codes "$var") then var
    else (if bytes_eq text (codes "$scope") then scope
    else (if bytes_eq text (codes "$upscope") then upscope
    else (if bytes_eq text (codes "$enddefinitions") then end_definitions
    else (if begins_command text then other_command
    else plain)))))

-- A code has visible characters. That there are at most 32 of them is this project's profile.
abbrev pub is_code : List ℕ → Bool
is_code text = nat_le (length text) 32 && list_all (λ b. nat_le 33 b && nat_le b 126) text

-- A reference is an identifier, with a bit or a range of bits behind it. The range of a single bit, as simulators write it for a
-- net of one bit, is taken away; all other tokens are joined.
abbrev pub reference_of : Token → List Token → List ℕ
reference_of first [] = first.text
reference_of first (t ∷ ts) =
    if bytes_eq (flat_map (λ u. u.text) (t ∷ ts)) (codes "[0:0]") then first.text else flat_map (λ u. u.text) (first ∷ t ∷ ts)

-- a size of a declaration fits 32 bits
abbrev pub size_of : List ℕ → Option ℕ
size_of text = number 4294967295 text

-- what the tokens between a $var and its $end declare: type, size, code and reference
abbrev pub declares : ℕ → List Token → Option Declaration
declares depth (kind ∷ size ∷ code ∷ first ∷ more) =
    Some (record {
      depth = depth;
      kind = kind.text;
      size = unwrap_or (size_of size.text) 0;
      code = code.text;
      reference = reference_of first more;
    })
declares depth words = None

-- a token in a command's place
abbrev pub starts : Limits → Header → Token → HeaderWord → Said
starts limits h t end_command = refused (faults.BadHeader t.at)
starts limits h t plain = refused (faults.BadHeader t.at)
starts limits h t var =
    if nat_le limits.vars (length h.declared) then refused (faults.TooManyVars t.at)
    else goes (header (record h { among = inside t [] })) []
starts limits h t w = goes (header (record h { among = inside t [] })) []

-- whether a token may stand inside a command, behind these
abbrev pub word_fits : HeaderWord → List Token → Token → Bool
word_fits var (kind ∷ []) t = is_some (size_of t.text)
word_fits var (kind ∷ size ∷ []) t = is_code t.text
word_fits w words t = true

abbrev pub put_declared : Header → Token → Option Declaration → Said
put_declared h t (Some d) = goes (header (record h { among = commands; declared = h.declared ++ d ∷ [] })) []
put_declared h t None = refused (faults.BadHeader t.at)

-- the body begins, where the clocks are bound
abbrev pub opens : List Declaration → Result (List Bound) VcdFault → Said
opens ds (Ok bound) = goes (body (record { amid = changes; dumping = false; now = 0; declared = ds; bound = bound })) []
opens ds (Err f) = refused f

-- the end of a command that a token began, behind these tokens
abbrev pub ends : Wanted → Limits → Header → HeaderWord → Token → List Token → Token → Said
ends wanted limits h var head words t = put_declared h t (declares h.depth words)
ends wanted limits h scope head words t =
    if nat_le limits.scopes h.depth then refused (faults.TooDeep head.at)
    else goes (header (record h { among = commands; depth = h.depth + 1 })) []
ends wanted limits h upscope head words t = goes (header (record h { among = commands; depth = h.depth - 1 })) []
ends wanted limits h end_definitions head words t = opens h.declared (bind wanted h.declared)
ends wanted limits h w head words t = goes (header (record h { among = commands })) []

-- a token inside a command
abbrev pub inside_says : Wanted → Limits → Header → Token → List Token → Token → HeaderWord → Said
inside_says wanted limits h head words t end_command = ends wanted limits h (header_word head.text) head words t
inside_says wanted limits h head words t w =
    if word_fits (header_word head.text) words t
    then goes (header (record h { among = inside head (words ++ t ∷ []) })) []
    else refused (faults.BadHeader t.at)

abbrev pub header_says : Wanted → Limits → Header → Token → Among → Said
header_says wanted limits h t commands = starts limits h t (header_word t.text)
header_says wanted limits h t (inside head words) = inside_says wanted limits h head words t (header_word t.text)
