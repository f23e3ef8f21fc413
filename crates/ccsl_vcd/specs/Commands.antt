-- The grammar of a header, a list of commands, and with that of a body the grammar of a whole file. IEEE 1364-2005,
-- clause 18.2.
use Rattle.std.specs.Prelude.{◌≡◌, ℕ, ◌+◌, ◌-◌, ◌≤◌, ◌<◌, List, [], ◌∷◌, ◌++◌, length, is_some, true, false, Ok}
use Rattle.std.specs.List.{AllByRecursion}
use Rattle.std.specs.Option.{option_to_list}
use Rattle.ccsl_vcd_lex.specs.Tokens.{Token, tokens, is_long}
use Rattle.ccsl_vcd.specs.declared.limits.Limits.{Limits}
use Rattle.ccsl_vcd.specs.Binding.{Declaration, Wanted, Bound, bind}
use Rattle.ccsl_vcd.specs.Header.{HeaderWord, var, scope, upscope, end_definitions, other_command, end_command, plain, header_word, size_of, is_code, declares}
use Rattle.ccsl_vcd.specs.Grammar.{Item, is_end, items_tokens, IsBody}

-- a keyword, the text behind it, and $end
pub record Command : Type 0 where
  pub keyword : Token
  pub text : List Token
  pub close : Token

abbrev pub command_tokens : Command → List Token
command_tokens c = c.keyword ∷ (c.text ++ c.close ∷ [])

abbrev pub commands_tokens : List Command → List Token
commands_tokens [] = []
commands_tokens (c ∷ cs) = command_tokens c ++ commands_tokens cs

abbrev pub kind_of : Command → HeaderWord
kind_of c = header_word c.keyword.text

-- its first $end closes it
pub record IsClosed (c : Command) : Type 0 where
  pub inside : AllByRecursion (λ t. is_end t ≡ false) c.text
  pub close : is_end c.close ≡ true

-- the text of a $var: type, size, code, and a reference of one or more words
abbrev pub IsVariable : List Token → Type 0
IsVariable (kind ∷ size ∷ code ∷ first ∷ more) = (is_some (size_of size.text) ≡ true) × (is_code code.text ≡ true)
IsVariable text = ⊥

-- Whether a command of that kind, with that text, may stand in so many scopes behind these declarations. The limits are
-- this project's profile.
abbrev pub MayStand : Limits → ℕ → List Declaration → List Token → HeaderWord → Type 0
MayStand l depth ds text var = IsVariable text × (length ds < l.vars)
MayStand l depth ds text scope = depth < l.scopes
MayStand l depth ds text upscope = Unit {0}
MayStand l depth ds text other_command = Unit {0}
MayStand l depth ds text end_definitions = ⊥
MayStand l depth ds text end_command = ⊥
MayStand l depth ds text plain = ⊥

-- how many scopes are open behind it: $upscope closes none where none is open
abbrev pub depth_behind : ℕ → HeaderWord → ℕ
depth_behind depth scope = depth + 1
depth_behind depth upscope = depth - 1
depth_behind depth kind = depth

-- a $var in so many scopes declares what its text says
abbrev pub declared_by : ℕ → HeaderWord → List Token → List Declaration
declared_by depth var text = option_to_list (declares depth text)
declared_by depth kind text = []

-- the commands in front of the last
abbrev pub AreCommands : Limits → ℕ → List Declaration → List Command → Type 0
AreCommands l depth ds [] = Unit {0}
AreCommands l depth ds (c ∷ cs) =
    IsClosed c × MayStand l depth ds c.text (kind_of c)
    × AreCommands l (depth_behind depth (kind_of c)) (ds ++ declared_by depth (kind_of c) c.text) cs

-- what commands declare, the first of which stands in so many scopes
abbrev pub declarations : ℕ → List Command → List Declaration
declarations depth [] = []
declarations depth (c ∷ cs) = declared_by depth (kind_of c) c.text ++ declarations (depth_behind depth (kind_of c)) cs

-- a header: commands, of which the last alone is $enddefinitions
pub record IsHeader (l : Limits) (commands : List Command) (last : Command) : Type 0 where
  pub are_commands : AreCommands l 0 [] commands
  pub closed : IsClosed last
  pub ends : kind_of last ≡ end_definitions

abbrev pub header_tokens : List Command → Command → List Token
header_tokens commands last = commands_tokens commands ++ command_tokens last

-- A whole file: a header, whose declarations bind the clocks, and a body over its codes. That tokens and file are not too
-- long is this project's profile.
pub record IsTrace (w : Wanted) (l : Limits) (file : List ℕ) : Type 0 where
  pub commands : List Command
  pub last : Command
  pub bound : List Bound
  pub items : List Item
  pub spelled : tokens file ≡ header_tokens commands last ++ items_tokens items
  pub is_header : IsHeader l commands last
  pub binds : bind w (declarations 0 commands) ≡ Ok bound
  pub is_body : IsBody (declarations 0 commands) 0 items
  pub short : AllByRecursion (λ t. is_long t ≡ false) (tokens file)
  pub within : length file ≤ l.bytes

-- a header and whatever stands behind it
pub record BeginsWithHeader (l : Limits) (ts : List Token) : Type 0 where
  pub commands : List Command
  pub last : Command
  pub rest : List Token
  pub spelled : ts ≡ header_tokens commands last ++ rest
  pub is_header : IsHeader l commands last
