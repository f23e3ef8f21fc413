-- Where a token of a dump may stand, and what it may say there.
use Rattle.std.specs.Prelude.{ℕ, List, Bool}
use Rattle.ccsl_vcd_lex.specs.Tokens.{Token}
use Rattle.ccsl_vcd.specs.declared.fault.VcdFault.{VcdFault}
use Rattle.ccsl_vcd.specs.Binding.{Declaration, Bound}

-- a change of a code's value: whether the value is 1, and whether it stands in a dump block
pub record Change : Type 0 where
  pub time : ℕ
  pub code : List ℕ
  pub one : Bool
  pub dumped : Bool

-- in a command's place, or inside the command that a token begins, behind these tokens
pub data Among : Type 0 where
  commands : Among
  inside : Token → List Token → Among

pub record Header : Type 0 where
  pub among : Among
  -- how many scopes are open
  pub depth : ℕ
  pub declared : List Declaration

-- in a change's place, in a comment, at the code of a value that is 1 or not, or at the code of a value that is skipped
pub data Amid : Type 0 where
  changes : Amid
  remark : Amid
  code_of : Bool → Amid
  code_skipped : Amid

pub record Body : Type 0 where
  pub amid : Amid
  -- whether a dump block is open
  pub dumping : Bool
  -- the present time
  pub now : ℕ
  pub declared : List Declaration
  pub bound : List Bound

pub data Where : Type 0 where
  header : Header → Where
  body : Body → Where

-- the next token stands there, and these changes are made; or the token is refused
pub data Said : Type 0 where
  goes : Where → List Change → Said
  refused : VcdFault → Said
