-- The faults of a text, as its refusal.
use Rattle.std.proofs.Common.{◌≡◌, ◌≢◌, ℕ, ◌≤◌, List, length, map, Result, Ok, Err, IfOk, refl}
use Rattle.ccsl_base.specs.declared.limits.TheConstants.{MAX_SPEC_BYTES}
use Rattle.ccsl_base.specs.declared.memory.Memory.{Memory as NoMemory}
use Rattle.ccsl_lex.specs.declared.token.Token.{Token}
use Rattle.ccsl_lex.specs.declared.fault.LexFault.{LexFault}
use Rattle.ccsl_lex.specs.declared.fault.LexFault.TheVariants as lex
use Rattle.ccsl_lex.specs.Found.{UnlessMemory}
use Rattle.ccsl_lex.specs.Tokens.{AreTokens, IsFirstFault, plain_token}
use Rattle.ccsl_ast.specs.Trees.{PlainFile}
use Rattle.ccsl_parse.specs.Answered.{StandsIn}
use Rattle.ccsl_parse.specs.declared.fault.ParseFault.{ParseFault}
use Rattle.ccsl_parse.specs.declared.fault.ParseFault.TheVariants as parse
use Rattle.ccsl_spec.specs.declared.specification.Specification.{Specification}
use Rattle.ccsl_spec.specs.declared.specification.Specification.TheVariants as spec
use Rattle.ccsl_spec.specs.Specifications.{HasTree, HasNoTree, no_tokens, no_tree, no_system, IsRefusedWith}
use Rattle.ccsl_spec.specs.Found.{IsTreeless, of_tokens, of_syntax, IsElaborated, IsRead}

pub first-fault : (fault : LexFault) (text : List ℕ) → fault ≢ lex.Memory → UnlessMemory fault (IsFirstFault fault text) → IsFirstFault fault text
first-fault (lex.BadByte at) text n h = h
first-fault (lex.NameTooLong at) text n h = h
first-fault (lex.NumberTooLarge at) text n h = h
first-fault (lex.OpenText at) text n h = h
first-fault lex.Memory text n h = n refl

pub no-tree : (text : List ℕ) (tokens : List Token) (fault : ParseFault) → fault ≢ parse.Memory → AreTokens text (map plain_token tokens) →
    StandsIn fault tokens → HasNoTree text fault
no-tree text tokens (parse.Syntax at) n are h = record { tokens = tokens; are = are; none = h }
no-tree text tokens (parse.TooDeep at) n are h = record { tokens = tokens; are = are; none = h }
no-tree text tokens parse.Memory n are h = absurd (n refl)

pub treeless-read : (text line : List ℕ) → length text ≤ MAX_SPEC_BYTES → IsTreeless text line → IsRefusedWith text line
treeless-read text line short (of_tokens fault first is) = no_tokens short fault first is
treeless-read text line short (of_syntax fault none is) = no_tree short fault none is

elaborated-as : (text : List ℕ) (file : PlainFile) (found : Specification) → length text ≤ MAX_SPEC_BYTES → HasTree text file →
    IsElaborated file found → IsRead text found
elaborated-as text file (spec.Accepted system) short tree e = record { short = short; file = file; tree = tree; accepted = e.accepted; system = e.system }
elaborated-as text file (spec.Refused line) short tree e = no_system short file tree e.r e.refused e.is

pub elaborated-read : (text : List ℕ) (file : PlainFile) (result : Result Specification NoMemory) → length text ≤ MAX_SPEC_BYTES → HasTree text file →
    IfOk result (λ found. IsElaborated file found) → IfOk result (λ found. IsRead text found)
elaborated-read text file (Ok found) short tree e = elaborated-as text file found short tree e
elaborated-read text file (Err m) short tree e = e
