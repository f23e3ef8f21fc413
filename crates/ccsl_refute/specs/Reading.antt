-- Which text reads as which lines of a certificate, and where one that reads as none has its first fault.
--   n                   Nonempty
--   i K LITS            Item K LITS
--   r LITS from J ..    Derived LITS J ..
use Rattle.std.specs.Prelude.{ℕ, ◌+◌, ◌-◌, ◌^◌, List, [], ◌∷◌, Bool, true, false, Option, Some, None, Ok, Err, if◌then◌else◌, nat_eq, length, codes}
use Rattle.std.specs.declared.result.Result.{Result}
use Rattle.std.specs.Str.{bytes_eq}
use Rattle.ccsl_base.specs.Decimal.{number_up_to}
use Rattle.ccsl_base.specs.Names.{find_name}
use Rattle.ccsl_refute.specs.declared.fault.CertFault.{CertFault}
use Rattle.ccsl_refute.specs.declared.fault.CertFault.TheVariants.{Syntax, UnknownName}
use Rattle.ccsl_refute.specs.declared.line.Lit.{Lit}
use Rattle.ccsl_refute.specs.declared.line.Line.{Line}
use Rattle.ccsl_refute.specs.declared.line.Line.TheVariants.{Nonempty, Item, Derived}
use Rattle.ccsl_refute.specs.Text.{Piece, tokens, lines_from}

abbrev pub literal_of : Bool → Option ℕ → Option Lit
literal_of sign None = None
literal_of sign (Some x) = Some (record { clock = x; positive = sign })

-- the literal that a token names: a name, or a minus and a name
abbrev pub literal : List (List ℕ) → List ℕ → Option Lit
literal names [] = literal_of true (find_name [] names)
literal names (b ∷ bs) = if nat_eq b 45 then literal_of false (find_name bs names) else literal_of true (find_name (b ∷ bs) names)

-- one more in front, where there is one: else the fault
abbrev pub read_first : {A : Type 0} → CertFault → Option A → Result (List A) CertFault → Result (List A) CertFault
read_first fault None rest = Err fault
read_first fault (Some x) (Ok xs) = Ok (x ∷ xs)
read_first fault (Some x) (Err later) = Err later

abbrev pub read_literals : List (List ℕ) → List Piece → Result (List Lit) CertFault
read_literals names [] = Ok []
read_literals names (t ∷ ts) = read_first (UnknownName t.0) (literal names t.1) (read_literals names ts)

abbrev pub read_numbers : List Piece → Result (List ℕ) CertFault
read_numbers [] = Ok []
read_numbers (t ∷ ts) = read_first (Syntax t.0) (number_up_to (2 ^ 64 - 1) t.1) (read_numbers ts)

abbrev pub is_from : Piece → Bool
is_from t = bytes_eq t.1 (codes "from")

abbrev pub before_from : List Piece → List Piece
before_from [] = []
before_from (t ∷ ts) = if is_from t then [] else t ∷ before_from ts

abbrev pub after_from : List Piece → Option (List Piece)
after_from [] = None
after_from (t ∷ ts) = if is_from t then Some ts else after_from ts

-- the numbers after `from`, which a line that ends without it lacks
abbrev pub read_hints : ℕ → Option (List Piece) → Result (List ℕ) CertFault
read_hints end None = Err (Syntax end)
read_hints end (Some ts) = read_numbers ts

abbrev pub item_line : ℕ → Option ℕ → Result (List Lit) CertFault → Result Line CertFault
item_line at None lits = Err (Syntax at)
item_line at (Some item) (Ok lits) = Ok (Item item lits)
item_line at (Some item) (Err fault) = Err fault

abbrev pub derived_line : Result (List Lit) CertFault → Result (List ℕ) CertFault → Result Line CertFault
derived_line (Err fault) hints = Err fault
derived_line (Ok lits) (Err fault) = Err fault
derived_line (Ok lits) (Ok hints) = Ok (Derived lits hints)

abbrev pub read_nonempty : List Piece → Result Line CertFault
read_nonempty [] = Ok Nonempty
read_nonempty (t ∷ ts) = Err (Syntax t.0)

abbrev pub read_item : List (List ℕ) → ℕ → List Piece → Result Line CertFault
read_item names end [] = Err (Syntax end)
read_item names end (t ∷ ts) = item_line t.0 (number_up_to (2 ^ 32 - 1) t.1) (read_literals names ts)

abbrev pub read_derived : List (List ℕ) → ℕ → List Piece → Result Line CertFault
read_derived names end ts = derived_line (read_literals names (before_from ts)) (read_hints end (after_from ts))

-- a line that has tokens, of which the first one says what it is
abbrev pub read_tokens : List (List ℕ) → ℕ → Piece → List Piece → Result Line CertFault
read_tokens names end t ts =
    if bytes_eq t.1 (codes "n") then read_nonempty ts
    else if bytes_eq t.1 (codes "i") then read_item names end ts
    else if bytes_eq t.1 (codes "r") then read_derived names end ts
    else Err (Syntax t.0)

-- one more line in front
abbrev pub read_more : Result Line CertFault → Result (List Line) CertFault → Result (List Line) CertFault
read_more (Err fault) rest = Err fault
read_more (Ok line) (Ok lines) = Ok (line ∷ lines)
read_more (Ok line) (Err later) = Err later

-- a line that ends at a place; one without tokens is skipped
abbrev pub read_line : List (List ℕ) → ℕ → List Piece → Result (List Line) CertFault → Result (List Line) CertFault
read_line names end [] rest = rest
read_line names end (t ∷ ts) rest = read_more (read_tokens names end t ts) rest

abbrev pub read_lines : List (List ℕ) → List Piece → Result (List Line) CertFault
read_lines names [] = Ok []
read_lines names (p ∷ ps) = read_line names (p.0 + length p.1) (tokens p.0 p.1) (read_lines names ps)

-- what a whole text reads as
abbrev pub reading : List (List ℕ) → List ℕ → Result (List Line) CertFault
reading names text = read_lines names (lines_from 0 text)
