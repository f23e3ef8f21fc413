-- The grammar of a body, by the items that spell it.
use Rattle.std.specs.Prelude.{◌≡◌, ℕ, ◌≤◌, List, [], ◌∷◌, ◌++◌, Bool, true, false, None, bytes_eq, codes}
use Rattle.std.specs.List.{AllByRecursion}
use Rattle.ccsl_vcd_lex.specs.Tokens.{Token}
use Rattle.ccsl_vcd.specs.Words.{time, scalar, vector, skipped, comment, dump, close, word_of}
use Rattle.ccsl_vcd.specs.Binding.{Declaration, Bound}
use Rattle.ccsl_vcd.specs.Places.{Change, body, changes}
use Rattle.ccsl_vcd.specs.Body.{is_declared}
use Rattle.ccsl_vcd.specs.Reading.{Story, may_end}

-- a time, a scalar change, a vector change and its code, a value that is skipped and its code, a comment
pub data Part : Type 0 where
  instant : Token → ℕ → Part
  change : Token → Bool → List ℕ → Part
  wide : Token → Bool → Token → Part
  passed : Token → Token → Part
  remark : Token → List Token → Token → Part

-- a part, or a dump block of parts
pub data Item : Type 0 where
  plain : Part → Item
  block : Token → List Part → Token → Item

abbrev pub part_tokens : Part → List Token
part_tokens (instant t n) = t ∷ []
part_tokens (change t one code) = t ∷ []
part_tokens (wide t one c) = t ∷ c ∷ []
part_tokens (passed t c) = t ∷ c ∷ []
part_tokens (remark t ts e) = t ∷ (ts ++ e ∷ [])

abbrev pub parts_tokens : List Part → List Token
parts_tokens [] = []
parts_tokens (p ∷ ps) = part_tokens p ++ parts_tokens ps

abbrev pub items_tokens : List Item → List Token
items_tokens [] = []
items_tokens (plain p ∷ is) = part_tokens p ++ items_tokens is
items_tokens (block t ps e ∷ is) = t ∷ (parts_tokens ps ++ e ∷ items_tokens is)

-- the present time behind a part, and the changes that it makes
abbrev pub after : ℕ → Part → ℕ
after now (instant t n) = n
after now (change t one code) = now
after now (wide t one c) = now
after now (passed t c) = now
after now (remark t ts e) = now

abbrev pub made : Bool → ℕ → Part → List Change
made dumped now (instant t n) = []
made dumped now (change t one code) = record { time = now; code = code; one = one; dumped = dumped } ∷ []
made dumped now (wide t one c) = record { time = now; code = c.text; one = one; dumped = dumped } ∷ []
made dumped now (passed t c) = []
made dumped now (remark t ts e) = []

abbrev pub is_end : Token → Bool
is_end t = bytes_eq t.text (codes "$end")

-- the tokens of a part say what it is, its time does not fall, and its code is declared
abbrev pub IsPart : List Declaration → ℕ → Part → Type 0
IsPart ds now (instant t n) = (word_of t.text ≡ time n) × (now ≤ n)
IsPart ds now (change t one code) = (word_of t.text ≡ scalar one code) × (is_declared ds code ≡ true)
IsPart ds now (wide t one c) = (word_of t.text ≡ vector one) × (is_declared ds c.text ≡ true)
IsPart ds now (passed t c) = (word_of t.text ≡ skipped) × (is_declared ds c.text ≡ true)
IsPart ds now (remark t ts e) = (word_of t.text ≡ comment) × AllByRecursion (λ u. is_end u ≡ false) ts × (is_end e ≡ true)

abbrev pub AreParts : List Declaration → ℕ → List Part → Type 0
AreParts ds now [] = Unit {0}
AreParts ds now (p ∷ ps) = IsPart ds now p × AreParts ds (after now p) ps

abbrev pub after_all : ℕ → List Part → ℕ
after_all now [] = now
after_all now (p ∷ ps) = after_all (after now p) ps

abbrev pub made_by_all : Bool → ℕ → List Part → List Change
made_by_all dumped now [] = []
made_by_all dumped now (p ∷ ps) = made dumped now p ++ made_by_all dumped (after now p) ps

-- a body: no block holds a block, because a block holds parts
abbrev pub IsBody : List Declaration → ℕ → List Item → Type 0
IsBody ds now [] = Unit {0}
IsBody ds now (plain p ∷ is) = IsPart ds now p × IsBody ds (after now p) is
IsBody ds now (block t ps e ∷ is) = (word_of t.text ≡ dump) × AreParts ds now ps × (word_of e.text ≡ close) × IsBody ds (after_all now ps) is

abbrev pub changes_of : ℕ → List Item → List Change
changes_of now [] = []
changes_of now (plain p ∷ is) = made false now p ++ changes_of (after now p) is
changes_of now (block t ps e ∷ is) = made_by_all true now ps ++ changes_of (after_all now ps) is

abbrev pub time_after : ℕ → List Item → ℕ
time_after now [] = now
time_after now (plain p ∷ is) = time_after (after now p) is
time_after now (block t ps e ∷ is) = time_after (after_all now ps) is

-- a story that stands at a change's place of a body, outside a block, and at that time
abbrev pub body_story : List Change → ℕ → List Declaration → List Bound → Story
body_story cs now ds bs = record {
  changes = cs;
  place = body (record { amid = changes; dumping = false; now = now; declared = ds; bound = bs });
  fault = None;
}

-- no fault, and a place where a file may end
abbrev pub EndsWell : Story → Type 0
EndsWell s = (s.fault ≡ None) × (may_end s.place ≡ true)
