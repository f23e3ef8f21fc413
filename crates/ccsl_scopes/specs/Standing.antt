-- What a reader of a header stands for, and what a header that was read has.
use Rattle.std.specs.Prelude.{◌≡◌, ◌⊎◌, ℕ, ◌+◌, ◌<◌, List, [], ◌∷◌, ◌++◌, length, min, Bool, true, false, Option, Some, None, Result, Ok, Err}
use Rattle.std.specs.declared.vec.Vec.{Vec}
use Rattle.std.specs.declared.alloc.Global.{Global}
use Rattle.ccsl_base.specs.Names.{find_name}
use Rattle.ccsl_vcd_lex.specs.Tokens.{Token}
use Rattle.ccsl_vcd.specs.declared.fault.VcdFault.{VcdFault}
use Rattle.ccsl_vcd.specs.declared.fault.VcdFault.TheVariants as faults
use Rattle.ccsl_vcd.specs.declared.limits.Limits.{Limits}
use Rattle.ccsl_vcd.specs.Places.{Among, commands, inside}
use Rattle.ccsl_scopes.specs.declared.command.HeaderWord.{HeaderWord}
use Rattle.ccsl_scopes.specs.declared.command.HeaderWord.TheVariants.{Var, Scope, Timescale}
use Rattle.ccsl_scopes.specs.declared.variable.Variable.{Variable}
use Rattle.ccsl_scopes.specs.declared.header.Header.{Header}
use Rattle.ccsl_scopes.specs.declared.reader.HeaderReader.{HeaderReader}
use Rattle.ccsl_scopes.specs.References.{reference_of}
use Rattle.ccsl_scopes.specs.Headings.{Declared, Heading, Said, goes, over, refused, header_word, kind_named, size_of, joined, spaced, scope_name, with_code}
use Rattle.ccsl_scopes.specs.Headings.{codes_of}

-- the names of scopes, the outermost first, with a blank behind each
abbrev pub scope_text : List (List ℕ) → List ℕ
scope_text [] = []
scope_text (name ∷ outer) = scope_text outer ++ (name ++ 32 ∷ [])

-- where each of them begins
abbrev pub scope_begins : List (List ℕ) → List ℕ
scope_begins [] = []
scope_begins (name ∷ outer) = scope_begins outer ++ length (scope_text outer) ∷ []

-- A variable that was declared. Its path is the names of its scopes and its reference, and its code is named by its number.
pub record IsVariable (known : List (List ℕ)) (d : Declared) (v : Variable) : Type 0 where
  pub kind : v.kind ≡ d.kind
  pub size : v.size ≡ d.size
  pub code : find_name d.code known ≡ Some v.code
  pub path : v.path.items ≡ scope_text d.scopes ++ (d.first ++ d.more)
  pub bare : v.bare ≡ length (scope_text d.scopes) + (reference_of d.first d.more).bare
  pub range : v.range ≡ (reference_of d.first d.more).range

abbrev pub AreVariables : List (List ℕ) → List Declared → List Variable → Type 0
AreVariables known [] [] = Unit {0}
AreVariables known [] (v ∷ vs) = ⊥
AreVariables known (d ∷ ds) [] = ⊥
AreVariables known (d ∷ ds) (v ∷ vs) = IsVariable known d v × AreVariables known ds vs

abbrev pub text_in : Option (Vec ℕ Global) → Option (List ℕ)
text_in None = None
text_in (Some text) = Some text.items

-- A HEADER HAS WHAT WAS DECLARED: each variable, the codes in the order in which they are declared first, the time scale
pub record IsHeaderOf (h : Heading) (x : Header) : Type 0 where
  pub variables : AreVariables (codes_of h.declared) h.declared x.variables.items
  pub codes : x.codes ≡ codes_of h.declared
  pub timescale : text_in x.timescale ≡ h.timescale

-- what is kept, with the name of a scope that is being opened
pub record Holds (limits : Limits) (h : Heading) (name begins : List ℕ) (known : List (List ℕ))
    (timescale : Option (List ℕ)) (r : HeaderReader) : Type 0 where
  pub limits_are : r.limits ≡ limits
  pub variables : AreVariables known h.declared r.header.variables.items
  pub codes : r.header.codes ≡ known
  pub timescale_is : text_in r.header.timescale ≡ timescale
  pub scopes : r.scopes.items ≡ scope_text h.scopes ++ name
  pub begins_are : r.begins.items ≡ scope_begins h.scopes ++ begins

abbrev pub opened_name : HeaderWord → List Token → List ℕ
opened_name Scope words = scope_name words
opened_name word words = []

abbrev pub opened_begin : HeaderWord → List (List ℕ) → List ℕ
opened_begin Scope scopes = length (scope_text scopes) ∷ []
opened_begin word scopes = []

abbrev pub with_third : List (List ℕ) → List Token → List (List ℕ)
with_third known (type ∷ size ∷ code ∷ more) = with_code known code.text
with_third known words = known

abbrev pub known_in : HeaderWord → List (List ℕ) → List Token → List (List ℕ)
known_in Var known words = with_third known words
known_in word known words = known

abbrev pub timescale_in : HeaderWord → Option (List ℕ) → List Token → Option (List ℕ)
timescale_in Timescale before words = Some (spaced words)
timescale_in word before words = before

-- the words of an open declaration, one after another
abbrev pub FromFirst : List Token → HeaderReader → Type 0
FromFirst [] r = Unit {0}
FromFirst (first ∷ more) r = (r.first ≡ length first.text) × (r.reference.items ≡ first.text ++ joined more)

abbrev pub FromCode : List (List ℕ) → List Token → HeaderReader → Type 0
FromCode known [] r = Unit {0}
FromCode known (code ∷ words) r = (find_name code.text known ≡ Some r.code) × FromFirst words r

abbrev pub FromSize : List (List ℕ) → List Token → HeaderReader → Type 0
FromSize known [] r = Unit {0}
FromSize known (size ∷ words) r = (size_of size.text ≡ Some r.size) × FromCode known words r

abbrev pub FromKind : List (List ℕ) → List Token → HeaderReader → Type 0
FromKind known [] r = Unit {0}
FromKind known (type ∷ words) r = (r.kind ≡ kind_named type.text) × FromSize known words r

abbrev pub HasParts : HeaderWord → Limits → Heading → List Token → HeaderReader → Type 0
HasParts Var limits h words r = (length h.declared < limits.vars) × FromKind r.header.codes words r
HasParts word limits h words r = Unit {0}

-- the command that a word began is open, with these words
pub record StandsIn (limits : Limits) (h : Heading) (word : HeaderWord) (head : Token) (words : List Token)
    (r : HeaderReader) : Type 0 where
  pub command : r.command ≡ Some word
  pub head_is : r.head ≡ head.at
  pub holds :
      Holds limits h (opened_name word words) (opened_begin word h.scopes)
      (known_in word (codes_of h.declared) words)
      (timescale_in word h.timescale words) r
  pub parts : HasParts word limits h words r

-- how many words are counted
abbrev pub Counts : List Token → HeaderReader → Type 0
Counts words r = r.words ≡ min (length words) 4

-- no command is open
pub record StandsBetween (limits : Limits) (h : Heading) (r : HeaderReader) : Type 0 where
  pub command : r.command ≡ None
  pub holds : Holds limits h [] [] (codes_of h.declared) h.timescale r

abbrev pub Stands : Limits → Heading → Among → HeaderReader → Type 0
Stands limits h commands r = StandsBetween limits h r
Stands limits h (inside head words) r = StandsIn limits h (header_word head.text) head words r × Counts words r

-- the header is over
abbrev pub IsOver : Heading → HeaderReader → Type 0
IsOver h r = IsHeaderOf h r.header

-- what was answered, and what was left, is what is said, unless memory ran out
abbrev pub Answers : Limits → Said → Result Bool VcdFault → HeaderReader → Type 0
Answers limits (goes among h) (Ok ended) r = (ended ≡ false) × Stands limits h among r
Answers limits (goes among h) (Err f) r = f ≡ faults.Memory
Answers limits (over h) (Ok ended) r = (ended ≡ true) × IsOver h r
Answers limits (over h) (Err f) r = ⊥
Answers limits (refused g) (Ok ended) r = ⊥
Answers limits (refused g) (Err f) r = (f ≡ g) ⊎ (f ≡ faults.Memory)

-- what the begin of a command has left
abbrev pub Opens : Limits → Said → Result (Unit {0}) VcdFault → HeaderReader → Type 0
Opens limits (goes among h) (Ok u) r = Stands limits h among r
Opens limits (goes among h) (Err f) r = f ≡ faults.Memory
Opens limits (over h) result r = ⊥
Opens limits (refused g) (Ok u) r = ⊥
Opens limits (refused g) (Err f) r = (f ≡ g) ⊎ (f ≡ faults.Memory)

-- what one more word of a command has left before it is counted
abbrev pub Extends : Bool → Limits → Heading → HeaderWord → Token → List Token → Token →
    Result (Unit {0}) VcdFault → HeaderReader → Type 0
Extends true limits h word head words t (Ok u) r = StandsIn limits h word head (words ++ t ∷ []) r
Extends true limits h word head words t (Err f) r = f ≡ faults.Memory
Extends false limits h word head words t (Ok u) r = ⊥
Extends false limits h word head words t (Err f) r = (f ≡ faults.BadHeader t.at) ⊎ (f ≡ faults.Memory)

-- what one more word of a command has left: it is kept where it fits
abbrev pub Fits : Bool → Limits → Heading → HeaderWord → Token → List Token → Token →
    Result (Unit {0}) VcdFault → HeaderReader → Type 0
Fits true limits h word head words t (Ok u) r =
    StandsIn limits h word head (words ++ t ∷ []) r × Counts (words ++ t ∷ []) r
Fits true limits h word head words t (Err f) r = f ≡ faults.Memory
Fits false limits h word head words t (Ok u) r = ⊥
Fits false limits h word head words t (Err f) r = (f ≡ faults.BadHeader t.at) ⊎ (f ≡ faults.Memory)

-- what the end of a declaration has left, before its command is closed
abbrev pub Declares : Limits → Heading → ℕ → Option Declared → Result (Unit {0}) VcdFault → HeaderReader → Type 0
Declares limits h at (Some d) (Ok u) r =
    Holds limits (record h { declared = h.declared ++ d ∷ [] }) [] [] (codes_of (h.declared ++ d ∷ [])) h.timescale r
Declares limits h at (Some d) (Err f) r = f ≡ faults.Memory
Declares limits h at None (Ok u) r = ⊥
Declares limits h at None (Err f) r = (f ≡ faults.BadHeader at) ⊎ (f ≡ faults.Memory)
