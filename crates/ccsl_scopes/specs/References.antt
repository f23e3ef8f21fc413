-- A reference of a declared variable: its name, and what stands in brackets behind it. IEEE 1364-2005, clause 18.2.3.
-- Brackets at the end of the one token of a name, as simulators write them, are read as those in tokens of their own. An
-- escaped name, which begins with a backslash, has its brackets in its name. These two are this project's profile.
use Rattle.std.specs.Prelude.{ℕ, ◌+◌, ◌-◌, List, [], ◌∷◌, ◌++◌, length, take, drop, Bool, true, false, Option, Some, None, position, nat_lt, ◌==◌, ◌&&◌}
use Rattle.std.specs.Prelude.{if◌then◌else◌, get_or, slice_range}
use Rattle.ccsl_base.specs.Decimal.{number_up_to}
use Rattle.ccsl_scopes.specs.declared.reference.Reference.{Reference}
use Rattle.ccsl_scopes.specs.declared.select.Select.{Select}
use Rattle.ccsl_scopes.specs.declared.select.Select.TheVariants.{Whole, Bit, Range}

-- a number of a bit
abbrev pub index : List ℕ → Option ℕ
index text = number_up_to 4294967294 text

abbrev pub bit_at : Option ℕ → Option Select
bit_at None = None
bit_at (Some i) = Some (Bit i)

abbrev pub range_between : Option ℕ → Option ℕ → Option Select
range_between None right = None
range_between (Some left) None = None
range_between (Some left) (Some right) = Some (Range left right)

-- one number, or two where a colon stands
abbrev pub numbers : List ℕ → Option ℕ → Option Select
numbers inner None = bit_at (index inner)
numbers inner (Some colon) = range_between (index (take colon inner)) (index (drop (colon + 1) inner))

abbrev pub is_colon : ℕ → Bool
is_colon b = b == 58

abbrev pub has_brackets : List ℕ → Bool
has_brackets text = nat_lt 1 (length text) && (get_or text 0 0 == 91 && get_or text (length text - 1) 0 == 93)

abbrev pub inside_brackets : List ℕ → List ℕ
inside_brackets text = slice_range text 1 (length text - 1)

-- what a text with brackets round it means: `[7]` or `[7:0]`
abbrev pub selected : List ℕ → Option Select
selected text =
    if has_brackets text then numbers (inside_brackets text) (position is_colon (inside_brackets text)) else None

-- ## How many bytes of a reference are its name, and what stands in brackets behind

abbrev pub whole : List ℕ → Reference
whole text = record { bare = length text; range = Whole }

-- brackets from a place on, if they mean something
abbrev pub ending : List ℕ → ℕ → Option Select → Reference
ending text at None = whole text
ending text at (Some range) = record { bare = at; range = range }

abbrev pub behind_first : Bool → Option ℕ → Option ℕ
behind_first here (Some i) = Some (i + 1)
behind_first true None = Some 0
behind_first false None = None

-- where the last opening bracket stands
abbrev pub last_bracket : List ℕ → Option ℕ
last_bracket [] = None
last_bracket (b ∷ bs) = behind_first (b == 91) (last_bracket bs)

abbrev pub is_escaped : List ℕ → Bool
is_escaped [] = false
is_escaped (b ∷ bs) = b == 92

-- a name in one token: brackets in front of which nothing stands are its name
abbrev pub named : List ℕ → Option ℕ → Reference
named text None = whole text
named text (Some at) = if nat_lt 0 at then ending text at (selected (drop at text)) else whole text

-- a reference of a first token and of what the others make together
abbrev pub reference_of : List ℕ → List ℕ → Reference
reference_of first more =
    if nat_lt 0 (length more) then ending (first ++ more) (length first) (selected more)
    else (if is_escaped first then whole first else named first (last_bracket first))
