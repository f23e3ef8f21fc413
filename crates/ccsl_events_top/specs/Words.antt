-- What the words of a command line mean, or what is wrong with them.
use Rattle.std.specs.Prelude.{ℕ, ◌+◌, List, [], ◌∷◌, ◌++◌, length, Bool, true, false, not, ◌==◌, ◌&&◌, ◌||◌, Option, Some, None, Result, Ok, Err, is_some}
use Rattle.std.specs.Prelude.{position, codes, if◌then◌else◌}
use Rattle.std.specs.List.{find, before_first, after_first}
use Rattle.std.specs.Str.{bytes_eq}
use Rattle.ccsl_events.specs.declared.body.Gaps.{Gaps}
use Rattle.ccsl_events.specs.declared.body.Gaps.TheVariants as g
use Rattle.std.specs.Option.{option_copied}
use Rattle.ccsl_events_top.specs.declared.words.Command.{Command}
use Rattle.ccsl_events_top.specs.declared.words.Key.{Key}
use Rattle.ccsl_events_top.specs.declared.words.Key.TheVariants as keys
use Rattle.ccsl_events_top.specs.declared.words.Usage.{Usage}
use Rattle.ccsl_events_top.specs.declared.words.Usage.TheVariants.{NotPair, UnknownKey, Repeated, BadValue, Missing, SameName}

abbrev pub key_text : Key → List ℕ
key_text keys.Events = codes "events"
key_text keys.Trace = codes "trace"
key_text keys.Out = codes "out"
key_text keys.Gaps = codes "gaps"

abbrev pub all_keys : List Key
all_keys = keys.Events ∷ keys.Trace ∷ keys.Out ∷ keys.Gaps ∷ []

-- ## One word: it is split at its first =

abbrev pub is_equals : ℕ → Bool
is_equals b = b == 61

abbrev pub is_pair : List ℕ → Bool
is_pair word = is_some (position is_equals word)

abbrev pub key_part : List ℕ → List ℕ
key_part word = before_first is_equals word

abbrev pub value_part : List ℕ → List ℕ
value_part word = after_first is_equals word

abbrev pub key_named : List ℕ → Option Key
key_named text = find (λ k. bytes_eq (key_text k) text) all_keys

abbrev pub is_empty : List ℕ → Bool
is_empty [] = true
is_empty (b ∷ bs) = false

-- the values that a key may have
abbrev pub allows : Key → List ℕ → Bool
allows keys.Gaps value = bytes_eq value (codes "skip")
allows keys.Events value = not (is_empty value)
allows keys.Trace value = not (is_empty value)
allows keys.Out value = not (is_empty value)

-- ## All words

abbrev pub has_key : Key → List ℕ → Bool
has_key key word = is_pair word && bytes_eq (key_part word) (key_text key)

-- the value of the first word with this key
abbrev pub value_of : Key → List (List ℕ) → Option (List ℕ)
value_of key [] = None
value_of key (word ∷ words) = if has_key key word then Some (value_part word) else value_of key words

abbrev pub key_fault : List (List ℕ) → ℕ → List ℕ → Option Key → Option Usage
key_fault earlier i word None = Some (UnknownKey i)
key_fault earlier i word (Some key) =
    if is_some (value_of key earlier) then Some (Repeated i)
    else (if allows key (value_part word) then None else Some (BadValue i))

-- what is wrong with word number i, behind the earlier ones
abbrev pub word_fault : List (List ℕ) → ℕ → List ℕ → Option Usage
word_fault earlier i word = if is_pair word then key_fault earlier i word (key_named (key_part word)) else Some (NotPair i)

abbrev pub or_later : Option Usage → Option Usage → Option Usage
or_later None later = later
or_later (Some fault) later = Some fault

-- the first fault of a word, behind so many that have none
abbrev pub first_fault : List (List ℕ) → List (List ℕ) → Option Usage
first_fault earlier [] = None
first_fault earlier (word ∷ words) =
    or_later (word_fault earlier (length earlier + 1) word) (first_fault (earlier ++ word ∷ []) words)

-- what is named: the files of events, of the dump and of the result, and what is done at a gap
pub record Named : Type 0 where
  pub events : List ℕ
  pub trace : List ℕ
  pub out : Option (List ℕ)
  pub gaps : Gaps

-- what the code has of it
abbrev pub named_by : Command → Named
named_by c = record { events = c.events.now; trace = c.trace.now; out = option_copied c.out; gaps = c.gaps }

abbrev pub is_text : Option (List ℕ) → List ℕ → Bool
is_text None text = false
is_text (Some name) text = bytes_eq name text

abbrev pub gaps_of : Option (List ℕ) → Gaps
gaps_of None = g.Refuse
gaps_of (Some value) = g.Skip

-- no two of the files have one name
abbrev pub named : List ℕ → List ℕ → Option (List ℕ) → Option (List ℕ) → Result Named Usage
named events trace out gaps =
    if bytes_eq events trace || (is_text out events || is_text out trace) then Err SameName
    else Ok (record { events = events; trace = trace; out = out; gaps = gaps_of gaps })

abbrev pub with_trace : List ℕ → Option (List ℕ) → List (List ℕ) → Result Named Usage
with_trace events None words = Err (Missing keys.Trace)
with_trace events (Some trace) words = named events trace (value_of keys.Out words) (value_of keys.Gaps words)

abbrev pub with_events : Option (List ℕ) → List (List ℕ) → Result Named Usage
with_events None words = Err (Missing keys.Events)
with_events (Some events) words = with_trace events (value_of keys.Trace words) words

abbrev pub meaning_at : Option Usage → List (List ℕ) → Result Named Usage
meaning_at (Some fault) words = Err fault
meaning_at None words = with_events (value_of keys.Events words) words

-- THE WORDS' MEANING: the first word at fault, then a missing key, then two equal names
abbrev pub meaning : List (List ℕ) → Result Named Usage
meaning words = meaning_at (first_fault [] words) words
