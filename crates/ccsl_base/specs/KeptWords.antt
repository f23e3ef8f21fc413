-- The words that the language keeps for itself, and that they are read as themselves.
use Rattle.std.specs.Prelude.{◌≡◌, ℕ, List, map, Some, None, Bool, false}
use Rattle.std.specs.List.{list_any}
use Rattle.std.specs.Str.{bytes_eq}
use Rattle.ccsl_base.specs.declared.reserved.Reserved.{Reserved}
use Rattle.ccsl_base.specs.ReservedWords.{spelling, all_words, reserved}

-- the words that the language keeps for itself
abbrev pub reserved_words : List (List ℕ)
reserved_words = map spelling all_words

abbrev pub is_reserved : List ℕ → Bool
is_reserved bytes = list_any (bytes_eq bytes) reserved_words

-- THE LAW: each is read as itself
abbrev pub WordsReadBack : Type 0
WordsReadBack = (word : Reserved) → reserved (spelling word) ≡ Some word

-- THE LAW: a text that is read as a word is its spelling
abbrev pub WordsAreSpelled : Type 0
WordsAreSpelled = (bytes : List ℕ) (word : Reserved) → reserved bytes ≡ Some word → bytes ≡ spelling word

-- THE LAW: a text that is read as no word is none of them
abbrev pub OthersAreFree : Type 0
OthersAreFree = (bytes : List ℕ) → reserved bytes ≡ None → is_reserved bytes ≡ false
