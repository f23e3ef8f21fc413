-- The words behind the command: each is split at its first = into a key and a value.
use Rattle.std.specs.Prelude.{ℕ, List, [], ◌∷◌, Bool, ◌==◌, ◌&&◌, Option, is_some, position, if◌then◌else◌}
use Rattle.std.specs.List.{list_any, find, before_first, after_first}
use Rattle.std.specs.Str.{bytes_eq}
use Rattle.ccsl_command.specs.declared.table.CommandName.{CommandName}
use Rattle.ccsl_command.specs.declared.table.Key.{Key}
use Rattle.ccsl_command.specs.Table.{key_text, keys_of}

-- the byte =
abbrev pub is_equals : ℕ → Bool
is_equals b = b == 61

abbrev pub is_pair : List ℕ → Bool
is_pair word = is_some (position is_equals word)

abbrev pub key_part : List ℕ → List ℕ
key_part word = before_first is_equals word

abbrev pub value_part : List ℕ → List ℕ
value_part word = after_first is_equals word

-- the key of a word, among those of the command
abbrev pub key_of : CommandName → List ℕ → Option Key
key_of name word = find (λ k. bytes_eq (key_text k) (key_part word)) (keys_of name)

abbrev pub has_key : Key → List ℕ → Bool
has_key key word = is_pair word && bytes_eq (key_text key) (key_part word)

-- whether a key stands among the words
abbrev pub is_given : Key → List (List ℕ) → Bool
is_given key words = list_any (has_key key) words

-- the value of the first word with this key, and nothing where there is none
abbrev pub value_of : Key → List (List ℕ) → List ℕ
value_of key [] = []
value_of key (word ∷ words) = if has_key key word then value_part word else value_of key words
