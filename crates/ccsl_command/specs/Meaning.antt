-- What a command line means: a command, or the first thing at fault.
use Rattle.std.specs.Prelude.{ℕ, ◌+◌, List, [], ◌∷◌, ◌++◌, Bool, false, not, ◌&&◌, ◌||◌, Option, Some, None, unwrap_or, Result, Ok, Err, if◌then◌else◌}
use Rattle.std.specs.Option.{option_or}
use Rattle.std.specs.List.{find}
use Rattle.std.specs.Str.{bytes_eq}
use Rattle.ccsl_command.specs.declared.table.CommandName.{CommandName}
use Rattle.ccsl_command.specs.declared.table.CommandName.TheVariants as command
use Rattle.ccsl_command.specs.declared.table.Key.{Key}
use Rattle.ccsl_command.specs.declared.table.Key.TheVariants as key
use Rattle.ccsl_command.specs.declared.table.PolicyName.{PolicyName}
use Rattle.ccsl_command.specs.declared.table.PolicyName.TheVariants as policy
use Rattle.ccsl_command.specs.declared.table.RelationName.{RelationName}
use Rattle.ccsl_command.specs.declared.table.RelationName.TheVariants as relation
use Rattle.ccsl_command.specs.declared.command.Command.{Command}
use Rattle.ccsl_command.specs.declared.command.Command.TheVariants as meant
use Rattle.ccsl_command.specs.declared.usage.Usage.{Usage}
use Rattle.ccsl_command.specs.declared.usage.Usage.TheVariants as usage
use Rattle.ccsl_words.specs.Word.{BinaryWord}
use Rattle.ccsl_command.specs.Table.{commands, command_text, required_keys}
use Rattle.ccsl_command.specs.Values.{is_value, policy_of, relation_of, infinite_word, number_in, range_of}
use Rattle.ccsl_command.specs.Pairs.{is_pair, value_part, key_of, is_given, value_of}

-- what is wrong with the word of number i, behind the earlier pairs
abbrev pub key_fault : CommandName → List (List ℕ) → ℕ → List ℕ → Option Key → Option Usage
key_fault name earlier i word None = Some (usage.UnknownKey i)
key_fault name earlier i word (Some key) =
    if is_given key earlier then Some (usage.Repeated i)
    else if not (is_value name key (value_part word)) then Some (usage.BadValue i)
    else None

abbrev pub word_fault : CommandName → List (List ℕ) → ℕ → List ℕ → Option Usage
word_fault name earlier i word =
    if is_pair word then key_fault name earlier i word (key_of name word) else Some (usage.NotPair i)

-- the first word at fault, of those from number i on, behind the earlier pairs
abbrev pub first_fault : CommandName → List (List ℕ) → ℕ → List (List ℕ) → Option Usage
first_fault name earlier i [] = None
first_fault name earlier i (word ∷ words) =
    option_or (word_fault name earlier i word) (first_fault name (earlier ++ word ∷ []) (i + 1) words)

-- the first required key that does not stand there
abbrev pub first_missing : CommandName → List (List ℕ) → Option Key
first_missing name pairs = find (λ k. not (is_given k pairs)) (required_keys name)

abbrev pub have_same_value : Key → Key → List (List ℕ) → Bool
have_same_value k other pairs =
    is_given k pairs && is_given other pairs && bytes_eq (value_of k pairs) (value_of other pairs)

-- two file names are equal texts
abbrev pub has_same_name : List (List ℕ) → Bool
has_same_name pairs =
    have_same_value key.Spec key.Trace pairs
    || have_same_value key.Spec key.Cert pairs
    || have_same_value key.Trace key.Cert pairs

abbrev pub number_of : CommandName → Key → List (List ℕ) → ℕ
number_of name key pairs = unwrap_or (number_in (range_of name key) (value_of key pairs)) 0

-- one worker where no word says more
abbrev pub workers_of : CommandName → List (List ℕ) → ℕ
workers_of name pairs = if is_given key.Workers pairs then number_of name key.Workers pairs else 1

abbrev pub policy_in : List (List ℕ) → PolicyName
policy_in pairs = unwrap_or (policy_of (value_of key.Policy pairs)) policy.Min

abbrev pub relation_in : List (List ℕ) → RelationName
relation_in pairs = unwrap_or (relation_of (value_of key.Relation pairs)) relation.Precedes

abbrev pub endless_zeros : BinaryWord
endless_zeros = record { prefix = []; period = false ∷ [] }

abbrev pub word_in : Key → List (List ℕ) → BinaryWord
word_in key pairs = unwrap_or (infinite_word (value_of key pairs)) endless_zeros

-- the command of pairs that are not at fault
abbrev pub command_of : CommandName → List (List ℕ) → Command
command_of command.Check pairs = meant.Check (value_of key.Spec pairs)
command_of command.Simulate pairs =
    meant.Simulate (value_of key.Spec pairs) (policy_in pairs) (number_of command.Simulate key.Seed pairs)
    (number_of command.Simulate key.Steps pairs) (value_of key.Trace pairs) (value_of key.Cert pairs)
command_of command.Judge pairs =
    meant.Judge (value_of key.Spec pairs) (value_of key.Trace pairs) (workers_of command.Judge pairs)
command_of command.Certify pairs =
    meant.Certify (value_of key.Spec pairs) (value_of key.Trace pairs) (value_of key.Cert pairs)
command_of command.Trial pairs =
    meant.Trial (number_of command.Trial key.Clocks pairs) (number_of command.Trial key.Steps pairs)
    (number_of command.Trial key.Seed pairs) (workers_of command.Trial pairs)
command_of command.Periodic pairs = meant.Periodic (word_in key.Left pairs) (word_in key.Right pairs) (relation_in pairs)
command_of command.Explain pairs =
    meant.Explain (value_of key.Spec pairs) (value_of key.Trace pairs) (value_of key.Cert pairs)
command_of command.Session pairs =
    meant.Session (value_of key.Spec pairs) (policy_in pairs) (number_of command.Session key.Seed pairs)

-- The first word at fault comes first, then a missing key, then equal file names.
abbrev pub pairs_meaning : CommandName → List (List ℕ) → Option Usage → Option Key → Result Command Usage
pairs_meaning name pairs (Some fault) missing = Err fault
pairs_meaning name pairs None (Some key) = Err (usage.Missing key)
pairs_meaning name pairs None None = if has_same_name pairs then Err usage.SameName else Ok (command_of name pairs)

abbrev pub named_meaning : Option CommandName → List (List ℕ) → Result Command Usage
named_meaning None pairs = Err usage.UnknownCommand
named_meaning (Some name) pairs = pairs_meaning name pairs (first_fault name [] 1 pairs) (first_missing name pairs)

-- the command of a word, if it is one
abbrev pub command_named : List ℕ → Option CommandName
command_named word = find (λ name. bytes_eq (command_text name) word) commands

-- The first word is the command; words are numbered from 0.
abbrev pub meaning : List (List ℕ) → Result Command Usage
meaning [] = Err usage.NoCommand
meaning (word ∷ pairs) = named_meaning (command_named word) pairs
