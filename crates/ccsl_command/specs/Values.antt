-- What the value of each key may be, and what it stands for. All of it is this project's own.
use Rattle.std.specs.Prelude.{ℕ, ◌-◌, ◌^◌, List, Bool, ◌&&◌, length, nat_le, codes, Option, Some, None, is_some, if◌then◌else◌}
use Rattle.std.specs.List.{find}
use Rattle.std.specs.Str.{bytes_eq}
use Rattle.ccsl_base.specs.Decimal.{are_digits, decimal_value}
use Rattle.ccsl_base.specs.declared.limits.TheConstants.{MAX_WORKERS, MAX_STEPS}
use Rattle.ccsl_words.specs.Word.{BinaryWord, is_finite}
use Rattle.ccsl_words.specs.Spelling.{read_word}
use Rattle.ccsl_base.specs.declared.limits.TheConstants.{MAX_FILE_NAME, MAX_DIGITS, MAX_TRIAL_STEPS, MIN_TRIAL_CLOCKS, MAX_TRIAL_CLOCKS}
use Rattle.ccsl_command.specs.declared.table.CommandName.{CommandName}
use Rattle.ccsl_command.specs.declared.table.CommandName.TheVariants as command
use Rattle.ccsl_command.specs.declared.table.Key.{Key}
use Rattle.ccsl_command.specs.declared.table.Key.TheVariants as key
use Rattle.ccsl_command.specs.declared.table.PolicyName.{PolicyName}
use Rattle.ccsl_command.specs.declared.table.PolicyName.TheVariants as policy
use Rattle.ccsl_command.specs.declared.table.RelationName.{RelationName}
use Rattle.ccsl_command.specs.Table.{relations, relation_text}

-- a file name has 1 to 4,096 bytes
abbrev pub is_file_name : List ℕ → Bool
is_file_name text = nat_le 1 (length text) && nat_le (length text) MAX_FILE_NAME

abbrev pub policy_of : List ℕ → Option PolicyName
policy_of text =
    if bytes_eq text (codes "min") then Some policy.Min
    else if bytes_eq text (codes "max") then Some policy.Max
    else if bytes_eq text (codes "seeded") then Some policy.Seeded
    else None

abbrev pub relation_of : List ℕ → Option RelationName
relation_of text = find (λ relation. bytes_eq (relation_text relation) text) relations

abbrev pub only_infinite : Option BinaryWord → Option BinaryWord
only_infinite None = None
only_infinite (Some word) = if is_finite word then None else Some word

-- the word that a text reads as, where it has a period
abbrev pub infinite_word : List ℕ → Option BinaryWord
infinite_word text = only_infinite (read_word text)

-- a number is 1 to 20 decimal digits, leading zeros allowed
abbrev pub is_number : List ℕ → Bool
is_number text = are_digits text && nat_le (length text) MAX_DIGITS

-- a range of numbers, both ends in it
pub record Range : Type 0 where
  pub least : ℕ
  pub most : ℕ

-- the range of a key that is a number
abbrev pub range_of : CommandName → Key → Range
range_of name key.Seed = record { least = 0; most = 2 ^ 64 - 1 }
range_of command.Trial key.Steps = record { least = 0; most = MAX_TRIAL_STEPS }
range_of name key.Steps = record { least = 0; most = MAX_STEPS }
range_of name key.Workers = record { least = 1; most = MAX_WORKERS }
range_of name key.Clocks = record { least = MIN_TRIAL_CLOCKS; most = MAX_TRIAL_CLOCKS }
range_of name other = record { least = 0; most = 0 }

abbrev pub is_within : Range → List ℕ → Bool
is_within range text = is_number text && nat_le range.least (decimal_value text) && nat_le (decimal_value text) range.most

-- the number of a text, where it is one of the range
abbrev pub number_in : Range → List ℕ → Option ℕ
number_in range text = if is_within range text then Some (decimal_value text) else None

-- whether a text may be the value of a key
abbrev pub is_value : CommandName → Key → List ℕ → Bool
is_value name key.Spec text = is_file_name text
is_value name key.Trace text = is_file_name text
is_value name key.Cert text = is_file_name text
is_value name key.Policy text = is_some (policy_of text)
is_value name key.Left text = is_some (infinite_word text)
is_value name key.Right text = is_some (infinite_word text)
is_value name key.Relation text = is_some (relation_of text)
is_value name other text = is_some (number_in (range_of name other) text)
