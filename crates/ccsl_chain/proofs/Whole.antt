-- A system of a chain's parts is the chain.
use Rattle.std.proofs.Common.{◌≡◌, ℕ, ◌-◌, List, [], ◌++◌, map, flat_map}
use Rattle.std.specs.List.{range_with_len}
use Rattle.ccsl_words.specs.Word.{BinaryWord}
use Rattle.ccsl_kernel.specs.declared.constraint.Constraint.{Constraint}
use Rattle.ccsl_kernel.specs.Syntax.{Body, Expression}
use Rattle.ccsl_library.specs.Members.{library_groups}
use Rattle.ccsl_chain.specs.Chain.{clock_name, hidden_name, all_but_first, alternation, chain}

pub whole : (n : ℕ) (names : List (List ℕ)) (declared written : ℕ) (groups : List (List Body)) (words : List BinaryWord) (definitions : List Expression)
    (constraints : List Constraint) → names ≡ map clock_name (range_with_len 0 n) ++ map hidden_name (range_with_len 0 (n - 1)) → declared ≡ n → written ≡ n →
    groups ≡ library_groups → words ≡ [] → definitions ≡ map all_but_first (range_with_len 0 (n - 1)) →
    constraints ≡ flat_map (alternation n) (range_with_len 0 (n - 1)) →
    record {
      names = names;
      declared = declared;
      written = written;
      groups = groups;
      words = words;
      definitions = definitions;
      constraints =
          constraints;
    } ≡ chain n
unfolding chain
whole n names declared written groups words definitions constraints a b c d e f g = cc
