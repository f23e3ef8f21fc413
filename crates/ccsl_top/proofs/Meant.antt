-- The words of `periodic` are infinite, and have no more letters than a word may have.
use Rattle.std.proofs.Common.{◌≡◌, ◌↔◌, ℕ, ◌≤◌, List, [], ◌∷◌, Bool, true, false, cond, Option, Some, None, Result, Ok, Err, refl, arith}
use Rattle.std.specs.Prelude.{unwrap_or}
use Rattle.ccsl_base.specs.declared.limits.TheConstants.{MAX_LETTERS}
use Rattle.ccsl_words.specs.Word.{BinaryWord, is_finite, word_len}
use Rattle.ccsl_words.specs.Spelling.{read_word}
use Rattle.ccsl_words.specs.Reads.{Reads}
use Rattle.ccsl_command.specs.declared.command.Command.{Command}
use Rattle.ccsl_command.specs.declared.command.Command.TheVariants.{Check, Simulate, Judge, Certify, Trial, Periodic, Explain, Session}
use Rattle.ccsl_command.specs.declared.table.CommandName.{CommandName}
use Rattle.ccsl_command.specs.declared.table.CommandName.TheVariants as name
use Rattle.ccsl_command.specs.declared.table.Key.{Key}
use Rattle.ccsl_command.specs.declared.usage.Usage.{Usage}
use Rattle.ccsl_command.specs.declared.usage.Usage.TheVariants as usage
use Rattle.ccsl_command.specs.declared.table.Key.TheVariants as key
use Rattle.ccsl_command.specs.Pairs.{value_of}
use Rattle.ccsl_command.specs.Values.{only_infinite}
use Rattle.ccsl_command.specs.Meaning.{first_fault, first_missing, has_same_name, endless_zeros, word_in, command_of, pairs_meaning, named_meaning}
use Rattle.ccsl_command.specs.Meaning.{command_named, meaning}

-- an infinite word that is not too long
pub record IsFine (w : BinaryWord) : Type 0 where
  pub infinite : is_finite w ≡ false
  pub few : word_len w ≤ MAX_LETTERS

abbrev pub HasFineWords : Command → Type 0
HasFineWords (Check spec) = Unit {0}
HasFineWords (Simulate spec policy seed steps trace cert) = Unit {0}
HasFineWords (Judge spec trace workers) = Unit {0}
HasFineWords (Certify spec trace cert) = Unit {0}
HasFineWords (Trial clocks steps seed workers) = Unit {0}
HasFineWords (Periodic left right relation) = IsFine left × IsFine right
HasFineWords (Explain spec trace cert) = Unit {0}
HasFineWords (Session spec policy seed) = Unit {0}

abbrev pub MeansFine : Result Command Usage → Type 0
MeansFine (Ok command) = HasFineWords command
MeansFine (Err fault) = Unit {0}

module _ (computed : (text : List ℕ) (w : BinaryWord) → (read_word text ≡ Some w) ↔ Reads text w) where
  abbrev or-zeros : Option BinaryWord → BinaryWord
  or-zeros o = unwrap_or o endless_zeros

  zeros-fine : IsFine endless_zeros
  zeros-fine = record { infinite = refl; few = omega arith }

  infinite-fine : (w : BinaryWord) → word_len w ≤ MAX_LETTERS → (b : Bool) → is_finite w ≡ b → IsFine (or-zeros (cond b None (Some w)))
  infinite-fine w few true e = zeros-fine
  infinite-fine w few false e = record { infinite = e; few = few }

  read-fine : (text : List ℕ) (o : Option BinaryWord) → read_word text ≡ o → IsFine (or-zeros (only_infinite o))
  read-fine text None e = zeros-fine
  read-fine text (Some w) e = infinite-fine w ((computed text w).0 e).few_letters (is_finite w) refl

  word-fine : (k : Key) (pairs : List (List ℕ)) → IsFine (word_in k pairs)
  word-fine k pairs = read-fine (value_of k pairs) (read_word (value_of k pairs)) refl

  command-fine : (n : CommandName) (pairs : List (List ℕ)) → HasFineWords (command_of n pairs)
  command-fine name.Check pairs = tt
  command-fine name.Simulate pairs = tt
  command-fine name.Judge pairs = tt
  command-fine name.Certify pairs = tt
  command-fine name.Trial pairs = tt
  command-fine name.Periodic pairs = (word-fine key.Left pairs, word-fine key.Right pairs)
  command-fine name.Explain pairs = tt
  command-fine name.Session pairs = tt

  unless-same : (b : Bool) (c : Command) → HasFineWords c → MeansFine (cond b (Err usage.SameName) (Ok c))
  unless-same true c h = tt
  unless-same false c h = h

  pairs-fine : (n : CommandName) (pairs : List (List ℕ)) (fault : Option Usage) (missing : Option Key) → MeansFine (pairs_meaning n pairs fault missing)
  pairs-fine n pairs (Some fault) missing = tt
  pairs-fine n pairs None (Some k) = tt
  pairs-fine n pairs None None = unless-same (has_same_name pairs) (command_of n pairs) (command-fine n pairs)

  named-fine : (o : Option CommandName) (pairs : List (List ℕ)) → MeansFine (named_meaning o pairs)
  named-fine None pairs = tt
  named-fine (Some n) pairs = pairs-fine n pairs (first_fault n [] 1 pairs) (first_missing n pairs)

  pub meaning-fine : (words : List (List ℕ)) → MeansFine (meaning words)
  meaning-fine [] = tt
  meaning-fine (word ∷ pairs) = named-fine (command_named word) pairs
