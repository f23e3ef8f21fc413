use Rattle.std.proofs.Common.{◌≡◌, ◌≤◌, ◌*◌, ◌+◌, length, suc, ℕ, List}
use Rattle.ccsl_base.specs.Bits.{members_left}
use Rattle.ccsl_base.proofs.members.MembersIterator.next.Given as goal

pub record Kept (word first old_word old_first : ℕ) (words old_words : List ℕ) : Type 0 where
  -- the same members are left
  pub same : members_left word first words ≡ members_left old_word old_first old_words
  pub few : first + 64 * suc (length words) ≤ 1024

abbrev pub invariant-words : goal.invariant-words
invariant-words l =
    Kept l.self-inside.word l.self-inside.first l.initial.self-inside.word l.initial.self-inside.first l.self-inside.words.now l.initial.self-inside.words.now

abbrev pub decreases-words : goal.decreases-words
decreases-words l = length l.self-inside.words.now
