-- The declared clocks by priority, each behind its word. This project's own.
use Rattle.std.specs.Prelude.{ℕ, List, ◌≡◌, ◌<◌, length, All, Contains}
use Rattle.std.specs.Ordering.{nat_cmp, ordering_then}
use Rattle.std.specs.List.Sorted.{IsSorted}
use Rattle.ccsl_refute.specs.declared.line.Lit.{Lit}
use Rattle.ccsl_policy.specs.declared.policies.Policy.{Policy}
use Rattle.ccsl_policy.specs.Priority.{word_of, preferred}

-- a word and a declared clock whose word it is
abbrev pub IsRank : List ℕ → ℕ × ℕ → Type 0
IsRank words r = (r.0 ≡ word_of words r.1) × (r.1 < length words)

-- all of them, each one, the smallest first: by the word, and by the number where words are the same
pub record IsRanked (words : List ℕ) (list : List (ℕ × ℕ)) : Type 0 where
  pub ranks : All (IsRank words) list
  pub each : (c : ℕ) → c < length words → Contains list (word_of words c, c)
  pub sorted : IsSorted (λ r q. ordering_then (nat_cmp r.0 q.0) (nat_cmp r.1 q.1)) list

-- what a policy wishes for a clock with a word
abbrev pub wish : Policy → ℕ × ℕ → Lit
wish policy r = record { clock = r.1; positive = preferred policy r.0 }
