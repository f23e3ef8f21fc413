-- Binary words: finite, as 0110, or ultimately periodic, as 01(10), a prefix and then a period for ever.
-- Their letters say which ticks of a clock a filter lets through (CCSL, MARTE Annex C; INRIA RR-6925).
use Rattle.std.specs.Prelude.{ℕ, ◌+◌, ◌-◌, ◌%◌, List, Bool, false, ◌&&◌, length, slice_index_or, nat_lt, nat_le, nat_eq, if◌then◌else◌}
use Rattle.ccsl_base.specs.Empty.{is_empty}

-- the letters of the prefix and those of the period, a 1 as true; a finite word has an empty period
pub record BinaryWord : Type 0 where
  pub prefix : List Bool
  pub period : List Bool

abbrev pub is_finite : BinaryWord → Bool
is_finite w = is_empty w.period

-- the letters of prefix and period together
abbrev pub word_len : BinaryWord → ℕ
word_len w = length w.prefix + length w.period

-- the letter number k, from 0, and false past the end of a finite word
abbrev pub letter : BinaryWord → ℕ → Bool
letter w k =
    if nat_lt k (length w.prefix) then slice_index_or w.prefix k false
    else if is_finite w then false
    else slice_index_or w.period ((k - length w.prefix) % length w.period) false

-- the offset after o: a step further, but the period's first letter after its last, and no step past the end of a finite word
abbrev pub rest : BinaryWord → ℕ → ℕ
rest w o =
    if is_finite w then (if nat_le (length w.prefix) o then length w.prefix else o + 1)
    else if nat_eq (o + 1) (length w.prefix + length w.period) then length w.prefix
    else o + 1

-- whether the offset is the end of a finite word
abbrev pub has_ended : BinaryWord → ℕ → Bool
has_ended w o = is_finite w && nat_eq o (length w.prefix)
