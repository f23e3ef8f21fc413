-- Offsets that fit: what actual parameters give fits where they do.
use Rattle.std.proofs.Common.{◌≡◌, ℕ, ◌+◌, ◌<◌, ◌≤◌, ⊎_elim, List, [], ◌∷◌, length, Bool, Option, Some, None, slice_get, refl, sym, subst, arith, if◌then◌else◌}
use Rattle.std.proofs.lemmas.Bool.{cases_lt}
use Rattle.std.proofs.lemmas.List.{get_or_past}
use Rattle.std.proofs.lemmas.Option.{slice_get_within, get_or_from_slice_get}
use Rattle.ccsl_words.specs.Word.{BinaryWord}
use Rattle.ccsl_base.specs.Empty.{is_empty}
use Rattle.ccsl_kernel.specs.declared.actual.Actual.{Actual}
use Rattle.ccsl_kernel.specs.declared.actual.Actual.TheVariants as actual
use Rattle.ccsl_kernel.specs.declared.expr.Place.{Place}
use Rattle.ccsl_kernel.specs.declared.expr.Place.TheVariants as place
use Rattle.ccsl_kernel.specs.Actuals.{suffix_in, place_of, word_of}
use Rattle.ccsl_kernel.specs.Accepted.{IsOffset}
use Rattle.ccsl_kernel.specs.Fit.{SuffixFits, ActualFits, ActualsFit}

-- a word has its first offset
first_offset : (w : BinaryWord) → IsOffset w 0
first_offset w = on w.period
  where
    on : (period : List Bool) → 0 < length w.prefix + length period + (if is_empty period then 1 else 0)
    on [] = omega arith
    on (x ∷ xs) = omega arith

module _ (words : List BinaryWord) where
  pub suffix_in-fits : (ρ : List Actual) (i : ℕ) → ActualsFit words ρ → SuffixFits words (suffix_in (slice_get ρ i))
  suffix_in-fits ρ i h = on (slice_get ρ i) (λ v e. subst (ActualFits words) (get_or_from_slice_get ρ i v v e) (h i v (slice_get_within ρ i v e)))
    where
      on : (o : Option Actual) → ((v : Actual) → o ≡ Some v → ActualFits words v) → SuffixFits words (suffix_in o)
      on None h = first_offset (word_of words 0)
      on (Some (actual.Clock x)) h = first_offset (word_of words 0)
      on (Some (actual.Number n)) h = first_offset (word_of words 0)
      on (Some (actual.Word w o)) h = h (actual.Word w o) refl

  pub place_of-fits : (x : Place) (ρ : List Actual) → ActualsFit words ρ → ActualFits words (place_of x ρ)
  place_of-fits (place.Clock x) ρ h = tt
  place_of-fits (place.Param i) ρ h =
      ⊎_elim
      (λ (l : i < length ρ). h i (actual.Number 0) l)
      (λ (l : length ρ ≤ i). subst (ActualFits words) (sym (get_or_past ρ i (actual.Number 0) l)) tt)
      (cases_lt i (length ρ))
