-- What parameters stand for in a call, and so the numbers, words, tests and arguments that name them.
-- A list of actual parameters has that of parameter number i at place i. A parameter that is missing, or of another kind, reads as the
-- number 0, and as the first word of the table from its start. A word that the table lacks reads as an empty one.
use Rattle.std.specs.Prelude.{ℕ, ◌+◌, ◌-◌, List, [], ◌∷◌, Bool, Option, Some, None, slice_get, slice_index_or, min, nat_eq, nat_lt}
use Rattle.ccsl_words.specs.Word.{BinaryWord, letter, rest, has_ended}
use Rattle.ccsl_kernel.specs.Syntax.{Place, NumPrim, NumSign, NumTerm, WordPlace, Value, ExprTest}
use Rattle.ccsl_kernel.specs.declared.expr.Place.TheVariants as place
use Rattle.ccsl_kernel.specs.declared.expr.NumPrim.TheVariants as prim
use Rattle.ccsl_kernel.specs.declared.expr.NumSign.TheVariants as sign
use Rattle.ccsl_kernel.specs.declared.expr.WordPlace.TheVariants as word
use Rattle.ccsl_kernel.specs.declared.expr.Value.TheVariants as value
use Rattle.ccsl_kernel.specs.declared.expr.ExprTest.TheVariants as test
pub use Rattle.ccsl_kernel.specs.declared.actual.Actual.{Actual}
pub use Rattle.ccsl_kernel.specs.declared.actual.Suffix.{Suffix}
use Rattle.ccsl_kernel.specs.declared.actual.Actual.TheVariants as actual

abbrev pub number_in : Option Actual → ℕ
number_in (Some (actual.Number n)) = n
number_in _ = 0

abbrev pub suffix_in : Option Actual → Suffix
suffix_in (Some (actual.Word w o)) = record { word = w; offset = o }
suffix_in _ = record { word = 0; offset = 0 }

abbrev pub word_or_empty : Option BinaryWord → BinaryWord
word_or_empty None = record { prefix = []; period = [] }
word_or_empty (Some w) = w

-- the word number w of the table
abbrev pub word_of : List BinaryWord → ℕ → BinaryWord
word_of words w = word_or_empty (slice_get words w)

-- a clock, or what a parameter stands for
abbrev pub place_of : Place → List Actual → Actual
place_of (place.Clock x) ρ = actual.Clock x
place_of (place.Param i) ρ = slice_index_or ρ i (actual.Number 0)

abbrev pub prim_of : NumPrim → List Actual → ℕ
prim_of (prim.Num n) ρ = n
prim_of (prim.Param i) ρ = number_in (slice_get ρ i)

-- a sum or a difference, cut at 4,294,967,295 and at 0
abbrev pub signed : NumSign → ℕ → ℕ → ℕ
signed sign.Plus m n = min (m + n) 4294967295
signed sign.Minus m n = m - n

-- from the left
abbrev pub sum_from : ℕ → List (NumSign × NumPrim) → List Actual → ℕ
sum_from n [] ρ = n
sum_from n (p ∷ ps) ρ = sum_from (signed p.0 n (prim_of p.1 ρ)) ps ρ

abbrev pub number_of : NumTerm → List Actual → ℕ
number_of t ρ = sum_from (prim_of t.first ρ) t.rest ρ

-- the same word, at the offset after
abbrev pub tail_of : List BinaryWord → Suffix → Suffix
tail_of words s = record { word = s.word; offset = rest (word_of words s.word) s.offset }

abbrev pub suffix_of : List BinaryWord → WordPlace → List Actual → Suffix
suffix_of words (word.Word w o) ρ = record { word = w; offset = o }
suffix_of words (word.Param i) ρ = suffix_in (slice_get ρ i)
suffix_of words (word.Tail i) ρ = tail_of words (suffix_in (slice_get ρ i))

-- what an argument stands for
abbrev pub value_of : List BinaryWord → List Actual → Value → Actual
value_of words ρ (value.Clock x) = place_of x ρ
value_of words ρ (value.Number t) = actual.Number (number_of t ρ)
value_of words ρ (value.Word w) = let s = suffix_of words w ρ in actual.Word s.word s.offset

abbrev pub test_of : List BinaryWord → ExprTest → List Actual → Bool
test_of words (test.Equal s t) ρ = nat_eq (number_of s ρ) (number_of t ρ)
test_of words (test.Less s t) ρ = nat_lt (number_of s ρ) (number_of t ρ)
test_of words (test.Head w) ρ = let s = suffix_of words w ρ in letter (word_of words s.word) s.offset
test_of words (test.Ended w) ρ = let s = suffix_of words w ρ in has_ended (word_of words s.word) s.offset
