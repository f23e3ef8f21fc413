-- The definitions on worked words, computed: (10), (1000), 0(10), 1111(0), 0000(1) and (110).
use Rattle.std.proofs.Common.{◌≡◌, ◌%◌, [], ◌∷◌, true, false, refl, arith}
use Rattle.std.specs.Int.{IsGcd}
use Rattle.std.proofs.lemmas.Nat.Gcd.{IsGcd-from_zero, IsGcd-from_mod}
use Rattle.ccsl_words.specs.Word.{BinaryWord}
use Rattle.ccsl_periodic.specs.declared.between.Between.TheVariants.{Precedes, Subclock, Excludes}
use Rattle.ccsl_periodic.specs.Ones.{period_ones}
use Rattle.ccsl_periodic.specs.Failures.{fails_at}
use Rattle.ccsl_periodic.specs.Filtered.{on_letter, IsPlainShape}

abbrev one_two : BinaryWord
one_two = record { prefix = []; period = true ∷ false ∷ [] }

abbrev one_four : BinaryWord
one_four = record { prefix = []; period = true ∷ false ∷ false ∷ false ∷ [] }

abbrev late_two : BinaryWord
late_two = record { prefix = false ∷ []; period = true ∷ false ∷ [] }

abbrev four_ones : BinaryWord
four_ones = record { prefix = true ∷ true ∷ true ∷ true ∷ []; period = false ∷ [] }

abbrev after_four : BinaryWord
after_four = record { prefix = false ∷ false ∷ false ∷ false ∷ []; period = true ∷ [] }

abbrev two_three : BinaryWord
two_three = record { prefix = []; period = true ∷ true ∷ false ∷ [] }

-- (1000) precedes 0(10) until the place 3
fails_there : fails_at Precedes one_four late_two 3 ≡ true
fails_there = refl

holds_at_one : fails_at Precedes one_four late_two 1 ≡ false
holds_at_one = refl

-- 1111(0) precedes 0000(1) until the place 8, though both turns have one letter
fails_after_turns : fails_at Precedes four_ones after_four 8 ≡ true
fails_after_turns = refl

holds_in_the_turn : fails_at Precedes four_ones after_four 7 ≡ false
holds_in_the_turn = refl

-- 0(10) is no subclock of (10), from its second letter on, which excludes it
no_subclock : fails_at Subclock late_two one_two 1 ≡ true
no_subclock = refl

excluded : fails_at Excludes late_two one_two 1 ≡ false
excluded = refl

-- (110) on (10) is 100100..
on_two_three : on_letter two_three one_two 0 ∷ on_letter two_three one_two 1 ∷ on_letter two_three one_two 2 ∷ on_letter two_three one_two 3 ∷ on_letter
    two_three one_two 4 ∷ []
    ≡ true ∷ false ∷ false ∷ true ∷ false ∷ []
on_two_three = refl

counted : period_ones two_three ≡ 2
counted = refl

-- and its plain spelling has a period of three letters and no prefix
gcd_two : IsGcd 2 2 2
gcd_two = IsGcd-from_mod 2 2 2 (IsGcd-from_zero 2 (2 % 2) refl)

shaped : IsPlainShape two_three one_two 0 3
shaped = (record { behind_left = omega arith; behind_right = omega arith; least = λ k l m. omega arith }, (2, gcd_two, refl))
