-- Numbers that digits write, and what stands behind a place.
use Rattle.std.proofs.Common.{◌≡◌, ℕ, ◌-◌, ◌≤◌, ◌<◌, Bool, true, false, ◌&&◌, List, [], ◌∷◌, length, take, drop, Some, None, refl, sym, ap, ◌∙◌, length-drop}
use Rattle.std.proofs.Common.{leb}
use Rattle.std.specs.Prelude.{if◌then◌else◌}
use Rattle.std.specs.List.{list_all}
use Rattle.std.proofs.lemmas.Bool.{and_parts, leb-true, leb-false}
use Rattle.std.proofs.lemmas.List.{take_at, append-nil}
use Rattle.ccsl_base.specs.Letters.{is_digit}
use Rattle.ccsl_base.specs.Decimal.{are_digits, decimal_value, number_up_to}
use Rattle.ccsl_lex.specs.Tokens.{starts}

pub some_digits : (ds : List ℕ) → starts is_digit ds ≡ true → list_all is_digit ds ≡ true → are_digits ds ≡ true
some_digits [] s h = absurd cc
some_digits (d ∷ ds) s h = h

-- a number within the limit is the value of its digits
pub number_some : (most n : ℕ) (ds : List ℕ) → Some n ≡ number_up_to most ds → (n ≤ most) × (n ≡ decimal_value ds)
number_some most n ds e = by_test (are_digits ds && leb (decimal_value ds) most) refl e
  where
    by_test : (t : Bool) → (are_digits ds && leb (decimal_value ds) most) ≡ t → Some n ≡ (if t then Some (decimal_value ds) else None)
        → (n ≤ most) × (n ≡ decimal_value ds)
    by_test true h i =
        let same : n ≡ decimal_value ds = cc in
        (rw same (leb-true (decimal_value ds) most (and_parts (are_digits ds) (leb (decimal_value ds) most) h).1), same)
    by_test false h i = absurd cc

-- digits that write none within the limit write one past it
pub number_none : (most : ℕ) (ds : List ℕ) → None ≡ number_up_to most ds → are_digits ds ≡ true → most < decimal_value ds
number_none most ds e d =
    by_test (leb (decimal_value ds) most) refl (e ∙ ap (λ t. if t && leb (decimal_value ds) most then Some (decimal_value ds) else None) d)
  where
    by_test : (t : Bool) → leb (decimal_value ds) most ≡ t → None ≡ (if t then Some (decimal_value ds) else None) → most < decimal_value ds
    by_test true h i = absurd cc
    by_test false h i = leb-false (decimal_value ds) most h
