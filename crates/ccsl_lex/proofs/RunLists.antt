-- Runs: the longest front of a list whose members pass a test.
use Rattle.std.proofs.Common.{◌≡◌, ℕ, suc, ◌+◌, Bool, true, false, not, cond, List, [], ◌∷◌, length, take, drop, Option, Some, None, refl, ap, ◌∙◌, arith, ltb}
use Rattle.std.specs.Option.{unwrap_or}
use Rattle.std.specs.List.{list_all, prefix_len, position_or_len}
use Rattle.std.proofs.lemmas.List.Sums.{prefix_len-le-length}
use Rattle.std.proofs.lemmas.Bool.{ltb-false}
use Rattle.ccsl_lex.specs.Tokens.{starts}
use Rattle.ccsl_base.proofs.Cases.{one_more}

same_prefix : (test : ℕ → Bool) (xs : List ℕ) → prefix_len (λ b. not (not (test b))) xs ≡ prefix_len test xs
same_prefix test [] = refl
same_prefix test (x ∷ xs) = at_once (test x) (same_prefix test xs)
  where
    at_once : (t : Bool) → prefix_len (λ b. not (not (test b))) xs ≡ prefix_len test xs
        → cond (not (not t)) (1 + prefix_len (λ b. not (not (test b))) xs) 0 ≡ cond t (1 + prefix_len test xs) 0
    at_once true e = ap (λ n. 1 + n) e
    at_once false e = refl

-- the place of the first member that fails, or the length where there is none, is the length of the run
pub run_is : (test : ℕ → Bool) (xs : List ℕ) (found : Option ℕ)
    → found ≡ cond (ltb (position_or_len (λ b. not (test b)) xs) (length xs)) (Some (position_or_len (λ b. not (test b)) xs)) None
    → unwrap_or found (length xs) ≡ prefix_len test xs
run_is test xs found e = rw e (within (ltb (position_or_len (λ b. not (test b)) xs) (length xs)) refl)
  where
    within : (t : Bool) → ltb (position_or_len (λ b. not (test b)) xs) (length xs) ≡ t
        → unwrap_or (cond t (Some (position_or_len (λ b. not (test b)) xs)) None) (length xs) ≡ prefix_len test xs
    within true h = same_prefix test xs
    within false h = let n : length xs ≡ position_or_len (λ b. not (test b)) xs =
        omega (arith, ltb-false (position_or_len (λ b. not (test b)) xs) (length xs) h, prefix_len-le-length (λ b. not (not (test b))) xs) in
        n ∙ same_prefix test xs

pub run_passes : (test : ℕ → Bool) (xs : List ℕ) → list_all test (take (prefix_len test xs) xs) ≡ true
run_passes test [] = refl
run_passes test (x ∷ xs) = by_first (run_passes test xs) (test x) refl
  where
    by_first : list_all test (take (prefix_len test xs) xs) ≡ true → (t : Bool) → test x ≡ t
        → list_all test (take (cond t (1 + prefix_len test xs) 0) (x ∷ xs)) ≡ true
    by_first h true e = rw (one_more (prefix_len test xs), e) h
    by_first h false e = refl

pub run_ends : (test : ℕ → Bool) (xs : List ℕ) → starts test (drop (prefix_len test xs) xs) ≡ false
run_ends test [] = refl
run_ends test (x ∷ xs) = by_first (run_ends test xs) (test x) refl
  where
    by_first : starts test (drop (prefix_len test xs) xs) ≡ false → (t : Bool) → test x ≡ t
        → starts test (drop (cond t (1 + prefix_len test xs) 0) (x ∷ xs)) ≡ false
    by_first h true e = rw (one_more (prefix_len test xs)) h
    by_first h false e = e
