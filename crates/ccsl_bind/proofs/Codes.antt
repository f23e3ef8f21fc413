-- Declared codes and their numbers.
use Rattle.std.proofs.Common.{◌≡◌, ℕ, List, [], ◌∷◌, ◌++◌, length, Bool, true, false, nat_lt, ◌||◌, cond, Some, None, refl, sym, ap, ◌∙◌, arith}
use Rattle.std.specs.Prelude.{bytes_eq, fold, is_some, nat_eq}
use Rattle.std.specs.List.{position_or_len, slice_get}
use Rattle.std.proofs.lemmas.Bool.{eq-eqb}
use Rattle.std.proofs.lemmas.List.Folds.{list_any-append}
use Rattle.std.proofs.lemmas.Grind.{common_steps}
use Rattle.std.proofs.Math.Bool.{or-true, or-false, or_assoc}
use Rattle.ccsl_base.specs.Names.{is_among, find_name}
use Rattle.ccsl_base.proofs.Tables.{bytes_eq-true, bytes_eq-refl, find_name-there, any-within, bytes_eq-comm}
use Rattle.ccsl_vcd.specs.Binding.{Declaration}
use Rattle.ccsl_vcd.specs.Body.{is_declared}
use Rattle.ccsl_bind.specs.Codes.{put_code, codes_of, number_of}

some-if : (b : Bool) (n : ℕ) → is_some (cond b (Some n) None) ≡ b
some-if true n = refl
some-if false n = refl

pub among-found : (name : List ℕ) (names : List (List ℕ)) → is_among name names ≡ is_some (find_name name names)
among-found name names =
    any-within (bytes_eq name) names ∙ sym (some-if (nat_lt (position_or_len (bytes_eq name) names) (length names)) (position_or_len (bytes_eq name) names))

among-put : (code x : List ℕ) (codes : List (List ℕ)) → is_among code (put_code codes x) ≡ (is_among code codes || bytes_eq x code)
among-put code x codes =
    (elim (is_among x codes) as (λ w. is_among x codes ≡ w → is_among code (cond w codes (codes ++ x ∷ [])) ≡ (is_among code codes || bytes_eq x code)) [
      | true ↦ λ e.
          (elim (bytes_eq x code) as (λ w. bytes_eq x code ≡ w → is_among code codes ≡ (is_among code codes || w)) [
            | true ↦ λ s. ap (λ y. is_among y codes) (sym (bytes_eq-true x code s)) ∙ e ∙ sym (or-true (is_among code codes))
            | false ↦ λ s. sym (or-false (is_among code codes))
          ]) refl
      | false ↦ λ e. list_any-append (bytes_eq code) codes (x ∷ []) ∙ ap (λ w. is_among code codes || w) (or-false (bytes_eq code x) ∙ bytes_eq-comm code x)
    ]) refl

among-all : (code : List ℕ) (ds : List Declaration) (codes : List (List ℕ))
    → is_among code (fold (λ cs d. put_code cs d.code) codes ds) ≡ (is_among code codes || is_declared ds code)
among-all code [] codes = sym (or-false (is_among code codes))
among-all code (d ∷ ds) codes =
    among-all code ds (put_code codes d.code) ∙ ap (λ w. w || is_declared ds code) (among-put code d.code codes)
    ∙ or_assoc (is_among code codes) (bytes_eq d.code code) (is_declared ds code)

-- A code is declared exactly where it has a number.
pub declared-number : (ds : List Declaration) (code : List ℕ) → is_declared ds code ≡ is_some (number_of code (codes_of ds))
unfolding codes_of
declared-number ds code = sym (among-all code ds []) ∙ among-found code (codes_of ds)

-- Two codes are one exactly where their numbers are.
pub same-number : (codes : List (List ℕ)) (x y : List ℕ) (n m : ℕ) → number_of x codes ≡ Some n → number_of y codes ≡ Some m → nat_eq m n ≡ bytes_eq x y
same-number codes x y n m e f =
    (elim (bytes_eq x y) as (λ w. bytes_eq x y ≡ w → nat_eq m n ≡ w) [
      | true ↦ λ s.
          let k : Some m ≡ Some n = sym f ∙ ap (λ z. number_of z codes) (sym (bytes_eq-true x y s)) ∙ e in
          eq-eqb m n (cc)
      | false ↦ λ s. differ s
    ]) refl
  where
    differ : bytes_eq x y ≡ false → nat_eq m n ≡ false
    differ s =
        (elim (nat_eq m n) as (λ w. nat_eq m n ≡ w → w ≡ false) [
          | true ↦ λ t.
              let e' = find_name-there x codes n e in
              let f' = find_name-there y codes m f in
              let k : m ≡ n = grind (arith, common_steps) in
              let both : Some x ≡ Some y = sym e' ∙ ap (slice_get codes) (sym k) ∙ f' in
              let xy : x ≡ y = cc in
              sym (bytes_eq-refl x y xy) ∙ s
          | false ↦ λ t. refl
        ]) refl
