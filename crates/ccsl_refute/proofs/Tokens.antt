-- The tokens of a line, one after another.
use Rattle.std.proofs.Common.{◌≡◌, ℕ, suc, ◌+◌, ◌-◌, ◌<◌, ◌≤◌, List, [], ◌∷◌, length, take, drop, filter, get_or, Bool, true, false, not, cond, refl, sym, ap}
use Rattle.std.proofs.Common.{ap₂, ◌∙◌, ⊎_elim, arith, add-zero, length-take, length-drop}
use Rattle.std.specs.List.{slice_split, onto_first, prefix_len, position_or_len}
use Rattle.std.proofs.Math.Seq.{drop-cons}
use Rattle.std.proofs.lemmas.Bool.{cases_lt}
use Rattle.std.proofs.lemmas.List.{take_all, drop_all}
use Rattle.std.proofs.lemmas.List.Sums.{passes_at_first}
use Rattle.std.proofs.lemmas.List.Splits.{slice_split_first, slice_split-cons_yes, slice_split-cons_no}
use Rattle.ccsl_refute.specs.Text.{Piece, placed, is_blank, has_bytes, tokens}
use Rattle.ccsl_base.proofs.Sets.{by_case}
use Rattle.ccsl_base.proofs.Cases.{rest-is}

-- how many elements pass from the front on
prefix-yes : (p : ℕ → Bool) (x : ℕ) (xs : List ℕ) → p x ≡ true → prefix_len p (x ∷ xs) ≡ suc (prefix_len p xs)
prefix-yes p x xs e = ap (λ b. cond b (1 + prefix_len p xs) 0) e ∙ omega arith

prefix-no : (p : ℕ → Bool) (x : ℕ) (xs : List ℕ) → p x ≡ false → prefix_len p (x ∷ xs) ≡ 0
prefix-no p x xs e = ap (λ b. cond b (1 + prefix_len p xs) 0) e

prefix-within : (p : ℕ → Bool) (xs : List ℕ) → prefix_len p xs ≤ length xs
prefix-within p [] = omega arith
prefix-within p (x ∷ xs) =
    by_case (p x) _
    (λ e. omega (arith, prefix-yes p x xs e, prefix-within p xs))
    (λ e. omega (arith, prefix-no p x xs e))

-- a list in which no element passes is not cut
pub split-last : (p : ℕ → Bool) (xs : List ℕ) → length xs ≤ position_or_len p xs → slice_split p xs ≡ xs ∷ []
split-last p [] l = refl
split-last p (x ∷ xs) l =
    by_case (p x) _
    (λ e. absurd (omega (arith, prefix-no (λ y. not (p y)) x xs (ap not e))))
    (λ e. slice_split-cons_no p x xs e ∙ ap (onto_first x) (split-last p xs (omega (arith, prefix-yes (λ y. not (p y)) x xs (ap not e)))))

pub tokens-blank : (at b : ℕ) (bs : List ℕ) → is_blank b ≡ true → tokens at (b ∷ bs) ≡ tokens (suc at) bs
tokens-blank at b bs e =
    ap (λ parts. filter has_bytes (placed at parts)) (slice_split-cons_yes is_blank b bs e)
    ∙ ap (λ n. filter has_bytes (placed (suc n) (slice_split is_blank bs))) (add-zero at)

-- blanks in front
tokens-skip : (at : ℕ) (xs : List ℕ) (n : ℕ) → n ≡ prefix_len is_blank xs → tokens at xs ≡ tokens (at + n) (drop n xs)
tokens-skip at [] n e = ap (tokens (at + n)) (sym (drop_all n [] (omega arith)))
tokens-skip at (x ∷ xs) n e =
    by_case (is_blank x) _
    (λ blank.
    let m = prefix_len is_blank xs in
    let more : n ≡ suc m = e ∙ prefix-yes is_blank x xs blank in
    let there : suc at + m ≡ at + n = omega (arith, more) in
    tokens-blank at x xs blank
    ∙ tokens-skip (suc at) xs m refl
    ∙ ap (λ k. tokens k (drop m xs)) there
    ∙ ap (λ k. tokens (at + n) (drop k (x ∷ xs))) (sym more))
    (λ other.
    let none : n ≡ 0 = e ∙ prefix-no is_blank x xs other in
    let here : at ≡ at + n = omega (arith, none) in
    ap (λ k. tokens k (x ∷ xs)) here ∙ ap (λ k. tokens (at + n) (drop k (x ∷ xs))) (sym none))

-- after blanks that nothing follows there is nothing
no-word : (xs : List ℕ) → prefix_len (λ b. not (is_blank b)) (drop (prefix_len is_blank xs) xs) ≡ 0 → drop (prefix_len is_blank xs) xs ≡ []
no-word [] e = refl
no-word (x ∷ xs) e =
    by_case (is_blank x) _
    (λ blank.
    let more = prefix-yes is_blank x xs blank in
    let rest : drop (prefix_len is_blank (x ∷ xs)) (x ∷ xs) ≡ drop (prefix_len is_blank xs) xs = ap (λ k. drop k (x ∷ xs)) more in
    rest ∙ no-word xs (sym (ap (prefix_len (λ b. not (is_blank b))) rest) ∙ e))
    (λ other.
    let none = prefix-no is_blank x xs other in
    let rest : drop (prefix_len is_blank (x ∷ xs)) (x ∷ xs) ≡ x ∷ xs = ap (λ k. drop k (x ∷ xs)) none in
    let some : prefix_len (λ b. not (is_blank b)) (x ∷ xs) ≡ 0 = sym (ap (prefix_len (λ b. not (is_blank b))) rest) ∙ e in
    absurd (omega (arith, some, prefix-yes (λ b. not (is_blank b)) x xs (ap not other))))

tokens-none : (at n : ℕ) (xs : List ℕ) → n ≡ prefix_len is_blank xs → prefix_len (λ b. not (is_blank b)) (drop n xs) ≡ 0 → tokens at xs ≡ []
tokens-none at n xs e f =
    tokens-skip at xs n e
    ∙ ap (λ k. tokens (at + n) (drop k xs)) e
    ∙ ap (tokens (at + n)) (no-word xs (sym (ap (λ k. prefix_len (λ b. not (is_blank b)) (drop k xs)) e) ∙ f))

kept : (at : ℕ) (w : List ℕ) (ps : List Piece) → 0 < length w → filter has_bytes ((at, w) ∷ ps) ≡ (at, w) ∷ filter has_bytes ps
kept at [] ps l = absurd (omega arith)
kept at (b ∷ w) ps l = refl

-- the first token begins at a byte that is no blank, and ends at the next blank
tokens-word : (at m : ℕ) (xs : List ℕ) → m ≡ prefix_len (λ b. not (is_blank b)) xs → 0 < m → tokens at xs ≡ (at, take m xs) ∷ tokens (at + m) (drop m xs)
tokens-word at m xs e l =
    let inside : m ≤ length xs = omega (arith, prefix-within (λ b. not (is_blank b)) xs) in
    let long : length (take m xs) ≡ m = omega (arith, length-take m xs) in
    ⊎_elim
    (λ below.
    let first : position_or_len is_blank xs < length xs = omega (arith, e) in
    let rest = drop (position_or_len is_blank xs + 1) xs in
    let blank : is_blank (get_or xs m 0) ≡ true = ap (λ k. is_blank (get_or xs k 0)) e ∙ passes_at_first is_blank xs 0 first in
    let next : suc m ≡ position_or_len is_blank xs + 1 = omega (arith, e) in
    let cut : drop m xs ≡ get_or xs m 0 ∷ rest = drop-cons xs m 0 below ∙ ap (λ k. get_or xs m 0 ∷ drop k xs) next in
    ap (λ parts. filter has_bytes (placed at parts)) (slice_split_first is_blank xs 0 first ∙ ap (λ k. take k xs ∷ slice_split is_blank rest) (sym e))
    ∙ kept at (take m xs) (placed (suc (at + length (take m xs))) (slice_split is_blank rest)) (omega (arith, long))
    ∙ ap (λ k. (at, take m xs) ∷ tokens (suc (at + k)) rest) long
    ∙ sym (ap (λ ts. (at, take m xs) ∷ ts) (ap (tokens (at + m)) cut ∙ tokens-blank (at + m) (get_or xs m 0) rest blank)))
    (λ past.
    let whole : take m xs ≡ xs = take_all m xs past in
    let nothing : drop m xs ≡ [] = drop_all m xs past in
    ap (λ parts. filter has_bytes (placed at parts)) (split-last is_blank xs (omega (arith, e)))
    ∙ kept at xs [] (omega arith)
    ∙ ap (λ w. (at, w) ∷ []) (sym whole)
    ∙ sym (ap (λ ys. (at, take m xs) ∷ tokens (at + m) ys) nothing))
    (cases_lt m (length xs))

-- the next token of a line, after the blanks before it
pub tokens-next : (at n m : ℕ) (xs w rest : List ℕ) → n ≡ prefix_len is_blank xs → w ≡ drop n xs → m ≡ prefix_len (λ b. not (is_blank b)) w → (m ≡ 0 → ⊥)
    → rest ≡ drop m w →
    tokens at xs ≡ (at + n, take m w) ∷ tokens (at + (n + m)) rest
tokens-next at n m xs w rest e f g some r =
    let there : at + n + m ≡ at + (n + m) = omega arith in
    tokens-skip at xs n e
    ∙ ap (tokens (at + n)) (sym f)
    ∙ tokens-word (at + n) m w g (omega arith)
    ∙ ap₂ (λ k ys. (at + n, take m w) ∷ tokens k ys) there (sym r)

pub tokens-end : (at n m : ℕ) (xs w : List ℕ) → n ≡ prefix_len is_blank xs → w ≡ drop n xs → m ≡ prefix_len (λ b. not (is_blank b)) w → m ≡ 0
    → tokens at xs ≡ []
tokens-end at n m xs w e f g none = tokens-none at n xs e (ap (prefix_len (λ b. not (is_blank b))) (sym f) ∙ sym g ∙ none)

pub length-rest : (n : ℕ) (xs : List ℕ) → length (take (length xs - n) (drop n xs)) ≡ length xs - n
length-rest n xs = ap length (rest-is n xs) ∙ length-drop n xs
