-- The names of an accepted system can stand in certificates.
use Rattle.std.proofs.Common.{◌≡◌, ℕ, zero, suc, ◌≤◌, List, [], ◌∷◌, ◌++◌, length, take, drop, Bool, true, false, not, ◌&&◌, ◌||◌, ⊎_elim, refl, sym, ap, ◌∙◌}
use Rattle.std.proofs.Common.{subst, arith, nat_eq, nat_le, nat_lt, codes, IsTrue, leb-true, le-leb, eqb-true, if◌then◌else◌}
use Rattle.std.proofs.lemmas.Bool.{and_parts, and_from, or_cases, not_from_false, false_from_ne_true, true≢false}
use Rattle.std.proofs.lemmas.List.Folds.{list_all-append}
use Rattle.std.proofs.lemmas.Slice.Eq.{bytes_eq-Decides}
use Rattle.std.specs.List.{list_all, take_while, prefix_len}
use Rattle.std.proofs.lemmas.List.{append-nil}
use Rattle.std.specs.Str.{bytes_eq}
use Rattle.ccsl_base.specs.declared.limits.TheConstants.{MAX_NAME_BYTES}
use Rattle.ccsl_base.specs.KeptWords.{is_reserved}
use Rattle.ccsl_base.specs.Name.{is_word, is_name, is_visible, is_cert_name, are_cert_names}
use Rattle.ccsl_base.specs.Letters.{is_letter, is_digit, is_inner}
use Rattle.ccsl_kernel.specs.Syntax.{System}
use Rattle.ccsl_kernel.specs.Accepted.{is_path_rest, is_hidden, Each, IsAccepted}

-- what stands between two bytes
between : (lo hi b : ℕ) → (nat_le lo b && nat_le b hi) ≡ true → (lo ≤ b) × (b ≤ hi)
between lo hi b h = let w = and_parts (nat_le lo b) (nat_le b hi) h in (leb-true lo b w.0, leb-true b hi w.1)

letter_between : (b : ℕ) → is_letter b ≡ true → (65 ≤ b) × (b ≤ 122)
letter_between b h =
    ⊎_elim
    (λ h. ⊎_elim
    (λ h. let w = between 65 90 b h in (w.0, omega (arith, w.1)))
    (λ h. let w = between 97 122 b h in (omega (arith, w.0), w.1))
    (or_cases (nat_le 65 b && nat_le b 90) (nat_le 97 b && nat_le b 122) h))
    (λ h. let e = eqb-true b 95 h in (omega arith, omega arith))
    (or_cases ((nat_le 65 b && nat_le b 90) || (nat_le 97 b && nat_le b 122)) (nat_eq b 95) h)

inner_between : (b : ℕ) → is_inner b ≡ true → (48 ≤ b) × (b ≤ 122)
inner_between b h =
    ⊎_elim
    (λ h. let w = letter_between b h in (omega (arith, w.0), w.1))
    (λ h. let w = between 48 57 b h in (w.0, omega (arith, w.1)))
    (or_cases (is_letter b) (is_digit b) h)

visible : (b : ℕ) → 33 ≤ b → b ≤ 126 → is_visible b ≡ true
visible b l u = and_from (nat_le 33 b) (nat_le b 126) (le-leb 33 b l) (le-leb b 126 u)

pub inner_visible : (bs : List ℕ) → list_all is_inner bs ≡ true → list_all is_visible bs ≡ true
inner_visible [] h = refl
inner_visible (b ∷ bs) h =
    let w = and_parts (is_inner b) (list_all is_inner bs) h in
    let v = inner_between b w.0 in
    and_from (is_visible b) (list_all is_visible bs) (visible b (omega (arith, v.0)) (omega (arith, v.1))) (inner_visible bs w.1)

-- what a test tells from `from` is not that text
not_from : (P : List ℕ → Bool) → P (codes "from") ≡ false → (bs : List ℕ) → P bs ≡ true → bytes_eq bs (codes "from") ≡ false
not_from P away bs h = false_from_ne_true (bytes_eq bs (codes "from")) (λ e. true≢false (sym h ∙ ap P ((bytes_eq-Decides bs (codes "from")).0 e) ∙ away))

-- a name of the grammar, and visible bytes behind it
name_and_rest : (front rest : List ℕ) → is_name front ≡ true → list_all is_visible rest ≡ true → bytes_eq (front ++ rest) (codes "from") ≡ false
    → is_cert_name (front ++ rest) ≡ true
name_and_rest [] rest h v e = let z : ⊥ = cc in absurd z
name_and_rest (b ∷ bs) rest h v e =
    let short = (and_parts (is_word (b ∷ bs) && nat_le (length (b ∷ bs)) MAX_NAME_BYTES) (not (is_reserved (b ∷ bs))) h).0 in
    let word = (and_parts (is_letter b && list_all is_inner bs) (nat_le (length (b ∷ bs)) MAX_NAME_BYTES) short).0 in
    let parts = and_parts (is_letter b) (list_all is_inner bs) word in
    let letter = letter_between b parts.0 in
    let behind : list_all is_visible (bs ++ rest) ≡ true =
    list_all-append is_visible bs rest ∙ and_from (list_all is_visible bs) (list_all is_visible rest) (inner_visible bs parts.1) v in
    let minus : nat_eq b 45 ≡ false = false_from_ne_true (nat_eq b 45) (λ e. let i = eqb-true b 45 e in absurd (omega (arith, letter.0))) in
    and_from (is_visible b && list_all is_visible (bs ++ rest)) (not (nat_eq b 45) && not (bytes_eq (b ∷ (bs ++ rest)) (codes "from")))
    (and_from (is_visible b) (list_all is_visible (bs ++ rest)) (visible b (omega (arith, letter.0)) (omega (arith, letter.1))) behind)
    (and_from (not (nat_eq b 45)) (not (bytes_eq (b ∷ (bs ++ rest)) (codes "from"))) (not_from_false (nat_eq b 45) minus)
    (not_from_false (bytes_eq (b ∷ (bs ++ rest)) (codes "from")) e))

name_certified : (name : List ℕ) → is_name name ≡ true → is_cert_name name ≡ true
name_certified name h =
    subst (λ n. is_cert_name n ≡ true) (append-nil name)
    (name_and_rest name [] h refl (subst (λ n. bytes_eq n (codes "from") ≡ false) (sym (append-nil name)) (not_from is_name refl name h)))

-- a hidden name in its two parts
take_drop : (n : ℕ) (xs : List ℕ) → take n xs ++ drop (length (take n xs)) xs ≡ xs
take_drop zero xs = refl
take_drop (suc n) [] = refl
take_drop (suc n) (x ∷ xs) = ap (λ ys. x ∷ ys) (take_drop n xs)

path_visible : (bs : List ℕ) → is_path_rest bs ≡ true → list_all is_visible bs ≡ true
path_visible [] h = let z : ⊥ = cc in absurd z
path_visible (b ∷ bs) h =
    let w = and_parts (nat_eq b 64) (list_all is_visible bs) h in
    let at = eqb-true b 64 w.0 in
    and_from (is_visible b) (list_all is_visible bs) (visible b (omega arith) (omega arith)) w.1

hidden_certified : (name : List ℕ) → is_hidden name ≡ true → is_cert_name name ≡ true
hidden_certified name h =
    let front = take_while is_inner name in
    let rest = drop (length front) name in
    let w = and_parts (is_name front) (is_path_rest rest) h in
    let whole : front ++ rest ≡ name = take_drop (prefix_len is_inner name) name in
    subst (λ n. is_cert_name n ≡ true) whole
    (name_and_rest front rest w.0 (path_visible rest w.1) (subst (λ n. bytes_eq n (codes "from") ≡ false) (sym whole) (not_from is_hidden refl name h)))

all_certified : (written i : ℕ) (names : List (List ℕ)) → Each (λ i name. IsTrue (if nat_lt i written then is_name name else is_hidden name)) i names
    → are_cert_names names ≡ true
all_certified written i [] h = refl
all_certified written i (name ∷ names) h =
    and_from (is_cert_name name) (are_cert_names names) (one (nat_lt i written) h.0) (all_certified written (suc i) names h.1)
  where
    one : (t : Bool) → IsTrue (if t then is_name name else is_hidden name) → is_cert_name name ≡ true
    one true h = name_certified name h
    one false h = hidden_certified name h

pub names_certified : (K : System) → IsAccepted K → are_cert_names K.names ≡ true
names_certified K ok = all_certified K.written 0 K.names ok.names
