-- Paths of calls, and the names of hidden clocks: a name of the grammar, an @, and bytes that are seen.
use Rattle.std.proofs.Common.{◌≡◌, ℕ, zero, suc, ◌+◌, ◌%◌, ◌/◌, ◌<◌, List, [], ◌∷◌, ◌++◌, append_assoc, Bool, true, false, not, cond, ◌&&◌, ◌||◌, length, take}
use Rattle.std.proofs.Common.{drop, nat_le, refl, ap, ◌∙◌, arith, if◌then◌else◌, le-leb, lt-ltb, ◌==◌}
use Rattle.std.specs.Prelude.{decimal}
use Rattle.std.specs.Fmt.{digits, digits_onto, digit_glyph}
use Rattle.std.specs.List.{list_all, take_while, prefix_len}
use Rattle.std.proofs.lemmas.Bool.{and_parts, and_from}
use Rattle.std.proofs.lemmas.Bool.Decides.{nat_tests}
use Rattle.std.proofs.lemmas.List.Folds.{list_all-append}
use Rattle.ccsl_base.specs.Name.{is_word, is_name, is_visible}
use Rattle.ccsl_base.specs.Letters.{is_letter, is_digit, is_inner}
use Rattle.ccsl_base.specs.declared.limits.TheConstants.{MAX_NAME_BYTES}
use Rattle.ccsl_base.specs.KeptWords.{is_reserved}
use Rattle.ccsl_kernel.specs.Accepted.{is_hidden, is_path_rest}
use Rattle.ccsl_rules.specs.Unfolded.{inside, call_path}
use Rattle.ccsl_kernel.proofs.NamesInCertificates.{inner_visible}

-- ## What is seen

pub seen-append : (xs ys : List ℕ) → list_all is_visible xs ≡ true → list_all is_visible ys ≡ true → list_all is_visible (xs ++ ys) ≡ true
seen-append xs ys a b = list_all-append is_visible xs ys ∙ and_from _ _ a b

glyph-seen : (n : ℕ) → is_visible (digit_glyph false (n % 10)) ≡ true
glyph-seen n = by-test (n % 10) (let z : n % 10 < 10 = omega arith in z) where
  by-test : (d : ℕ) → d < 10 → is_visible (digit_glyph false d) ≡ true
  by-test d h = ap (λ t. is_visible (cond t (48 + d) (87 + d))) (lt-ltb d 10 h)
      ∙ and_from _ _ (le-leb 33 (48 + d) (omega arith)) (le-leb (48 + d) 126 (omega arith))

digits-seen : (k n : ℕ) (acc : List ℕ) → list_all is_visible acc ≡ true → list_all is_visible (digits_onto k 10 false n acc) ≡ true
digits-seen zero n acc h = h
digits-seen (suc k) n acc h =
    on (n / 10 == 0) (and_from _ _ (glyph-seen n) h) (digits-seen k (n / 10) (digit_glyph false (n % 10) ∷ acc) (and_from _ _ (glyph-seen n) h)) where
      on : (b : Bool) → list_all is_visible (digit_glyph false (n % 10) ∷ acc) ≡ true
          → list_all is_visible (digits_onto k 10 false (n / 10) (digit_glyph false (n % 10) ∷ acc)) ≡ true →
          list_all is_visible (if b then digit_glyph false (n % 10) ∷ acc else digits_onto k 10 false (n / 10) (digit_glyph false (n % 10) ∷ acc)) ≡ true
      on true a b = a
      on false a b = b

pub decimal-seen : (n : ℕ) → list_all is_visible (decimal n) ≡ true
unfolding digits
decimal-seen n = digits-seen 64 n [] refl

-- ## What names are made of

word-inner : (bytes : List ℕ) → is_word bytes ≡ true → list_all is_inner bytes ≡ true
word-inner [] h = refl
word-inner (b ∷ bs) h = let w = and_parts (is_letter b) (list_all is_inner bs) h in and_from _ _ (letter-inner b w.0) w.1 where
  letter-inner : (b : ℕ) → is_letter b ≡ true → is_inner b ≡ true
  letter-inner b h = ap (λ x. x || is_digit b) h

pub name-inner : (name : List ℕ) → is_name name ≡ true → list_all is_inner name ≡ true
name-inner name h = word-inner name (and_parts _ _ (and_parts (is_word name && nat_le (length name) MAX_NAME_BYTES) (not (is_reserved name)) h).0).0

pub name-seen : (name : List ℕ) → is_name name ≡ true → list_all is_visible name ≡ true
name-seen name h = inner_visible name (name-inner name h)

-- ## Paths

prefix-inner : (front rest : List ℕ) → list_all is_inner front ≡ true → prefix_len is_inner (front ++ (64 ∷ rest)) ≡ length front
prefix-inner [] rest h = refl
prefix-inner (b ∷ front) rest h =
    let w = and_parts (is_inner b) (list_all is_inner front) h in
    ap (λ t. cond t (1 + prefix_len is_inner (front ++ (64 ∷ rest))) 0) w.0 ∙ ap (λ n. 1 + n) (prefix-inner front rest w.1)
    ∙ (let z : 1 + length front ≡ suc (length front) = omega arith in z)

take-front : (front rest : List ℕ) → take (length front) (front ++ rest) ≡ front
take-front [] rest = refl
take-front (b ∷ front) rest = ap (λ l. b ∷ l) (take-front front rest)

drop-front : (front rest : List ℕ) → drop (length front) (front ++ rest) ≡ rest
drop-front [] rest = refl
drop-front (b ∷ front) rest = drop-front front rest

pub hidden-is : (front rest : List ℕ) → is_name front ≡ true → list_all is_visible rest ≡ true → is_hidden (front ++ (64 ∷ rest)) ≡ true
hidden-is front rest h s =
    let first : take_while is_inner (front ++ (64 ∷ rest)) ≡ front =
    ap (λ n. take n (front ++ (64 ∷ rest))) (prefix-inner front rest (name-inner front h)) ∙ take-front front (64 ∷ rest) in
    ap (λ f. is_name f && is_path_rest (drop (length f) (front ++ (64 ∷ rest)))) first
    ∙ and_from _ _ h (ap is_path_rest (drop-front front (64 ∷ rest)) ∙ s)

-- the path of a call: a name, an @ and bytes that are seen
pub record IsPath (path : List ℕ) : Type 0 where
  pub front : List ℕ
  pub rest : List ℕ
  pub whole : path ≡ front ++ (64 ∷ rest)
  pub name : is_name front ≡ true
  pub seen : list_all is_visible rest ≡ true

pub inside-path : (front rest x : List ℕ) → inside (front ++ (64 ∷ rest)) x ≡ front ++ (64 ∷ (rest ++ (46 ∷ x)))
inside-path [] rest x = refl
inside-path (b ∷ front) rest x = ap (λ l. b ∷ l) (append_assoc front (64 ∷ rest) (46 ∷ x))

pub inside-hidden : (path x : List ℕ) → IsPath path → list_all is_visible x ≡ true → is_hidden (inside path x) ≡ true
inside-hidden path x p s =
    ap (λ q. is_hidden (inside q x)) p.whole ∙ ap is_hidden (inside-path p.front p.rest x)
    ∙ hidden-is p.front (p.rest ++ (46 ∷ x)) p.name (seen-append p.rest (46 ∷ x) p.seen s)

call-text-seen : (name : List ℕ) (i : ℕ) → is_name name ≡ true → list_all is_visible (name ++ 64 ∷ decimal i) ≡ true
call-text-seen name i h = seen-append name (64 ∷ decimal i) (name-seen name h) (decimal-seen i)

-- of a call in the system, and of one in a relation
pub first-path : (name : List ℕ) (i : ℕ) → is_name name ≡ true → IsPath (call_path [] name i)
first-path name i h = record { front = name; rest = decimal i; whole = refl; name = h; seen = decimal-seen i }

pub inner-path : (path name : List ℕ) (i : ℕ) → IsPath path → is_name name ≡ true → IsPath (call_path path name i)
inner-path path name i p h = record {
  front = p.front;
  rest = p.rest ++ (46 ∷ (name ++ 64 ∷ decimal i));
  whole = ap (λ q. inside q (name ++ 64 ∷ decimal i)) p.whole ∙ inside-path p.front p.rest (name ++ 64 ∷ decimal i);
  name = p.name;
  seen = seen-append p.rest (46 ∷ (name ++ 64 ∷ decimal i)) p.seen (call-text-seen name i h);
}
