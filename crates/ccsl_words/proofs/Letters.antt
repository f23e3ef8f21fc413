-- Words from an offset on.
use Rattle.std.proofs.Common.{◌≡◌, ◌≢◌, ℕ, zero, suc, ◌+◌, ◌-◌, ◌%◌, ◌<◌, ◌≤◌, ⊎_elim, length, List, [], ◌∷◌, get_or, Bool, true, false, ◌&&◌, cond, refl, sym}
use Rattle.std.proofs.Common.{ap, ap₂, ◌∙◌, arith, nat_le, nat_lt, nat_eq, le-leb, eq-eqb}
use Rattle.std.proofs.lemmas.Bool.{cases_Bool, cases_lt, cases_eq, lt-leb, ne_eqb, le-ltb, false≢true}
use Rattle.std.proofs.Math.Nat.{add-mod_left}
use Rattle.ccsl_words.specs.Word.{BinaryWord, letter, rest, is_finite, word_len, has_ended}
use Rattle.ccsl_base.specs.Empty.{is_empty}
use Rattle.ccsl_words.specs.Offsets.{offset_at}

letter_cases : (w : BinaryWord) (k : ℕ) (within fin : Bool) → nat_lt k (length w.prefix) ≡ within → is_finite w ≡ fin →
    letter w k ≡ cond within (get_or w.prefix k false) (cond fin false (get_or w.period ((k - length w.prefix) % length w.period) false))
letter_cases w k within fin e f =
    ap₂ (λ c d. cond c (get_or w.prefix k false) (cond d false (get_or w.period ((k - length w.prefix) % length w.period) false))) e f

pub past_finite : (w : BinaryWord) (k : ℕ) → is_finite w ≡ true → length w.prefix ≤ k → letter w k ≡ false
past_finite w k fin l = letter_cases w k false true (le-ltb k (length w.prefix) l) fin

pub past_infinite : (w : BinaryWord) (k : ℕ) → is_finite w ≡ false → length w.prefix ≤ k
    → letter w k ≡ get_or w.period ((k - length w.prefix) % length w.period) false
past_infinite w k fin l = letter_cases w k false false (le-ltb k (length w.prefix) l) fin

-- a turn of the period later stands the same letter
pub letter_turn : (w : BinaryWord) (k : ℕ) → is_finite w ≡ false → length w.prefix ≤ k → letter w (k + length w.period) ≡ letter w k
letter_turn w k fin l =
    past_infinite w (k + length w.period) fin (omega (arith, l))
    ∙ ap (λ i. get_or w.period (i % length w.period) false)
    (let s : k + length w.period - length w.prefix ≡ length w.period + (k - length w.prefix) = omega (arith, l) in s)
    ∙ ap (λ i. get_or w.period i false) (add-mod_left (length w.period) (k - length w.prefix))
    ∙ sym (past_infinite w k fin l)

pub finite_len : (w : BinaryWord) → is_finite w ≡ true → word_len w ≡ length w.prefix
finite_len w fin = ap (λ n. length w.prefix + n) (none w.period fin) ∙ omega arith
  where
    none : (xs : List Bool) → is_empty xs ≡ true → length xs ≡ 0
    none [] e = refl
    none (x ∷ xs) e = absurd (cc)

pub infinite_len : (w : BinaryWord) → is_finite w ≡ false → 0 < length w.period
infinite_len w fin = some w.period fin
  where
    some : (xs : List Bool) → is_empty xs ≡ false → 0 < length xs
    some [] e = absurd (cc)
    some (x ∷ xs) e = omega arith

pub rest_cases : (w : BinaryWord) (o : ℕ) (fin past wrap : Bool) → is_finite w ≡ fin → nat_le (length w.prefix) o ≡ past
    → nat_eq (o + 1) (length w.prefix + length w.period) ≡ wrap →
    rest w o ≡ cond fin (cond past (length w.prefix) (o + 1)) (cond wrap (length w.prefix) (o + 1))
rest_cases w o fin past wrap e e' e'' =
    ap (λ c. cond c (cond (nat_le (length w.prefix) o) (length w.prefix) (o + 1))
    (cond (nat_eq (o + 1) (length w.prefix + length w.period)) (length w.prefix) (o + 1))) e
    ∙ ap₂ (λ c d. cond fin (cond c (length w.prefix) (o + 1)) (cond d (length w.prefix) (o + 1))) e' e''

-- THE NEXT OFFSET, by cases
pub rest_at_end : (w : BinaryWord) (o : ℕ) → is_finite w ≡ true → length w.prefix ≤ o → rest w o ≡ length w.prefix
rest_at_end w o fin l = rest_cases w o true true _ fin (le-leb (length w.prefix) o l) refl

pub rest_before_end : (w : BinaryWord) (o : ℕ) → is_finite w ≡ true → o < length w.prefix → rest w o ≡ o + 1
rest_before_end w o fin l = rest_cases w o true false _ fin (lt-leb (length w.prefix) o l) refl

pub rest_turns : (w : BinaryWord) (o : ℕ) → is_finite w ≡ false → o + 1 ≡ word_len w → rest w o ≡ length w.prefix
rest_turns w o fin e = rest_cases w o false _ true fin refl (eq-eqb (o + 1) (length w.prefix + length w.period) e)

pub rest_steps : (w : BinaryWord) (o : ℕ) → is_finite w ≡ false → o + 1 ≢ word_len w → rest w o ≡ o + 1
rest_steps w o fin ne = rest_cases w o false _ false fin refl (ne_eqb (o + 1) (length w.prefix + length w.period) ne)

-- as far as letters go, the offset after o is o + 1
pub letter-rest : (w : BinaryWord) (o k : ℕ) → letter w (rest w o + k) ≡ letter w (o + 1 + k)
letter-rest w o k = ⊎_elim finite infinite (cases_Bool (is_finite w))
  where
    onward : rest w o ≡ o + 1 → letter w (rest w o + k) ≡ letter w (o + 1 + k)
    onward e = ap (λ r. letter w (r + k)) e

    finite : is_finite w ≡ true → letter w (rest w o + k) ≡ letter w (o + 1 + k)
    finite fin =
        ⊎_elim
        (λ (l : o < length w.prefix). onward (rest_before_end w o fin l))
        (λ (l : length w.prefix ≤ o).
        ap (λ r. letter w (r + k)) (rest_at_end w o fin l)
        ∙ past_finite w (length w.prefix + k) fin (omega arith)
        ∙ sym (past_finite w (o + 1 + k) fin (omega arith)))
        (cases_lt o (length w.prefix))

    infinite : is_finite w ≡ false → letter w (rest w o + k) ≡ letter w (o + 1 + k)
    infinite fin =
        ⊎_elim
        (λ (e : o + 1 ≡ word_len w).
        ap (λ r. letter w (r + k)) (rest_turns w o fin e)
        ∙ sym (letter_turn w (length w.prefix + k) fin (omega arith))
        ∙ ap (letter w) (let s : length w.prefix + k + length w.period ≡ o + 1 + k = omega (arith, e) in s))
        (λ (ne : o + 1 ≢ word_len w). onward (rest_steps w o fin ne))
        (cases_eq (o + 1) (word_len w))

pub letter-offset_at : (w : BinaryWord) (n k : ℕ) → letter w (offset_at w n + k) ≡ letter w (n + k)
letter-offset_at w zero k = refl
letter-offset_at w (suc n) k =
    letter-rest w (offset_at w n) k
    ∙ ap (letter w) (let s : offset_at w n + 1 + k ≡ offset_at w n + (1 + k) = omega arith in s)
    ∙ letter-offset_at w n (1 + k)
    ∙ ap (letter w) (let s : n + (1 + k) ≡ suc n + k = omega arith in s)

-- THE END of a finite word
offset_before_end : (w : BinaryWord) (n : ℕ) → is_finite w ≡ true → n ≤ length w.prefix → offset_at w n ≡ n
offset_before_end w zero fin l = refl
offset_before_end w (suc n) fin l =
    let before : offset_at w n ≡ n = offset_before_end w n fin (omega (arith, l)) in
    ap (rest w) before ∙ rest_before_end w n fin (omega (arith, l)) ∙ (let s : n + 1 ≡ suc n = omega arith in s)

offset_past_end : (w : BinaryWord) (n : ℕ) → is_finite w ≡ true → length w.prefix ≤ n → offset_at w n ≡ length w.prefix
offset_past_end w zero fin l = omega (arith, l)
offset_past_end w (suc n) fin l =
    ⊎_elim
    (λ (last : n < length w.prefix). offset_before_end w (suc n) fin (omega (arith, last)) ∙ (let s : suc n ≡ length w.prefix = omega (arith, last, l) in s))
    (λ (past : length w.prefix ≤ n). ap (rest w) (offset_past_end w n fin past) ∙ rest_at_end w (length w.prefix) fin (omega arith))
    (cases_lt n (length w.prefix))

ended_at_end : (w : BinaryWord) (o : ℕ) → is_finite w ≡ true → o ≡ length w.prefix → has_ended w o ≡ true
ended_at_end w o fin e = ap₂ (λ (c d : Bool). c && d) fin (eq-eqb o (length w.prefix) e)

not_ended_before : (w : BinaryWord) (o : ℕ) → is_finite w ≡ true → o ≢ length w.prefix → has_ended w o ≡ true → ⊥
not_ended_before w o fin ne e = false≢true (sym (ap₂ (λ (c d : Bool). c && d) fin (ne_eqb o (length w.prefix) ne)) ∙ e)

pub ended-offset_at : (w : BinaryWord) (n : ℕ) → is_finite w ≡ true → has_ended w (offset_at w n) ≡ true → word_len w ≤ n
ended-offset_at w n fin e =
    ⊎_elim
    (λ (l : n < length w.prefix). absurd
    (not_ended_before w (offset_at w n) fin
    (λ (same : offset_at w n ≡ length w.prefix). omega (arith, l, same, offset_before_end w n fin (omega (arith, l)))) e))
    (λ (l : length w.prefix ≤ n). omega (arith, l, finite_len w fin))
    (cases_lt n (length w.prefix))

pub offset_at-ended : (w : BinaryWord) (n : ℕ) → is_finite w ≡ true → word_len w ≤ n → has_ended w (offset_at w n) ≡ true
offset_at-ended w n fin l = ended_at_end w (offset_at w n) fin (offset_past_end w n fin (omega (arith, l, finite_len w fin)))
