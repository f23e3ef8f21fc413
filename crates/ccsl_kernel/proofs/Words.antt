-- Words from an offset on.
use Rattle.std.proofs.Common.{◌≡◌, ℕ, suc, ◌+◌, ◌-◌, ◌%◌, ◌<◌, ◌≤◌, ⊎_elim, length, get_or, Bool, true, false, ◌&&◌, refl, sym, ap, ◌∙◌, arith}
use Rattle.std.proofs.Common.{nat_le, le-leb, eq-eqb}
use Rattle.std.proofs.lemmas.Bool.{cases_Bool, cases_lt, cases_eq, lt-leb, ne_eqb}
use Rattle.std.proofs.Math.Nat.{add-mod_left}
use Rattle.ccsl_words.specs.Word.{BinaryWord, letter, rest, is_finite}
use Rattle.ccsl_words.proofs.Letters.{past_infinite, past_finite, rest_cases}

-- the offset after o, as far as letters and the end go: o + 1
pub letter-rest : (w : BinaryWord) (o k : ℕ) → letter w (rest w o + k) ≡ letter w (o + suc k)
letter-rest w o k = ⊎_elim finite infinite (cases_Bool (is_finite w))
  where
    onward : rest w o ≡ o + 1 → letter w (rest w o + k) ≡ letter w (o + suc k)
    onward e = ap (λ r. letter w (r + k)) e ∙ ap (letter w) (omega arith)

    finite : is_finite w ≡ true → letter w (rest w o + k) ≡ letter w (o + suc k)
    finite fin =
        ⊎_elim
        (λ (l : o < length w.prefix). onward (rest_cases w o true false _ fin (lt-leb (length w.prefix) o l) refl))
        (λ (l : length w.prefix ≤ o).
        ap (λ r. letter w (r + k)) (rest_cases w o true true _ fin (le-leb (length w.prefix) o l) refl)
        ∙ past_finite w (length w.prefix + k) fin (omega arith)
        ∙ sym (past_finite w (o + suc k) fin (omega arith)))
        (cases_lt o (length w.prefix))

    infinite : is_finite w ≡ false → letter w (rest w o + k) ≡ letter w (o + suc k)
    infinite fin =
        ⊎_elim
        (λ (e : o + 1 ≡ length w.prefix + length w.period).
        ap (λ r. letter w (r + k)) (rest_cases w o false _ true fin refl (eq-eqb (o + 1) (length w.prefix + length w.period) e))
        ∙ past_infinite w (length w.prefix + k) fin (omega arith)
        ∙ ap (λ i. get_or w.period (i % length w.period) false) (omega arith)
        ∙ ap (λ i. get_or w.period i false) (sym (add-mod_left (length w.period) k))
        ∙ ap (λ i. get_or w.period (i % length w.period) false) (let s : length w.period + k ≡ o + suc k - length w.prefix = omega (arith, e) in s)
        ∙ sym (past_infinite w (o + suc k) fin (omega (arith, e))))
        (λ (e : o + 1 ≡ length w.prefix + length w.period → ⊥). onward
        (rest_cases w o false _ false fin refl (ne_eqb (o + 1) (length w.prefix + length w.period) e)))
        (cases_eq (o + 1) (length w.prefix + length w.period))

-- whether a word has ended at an offset
abbrev pub past : BinaryWord → ℕ → Bool
past w o = is_finite w && nat_le (length w.prefix) o
