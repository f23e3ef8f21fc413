-- That there is one canonical spelling of some letters, and one length of the plain spelling of one word on another.
use Rattle.std.proofs.Common.{◌≡◌, ℕ, zero, suc, ◌+◌, ◌*◌, ◌/◌, List, length, take, drop, Bool, false, sym, ap, ap₂, ◌∙◌, arith}
use Rattle.std.proofs.lemmas.List.FromFn.{get_or-map-range_with_len, fill_by_all}
use Rattle.std.proofs.lemmas.Nat.Gcd.{same_from_IsGcd}
use Rattle.ccsl_words.specs.Word.{BinaryWord, letter}
use Rattle.ccsl_periodic.specs.Canonical.{Spells, IsCanonical}
use Rattle.ccsl_periodic.specs.Ones.{period_ones}
use Rattle.ccsl_periodic.specs.Filtered.{IsBehindBoth, IsCommonTurn, IsShapeBy, IsPlainLength}
use Rattle.ccsl_periodic.proofs.Spelled.{front, front_len, spelled, prefix_read, period_read}

-- A WORD IS its letters and the lengths of its parts
same_fronts : (f g : ℕ → Bool) (n : ℕ) → ((k : ℕ) → f k ≡ g k) → front f n ≡ front g n
same_fronts f g n same =
    fill_by_all g (front f n) n false (front_len f n) (λ k l. get_or-map-range_with_len f 0 n k k false l (omega arith) ∙ same k)

respelled : (w : BinaryWord) → spelled (letter w) (length w.prefix) (length w.period) ≡ w
respelled w = ap₂ (λ (p q : List Bool). record { prefix = p; period = q }) (prefix_read w) (period_read w)

same_spelled : (f g : ℕ → Bool) (p q m n : ℕ) → ((k : ℕ) → f k ≡ g k) → p ≡ m → q ≡ n → spelled f p q ≡ spelled g m n
same_spelled f g p q m n same e h =
    ap (λ (xs : List Bool). record { prefix = take p xs; period = drop p xs }) (same_fronts f g (p + q) same)
    ∙ ap₂ (λ i j. spelled g i j) e h

same_word : (c d : BinaryWord) → ((k : ℕ) → letter c k ≡ letter d k) → length c.prefix ≡ length d.prefix → length c.period ≡ length d.period → c ≡ d
same_word c d same e h =
    sym (respelled c)
    ∙ same_spelled (letter c) (letter d) (length c.prefix) (length c.period) (length d.prefix) (length d.period) same e h
    ∙ respelled d

-- ONE CANONICAL SPELLING: each of two is no longer than the other
respells : (w x c : BinaryWord) → ((k : ℕ) → letter w k ≡ letter x k) → Spells c w → Spells c x
respells w x c same is = record { infinite = is.infinite; letters = λ k. is.letters k ∙ same k }

pub canonical_is_one : (w x c d : BinaryWord) → ((k : ℕ) → letter w k ≡ letter x k) → IsCanonical c w → IsCanonical d x → c ≡ d
canonical_is_one w x c d same left right =
    let d_spells = respells x w d (λ k. sym (same k)) right.spells in
    let c_spells = respells w x c same left.spells in
    let period : length c.period ≡ length d.period = omega (arith, left.period d d_spells, right.period c c_spells) in
    let prefix : length c.prefix ≡ length d.prefix = omega (arith, left.prefix d d_spells (sym period), right.prefix c c_spells period) in
    same_word c d (λ k. left.spells.letters k ∙ sym (d_spells.letters k)) prefix period

-- ONE PLAIN LENGTH
module _ (u v : BinaryWord) where
  same_place : (p q : ℕ) → IsBehindBoth u v p → IsBehindBoth u v q → p ≡ q
  same_place p q a b = omega (arith, a.least q b.behind_left b.behind_right, b.least p a.behind_left a.behind_right)

  same_common_turn : (p q : ℕ) → IsCommonTurn u v p → IsCommonTurn u v q → p ≡ q
  same_common_turn p q (g, is_gcd, is) (h, is_gcd', is') =
      is ∙ ap (λ n. length u.period * (length v.period / n)) (same_from_IsGcd (length v.period) (period_ones u) g h is_gcd is_gcd') ∙ sym is'

  same_lengths : (n p q r s : ℕ) → IsShapeBy n u v p q → IsShapeBy n u v r s → p + q ≡ r + s
  same_lengths zero p q r s (e, h) (e', h') = omega (arith, e, h, e', h')
  same_lengths (suc n) p q r s (place, turn) (place', turn') = omega (arith, same_place p r place place', same_common_turn q s turn turn')

  pub plain_length_is_one : (m n : ℕ) → IsPlainLength u v m → IsPlainLength u v n → m ≡ n
  plain_length_is_one m n (p, q, shape, is) (r, s, shape', is') = is ∙ same_lengths (period_ones u) p q r s shape shape' ∙ sym is'
