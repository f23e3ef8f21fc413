-- What a text is, from whether a byte could be stripped off behind its letters.
use Rattle.std.proofs.Common.{◌≡◌, ◌≢◌, ℕ, ◌+◌, ◌-◌, ◌<◌, ◌≤◌, List, [], ◌∷◌, ◌++◌, length, take, drop, Bool, true, false, ◌&&◌, refl, sym, ap, ◌∙◌, subst, inl}
use Rattle.std.proofs.Common.{nat_eq, arith}
use Rattle.std.proofs.lemmas.Bool.{eqb-true, eqb-false, eq-eqb, false≢true}
use Rattle.std.proofs.lemmas.List.{append-nil, nil_from_length, take_rest}
use lib.Pointwise.{pointwise}
use Rattle.ccsl_words.specs.declared.fault.WordFault.TheVariants as fault
use Rattle.ccsl_words.specs.Spelling.{digits}
use Rattle.ccsl_words.specs.Reads.{Reads}
use Rattle.ccsl_words.specs.Front.{begins_with_letter, LeadsWith, HasLetters}
use Rattle.ccsl_words.specs.Fault.{IsFault}
use Rattle.ccsl_words.proofs.Faults.{stray_after_letters, limit_in_prefix, limit_in_period, empty_period, stray_inside, ends_inside, stray_behind_period}
use Rattle.ccsl_words.proofs.Faults.{finite_reads, periodic_reads}

-- whether a list begins with a byte, as `strip_prefix` tests it
abbrev pub begins_with : ℕ → List ℕ → Bool
begins_with b y = pointwise nat_eq (take 1 y) (b ∷ [])

pub stripped : (b : ℕ) (y : List ℕ) → begins_with b y ≡ true → y ≡ b ∷ drop 1 y
stripped b [] e = absurd (false≢true e)
stripped b (c ∷ y) e = ap (λ (n : ℕ). n ∷ y) (eqb-true c b (both (nat_eq c b) e))
  where
    both : (t : Bool) → (t && true) ≡ true → t ≡ true
    both true e = refl
    both false e = e

pub other_byte : (b c : ℕ) (y : List ℕ) → begins_with b (c ∷ y) ≡ false → c ≡ b → ⊥
other_byte b c y e same = false≢true (sym e ∙ ap (λ (t : Bool). t && true) (eq-eqb c b same))

-- what a slice from place n on holds
abbrev pub from_place : ℕ → List ℕ → List ℕ
from_place n text = take (length text - n) (drop n text)

-- A TEXT that leads with letters p, n of them
module _ (text : List ℕ) (p : List Bool) (n : ℕ) (leads : LeadsWith text p) (counted : n ≡ length p) where
  behind : from_place n text ≡ drop (length p) text
  behind = take_rest text n ∙ ap (λ (k : ℕ). drop k text) counted

  splits : text ≡ digits p ++ from_place n text
  splits = leads.begins ∙ ap (λ (r : List ℕ). digits p ++ r) (sym behind)

  -- with a ( behind them it opens a period
  pub opens : begins_with 40 (from_place n text) ≡ true → text ≡ digits p ++ 40 ∷ drop 1 (from_place n text)
  opens e = splits ∙ ap (λ (r : List ℕ). digits p ++ r) (stripped 40 (from_place n text) e)

  pub not_opened : begins_with 40 (from_place n text) ≡ false → 0 < length (from_place n text) → length p ≤ 4096 → (place : ℕ) → place ≡ length p
      → IsFault text (fault.BadLetter place)
  not_opened e some few place at =
      subst (λ (k : ℕ). IsFault text (fault.BadLetter k)) (sym at) (by_next (from_place n text) splits (ap begins_with_letter behind ∙ leads.stops) e some)
    where
      by_next : (z : List ℕ) → text ≡ digits p ++ z → begins_with_letter z ≡ false → begins_with 40 z ≡ false → 0 < length z
          → IsFault text (fault.BadLetter (length p))
      by_next [] whole stops e some = absurd (omega (arith, some))
      by_next (b ∷ z) whole stops e some = stray_after_letters text p b z whole few stops (other_byte 40 b z e)

  pub ended : length (from_place n text) ≡ 0 → text ≡ digits p
  ended none = splits ∙ ap (λ (r : List ℕ). digits p ++ r) (nil_from_length (from_place n text) none) ∙ append-nil (digits p)

  pub ended_word : length (from_place n text) ≡ 0 → 0 < length p → length p ≤ 4096 → Reads text (record { prefix = p; period = [] })
  ended_word none some few = finite_reads text p (ended none) some few

  pub ended_empty : length (from_place n text) ≡ 0 → length p ≡ 0 → IsFault text fault.Empty
  ended_empty none empty = inl (ended none ∙ ap digits (nil_from_length p empty))

-- more letters at the front of a text than there may be
pub front_long : (text : List ℕ) → HasLetters text 4097 → IsFault text fault.TooLong
front_long text has = limit_in_prefix text (drop (length has.0) text) has.0 has.2 has.1

-- A TEXT that opens a period behind letters p: what stands inside it leads with letters q, n of them, and then comes y
module _ (p : List Bool) (inside : List ℕ) (q : List Bool) (n : ℕ) (leads : LeadsWith inside q) (counted : n ≡ length q)
    (few : length p + length q ≤ 4096) where
  abbrev y : List ℕ
  y = from_place n inside

  rest : y ≡ drop (length q) inside
  rest = take_rest inside n ∙ ap (λ (k : ℕ). drop k inside) counted

  opened : digits p ++ 40 ∷ inside ≡ digits p ++ 40 ∷ (digits q ++ y)
  opened = ap (λ (r : List ℕ). digits p ++ 40 ∷ r) (leads.begins ∙ ap (λ (r : List ℕ). digits q ++ r) (sym rest))

  closed : begins_with 41 y ≡ true → digits p ++ 40 ∷ inside ≡ digits p ++ 40 ∷ (digits q ++ 41 ∷ drop 1 y)
  closed e = opened ∙ ap (λ (r : List ℕ). digits p ++ 40 ∷ (digits q ++ r)) (stripped 41 y e)

  pub not_closed : begins_with 41 y ≡ false → (place : ℕ) → place ≡ length p + 1 + length q → IsFault (digits p ++ 40 ∷ inside) (fault.BadLetter place)
  not_closed e place at = subst (λ (n : ℕ). IsFault (digits p ++ 40 ∷ inside) (fault.BadLetter n)) (sym at)
      (by_next y opened (ap begins_with_letter rest ∙ leads.stops) e)
    where
      by_next : (z : List ℕ) → digits p ++ 40 ∷ inside ≡ digits p ++ 40 ∷ (digits q ++ z) → begins_with_letter z ≡ false → begins_with 41 z ≡ false →
          IsFault (digits p ++ 40 ∷ inside) (fault.BadLetter (length p + 1 + length q))
      by_next [] splits stops e = ends_inside (digits p ++ 40 ∷ inside) p q (splits ∙ ap (λ (r : List ℕ). digits p ++ 40 ∷ r) (append-nil (digits q))) few
      by_next (c ∷ z) splits stops e = stray_inside (digits p ++ 40 ∷ inside) p q c z splits few stops (other_byte 41 c z e)

  pub closed_empty : begins_with 41 y ≡ true → length q ≡ 0 → IsFault (digits p ++ 40 ∷ inside) fault.Empty
  closed_empty e none = empty_period (digits p ++ 40 ∷ inside) (drop 1 y) p
      (closed e ∙ ap (λ (r : List Bool). digits p ++ 40 ∷ (digits r ++ 41 ∷ drop 1 y)) (nil_from_length q none)) (omega (arith, few))

  pub closed_early : begins_with 41 y ≡ true → 0 < length q → 0 < length (drop 1 y) → (place : ℕ) → place ≡ length p + 1 + length q + 1
      → IsFault (digits p ++ 40 ∷ inside) (fault.BadLetter place)
  closed_early e some more place at = subst (λ (n : ℕ). IsFault (digits p ++ 40 ∷ inside) (fault.BadLetter n)) (sym at) (by_next (drop 1 y) (closed e) more)
    where
      by_next : (z : List ℕ) → digits p ++ 40 ∷ inside ≡ digits p ++ 40 ∷ (digits q ++ 41 ∷ z) → 0 < length z
          → IsFault (digits p ++ 40 ∷ inside) (fault.BadLetter (length p + 1 + length q + 1))
      by_next [] splits more = absurd (omega (arith, more))
      by_next (c ∷ z) splits more = stray_behind_period (digits p ++ 40 ∷ inside) p q c z splits few some

  pub closed_word : begins_with 41 y ≡ true → 0 < length q → length (drop 1 y) ≡ 0 → Reads (digits p ++ 40 ∷ inside) (record { prefix = p; period = q })
  closed_word e some none =
      periodic_reads (digits p ++ 40 ∷ inside) p q (closed e ∙ ap (λ (r : List ℕ). digits p ++ 40 ∷ (digits q ++ 41 ∷ r)) (nil_from_length (drop 1 y) none))
      some few

-- more letters inside the period than there is room for
pub period_long : (p : List Bool) (inside : List ℕ) (room : ℕ) → length p ≤ 4096 → room ≡ 4096 - length p → HasLetters inside (room + 1)
    → IsFault (digits p ++ 40 ∷ inside) fault.TooLong
period_long p inside room few left has =
    limit_in_period (digits p ++ 40 ∷ inside) (drop (length has.0) inside) p has.0 (ap (λ (r : List ℕ). digits p ++ 40 ∷ r) has.2) few
    (omega (arith, few, left, has.1))

-- what `is_empty` says of a length
pub none_long : (n : ℕ) (b : Bool) → b ≡ nat_eq n 0 → b ≡ true → n ≡ 0
none_long n b e f = eqb-true n 0 (sym e ∙ f)

pub some_long : (n : ℕ) (b : Bool) → b ≡ nat_eq n 0 → b ≡ false → 0 < n
some_long n b e f = let ne : n ≢ 0 = eqb-false n 0 (sym e ∙ f) in omega (arith, ne)
