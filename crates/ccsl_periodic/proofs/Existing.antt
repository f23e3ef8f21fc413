-- That there is a canonical spelling, a first failure where a relation fails, and a word for each two.
use Rattle.std.proofs.Common.{◌≡◌, ◌⊎◌, ℕ, zero, suc, ◌+◌, ◌*◌, ◌/◌, ◌%◌, ◌<◌, ◌≤◌, length, max, Bool, true, false, refl, sym, ap, ◌∙◌, ⊎_elim, inl, inr, subst}
use Rattle.std.proofs.Common.{arith}
use Rattle.std.specs.Int.{IsGcd}
use Rattle.std.proofs.lemmas.Bool.{cases_eq, cases_lt, cases_Bool}
use Rattle.std.proofs.lemmas.Nat.Gcd.{IsGcd-from_zero, IsGcd-from_mod}
use Rattle.std.proofs.Math.Nat.{mul-pos, mul-le-mul_left}
use Rattle.ccsl_base.specs.declared.limits.TheConstants.{MAX_LETTERS}
use Rattle.ccsl_words.specs.Word.{BinaryWord, letter, is_finite, word_len}
use Rattle.ccsl_words.proofs.Letters.{infinite_len}
use Rattle.ccsl_periodic.specs.declared.between.Between.{Between}
use Rattle.ccsl_periodic.specs.declared.between.Between.TheVariants.{Precedes, Subclock, Excludes}
use Rattle.ccsl_periodic.specs.declared.turn.Turn.{Turn}
use Rattle.ccsl_periodic.specs.Canonical.{IsCanonical}
use Rattle.ccsl_periodic.specs.Repeats.{RepeatsFrom}
use Rattle.ccsl_periodic.specs.Ones.{ones, period_ones}
use Rattle.ccsl_periodic.specs.Failures.{fails_at, IsFirstFailure, NeverFails}
use Rattle.ccsl_periodic.specs.Filtered.{on_letter, IsBehindBoth, IsPlainShape}
use Rattle.ccsl_periodic.specs.Laws.{HasWordOn}
use Rattle.ccsl_periodic.specs.Turns.{IsTurn}
use Rattle.ccsl_periodic.proofs.Counts.{repeats-period}
use Rattle.ccsl_periodic.proofs.Divisors.{quotient_pos}
use Rattle.ccsl_periodic.proofs.Failing.{leads, never_fails}
use Rattle.ccsl_periodic.proofs.Plain.{shape_still, shape_turns, spelled_on}
use Rattle.ccsl_periodic.proofs.Repeating.{own_period, repeats_for_ever, shortest_is_canonical}
use Rattle.ccsl_periodic.proofs.Spelled.{spelled}
use Rattle.ccsl_periodic.proofs.Turning.{ones-turns, common_turn}

-- THE LEAST NUMBER with a property, where each number has it or not
record IsLeastOne (P : ℕ → Type 0) (n : ℕ) : Type 0 where
  number : ℕ
  within : number < n
  holds : P number
  least : (k : ℕ) → k < number → P k → ⊥

least-or-none : (P : ℕ → Type 0) → ((k : ℕ) → P k ⊎ (P k → ⊥)) → (n : ℕ) → IsLeastOne P n ⊎ ((k : ℕ) → k < n → P k → ⊥)
least-or-none P test zero = inr (λ k l p. omega (arith, l))
least-or-none P test (suc n) = ⊎_elim
    (λ q. inl (record { number = q.number; within = omega (arith, q.within); holds = q.holds; least = q.least }))
    (λ none. ⊎_elim
    (λ p. inl (record { number = n; within = omega arith; holds = p; least = none }))
    (λ no. inr (λ k l p. ⊎_elim (λ e. no (subst P e p)) (λ d. none k (omega (arith, l, d)) p) (cases_eq k n)))
    (test n))
    (least-or-none P test n)

-- the least number that is known to be there
least-of : (P : ℕ → Type 0) → ((k : ℕ) → P k ⊎ (P k → ⊥)) → (m : ℕ) → P m → IsLeastOne P (suc m)
least-of P test m p = ⊎_elim (λ q. q) (λ none. absurd (none m (omega arith) p)) (least-or-none P test (suc m))

-- two letters are the same or not
letter-same : (a b : Bool) → (a ≡ b) ⊎ (a ≡ b → ⊥)
letter-same true true = inl refl
letter-same true false = inr (λ e. absurd (cc))
letter-same false true = inr (λ e. absurd (cc))
letter-same false false = inl refl

-- two functions agree from one place up to another, or not
abbrev AgreeWithin : (ℕ → Bool) → (ℕ → Bool) → ℕ → ℕ → Type 0
AgreeWithin f g p n = (k : ℕ) → p ≤ k → k < n → f k ≡ g k

agree-or-not : (f g : ℕ → Bool) (p n : ℕ) → AgreeWithin f g p n ⊎ (AgreeWithin f g p n → ⊥)
agree-or-not f g p zero = inl (λ k a l. absurd (omega (arith, l)))
agree-or-not f g p (suc n) = ⊎_elim
    (λ same. ⊎_elim
    (λ (e : f n ≡ g n). inl (λ k a l. ⊎_elim (λ s. ap f s ∙ e ∙ sym (ap g s)) (λ d. same k a (omega (arith, l, d))) (cases_eq k n)))
    (λ no. ⊎_elim
    (λ (l : n < p). inl (λ k a m. same k a (omega (arith, a, l, m))))
    (λ (l : p ≤ n). inr (λ h. no (h n l (omega arith))))
    (cases_lt n p))
    (letter-same (f n) (g n)))
    (λ no. inr (λ h. no (λ k a l. h k a (omega (arith, l)))))
    (agree-or-not f g p n)

-- A CANONICAL SPELLING
module _ (w : BinaryWord) (infinite : is_finite w ≡ false) where
  abbrev a : ℕ
  a = length w.prefix

  repeats-or-not : (q : ℕ) → RepeatsFrom w (length w.prefix) q ⊎ (RepeatsFrom w (length w.prefix) q → ⊥)
  repeats-or-not q = ⊎_elim
      (λ same. inl (repeats_for_ever w infinite q same))
      (λ no. inr (λ h. no (λ k l m. h k l)))
      (agree-or-not (λ k. letter w (k + q)) (letter w) (length w.prefix) (word_len w))

  abbrev IsTurnOf : ℕ → Type 0
  IsTurnOf q = (0 < q) × RepeatsFrom w (length w.prefix) q

  turn-or-not : (q : ℕ) → IsTurnOf q ⊎ (IsTurnOf q → ⊥)
  turn-or-not q = ⊎_elim
      (λ (l : 0 < q). ⊎_elim (λ r. inl (l, r)) (λ no. inr (λ h. no h.1)) (repeats-or-not q))
      (λ (l : q ≤ 0). inr (λ h. omega (arith, l, h.0)))
      (cases_lt 0 q)

  period : IsLeastOne IsTurnOf (suc (length w.period))
  period = least-of IsTurnOf turn-or-not (length w.period) (infinite_len w infinite, own_period w infinite)

  from-or-not : (p : ℕ) → RepeatsFrom w p period.number ⊎ (RepeatsFrom w p period.number → ⊥)
  from-or-not p = ⊎_elim
      (λ same. inl (λ k l. ⊎_elim (λ (m : k < length w.prefix). same k l m) (λ (m : length w.prefix ≤ k). period.holds.1 k m) (cases_lt k (length w.prefix))))
      (λ no. inr (λ h. no (λ k l m. h k l)))
      (agree-or-not (λ k. letter w (k + period.number)) (letter w) p (length w.prefix))

  prefix : IsLeastOne (λ p. RepeatsFrom w p period.number) (suc (length w.prefix))
  prefix = least-of (λ p. RepeatsFrom w p period.number) from-or-not (length w.prefix) period.holds.1

  pub has_canonical : (c : BinaryWord) × IsCanonical c w
  has_canonical = (
    spelled (letter w) prefix.number period.number,
    shortest_is_canonical w infinite prefix.number period.number period.holds.0 prefix.holds
        (λ n some r. ⊎_elim (λ (l : n < period.number). absurd (period.least n l (some, r))) (λ l. l) (cases_lt n period.number))
        (λ n r. ⊎_elim (λ (l : n < prefix.number). absurd (prefix.least n l r)) (λ l. l) (cases_lt n prefix.number)),
  )

-- A GREATEST COMMON DIVISOR, by Euclid
gcd-within : (n a b : ℕ) → b ≤ n → (g : ℕ) × IsGcd a b g
gcd-within zero a b l = (a, IsGcd-from_zero a b (omega (arith, l)))
gcd-within (suc n) a b l = ⊎_elim
    (λ (z : b ≡ 0). (a, IsGcd-from_zero a b z))
    (λ some.
    let less : a % b ≤ n = omega (arith, l, some) in
    let q = gcd-within n b (a % b) less in
    (q.0, IsGcd-from_mod a b q.0 q.1))
    (cases_eq b 0)

has-gcd : (a b : ℕ) → (g : ℕ) × IsGcd a b g
has-gcd a b = gcd-within b a b (omega arith)

-- A RELATION holds or has a first failure
module _ (u v : BinaryWord) (inf_u : is_finite u ≡ false) (inf_v : is_finite v ≡ false) (few_u : word_len u ≤ MAX_LETTERS)
    (few_v : word_len v ≤ MAX_LETTERS) where
  start : ℕ
  start = max (length u.prefix) (length v.prefix)

  turn : (t : Turn) × IsTurn u v t
  unfolding start
  turn =
      let g = has-gcd (length u.period) (length v.period) in
      (_, common_turn u v g.0 start inf_u inf_v g.1 (omega arith) (omega arith) (omega (arith, few_u, few_v)) (omega (arith, few_u)) (omega (arith, few_v)))

  module _ (r : Between) where
    fails-or-not : (k : ℕ) → (fails_at r u v k ≡ true) ⊎ (fails_at r u v k ≡ true → ⊥)
    fails-or-not k = letter-same (fails_at r u v k) true

    no-failure : (k : ℕ) → (fails_at r u v k ≡ true → ⊥) → fails_at r u v k ≡ false
    no-failure k none = ⊎_elim (λ e. absurd (none e)) (λ e. e) (cases_Bool (fails_at r u v k))

    first : (n : ℕ) → ((k : ℕ) × IsFirstFailure r u v k) ⊎ ((k : ℕ) → k < n → fails_at r u v k ≡ false)
    first n = ⊎_elim
        (λ q. inl (q.number, record { fails = q.holds; least = λ j l. no-failure j (q.least j l) }))
        (λ none. inr (λ k l. no-failure k (none k l)))
        (least-or-none (λ k. fails_at r u v k ≡ true) fails-or-not n)

  -- where v has more ones in a turn it overtakes u
  overtakes : turn.0.left < turn.0.right → ((k : ℕ) → k < turn.0.start + (ones u turn.0.start + 1) * turn.0.letters → fails_at Precedes u v k ≡ false) → ⊥
  overtakes gains none =
      let t = turn.0 in
      let s = ones u t.start + 1 in
      let lead = leads u v (t.start + s * t.letters) none in
      let of_u = ones-turns u t.start t.letters t.left turn.1.left s t.start (omega arith) in
      let of_v = ones-turns v t.start t.letters t.right turn.1.right s t.start (omega arith) in
      let more : s * suc t.left ≤ s * t.right = mul-le-mul_left s gains in
      let split : s * suc t.left ≡ s * t.left + s = omega arith in
      omega (arith, lead, of_u, of_v, more, split)

  pub holds_or_fails : (r : Between) → NeverFails r u v ⊎ ((k : ℕ) × IsFirstFailure r u v k)
  holds_or_fails r = ⊎_elim
      (λ (l : turn.0.left < turn.0.right). by-relation r
      (λ e none. overtakes l (subst (λ b. (k : ℕ) → k < turn.0.start + (ones u turn.0.start + 1) * turn.0.letters → fails_at b u v k ≡ false) e none)))
      (λ (l : turn.0.right ≤ turn.0.left). keeps r (λ e. l))
      (cases_lt turn.0.left turn.0.right)
    where
      keeps : (r : Between) → (r ≡ Precedes → turn.0.right ≤ turn.0.left) → NeverFails r u v ⊎ ((k : ℕ) × IsFirstFailure r u v k)
      keeps r h = ⊎_elim inr (λ none. inl (never_fails u v turn.0 turn.1 r h none)) (first r (turn.0.start + turn.0.letters))

      by-relation : (r : Between) → (r ≡ Precedes → ((k : ℕ) → k < turn.0.start + (ones u turn.0.start + 1) * turn.0.letters → fails_at r u v k ≡ false) → ⊥) →
          NeverFails r u v ⊎ ((k : ℕ) × IsFirstFailure r u v k)
      by-relation Precedes h = ⊎_elim inr (λ none. absurd (h refl none)) (first Precedes (turn.0.start + (ones u turn.0.start + 1) * turn.0.letters))
      by-relation Subclock h = keeps Subclock (λ e. absurd (cc))
      by-relation Excludes h = keeps Excludes (λ e. absurd (cc))

-- A WORD ON ANOTHER
module _ (u v : BinaryWord) (inf_u : is_finite u ≡ false) (inf_v : is_finite v ≡ false) where
  abbrev IsBehind : ℕ → Type 0
  IsBehind k = (length u.prefix ≤ k) × (length v.prefix ≤ ones u k)

  le-or-not : (m n : ℕ) → (m ≤ n) ⊎ (m ≤ n → ⊥)
  le-or-not m n = ⊎_elim (λ (l : n < m). inr (λ h. omega (arith, l, h))) (λ (l : m ≤ n). inl l) (cases_lt n m)

  behind-or-not : (k : ℕ) → IsBehind k ⊎ (IsBehind k → ⊥)
  behind-or-not k = ⊎_elim
      (λ l. ⊎_elim (λ m. inl (l, m)) (λ no. inr (λ h. no h.1)) (le-or-not (length v.prefix) (ones u k)))
      (λ no. inr (λ h. no h.0))
      (le-or-not (length u.prefix) k)

  module _ (some : 0 < period_ones u) where
    place : IsLeastOne IsBehind (suc (length u.prefix + length v.prefix * length u.period))
    place =
        let n = length v.prefix in
        let e = ones-turns u (length u.prefix) (length u.period) (period_ones u) (repeats-period u inf_u) n (length u.prefix) (omega arith) in
        let grows : n * 1 ≤ n * period_ones u = mul-le-mul_left n some in
        least-of IsBehind behind-or-not (length u.prefix + n * length u.period) (omega arith, omega (arith, e, grows))

    behind : IsBehindBoth u v place.number
    behind = record {
      behind_left = place.holds.0;
      behind_right = place.holds.1;
      least = λ k l m. ⊎_elim (λ (b : k < place.number). absurd (place.least k b (l, m))) (λ (b : place.number ≤ k). b) (cases_lt k place.number);
    }

  -- the lengths of prefix and period
  record HasShape : Type 0 where
    p : ℕ
    q : ℕ
    some : 0 < q
    is : IsPlainShape u v p q

  shape : HasShape
  shape = ⊎_elim
      (λ (some : 0 < period_ones u).
      let g = has-gcd (length v.period) (period_ones u) in
      let pos = quotient_pos (period_ones u) (length v.period) g.0 (g.1.1, g.1.0, λ d a b. g.1.2 d b a) (infinite_len v inf_v) in
      record {
        p = (place some).number;
        q = length u.period * (length v.period / g.0);
        some = mul-pos (infinite_len u inf_u) pos;
        is = shape_turns (period_ones u) u v (place some).number (length u.period * (length v.period / g.0)) some (behind some) (g.0, g.1, refl);
      })
      (λ (none : period_ones u ≤ 0). record {
        p = length u.prefix;
        q = length u.period;
        some = infinite_len u inf_u;
        is = shape_still (period_ones u) u v (length u.prefix) (length u.period) (omega (arith, none)) refl refl;
      })
      (cases_lt 0 (period_ones u))

  pub has_word_on : HasWordOn u v
  has_word_on = record {
    len = shape.p + shape.q;
    plain = (shape.p, shape.q, shape.is, refl);
    word = spelled (on_letter u v) shape.p shape.q;
    is_on = spelled_on u v inf_u inf_v shape.p shape.q shape.some shape.is;
  }
