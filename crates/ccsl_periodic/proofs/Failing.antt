-- Where two words that repeat together fail one another.
use Rattle.std.proofs.Common.{◌≡◌, ℕ, zero, suc, ◌+◌, ◌-◌, ◌*◌, ◌/◌, ◌%◌, ◌<◌, ◌≤◌, ◌≢◌, min, Bool, true, false, not, ◌&&◌, refl, sym, ap, ap₂, ◌∙◌, subst}
use Rattle.std.proofs.Common.{arith, ⊎_elim, nat_eq, eqb-true, eq-eqb}
use Rattle.std.specs.Int.{div_ceil}
use Rattle.std.proofs.lemmas.Bool.{cases_Bool, cases_lt, and_parts, and_from, false_from_ne_true, both_ways}
use Rattle.std.proofs.lemmas.Grind.{div_ceil_times}
use Rattle.std.proofs.Math.Nat.{mul-le-mul_left, mul-le-mul_right}
use Rattle.ccsl_words.specs.Word.{BinaryWord, letter}
use Rattle.ccsl_periodic.specs.declared.between.Between.{Between}
use Rattle.ccsl_periodic.specs.declared.between.Between.TheVariants.{Precedes, Subclock, Excludes}
use Rattle.ccsl_periodic.specs.declared.turn.Turn.{Turn}
use Rattle.ccsl_periodic.specs.Ones.{ones}
use Rattle.ccsl_periodic.specs.Failures.{fails_at, IsFirstFailure, NeverFails}
use Rattle.ccsl_periodic.specs.Turns.{IsTurn, overtaken_at}
use Rattle.ccsl_periodic.proofs.Counts.{as_number, ones-suc, ones-more, ones-monotone}
use Rattle.ccsl_periodic.proofs.Turning.{letter-turns, ones-turns}

-- ARITHMETIC
lead_by : (a b s U D : ℕ) → a + s * U ≡ b + s * (U + D) → a - b ≡ s * D
lead_by a b s U D e = omega arith

-- the lead of a over b where it is lost after s turns
lead_lost : (a b s U V : ℕ) → U < V → a + s * U ≡ b + s * V → a - b ≡ s * (V - U)
lead_lost a b s U V l e = lead_by a b s U (V - U) (e ∙ ap (λ n. b + s * n) (let r : V ≡ U + (V - U) = omega arith in r))

ceil_exact : (a s D : ℕ) → 0 < D → a ≡ s * D → div_ceil a D ≤ s
ceil_exact a s D pos e =
    ⊎_elim
    (λ (l : s < div_ceil a D).
    let most = (div_ceil_times a D pos).1 in
    let above : suc s ≤ div_ceil a D = omega arith in
    let least = mul-le-mul_right D above in
    absurd (omega (arith, e)))
    (λ (l : div_ceil a D ≤ s). l)
    (cases_lt s (div_ceil a D))

-- a lead that is covered by t turns and is not negative after them is lost exactly
lost_by : (a b t U D : ℕ) → a - b ≤ t * D → b + t * (U + D) ≤ a + t * U → a + t * U ≡ b + t * (U + D)
lost_by a b t U D most least = omega arith

lost_exactly : (a b t U V : ℕ) → U < V → a - b ≤ t * (V - U) → b + t * V ≤ a + t * U → a + t * U ≡ b + t * V
lost_exactly a b t U V l most least =
    let r : V ≡ U + (V - U) = omega arith in
    lost_by a b t U (V - U) most (subst (λ n. b + t * n ≤ a + t * U) r least) ∙ ap (λ n. b + t * n) (sym r)

-- a place behind the start is a place of the first turn and some turns
record IsPlaced (start turn i : ℕ) : Type 0 where
  place : ℕ
  turns : ℕ
  from : start ≤ place
  within : place < start + turn
  is : i ≡ place + turns * turn

placed : (start turn i : ℕ) → 0 < turn → start ≤ i → IsPlaced start turn i
placed start turn i pos l =
    let q = (i - start) / turn in
    let r = (i - start) % turn in
    let whole : q * turn + r ≡ i - start = omega arith in
    let small : r < turn = omega arith in
    record { place = start + r; turns = q; from = omega arith; within = omega arith; is = omega arith }

module _ (u v : BinaryWord) where
  -- PRECEDENCE at a place
  pub precedes_fails : (k : ℕ) → letter v k ≡ true → ones u k ≡ ones v k → fails_at Precedes u v k ≡ true
  precedes_fails k l e = and_from (letter v k) (nat_eq (ones u k) (ones v k)) l (eq-eqb (ones u k) (ones v k) e)

  pub failed_precedence : (k : ℕ) → fails_at Precedes u v k ≡ true → (letter v k ≡ true) × (ones u k ≡ ones v k)
  failed_precedence k f =
      let parts = and_parts (letter v k) (nat_eq (ones u k) (ones v k)) f in
      (parts.0, eqb-true (ones u k) (ones v k) parts.1)

  -- as long as precedence has not failed, u has as many ones as v or more
  pub leads : (k : ℕ) → ((j : ℕ) → j < k → fails_at Precedes u v j ≡ false) → ones v k ≤ ones u k
  leads zero none = omega arith
  leads (suc k) none =
      let ih = leads k (λ j l. none j (omega arith)) in
      let mono = ones-monotone u k (suc k) (omega arith) in
      ⊎_elim
      (λ (ticks : letter v k ≡ true).
      let apart : ones u k ≡ ones v k → ⊥ = λ e. both_ways (fails_at Precedes u v k) (none k (omega arith)) (precedes_fails k ticks e) in
      omega (arith, ih, mono, apart, ones-suc v k, ap as_number ticks))
      (λ (rests : letter v k ≡ false). omega (arith, ih, mono, ones-suc v k, ap as_number rests))
      (cases_Bool (letter v k))

module _ (u v : BinaryWord) (t : Turn) (is : IsTurn u v t) where
  letter_u : (s j : ℕ) → t.start ≤ j → letter u (j + s * t.letters) ≡ letter u j
  letter_u = letter-turns u t.start t.letters t.left is.left

  letter_v : (s j : ℕ) → t.start ≤ j → letter v (j + s * t.letters) ≡ letter v j
  letter_v = letter-turns v t.start t.letters t.right is.right

  ones_u : (s j : ℕ) → t.start ≤ j → ones u (j + s * t.letters) ≡ ones u j + s * t.left
  ones_u = ones-turns u t.start t.letters t.left is.left

  ones_v : (s j : ℕ) → t.start ≤ j → ones v (j + s * t.letters) ≡ ones v j + s * t.right
  ones_v = ones-turns v t.start t.letters t.right is.right

  -- a fact that does not hold below the end of the first turn, nor some turns later unless it holds before, never holds
  nowhere : (f : ℕ → Bool) → ((j : ℕ) → j < t.start + t.letters → f j ≡ false) →
      ((j s : ℕ) → t.start ≤ j → j < t.start + t.letters → f (j + s * t.letters) ≡ true → f j ≡ true) → (k : ℕ) → f k ≡ false
  nowhere f below back k =
      ⊎_elim
      (λ (l : k < t.start). below k (omega arith))
      (λ (l : t.start ≤ k).
      let at = placed t.start t.letters k is.some l in
      false_from_ne_true (f k) (λ h. both_ways (f at.place) (below at.place at.within) (back at.place at.turns at.from at.within (sym (ap f at.is) ∙ h))))
      (cases_lt k t.start)

  pub never_subclock : ((j : ℕ) → j < t.start + t.letters → fails_at Subclock u v j ≡ false) → NeverFails Subclock u v
  never_subclock below = nowhere (fails_at Subclock u v) below
      (λ j s l w h. ap₂ (λ (a b : Bool). a && not b) (sym (letter_u s j l)) (sym (letter_v s j l)) ∙ h)

  pub never_excludes : ((j : ℕ) → j < t.start + t.letters → fails_at Excludes u v j ≡ false) → NeverFails Excludes u v
  never_excludes below = nowhere (fails_at Excludes u v) below
      (λ j s l w h. ap₂ (λ (a b : Bool). a && b) (sym (letter_u s j l)) (sym (letter_v s j l)) ∙ h)

  -- where u has as many ones in a turn as v, its lead does not fall
  pub never_precedes : t.right ≤ t.left → ((j : ℕ) → j < t.start + t.letters → fails_at Precedes u v j ≡ false) → NeverFails Precedes u v
  never_precedes keeps below = nowhere (fails_at Precedes u v) below back
    where
      back : (j s : ℕ) → t.start ≤ j → j < t.start + t.letters → fails_at Precedes u v (j + s * t.letters) ≡ true → fails_at Precedes u v j ≡ true
      back j s l w h =
          let failed = failed_precedence u v (j + s * t.letters) h in
          let lead = leads u v j (λ i l. below i (omega arith)) in
          let more = mul-le-mul_left s keeps in
          let same : ones u j ≡ ones v j = omega (arith, failed.1, lead, more, ones_u s j l, ones_v s j l) in
          precedes_fails u v j (sym (letter_v s j l) ∙ failed.0) same

  pub never_fails : (r : Between) → (r ≡ Precedes → t.right ≤ t.left) → ((j : ℕ) → j < t.start + t.letters → fails_at r u v j ≡ false) → NeverFails r u v
  never_fails Precedes keeps below = never_precedes (keeps refl) below
  never_fails Subclock keeps below = never_subclock below
  never_fails Excludes keeps below = never_excludes below

  -- THE LEAST PLACE OF OVERTAKING is the first failure, where v has more ones in a turn
  pub overtaking_is_first : (first : ℕ) → t.left < t.right → ((k : ℕ) → k < t.start → fails_at Precedes u v k ≡ false) →
      ((j : ℕ) → t.start ≤ j → j < t.start + t.letters → letter v j ≡ true → first ≤ overtaken_at u v t j) →
      (place : ℕ) → t.start ≤ place → letter v place ≡ true → first ≡ overtaken_at u v t place → IsFirstFailure Precedes u v first
  overtaking_is_first first gains before least place from ticks is_first = record { fails = fails; least = none }
    where
      refuted : (i : ℕ) → i < first → t.start ≤ i → fails_at Precedes u v i ≡ true → ⊥
      refuted i below l h =
          let at = placed t.start t.letters i is.some l in
          let j = at.place in
          let s = at.turns in
          let failed = failed_precedence u v (j + s * t.letters) (sym (ap (fails_at Precedes u v) at.is) ∙ h) in
          let sums : ones u j + s * t.left ≡ ones v j + s * t.right = sym (ones_u s j at.from) ∙ failed.1 ∙ ones_v s j at.from in
          let lead = lead_lost (ones u j) (ones v j) s t.left t.right gains sums in
          let turns = ceil_exact (ones u j - ones v j) s (t.right - t.left) (omega arith) lead in
          let far = mul-le-mul_right t.letters turns in
          let most = least j at.from at.within (sym (letter_v s j at.from) ∙ failed.0) in
          omega (arith, most, far, at.is, below)

      none : (i : ℕ) → i < first → fails_at Precedes u v i ≡ false
      none i below =
          ⊎_elim
          (λ (l : i < t.start). before i l)
          (λ (l : t.start ≤ i). false_from_ne_true (fails_at Precedes u v i) (refuted i below l))
          (cases_lt i t.start)

      fails : fails_at Precedes u v first ≡ true
      fails =
          let turns = div_ceil (ones u place - ones v place) (t.right - t.left) in
          let at : first ≡ place + turns * t.letters = is_first in
          let lead : ones v place + turns * t.right ≤ ones u place + turns * t.left =
          subst (λ n. n ≤ ones u place + turns * t.left) (ones_v turns place from)
          (subst (λ n. ones v (place + turns * t.letters) ≤ n) (ones_u turns place from)
          (leads u v (place + turns * t.letters) (λ j l. none j (omega (arith, at, l))))) in
          let most : ones u place - ones v place ≤ turns * (t.right - t.left) =
          (div_ceil_times (ones u place - ones v place) (t.right - t.left) (omega arith)).0 in
          let sums = lost_exactly (ones u place) (ones v place) turns t.left t.right gains most lead in
          ap (fails_at Precedes u v) at
          ∙ precedes_fails u v (place + turns * t.letters) (letter_v turns place from ∙ ticks) (ones_u turns place from ∙ sums ∙ sym (ones_v turns place from))

-- BOUNDS of the least place of overtaking
pub ceil_le : (a D : ℕ) → 0 < D → div_ceil a D ≤ a
ceil_le a D pos =
    ⊎_elim
    (λ (l : a < div_ceil a D).
    let most = (div_ceil_times a D pos).1 in
    let above : suc a ≤ div_ceil a D = omega arith in
    let least = mul-le-mul_right D above in
    let grows = mul-le-mul_left a pos in
    absurd (omega arith))
    (λ (l : div_ceil a D ≤ a). l)
    (cases_lt a (div_ceil a D))

pub turns_small : (a b D k : ℕ) → 0 < D → a ≤ k → div_ceil (a - b) D ≤ k
turns_small a b D k pos l = omega (arith, ceil_le (a - b) D pos)

-- WHAT IS KNOWN of the least place of overtaking so far, the greatest number where there is none, and one more place
module _ (u v : BinaryWord) (t : Turn) where
  abbrev IsLeast : ℕ → ℕ → Type 0
  IsLeast first end = (j : ℕ) → t.start ≤ j → j < end → letter v j ≡ true → first ≤ overtaken_at u v t j

  pub record IsFound (first : ℕ) : Type 0 where
    pub place : ℕ
    pub from : t.start ≤ place
    pub ticks : letter v place ≡ true
    pub is : first ≡ overtaken_at u v t place

  pub record IsSoFar (first end : ℕ) : Type 0 where
    pub least : (j : ℕ) → t.start ≤ j → j < end → letter v j ≡ true → first ≤ overtaken_at u v t j
    pub most : first ≤ 18446744073709551615
    pub none : first ≡ 18446744073709551615 → ones v end ≡ ones v t.start
    pub found : first ≢ 18446744073709551615 → IsFound first

  pub at_start : (k : ℕ) → k ≡ t.start → IsSoFar 18446744073709551615 k
  at_start k e = record { least = λ j l w ticks. absurd (omega arith); most = omega arith; none = λ _. ap (ones v) e; found = λ ne. absurd (ne refl) }

  least_rests : (first k : ℕ) → IsLeast first k → letter v k ≡ false → IsLeast first (k + 1)
  least_rests first k least rests j l w ticks =
      ⊎_elim
      (λ (b : j < k). least j l b ticks)
      (λ (b : k ≤ j). let same : j ≡ k = omega arith in absurd (both_ways (letter v k) rests (sym (ap (letter v) same) ∙ ticks)))
      (cases_lt j k)

  least_ticks : (first more k : ℕ) → IsLeast first k → more ≤ first → more ≤ overtaken_at u v t k → IsLeast more (k + 1)
  least_ticks first more k least below here j l w ticks =
      ⊎_elim
      (λ (b : j < k). let most = least j l b ticks in omega (arith, most, below))
      (λ (b : k ≤ j). let same : k ≡ j = omega arith in subst (λ n. more ≤ overtaken_at u v t n) same here)
      (cases_lt j k)

  found_ticks : (first k : ℕ) → t.start ≤ k → letter v k ≡ true → (first ≢ 18446744073709551615 → IsFound first) → overtaken_at u v t k < 18446744073709551615 →
      IsFound (min first (overtaken_at u v t k))
  found_ticks first k l ticks found small =
      let here = overtaken_at u v t k in
      ⊎_elim
      (λ (b : first < here).
      let same : first ≡ min first here = omega arith in
      subst IsFound same (found (λ e. omega arith)))
      (λ (b : here ≤ first).
      let same : min first here ≡ here = omega arith in
      record { place = k; from = l; ticks = ticks; is = same })
      (cases_lt first here)

  pub one_rests : (first k : ℕ) → letter v k ≡ false → IsSoFar first k → IsSoFar first (k + 1)
  one_rests first k rests so_far = record {
    least = least_rests first k so_far.least rests;
    most = so_far.most;
    none = λ e. ones-more v k ∙ (let r = ap as_number rests in omega (arith, r, so_far.none e));
    found = so_far.found;
  }

  pub one_ticks : (first k : ℕ) → t.start ≤ k → letter v k ≡ true → overtaken_at u v t k < 18446744073709551615 → IsSoFar first k →
      IsSoFar (min first (overtaken_at u v t k)) (k + 1)
  one_ticks first k l ticks small so_far =
      let more = min first (overtaken_at u v t k) in
      record {
        least = least_ticks first more k so_far.least (omega arith) (omega arith);
        most = omega (arith, so_far.most);
        none = λ e. absurd (omega (arith, e, small));
        found = λ _. found_ticks first k l ticks so_far.found small;
      }

  -- AT THE END OF THE TURN there is one, since the right word gains, and it is the first failure
  pub so_far_is_small : (first end : ℕ) → IsTurn u v t → t.left < t.right → end ≡ t.start + t.letters → IsSoFar first end →
      first < 18446744073709551615
  so_far_is_small first end is gains at so_far =
      let ticked : first ≢ 18446744073709551615 = λ e. omega (arith, gains, so_far.none e, ap (ones v) at, is.right.ones t.start (omega arith)) in
      omega (arith, ticked, so_far.most)

  pub so_far_is_first : (first end : ℕ) → IsTurn u v t → t.left < t.right → ((k : ℕ) → k < t.start → fails_at Precedes u v k ≡ false) →
      end ≡ t.start + t.letters → IsSoFar first end → IsFirstFailure Precedes u v first
  so_far_is_first first end is gains before at so_far =
      let small = so_far_is_small first end is gains at so_far in
      let found = so_far.found (λ e. omega (arith, small, e)) in
      overtaking_is_first u v t is first gains before (λ j l w. so_far.least j l (omega (arith, at, w))) found.place found.from found.ticks found.is
