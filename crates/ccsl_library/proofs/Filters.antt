-- What the library's filters mean: they tick as `filter` does.
use Rattle.std.proofs.Common.{◌≡◌, ℕ, zero, suc, ◌+◌, ◌-◌, ◌<◌, ◌≤◌, ◌⊎◌, inl, inr, ⊎_elim, List, [], ◌∷◌, map, length, Bool, true, false, Option, Some, None}
use Rattle.std.proofs.Common.{refl, sym, ap, ◌∙◌, arith, nat_le, nat_eq, eqb-true, leb-true, le-leb, if◌then◌else◌}
use Rattle.std.proofs.lemmas.Bool.{or_cases, or_right, and_parts, cases_lt}
use Rattle.ccsl_base.specs.Clocks.{ticks_in}
use Rattle.ccsl_formula.specs.Formula.{FFalse, FVar, FNot, FAnd, eval}
use Rattle.ccsl_words.specs.Word.{BinaryWord, letter, rest, is_finite, has_ended}
use Rattle.ccsl_kernel.specs.declared.actual.Actual.TheVariants as actual
use Rattle.ccsl_kernel.specs.declared.expr.Value.TheVariants as value
use Rattle.ccsl_kernel.specs.Syntax.{Expression, System, root_of}
use Rattle.ccsl_kernel.specs.Actuals.{word_of}
use Rattle.ccsl_kernel.specs.Ticks.{ever}
use Rattle.ccsl_kernel.specs.Table.{Now, never_row, upto_row, await_row}
use Rattle.ccsl_kernel.specs.Lives.{Step, Life, steps, step_at, over_one, over_two, end_of, at_end, followed_by}
use Rattle.ccsl_kernel.specs.Meaning.{named, life_given}
use Rattle.ccsl_kernel.proofs.GuardedCalls.{AreGuarded}
use Rattle.ccsl_kernel.proofs.Steps.{find-none, find-some, find-within}
use Rattle.ccsl_kernel.proofs.TableHolds.{meaning_calls}
use Rattle.ccsl_kernel.proofs.Words.{letter-rest}
use Rattle.ccsl_kernel.proofs.Silent.{AreGoneQuiet}
use Rattle.ccsl_library.specs.Members.{filter_by, filter_by_root, own_clock, own_tail}
use Rattle.ccsl_library.proofs.Counts.{count-first, count-ever, count-split, ever-count, stays-gone}
use Rattle.ccsl_words.proofs.Letters.{past_finite}
use Rattle.ccsl_kernel.proofs.Counts.{count_from, count-next}

module _ (K : System) (T : List Step) (gone : ℕ → ℕ → Bool) (ok : AreGuarded K) (gone_quiet : AreGoneQuiet T gone)
    (in_K : 2 < length K.groups) (is : root_of K 2 0 ≡ filter_by_root) (c w : ℕ) where
  -- filter_by(c, w) again, under the rest of the word
  abbrev again : Expression
  again = filter_by own_clock own_tail

  -- whether c ticks
  abbrev tc : ℕ → Bool
  tc i = ticks_in c (step_at T i)

  -- filter_by under the word from o on
  abbrev L : ℕ → Life
  L o = life_given K T gone filter_by_root (actual.Clock c ∷ actual.Word w o ∷ [])

  -- the first letter: a tick of c with it ends the first life, and only that or the death of c
  record IsFirst (X : Life) (b : ℕ) (h : Bool) : Type 0 where
    ticks : (n : ℕ) → b ≤ n → count_from tc b n ≡ 0 → eval (X b n).formula (step_at T n) ≡ (if h then tc n else false)
    dies : (n : ℕ) → b ≤ n → (X b n).dead ≡ true → (gone n c ≡ true) ⊎ (1 ≤ count_from tc b n)
    dead : (n : ℕ) → b ≤ n → 1 ≤ count_from tc b n → (X b n).dead ≡ true

  abbrev A : Life
  A = over_one T (await_row 1) (named K T gone (actual.Clock c))

  abbrev U : Life
  U = over_two T upto_row (λ b n. never_row) (named K T gone (actual.Clock c))

  first_A : (b : ℕ) → IsFirst A b true
  first_A b = record {
    ticks = λ n l z. ap (λ k. eval (if nat_eq (suc k) 1 then FVar c else FFalse) (step_at T n)) z;
    dies = λ n l d. ⊎_elim (λ x. inl x) (λ x. inr (leb-true 1 (count_from tc b n) x)) (or_cases (gone n c) (nat_le 1 (count_from tc b n)) d);
    dead = λ n l x. or_right (gone n c) (nat_le 1 (count_from tc b n)) (le-leb 1 (count_from tc b n) x);
  }

  first_U : (b : ℕ) → IsFirst U b false
  first_U b = record {
    ticks = λ n l z. elim (ever (map tc (steps b n))) as (λ e. eval (if e then FFalse else FAnd FFalse (FNot (FVar c))) (step_at T n) ≡ false) [
      | true ↦ refl
      | false ↦ refl
    ];
    dies = λ n l d. inr (ever-count (map tc (steps b n)) d);
    dead = λ n l x. count-ever (map tc (steps b n)) x;
  }

  -- whether the filter from the offset o on ticks
  abbrev passes_at : ℕ → ℕ → ℕ → Bool
  passes_at o b n = if letter (word_of K.words w) (o + count_from tc b n) then tc n else false

  if_false : (t x : Bool) → x ≡ false → (if t then x else false) ≡ false
  if_false true x e = e
  if_false false x e = refl

  none_dead_yet : (X : Life) (b n : ℕ) (h : Bool) → IsFirst X b h → b ≤ n → ((i : ℕ) → suc b ≤ i → i < suc n → (X b i).dead ≡ false) → count_from tc b n ≡ 0
  none_dead_yet X b n h first l alive =
      ⊎_elim (λ (z : count_from tc b n < 1). omega arith)
      (λ (z : 1 ≤ count_from tc b n).
      ⊎_elim (λ (s : b < n). let d = first.dead n l z in let a = alive n s (omega arith) in let z' : ⊥ = cc in absurd z')
      (λ (s : n ≤ b). let s' : n ≡ b = omega arith in ap (count_from tc b) s' ∙ count-first tc b)
      (cases_lt b n))
      (cases_lt (count_from tc b n) 1)

  step : (X M : Life) (h : Bool) (o b n : ℕ) → IsFirst X b h → letter (word_of K.words w) o ≡ h → b ≤ n → n < length T →
      ((k : ℕ) → b < k → k ≤ n → eval (M k n).formula (step_at T n) ≡ passes_at (rest (word_of K.words w) o) k n) →
      eval (followed_by X M b n).formula (step_at T n) ≡ passes_at o b n
  step X M h o b n first is_h l u later = on (end_of X b n) refl
    where
      on : (e : Option ℕ) → end_of X b n ≡ e
          → eval (at_end e (record { formula = (X b n).formula; dead = false }) (λ k. M k n)).formula (step_at T n) ≡ passes_at o b n
      on None e =
          let z = none_dead_yet X b n h first l (find-none (λ k. (X b k).dead) (suc b) (suc n) e) in
          first.ticks n l z
          ∙ ap (λ t. if t then tc n else false) (sym is_h ∙ ap (letter (word_of K.words w)) (let s : o ≡ o + count_from tc b n = omega arith in s))
      on (Some zero) e = let r = find-within (λ k. (X b k).dead) (suc b) (suc n) zero e in let z : ⊥ = omega (arith, r.0) in absurd z
      on (Some (suc k)) e =
          let r = find-within (λ k. (X b k).dead) (suc b) (suc n) (suc k) e in
          let d = find-some (λ k. (X b k).dead) (suc b) (suc n) (suc k) e in
          later (suc k) r.0 (omega (arith, r.1))
          ∙ ⊎_elim
          (λ (x : gone (suc k) c ≡ true).
          let q = gone_quiet.quiet n c u (stays-gone T gone gone_quiet c (suc k) n (omega (arith, r.1)) u x) in
          if_false _ (tc n) q ∙ sym (if_false _ (tc n) q))
          (λ (x : 1 ≤ count_from tc b (suc k)).
          let before = none_dead_yet X b k h first (omega (arith, r.0)) d.1 in
          let one : count_from tc b (suc k) ≡ 1 = at_most_one b k (omega (arith, r.0)) before x in
          let all = count-split tc b (suc k) n (omega (arith, r.0)) (omega (arith, r.1)) in
          ap (λ t. if t then tc n else false)
          (letter-rest (word_of K.words w) o (count_from tc (suc k) n)
          ∙ ap (letter (word_of K.words w)) (let s : o + suc (count_from tc (suc k) n) ≡ o + count_from tc b n = omega (arith, one, all) in s)))
          (first.dies (suc k) (omega (arith, r.0)) d.0)
        where
          at_most_one : (b k : ℕ) → b ≤ k → count_from tc b k ≡ 0 → 1 ≤ count_from tc b (suc k) → count_from tc b (suc k) ≡ 1
          at_most_one b k l z x = by (tc k) (count-next tc b k l)
            where
              by : (t : Bool) → count_from tc b (suc k) ≡ (if t then suc (count_from tc b k) else count_from tc b k) → count_from tc b (suc k) ≡ 1
              by true e = e ∙ ap suc z
              by false e = omega arith

  -- FILTER_BY TICKS AS FILTER DOES
  pub filter_by-filter : (f o b n : ℕ) → length T - b < f → b ≤ n → n < length T →
      eval (life_given K T gone filter_by_root (actual.Clock c ∷ actual.Word w o ∷ []) b n).formula (step_at T n) ≡ passes_at o b n
  filter_by-filter zero o b n h l u = let z : ⊥ = omega arith in absurd z
  filter_by-filter (suc f) o b n h l u =
      pick (has_ended (word_of K.words w) o) refl (letter (word_of K.words w) o) refl
      (λ k l' u'.
      ap (λ (now : Now). eval now.formula (step_at T n))
      (meaning_calls K T gone ok 2 0 (value.Clock own_clock ∷ value.Word own_tail ∷ []) (actual.Clock c ∷ actual.Word w o ∷ []) in_K k n u' (omega arith))
      ∙ ap (λ e. eval (life_given K T gone e (actual.Clock c ∷ actual.Word w (rest (word_of K.words w) o) ∷ []) k n).formula (step_at T n)) is
      ∙ filter_by-filter f (rest (word_of K.words w) o) k n (omega arith) u' u)
    where
      pick : (ended : Bool) → has_ended (word_of K.words w) o ≡ ended → (head : Bool) → letter (word_of K.words w) o ≡ head →
          ((k : ℕ) → b < k → k ≤ n
          → eval (life_given K T gone again (actual.Clock c ∷ actual.Word w o ∷ []) k n).formula (step_at T n) ≡ passes_at (rest (word_of K.words w) o) k n)
          → eval ((if ended then (λ b n. never_row) else if head then followed_by A (life_given K T gone again (actual.Clock c ∷ actual.Word w o ∷ []))
          else followed_by U (life_given K T gone again (actual.Clock c ∷ actual.Word w o ∷ []))) b n).formula (step_at T n) ≡ passes_at o b n
      pick true e head e' later = sym (ap (λ t. if t then tc n else false) (over (word_of K.words w) (and_parts (is_finite (word_of K.words w)) _ e)))
        where
          over : (v : BinaryWord) → (is_finite v ≡ true) × (nat_eq o (length v.prefix) ≡ true) → letter v (o + count_from tc b n) ≡ false
          over v h = let at = eqb-true o (length v.prefix) h.1 in past_finite v (o + count_from tc b n) h.0 (omega arith)
      pick false e true e' later = step A (life_given K T gone again (actual.Clock c ∷ actual.Word w o ∷ [])) true o b n (first_A b) e' l u later
      pick false e false e' later = step U (life_given K T gone again (actual.Clock c ∷ actual.Word w o ∷ [])) false o b n (first_U b) e' l u later
