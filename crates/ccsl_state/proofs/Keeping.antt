-- What a node keeps is what its row counts over all ticks, in fewer steps than a count can hold.
use Rattle.std.proofs.lemmas.Grind.{common_steps}
use Rattle.std.proofs.Common.{◌≡◌, ℕ, zero, suc, ◌+◌, ◌-◌, ◌<◌, ◌≤◌, List, [], ◌∷◌, ◌++◌, map, length, take, get_or, Bool, true}
use Rattle.std.proofs.Common.{false, not, ◌&&◌, ◌||◌, refl, sym, ap, ap₂, ◌∙◌, arith, nat_lt, nat_eq, nat_le, zero-add, replicate, if◌then◌else◌}
use Rattle.std.proofs.lemmas.List.{get_or-replicate, length-replicate}
use Rattle.std.proofs.Math.Seq.{take-length}
use Rattle.std.proofs.Math.Bool.{or_assoc, or-false}
use Rattle.ccsl_formula.specs.Formula.{Formula, FFalse}
use Rattle.ccsl_words.specs.Word.{BinaryWord, letter, rest, is_finite}
use Rattle.ccsl_words.proofs.Letters.{letter-rest, rest_at_end, rest_before_end}
use Rattle.ccsl_kernel.specs.Ticks.{count, ever, waits, waits_weakly, waits_since, waits_below}
use Rattle.ccsl_kernel.specs.Table.{Now, Operand, union_row, inter_row, minus_row, inf_row, sup_row, upto_row, upto_weakly_row, sampled_row, sampled_weakly_row}
use Rattle.ccsl_kernel.specs.Table.{delay_row, await_row, filter_row, delayed_row}
use Rattle.ccsl_state.specs.Tree.{most, bumped, One, Delaying, Awaiting, Filtering, Two, Uniting, Meeting, Lessening, Leading, Trailing, Ending, EndingWeakly}
use Rattle.ccsl_state.specs.Tree.{Sampling, SamplingWeakly, Lagging, one_formula, one_dead, one_next, two_formula, two_dead, two_next, shifted, set_first}
use Rattle.ccsl_state.specs.Tree.{any_set}
use Rattle.ccsl_base.proofs.Cases.{more_one}

-- a node after steps in which its operands ticked or did not
abbrev pub one_after : One → (ℕ → Bool) → List ℕ → One
one_after o t [] = o
one_after o t (i ∷ is) = one_after (one_next o (t i)) t is

abbrev pub two_after : Two → (ℕ → Bool) → (ℕ → Bool) → List ℕ → Two
two_after o t u [] = o
two_after o t u (i ∷ is) = two_after (two_next o (t i) (u i)) t u is

pub one_after-snoc : (o : One) (t : ℕ → Bool) (is : List ℕ) (n : ℕ) → one_after o t (is ++ n ∷ []) ≡ one_next (one_after o t is) (t n)
one_after-snoc o t [] n = refl
one_after-snoc o t (i ∷ is) n = one_after-snoc (one_next o (t i)) t is n

pub two_after-snoc : (o : Two) (t u : ℕ → Bool) (is : List ℕ) (n : ℕ) → two_after o t u (is ++ n ∷ []) ≡ two_next (two_after o t u is) (t n) (u n)
two_after-snoc o t u [] n = refl
two_after-snoc o t u (i ∷ is) n = two_after-snoc (two_next o (t i) (u i)) t u is n

-- a node's formula and death are its row, from the birth on
pub record IsOne (o : One) (row : Operand → Now) : Type 0 where
  pub at : (t : ℕ → Bool) (is : List ℕ) (f : Formula) (x : Bool) → length is ≤ most →
      (let N : Now = record { formula = one_formula (one_after o t is) f; dead = one_dead (one_after o t is) x } in N) ≡ row
      (record { formula = f; dead = x; ticks = map t is })

pub record IsTwo (o : Two) (row : Operand → Operand → Now) : Type 0 where
  pub at : (t u : ℕ → Bool) (is : List ℕ) (f g : Formula) (x y : Bool) → length is ≤ most →
      (let N : Now = record { formula = two_formula (two_after o t u is) f g; dead = two_dead (two_after o t u is) x y } in N) ≡ row
      (record { formula = f; dead = x; ticks = map t is }) (record { formula = g; dead = y; ticks = map u is })

-- the offset after so many letters
abbrev offset_after : BinaryWord → ℕ → List Bool → ℕ
offset_after w o [] = o
offset_after w o (t ∷ ts) = offset_after w (if t then rest w o else o) ts

counted : (c : ℕ) (t : Bool) (n k : ℕ) → c + suc k ≤ most → bumped t c + n ≡ c + (if t then suc n else n)
counted c t n k h = grind (arith, common_steps)

less : (c : ℕ) (t : Bool) (k : ℕ) → c + suc k ≤ most → bumped t c + k ≤ most
less c t k h = grind (arith, common_steps)

-- one that counts the ticks of its operand
counting : (node : ℕ → One) → ((c : ℕ) (t : Bool) → one_next (node c) t ≡ node (bumped t c)) → (c : ℕ) (t : ℕ → Bool) (is : List ℕ) → c + length is ≤ most
    → one_after (node c) t is ≡ node (c + count (map t is))
counting node next c t [] h = ap node (omega arith)
counting node next c t (i ∷ is) h =
    ap (λ o. one_after o t is) (next c (t i))
    ∙ counting node next (bumped (t i) c) t is (less c (t i) (length is) h)
    ∙ ap node (counted c (t i) (count (map t is)) (length is) h)

-- a filter's offset stands for the place of its next letter
filtered : (w : BinaryWord) (o k : ℕ) (t : ℕ → Bool) (is : List ℕ) →
    letter w (offset_after w o (map t is) + k) ≡ letter w (o + count (map t is) + k)
filtered w o k t [] = ap (letter w) (omega arith)
filtered w o k t (i ∷ is) = on (t i) (filtered w (rest w o) k t is) (filtered w o k t is)
  where
    on : (x : Bool) → letter w (offset_after w (rest w o) (map t is) + k) ≡ letter w (rest w o + count (map t is) + k) →
        letter w (offset_after w o (map t is) + k) ≡ letter w (o + count (map t is) + k)
        → letter w (offset_after w (if x then rest w o else o) (map t is) + k) ≡ letter w (o + (if x then suc (count (map t is)) else count (map t is)) + k)
    on true ticked still =
        ticked
        ∙ ap (letter w) (let e : rest w o + count (map t is) + k ≡ rest w o + (count (map t is) + k) = omega arith in e)
        ∙ letter-rest w o (count (map t is) + k)
        ∙ ap (letter w) (omega arith)
    on false ticked still = still

-- and where a finite word has ended, it has at the place
ended_rest : (w : BinaryWord) (o c : ℕ) → is_finite w ≡ true → nat_le (length w.prefix) (rest w o + c) ≡ nat_le (length w.prefix) (o + suc c)
ended_rest w o c fin = grind (arith, common_steps, rest_before_end, rest_at_end)

ended : (w : BinaryWord) (o : ℕ) (t : ℕ → Bool) (is : List ℕ) → is_finite w ≡ true →
    nat_le (length w.prefix) (offset_after w o (map t is)) ≡ nat_le (length w.prefix) (o + count (map t is))
ended w o t [] fin = ap (nat_le (length w.prefix)) (omega arith)
ended w o t (i ∷ is) fin = grind (arith, common_steps, ended w o t is fin, ended w (rest w o) t is fin, ended_rest)

where_finite : (fin x y : Bool) → (fin ≡ true → x ≡ y) → (fin && x) ≡ (fin && y)
where_finite true x y h = h refl
where_finite false x y h = refl

filtering : (w : BinaryWord) (o : ℕ) (t : ℕ → Bool) (is : List ℕ) → one_after (Filtering w o) t is ≡ Filtering w (offset_after w o (map t is))
filtering w o t [] = refl
filtering w o t (i ∷ is) = filtering w (if t i then rest w o else o) t is

pub await_is : (m : ℕ) → IsOne (Awaiting m 0) (await_row m)
await_is m = grind (arith, common_steps, counting (Awaiting m) (λ c t. refl), zero-add, more_one)

pub delay_is : (m : ℕ) → IsOne (Delaying m 0) (delay_row m)
delay_is m = grind (arith, common_steps, counting (Delaying m) (λ c t. refl), zero-add)

pub filter_is : (w : BinaryWord) (o : ℕ) → IsOne (Filtering w o) (filter_row w o)
filter_is w o = record {
  at = λ t is f x h.
      ap (λ k. record { formula = one_formula k f; dead = one_dead k x }) (filtering w o t is)
      ∙ ap₂ (λ letter ended. record { formula = if letter then f else FFalse; dead = x || ended })
      (ap (letter w) (omega arith) ∙ filtered w o 0 t is ∙ ap (letter w) (omega arith))
      (where_finite (is_finite w) _ _ (ended w o t is));
}

-- a node that keeps nothing
unchanged : (o : Two) → ((t u : Bool) → two_next o t u ≡ o) → (t u : ℕ → Bool) (is : List ℕ) → two_after o t u is ≡ o
unchanged o next t u [] = refl
unchanged o next t u (i ∷ is) = ap (λ o. two_after o t u is) (next (t i) (u i)) ∙ unchanged o next t u is

pub union_is : IsTwo Uniting union_row
union_is = grind (arith, common_steps, unchanged Uniting (λ t u. refl))

pub inter_is : IsTwo Meeting inter_row
inter_is = grind (arith, common_steps, unchanged Meeting (λ t u. refl))

pub minus_is : IsTwo Lessening minus_row
minus_is = grind (arith, common_steps, unchanged Lessening (λ t u. refl))

-- one that counts the ticks of both operands
both_counting : (node : ℕ → ℕ → Two) → ((a d : ℕ) (t u : Bool) → two_next (node a d) t u ≡ node (bumped t a) (bumped u d)) → (a d : ℕ) (t u : ℕ → Bool)
    (is : List ℕ) → a + length is ≤ most → d + length is ≤ most → two_after (node a d) t u is ≡ node (a + count (map t is)) (d + count (map u is))
both_counting node next a d t u [] h k = ap₂ node (omega arith) (omega arith)
both_counting node next a d t u (i ∷ is) h k =
    ap (λ o. two_after o t u is) (next a d (t i) (u i))
    ∙ both_counting node next (bumped (t i) a) (bumped (u i) d) t u is (less a (t i) (length is) h) (less d (u i) (length is) k)
    ∙ ap₂ node (counted a (t i) (count (map t is)) (length is) h) (counted d (u i) (count (map u is)) (length is) k)

pub inf_is : IsTwo (Leading 0 0) inf_row
inf_is = grind (arith, common_steps, both_counting Leading (λ a d t u. refl), zero-add)

pub sup_is : IsTwo (Trailing 0 0) sup_row
sup_is = grind (arith, common_steps, both_counting Trailing (λ a d t u. refl), zero-add)

-- one that is ended by a tick of its right operand
ending : (node : Bool → Two) → ((s t u : Bool) → two_next (node s) t u ≡ node (s || u)) → (s : Bool) (t u : ℕ → Bool) (is : List ℕ)
    → two_after (node s) t u is ≡ node (s || ever (map u is))
ending node next s t u [] = ap node (sym (or-false s))
ending node next s t u (i ∷ is) =
    ap (λ o. two_after o t u is) (next s (t i) (u i)) ∙ ending node next (s || u i) t u is ∙ ap node (or_assoc s (u i) (ever (map u is)))

pub upto_is : IsTwo (Ending false) upto_row
upto_is = grind (arith, common_steps, ending Ending (λ s t u. refl))

pub upto_weakly_is : IsTwo (EndingWeakly false) upto_weakly_row
upto_weakly_is = grind (arith, common_steps, ending EndingWeakly (λ s t u. refl))

-- w: the flag before, t and u: whether a and d tick now, e: whether d ticks later, v: whether a later tick of a waits in the end
sampled_flag : (w t u e v : Bool) → (v || ((t || (w && not u)) && not e)) ≡ (((t && not e) || v) || (w && not (u || e)))
sampled_flag w t u e v = grind arith

pub sampling : (w : Bool) (t u : ℕ → Bool) (is : List ℕ)
    → two_after (Sampling w) t u is ≡ Sampling (waits (map t is) (map u is) || (w && not (ever (map u is))))
sampling w t u [] = ap Sampling (elim w as (λ w. w ≡ (false || (w && true))) [ true ↦ refl | false ↦ refl ])
sampling w t u (i ∷ is) = sampling (t i || (w && not (u i))) t u is ∙ ap Sampling (sampled_flag w (t i) (u i) (ever (map u is)) (waits (map t is) (map u is)))

pub sampled_is : IsTwo (Sampling false) sampled_row
sampled_is = grind (arith, common_steps, sampling, or-false)

weak_flag : (w t u e v : Bool) → (v || (((t || w) && not u) && not e)) ≡ (((t && not (u || e)) || v) || (w && not (u || e)))
weak_flag w t u e v = grind arith

pub sampling_weakly : (w : Bool) (t u : ℕ → Bool) (is : List ℕ)
    → two_after (SamplingWeakly w) t u is ≡ SamplingWeakly (waits_weakly (map t is) (map u is) || (w && not (ever (map u is))))
sampling_weakly w t u [] = ap SamplingWeakly (elim w as (λ w. w ≡ (false || (w && true))) [ true ↦ refl | false ↦ refl ])
sampling_weakly w t u (i ∷ is) =
    sampling_weakly ((t i || w) && not (u i)) t u is ∙ ap SamplingWeakly (weak_flag w (t i) (u i) (ever (map u is)) (waits_weakly (map t is) (map u is)))

pub sampled_weakly_is : IsTwo (SamplingWeakly false) sampled_weakly_row
sampled_weakly_is = grind (arith, common_steps, sampling_weakly, or-false)

-- the places of a row of marks after steps
abbrev pub marks_after : List Bool → (ℕ → Bool) → (ℕ → Bool) → List ℕ → List Bool
marks_after q t u [] = q
marks_after q t u (i ∷ is) = marks_after (set_first (t i) (if u i then shifted false q else q)) t u is

pub lagging : (m : ℕ) (q : List Bool) (t u : ℕ → Bool) (is : List ℕ) → two_after (Lagging m q) t u is ≡ Lagging m (marks_after q t u is)
lagging m q t u [] = refl
lagging m q t u (i ∷ is) = lagging m (set_first (t i) (if u i then shifted false q else q)) t u is

length-shifted : (f : Bool) (q : List Bool) → length (shifted f q) ≡ length q
length-shifted f [] = refl
length-shifted f (x ∷ q) = ap suc (length-shifted x q)

get_shifted : (f : Bool) (q : List Bool) (j : ℕ) → j < length q → get_or (shifted f q) j false ≡ get_or (f ∷ q) j false
get_shifted f [] j l = let z : ⊥ = omega arith in absurd z
get_shifted f (x ∷ q) zero l = refl
get_shifted f (x ∷ q) (suc j) l = get_shifted x q j (omega arith)

any_shifted : (f : Bool) (q : List Bool) (n : ℕ) → n ≤ length q → any_set (take n (shifted f q)) ≡ any_set (take n (f ∷ q))
any_shifted f q zero l = refl
any_shifted f [] (suc n) l = absurd (omega (arith, l))
any_shifted f (x ∷ q) (suc n) l = ap (λ y. f || y) (any_shifted x q n (omega (arith, l)))

-- the marks after one step
abbrev marked : Bool → Bool → List Bool → List Bool
marked t u q = set_first t (if u then shifted false q else q)

length-marked : (t u : Bool) (q : List Bool) → length (marked t u q) ≡ length q
length-marked t u [] = elim u as (λ u. length (marked t u []) ≡ 0) [ true ↦ refl | false ↦ refl ]
length-marked t true (x ∷ q) = ap suc (length-shifted x q)
length-marked t false (x ∷ q) = refl

later : (t : Bool) (k : ℕ) (at : ℕ → Bool) → at k ≡ ((t && nat_eq (suc k) 0) || (nat_lt 0 (suc k) && at (suc k - 1)))
later t k at = grind (arith, common_steps)

-- a mark that stood so many places before: the first place is marked where a ticks
get_marked : (t u : Bool) (q : List Bool) (k : ℕ) → k < length q
    → get_or (marked t u q) k false ≡ ((t && nat_eq k 0) || (if u then nat_lt 0 k && get_or q (k - 1) false else get_or q k false))
get_marked t u [] k l = absurd (omega (arith, l))
get_marked true true (x ∷ q) zero l = refl
get_marked false true (x ∷ q) zero l = refl
get_marked t true (x ∷ q) (suc k) l = get_shifted x q k (omega (arith, l)) ∙ later t k (λ k. get_or (x ∷ q) k false)
get_marked true false (x ∷ q) zero l = refl
get_marked false false (x ∷ q) zero l = refl
get_marked t false (x ∷ q) (suc k) l = grind (arith, common_steps)

any_marked : (t u : Bool) (q : List Bool) (n : ℕ) → n ≤ length q
    → any_set (take n (marked t u q)) ≡ ((t && nat_lt 0 n) || any_set (take (if u then n - 1 else n) q))
any_marked t u q zero l = grind (arith, common_steps)
any_marked t u [] (suc n) l = absurd (omega (arith, l))
any_marked t true (x ∷ q) (suc n) l = grind (arith, common_steps, any_shifted)
any_marked t false (x ∷ q) (suc n) l = grind (arith, common_steps)

-- a place is marked by a tick of a since the birth, or by a mark from before
get_marks : (q : List Bool) (t u : ℕ → Bool) (is : List ℕ) (j : ℕ) → j < length q → get_or (marks_after q t u is) j false
    ≡ (waits_since j (map t is) (map u is) || (nat_le (count (map u is)) j && get_or q (j - count (map u is)) false))
get_marks q t u [] j l = grind (arith, common_steps)
get_marks q t u (i ∷ is) j l = grind (arith, common_steps, get_marks (marked (t i) (u i) q) t u is j, get_marked, length-marked)

any_marks : (q : List Bool) (t u : ℕ → Bool) (is : List ℕ)
    → any_set (marks_after q t u is) ≡ (waits_below (length q) (map t is) (map u is) || any_set (take (length q - count (map u is)) q))
any_marks q t u [] = grind (arith, common_steps, take-length)
any_marks q t u (i ∷ is) = grind (arith, common_steps, any_marks (marked (t i) (u i) q) t u is, any_marked, length-marked)

any_none : (n m : ℕ) → any_set (take n (replicate m false)) ≡ false
any_none zero m = refl
any_none (suc n) zero = refl
any_none (suc n) (suc m) = any_none n m

pub delayed_is : (m : ℕ) → 1 ≤ m → IsTwo (Lagging m (replicate m false)) (delayed_row m)
delayed_is m pos = grind (arith, common_steps, lagging, get_marks, any_marks, any_none, get_or-replicate, length-replicate)
