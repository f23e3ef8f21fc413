-- The list of all sets of clocks below a bound has each of them, and no others.
use Rattle.std.proofs.Common.{⊎_elim, ◌≡◌, ℕ, zero, suc, ◌<◌, List, [], ◌∷◌, ◌++◌, map, Bool, true, false, if◌then◌else◌, inl, refl, sym, ap, ap₂, ◌∙◌, subst}
use Rattle.std.proofs.Common.{arith, le-ltb}
use Rattle.ccsl_base.specs.Clocks.{ticks_in, with_clock, is_ascending, are_below}
use Rattle.ccsl_kernel.specs.Lives.{Step}
use Rattle.ccsl_base.proofs.Ascending.{with_clock-last}
use Rattle.ccsl_kernel.proofs.Sets.{below, below-all, below-suc, below-below, ascending-last, are_below-last, are_below-more}
use Rattle.ccsl_items.specs.Admissible.{sets_below}
use Rattle.ccsl_items.proofs.Among.{Among, among-left, among-right, among-parts, among-map, map-among}

-- a set of clocks below m
pub record IsSetBelow (m : ℕ) (s : Step) : Type 0 where
  pub ascending : is_ascending s ≡ true
  pub below : are_below m s ≡ true

below-zero : (s : Step) → below 0 s ≡ []
below-zero [] = refl
below-zero (x ∷ s) = ap (λ b. if b then x ∷ below 0 s else below 0 s) (le-ltb x 0 (omega arith)) ∙ below-zero s

-- the members below a bound stand in the list
below-among : (m : ℕ) (s : Step) → is_ascending s ≡ true → Among (below m s) (sets_below m)
below-among zero s a = inl (sym (below-zero s))
below-among (suc m) s a = subst (λ r. Among r (sets_below (suc m))) (sym (below-suc m s a)) (on (ticks_in m s) (below-among m s a))
  where
    fronts : List Step
    fronts = sets_below m

    on : (t : Bool) → Among (below m s) (sets_below m) → Among (if t then with_clock m (below m s) else below m s) (sets_below (suc m))
    on true rest =
        subst (λ r. Among r (sets_below (suc m))) (sym (with_clock-last m (below m s) (below-below m s)))
        (among-right (below m s ++ m ∷ []) fronts (map (λ r. r ++ m ∷ []) fronts) (among-map (λ r. r ++ m ∷ []) (below m s) fronts rest))
    on false rest = among-left (below m s) fronts (map (λ r. r ++ m ∷ []) fronts) rest

pub set-among : (m : ℕ) (s : Step) → IsSetBelow m s → Among s (sets_below m)
set-among m s h = subst (λ r. Among r (sets_below m)) (below-all m s h.below) (below-among m s h.ascending)

pub among-set : (m : ℕ) (s : Step) → Among s (sets_below m) → IsSetBelow m s
among-set zero s a = ⊎_elim (λ e. subst (IsSetBelow 0) e (record { ascending = refl; below = refl })) (λ z. absurd z) a
among-set (suc m) s a =
    ⊎_elim
    (λ l. let h = among-set m s l in record { ascending = h.ascending; below = are_below-more m (suc m) s (omega arith) h.below })
    (λ r.
    let q = map-among (λ t. t ++ m ∷ []) s (sets_below m) r in
    let h = among-set m q.0 q.1 in
    subst (IsSetBelow (suc m)) q.2 (record { ascending = ascending-last m q.0 h.ascending h.below; below = are_below-last m q.0 h.below }))
    (among-parts s (sets_below m) (map (λ t. t ++ m ∷ []) (sets_below m)) a)

-- sets below m with the same members are one
pub one_set : (m : ℕ) (r s : Step) → IsSetBelow m r → IsSetBelow m s → ((x : ℕ) → x < m → ticks_in x r ≡ ticks_in x s) → r ≡ s
one_set m r s h g same = sym (below-all m r h.below) ∙ fronts m same ∙ below-all m s g.below
  where
    fronts : (n : ℕ) → ((x : ℕ) → x < n → ticks_in x r ≡ ticks_in x s) → below n r ≡ below n s
    fronts zero e = below-zero r ∙ sym (below-zero s)
    fronts (suc n) e =
        below-suc n r h.ascending
        ∙ ap₂ (λ t q. if t then with_clock n q else q) (e n (omega arith)) (fronts n (λ x l. e x (omega arith)))
        ∙ sym (below-suc n s g.ascending)
