-- A formula for each number below a bound: that all are true.
use Rattle.std.proofs.Common.{⊎_elim, ◌≡◌, ℕ, zero, suc, ◌<◌, ◌≤◌, List, [], ◌∷◌, ◌++◌, map, true, sym, ap, ◌∙◌, subst, arith}
use Rattle.std.proofs.lemmas.Bool.{cases_lt}
use Rattle.ccsl_formula.specs.Formula.{Formula, truth}
use Rattle.ccsl_formula.specs.Truth.{Assignment}
use Rattle.ccsl_refute.specs.Meaning.{AllTrue}
use Rattle.ccsl_kernel.specs.Lives.{steps}
use Rattle.ccsl_kernel.proofs.Steps.{map-steps-suc}

AllTrue-push : (fs : List Formula) (f : Formula) (v : Assignment) → AllTrue fs v → truth f v ≡ true → AllTrue (fs ++ f ∷ []) v
AllTrue-push [] f v h t = (t, tt)
AllTrue-push (g ∷ fs) f v h t = (h.0, AllTrue-push fs f v h.1 t)

AllTrue-front : (fs : List Formula) (f : Formula) (v : Assignment) → AllTrue (fs ++ f ∷ []) v → AllTrue fs v × (truth f v ≡ true)
AllTrue-front [] f v h = (tt, h.0)
AllTrue-front (g ∷ fs) f v h = let r = AllTrue-front fs f v h.1 in ((h.0, r.0), r.1)

pub all_true : (f : ℕ → Formula) (n : ℕ) (v : Assignment) → ((i : ℕ) → i < n → truth (f i) v ≡ true) → AllTrue (map f (steps 0 n)) v
all_true f zero v h = tt
all_true f (suc n) v h =
    subst (λ (fs : List Formula). AllTrue fs v) (sym (map-steps-suc f 0 n (omega arith)))
    (AllTrue-push (map f (steps 0 n)) (f n) v (all_true f n v (λ i l. h i (omega arith))) (h n (omega arith)))

pub each_true : (f : ℕ → Formula) (n : ℕ) (v : Assignment) → AllTrue (map f (steps 0 n)) v → (i : ℕ) → i < n → truth (f i) v ≡ true
each_true f zero v h i l = let z : ⊥ = omega arith in absurd z
each_true f (suc n) v h i l =
    let parts = AllTrue-front (map f (steps 0 n)) (f n) v (subst (λ (fs : List Formula). AllTrue fs v) (map-steps-suc f 0 n (omega arith)) h) in
    ⊎_elim
    (λ (m : i < n). each_true f n v parts.0 i m)
    (λ (m : n ≤ i). let at : i ≡ n = omega arith in ap (λ k. truth (f k) v) at ∙ parts.1)
    (cases_lt i n)
