-- Counts are at most as many as the steps.
use Rattle.std.proofs.Common.{ℕ, zero, suc, ◌-◌, ◌≤◌, List, [], ◌∷◌, length, map, take, Bool, true, false, ap, arith, length-append}
use Rattle.std.proofs.lemmas.List.{length-map, length-take}
use Rattle.ccsl_base.specs.Clocks.{ticks_in}
use Rattle.ccsl_kernel.specs.Ticks.{count}
use Rattle.ccsl_kernel.specs.Lives.{Step, Life, steps, ticks_at, operand}
use Rattle.ccsl_kernel.specs.Items.{clock_count}
use Rattle.ccsl_kernel.proofs.Steps.{steps-suc, steps-empty, by_order}

pub count-length : (ts : List Bool) → count ts ≤ length ts
count-length [] = omega arith
count-length (true ∷ ts) = let l = count-length ts in omega arith
count-length (false ∷ ts) = let l = count-length ts in omega arith

length-steps : (b n : ℕ) → length (steps b n) ≤ n - b
length-steps b zero = omega arith
length-steps b (suc n) =
    by_order b n
    (λ l. let e = ap length (steps-suc b n l) in let ih = length-steps b n in omega (arith, e, length-append (steps b n) (n ∷ [])))
    (λ l. let e = ap length (steps-empty b (suc n) l) in omega arith)

pub clocks_bounded : (T : List Step) (x n : ℕ) → clock_count T x n ≤ n
clocks_bounded T x n = let l = count-length (map (ticks_in x) (take n T)) in omega (arith, length-map (take n T) (ticks_in x), length-take n T)

pub operands_bounded : (T : List Step) (L : Life) (b n : ℕ) → count (operand T L b n).ticks ≤ n - b
operands_bounded T L b n =
    let l = count-length (map (ticks_at T L b) (steps b n)) in let s = length-steps b n in omega (arith, length-map (steps b n) (ticks_at T L b))
