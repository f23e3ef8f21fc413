-- How often something holds from one step to before another.
use Rattle.std.proofs.Common.{◌≡◌, ℕ, suc, ◌≤◌, map, Bool, ap, ◌∙◌, if◌then◌else◌}
use Rattle.ccsl_kernel.specs.Ticks.{count}
use Rattle.ccsl_kernel.specs.Lives.{steps}
use Rattle.ccsl_kernel.proofs.Steps.{map-steps-suc, steps-empty}
use Rattle.ccsl_kernel.proofs.Quiet.{count-snoc}

-- how often t holds from b to n - 1
abbrev pub count_from : (ℕ → Bool) → ℕ → ℕ → ℕ
count_from t b n = count (map t (steps b n))

pub count-none : (t : ℕ → Bool) (b n : ℕ) → n ≤ b → count_from t b n ≡ 0
count-none t b n l = ap (λ xs. count (map t xs)) (steps-empty b n l)

pub count-next : (t : ℕ → Bool) (b n : ℕ) → b ≤ n → count_from t b (suc n) ≡ (if t n then suc (count_from t b n) else count_from t b n)
count-next t b n l = ap count (map-steps-suc t b n l) ∙ count-snoc (map t (steps b n)) (t n)
