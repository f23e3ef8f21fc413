-- The rows of the table hold of the meaning, and only the steps before n matter to it at n.
use Rattle.std.proofs.Common.{◌≡◌, ℕ, suc, ◌<◌, ◌≤◌, List, map, length, Bool, refl, arith}
use Rattle.ccsl_kernel.specs.declared.actual.Actual.{Actual}
use Rattle.ccsl_kernel.specs.Syntax.{Expression, System}
use Rattle.ccsl_kernel.specs.Lives.{Step, step_at}
use Rattle.ccsl_kernel.specs.Actuals.{value_of}
use Rattle.ccsl_kernel.specs.Meaning.{bodies, call_depth, life_given}
use Rattle.ccsl_kernel.specs.Guarded.{Inner, Allowed}
use Rattle.ccsl_kernel.specs.Rows.{IsTable, CallsAreBodies}
use Rattle.ccsl_kernel.proofs.GuardedCalls.{AreGuarded}
use Rattle.ccsl_kernel.proofs.Agree.{unique, bodies_agree, life_rows}

-- THE ROWS HOLD OF THE MEANING: those of the operators
pub meaning_rows : (K : System) (T : List Step) (gone : ℕ → ℕ → Bool) → IsTable K T gone (life_given K T gone)
meaning_rows K T gone = life_rows K T gone (bodies K T gone (call_depth K T gone))

-- and that of calls, in a system whose calls are guarded
pub meaning_calls : (K : System) (T : List Step) (gone : ℕ → ℕ → Bool) → AreGuarded K → CallsAreBodies K T (life_given K T gone)
meaning_calls K T gone ok group member args ρ g b n l u =
    (bodies_agree K T T (length T) (omega arith) (omega arith) (λ i h. refl) gone gone (λ n x h. refl) ok (call_depth K T gone) (suc (call_depth K T gone))
    group member (map (value_of K.words ρ) args) b (omega (arith, g, l, u)) (omega (arith, g, l, u)) (omega (arith, l, u))).at n l u

-- only the steps before n matter
pub first_steps_matter : (K : System) (T T' : List Step) (gone gone' : ℕ → ℕ → Bool) → AreGuarded K →
    (e : Expression) (ρ : List Actual) (b n : ℕ) → Allowed (length K.groups) Inner e → b ≤ n → n ≤ length T → n ≤ length T' →
    ((i : ℕ) → i < n → step_at T i ≡ step_at T' i) → ((i x : ℕ) → i ≤ n → gone i x ≡ gone' i x) →
    life_given K T gone e ρ b n ≡ life_given K T' gone' e ρ b n
first_steps_matter K T T' gone gone' ok e ρ b n ok_e l u u' same same_gone =
    (unique K T T' n u u' same gone gone' same_gone (life_given K T gone) (life_given K T' gone') (meaning_rows K T gone) (meaning_rows K T' gone') ok
    (meaning_calls K T gone ok) (meaning_calls K T' gone' ok) e ρ b ok_e l).at n l (omega arith)
