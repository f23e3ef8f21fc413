-- Where a trace is left.
use Rattle.std.specs.Prelude.{ℕ, ◌-◌, Bool, false, nat_eq}
use Rattle.ccsl_follow.specs.declared.until.Until.{Until}
use Rattle.ccsl_follow.specs.declared.until.Until.TheVariants.{Step, End}

abbrev pub is_left_at : Until → ℕ → Bool
is_left_at (Step last) step = nat_eq last step
is_left_at (End steps) step = false

-- the first of the last steps, which are 256 at most
abbrev pub first_of_last : Until → ℕ
first_of_last (Step steps) = steps - 256
first_of_last (End steps) = steps - 256
