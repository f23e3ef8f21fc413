-- An expression from its birth on, over a list of steps.
use Rattle.std.specs.Prelude.{ℕ, zero, suc, List, [], ◌∷◌, ◌++◌, Bool, false, Option, Some, None, slice_index_or, map, find, nat_le, if◌then◌else◌}
use Rattle.ccsl_formula.specs.Formula.{eval}
use Rattle.ccsl_kernel.specs.declared.expr.ExprOp.{ExprOp}
use Rattle.ccsl_kernel.specs.declared.expr.ExprOp.TheVariants as op
use Rattle.ccsl_kernel.specs.Table.{Now, Operand, union_row, inter_row, minus_row, inf_row, sup_row, upto_row, upto_weakly_row, sampled_row, sampled_weakly_row}

-- a step: the clocks that tick in it, in ascending order
abbrev pub Step : Type 0
Step = List ℕ

-- for each birth and each step from the birth on
abbrev pub Life : Type 0
Life = ℕ → ℕ → Now

-- the steps from b to n - 1
abbrev pub steps : ℕ → ℕ → List ℕ
steps b zero = []
steps b (suc n) = if nat_le b n then steps b n ++ n ∷ [] else []

-- the least step k with b < k ≤ n at which a life that was born at b is dead
abbrev pub end_of : Life → ℕ → ℕ → Option ℕ
end_of L b n = find (λ k. (L b k).dead) (steps (suc b) (suc n))

-- the first, where there is no end, and the second at the end where there is one
abbrev pub at_end : {A : Type 0} → Option ℕ → A → (ℕ → A) → A
at_end None before after = before
at_end (Some k) before after = after k

-- the first life until its end, not dead, and from then on the second one, born at that end
abbrev pub followed_by : Life → Life → Life
followed_by L M b n = at_end (end_of L b n) (record { formula = (L b n).formula; dead = false }) (λ k. M k n)

module _ (T : List Step) where
  -- the step number i
  abbrev pub step_at : ℕ → Step
  step_at i = slice_index_or T i []

  -- whether what was born at b ticks at i
  abbrev pub ticks_at : Life → ℕ → ℕ → Bool
  ticks_at L b i = eval (L b i).formula (step_at i)

  -- what a row reads at n of an operand that was born at b
  abbrev pub operand : Life → ℕ → ℕ → Operand
  operand L b n = let now = L b n in record { formula = now.formula; dead = now.dead; ticks = map (ticks_at L b) (steps b n) }

  -- a row over one operand, or two
  abbrev pub over_one : (Operand → Now) → Life → Life
  over_one row L b n = row (operand L b n)

  abbrev pub over_two : (Operand → Operand → Now) → Life → Life → Life
  over_two row L M b n = row (operand L b n) (operand M b n)

  -- the life of an operator of two operands
  abbrev pub joined : ExprOp → Life → Life → Life
  joined op.Union = over_two union_row
  joined op.Inter = over_two inter_row
  joined op.Minus = over_two minus_row
  joined op.Inf = over_two inf_row
  joined op.Sup = over_two sup_row
  joined op.Upto = over_two upto_row
  joined op.UptoWeakly = over_two upto_weakly_row
  joined op.Then = followed_by
  joined op.Sampled = over_two sampled_row
  joined op.SampledWeakly = over_two sampled_weakly_row
