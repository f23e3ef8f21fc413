-- A guide and the problem that it is for.
use Rattle.std.specs.Prelude.{◌≡◌, ℕ, length}
use Rattle.ccsl_guide.specs.declared.guide.Guide.{Guide}
use Rattle.ccsl_guide.specs.declared.problem.Problem.{Problem}

-- how many clocks the guide knows
abbrev pub clock_count : Guide → ℕ
clock_count g = length g.order.clocks.items

-- how many items it knows
abbrev pub item_count : Guide → ℕ
item_count g = length g.is_waiting.items

-- it knows the clocks and the items of the problem
pub record Fits (q : Problem) (g : Guide) : Type 0 where
  pub clocks : clock_count g ≡ q.scope.named
  pub items : item_count g ≡ length q.formulas.now
