-- The verdict, from the first violation of all items.
use Rattle.std.proofs.lemmas.Grind.{common_steps}
use Rattle.std.proofs.Common.{◌≡◌, ℕ, List, length, arith, Option}
use Rattle.ccsl_base.specs.declared.rows.Row.{Row}
use Rattle.ccsl_kernel.specs.Syntax.{System, item_count}
use Rattle.ccsl_kernel.specs.Verdict.{Run, Violated, verdict}
use Rattle.ccsl_kernel.proofs.FirstViolation.{verdict-run, verdict-violated}
use Rattle.ccsl_relate.specs.declared.violation.Violation.{Violation}
use Rattle.ccsl_relate.specs.Violations.{AreObeyed, IsFirst, Finds}

module _ (K : System) (bound : List ℕ) (rows : List Row) where
  pub obeyed-run : AreObeyed K bound rows 0 (item_count K) → verdict K bound rows ≡ Run (length rows)
  obeyed-run h = verdict-run K bound rows (λ n j l m. h n j l (omega arith) (omega (arith, m)))

  pub first-violated : (v : Violation) → IsFirst K bound rows 0 (item_count K) v → verdict K bound rows ≡ Violated v.step v.time v.item
  first-violated v f = grind (arith, common_steps, verdict-violated)

-- what is found of some items is found of all, where they are all
pub finds-all : (K K' : System) (bound : List ℕ) (rows : List Row) (start count : ℕ) (o : Option Violation) → K' ≡ K → start ≡ 0 → count ≡ item_count K
    → Finds K' bound rows start count o
    → Finds K bound rows 0 (item_count K) o
finds-all K K' bound rows start count o e s n h = grind (arith, common_steps)
