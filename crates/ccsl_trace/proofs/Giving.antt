-- What a feed hands out: first the bound clocks, then rows or the end.
use Rattle.std.proofs.Common.{◌≡◌, ℕ, ◌+◌, ◌<◌, ◌^◌, List, ◌++◌, length, Option, Some, None, sym, ◌∙◌, subst, ⊎_elim, ◌⊎◌}
use Rattle.ccsl_base.specs.declared.rows.Row.{Row}
use Rattle.ccsl_edge.specs.World.{State, Told}
use Rattle.ccsl_vcd.specs.declared.limits.Limits.{Limits}
use Rattle.ccsl_vcd.specs.Binding.{Wanted}
use Rattle.ccsl_vcd_read.specs.declared.reader.Counts.{Counts}
use Rattle.ccsl_trace.specs.declared.next.Next.{Next}
use Rattle.ccsl_trace.specs.declared.next.Next.TheVariants.{Bound, Rows, Ended}
use Rattle.ccsl_trace.specs.Feeding.{Feeding, calls_left, Nears, GivesBound, GivesEnd, Gives}
use Rattle.ccsl_trace.specs.Traces.{IsReadBy}
use Rattle.ccsl_base.proofs.Cases.{some-same}

none-some : {A : Type 0} {x : A} {P : Type 0} → None ≡ Some x → P
none-some e = let z : ⊥ = cc in absurd z

module _ (told : Told) (wanted : Wanted) (limits : Limits) (start now : State) (before : Option (List ℕ)) where
  -- where no clocks were bound, they are handed out
  pub first-given : before ≡ None → (next : Next) (feed : Feeding) (rows : List Row) → Gives told wanted limits start now next before feed rows
      → GivesBound told wanted limits start now before feed rows
  first-given none Bound feed rows g = g
  first-given none Rows feed rows g = none-some (sym none ∙ g.known)
  first-given none (Ended n) feed rows g = none-some (sym none ∙ g.known)

  -- where they were bound, they are not handed out again
  module _ (bound : List ℕ) (known : before ≡ Some bound) (feed : Feeding) (rows : List Row) where
    pub not-bound : {P : Type 0} → GivesBound told wanted limits start now before feed rows → P
    not-bound g = none-some (sym g.waited ∙ known)

    -- there are few rows then
    pub given-few : (next : Next) → Gives told wanted limits start now next before feed rows → length rows + length feed.block.rows < 2 ^ 64
    given-few Bound g = not-bound g
    given-few Rows g = g.few
    given-few (Ended n) g = g.few

    -- at the end they are the clocks of the trace
    pub read-by : (n : Counts) → GivesEnd told wanted limits start now before feed rows n
        → IsReadBy told wanted limits start now bound (rows ++ feed.block.rows) n.rows n.bytes
    read-by n g = subst (λ b. IsReadBy told wanted limits start now b (rows ++ feed.block.rows) n.rows n.bytes) (some-same g.bound bound (sym g.known ∙ known))
        g.is_read

-- where the trace has not ended, its end comes nearer
pub nearer : (next : Next) (old new : Feeding) → Nears next old new → (next ≡ Bound) ⊎ (next ≡ Rows) → calls_left new < calls_left old
nearer Bound old new l e = l
nearer Rows old new l e = l
nearer (Ended n) old new l e = ⊎_elim (λ s. absurd (cc s)) (λ s. absurd (cc s)) e
