-- Whether a row violates an item, by what is kept of it.
use Rattle.std.proofs.lemmas.Grind.{common_steps}
use Rattle.std.proofs.Common.{◌≡◌, ℕ, ◌+◌, ◌<◌, ◌^◌, List, [], ◌∷◌, ◌++◌, length, true, not, ◌&&◌, sym, ap}
use Rattle.std.proofs.Common.{◌∙◌, arith, length-append}
use Rattle.ccsl_base.specs.Clocks.{ticks_in, is_ascending}
use Rattle.ccsl_base.specs.declared.rows.Row.{Row}
use Rattle.ccsl_formula.specs.Formula.{eval}
use Rattle.ccsl_kernel.specs.Syntax.{System}
use Rattle.ccsl_kernel.specs.Accepted.{IsAccepted}
use Rattle.ccsl_kernel.specs.Lives.{Step}
use Rattle.ccsl_kernel.specs.Items.{clock_count, relation_formula}
use Rattle.ccsl_kernel.specs.Runs.{holds_at, full_step, declared_part}
use Rattle.ccsl_kernel.specs.Verdict.{completed_rows, is_as_recorded, is_recorded, is_violated}
use Rattle.ccsl_kernel.proofs.Bounded.{clocks_bounded}
use Rattle.ccsl_relate.specs.declared.watched.Related.{Related}
use Rattle.ccsl_relate.specs.declared.watched.Watched.{Watched}
use Rattle.ccsl_relate.specs.declared.watched.Watched.TheVariants.{Nothing, Definition, Relation}
use Rattle.ccsl_relate.specs.Few.{HasRoomFor}
use Rattle.ccsl_relate.specs.Watching.{are_sets, IsRelation, Keeps, counted, counted_on, related_formula, fails_in, next_in}
use Rattle.ccsl_relate.proofs.History.{X-more, X-length, last-step, last-row, sets-snoc, definition-holds, constraint-holds, count-more}

-- the counts are fewer than the rows, and leave room for more
pub keeps-room-for : (K : System) → IsAccepted K → (recorded : List ℕ) (i : ℕ) (rows : List Row) (n : ℕ) → length rows + n < 2 ^ 64 → (w : Watched)
    → Keeps K recorded (completed_rows K rows) i w → HasRoomFor n w
keeps-room-for K ok recorded i rows n few Nothing f = tt
keeps-room-for K ok recorded i rows n few (Definition clock) f = tt
keeps-room-for K ok recorded i rows n few (Relation r) f =
    let T = completed_rows K rows in
    let a = clocks_bounded T f.of.left (length T) in
    let b = clocks_bounded T f.of.right (length T) in
    (omega (arith, a, f.left_count, X-length K rows, few), omega (arith, b, f.right_count, X-length K rows, few))

module _ (K : System) (ok : IsAccepted K) (recorded : List ℕ) (i : ℕ) (rows : List Row) (row : Row) (sets : are_sets rows ≡ true)
    (sorted : is_ascending row.ticks ≡ true) where
  abbrev T : List Step
  T = completed_rows K rows

  abbrev s : Step
  s = full_step K T (declared_part K row.ticks)

  abbrev more : List Row
  more = rows ++ row ∷ []

  here : length rows < length more
  here = omega (arith, length-append rows (row ∷ []))

  -- a definition is violated where its clock was recorded otherwise
  by-definition : i < length K.definitions
      → is_violated K recorded more (length rows)
      i ≡ (is_recorded K recorded i && not (is_as_recorded more (completed_rows K more) (length rows) (K.declared + i)))
  by-definition d = grind (arith, common_steps, definition-holds, sets-snoc, here)

  module _ (r : Related) (f : IsRelation K T i r) where
    by-constraint : is_violated K recorded more (length rows) i ≡ not (holds_at K (completed_rows K more) (length rows) i)
    by-constraint = grind (arith, common_steps)

    same-formula : relation_formula r.kind r.left r.right r.left_count r.right_count ≡ relation_formula f.of.kind f.of.left f.of.right
        (clock_count T f.of.left (length T)) (clock_count T f.of.right (length T))
    same-formula = grind (arith, common_steps)

    next-count : (x k c : ℕ) → x ≡ c → k ≡ clock_count T c (length T)
        → counted (ticks_in x s) k ≡ clock_count (completed_rows K more) c (length (completed_rows K more))
    next-count x k c e q = grind (arith, common_steps, count-more, X-more)

    relation-fails : not (related_formula r s) ≡ is_violated K recorded more (length rows) i
    relation-fails = ap not (ap (λ p. eval p s) same-formula ∙ sym (constraint-holds K ok rows row i f.of f.constraint f.constraint_is)) ∙ sym by-constraint

    relation-goes-on : IsRelation K (completed_rows K more) i (counted_on r s)
    relation-goes-on = record {
      of = f.of;
      constraint = f.constraint;
      constraint_is = f.constraint_is;
      kind_is = f.kind_is;
      left_is = f.left_is;
      right_is = f.right_is;
      left_count = next-count r.left r.left_count f.of.left f.left_is f.left_count;
      right_count = next-count r.right r.right_count f.of.right f.right_is f.right_count;
    }

  -- AN ITEM FAILS in the step that the row completes exactly where the row violates it
  pub fails-where-violated : (w : Watched) → Keeps K recorded T i w → fails_in row.ticks s w ≡ is_violated K recorded more (length rows) i
  fails-where-violated Nothing f = grind (arith, common_steps, by-definition)
  fails-where-violated (Definition clock) f = grind (arith, common_steps, by-definition, last-row, last-step)
  fails-where-violated (Relation r) f = grind (arith, common_steps, relation-fails)

  -- what is kept of it goes on by the step
  pub keeps-on : (w : Watched) → Keeps K recorded T i w → Keeps K recorded (completed_rows K more) i (next_in s w)
  keeps-on Nothing f = f
  keeps-on (Definition clock) f = f
  keeps-on (Relation r) f = relation-goes-on r f
