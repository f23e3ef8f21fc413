-- Rows that are counted, one by one and a block at once.
use Rattle.std.proofs.Common.{◌≡◌, ℕ, ◌+◌, ◌<◌, ◌^◌, List, [], ◌∷◌, ◌++◌, Some, map, filter, take, length, slice_get, slice_index_or}
use Rattle.std.proofs.Common.{refl, sym, ap, ap₂, ◌∙◌, subst, arith, length-append, append_assoc}
use Rattle.std.proofs.lemmas.List.{map-append, append-nil}
use Rattle.ccsl_base.specs.Clocks.{ticks_in}
use Rattle.ccsl_base.specs.declared.rows.Row.{Row}
use Rattle.ccsl_causes.specs.Counted.{counted, counted_over}
use Rattle.ccsl_kernel.specs.Syntax.{System}
use Rattle.ccsl_kernel.specs.Lives.{Step}
use Rattle.ccsl_kernel.specs.Verdict.{completed_rows}
use Rattle.ccsl_state.specs.Reach.{is_within}
use Rattle.ccsl_state.specs.Part.{HeldPart, part_of, PartStandsFor}
use Rattle.ccsl_relate.proofs.History.{X-more, X-length, next_step}
use Rattle.ccsl_relate.proofs.Blocks.{take-more}
use Rattle.ccsl_follow.specs.Counting.{followed_steps, HasCounted, AreRows}

pub over-snoc : (x : ℕ) (steps : List Step) (s : Step) (n : ℕ) → counted_over x (steps ++ s ∷ []) n ≡ counted (ticks_in x s) (counted_over x steps n)
over-snoc x [] s n = refl
over-snoc x (t ∷ steps) s n = over-snoc x steps s (counted (ticks_in x t) n)

abbrev steps_of : System → List ℕ → List Row → List Step
steps_of K clocks rows = map (filter (is_within K clocks)) (completed_rows K rows)

steps-more : (p q : HeldPart) (rows : List Row) (row : Row) → q.system ≡ p.system → q.followed ≡ p.followed
    → followed_steps q (rows ++ row ∷ []) ≡ followed_steps p rows ++ part_of p (next_step p.system rows row) ∷ []
steps-more p q rows row system followed =
    ap₂ (λ K clocks. steps_of K clocks (rows ++ row ∷ [])) system followed
    ∙ ap (map (part_of p)) (X-more p.system rows row)
    ∙ map-append (part_of p) (completed_rows p.system rows) (next_step p.system rows row ∷ [])

over-more : (p q : HeldPart) (rows : List Row) (row : Row) (x : ℕ) → q.system ≡ p.system → q.followed ≡ p.followed
    → counted_over x (followed_steps q (rows ++ row ∷ [])) 0
    ≡ counted (ticks_in x (part_of p (next_step p.system rows row))) (counted_over x (followed_steps p rows) 0)
over-more p q rows row x system followed =
    ap (λ steps. counted_over x steps 0) (steps-more p q rows row system followed)
    ∙ over-snoc x (followed_steps p rows) (part_of p (next_step p.system rows row)) 0

-- ONE ROW MORE
pub counted-more : (p q : HeldPart) (counts now : List ℕ) (rows : List Row) (row : Row) → q.system ≡ p.system → q.followed ≡ p.followed
    → HasCounted p counts rows → PartStandsFor q (completed_rows p.system rows ++ next_step p.system rows row ∷ []) → length now ≡ length counts
    → ((x : ℕ) → x < length counts →
    slice_index_or now x 0 ≡ counted (ticks_in x (part_of p (next_step p.system rows row))) (slice_index_or counts x 0))
    → HasCounted q now (rows ++ row ∷ [])
counted-more p q counts now rows row system followed has stands clocks raised = record {
  stands = subst (PartStandsFor q) (sym (ap (λ K. completed_rows K (rows ++ row ∷ [])) system ∙ X-more p.system rows row)) stands;
  clocks = clocks ∙ has.clocks ∙ sym names;
  ticks = λ x within.
      let low : x < length p.system.names = omega (arith, within, names) in
      raised x (omega (arith, low, has.clocks))
      ∙ ap (counted (ticks_in x (part_of p (next_step p.system rows row)))) (has.ticks x low)
      ∙ sym (over-more p q rows row x system followed);
}
  where
    names : length q.system.names ≡ length p.system.names
    names = ap (λ K. length K.names) system

-- A BLOCK, each row of which is a step
module _ (p : HeldPart) (are : AreRows p) (x : ℕ) (within : x < length p.system.names) where
  over-block : (rows block : List Row)
      → counted_over x (followed_steps p (rows ++ block)) 0 ≡ counted_over x (map (λ row. row.ticks) block) (counted_over x (followed_steps p rows) 0)
  over-block rows [] = ap (λ rs. counted_over x (followed_steps p rs) 0) (append-nil rows)
  over-block rows (row ∷ block) =
      ap (λ rs. counted_over x (followed_steps p rs) 0) (sym (append_assoc rows (row ∷ []) block))
      ∙ over-block (rows ++ row ∷ []) block
      ∙ ap (counted_over x (map (λ r. r.ticks) block)) one
    where
      one : counted_over x (followed_steps p (rows ++ row ∷ [])) 0 ≡ counted (ticks_in x row.ticks) (counted_over x (followed_steps p rows) 0)
      one =
          over-more p p rows row x refl refl
          ∙ ap (λ b. counted b (counted_over x (followed_steps p rows) 0)) (are.ticks (completed_rows p.system rows) row.ticks x within)

pub few-steps : (K : System) (rows block : List Row) → length rows + length block < 2 ^ 64 → length (completed_rows K (rows ++ block)) < 2 ^ 64
few-steps K rows block few = omega (arith, X-length K (rows ++ block), length-append rows block, few)

pub counted-block : (p : HeldPart) (counts now : List ℕ) (rows block : List Row) → AreRows p → HasCounted p counts rows
    → length rows + length block < 2 ^ 64 → length now ≡ length counts
    → ((x : ℕ) → x < length counts → slice_index_or now x 0 ≡ counted_over x (map (λ row. row.ticks) block) (slice_index_or counts x 0))
    → HasCounted p now (rows ++ block)
counted-block p counts now rows block are has few clocks raised = record {
  stands = are.stands (completed_rows p.system (rows ++ block)) (few-steps p.system rows block few);
  clocks = clocks ∙ has.clocks;
  ticks = λ x within.
      raised x (omega (arith, within, has.clocks))
      ∙ ap (counted_over x (map (λ row. row.ticks) block)) (has.ticks x within)
      ∙ sym (over-block p are x within rows block);
}

-- SO MANY ROWS OF A BLOCK
pub counted-next : (q : HeldPart) (now : List ℕ) (rows block : List Row) (i : ℕ) (row : Row) → slice_get block i ≡ Some row
    → HasCounted q now ((rows ++ take i block) ++ row ∷ []) → HasCounted q now (rows ++ take (i + 1) block)
counted-next q now rows block i row is has =
    subst (HasCounted q now) (append_assoc rows (take i block) (row ∷ []) ∙ ap (λ rs. rows ++ rs) (sym (take-more block i row is))) has
