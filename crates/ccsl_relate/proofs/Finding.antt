-- The first violation of some items, one row more.
use Rattle.std.proofs.lemmas.Grind.{common_steps}
use Rattle.std.proofs.Common.{◌≡◌, ℕ, suc, ◌+◌, ◌-◌, ◌<◌, ◌≤◌, List, [], ◌∷◌, ◌++◌, length, map, slice_index, true, false, sym, ap, ap₂, ◌∙◌, arith}
use Rattle.std.proofs.Common.{length-append, ⊎_elim}
use Rattle.std.proofs.Math.ListN.{get_or-append}
use Rattle.std.proofs.Math.Seq.{get_or-append_seam}
use Rattle.std.proofs.lemmas.Bool.{cases_lt}
use Rattle.std.proofs.lemmas.List.{map-append, length-map}
use Rattle.ccsl_base.specs.Clocks.{is_ascending}
use Rattle.ccsl_base.specs.declared.rows.Row.{Row}
use Rattle.ccsl_kernel.specs.Syntax.{System}
use Rattle.ccsl_kernel.specs.Accepted.{IsAccepted}
use Rattle.ccsl_kernel.specs.Verdict.{is_violated}
use Rattle.ccsl_relate.specs.declared.violation.Violation.{Violation}
use Rattle.ccsl_relate.specs.Violations.{AreObeyed, IsFirst}
use Rattle.ccsl_relate.specs.Watching.{are_sets}
use Rattle.ccsl_relate.proofs.History.{sets-snoc, violated-front}

module _ (K : System) (ok : IsAccepted K) (recorded : List ℕ) (rows : List Row) (row : Row) (sets : are_sets rows ≡ true)
    (sorted : is_ascending row.ticks ≡ true) (start count : ℕ) where
  abbrev more : List Row
  more = rows ++ row ∷ []

  abbrev times : List Row → List ℕ
  times = map (λ r. r.time)

  one-more : length more ≡ suc (length rows)
  one-more = omega (arith, length-append rows (row ∷ []))

  times-more : times more ≡ times rows ++ row.time ∷ []
  times-more = map-append (λ r. r.time) rows (row ∷ [])

  time-front : (k : ℕ) → k < length rows → slice_index (times more) k ≡ slice_index (times rows) k
  time-front k l = grind (arith, common_steps, slice_index, times-more, get_or-append, length-map)

  time-last : slice_index (times more) (length rows) ≡ row.time
  time-last = grind (arith, common_steps, slice_index, times-more, length-map, get_or-append_seam)

  -- the rows before are violated as they were
  before : (n j : ℕ) → n < length rows → is_violated K recorded more n j ≡ is_violated K recorded rows n j
  before n j l = violated-front K ok recorded rows row n j (sets-snoc rows row sets sorted) sets l

  -- what was the first stays the first
  pub first-stays : (v : Violation) → IsFirst K recorded rows start count v → IsFirst K recorded more start count v
  first-stays v f = grind (arith, common_steps, one-more, time-front, before)

  -- or it is at the row, where none was violated before
  pub first-here : (place : ℕ) → AreObeyed K recorded rows start count → place < count → is_violated K recorded more (length rows) (start + place) ≡ true
      → ((k : ℕ) → k < place → is_violated K recorded more (length rows) (start + k) ≡ false)
      → IsFirst K recorded more start count (record { step = length rows; time = row.time; item = start + place })
  first-here place obeyed l here lower = record {
    step = omega (arith, one-more);
    time = sym time-last;
    from = omega arith;
    below = omega (arith, l);
    violated = here;
    earlier = λ n j l a b. before n j l ∙ obeyed n j l a b;
    lower = λ j a b.
        let k : j ≡ start + (j - start) = omega (arith, a) in
        ap (is_violated K recorded more (length rows)) k ∙ lower (j - start) (omega (arith, a, b));
  }

  -- or none is violated
  pub obeyed-on : AreObeyed K recorded rows start count → ((k : ℕ) → k < count → is_violated K recorded more (length rows) (start + k) ≡ false)
      → AreObeyed K recorded more start count
  obeyed-on obeyed here n j l a b =
      ⊎_elim
      (λ (m : n < length rows). before n j m ∙ obeyed n j m a b)
      (λ (m : length rows ≤ n).
      let e : n ≡ length rows = omega (arith, l, m, one-more) in
      let k : j ≡ start + (j - start) = omega (arith, a) in
      ap₂ (is_violated K recorded more) e k ∙ here (j - start) (omega (arith, a, b)))
      (cases_lt n (length rows))
