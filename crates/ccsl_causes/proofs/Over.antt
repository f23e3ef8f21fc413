-- Counts over one row more.
use Rattle.std.proofs.Common.{◌≡◌, ℕ, zero, suc, ◌+◌, List, [], ◌∷◌, Some, map, take, slice_get, ap, ◌∙◌, arith}
use Rattle.ccsl_base.specs.Clocks.{ticks_in}
use Rattle.ccsl_base.specs.declared.rows.Row.{Row}
use Rattle.ccsl_causes.specs.Counted.{counted, counted_over}

pub over-row : (x : ℕ) (rows : List Row) (i : ℕ) (row : Row) (n : ℕ) → slice_get rows i ≡ Some row
    → counted_over x (map (λ r. r.ticks) (take (i + 1) rows)) n
    ≡ counted (ticks_in x row.ticks) (counted_over x (map (λ r. r.ticks) (take i rows)) n)
over-row x [] i row n e = absurd (cc)
over-row x (r ∷ rows) zero row n e = ap (λ (s : Row). counted (ticks_in x s.ticks) n) (let same : r ≡ row = cc in same)
over-row x (r ∷ rows) (suc i) row n e =
    let k : suc i + 1 ≡ suc (i + 1) = omega arith in
    ap (λ j. counted_over x (map (λ r. r.ticks) (take j (r ∷ rows))) n) k ∙ over-row x rows i row (counted (ticks_in x r.ticks) n) e
