-- The rows of a block, taken some at a time.
use Rattle.std.proofs.Common.{◌≡◌, ℕ, ◌+◌, ◌<◌, ◌≤◌, ◌^◌, List, [], ◌∷◌, ◌++◌, length, take, slice_get, Some, refl, ◌∙◌, subst, arith}
use Rattle.std.proofs.Common.{append_assoc, length-append, length-take-le}
use Rattle.std.proofs.lemmas.List.{take_more}
use Rattle.std.proofs.lemmas.Option.{slice_get_within, get_or_from_slice_get}
use Rattle.ccsl_base.specs.declared.rows.Row.{Row}
use Rattle.ccsl_relate.specs.Watching.{Watching, StandsFor}
use Rattle.ccsl_relate.specs.Taking.{MayTake, Takes}

pub take-more : (block : List Row) (i : ℕ) (row : Row) → slice_get block i ≡ Some row → take (i + 1) block ≡ take i block ++ row ∷ []
take-more block i row e = rw (take_more block i row (slice_get_within block i row e), get_or_from_slice_get block i row row e) refl

pub few-rows : (block : List Row) (i : ℕ) (rows : List Row) → i < length block → length rows + length block < 2 ^ 64
    → length (rows ++ take i block) + 1 < 2 ^ 64
few-rows block i rows l h = omega (arith, length-append rows (take i block), length-take-le i block (omega (arith, l)), l, h)

-- some rows, and some behind them
pub takes-both : {old mid new : Watching} {xs ys : List Row} → Takes old mid xs → Takes mid new ys → Takes old new (xs ++ ys)
takes-both {old} {mid} {new} {xs} {ys} f g = record {
  system = g.system ∙ f.system;
  start = g.start ∙ f.start;
  count = g.count ∙ f.count;
  stands = λ recorded rows s few.
      subst (StandsFor recorded new) (append_assoc rows xs ys)
      (g.stands recorded (rows ++ xs) (f.stands recorded rows s (omega (arith, few, length-append xs ys)))
      (omega (arith, few, length-append xs ys, length-append rows xs)));
}

pub may-take-on : {old new : Watching} {xs : List Row} (n m : ℕ) → MayTake old n → Takes old new xs → length xs + m ≤ n → MayTake new m
may-take-on {old} {new} {xs} n m w t l =
    (w.0, w.1 ++ xs, t.stands w.0 w.1 w.2 (omega (arith, l, w.3)), omega (arith, l, w.3, length-append w.1 xs))
