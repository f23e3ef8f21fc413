use Rattle.std.proofs.Common.{◌≡◌, ◌<◌, ℕ, zero, suc, List, [], ◌∷◌, ◌++◌, length, map, take, drop, slice_set, slice_index_or, refl, sym, ap, ◌∙◌, add-one}
use Rattle.std.proofs.Common.{arith}
use Rattle.ccsl_triggers.specs.Sized.{lower}
use Rattle.ccsl_triggers.proofs.signal.make_lower.Goals as goal

one_more : (xs : List ℕ) (i : ℕ) → i < length xs
    → slice_set (map lower (take i xs) ++ drop i xs) i (lower (slice_index_or (map lower (take i xs) ++ drop i xs) i 0)) ≡ map lower (take (suc i) xs) ++ drop
    (suc i) xs
one_more [] i h = absurd (omega (arith, h))
one_more (x ∷ xs) zero h = refl
one_more (x ∷ xs) (suc i) h = ap (λ ys. lower x ∷ ys) (one_more xs i (omega (arith, h)))

pub loop-b-preserved : goal.loop-b-preserved
loop-b-preserved c =
    let xs = c.args.letters.now in
    let i = c.loop-b.b-index in
    ap (λ ys. slice_set ys i (lower (slice_index_or ys i 0))) c.loop-b.invariant ∙ one_more xs i (omega (arith, c.loop-b-test.true))
    ∙ ap (λ n. map lower (take n xs) ++ drop n xs) (sym (add-one i))
