use Rattle.std.proofs.Common.{◌≡◌, ℕ, ◌+◌, ◌<◌, List, [], ◌∷◌, ◌++◌, length, take, drop, slice_set, refl, ap, ◌∙◌, add-one, arith, length-take-le}
use Rattle.std.proofs.Common.{length-append}
use Rattle.std.proofs.lemmas.List.{take-append-le, take-take, take_more_set}
use Rattle.ccsl_triggers.specs.Output.{time_line}
use Rattle.ccsl_triggers.proofs.time_line.TimeLine.set_front.Goals as goal

first-set : (xs : List ℕ) (x : ℕ) → 0 < length xs → take 1 (slice_set xs 0 x) ≡ x ∷ []
first-set [] x l = absurd (omega (arith, l))
first-set (y ∷ xs) x l = refl

-- behind the first n letters a line end is put, whatever stands behind them
ended : (n : ℕ) (front ys rest ds : List ℕ) → front ≡ 35 ∷ [] → n < length ys → take n ys ≡ ds
    → take (n + 2) (slice_set (front ++ (ys ++ rest)) (n + 1) 10) ≡ time_line ds
ended n front ys rest ds f l e =
    let xs : List ℕ = 35 ∷ (ys ++ rest) in
    let sum : n + 2 ≡ (n + 1) + 1 = omega arith in
    ap (λ (zs : List ℕ). take (n + 2) (slice_set (zs ++ (ys ++ rest)) (n + 1) 10)) f
    ∙ ap (λ (k : ℕ). take k (slice_set xs (n + 1) 10)) sum
    ∙ take_more_set xs (n + 1) 10 (omega (arith, l, length-append ys rest))
    ∙ ap (λ (zs : List ℕ). zs ++ 10 ∷ [])
    (ap (λ (k : ℕ). take k xs) (add-one n) ∙ ap (λ (zs : List ℕ). 35 ∷ zs) (take-append-le n ys rest (omega (arith, l)) ∙ e))

pub returns : goal.returns
returns c =
    let n = c.args.count in
    let bytes = c.args.bytes.now in
    let after = c.copy_from_slice.ensures.after in
    let old = c.self.inside.bytes in
    ended n (take 1 (slice_set old 0 35)) c.copy_from_slice.new.self (drop 23 (drop 1 (slice_set old 0 35))) (take n bytes)
    (first-set old 35 (omega arith)) (omega (arith, ap length after, length-take-le 23 bytes (omega arith)))
    (ap (take n) after ∙ take-take n 23 bytes (omega arith))
