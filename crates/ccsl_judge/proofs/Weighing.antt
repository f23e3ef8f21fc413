-- What items weigh, one more at a time.
use Rattle.std.proofs.Common.{◌≡◌, ℕ, suc, ◌+◌, List, ap, arith}
use Rattle.ccsl_kernel.specs.Syntax.{System}
use Rattle.ccsl_judge.specs.Weights.{weight_of, weight_before}

pub weight-more : (K : System) (bound : List ℕ) (n : ℕ) → weight_before K bound (n + 1) ≡ weight_before K bound n + weight_of K bound n
weight-more K bound n = let next : n + 1 ≡ suc n = omega arith in ap (weight_before K bound) next
