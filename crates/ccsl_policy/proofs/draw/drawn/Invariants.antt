use Rattle.std.proofs.Common.{◌≡◌, ◌≤◌, ◌+◌, ℕ, vec_len}
use Rattle.std.specs.Vec.{vec_capacity}
use Rattle.ccsl_policy.specs.Words.{words_from}
use Rattle.ccsl_policy.specs.Generator.{StandsFor}
use Rattle.ccsl_policy.proofs.draw.drawn.Given as goal

abbrev pub invariant-loop-i : goal.invariant-loop-i
invariant-loop-i l = record {
  words : (seed j : ℕ) → StandsFor l.fn.generator seed j → (l.list.items ≡ words_from seed j l.i) × StandsFor l.generator seed (j + l.i);
  size : vec_len l.list ≡ l.i;
  room : l.n ≤ vec_capacity l.list;
}
