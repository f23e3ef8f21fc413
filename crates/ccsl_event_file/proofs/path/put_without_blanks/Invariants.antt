use Rattle.std.proofs.Common.{◌≡◌, ◌++◌, ◌==◌, not, filter, drop}
use Rattle.ccsl_event_file.proofs.path.put_without_blanks.Given as goal

abbrev pub invariant-loop-b : goal.invariant-loop-b
invariant-loop-b l =
    l.parts.items ++ filter (λ b. not (b == 32)) (drop l.b-index l.text) ≡ l.fn.parts.items ++ filter (λ b. not (b == 32)) l.text
