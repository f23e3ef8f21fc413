-- What the checker answers.
use Rattle.std.specs.Prelude.{ℕ, Option, Some, None, ◌≡◌, Ok, Err}
use Rattle.std.specs.declared.result.Result.{Result}
use Rattle.ccsl_refute.specs.declared.checker.CheckFault.{CheckFault}
use Rattle.ccsl_refute.specs.declared.checker.CheckFault.TheVariants.{BadLine, Memory}

-- Ok where there is no bad line, and the number of the first one where there is; that memory may run out is free
abbrev pub Answers : Option ℕ → Result (Unit {0}) CheckFault → Type 0
Answers bad (Ok u) = bad ≡ None
Answers bad (Err (BadLine j)) = bad ≡ Some j
Answers bad (Err Memory) = Unit {0}
