-- How deep an expression is, its leaves counted: what a recursion over it goes down.
use Rattle.std.specs.Prelude.{ℕ, ◌+◌, max}
use Rattle.ccsl_kernel.specs.Syntax.{Expression, EName, ECall, ENever, EBinary, EDelay, EAwait, EFilter, EDelayed, EIf}

abbrev pub deep : Expression → ℕ
deep (EName x) = 1
deep (ECall group member args) = 1
deep ENever = 1
deep (EBinary op a d) = 1 + max (deep a) (deep d)
deep (EDelay a m) = 1 + deep a
deep (EAwait a m) = 1 + deep a
deep (EFilter a w) = 1 + deep a
deep (EDelayed a m d) = 1 + max (deep a) (deep d)
deep (EIf q a d) = 1 + max (deep a) (deep d)
