-- What elaboration answers.
use Rattle.std.specs.Prelude.{Option, Some, None, Result, Ok, Err}
use Rattle.ccsl_ast.specs.Trees.{PlainFile}
use Rattle.ccsl_kernel.specs.Syntax.{System}
use Rattle.ccsl_rules.specs.declared.refusal.Refusal.{Refusal}
use Rattle.ccsl_rules.specs.Expansion.{expand}
use Rattle.ccsl_rules.specs.Elaborated.{refusal}

abbrev pub answer : Option Refusal → System → Result System Refusal
answer None K = Ok K
answer (Some r) K = Err r

-- WHAT ELABORATION ANSWERS, want of memory aside
abbrev pub elaborated : PlainFile → PlainFile → Result System Refusal
elaborated library file = answer (refusal library file) (expand library file)
