-- What it is to answer for a file behind a library: exactly its expansion where it is accepted, else exactly its refusal.
use Rattle.std.specs.Prelude.{◌≡◌, Result, Ok, Err, Some, None}
use Rattle.ccsl_ast.specs.Trees.{PlainFile}
use Rattle.ccsl_kernel.specs.Syntax.{System}
use Rattle.ccsl_rules.specs.declared.refusal.Refusal.{Refusal}
use Rattle.ccsl_rules.specs.Expansion.{expand}
use Rattle.ccsl_rules.specs.Elaborated.{refusal}

abbrev pub IsAnswer : PlainFile → PlainFile → Result System Refusal → Type 0
IsAnswer library file (Ok K) = (refusal library file ≡ None) × (K ≡ expand library file)
IsAnswer library file (Err r) = refusal library file ≡ Some r
