-- The refusal of a file, and what elaboration answers.
use Rattle.std.specs.Prelude.{ℕ, length, nat_lt, Option, Some, None, if◌then◌else◌}
use Rattle.ccsl_ast.specs.Trees.{PlainFile}
use Rattle.ccsl_kernel.specs.Syntax.{System}
use Rattle.ccsl_base.specs.declared.limits.TheConstants.{MAX_CLOCKS, MAX_CONSTRAINTS, MAX_CELLS}
use Rattle.ccsl_kernel.specs.Cells.{saturated, cells}
use Rattle.ccsl_rules.specs.declared.refusal.Refusal.{Refusal}
use Rattle.ccsl_rules.specs.declared.refusal.Refusal.TheVariants as refused
use Rattle.ccsl_rules.specs.Faults.{Fault, Cause, Duplicate, Unknown, Later, WrongKind, Unguarded, TooTall, Arguments, BadWord}
use Rattle.ccsl_rules.specs.Blocks.{first_fault}
use Rattle.ccsl_rules.specs.Expansion.{expand}

-- the refusal of a fault
abbrev pub refusal_for : Cause → ℕ → Refusal
refusal_for Duplicate at = refused.Duplicate at
refusal_for Unknown at = refused.Unknown at
refusal_for Later at = refused.Later at
refusal_for WrongKind at = refused.WrongKind at
refusal_for Unguarded at = refused.Unguarded at
refusal_for TooTall at = refused.TooTall at
refusal_for Arguments at = refused.Arguments at
refusal_for BadWord at = refused.BadWord at

-- the first total above its limit; one above 4,294,967,295 is told as that number
abbrev pub totals_refusal : System → Option Refusal
totals_refusal K =
    if nat_lt MAX_CLOCKS (length K.names) then Some (refused.TooManyClocks (saturated (length K.names)))
    else if nat_lt MAX_CONSTRAINTS (length K.constraints) then Some (refused.TooManyConstraints (saturated (length K.constraints)))
    else if nat_lt MAX_CELLS (cells K) then Some (refused.StateTooLarge (saturated (cells K)))
    else None

abbrev pub refusal_with : Option Fault → System → Option Refusal
refusal_with (Some f) K = Some (refusal_for f.cause f.at)
refusal_with None K = totals_refusal K

-- THE REFUSAL: the least fault, and then the first total over its limit
abbrev pub refusal : PlainFile → PlainFile → Option Refusal
refusal library file = refusal_with (first_fault library file) (expand library file)
