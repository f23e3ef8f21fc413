-- The course that boxed nodes hold, and the deaths of clocks that a table holds.
use Rattle.std.specs.Prelude.{ℕ, suc, ◌-◌, ◌≤◌, List, [], Bool, false, slice_index_or, nat_lt, if◌then◌else◌}
use Rattle.ccsl_base.specs.declared.limits.TheConstants.{MAX_LEVELS}
use Rattle.ccsl_words.specs.Word.{BinaryWord}
use Rattle.ccsl_plain.specs.declared.course.Course.{Course as Node, Unary', Binary', Then'}
use Rattle.ccsl_plain.specs.declared.course.Course.TheVariants.{Name, Never}
use Rattle.ccsl_plain.specs.declared.deaths.Deaths.{Deaths}
use Rattle.ccsl_kernel.specs.Plain.{plain_expr}
use Rattle.ccsl_plain.specs.Operators.{unary_row, binary_row}
use Rattle.ccsl_plain.specs.Course.{Course, CName, CNever, CUnary, CBinary, CThen}
use Rattle.ccsl_kernel.specs.Fit.{ActualsFit}
use Rattle.ccsl_kernel.specs.Fitting.{ExprFits}
use Rattle.ccsl_kernel.specs.Deep.{deep}

abbrev pub held : List BinaryWord → Node → Course
held words (Name x) = CName x
held words Never = CNever
held words (Unary' row p a ticks) = CUnary (unary_row words row) (held words a) ticks.items
held words (Binary' row p a ts q d us) = CBinary (binary_row row) (held words a) (held words d) ts.items us.items
held words (Then' p a d ρ) = CThen (held words a) (plain_expr d.now) ρ.items

-- what a course may still open can be opened
abbrev pub IsReady : List BinaryWord → Course → Type 0
IsReady words (CName x) = Unit {0}
IsReady words CNever = Unit {0}
IsReady words (CUnary row a p) = IsReady words a
IsReady words (CBinary row a d p q) = IsReady words a × IsReady words d
IsReady words (CThen a d ρ) = IsReady words a × ExprFits words d × (deep d ≤ suc MAX_LEVELS) × ActualsFit words ρ

-- a column of deaths for each defined clock, from position 0 on
abbrev pub gone_at : ℕ → List (List Bool) → ℕ → ℕ → Bool
gone_at declared columns n y = if nat_lt y declared then false else slice_index_or (slice_index_or columns (y - declared) []) n false

abbrev pub gone_in : Deaths → ℕ → ℕ → Bool
gone_in deaths = gone_at deaths.declared deaths.columns.now
