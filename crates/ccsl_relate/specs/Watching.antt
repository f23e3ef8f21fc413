-- What a monitor stands for: the rows that it has taken.
use Rattle.std.specs.Prelude.{◌≡◌, ℕ, ◌+◌, ◌-◌, ◌<◌, ◌≤◌, List, Bool, true, false, not, ◌&&◌, nat_lt, if◌then◌else◌, Option, Some, None, length}
use Rattle.std.specs.Prelude.{slice_get, slice_index_or}
use Rattle.std.specs.List.{list_all}
use Rattle.ccsl_base.specs.declared.limits.TheConstants.{MAX_CLOCKS}
use Rattle.ccsl_base.specs.Clocks.{ticks_in, is_ascending}
use Rattle.ccsl_base.specs.declared.rows.Row.{Row}
use Rattle.ccsl_kernel.specs.declared.constraint.Constraint.{Constraint}
use Rattle.ccsl_formula.specs.Formula.{eval, same}
use Rattle.ccsl_kernel.specs.Syntax.{System, item_count}
use Rattle.ccsl_kernel.specs.Accepted.{IsAccepted, Each}
use Rattle.ccsl_kernel.specs.Lives.{Step}
use Rattle.ccsl_kernel.specs.Items.{clock_count, relation_formula}
use Rattle.ccsl_kernel.specs.Runs.{full_step, declared_part}
use Rattle.ccsl_kernel.specs.Verdict.{is_recorded, completed_rows}
use Rattle.ccsl_state.specs.Reach.{is_within}
use Rattle.ccsl_state.specs.Part.{HeldPart, part_of, PartStandsFor}
use Rattle.ccsl_relate.specs.declared.violation.Violation.{Violation}
use Rattle.ccsl_relate.specs.declared.watched.Related.{Related}
use Rattle.ccsl_relate.specs.declared.watched.Watched.{Watched}
use Rattle.ccsl_relate.specs.declared.watched.Watched.TheVariants.{Nothing, Definition, Relation}
use Rattle.ccsl_relate.specs.Violations.{Finds}

-- a monitor as contracts see it: what is kept of each of its items, from number `start` on
pub record Watching : Type 0 where
  pub system : System
  pub start : ℕ
  pub kept : List Watched
  pub states : Option HeldPart
  pub steps : ℕ
  pub first : Option Violation

-- each row is a set
abbrev pub are_sets : List Row → Bool
are_sets rows = list_all (λ row. is_ascending row.ticks) rows

-- all clocks that the system does not declare
abbrev pub IsUndeclared : System → List ℕ → Type 0
IsUndeclared K set = (x : ℕ) → x < MAX_CLOCKS → ticks_in x set ≡ not (nat_lt x K.declared)

-- WHAT IS KEPT OF AN ITEM
-- it is a definition whose clock was not recorded
pub record IsFree (K : System) (recorded : List ℕ) (i : ℕ) : Type 0 where
  pub definition : i < length K.definitions
  pub free : is_recorded K recorded i ≡ false

-- it is the definition of this recorded clock
pub record IsDefinitionOf (K : System) (recorded : List ℕ) (i clock : ℕ) : Type 0 where
  pub definition : i < length K.definitions
  pub recorded_is : is_recorded K recorded i ≡ true
  pub clock_is : clock ≡ K.declared + i

-- it is this constraint, with the ticks of its clocks in the steps T
pub record IsRelation (K : System) (T : List Step) (i : ℕ) (r : Related) : Type 0 where
  pub of : Constraint
  pub constraint : length K.definitions ≤ i
  pub constraint_is : slice_get K.constraints (i - length K.definitions) ≡ Some of
  pub kind_is : r.kind ≡ of.kind
  pub left_is : r.left ≡ of.left
  pub right_is : r.right ≡ of.right
  pub left_count : r.left_count ≡ clock_count T of.left (length T)
  pub right_count : r.right_count ≡ clock_count T of.right (length T)

-- what is kept of item i after the steps T
abbrev pub Keeps : System → List ℕ → List Step → ℕ → Watched → Type 0
Keeps K recorded T i Nothing = IsFree K recorded i
Keeps K recorded T i (Definition clock) = IsDefinitionOf K recorded i clock
Keeps K recorded T i (Relation r) = IsRelation K T i r

-- AN ITEM IN A STEP
abbrev pub related_formula : Related → Step → Bool
related_formula r s = eval (relation_formula r.kind r.left r.right r.left_count r.right_count) s

-- whether it fails in the step that a row with these ticks completes
abbrev pub fails_in : List ℕ → Step → Watched → Bool
fails_in ticks s Nothing = false
fails_in ticks s (Definition clock) = not (same (ticks_in clock ticks) (ticks_in clock s))
fails_in ticks s (Relation r) = not (related_formula r s)

-- one tick more, or not
abbrev pub counted : Bool → ℕ → ℕ
counted tick n = if tick then n + 1 else n

abbrev pub counted_on : Related → Step → Related
counted_on r s = record r { left_count = counted (ticks_in r.left s) r.left_count; right_count = counted (ticks_in r.right s) r.right_count }

-- what is kept of it after the step
abbrev pub next_in : Step → Watched → Watched
next_in s Nothing = Nothing
next_in s (Definition clock) = Definition clock
next_in s (Relation r) = Relation (counted_on r s)

-- the first place of a list whose item fails in a step
pub record FailsFirst (ticks : List ℕ) (s : Step) (kept : List Watched) (place : ℕ) : Type 0 where
  pub inside : place < length kept
  pub fails : (d : Watched) → fails_in ticks s (slice_index_or kept place d) ≡ true
  pub before : (k : ℕ) (d : Watched) → k < place → fails_in ticks s (slice_index_or kept k d) ≡ false

-- THE STATES THAT ITEMS NEED
-- an item that reads clocks of one kind alone
abbrev pub reads_only : (ℕ → Bool) → Watched → Bool
reads_only is Nothing = true
reads_only is (Definition clock) = is clock
reads_only is (Relation r) = is r.left && is r.right

-- the clocks whose ticks are known at each step: the declared ones, and those whose definitions are followed
abbrev pub is_known : System → Option HeldPart → ℕ → Bool
is_known K None = λ x. nat_lt x K.declared
is_known K (Some p) = is_within p.system p.followed

-- each item reads clocks alone whose ticks are known
abbrev pub Suffice : System → Option HeldPart → List Watched → Type 0
Suffice K held kept = list_all (reads_only (is_known K held)) kept ≡ true

-- states of definitions of the system after the steps T, or none
abbrev pub AreAfter : System → Option HeldPart → List Step → Type 0
AreAfter K None T = Unit {0}
AreAfter K (Some p) T = (p.system ≡ K) × PartStandsFor p T

-- the step that a row's ticks complete after the steps T, as far as it is known: without states the ticks alone,
-- which tell the same of declared clocks
abbrev pub step_known : System → Option HeldPart → List Step → Step → Step
step_known K None T ticks = ticks
step_known K (Some p) T ticks = part_of p (full_step K T (declared_part K ticks))

-- items from number `start` on, and the states that they need, after the steps T
pub record Follows (K : System) (recorded : List ℕ) (start : ℕ) (kept : List Watched) (held : Option HeldPart) (T : List Step) : Type 0 where
  pub keeps : Each (Keeps K recorded T) start kept
  pub suffice : Suffice K held kept
  pub states : AreAfter K held T

-- STANDING FOR THE ROWS that were taken: the first violation is theirs, and until there is one the items are followed
pub record StandsFor (recorded : List ℕ) (v : Watching) (rows : List Row) : Type 0 where
  pub accepted : IsAccepted v.system
  pub items : v.start + length v.kept ≤ item_count v.system
  pub sets : are_sets rows ≡ true
  pub steps : v.steps ≡ length rows
  pub first : Finds v.system recorded rows v.start (length v.kept) v.first
  pub follows : v.first ≡ None → Follows v.system recorded v.start v.kept v.states (completed_rows v.system rows)
