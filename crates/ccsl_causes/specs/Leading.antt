-- Precedences whose left clock is ahead.
use Rattle.std.specs.Prelude.{ℕ, ◌-◌, ◌&&◌, List, Bool, true, false, Option, Some, None, map, nat_eq, nat_lt, slice_index_or, if◌then◌else◌}
use Rattle.std.specs.List.{filter_map}
use Rattle.ccsl_kernel.specs.declared.constraint.Constraint.{Constraint}
use Rattle.ccsl_kernel.specs.declared.constraint.RelationKind.{RelationKind}
use Rattle.ccsl_kernel.specs.Syntax.{System}
use Rattle.ccsl_kernel.specs.declared.constraint.RelationKind.TheVariants.{Subclock, Coincides, Excludes, Precedes, PrecedesWeakly, PrecedesWithin}
use Rattle.ccsl_causes.specs.declared.leads.Lead.{Lead}

-- by how much the left clock has ticked more often
abbrev pub ahead : List ℕ → ℕ → ℕ → ℕ
ahead counts left right = slice_index_or counts left 0 - slice_index_or counts right 0

-- a lead whose left clock ticks at this time: where that was not ahead, it begins
abbrev pub begun : List ℕ → ℕ → ℕ → Lead → Lead
begun before left time lead = if nat_eq (ahead before left lead.right) 0 then record lead { since = time } else lead

-- the leads of a left clock behind a step in which it ticks, or does not
abbrev pub led : List ℕ → ℕ → Bool → ℕ → List Lead → List Lead
led before time tick left leads = if tick then map (begun before left time) leads else leads

-- the left clock of a relation may be ahead of the right one
abbrev pub is_precedence : RelationKind → Bool
is_precedence Precedes = true
is_precedence PrecedesWeakly = true
is_precedence (PrecedesWithin most) = true
is_precedence Subclock = false
is_precedence Coincides = false
is_precedence Excludes = false

-- the lead of a left clock by a constraint before the first step: by each precedence of it to a clock that is written in the system
abbrev pub lead_by : System → ℕ → Constraint → Option Lead
lead_by K left c = if nat_eq c.left left && nat_lt c.right K.written && is_precedence c.kind then Some (record { right = c.right; since = 0 }) else None

-- its leads before the first step, in the order of the constraints
abbrev pub leads_of : System → ℕ → List Lead
leads_of K left = filter_map (lead_by K left) K.constraints
