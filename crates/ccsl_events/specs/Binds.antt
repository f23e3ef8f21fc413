-- What the code binds: what it has of the meaning of events, with numbers in place of variables.
use Rattle.std.specs.Prelude.{◌≡◌, ◌⊎◌, ℕ, List, [], ◌∷◌, ◌++◌, map, Result, Ok, Err, if◌then◌else◌}
use Rattle.std.specs.List.{list_any, flat_map}
use Rattle.std.specs.declared.vec.Vec.{Vec}
use Rattle.std.specs.declared.alloc.Global.{Global}
use Rattle.ccsl_event_file.specs.declared.fault.EventFault.{EventFault}
use Rattle.ccsl_event_file.specs.declared.fault.EventFault.TheVariants as faults
use Rattle.ccsl_triggers.specs.declared.watch.Part as parts
use Rattle.ccsl_triggers.specs.declared.watch.Goal as goals
use Rattle.ccsl_triggers.specs.declared.watch.Trigger as triggers
use Rattle.ccsl_triggers.specs.declared.watch.Trigger.TheVariants as t
use Rattle.ccsl_triggers.specs.declared.watch.Watch as watches
use Rattle.ccsl_events.specs.declared.binder.Source.{Source}
use Rattle.ccsl_events.specs.Dump.{Plan}
use Rattle.ccsl_events.specs.Binding.{Bound, Part, Goal, Trigger, rise, fall, change, becomes, record_of, Watch, goal_with, trigger_with, watch_with}
use Rattle.ccsl_events.specs.Binding.{read_by_trigger, read_by_goal, read_by, is_same, number_in}

-- ## What the code has, as it is said

abbrev pub seen_part : parts.Part → Part ℕ
seen_part p = record { variable = p.signal; bits = p.bits }

abbrev pub seen_goal : goals.Goal → Goal ℕ
seen_goal g = record { part = seen_part g.part; is_equal = g.is_equal; letters = g.letters.items }

abbrev pub seen_trigger : triggers.Trigger → Trigger ℕ
seen_trigger (t.Rise p) = rise (seen_part p)
seen_trigger (t.Fall p) = fall (seen_part p)
seen_trigger (t.Change p) = change (seen_part p)
seen_trigger (t.Becomes g) = becomes (seen_goal g)
seen_trigger (t.Record n) = record_of n

abbrev pub seen_goals : List goals.Goal → List (Goal ℕ)
seen_goals gs = map seen_goal gs

abbrev pub seen_watch : watches.Watch → Watch ℕ
seen_watch w = record { trigger = seen_trigger w.trigger; conditions = seen_goals w.conditions.items }

abbrev pub seen_watches : List watches.Watch → List (Watch ℕ)
seen_watches ws = map seen_watch ws

abbrev pub seen_plan : Plan → Bound
seen_plan p = record { codes = p.codes; variables = p.variables; watches = seen_watches p.watches; skips = p.skips }

-- ## The variables that are read

-- one behind others, unless it is among them
abbrev pub with_source : List Source → Source → List Source
with_source sources s = if list_any (is_same s) sources then sources else sources ++ s ∷ []

abbrev pub with_sources : List Source → List Source → List Source
with_sources sources [] = sources
with_sources sources (s ∷ ss) = with_sources (with_source sources s) ss

-- These variables were read, and what was made is the meaning by their numbers, whatever is read after them.
pub record Binds {M P : Type 0} (made : P) (with_numbers : (Source → ℕ) → M → P) (meaning : M) (read old new : List Source) : Type 0 where
  pub reads : new ≡ with_sources old read
  pub means : (more : List Source) → made ≡ with_numbers (number_in (new ++ more)) meaning

-- what was made is the meaning, or the fault is the first one, unless memory ran out
abbrev pub IsBound : {X M P : Type 0} → (X → P) → ((Source → ℕ) → M → P) → (M → List Source) →
    Result X EventFault → Result M EventFault → List Source → List Source → Type 0
IsBound seen with_numbers read (Ok x) (Ok m) old new = Binds (seen x) with_numbers m (read m) old new
IsBound seen with_numbers read (Ok x) (Err g) old new = ⊥
IsBound seen with_numbers read (Err f) (Ok m) old new = f ≡ faults.Memory
IsBound seen with_numbers read (Err f) (Err g) old new = (f ≡ g) ⊎ (f ≡ faults.Memory)

abbrev pub BindsGoal : Result goals.Goal EventFault → Result (Goal Source) EventFault → List Source → List Source → Type 0
BindsGoal result meaning old new = IsBound seen_goal goal_with (λ g. read_by_goal g ∷ []) result meaning old new

abbrev pub BindsTrigger : Result triggers.Trigger EventFault → Result (Trigger Source) EventFault → List Source → List Source → Type 0
BindsTrigger result meaning old new = IsBound seen_trigger trigger_with (λ g. read_by_trigger g ∷ []) result meaning old new

abbrev pub BindsGoals : Result (Vec goals.Goal Global) EventFault → Result (List (Goal Source)) EventFault → List Source → List Source → Type 0
BindsGoals result meaning old new =
    IsBound (λ gs. seen_goals gs.items) (λ name. map (goal_with name)) (flat_map (λ g. read_by_goal g ∷ [])) result meaning old new

abbrev pub BindsWatch : Result watches.Watch EventFault → Result (Watch Source) EventFault → List Source → List Source → Type 0
BindsWatch result meaning old new = IsBound seen_watch watch_with read_by result meaning old new

abbrev pub BindsWatches : Result (Vec watches.Watch Global) EventFault → Result (List (Watch Source)) EventFault → List Source → List Source → Type 0
BindsWatches result meaning old new =
    IsBound (λ ws. seen_watches ws.items) (λ name. map (watch_with name)) (flat_map read_by) result meaning old new
