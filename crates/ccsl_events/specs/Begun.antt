-- What stands at the beginning of a dump's body, for events that are bound to its header.
use Rattle.std.specs.Prelude.{◌≡◌, ◌⊎◌, ℕ, List, map, Result, Ok, Err}
use Rattle.std.specs.declared.vec.Vec.{Vec}
use Rattle.std.specs.declared.alloc.Global.{Global}
use Rattle.ccsl_event_file.specs.declared.fault.EventFault.{EventFault}
use Rattle.ccsl_event_file.specs.declared.fault.EventFault.TheVariants as faults
use Rattle.ccsl_triggers.specs.declared.watch.Watch.{Watch}
use Rattle.ccsl_events.specs.declared.binder.Source.{Source}
use Rattle.ccsl_events.specs.declared.binding.Refused.{Refused}
use Rattle.ccsl_events.specs.declared.body.Body.{Body}
use Rattle.ccsl_events.specs.declared.body.Gaps.{Gaps}
use Rattle.ccsl_events.specs.Dump.{Plan, begin}
use Rattle.ccsl_events.specs.Standing.{are_skipped, Stands}
use Rattle.ccsl_events.specs.Binding.{Bound, variable_of}
use Rattle.ccsl_events.specs.Binds.{seen_plan}

abbrev pub plan_of : List (List ℕ) → List Source → Vec Watch Global → Gaps → Plan
plan_of codes sources watches gaps =
    record { codes = codes; variables = map (variable_of codes) sources; watches = watches.items; skips = are_skipped gaps }

-- the body stands at its beginning, by the plan that the events mean
pub record StandsFor (meaning : Result Bound EventFault) (b : Body) : Type 0 where
  pub plan : Plan
  pub means : meaning ≡ Ok (seen_plan plan)
  pub stands : Stands plan begin b

abbrev pub Begins : Result Body EventFault → Result Bound EventFault → Type 0
Begins (Ok b) meaning = StandsFor meaning b
Begins (Err f) meaning = (meaning ≡ Err f) ⊎ (f ≡ faults.Memory)

-- THE EVENTS ARE BOUND: the body stands for their meaning, or what is refused is their first fault, unless memory ran out
abbrev pub IsBegun : Result Body Refused → Result Bound EventFault → Type 0
IsBegun (Ok b) meaning = StandsFor meaning b
IsBegun (Err r) meaning = (meaning ≡ Err r.fault) ⊎ (r.fault ≡ faults.Memory)
