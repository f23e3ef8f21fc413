-- Which leads are followed: none where the trace is left at a step, and to its end those of each clock that is written in the system.
use Rattle.std.specs.Prelude.{◌≡◌, ◌<◌, ℕ, List, [], Option, Some, None, map}
use Rattle.std.specs.List.{range_with_len}
use Rattle.ccsl_causes.specs.declared.leads.Lead.{Lead}
use Rattle.ccsl_causes.specs.Leading.{leads_of}
use Rattle.ccsl_kernel.specs.Syntax.{System}
use Rattle.ccsl_follow.specs.declared.until.Until.{Until}
use Rattle.ccsl_follow.specs.declared.until.Until.TheVariants.{Step, End}

-- to its end there are none only where no clock has one
abbrev pub AreLeads : System → Until → Option (List (List Lead)) → Type 0
AreLeads K (Step last) leads = leads ≡ None
AreLeads K (End steps) (Some leads) = leads ≡ map (leads_of K) (range_with_len 0 K.written)
AreLeads K (End steps) None = (x : ℕ) → x < K.written → leads_of K x ≡ []
