-- Worked examples of what events mean for a header, computed.
use Rattle.std.proofs.Common.{◌≡◌, ℕ, List, [], ◌∷◌, true, false, Result, Ok, Err, refl}
use Rattle.std.specs.Prelude.{codes}
use Rattle.std.specs.declared.vec.Vec.{Vec}
use Rattle.std.specs.declared.alloc.Global.{Global}
use Rattle.ccsl_scopes.specs.declared.select.Select.TheVariants.{Whole}
use Rattle.ccsl_scopes.specs.declared.variable.Kind.TheVariants.{Bits}
use Rattle.ccsl_scopes.specs.declared.variable.Variable as declared
use Rattle.ccsl_scopes.specs.Paths.{resolved}
use Rattle.ccsl_event_file.specs.declared.fault.EventFault.{EventFault}
use Rattle.ccsl_event_file.specs.declared.fault.EventFault.TheVariants as faults
use Rattle.ccsl_event_file.specs.File as file
use Rattle.ccsl_events.specs.Dump.{Variable}
use Rattle.ccsl_events.specs.Binding.{Part, Goal, rise, becomes, Watch, Bound, bound}

-- A header declares a bit `clock` in the scope `top`, and there beside it a `state` of four bits: these are their texts.
module _ (clock state : Vec ℕ Global) (is_clock : clock.items ≡ codes "top clock") (is_state : state.items ≡ codes "top state") where
  header : List declared.Variable
  header =
      record { kind = Bits; size = 1; code = 0; path = clock; bare = 9; range = Whole }
      ∷ record { kind = Bits; size = 4; code = 1; path = state; bare = 9; range = Whole } ∷ []

  path : ℕ → List ℕ → file.Path
  path at parts = file.path at parts Whole

  meaning : List file.Event → Result Bound EventFault
  meaning es = bound es header (codes "!" ∷ codes "%" ∷ []) false

  whole : ℕ → ℕ → Part ℕ
  whole number width = record { variable = number; bits = record { low = 0; width = width } }

  plan : List Variable → List (Watch ℕ) → Bound
  plan variables watches = record { codes = codes "!" ∷ codes "%" ∷ []; variables = variables; watches = watches; skips = false }

  -- tick = rise clock;
  rise_of_clock : meaning (file.event (codes "tick") (file.rise (path 17 (codes "clock"))) [] ∷ [])
      ≡ Ok (plan (record { code = codes "!"; size = 1 } ∷ []) (record { trigger = rise (whole 0 1); conditions = [] } ∷ []))
  unfolding header path meaning whole plan bound resolved
  rise_of_clock = rw (is_clock, is_state) refl

  -- tick = rise state;
  rise_of_state : meaning (file.event (codes "tick") (file.rise (path 17 (codes "state"))) [] ∷ []) ≡ Err (faults.NotOneBit 17)
  unfolding header path meaning bound resolved
  rise_of_state = rw (is_clock, is_state) refl

  -- tick = rise lock;
  unknown : meaning (file.event (codes "tick") (file.rise (path 17 (codes "lock"))) [] ∷ []) ≡ Err (faults.Unknown 17)
  unfolding header path meaning bound resolved
  unknown = rw (is_clock, is_state) refl

  -- three = becomes state == 3; tick = rise clock when state == 'bx; The value 3 is 0011, and x is xxxx.
  compared : List ℕ → file.Condition
  compared letters = record { path = path 22 (codes "top state"); is_equal = true; at = 31; letters = letters }

  goal : List ℕ → Goal ℕ
  goal letters = record { part = whole 0 4; is_equal = true; letters = letters }

  two_events : meaning (file.event (codes "three") (file.becomes (compared (codes "11"))) []
      ∷ file.event (codes "tick") (file.rise (path 45 (codes "clock"))) (compared (codes "x") ∷ []) ∷ [])
      ≡ Ok (plan (record { code = codes "%"; size = 4 } ∷ record { code = codes "!"; size = 1 } ∷ [])
      (record { trigger = becomes (goal (codes "0011")); conditions = [] } ∷ record { trigger = rise (whole 1 1); conditions = goal (codes "xxxx") ∷ [] } ∷ []))
  unfolding header path meaning whole plan bound resolved compared goal
  two_events = rw (is_clock, is_state) refl
