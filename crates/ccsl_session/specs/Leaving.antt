-- WHAT A SESSION LEAVES of a world, where it has ended and where it is cut short.
use Rattle.std.specs.Prelude.{◌≡◌, ◌≢◌, ◌⊎◌, ℕ, ◌≤◌, List, ◌++◌, take, IsTrue}
use Rattle.ccsl_edge.specs.declared.slot.Slot.{Slot}
use Rattle.ccsl_edge.specs.declared.slot.Slot.TheVariants.{Input, Report}
use Rattle.ccsl_edge.specs.World.{State, Told, Rose}
use Rattle.ccsl_kernel.specs.Syntax.{System}
use Rattle.ccsl_policy.specs.declared.policies.Policy.{Policy}
use Rattle.ccsl_session.specs.declared.answer.Ended.{Ended}
use Rattle.ccsl_edge.specs.declared.stop.Stop.{Stop}
use Rattle.ccsl_edge.specs.declared.stop.Stop.TheVariants.{Fault, Memory}
use Rattle.ccsl_session.specs.Session.{session_text, ended_by}
use Rattle.ccsl_session.specs.Rest.{LeavesRest}

module _ (told : Told) (K : System) (policy : Policy) (seed limit : ℕ) (old new : State) where
  -- standard input was read, the report has grown by a text, and nothing else has changed but counts of faults of the two
  pub record Says (text : List ℕ) : Type 0 where
    pub files : new.files ≡ old.files
    pub others : (slot : Slot) → slot ≢ Input → slot ≢ Report → new.slot_of slot ≡ old.slot_of slot
    pub input : new.slot_of Input ≡ record (old.slot_of Input) { left = (new.slot_of Input).left; faults = (new.slot_of Input).faults }
    pub report : new.slot_of Report ≡ record (old.slot_of Report) { written = (new.slot_of Report).written; faults = (new.slot_of Report).faults }
    pub grows : IsTrue told.written → (new.slot_of Report).written ≡ (old.slot_of Report).written ++ text

  -- the count of each of the two is as it was
  pub record SameCounts : Type 0 where
    pub input : (new.slot_of Input).faults ≡ (old.slot_of Input).faults
    pub report : (new.slot_of Report).faults ≡ (old.slot_of Report).faults

  pub record HasEnded (ended : Ended) : Type 0 where
    pub text : List ℕ
    pub says : Says text
    pub counts : SameCounts
    pub all : IsTrue told.left → text ≡ session_text K policy seed limit (old.slot_of Input).left
    pub by : IsTrue told.left → ended ≡ ended_by K policy seed limit (old.slot_of Input).left
    pub rest : IsTrue told.left → LeavesRest limit (old.slot_of Input).left (new.slot_of Input).left

  -- a call failed on one of the two, and no count fell
  pub record Fails : Type 0 where
    pub one : Rose (old.slot_of Input).faults (new.slot_of Input).faults ⊎ Rose (old.slot_of Report).faults (new.slot_of Report).faults
    pub input : (old.slot_of Input).faults ≤ (new.slot_of Input).faults
    pub report : (old.slot_of Report).faults ≤ (new.slot_of Report).faults

  abbrev pub IsCause : Stop → Type 0
  IsCause Fault = Fails
  IsCause Memory = SameCounts

  -- a front of the answers was written
  pub record IsCut (fault : Stop) : Type 0 where
    pub text : List ℕ
    pub says : Says text
    pub cause : IsCause fault
    pub front : IsTrue told.left → (n : ℕ) × (text ≡ take n (session_text K policy seed limit (old.slot_of Input).left))
    pub rest : IsTrue told.left → LeavesRest limit (old.slot_of Input).left (new.slot_of Input).left
