-- AN OUTCOME OF THE PROGRAM: the exit status, the text that is reported, and the files that are written.
use Rattle.std.specs.Prelude.{ℕ, List, []}
use Rattle.ccsl_edge.specs.declared.slot.Slot.{Slot}

-- a file that is written, through which slot, with its content
pub record Output : Type 0 where
  pub slot : Slot
  pub name : List ℕ
  pub content : List ℕ

pub record Outcome : Type 0 where
  pub status : ℕ
  pub report : List ℕ
  pub outputs : List Output

-- one that writes no file
abbrev pub outcome : ℕ → List ℕ → Outcome
outcome status report = record { status = status; report = report; outputs = [] }
