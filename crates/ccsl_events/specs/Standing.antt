-- What a body that is being read stands for: a place among its tokens.
use Rattle.std.specs.Prelude.{◌≡◌, ◌⊎◌, ℕ, ◌-◌, ◌^◌, min, List, ◌++◌, Bool, true, false, Result, Ok, Err}
use Rattle.ccsl_vcd.specs.declared.fault.VcdFault.{VcdFault}
use Rattle.ccsl_vcd.specs.declared.fault.VcdFault.TheVariants as faults
use Rattle.ccsl_events.specs.declared.body.Body.{Body}
use Rattle.ccsl_events.specs.declared.body.Gaps.{Gaps}
use Rattle.ccsl_events.specs.declared.body.Gaps.TheVariants.{Refuse, Skip}
use Rattle.ccsl_events.specs.declared.body.Amid as k
use Rattle.ccsl_events.specs.declared.body.Amid.TheVariants.{Changes, Remark, Code, CodeSkipped}
use Rattle.ccsl_events.specs.Dump.{Plan, Place, Amid, changes, remark, code_of, code_skipped, Said, goes, refused}
use Rattle.ccsl_events.specs.Keeping.{Keeps}

abbrev pub are_skipped : Gaps → Bool
are_skipped Refuse = false
are_skipped Skip = true

-- what the next token is, and the letters of the vector whose code it is
abbrev pub IsAmid : k.Amid → List ℕ → Amid → Type 0
IsAmid kind letters changes = kind ≡ Changes
IsAmid kind letters remark = kind ≡ Remark
IsAmid kind letters (code_of of) = (kind ≡ Code) × (letters ≡ of)
IsAmid kind letters code_skipped = kind ≡ CodeSkipped

-- a count in 64 bits, which stays at the largest number
abbrev pub counted : ℕ → ℕ
counted n = min n (2 ^ 64 - 1)

pub record Stands (plan : Plan) (p : Place) (b : Body) : Type 0 where
  pub keeps : Keeps plan p.views b.values
  pub amid : IsAmid b.amid b.letters.items p.amid
  pub dumping : b.is_dumping ≡ p.dumping
  pub recording : b.is_on ≡ p.recording
  pub now : b.present ≡ p.now
  pub skips : are_skipped b.gaps ≡ plan.skips
  pub times : b.times ≡ counted p.times

-- the next place, and what is written on the way there, behind what was written before
pub record Follows (plan : Plan) (before : List ℕ) (q : Place) (b : Body) (old new : List ℕ) : Type 0 where
  pub stands : Stands plan q b
  pub more : List ℕ
  pub out : new ≡ old ++ more
  pub written : q.written ≡ before ++ more

-- What was answered, and what was left, is what is said, unless memory ran out. Where it is refused nothing is written.
abbrev pub Answers : Plan → List ℕ → Said → Result (Unit {0}) VcdFault → Body → List ℕ → List ℕ → Type 0
Answers plan before (goes q) (Ok u) b old new = Follows plan before q b old new
Answers plan before (goes q) (Err f) b old new = f ≡ faults.Memory
Answers plan before (refused g) (Ok u) b old new = ⊥
Answers plan before (refused g) (Err f) b old new = ((f ≡ g) × (new ≡ old)) ⊎ (f ≡ faults.Memory)
