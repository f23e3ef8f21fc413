-- THE PROMISE OF THE PROGRAM'S ONE CALL: the answer of `ccsl`, and behind it nothing but reading, and a report that goes on.
use Rattle.std.specs.Prelude.{◌≡◌, ◌≢◌, ◌⊎◌, ℕ, ◌≤◌, List, ◌++◌, Bool, true, false, IsTrue}
use Rattle.ccsl_edge.specs.declared.slot.Slot.{Slot}
use Rattle.ccsl_edge.specs.declared.slot.Slot.TheVariants.{Report}
use Rattle.ccsl_edge.specs.World.{State, Told}
use Rattle.ccsl_edge.specs.Counts.{SameCounts}
use Rattle.ccsl_top.specs.Headline.{Headline}
use Rattle.ccsl_follow.specs.OnlyReads.{is_file_read}

-- WHAT FOLLOWS BEHIND THE ANSWER, from the world as `ccsl` leaves it to the last one, each sentence a field
pub record Follows (told : Told) (mid now : State) : Type 0 where
  -- what was reported stays, and the report goes on behind it
  pub report : IsTrue told.written → (more : List ℕ) × ((now.slot_of Report).written ≡ (mid.slot_of Report).written ++ more)
  pub reported : now.slot_of Report ≡ record (mid.slot_of Report) { written = (now.slot_of Report).written; faults = (now.slot_of Report).faults }
  -- every file is as it was
  pub files : now.files ≡ mid.files
  -- every slot but the report's through which no file is read is as it was: nothing else is written, and of standard input nothing is read
  pub others : (slot : Slot) → slot ≢ Report → is_file_read slot ≡ false → now.slot_of slot ≡ mid.slot_of slot
  -- of a slot through which a file is read all is as it was but the bytes left and the count of faults
  pub read : (slot : Slot) → is_file_read slot ≡ true →
      now.slot_of slot ≡ record (mid.slot_of slot) { left = (now.slot_of slot).left; faults = (now.slot_of slot).faults }
  -- no count of faults falls
  pub rises : (slot : Slot) → (mid.slot_of slot).faults ≤ (now.slot_of slot).faults

pub record Shows (told : Told) (words : List (List ℕ)) (status : ℕ) (is_shown : Bool) (old now : State) : Type 0 where
  -- the world as `ccsl` leaves it
  pub mid : State
  -- THE ANSWER, its report and its status are those of `ccsl`
  pub answers : Headline told words status old mid
  pub follows : Follows told mid now
  -- where a file failed or memory was wanting, nothing follows
  pub ends : (status ≡ 5) ⊎ (status ≡ 6) → now ≡ mid
  -- where all was shown that there is, no call failed on the way
  pub calm : is_shown ≡ true → SameCounts mid now
