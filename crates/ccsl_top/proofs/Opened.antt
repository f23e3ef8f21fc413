-- A file that was opened and read.
use Rattle.std.proofs.Common.{◌≡◌, ℕ, List, Some, sym, ap, ◌∙◌}
use Rattle.ccsl_edge.specs.declared.slot.Slot.{Slot}
use Rattle.ccsl_edge.specs.World.{State, SlotState, Told}
use Rattle.ccsl_edge.specs.Calls.{ChangesOnly, Fails, OpensIn, ReadsThenFails, ReadsAll, ReadsTooMuch}
use Rattle.ccsl_edge.specs.Calls as edge
use Rattle.ccsl_top.specs.Changes.{Reads}
use Rattle.ccsl_top.specs.Reading.{only, IsFile, Breaks}
use Rattle.ccsl_top.proofs.Effects.{reads-only, breaks-only}

only-then : (slot : Slot) (s t u : State) → ChangesOnly slot s t → ChangesOnly slot t u → ChangesOnly slot s u
only-then slot s t u p q = record { files = q.files ∙ p.files; others = λ other n. q.others other n ∙ p.others other n }

left-then : (a b c : SlotState) → b ≡ record a { left = b.left } → c ≡ record b { left = c.left } → c ≡ record a { left = c.left }
left-then a b c p q = q ∙ ap (λ (x : SlotState). let S : SlotState = record x { left = c.left } in S) p

faults-alone : (a b : SlotState) → b ≡ record a { faults = b.faults } → b ≡ record a { left = b.left; faults = b.faults }
faults-alone a b p = p ∙ sym (ap (λ n. let S : SlotState = record a { left = n; faults = b.faults } in S) (ap (λ s. s.left) p))

pub fails-breaks : (slot : Slot) (s t : State) → Fails slot s t → Breaks slot s t
fails-breaks slot s t f = breaks-only slot s t f.only (faults-alone (s.slot_of slot) (t.slot_of slot) f.here) f.rose

module _ (told : Told) (slot : Slot) (name : List ℕ) (s t u : State) (opens : OpensIn told slot name s t) where
  pub opened-reads : (bytes : List ℕ) → edge.Reads told slot bytes t u → Reads (only slot) s u
  opened-reads bytes r =
      reads-only slot s u (only-then slot s t u opens.only r.only) (left-then (s.slot_of slot) (t.slot_of slot) (u.slot_of slot) opens.here r.here)

  pub whole-file : (limit : ℕ) (all : List ℕ) → ReadsAll told slot limit all t u → IsFile told s.files name limit (Some all)
  whole-file limit all r = (r.within, λ f l. sym (r.whole l) ∙ opens.bytes f l)
