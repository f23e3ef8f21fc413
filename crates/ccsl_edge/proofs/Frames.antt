-- What follows from the frame of a call, and the counts of faults.
use Rattle.std.proofs.Common.{◌≡◌, ℕ, ◌∙◌, subst, refl}
use Rattle.ccsl_edge.specs.declared.slot.Slot.{Slot}
use Rattle.ccsl_edge.specs.World.{State, Rose}
use Rattle.ccsl_edge.specs.Calls.{ChangesOnly}

-- where nothing happens, nothing but this slot has changed
pub ChangesOnly-same : (slot : Slot) (s : State) → ChangesOnly slot s s
ChangesOnly-same slot s = record { files = refl; others = λ _ _. refl }

-- what two calls leave as it was, both leave so in a row
pub ChangesOnly-then : (slot : Slot) (s t u : State) → ChangesOnly slot s t → ChangesOnly slot t u → ChangesOnly slot s u
ChangesOnly-then slot s t u p q = record {
  files = q.files ∙ p.files;
  others = λ other apart. q.others other apart ∙ p.others other apart;
}

-- a count that rose from a count that had stayed
pub Rose-after_same : (a b c : ℕ) → b ≡ a → Rose b c → Rose a c
Rose-after_same a b c same rose = let P : ℕ → Type 0 = λ n. Rose n c in subst P same rose
