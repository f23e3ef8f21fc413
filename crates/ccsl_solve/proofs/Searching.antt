-- The steps of the search, as values of all clocks before and after them.
use Rattle.std.proofs.Common.{◌≡◌, ◌<◌, ℕ, List, ◌++◌, append_assoc, true, ap, ◌∙◌}
use Rattle.ccsl_formula.specs.declared.truth3.Truth3.TheVariants.{Open}
use Rattle.ccsl_formula.specs.Truth.{Part}
use Rattle.ccsl_formula.specs.Known.{with_truth}
use Rattle.ccsl_refute.specs.declared.line.Lit.{Lit}
use Rattle.ccsl_refute.specs.declared.line.Line.{Line}
use Rattle.ccsl_guide.specs.declared.problem.Problem.{Problem}
use Rattle.ccsl_guide.specs.declared.reason.Reason.{Reason}
use Rattle.ccsl_guide.specs.declared.reason.Reason.TheVariants.{Item, Clause}
use Rattle.ccsl_solve.specs.Under.{open_count, with_lit}
use Rattle.ccsl_solve.specs.Posed.{IsSound}
use Rattle.ccsl_solve.specs.Reasons.{refutes, IsForced}
use Rattle.ccsl_solve.specs.declared.conflict.Conflict.{Conflict}
use Rattle.ccsl_solve.specs.Conflict.{IsConflictWith, Extends, AddsLines}
use Rattle.ccsl_solve.specs.Plan.{AreSettled}
use Rattle.ccsl_solve.proofs.Best.{settled-with}
use Rattle.ccsl_solve.proofs.Parts.{undone, fewer-open, inside-with}
use Rattle.ccsl_solve.proofs.Lines.{fails-extended}
use Rattle.ccsl_solve.proofs.Conflicts.{conflict-more}

-- a value that is given and taken away again
pub back-of : {p q r : Part} (l : Lit) → q ≡ with_lit p l → r ≡ with_truth q l.clock Open → p l.clock ≡ Open → r ≡ p
back-of {p} l set back free = back ∙ ap (λ (w : Part). with_truth w l.clock Open) set ∙ undone p l.clock l.positive free

refutes-more : (q : Problem) (lines new : List Line) (p : Part) (r : Reason) → Extends lines new →
    refutes q lines p r ≡ true → refutes q new p r ≡ true
refutes-more q lines new p (Item k) x h = h
refutes-more q lines new p (Clause j) x h = fails-extended q.scope.declared lines new p j x h

-- lines that are added behind added ones
pub adds-more : {q : Problem} {lines mid new : List Line} → AddsLines q lines mid → AddsLines q mid new → AddsLines q lines new
adds-more {lines} a b = record {
  extends = record {
    added = a.extends.added ++ b.extends.added;
    is = b.extends.is ∙ ap (λ l. l ++ b.extends.added) a.extends.is ∙ append_assoc lines a.extends.added b.extends.added;
  };
  valid = b.valid;
}

-- what holds of some values holds after a search that adds lines and leaves the values
pub sound-after : {q : Problem} {lines new : List Line} {p m : Part} → AddsLines q lines new → m ≡ p → IsSound q lines p → IsSound q new m
sound-after a same h = record { posed = h.posed; valid = a.valid; inside = rw same h.inside }

pub forced-after : {q : Problem} {lines new : List Line} {p m : Part} (l : Lit) (r : Reason) → AddsLines q lines new → m ≡ p →
    IsForced q lines p l r → IsForced q new m l r
forced-after {q} {lines} {new} {p} l r a same h = rw same (refutes-more q lines new _ r a.extends h)

pub conflict-after : {q : Problem} {lines new : List Line} {p m : Part} {l : Lit} {c : Conflict} → AddsLines q lines new → m ≡ p →
    IsConflictWith q lines p l c → IsConflictWith q new m l c
conflict-after a same h = record { conflict = rw same (conflict-more a.extends h.conflict); uses = h.uses }

-- what a search with a literal requires, and that fewer clocks are open there
pub onward : {q : Problem} {lines : List Line} {p m : Part} (l : Lit) (n : ℕ) → m ≡ with_lit p l → l.clock < q.scope.named → p l.clock ≡ Open →
    IsSound q lines p → AreSettled q.wishes.now n p →
    (open_count q.scope.named m < open_count q.scope.named p) × IsSound q lines m × AreSettled q.wishes.now n m
onward {q} {p} l n set named free sound settled = (
  rw set (fewer-open q.scope.named l.clock l.positive p named free),
  record {
    posed = sound.posed;
    valid = sound.valid;
    inside = rw set (inside-with q.scope.named l.clock l.positive p named sound.inside);
  },
  rw set (settled-with q.wishes.now n l.clock l.positive p settled),
)
