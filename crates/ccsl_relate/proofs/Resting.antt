-- Rows behind a violation change no answer.
use Rattle.std.proofs.Common.{◌≡◌, ℕ, ◌+◌, List, [], ◌∷◌, ◌++◌, length, Some}
use Rattle.std.proofs.Common.{None, true, refl, sym, ap, ◌∙◌, subst, append_assoc, length-append}
use Rattle.std.proofs.lemmas.Bool.{and_parts, and_from}
use Rattle.std.proofs.lemmas.List.{append-nil}
use Rattle.std.proofs.lemmas.List.Folds.{list_all-append}
use Rattle.ccsl_base.specs.Clocks.{is_ascending}
use Rattle.ccsl_base.specs.declared.rows.Row.{Row}
use Rattle.ccsl_kernel.specs.Syntax.{System}
use Rattle.ccsl_kernel.specs.Accepted.{IsAccepted}
use Rattle.ccsl_relate.specs.declared.violation.Violation.{Violation}
use Rattle.ccsl_relate.specs.Violations.{IsFirst, Finds}
use Rattle.ccsl_relate.specs.Watching.{Watching, are_sets, StandsFor}
use Rattle.ccsl_relate.specs.Taking.{Takes}
use Rattle.ccsl_relate.proofs.Finding.{first-stays}
use Rattle.ccsl_relate.proofs.History.{sets-snoc}

stays-first : (K : System) → IsAccepted K → (recorded : List ℕ) (start count : ℕ) (x : Violation) (rows more : List Row) → are_sets rows ≡ true
    → are_sets more ≡ true
    → IsFirst K recorded rows start count x → IsFirst K recorded (rows ++ more) start count x
stays-first K ok recorded start count x rows [] s t f = subst (λ rs. IsFirst K recorded rs start count x) (sym (append-nil rows)) f
stays-first K ok recorded start count x rows (row ∷ more) s t f =
    let p = and_parts (is_ascending row.ticks) (are_sets more) t in
    subst (λ rs. IsFirst K recorded rs start count x) (append_assoc rows (row ∷ []) more)
    (stays-first K ok recorded start count x (rows ++ row ∷ []) more (sets-snoc rows row s p.0) p.1 (first-stays K ok recorded rows row s p.0 start count x f))

pub stands-still : (recorded : List ℕ) (v : Watching) (rows more : List Row) (x : Violation) → v.first ≡ Some x → are_sets more ≡ true
    → StandsFor recorded v rows → StandsFor recorded (record v { steps = v.steps + length more }) (rows ++ more)
stands-still recorded v rows more x e sets s = record {
  accepted = s.accepted;
  items = s.items;
  sets = list_all-append (λ (row : Row). is_ascending row.ticks) rows more ∙ and_from (are_sets rows) (are_sets more) s.sets sets;
  steps = ap (λ n. n + length more) s.steps ∙ sym (length-append rows more);
  first = rw e
      (stays-first v.system s.accepted recorded v.start (length v.kept) x rows more s.sets sets
      (subst (Finds v.system recorded rows v.start (length v.kept)) e s.first));
  follows = λ n. absurd (let z : None ≡ Some x = sym n ∙ e in cc);
}

pub rests : {v w : Watching} {more : List Row} {x : Violation} → v.first ≡ Some x → are_sets more ≡ true → w ≡ record v { steps = v.steps + length more }
    → Takes v w more
rests {v} {w} {more} {x} e sets is = rw is
    (record { system = refl; start = refl; count = refl; stands = λ recorded rows s few. stands-still recorded v rows more x e sets s })
