-- A name is set off by a variable alone of which something was recorded at the time.
use Rattle.std.proofs.Common.{◌≡◌, ℕ, List, Bool, true, false, not, ◌&&◌, Option, Some, None, refl, ap, ◌∙◌, bytes_eq}
use Rattle.std.specs.Prelude.{codes}
use Rattle.ccsl_base.proofs.Tables.{bytes_eq-refl}
use Rattle.ccsl_triggers.specs.declared.watch.Trigger.{Trigger}
use Rattle.ccsl_triggers.specs.declared.watch.Trigger.TheVariants.{Rise, Fall, Change, Becomes, Record}
use Rattle.ccsl_triggers.specs.Views.{View}
use Rattle.ccsl_triggers.specs.Held.{IsQuiet}
use Rattle.ccsl_triggers.specs.Triggers.{part, rises, falls, differs, meets, begins, of_values, of_view, of_part, variable_of, sets_off}

both_ways : (b : Bool) → (b && not b) ≡ false
both_ways true = refl
both_ways false = refl

same_values : (test : List ℕ → List ℕ → Bool) → ((x : List ℕ) → test x x ≡ false) → (o : Option (List ℕ)) → of_values test o o ≡ false
same_values test never None = refl
same_values test never (Some x) = never x

quiet_view : (test : List ℕ → List ℕ → Bool) → ((x : List ℕ) → test x x ≡ false) → (v : View) → IsQuiet v → of_view test v ≡ false
quiet_view test never v q = ap (λ b. of_values test b v.after) q.same ∙ same_values test never v.after

pub sets_off-quiet : (t : Trigger) (v : ℕ → View) → IsQuiet (v (variable_of t)) → sets_off t v ≡ false
sets_off-quiet (Rise p) v q = quiet_view (of_part rises p.bits) (λ x. both_ways (bytes_eq (part p.bits x) (codes "1"))) (v p.signal) q
sets_off-quiet (Fall p) v q = quiet_view (of_part falls p.bits) (λ x. both_ways (bytes_eq (part p.bits x) (codes "0"))) (v p.signal) q
sets_off-quiet (Change p) v q = quiet_view (of_part differs p.bits) (λ x. ap not (bytes_eq-refl (part p.bits x) (part p.bits x) refl)) (v p.signal) q
sets_off-quiet (Becomes g) v q = quiet_view (begins g) (λ x. both_ways (meets g x)) (v g.part.signal) q
sets_off-quiet (Record n) v q = q.unheard
