-- What happens depends on the views of the variables alone.
use Rattle.std.proofs.Common.{◌≡◌, ℕ, List, [], ◌∷◌, ◌&&◌, refl, ap, ap₂}
use Rattle.std.specs.List.{list_all}
use Rattle.ccsl_triggers.specs.declared.watch.Goal.{Goal}
use Rattle.ccsl_triggers.specs.declared.watch.Watch.{Watch}
use Rattle.ccsl_triggers.specs.declared.watch.Trigger.{Trigger}
use Rattle.ccsl_triggers.specs.declared.watch.Trigger.TheVariants.{Rise, Fall, Change, Becomes, Record}
use Rattle.ccsl_triggers.specs.Views.{View}
use Rattle.ccsl_triggers.specs.Triggers.{rises, falls, differs, begins, of_view, of_part, sets_off, met_by, held_before, happens}

sets_off-alike : (t : Trigger) (u v : ℕ → View) → ((n : ℕ) → u n ≡ v n) → sets_off t u ≡ sets_off t v
sets_off-alike (Rise p) u v same = ap (of_view (of_part rises p.bits)) (same p.signal)
sets_off-alike (Fall p) u v same = ap (of_view (of_part falls p.bits)) (same p.signal)
sets_off-alike (Change p) u v same = ap (of_view (of_part differs p.bits)) (same p.signal)
sets_off-alike (Becomes g) u v same = ap (of_view (begins g)) (same g.part.signal)
sets_off-alike (Record n) u v same = ap (λ w. w.heard) (same n)

held-alike : (gs : List Goal) (u v : ℕ → View) → ((n : ℕ) → u n ≡ v n) → list_all (held_before u) gs ≡ list_all (held_before v) gs
held-alike [] u v same = refl
held-alike (g ∷ gs) u v same = ap₂ ◌&&◌ (ap (λ w. met_by g w.before) (same g.part.signal)) (held-alike gs u v same)

pub happens-alike : (w : Watch) (u v : ℕ → View) → ((n : ℕ) → u n ≡ v n) → happens w u ≡ happens w v
happens-alike w u v same = ap₂ ◌&&◌ (sets_off-alike w.trigger u v same) (held-alike w.conditions.items u v same)
