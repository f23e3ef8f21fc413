-- The test whether a set is better than another, as the record says it.
use Rattle.std.proofs.Common.{◌≡◌, ℕ, ◌<◌, List, Bool, true, false, not, ◌&&◌, ◌||◌, refl, sym, ap, ◌∙◌}
use Rattle.std.specs.List.{list_all}
use Rattle.std.proofs.lemmas.Bool.{and_parts, and_from}
use Rattle.ccsl_base.specs.Clocks.{ticks_in}
use Rattle.ccsl_formula.specs.Formula.{same, in_set}
use Rattle.ccsl_formula.specs.Truth.{Assignment}
use Rattle.ccsl_kernel.specs.Lives.{Step, steps}
use Rattle.ccsl_policy.specs.declared.policies.Policy.{Policy}
use Rattle.ccsl_policy.specs.Priority.{word_of, comes_before, preferred}
use Rattle.ccsl_policy.specs.Better.{IsBetter}
use Rattle.ccsl_simulate.specs.Chosen.{decides, is_better}
use Rattle.ccsl_items.proofs.Numbers.{each_below, all_below, any_below, some_below}
use Rattle.ccsl_formula.proofs.Same.{same-if, same-values}

differ-is : (a b : Bool) → not (same a b) ≡ true → a ≡ not b
differ-is true true h = absurd (cc)
differ-is true false h = refl
differ-is false true h = refl
differ-is false false h = absurd (cc)

is-differ : (a b : Bool) → a ≡ not b → not (same a b) ≡ true
is-differ true true e = absurd (cc)
is-differ true false e = refl
is-differ false true e = refl
is-differ false false e = absurd (cc)

implied : (a b : Bool) → (not a || b) ≡ true → a ≡ true → b ≡ true
implied true b h e = h
implied false b h e = absurd (cc)

implies : (a b : Bool) → (a ≡ true → b ≡ true) → (not a || b) ≡ true
implies true b h = h refl
implies false b h = refl

module _ (m : ℕ) (policy : Policy) (words : List ℕ) (s t : Step) where
  -- whether the sets agree at a clock, if it comes before c
  abbrev agree : ℕ → ℕ → Bool
  agree c d = not (comes_before words d c) || same (ticks_in d s) (ticks_in d t)

  pub better-is : is_better m policy words s t ≡ true → IsBetter m policy words (in_set s) (in_set t)
  better-is h =
      let q = any_below (decides m policy words s t) m h in
      let c = q.0 in
      let first = and_parts (not (same (ticks_in c s) (ticks_in c t)))
      (same (ticks_in c s) (preferred policy (word_of words c)) && list_all (agree c) (steps 0 m)) q.2 in
      let second = and_parts (same (ticks_in c s) (preferred policy (word_of words c))) (list_all (agree c) (steps 0 m)) first.1 in
      record {
        clock = c;
        declared = q.1;
        differ = differ-is (ticks_in c s) (ticks_in c t) first.0;
        preferred = same-values (ticks_in c s) (preferred policy (word_of words c)) second.0;
        before = λ d l b. same-values (ticks_in d s) (ticks_in d t)
            (implied (comes_before words d c) (same (ticks_in d s) (ticks_in d t)) (each_below (agree c) m second.1 d l) b);
      }

  pub is-better : IsBetter m policy words (in_set s) (in_set t) → is_better m policy words s t ≡ true
  is-better h =
      let c = h.clock in
      some_below (decides m policy words s t) m c h.declared
      (and_from (not (same (ticks_in c s) (ticks_in c t))) (same (ticks_in c s) (preferred policy (word_of words c)) && list_all (agree c) (steps 0 m))
      (is-differ (ticks_in c s) (ticks_in c t) h.differ)
      (and_from (same (ticks_in c s) (preferred policy (word_of words c))) (list_all (agree c) (steps 0 m))
      (same-if (ticks_in c s) (preferred policy (word_of words c)) h.preferred)
      (all_below (agree c) m (λ d l. implies (comes_before words d c) (same (ticks_in d s) (ticks_in d t))
      (λ b. same-if (ticks_in d s) (ticks_in d t) (h.before d l b))))))

-- sets that have the same declared members are better than the same sets
pub better-same : (m : ℕ) (policy : Policy) (words : List ℕ) (s t s' t' : Assignment) → ((c : ℕ) → c < m → s c ≡ s' c) → ((c : ℕ) → c < m → t c ≡ t' c)
    → IsBetter m policy words s t → IsBetter m policy words s' t'
better-same m policy words s t s' t' e f h = record {
  clock = h.clock;
  declared = h.declared;
  differ = sym (e h.clock h.declared) ∙ h.differ ∙ ap not (f h.clock h.declared);
  preferred = sym (e h.clock h.declared) ∙ h.preferred;
  before = λ d l b. sym (e d l) ∙ h.before d l b ∙ f d l;
}
