-- THE CHOSEN SET AFTER SOME STEPS, as a function: the best of all admissible sets. This project's own.
use Rattle.std.specs.Prelude.{ℕ, List, Bool, not, ◌&&◌, ◌||◌, Option, find}
use Rattle.std.specs.List.{list_all, list_any}
use Rattle.ccsl_base.specs.Clocks.{ticks_in}
use Rattle.ccsl_formula.specs.Formula.{same}
use Rattle.ccsl_kernel.specs.Syntax.{System}
use Rattle.ccsl_kernel.specs.Lives.{Step, steps}
use Rattle.ccsl_items.specs.Admissible.{admissible_sets}
use Rattle.ccsl_policy.specs.declared.policies.Policy.{Policy}
use Rattle.ccsl_policy.specs.Priority.{word_of, comes_before, preferred}

-- whether s and t differ at clock c, where s has the preferred value, and at none of the m clocks that come before c by priority
abbrev pub decides : ℕ → Policy → List ℕ → Step → Step → ℕ → Bool
decides m policy words s t c =
    not (same (ticks_in c s) (ticks_in c t))
    && (same (ticks_in c s) (preferred policy (word_of words c))
    && list_all (λ d. not (comes_before words d c) || same (ticks_in d s) (ticks_in d t)) (steps 0 m))

-- whether s is better than t: at the first of the m clocks by priority at which they differ it has the preferred value
abbrev pub is_better : ℕ → Policy → List ℕ → Step → Step → Bool
is_better m policy words s t = list_any (decides m policy words s t) (steps 0 m)

-- whether none of some sets is better than s
abbrev pub is_best : ℕ → Policy → List ℕ → List Step → Step → Bool
is_best m policy words sets s = list_all (λ t. not (is_better m policy words t s)) sets

-- the best of the admissible sets, where there is one
unfoldable pub chosen : System → List Step → Policy → List ℕ → Option Step
chosen K T policy words = let sets = admissible_sets K T in find (is_best K.declared policy words sets) sets
