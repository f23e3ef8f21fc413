-- THE ADMISSIBLE SETS AFTER SOME STEPS, as a list: the sets of declared clocks that may be the next step of a run.
use Rattle.std.specs.Prelude.{ℕ, zero, suc, List, [], ◌∷◌, ◌++◌, Bool, not, ◌&&◌, map, filter, length}
use Rattle.std.specs.List.{list_all}
use Rattle.ccsl_base.specs.Empty.{is_empty}
use Rattle.ccsl_kernel.specs.Syntax.{System, item_count}
use Rattle.ccsl_kernel.specs.Lives.{Step, steps}
use Rattle.ccsl_kernel.specs.Runs.{holds_at, completed, declared_part}

-- all sets of clocks below m
abbrev pub sets_below : ℕ → List Step
sets_below zero = [] ∷ []
sets_below (suc m) = sets_below m ++ map (λ s. s ++ m ∷ []) (sets_below m)

-- whether each item holds at each step
abbrev pub is_run : System → List Step → Bool
is_run K T = list_all (λ n. list_all (holds_at K T n) (steps 0 (item_count K))) (steps 0 (length T))

-- whether a set of declared clocks is admissible: it is not empty, and the steps T go on as a run by it and the defined clocks that it gives
abbrev pub is_admissible : System → List Step → Step → Bool
is_admissible K T s = not (is_empty s) && is_run K (completed K (map (declared_part K) T ++ s ∷ []))

abbrev pub admissible_sets : System → List Step → List Step
admissible_sets K T = filter (is_admissible K T) (sets_below K.declared)
