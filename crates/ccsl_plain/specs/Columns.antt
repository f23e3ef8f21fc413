-- The deaths of the defined clocks over a list of steps, a column for each clock.
use Rattle.std.specs.Prelude.{ℕ, zero, suc, ◌+◌, List, [], ◌∷◌, ◌++◌, Bool, map, length}
use Rattle.ccsl_kernel.specs.Syntax.{System, definition_of}
use Rattle.ccsl_kernel.specs.Lives.{Step, steps}
use Rattle.ccsl_kernel.specs.Meaning.{definition_dead, dead_below}

-- whether clock x is dead, at each position from 0 to the end of the steps
abbrev pub column : System → List Step → ℕ → List Bool
column K T x = map (λ n. definition_dead K T (dead_below K T x) n (definition_of K x)) (steps 0 (suc (length T)))

-- those of the first j defined clocks
abbrev pub columns : System → List Step → ℕ → List (List Bool)
columns K T zero = []
columns K T (suc j) = columns K T j ++ column K T (K.declared + j) ∷ []
