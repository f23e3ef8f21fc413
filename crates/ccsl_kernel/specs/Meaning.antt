-- THE MEANING OF AN EXPRESSION: its formula and its death, read off all steps since its birth.
use Rattle.std.specs.Prelude.{ℕ, zero, suc, ◌+◌, List, [], Bool, true, false, Option, Some, None, map, length, nat_eq, if◌then◌else◌}
use Rattle.ccsl_formula.specs.Formula.{Formula, FVar}
use Rattle.ccsl_kernel.specs.declared.actual.Actual.TheVariants as actual
use Rattle.ccsl_kernel.specs.Syntax.{Expression, EName, ECall, ENever, EBinary, EDelay, EAwait, EFilter, EDelayed, EIf, System, root_of, definition_of}
use Rattle.ccsl_kernel.specs.Actuals.{Actual, place_of, number_of, suffix_of, value_of, test_of, word_of}
use Rattle.ccsl_kernel.specs.Table.{never_row, delay_row, await_row, filter_row, delayed_row}
use Rattle.ccsl_kernel.specs.Lives.{Step, Life, over_one, over_two, joined}

-- gone n x: whether clock x is dead at n
module _ (K : System) (T : List Step) (gone : ℕ → ℕ → Bool) where
  -- a name: the clock itself
  abbrev pub named : Actual → Life
  named (actual.Clock x) = λ b n. record { formula = FVar x; dead = gone n x }
  named _ = λ b n. never_row

  -- One line an expression. calls group member ρ: the life of a group's member under actual parameters
  abbrev pub life : (ℕ → ℕ → List Actual → Life) → Expression → List Actual → Life
  life calls (EName x) ρ = named (place_of x ρ)
  life calls (ECall group member args) ρ = calls group member (map (value_of K.words ρ) args)
  life calls ENever ρ = λ b n. never_row
  life calls (EBinary op a d) ρ = joined T op (life calls a ρ) (life calls d ρ)
  life calls (EDelay a m) ρ = over_one T (delay_row (number_of m ρ)) (life calls a ρ)
  life calls (EAwait a m) ρ = over_one T (await_row (number_of m ρ)) (life calls a ρ)
  life calls (EFilter a w) ρ = let s = suffix_of K.words w ρ in over_one T (filter_row (word_of K.words s.word) s.offset) (life calls a ρ)
  life calls (EDelayed a m d) ρ = over_two T (delayed_row m) (life calls a ρ) (life calls d ρ)
  life calls (EIf q a d) ρ = if test_of K.words q ρ then life calls a ρ else life calls d ρ

  -- members of groups, through at most so many calls one in another
  abbrev pub bodies : ℕ → ℕ → ℕ → List Actual → Life
  bodies zero group member ρ = λ b n. never_row
  bodies (suc depth) group member ρ = life (bodies depth) (root_of K group member) ρ

  -- as many calls as there can be: each is of an earlier group, or its body is born later
  abbrev pub call_depth : ℕ
  call_depth = length K.groups + length T

  -- the meaning of an expression, where it is known which clocks are dead
  abbrev pub life_given : Expression → List Actual → Life
  life_given = life (bodies call_depth)

-- a defined clock is dead at n where its definition, born at 0, is; a declared one never is
abbrev pub definition_dead : System → List Step → (ℕ → ℕ → Bool) → ℕ → Option Expression → Bool
definition_dead K T gone n None = false
definition_dead K T gone n (Some e) = (life_given K T gone e [] 0 n).dead

-- whether clock y is dead at n, for the clocks y below x, which are all that the definition of clock x may name
abbrev pub dead_below : System → List Step → ℕ → ℕ → ℕ → Bool
dead_below K T zero n y = false
dead_below K T (suc x) n y = elim (nat_eq y x) [ true ↦ definition_dead K T (dead_below K T x) n (definition_of K x) | false ↦ dead_below K T x n y ]

-- the meaning of an expression in the definition of clock x, under actual parameters
abbrev pub meaning : System → List Step → ℕ → Expression → List Actual → Life
meaning K T x = life_given K T (dead_below K T x)

-- its formula at step n, where it was born at b
abbrev pub formula_at : System → List Step → ℕ → Expression → List Actual → ℕ → ℕ → Formula
formula_at K T x e ρ b n = (meaning K T x e ρ b n).formula
