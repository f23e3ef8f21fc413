-- THE ANSWERS OF A SESSION: those of a stack of declared sets. `fire` and `step` push a set, `back` takes the last one away, the other
-- lines change nothing, and every answer speaks of the run of the stack as it stands. This project's own.
use Rattle.std.specs.Prelude.{ℕ, ◌+◌, ◌-◌, List, [], ◌∷◌, ◌++◌, Bool, Option, Some, None, length, take, codes, decimal, nat_le, if◌then◌else◌, slice_index_or}
use Rattle.ccsl_kernel.specs.Syntax.{System}
use Rattle.ccsl_kernel.specs.Lives.{Step}
use Rattle.ccsl_kernel.specs.Runs.{completed}
use Rattle.ccsl_policy.specs.declared.policies.Policy.{Policy}
use Rattle.ccsl_vcd_write.specs.Text.{vcd_text}
use Rattle.ccsl_simulate.specs.Simulation.{next_chosen}
use Rattle.ccsl_base.specs.declared.limits.TheConstants.{MAX_SESSION_STEPS}
use Rattle.ccsl_session.specs.Asked.{Asked, Nothing, Fire, Next, Back, Allowed, Trace, Quit, Long, Unknown, asked, is_quit}
use Rattle.ccsl_possible.specs.Possible.{first_failing, allowed_clocks}
use Rattle.ccsl_lines.specs.Lines as lines

-- TEXTS

abbrev pub answer_line : List ℕ → List ℕ
answer_line text = text ++ 10 ∷ []

-- names of clocks, each behind a blank
abbrev pub blank_names : System → Step → List ℕ
blank_names K [] = []
blank_names K (x ∷ s) = codes " " ++ slice_index_or K.names x [] ++ blank_names K s

abbrev pub ok_text : ℕ → List ℕ
ok_text count = answer_line (codes "ok " ++ decimal count)

abbrev pub no_text : ℕ → List ℕ
no_text j = answer_line (codes "no " ++ decimal j)

abbrev pub step_text : System → ℕ → Step → List ℕ
step_text K count s = answer_line (codes "step " ++ decimal count ++ codes ":" ++ blank_names K s)

abbrev pub allowed_text : System → Step → List ℕ
allowed_text K s = answer_line (codes "allowed:" ++ blank_names K s)

module _ (K : System) (policy : Policy) (seed : ℕ) where
  -- the run of a stack of declared sets
  abbrev pub run_of : List Step → List Step
  run_of R = completed K R

  abbrev pub is_full : List Step → Bool
  is_full R = nat_le MAX_SESSION_STEPS (length R)

  -- a set is pushed, unless a constraint fails
  abbrev pub fired_text : List Step → Option ℕ → List ℕ
  fired_text R None = ok_text (length R + 1)
  fired_text R (Some j) = no_text j

  abbrev pub fired : List Step → Step → Option ℕ → List Step
  fired R s None = R ++ s ∷ []
  fired R s (Some j) = R

  -- the set that the policy chooses is pushed, where there is one
  abbrev pub next_set : List Step → Option Step
  next_set R = next_chosen K policy seed (run_of R)

  abbrev pub stepped_text : List Step → Option Step → List ℕ
  stepped_text R None = answer_line (codes "blocked")
  stepped_text R (Some s) = step_text K (length R + 1) s

  abbrev pub stepped : List Step → Option Step → List Step
  stepped R None = R
  stepped R (Some s) = R ++ s ∷ []

  abbrev pub back_text : List Step → List ℕ
  back_text [] = answer_line (codes "empty")
  back_text (s ∷ R) = ok_text (length R)

  -- the answer to what is asked, over a stack
  abbrev pub answer : List Step → Asked → List ℕ
  answer R Nothing = []
  answer R (Fire s) = if is_full R then answer_line (codes "full") else fired_text R (first_failing K (run_of R) s)
  answer R Next = if is_full R then answer_line (codes "full") else stepped_text R (next_set R)
  answer R Back = back_text R
  answer R Allowed = allowed_text K (allowed_clocks K (run_of R))
  answer R Trace = vcd_text K (run_of R) ++ answer_line (codes "end")
  answer R Quit = answer_line (codes "bye")
  answer R Long = answer_line (codes "long")
  answer R Unknown = answer_line (codes "unknown")

  -- the stack behind it
  abbrev pub after : List Step → Asked → List Step
  after R (Fire s) = if is_full R then R else fired R s (first_failing K (run_of R) s)
  after R Next = if is_full R then R else stepped R (next_set R)
  after R Back = take (length R - 1) R
  after R other = R

  -- the answers to lines up to the first `quit`, over a stack
  abbrev pub answers_over : List Step → List lines.Line → List ℕ
  answers_over R [] = []
  answers_over R (line ∷ more) =
      answer R (asked K line) ++ (if is_quit (asked K line) then [] else answers_over (after R (asked K line)) more)

  -- THE ANSWERS: the run begins empty
  abbrev pub answers : List lines.Line → List ℕ
  answers lines = answers_over [] lines
