-- WHAT A SESSION OVER A WORLD ANSWERS to standard input.
use Rattle.std.specs.Prelude.{ℕ, List, Bool, length, nat_lt, if◌then◌else◌}
use Rattle.std.specs.List.{list_any}
use Rattle.ccsl_kernel.specs.Syntax.{System}
use Rattle.ccsl_policy.specs.declared.policies.Policy.{Policy}
use Rattle.ccsl_lines.specs.Lines.{lines_taken}
use Rattle.ccsl_session.specs.declared.answer.Ended.{Ended}
use Rattle.ccsl_session.specs.declared.answer.Ended.TheVariants.{Quit, EndOfInput, TooLong}
use Rattle.ccsl_session.specs.Asked.{asked, is_quit}
use Rattle.ccsl_session.specs.Answers.{answers}

module _ (K : System) (policy : Policy) (seed limit : ℕ) (input : List ℕ) where
  -- the answers to the lines of an input of which at most so many bytes are taken
  abbrev pub session_text : List ℕ
  session_text = answers K policy seed (lines_taken limit input)

  abbrev pub quits : Bool
  quits = list_any (λ line. is_quit (asked K line)) (lines_taken limit input)

  -- how it ends
  abbrev pub ended_by : Ended
  ended_by = if quits then Quit else if nat_lt limit (length input) then TooLong else EndOfInput
