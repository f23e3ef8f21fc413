-- WHAT A SESSION LEAVES of standard input.
use Rattle.std.specs.Prelude.{◌≡◌, ℕ, ◌+◌, ◌≤◌, List, ◌++◌, length, take, false}
use Rattle.std.specs.List.{list_any}
use Rattle.ccsl_base.specs.declared.limits.TheConstants.{PIECE}
use Rattle.ccsl_lines.specs.Lines.{parts, ended_lines}
use Rattle.ccsl_kernel.specs.Syntax.{System}
use Rattle.ccsl_session.specs.Asked.{asked, is_quit}

-- bytes that are no more than a session asks for: at most one past its limit, and before the last piece of them no line `quit` had ended
pub record IsAskedFor (limit : ℕ) (bytes : List ℕ) : Type 0 where
  pub before : List ℕ
  pub piece : List ℕ
  pub all : bytes ≡ before ++ piece
  pub few : length piece ≤ PIECE
  pub within : length bytes ≤ limit + 1
  pub unended : (K : System) → list_any (λ line. is_quit (asked K line)) (ended_lines (parts (take limit before))) ≡ false

-- what is left of an input is all but such bytes from its front
pub record LeavesRest (limit : ℕ) (input left : List ℕ) : Type 0 where
  pub bytes : List ℕ
  pub taken : input ≡ bytes ++ left
  pub asked_for : IsAskedFor limit bytes
