-- WHAT A LINE ASKS of a session. This project's own.
use Rattle.std.specs.Prelude.{ℕ, List, [], ◌∷◌, Bool, true, false, not, ◌&&◌, Option, Some, None, codes, filter, take, if◌then◌else◌}
use Rattle.std.specs.List.{list_all, slice_split}
use Rattle.std.specs.Str.{bytes_eq}
use Rattle.ccsl_base.specs.Empty.{is_empty}
use Rattle.ccsl_base.specs.Clocks.{with_clock}
use Rattle.ccsl_base.specs.Names.{is_among, find_name, are_distinct}
use Rattle.ccsl_kernel.specs.Syntax.{System}
use Rattle.ccsl_kernel.specs.Lives.{Step}
use Rattle.ccsl_refute.specs.Text.{is_blank}
use Rattle.ccsl_lines.specs.Lines as lines

pub data Asked : Type 0 where
  -- the line has no token
  Nothing : Asked
  -- these declared clocks are to tick
  Fire : (set : Step) → Asked
  Next : Asked
  Back : Asked
  Allowed : Asked
  Trace : Asked
  Quit : Asked
  Long : Asked
  Unknown : Asked

-- what stands between blanks and tabs
abbrev pub tokens : List ℕ → List (List ℕ)
tokens line = filter (λ token. not (is_empty token)) (slice_split is_blank line)

-- the names of the declared clocks
abbrev pub declared_names : System → List (List ℕ)
declared_names K = take K.declared K.names

-- different names of declared clocks, at least one
abbrev pub are_clocks : System → List (List ℕ) → Bool
are_clocks K [] = false
are_clocks K (name ∷ names) = are_distinct (name ∷ names) && list_all (λ n. is_among n (declared_names K)) (name ∷ names)

-- the set with the clock of a name, where there is one
abbrev pub with_found : Option ℕ → Step → Step
with_found None s = s
with_found (Some x) s = with_clock x s

-- the set of the clocks of some names
abbrev pub set_of : System → List (List ℕ) → Step
set_of K [] = []
set_of K (name ∷ names) = with_found (find_name name (declared_names K)) (set_of K names)

-- a line of one token
abbrev pub asked_alone : List ℕ → Asked
asked_alone word =
    if bytes_eq word (codes "step") then Next
    else if bytes_eq word (codes "back") then Back
    else if bytes_eq word (codes "allowed") then Allowed
    else if bytes_eq word (codes "trace") then Trace
    else if bytes_eq word (codes "quit") then Quit
    else Unknown

-- a line of a token and more
abbrev pub asked_with : System → List ℕ → List (List ℕ) → Asked
asked_with K word names = if bytes_eq word (codes "fire") && are_clocks K names then Fire (set_of K names) else Unknown

abbrev pub asked_words : System → List (List ℕ) → Asked
asked_words K [] = Nothing
asked_words K (word ∷ []) = asked_alone word
asked_words K (word ∷ name ∷ names) = asked_with K word (name ∷ names)

abbrev pub asked : System → lines.Line → Asked
asked K (lines.Whole bytes) = asked_words K (tokens bytes)
asked K lines.Long = Long

abbrev pub is_quit : Asked → Bool
is_quit Quit = true
is_quit other = false
