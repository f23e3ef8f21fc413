-- What the bytes of a body say, from a place on where a token may begin: which tokens they settle, and the story of these.
use Rattle.std.specs.Prelude.{◌≡◌, ◌⊎◌, ℕ, ◌+◌, List, ◌++◌, length, take, map, filter, fold, true, nat_lt, ◌||◌, Some, None, Result, Ok, Err}
use Rattle.std.specs.List.{list_all}
use Rattle.ccsl_vcd_lex.specs.Tokens.{Heard, hear, end_of, is_long, tokens_from}
use Rattle.ccsl_vcd_lex.specs.Runs.{fresh_after}
use Rattle.ccsl_vcd_lex.specs.Lexing.{is_dark}
use Rattle.ccsl_vcd.specs.declared.fault.VcdFault.{VcdFault}
use Rattle.ccsl_vcd.specs.declared.fault.VcdFault.TheVariants as faults
use Rattle.ccsl_events.specs.declared.body.Body.{Body}
use Rattle.ccsl_events.specs.Dump.{Plan, Place, Story, next}
use Rattle.ccsl_events.specs.Standing.{Follows}

-- what they settle, whatever follows: the tokens that end inside them, and those that are too long already
abbrev pub settled_from : ℕ → List ℕ → List Heard
settled_from at bytes = map hear (filter (λ t. nat_lt (end_of t) (at + length bytes) || is_long t) (tokens_from true at bytes))

-- none of them is white, so that no token ends among them
abbrev pub IsOpen : List ℕ → Type 0
IsOpen bytes = list_all is_dark bytes ≡ true

-- the story of some tokens from a place on
abbrev pub story_from : Plan → Place → List Heard → Story
story_from plan p hs = fold (next plan) (record { place = p; fault = None }) hs

-- They were taken: white space and whole tokens, none of them refused, and the body stands behind them.
pub record Runs (plan : Plan) (p : Place) (at : ℕ) (part : List ℕ) (b : Body) (old new : List ℕ) : Type 0 where
  pub place : Place
  pub told : story_from plan p (settled_from at part) ≡ record { place = place; fault = None }
  pub fresh : fresh_after true part ≡ true
  pub follows : Follows plan p.written place b old new

-- What so many of them settle has this first fault, and what was written on the way to it stands behind what was written
-- before.
pub record Breaks (plan : Plan) (p : Place) (at : ℕ) (bytes : List ℕ) (f : VcdFault) (before old new : List ℕ) : Type 0 where
  pub front : ℕ
  pub place : Place
  pub told : story_from plan p (settled_from at (take front bytes)) ≡ record { place = place; fault = Some f }
  pub more : List ℕ
  pub out : new ≡ old ++ more
  pub written : place.written ≡ before ++ more

-- so many were taken, or one of their tokens is refused, unless memory ran out
abbrev pub Takes : Plan → Place → ℕ → List ℕ → Result ℕ VcdFault → Body → List ℕ → List ℕ → Type 0
Takes plan p at bytes (Ok n) b old new = Runs plan p at (take n bytes) b old new
Takes plan p at bytes (Err f) b old new = (f ≡ faults.Memory) ⊎ Breaks plan p at bytes f p.written old new
