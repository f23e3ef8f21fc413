-- A tokenizer past which bytes were read.
use Rattle.std.specs.Prelude.{◌≡◌, ℕ, ◌+◌, List, ◌++◌, length, true, None, replicate}
use Rattle.ccsl_vcd_lex.specs.Tokens.{tokens}
use Rattle.ccsl_vcd_lex.specs.LongTokens.{first_long}
use Rattle.ccsl_vcd_lex.specs.Runs.{fresh_after}
use Rattle.ccsl_vcd_lex.specs.Lexing.{Lexing, StandsFor}

-- a lexer as contracts see it
pub record Passing : Type 0 where
  pub inner : Lexing
  -- how many bytes the tokenizer never saw
  pub passed : ℕ

-- The tokenizer stands for blanks and the last of the bytes. It never saw those in front, which end no token halfway.
pub record Lexes (v : Passing) (bytes : List ℕ) : Type 0 where
  pub front : List ℕ
  pub rest : List ℕ
  pub blanks : ℕ
  pub whole : bytes ≡ front ++ rest
  pub fresh : fresh_after true front ≡ true
  pub short : first_long (tokens front) ≡ None
  pub stands : StandsFor v.inner (replicate blanks 32 ++ rest)
  pub place : length front ≡ v.passed + blanks
