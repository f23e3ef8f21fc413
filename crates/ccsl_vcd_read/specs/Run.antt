-- The tokens of some bytes of a body, heard one after another.
use Rattle.std.specs.Prelude.{◌≡◌, ℕ, ◌≤◌, ◌<◌, ◌-◌, List, [], ◌++◌, length, take, true, None, Result, Ok, Err, fold}
use Rattle.std.specs.List.{prefix_len}
use Rattle.ccsl_base.specs.declared.rows.Row.{Row}
use Rattle.ccsl_vcd_lex.specs.Tokens.{Token, tokens_from}
use Rattle.ccsl_vcd_lex.specs.LongTokens.{first_long}
use Rattle.ccsl_vcd_lex.specs.Runs.{fresh_after}
use Rattle.ccsl_vcd_lex.specs.Lexing.{is_dark, Dark}
use Rattle.ccsl_vcd.specs.declared.fault.VcdFault.{VcdFault}
use Rattle.ccsl_vcd_read.specs.declared.body.Body.{Body}
use Rattle.ccsl_vcd_read.specs.Step.{hear_of, Says}

-- rows that were given out before
abbrev pub behind : List Row → Result (Body × List Row) VcdFault → Result (Body × List Row) VcdFault
behind rows (Ok p) = Ok (p.0, rows ++ p.1)
behind rows (Err f) = Err f

abbrev pub hear_next : Result (Body × List Row) VcdFault → Token → Result (Body × List Row) VcdFault
hear_next (Ok p) t = behind p.1 (hear_of p.0 t.at t.text)
hear_next (Err f) t = Err f

abbrev pub hear_all : Body → List Token → Result (Body × List Row) VcdFault
hear_all b ts = fold hear_next (Ok (b, [])) ts

-- The bytes from a place on are white space and whole tokens, none too long. The tokens make the new body of the old one, and
-- give out the rows.
pub record Runs (old new : Body) (at : ℕ) (part : List ℕ) (before after : List Row) : Type 0 where
  pub pushed : List Row
  pub hears : hear_all old (tokens_from true at part) ≡ Ok (new, pushed)
  pub rows : after ≡ before ++ pushed
  pub fresh : fresh_after true part ≡ true
  pub short : first_long (tokens_from true at part) ≡ None
  pub few : length pushed ≤ length part

-- The tokens of so many bytes from the front were heard, and none gave out a row.
pub record Made (old new : Body) (bytes : List ℕ) (n : ℕ) : Type 0 where
  pub within : n ≤ length bytes
  pub runs : (at : ℕ) (rows : List Row) → Runs old new at (take n bytes) rows rows
  pub none : n ≡ 0 → new ≡ old

-- A token at the front with white space behind it was heard, or nothing.
pub record HearsFront (n : ℕ) (bytes : List ℕ) (old new : Body) (at : ℕ) (before after : List Row) : Type 0 where
  pub run : n ≡ prefix_len is_dark bytes
  pub inside : n < length bytes
  pub few : n ≤ 65536
  pub says : Says (hear_of old at (take n bytes)) (Ok tt) old new before after

abbrev pub Front : Body → Body → ℕ → List ℕ → ℕ → List Row → List Row → Type 0
Front old new at bytes n before after = (0 < n → HearsFront n bytes old new at before after) × (n ≡ 0 → (new ≡ old) × (after ≡ before))

-- The last of some bytes fills a block: those from the front left room in it, and the others end no token before the last.
pub record Fills (old : Body) (at : ℕ) (part : List ℕ) (before : List Row) (room : ℕ) : Type 0 where
  pub front : List ℕ
  pub last : List ℕ
  pub is : part ≡ front ++ last
  pub some : 0 < length last
  pub mid : Body
  pub rows : List Row
  pub runs : Runs old mid at front before rows
  pub left : length rows < room
  pub one : Dark (take (length last - 1) last)
