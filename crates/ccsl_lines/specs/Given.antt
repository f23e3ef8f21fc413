-- What the next call on a reader of lines gives.
use Rattle.std.specs.Prelude.{◌≡◌, ℕ, ◌+◌, ◌<◌, ◌≤◌, List, [], ◌∷◌, ◌++◌, length, Bool, true, false, IsTrue}
use Rattle.ccsl_edge.specs.declared.slot.Slot.TheVariants.{Input}
use Rattle.ccsl_edge.specs.World.{State, Told}
use Rattle.ccsl_edge.specs.Calls.{Reads, ReadsThenFails}
use Rattle.ccsl_lines.specs.declared.reader.Next.{Next}
use Rattle.ccsl_lines.specs.declared.reader.Next.TheVariants as next
use Rattle.ccsl_base.specs.declared.limits.TheConstants.{PIECE}
use Rattle.ccsl_lines.specs.Lines.{Line, Whole, Long, lines_taken}
use Rattle.ccsl_lines.specs.Held.{Held, HasNoLineFeed, StandsFor}

-- one more line behind those that were handed out, or no more: the bytes are all that there are, or more than are taken
abbrev pub Follows : Next → Held → List ℕ → List Line → Type 0
Follows next.Line h bytes given = StandsFor h bytes (given ++ Whole h.line ∷ [])
Follows next.Long h bytes given = StandsFor h bytes (given ++ Long ∷ [])
Follows next.Ended h bytes given = StandsFor h bytes given × (h.ended ≡ true)
Follows next.TooLong h bytes given = (h.limit < length bytes) × ((rest : List ℕ) → lines_taken h.limit (bytes ++ rest) ≡ given) × StandsFor h bytes given

-- nothing was read, or no line feed stood in what was pending and in what was read before the last piece
pub data IsPrompt (pending bytes : List ℕ) : Type 0 where
  at_once : (none : bytes ≡ []) → IsPrompt pending bytes
  late : (before piece : List ℕ) (all : bytes ≡ before ++ piece) (few : length piece ≤ PIECE) (unended : HasNoLineFeed (pending ++ before))
      → IsPrompt pending bytes

-- bytes were read from standard input, none where a line was there, and this is what follows
pub record Gives (told : Told) (old new : State) (before after : Held) (found : Next) : Type 0 where
  pub bytes : List ℕ
  pub reads : Reads told Input bytes old new
  pub prompt : IsPrompt before.pending bytes
  pub limit : after.limit ≡ before.limit
  pub follows : (taken : List ℕ) (given : List Line) → StandsFor before taken given → Follows found after (taken ++ bytes) given
  pub ends : after.ended ≡ true → before.ended ≡ false → IsTrue told.left → (new.slot_of Input).left ≡ []

-- a read failed behind some bytes, which were read since no line feed stood in what was pending and in them
pub record Breaks (told : Told) (old new : State) (before : Held) : Type 0 where
  pub bytes : List ℕ
  pub fails : ReadsThenFails told Input bytes old new
  pub runs : before.ended ≡ false
  pub unended : HasNoLineFeed (before.pending ++ bytes)
  pub few : (taken : List ℕ) (given : List Line) → StandsFor before taken given → length (taken ++ bytes) ≤ before.limit + 1

-- whether another call may come behind this one
abbrev pub goes_on : Next → Bool
goes_on next.Line = true
goes_on next.Long = true
goes_on next.Ended = false
goes_on next.TooLong = false
