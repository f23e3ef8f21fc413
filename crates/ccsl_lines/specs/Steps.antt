-- What the steps of a reader of lines do between two calls of its caller.
use Rattle.std.specs.Prelude.{◌≡◌, ◌≢◌, ℕ, ◌+◌, ◌<◌, ◌≤◌, List, [], ◌∷◌, ◌++◌, length, take, true, Some, None, IsTrue}
use Rattle.ccsl_edge.specs.declared.slot.Slot.TheVariants.{Input}
use Rattle.ccsl_edge.specs.World.{State, Told}
use Rattle.ccsl_edge.specs.Calls.{Reads}
use Rattle.ccsl_lines.specs.declared.reader.Next.{Next}
use Rattle.ccsl_lines.specs.declared.reader.Next.TheVariants as next
use Rattle.ccsl_base.specs.declared.limits.TheConstants.{PIECE}
use Rattle.ccsl_lines.specs.Lines.{Line, Whole, Long}
use Rattle.ccsl_lines.specs.Part.{added, stripped}
use Rattle.ccsl_lines.specs.Held.{Held, HasNoLineFeed, left_of}

-- the pending bytes up to a line feed were looked at
pub record EndsLine (before after : Held) : Type 0 where
  pub bytes : List ℕ
  pub pending : before.pending ≡ bytes ++ 10 ∷ after.pending
  pub unended : HasNoLineFeed bytes
  pub part : after.part ≡ added before.part bytes

-- all pending bytes were looked at, and there is no line feed
pub record TakesAll (before after : Held) : Type 0 where
  pub unended : HasNoLineFeed before.pending
  pub none : after.pending ≡ []
  pub part : after.part ≡ added before.part before.pending

-- how the part is handed out, and the bytes that are shown then
abbrev pub HandsOut : Next → Line → List ℕ → Type 0
HandsOut next.Line part line = stripped part ≡ Whole line
HandsOut next.Long part line = part ≡ Long
HandsOut next.Ended part line = ⊥
HandsOut next.TooLong part line = ⊥

-- the input has ended: what was begun is its last line, where it has a byte
abbrev pub Finishes : Next → Held → Held → Type 0
Finishes next.Line before after = (before.part ≢ Whole []) × HandsOut next.Line before.part after.line
Finishes next.Long before after = HandsOut next.Long before.part after.line
Finishes next.Ended before after = before.part ≡ Whole []
Finishes next.TooLong before after = ⊥

-- a piece was read
pub record ReadsOn (told : Told) (old new : State) (before after : Held) : Type 0 where
  pub left : ℕ
  pub bytes : List ℕ
  pub was : before.left ≡ Some left
  pub some : 0 < length bytes
  pub within : length bytes ≤ left + 1
  pub few : length bytes ≤ PIECE
  pub reads : Reads told Input bytes old new
  pub after_is : after ≡ record before { left = left_of left (length bytes); pending = take left bytes }

-- the input has ended
pub record SeesEnd (told : Told) (new : State) (before after : Held) (found : Next) : Type 0 where
  pub left : ℕ
  pub was : before.left ≡ Some left
  pub limit : after.limit ≡ before.limit
  pub ended : after.ended ≡ true
  pub finishes : Finishes found before after
  pub none_left : IsTrue told.left → (new.slot_of Input).left ≡ []

-- there is nothing to be read: a byte past the limit was read before, or the input has ended
abbrev pub Stops : Next → Told → State → Held → Held → Type 0
Stops next.Line told new before after = SeesEnd told new before after next.Line
Stops next.Long told new before after = SeesEnd told new before after next.Long
Stops next.Ended told new before after = SeesEnd told new before after next.Ended
Stops next.TooLong told new before after = (before.left ≡ None) × (after ≡ before)
