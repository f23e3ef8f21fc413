-- What is kept of a trace, and the story of which it is kept.
use Rattle.std.specs.Prelude.{◌≡◌, ℕ, ◌≤◌, List, [], ◌++◌, length, Bool, true, false, not, ◌&&◌, Option, Some, None, map}
use Rattle.ccsl_base.specs.declared.rows.Row.{Row}
use Rattle.ccsl_vcd.specs.declared.limits.Limits.{Limits}
use Rattle.ccsl_vcd.specs.Binding.{Wanted}
use Rattle.ccsl_vcd.specs.Places as p
use Rattle.ccsl_vcd.specs.Reading.{Story, is_changes}
use Rattle.ccsl_vcd_read.specs.Meant.{amid_of}
use Rattle.ccsl_vcd.specs.Completed.{complete}
use Rattle.ccsl_vcd_read.specs.declared.stage.Stage.{Stage}
use Rattle.ccsl_vcd_read.specs.declared.stage.Stage.TheVariants.{Header, Body, Unbound}
use Rattle.ccsl_vcd_read.specs.Heading.{HeadShows, Closes}
use Rattle.ccsl_vcd_read.specs.Picture.{Shows}
use Rattle.ccsl_vcd_read.specs.Step.{row_of}
use Rattle.ccsl_vcd_read.specs.Run.{Runs, Fills}

abbrev pub Pictures : Wanted → Limits → Stage → Story → Type 0
Pictures wanted limits (Header h) st = HeadShows wanted limits h st
Pictures wanted limits (Body b) st = Shows b st
Pictures wanted limits Unbound st = ⊥

-- the bound clocks, once they are bound
abbrev pub shown : Stage → Option (List ℕ)
shown (Header h) = None
shown (Body b) = Some (map (λ c. c.clock) b.binding.bound)
shown Unbound = None

abbrev pub shown_at : p.Where → Option (List ℕ)
shown_at (p.header h) = None
shown_at (p.body b) = Some (map (λ c. c.clock) b.bound)

abbrev pub is_body : Stage → Bool
is_body (Header h) = false
is_body (Body b) = true
is_body Unbound = false

-- the row of the present time, which is not complete yet
abbrev pub row_left : Stage → List Row
row_left (Header h) = []
row_left (Body b) = row_of b
row_left Unbound = []

-- a token was heard: what is kept is that of the story, and the rows that it completes were given out
pub record Heard (wanted : Wanted) (limits : Limits) (old new : Stage) (ended : Bool) (st next : Story) (before after : List Row) : Type 0 where
  pub pictures : Pictures wanted limits new next
  pub pushed : List Row
  pub rows : complete next ≡ complete st ++ pushed
  pub block : after ≡ before ++ pushed
  pub few : length pushed ≤ 1
  pub none : is_body old ≡ false → pushed ≡ []
  pub stays : is_body old ≡ true → is_body new ≡ true
  pub ends : ended ≡ (not (is_body old) && is_body new)

-- the header has ended, and the clocks are to be bound
abbrev pub IsClosing : Wanted → Stage → Story → Story → Type 0
IsClosing wanted (Header h) st next = Closes wanted h st next
IsClosing wanted (Body b) st next = ⊥
IsClosing wanted Unbound st next = ⊥

-- the body has begun
pub record Begins (stage : Stage) (st next : Story) : Type 0 where
  pub is_body : is_body stage ≡ true
  pub pictures : (wanted : Wanted) (limits : Limits) → Pictures wanted limits stage next
  pub rows : complete next ≡ complete st

abbrev pub ends_well : Stage → Bool
ends_well (Header h) = false
ends_well (Body b) = is_changes (amid_of b.amid) && not b.dumping
ends_well Unbound = false

-- the tokens of some bytes of a body were heard
abbrev pub RunsIn : Stage → Stage → ℕ → List ℕ → List Row → List Row → Type 0
RunsIn (Body b) (Body c) at part before after = Runs b c at part before after
RunsIn old new at part before after = ⊥

-- and the last of them fills the block
abbrev pub FillsIn : Stage → ℕ → List ℕ → List Row → ℕ → Type 0
FillsIn (Body b) at part before room = Fills b at part before room
FillsIn old at part before room = ⊥
