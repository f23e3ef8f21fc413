-- How the states of some definitions lie in memory: the tables that they keep are those of their system, and the readers those
-- of the followed definitions, whose trees are kept.
use Rattle.std.specs.Prelude.{◌≡◌, length}
use Rattle.ccsl_kernel.specs.Cells.{cells}
use Rattle.ccsl_kernel.specs.Accepted.{IsAccepted}
use Rattle.ccsl_state.specs.declared.part.Part.TheInside.{Inside}
use Rattle.ccsl_state.specs.States.{places_from, trees_in}
use Rattle.ccsl_state.specs.Held.{calls_of}
use Rattle.ccsl_state.specs.Flats.{AreFlats}
use Rattle.ccsl_state.specs.Reach.{IsClosed}
use Rattle.ccsl_state.specs.Passing.{AreReaders, AreKept}
use Rattle.ccsl_state.specs.Part.{HeldPart}

abbrev pub held_part : Inside → HeldPart
held_part p = record { system = p.system.now; followed = p.readers.followed; row = p.row.items }

pub record IsPartLaid (p : Inside) : Type 0 where
  pub accepted : IsAccepted p.system.now
  pub calls : p.calls.items ≡ calls_of p.system.now
  pub places : p.places.items ≡ places_from (calls_of p.system.now) 0 p.system.now.definitions
  pub flats : AreFlats p.system.now p.flats.items
  pub readers : AreReaders p.system.now p.readers.followed p.readers.sets.items
  pub row : length p.row.items ≡ cells p.system.now
  pub closed : IsClosed p.system.now p.readers.followed
  pub kept : AreKept p.system.now p.readers.followed (trees_in p.system.now (calls_of p.system.now) p.system.now.definitions p.row.items) p.passage.gone
      p.passage.unsettled
