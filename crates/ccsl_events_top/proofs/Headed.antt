-- What is left where a call fails behind the header of a dump.
use Rattle.std.proofs.Common.{◌≡◌, ℕ, List, [], Err}
use Rattle.ccsl_edge.specs.declared.slot.Slot.TheVariants as slots
use Rattle.ccsl_edge.specs.World.{State, Told}
use Rattle.ccsl_edge.specs.Calls.{OpensIn}
use Rattle.ccsl_event_file.specs.File.{Event, events, reading}
use Rattle.ccsl_scopes.specs.Headings.{Heading}
use Rattle.ccsl_scopes.specs.Standing.{IsHeaderOf}
use Rattle.ccsl_scopes.specs.declared.header.Header.{Header}
use Rattle.ccsl_events.specs.Binding.{bound}
use Rattle.ccsl_events.specs.Standing.{are_skipped}
use Rattle.ccsl_events_top.specs.declared.pass.Pass.{Pass}
use Rattle.ccsl_events_top.specs.declared.stop.Stop.{Stop}
use Rattle.ccsl_events_top.specs.Words.{Named}
use Rattle.ccsl_events_top.specs.Passing.{HasHeader, Leaves}
use Rattle.ccsl_events_top.specs.Effects.{sink_of}
use Rattle.ccsl_events_top.specs.Outcome.{Starves, IsOutcome}
use Rattle.ccsl_events_top.specs.Stages.{HasText, IsBodyFor}
use Rattle.ccsl_events_top.proofs.Making.{HasOpened, dump-opened, starves, unmade}
use Rattle.ccsl_events_top.proofs.Going.{header-leaves}

module _ (told : Told) (n : Named) (old s start now : State) (text : List ℕ) (es : List Event) (has : HasText told n.events text old s)
    (says : reading text ≡ events es) (opens : OpensIn told slots.Trace n.trace s start) (pass : Pass) (header : Header)
    (x : (h : Heading) × IsHeaderOf h header × HasHeader told (sink_of n.out) start now h pass) where
  is-opened : HasOpened told n old es start
  is-opened = dump-opened told n old text es s start has says opens

  only-read : Leaves told (sink_of n.out) start now []
  only-read = header-leaves told (sink_of n.out) start now x.0 pass x.2

  pub headed-starves : Starves told n old now
  headed-starves = starves told n old es start is-opened now only-read

  pub headed-unmade : (stop : Stop) → IsBodyFor (bound es header.variables.items header.codes (are_skipped n.gaps)) (Err stop)
      → IsOutcome told n old now (Err stop)
  headed-unmade stop b = unmade told n old es start is-opened now stop x.0 x.2.at header only-read x.2.header x.1 b
