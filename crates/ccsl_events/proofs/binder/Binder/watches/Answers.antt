use Rattle.std.proofs.Common.{Vec, Global}
use Rattle.std.proofs.lemmas.List.{take_all}
use Rattle.std.proofs.lemmas.Result.{err_from_is_err_and}
use Rattle.ccsl_triggers.specs.declared.watch.Watch as made
use Rattle.ccsl_event_file.specs.Parsing.{event_in}
use Rattle.ccsl_events.specs.Binding.{watch_with, read_by}
use Rattle.ccsl_events.specs.Binding as meaning
use Rattle.ccsl_events.specs.Binds.{seen_watch}
use Rattle.ccsl_events.proofs.Bindings.{loop-next, loop-fault, loop-done}
use Rattle.ccsl_events.proofs.binder.Binder.watches.Goals as goal

pub returns-in_err-watch : goal.returns-in_err-watch
returns-in_err-watch c =
    let p = err_from_is_err_and c.from_residual.result c.from_residual.ensures.1 in
    loop-fault (meaning.watch c.args.variables.now) event_in (λ (v : Vec made.Watch Global). v.items) seen_watch watch_with read_by c.args.events.now
    c.loop-event.event-index c.event-item.result c.loop-event.watches.items c.in_err-watch.field-0.0 p.0 c.from_residual.result c.args.self.now.sources.items
    c.loop-event.self.sources.items c.watch.new.self.sources.items c.loop-event-test.true c.event-item.is p.1 p.2 c.loop-event.invariant c.in_err-watch.ensures

pub loop-event-preserved : goal.loop-event-preserved
loop-event-preserved c =
    loop-next (meaning.watch c.args.variables.now) event_in (λ (v : Vec made.Watch Global). v.items) seen_watch watch_with read_by c.args.events.now
    c.loop-event.event-index c.event-item.result c.loop-event.watches.items c.push.new.self.items c.in_ok-watch.watch c.args.self.now.sources.items
    c.loop-event.self.sources.items c.watch.new.self.sources.items c.loop-event-test.true c.event-item.is c.in_ok-push.ensures.items c.loop-event.invariant
    c.in_ok-watch.ensures

pub returns : goal.returns
returns c =
    loop-done (meaning.watch c.args.variables.now) event_in (λ (v : Vec made.Watch Global). v.items) seen_watch watch_with read_by c.args.events.now _
    c.loop-event.watches c.args.self.now.sources.items c.loop-event.self.sources.items
    (take_all c.loop-event.event-index c.args.events.now c.loop-event-test.false) c.loop-event.invariant
