use Rattle.std.proofs.Common.{List, ℕ, Option, Ok, Err, ◌≡◌, map, length, subst, ap, sym, ◌∙◌, arith}
use Rattle.std.specs.Option.{option_copied}
use Rattle.std.proofs.lemmas.List.{length-map}
use Rattle.std.proofs.lemmas.Result.{err_from_is_err_and}
use Rattle.ccsl_event_file.specs.File.{reading}
use Rattle.ccsl_event_file.specs.Parsing.{event_in}
use Rattle.ccsl_events.specs.Written.{header_text, names_of}
use Rattle.ccsl_events_top.specs.declared.sink.Sink.{Sink}
use Rattle.ccsl_events_top.specs.declared.sink.Sink.TheVariants.{Standard, File}
use Rattle.ccsl_events_top.specs.Words.{Named, named_by}
use Rattle.ccsl_event_file.specs.declared.event.Event.{Event}
use Rattle.ccsl_events.specs.Binding.{bound}
use Rattle.ccsl_events.specs.Standing.{are_skipped}
use Rattle.ccsl_events_top.specs.Stages.{SaysEvents, IsBodyFor}
use Rattle.ccsl_events_top.specs.Effects.{sink_of}
use Rattle.ccsl_events_top.specs.Outcome.{IsOutcome, Makes}
use Rattle.ccsl_events_top.proofs.Making.{unread, unsaid, dump-opened, dump-unopened, unheaded}
use Rattle.ccsl_events_top.proofs.Headed.{headed-starves, headed-unmade}
use Rattle.ccsl_events_top.proofs.Going.{planned-for, to_standard, to_file, left-standard, whole-standard, left-file, whole-file}
use Rattle.ccsl_events_top.proofs.program.make.Goals as goal
use Rattle.ccsl_events_top.proofs.program.make.Goals.{in-Some+in_ok-times-in-Some, in-None+in_ok-times-in-None}

pub header-requires : goal.header-requires
header-requires g c = record { begins = (Standard, _, c.in_ok-pass.ensures g.W.World.told Standard _) }

pub returns-in_err-text : goal.returns-in_err-text
returns-in_err-text g c =
    let q = err_from_is_err_and c.from_residual.result c.from_residual.ensures.1 in
    rw (q.1, q.2) (unread g.W.World.told (named_by c.args.command) _ _ c.in_err-text.field-0.0 c.in_err-text.ensures)

pub returns-in_err-events : goal.returns-in_err-events
returns-in_err-events g c =
    let q = err_from_is_err_and c.from_residual-in_err-events.result c.from_residual-in_err-events.ensures.1 in
    rw (q.1, q.2)
    (unsaid g.W.World.told (named_by c.args.command) _ c.in_ok-text.text.items _ c.in_err-events.field-0.0 c.in_ok-text.ensures
    (subst (λ (xs : List ℕ). SaysEvents xs (Err c.in_err-events.field-0.0)) c.as_slice.ensures.value c.in_err-events.ensures.says))

pub returns-in_err-open_in : goal.returns-in_err-open_in
returns-in_err-open_in g c =
    let q = err_from_is_err_and c.from_residual-in_err-open_in.result c.from_residual-in_err-open_in.ensures.1 in
    rw (q.1, q.2)
    (dump-unopened g.W.World.told (named_by c.args.command) _ c.in_ok-text.text.items (map event_in c.in_ok-events.events.items) _ _ c.in_ok-text.ensures
    (ap reading (sym c.as_slice.ensures.value) ∙ c.in_ok-events.ensures.says) c.in_err-open_in.ensures.err)

pub returns-in_err-header : goal.returns-in_err-header
returns-in_err-header g c =
    let q = err_from_is_err_and c.from_residual-in_err-header.result c.from_residual-in_err-header.ensures.1 in
    let es = c.in_ok-events.events.items in
    let start = g.W.World.state c.open_in.new.self in
    let o = dump-opened g.W.World.told (named_by c.args.command) (g.W.World.state c.args.world.now) c.in_ok-text.text.items (map event_in es) _ start
    c.in_ok-text.ensures (ap reading (sym c.as_slice.ensures.value) ∙ c.in_ok-events.ensures.says) c.in_ok-open_in.ensures.ok in
    let sink : Sink = sink_of (option_copied c.args.command.out) in
    rw (q.1, q.2)
    (unheaded g.W.World.told (named_by c.args.command) _ (map event_in es) start o _ c.in_err-header.field-0.0
    (c.in_err-header.ensures.err sink start (c.in_ok-pass.ensures g.W.World.told sink start)))

pub returns-in_err-text-2 : goal.returns-in_err-text-2
returns-in_err-text-2 g c =
    let q = err_from_is_err_and c.from_residual-in_err-text-2.result c.from_residual-in_err-text-2.ensures.1 in
    let start = g.W.World.state c.open_in.new.self in
    let sink : Sink = sink_of (option_copied c.args.command.out) in
    rw (q.1, q.2)
    (headed-starves g.W.World.told (named_by c.args.command) _ _ start _ c.in_ok-text.text.items (map event_in c.in_ok-events.events.items)
    c.in_ok-text.ensures (ap reading (sym c.as_slice.ensures.value) ∙ c.in_ok-events.ensures.says) c.in_ok-open_in.ensures.ok
    _ c.in_ok-header.header (c.in_ok-header.ensures.ok sink start (c.in_ok-pass.ensures g.W.World.told sink start)))

pub returns-in_err-begin : goal.returns-in_err-begin
returns-in_err-begin g c =
    let q = err_from_is_err_and c.from_residual-in_err-begin.result c.from_residual-in_err-begin.ensures.1 in
    let start = g.W.World.state c.open_in.new.self in
    let sink : Sink = sink_of (option_copied c.args.command.out) in
    rw (q.1, q.2)
    (headed-starves g.W.World.told (named_by c.args.command) _ _ start _ c.in_ok-text.text.items (map event_in c.in_ok-events.events.items)
    c.in_ok-text.ensures (ap reading (sym c.as_slice.ensures.value) ∙ c.in_ok-events.ensures.says) c.in_ok-open_in.ensures.ok
    _ c.in_ok-header.header (c.in_ok-header.ensures.ok sink start (c.in_ok-pass.ensures g.W.World.told sink start)))

pub returns-in_err-body : goal.returns-in_err-body
returns-in_err-body g c =
    let q = err_from_is_err_and c.from_residual-in_err-body.result c.from_residual-in_err-body.ensures.1 in
    let start = g.W.World.state c.open_in.new.self in
    let sink : Sink = sink_of (option_copied c.args.command.out) in
    rw (q.1, q.2)
    (headed-unmade g.W.World.told (named_by c.args.command) _ _ start _ c.in_ok-text.text.items (map event_in c.in_ok-events.events.items)
    c.in_ok-text.ensures (ap reading (sym c.as_slice.ensures.value) ∙ c.in_ok-events.ensures.says) c.in_ok-open_in.ensures.ok
    _ c.in_ok-header.header (c.in_ok-header.ensures.ok sink start (c.in_ok-pass.ensures g.W.World.told sink start)) c.in_err-body.field-0.0
    (subst (λ (xs : List Event). IsBodyFor (bound (map event_in xs) c.in_ok-header.header.variables.items c.in_ok-header.header.codes
    (are_skipped c.args.command.gaps)) (Err c.in_err-body.field-0.0)) c.as_slice-3.ensures.value c.in_err-body.ensures))

pub write_file-requires-clause-begins : goal.write_file-requires-clause-begins
write_file-requires-clause-begins g c =
    let start = g.W.World.state c.open_in.new.self in
    let x = c.in_ok-header.ensures.ok File start (c.in_ok-pass.ensures g.W.World.told File start) in
    let b = rw c.as_slice-3.ensures.value at c.in_ok-body.ensures in
    let begins = c.in_ok-begin.ensures g.W.World.told File start (g.W.World.state c.header.new.world) x.0 b.plan x.2 b.stands in
    (start, b.plan, x.2.given, c.in_ok-text-2.text.items, begins)

pub body-requires-clause-begins : goal.body-requires-clause-begins
body-requires-clause-begins g c =
    let start = g.W.World.state c.open_in.new.self in
    let x = c.in_ok-header.ensures.ok Standard start (c.in_ok-pass.ensures g.W.World.told Standard start) in
    let b = rw c.as_slice-3.ensures.value at c.in_ok-body.ensures in
    let begins = c.in_ok-begin.ensures g.W.World.told Standard start (g.W.World.state c.header.new.world) x.0 b.plan x.2 b.stands in
    (start, b.plan, x.2.given, c.in_ok-text-2.text.items, begins.body)

pub returns-in_err-times-in-Some : goal.returns-in_err-times-in-Some
returns-in_err-times-in-Some g c =
    let q = err_from_is_err_and c.from_residual-in_err-times-in-Some.result c.from_residual-in_err-times-in-Some.ensures.1 in
    let n : Named = to_file c.args.command.events.now c.args.command.trace.now c.args.command.gaps c.in-Some.name.now in
    let es = c.in_ok-events.events.items in
    let start = g.W.World.state c.open_in.new.self in
    let o = dump-opened g.W.World.told n (g.W.World.state c.args.world.now) c.in_ok-text.text.items (map event_in es) _ start
    c.in_ok-text.ensures (ap reading (sym c.as_slice.ensures.value) ∙ c.in_ok-events.ensures.says) c.in_ok-open_in.ensures.ok in
    let x = c.in_ok-header.ensures.ok File start (c.in_ok-pass.ensures g.W.World.told File start) in
    let b = rw c.as_slice-3.ensures.value at c.in_ok-body.ensures in
    let begins = c.in_ok-begin.ensures g.W.World.told File start (g.W.World.state c.header.new.world) x.0 b.plan x.2 b.stands in
    let plan = planned-for g.W.World.told n _ es start o File _ x.0 _ c.in_ok-header.header c.in_ok-text-2.text.items c.in_ok-body.body x.1 x.2
    (c.in_ok-text-2.ensures x.0 x.1 ∙ ap (λ es. header_text x.0.timescale (names_of es)) c.as_slice-2.ensures.value) b in
    rw (q.1, q.2)
    (subst (λ (out : Option _). IsOutcome g.W.World.told (record {
      events = c.args.command.events.now;
      trace = c.args.command.trace.now;
      out = option_copied out;
      gaps = c.args.command.gaps;
    }) (g.W.World.state c.args.world.now) (g.W.World.state c.write_file.new.world) (Err c.in_err-times-in-Some.field-0.0)) (sym c.in-Some.is)
    (left-file g.W.World.told c.args.command.events.now c.args.command.trace.now c.args.command.gaps c.in-Some.name.now _ (map event_in es) start o x.2.given
    c.in_ok-text-2.text.items b.plan plan _ _ c.in_err-times-in-Some.field-0.0
    (c.in_err-times-in-Some.ensures start b.plan x.2.given c.in_ok-text-2.text.items begins)))

pub returns-in_err-times-in-None : goal.returns-in_err-times-in-None
returns-in_err-times-in-None g c =
    let q = err_from_is_err_and c.from_residual-in_err-times-in-None.result c.from_residual-in_err-times-in-None.ensures.1 in
    let n : Named = to_standard c.args.command.events.now c.args.command.trace.now c.args.command.gaps in
    let es = c.in_ok-events.events.items in
    let start = g.W.World.state c.open_in.new.self in
    let o = dump-opened g.W.World.told n (g.W.World.state c.args.world.now) c.in_ok-text.text.items (map event_in es) _ start
    c.in_ok-text.ensures (ap reading (sym c.as_slice.ensures.value) ∙ c.in_ok-events.ensures.says) c.in_ok-open_in.ensures.ok in
    let x = c.in_ok-header.ensures.ok Standard start (c.in_ok-pass.ensures g.W.World.told Standard start) in
    let b = rw c.as_slice-3.ensures.value at c.in_ok-body.ensures in
    let begins = c.in_ok-begin.ensures g.W.World.told Standard start (g.W.World.state c.header.new.world) x.0 b.plan x.2 b.stands in
    let plan = planned-for g.W.World.told n _ es start o Standard _ x.0 _ c.in_ok-header.header c.in_ok-text-2.text.items c.in_ok-body.body x.1 x.2
    (c.in_ok-text-2.ensures x.0 x.1 ∙ ap (λ es. header_text x.0.timescale (names_of es)) c.as_slice-2.ensures.value) b in
    rw (q.1, q.2)
    (subst (λ (out : Option _). IsOutcome g.W.World.told (record {
      events = c.args.command.events.now;
      trace = c.args.command.trace.now;
      out = option_copied out;
      gaps = c.args.command.gaps;
    }) (g.W.World.state c.args.world.now) (g.W.World.state c.body.new.world) (Err c.in_err-times-in-None.field-0.0)) (sym c.in-None.is)
    (left-standard g.W.World.told c.args.command.events.now c.args.command.trace.now c.args.command.gaps _ (map event_in es) start o x.2.given
    c.in_ok-text-2.text.items b.plan plan _ c.in_err-times-in-None.field-0.0
    (c.in_err-times-in-None.ensures start b.plan x.2.given c.in_ok-text-2.text.items begins.body)))

pub returns : goal.returns
returns g c =
    elim c.match-command.branch [
      | in-Some+in_ok-times-in-Some w ↦
          let n : Named = to_file c.args.command.events.now c.args.command.trace.now c.args.command.gaps w.in-Some.name.now in
          let es = c.in_ok-events.events.items in
          let start = g.W.World.state c.open_in.new.self in
          let o = dump-opened g.W.World.told n (g.W.World.state c.args.world.now) c.in_ok-text.text.items (map event_in es) _ start
          c.in_ok-text.ensures (ap reading (sym c.as_slice.ensures.value) ∙ c.in_ok-events.ensures.says) c.in_ok-open_in.ensures.ok in
          let count : c.len.result ≡ length (map event_in es) =
          omega (arith, c.len.ensures, c.as_slice-3.ensures.len, ap length c.as_slice-3.ensures.value, length-map es event_in) in
          let x = c.in_ok-header.ensures.ok File start (c.in_ok-pass.ensures g.W.World.told File start) in
          let b = rw c.as_slice-3.ensures.value at c.in_ok-body.ensures in
          let begins = c.in_ok-begin.ensures g.W.World.told File start (g.W.World.state c.header.new.world) x.0 b.plan x.2 b.stands in
          let plan = planned-for g.W.World.told n _ es start o File _ x.0 _ c.in_ok-header.header c.in_ok-text-2.text.items c.in_ok-body.body x.1 x.2
          (c.in_ok-text-2.ensures x.0 x.1 ∙ ap (λ es. header_text x.0.timescale (names_of es)) c.as_slice-2.ensures.value) b in
          rw (w.world-is, w.times-is, count)
          (subst (λ (out : Option _). Makes g.W.World.told (record {
            events = c.args.command.events.now;
            trace = c.args.command.trace.now;
            out = option_copied out;
            gaps = c.args.command.gaps;
          }) (g.W.World.state c.args.world.now) (g.W.World.state w.write_file.new.world) (Ok (length (map event_in es), w.in_ok-times-in-Some.times)))
          (sym w.in-Some.is)
          (whole-file g.W.World.told c.args.command.events.now c.args.command.trace.now c.args.command.gaps w.in-Some.name.now _ (map event_in es) start
          o x.2.given c.in_ok-text-2.text.items b.plan plan _ _ w.in_ok-times-in-Some.times
          (w.in_ok-times-in-Some.ensures start b.plan x.2.given c.in_ok-text-2.text.items begins)))
      | in-None+in_ok-times-in-None w ↦
          let n : Named = to_standard c.args.command.events.now c.args.command.trace.now c.args.command.gaps in
          let es = c.in_ok-events.events.items in
          let start = g.W.World.state c.open_in.new.self in
          let o = dump-opened g.W.World.told n (g.W.World.state c.args.world.now) c.in_ok-text.text.items (map event_in es) _ start
          c.in_ok-text.ensures (ap reading (sym c.as_slice.ensures.value) ∙ c.in_ok-events.ensures.says) c.in_ok-open_in.ensures.ok in
          let count : c.len.result ≡ length (map event_in es) =
          omega (arith, c.len.ensures, c.as_slice-3.ensures.len, ap length c.as_slice-3.ensures.value, length-map es event_in) in
          let x = c.in_ok-header.ensures.ok Standard start (c.in_ok-pass.ensures g.W.World.told Standard start) in
          let b = rw c.as_slice-3.ensures.value at c.in_ok-body.ensures in
          let begins = c.in_ok-begin.ensures g.W.World.told Standard start (g.W.World.state c.header.new.world) x.0 b.plan x.2 b.stands in
          let plan = planned-for g.W.World.told n _ es start o Standard _ x.0 _ c.in_ok-header.header c.in_ok-text-2.text.items c.in_ok-body.body x.1 x.2
          (c.in_ok-text-2.ensures x.0 x.1 ∙ ap (λ es. header_text x.0.timescale (names_of es)) c.as_slice-2.ensures.value) b in
          rw (w.world-is, w.times-is, count)
          (subst (λ (out : Option _). Makes g.W.World.told (record {
            events = c.args.command.events.now;
            trace = c.args.command.trace.now;
            out = option_copied out;
            gaps = c.args.command.gaps;
          }) (g.W.World.state c.args.world.now) (g.W.World.state w.body.new.world) (Ok (length (map event_in es), w.in_ok-times-in-None.times)))
          (sym w.in-None.is)
          (whole-standard g.W.World.told c.args.command.events.now c.args.command.trace.now c.args.command.gaps _ (map event_in es) start o x.2.given
          c.in_ok-text-2.text.items b.plan plan _ w.in_ok-times-in-None.times
          (w.in_ok-times-in-None.ensures start b.plan x.2.given c.in_ok-text-2.text.items begins.body)))
    ]
