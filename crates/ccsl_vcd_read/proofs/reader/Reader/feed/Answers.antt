use Rattle.std.proofs.Common.{◌+◌, ◌++◌, sym, ap, ◌∙◌, arith}
use Rattle.std.proofs.lemmas.Grind.{common_steps}
use Rattle.ccsl_vcd_read.specs.Reading.{Reading, Takes}
use Rattle.ccsl_vcd_read.proofs.Wanting.{in-header, shown-none, out-same}
use Rattle.ccsl_vcd_read.proofs.StagePictures.{caused-map}
use Rattle.ccsl_vcd_read.proofs.Feeding.{starts, ready-of, still-ready, takes-more, piece-decides, piece-refuses, piece-still, stays-stopped, all-refused}
use Rattle.ccsl_vcd_read.proofs.Feeding.{if-none}
use Rattle.ccsl_vcd_read.proofs.Calm.{piece-calm}
use Rattle.ccsl_vcd_read.proofs.reader.Reader.feed.Goals as goal

pub returns-in-Some-clause-refuses : goal.returns-in-Some-clause-refuses
returns-in-Some-clause-refuses c =
    caused-map c.in-Some.fault (λ r. λ wanted bytes more s. r wanted bytes (c.args.piece.now ++ more) s)
    (all-refused c.args.self.now c.in-Some.fault (ap (λ (x : Reading). x.fault) (sym c.self.view_is) ∙ c.in-Some.is))

pub returns-in-Some-clause-still : goal.returns-in-Some-clause-still
returns-in-Some-clause-still c = λ wanted bytes s.
    stays-stopped c.args.self.now c.in-Some.fault (ap (λ (x : Reading). x.fault) (sym c.self.view_is) ∙ c.in-Some.is) wanted bytes c.args.piece.now s

-- ## The loop

pub loop-from-init : goal.loop-from-init
loop-from-init c =
    let runs = ap (λ (x : Reading). x.fault) (sym c.self.view_is) ∙ c.in_default.is in
    starts c.args.self.now c.args.out.now c.args.piece.now (ready-of runs c.requires.room c.requires.stands)

pub stride-requires-clause-ready : goal.stride-requires-clause-ready
stride-requires-clause-ready c =
    let passed = c.loop-from.invariant in
    still-ready passed.ready passed.takes passed.room

pub loop-from-preserved : goal.loop-from-preserved
loop-from-preserved c =
    let passed = c.loop-from.invariant in
    record {
      ready = passed.ready;
      room = grind (arith, common_steps, c.is_full.ensures, c.if-is_full.false);
      takes = takes-more passed.takes passed.room (rw c.if-step.false at c.in-Ok.ensures.takes);
    }

-- ## Where it stops behind some bytes

step : (c : goal.Joined-then-step) →
    Takes c.args.self.now c.stride.new.self c.args.piece.now (c.loop-from.from + c.in-Ok.step.bytes) c.in-Ok.step.header_ended c.args.out.now c.stride.new.out
step c = takes-more c.loop-from.invariant.takes c.loop-from.invariant.room c.in-Ok.ensures.takes

pub returns-then-step-clause-stands : goal.returns-then-step-clause-stands
returns-then-step-clause-stands c = λ wanted bytes s. ((step c).took wanted bytes s).stands

pub returns-then-step-clause-pushes : goal.returns-then-step-clause-pushes
returns-then-step-clause-pushes c = λ wanted bytes s. ((step c).took wanted bytes s).pushes

pub returns-then-step-clause-header : goal.returns-then-step-clause-header
returns-then-step-clause-header c = λ wanted bytes s. ((step c).took wanted bytes s).header

pub returns-then-step-clause-filled : goal.returns-then-step-clause-filled
returns-then-step-clause-filled c = λ full wanted bytes s. ((step c).took wanted bytes s).filled full

-- ## Where there is a fault

pub returns-in-Err-clause-decides : goal.returns-in-Err-clause-decides
returns-in-Err-clause-decides c =
    if-none c.args.self.now.fault c.loop-from.invariant.ready.runs (piece-decides c.in-Err.fault c.loop-from.invariant.takes c.in-Err.ensures.stops)

pub returns-in-Err-clause-refuses : goal.returns-in-Err-clause-refuses
returns-in-Err-clause-refuses c = piece-refuses c.in-Err.fault c.loop-from.invariant.takes c.in-Err.ensures.stops

pub returns-in-Err-clause-still : goal.returns-in-Err-clause-still
returns-in-Err-clause-still c = piece-still c.loop-from.invariant.takes c.in-Err.ensures.stops

pub returns-in-Err-clause-calm : goal.returns-in-Err-clause-calm
returns-in-Err-clause-calm c =
    if-none c.args.self.now.fault c.loop-from.invariant.ready.runs (piece-calm c.in-Err.fault c.loop-from.invariant.takes c.in-Err.ensures.stops.calm)

pub returns-in-Err-clause-unpushed : goal.returns-in-Err-clause-unpushed
returns-in-Err-clause-unpushed c = λ e.
    let passed = c.loop-from.invariant in
    let stops = c.in-Err.ensures.stops in
    let w = passed.ready.stands in
    stops.unpushed ∙ out-same passed.takes w.0 w.1 w.2 (in-header c.loop-from.self.stage c.in-Err.fault stops.calm e)

pub returns-in-Err-clause-unbound : goal.returns-in-Err-clause-unbound
returns-in-Err-clause-unbound c = λ e.
    let stops = c.in-Err.ensures.stops in
    if-none c.args.self.now.fault c.loop-from.invariant.ready.runs
    (stops.shows ∙ shown-none c.loop-from.self.stage (in-header c.loop-from.self.stage c.in-Err.fault stops.calm e))
