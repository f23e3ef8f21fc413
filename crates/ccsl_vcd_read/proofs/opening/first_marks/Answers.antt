use Rattle.std.proofs.Common.{◌≡◌, ◌+◌, [], ◌∷◌, ◌++◌, not, map, sym, ap, ◌∙◌, arith}
use Rattle.ccsl_base.specs.Clocks.{is_ascending}
use Rattle.ccsl_base.specs.declared.limits.TheConstants.{MAX_CLOCKS}
use Rattle.std.proofs.lemmas.List.{map-append}
use Rattle.ccsl_vcd_read.specs.declared.marks.Mark.{Mark}
use Rattle.ccsl_vcd_read.specs.Marks.{mark_of}
use Rattle.ccsl_vcd_read.proofs.Openings.{below-none, below-all, found, marks-more, marks-none, marks-ascend}
use Rattle.ccsl_vcd_read.proofs.opening.first_marks.Goals as goal
use Rattle.ccsl_vcd_read.proofs.opening.first_marks.Goals.{in-Some+in_ok-push, in_default}

pub loop-clock-init : goal.loop-clock-init
loop-clock-init c = c.new-marks.ensures ∙ sym (ap (map (mark_of c.args.binding.now.codes [] [])) (below-none c.args.binding.now.bound))

pub push-requires-clause-later : goal.push-requires-clause-later
push-requires-clause-later c =
    let asc = c.are_declared.ensures.ascending in
    let f = found c.args.binding.now c.loop-clock.clock c.in-Some.code (sym c.in-Some.ensures) in
    let event = c.is_event-event.result in
    let m : Mark = record { clock = c.loop-clock.clock; code = c.in-Some.code; event = event; now = not event; before = not event } in
    ap is_ascending (sym (map-append (λ (x : Mark). x.clock) c.loop-clock.marks (m ∷ [])))
    ∙ marks-ascend c.args.binding.now (c.loop-clock.clock + 1) (c.loop-clock.marks ++ m ∷ []) asc
    (marks-more c.args.binding.now c.loop-clock.clock c.in-Some.code m c.loop-clock.marks asc f
    (ap (λ w. record { clock = c.loop-clock.clock; code = c.in-Some.code; event = w; now = not w; before = not w }) c.is_event-event.ensures)
    c.loop-clock.invariant)

pub loop-clock-preserved : goal.loop-clock-preserved
loop-clock-preserved c =
    let asc = c.are_declared.ensures.ascending in
    elim c.match-code_of.branch [
      | in-Some+in_ok-push w ↦
          let f = found c.args.binding.now c.loop-clock.clock w.in-Some.code (sym w.in-Some.ensures) in
          w.marks-is ∙ w.in_ok-push.ensures ∙ marks-more c.args.binding.now c.loop-clock.clock w.in-Some.code _ c.loop-clock.marks asc f
          (ap (λ v. record { clock = c.loop-clock.clock; code = w.in-Some.code; event = v; now = not v; before = not v }) w.is_event-event.ensures)
          c.loop-clock.invariant
      | in_default w ↦
          w.marks-is ∙ marks-none c.args.binding.now c.loop-clock.clock c.loop-clock.marks asc c.are_declared.ensures.declared
          (sym c.code_of.ensures ∙ w.in_default.is) c.loop-clock.invariant
    ]

pub returns-clause-marks : goal.returns-clause-marks
returns-clause-marks c =
    let n : c.loop-clock.clock ≡ MAX_CLOCKS = omega arith in
    c.loop-clock.invariant ∙ ap (map (mark_of c.args.binding.now.codes [] []))
    (ap (λ k. Rattle.ccsl_vcd_read.proofs.Openings.below k c.args.binding.now.bound) n
    ∙ below-all MAX_CLOCKS c.args.binding.now.bound c.are_declared.ensures.below)
