-- By the ticks of both at the step.
use Rattle.std.proofs.Common.{◌≡◌, ◌+◌, ◌<◌, drop, length, sym, ap, ◌∙◌, get_or, false, arith}
use Rattle.ccsl_kernel.specs.Ticks.{count}
use Rattle.ccsl_plain.specs.Since.{wait_of}
use Rattle.ccsl_plain.proofs.TickWords.{found_here, not_ticking, not_waiting, after_tick, after_none, waits-past}
use Rattle.ccsl_plain.proofs.ticks.some_waits.Goals as goal
use Rattle.ccsl_plain.proofs.ticks.some_waits.Goals.{Joined-d-i, then-d-i, else-d-i, else-a-i-via-then-a-i+else-waits, else-a-i-via-else-a-i}

in_a : (c : Joined-d-i) → c.loop-i.i < length c.args.a.now
in_a c = omega arith

in_d : (c : Joined-d-i) → c.loop-i.i < length c.args.d.now
in_d c = omega arith

-- how often d ticks after the step
after : (c : Joined-d-i) → c.if-d-i.after ≡ count (drop (c.loop-i.i + 1) c.args.d.now)
after c =
    elim c.if-d-i.branch [
      | then-d-i w ↦ let e = after_tick c.args.d.now c.loop-i.i false (in_d c) w.if-d-i.true in omega (arith, w.after-is, c.loop-i.invariant.after)
      | else-d-i w ↦ w.after-is ∙ c.loop-i.invariant.after ∙ after_none c.args.d.now c.loop-i.i false (in_d c) w.if-d-i.false
    ]

pub returns-then-waits : goal.returns-then-waits
returns-then-waits c =
    let j = (goal.at.returns-then-waits c).Joined-d-i in
    sym (sym c.loop-i.invariant.rest
    ∙ found_here c.args.since c.args.a.now c.args.d.now c.loop-i.i false false (in_a j) (in_d j) c.if-a-i.true
    (ap (wait_of c.args.since (get_or c.args.d.now c.loop-i.i false)) (sym (after j)) ∙ sym c.waits.ensures ∙ c.if-waits.true))

pub loop-i-preserved : goal.loop-i-preserved
loop-i-preserved c =
    let j = (goal.at.loop-i-preserved c).Joined-d-i in
    record {
      rest = elim c.else-a-i.branch [
        | else-a-i-via-then-a-i+else-waits w ↦
            sym (not_waiting c.args.since c.args.a.now c.args.d.now c.loop-i.i false false (in_a j) (in_d j)
            (ap (wait_of c.args.since (get_or c.args.d.now c.loop-i.i false)) (sym (after j)) ∙ sym w.waits.ensures ∙ w.if-waits.false))
            ∙ c.loop-i.invariant.rest
        | else-a-i-via-else-a-i w ↦ sym (not_ticking c.args.since c.args.a.now c.args.d.now c.loop-i.i false false (in_a j) (in_d j) w.if-a-i.false)
            ∙ c.loop-i.invariant.rest
      ];
      after = after j;
    }

pub returns : goal.returns
returns c = sym (sym c.loop-i.invariant.rest ∙ waits-past c.args.since c.args.a.now c.args.d.now c.loop-i.i (omega arith))
