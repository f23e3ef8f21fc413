use Rattle.std.proofs.Common.{[], Result, refl, ap, subst}
use Rattle.ccsl_vcd.specs.declared.fault.VcdFault.{VcdFault}
use Rattle.ccsl_events.specs.Dump.{block_says}
use Rattle.ccsl_events.specs.Standing.{are_skipped, Answers}
use Rattle.ccsl_events.proofs.Standing.{gap-goes}
use Rattle.ccsl_events.proofs.body.Body.begin_gap.Goals as goal

pub returns-in-Skip : goal.returns-in-Skip
returns-in-Skip c plan p s =
    let block = c.begin_block.new.self in
    gap-goes plan p c.args.at block _
    (subst (λ (r : Result (Unit {0}) VcdFault). Answers plan p.written (block_says p c.args.at) r block [] []) c.in_ok-begin_block.was
    (c.begin_block.ensures plan p s))
    (ap are_skipped c.in-Skip.is)
    (λ q t. record {
      keeps = c.forget.ensures plan q.views t.keeps;
      amid = t.amid;
      dumping = t.dumping;
      recording = refl;
      now = t.now;
      skips = t.skips;
      times = t.times;
    })
