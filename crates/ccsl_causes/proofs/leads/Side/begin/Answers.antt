use Rattle.std.proofs.Common.{◌<◌, get_or, length, ap, ◌∙◌, arith}
use Rattle.std.specs.Prelude.{slice_set}
use Rattle.std.proofs.lemmas.List.{get_or_default}
use Rattle.std.proofs.lemmas.List.Edits.{map_over_more}
use Rattle.ccsl_causes.specs.declared.leads.Lead.{Lead}
use Rattle.ccsl_causes.specs.Leading.{begun}
use Rattle.ccsl_causes.proofs.leads.Side.begin.Goals as goal

pub loop-lead-preserved : goal.loop-lead-preserved
loop-lead-preserved c =
    let f = begun c.args.before.now c.args.left c.args.time in
    let now = c.loop-lead.lead-items in
    let at = c.loop-lead.lead-index in
    let lead : Lead = get_or now at (record { right = 0; since = 0 }) in
    let inside : at < length now = omega arith in
    ap (slice_set now at) c.begin.ensures
    ∙ map_over_more f c.deref_mut-lead-items.result.now now at lead c.loop-lead-test.true c.loop-lead.invariant
    (get_or_default now at (record { right = 0; since = 0 }) lead inside)
