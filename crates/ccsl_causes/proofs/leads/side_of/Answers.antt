use Rattle.std.proofs.Common.{[], ◌∷◌, ◌++◌, sym, ap, ◌∙◌}
use Rattle.ccsl_causes.specs.Leading.{lead_by}
use Rattle.ccsl_causes.proofs.Gathering.{gather-some, gather-none}
use Rattle.ccsl_causes.proofs.leads.side_of.Goals as goal
use Rattle.ccsl_causes.proofs.leads.side_of.Goals.{in-Some+in_ok-push-in-Some, in-None}

pub loop-j-preserved : goal.loop-j-preserved
loop-j-preserved c =
    let by = lead_by c.args.system.now c.args.left in
    let all = c.args.system.now.constraints in
    let j = c.loop-j.j in
    let here = c.constraint.ensures.constraint in
    elim c.match-lead_by.branch [
      | in-Some+in_ok-push-in-Some w ↦
          rw w.leads-is
          (w.in_ok-push-in-Some.ensures.items
          ∙ ap (λ leads. leads ++ w.in-Some.lead ∷ []) c.loop-j.invariant
          ∙ sym (gather-some by all j c.constraint.result.now here w.in-Some.lead (sym c.lead_by.ensures ∙ w.in-Some.is)))
      | in-None w ↦
          rw w.leads-is
          (c.loop-j.invariant ∙ sym (gather-none by all j c.constraint.result.now here (sym c.lead_by.ensures ∙ w.in-None.is)))
    ]
