-- The rows are the steps: what the items find of them is what the monitor finds.
use Rattle.std.proofs.Common.{length, refl, sym, ap, ◌∙◌, subst, arith}
use Rattle.ccsl_relate.specs.Completed.{Completes}
use Rattle.ccsl_relate.specs.Watching.{Watching}
use Rattle.ccsl_relate.proofs.Completing.{completes-itself}
use Rattle.ccsl_relate.proofs.Passing.{items-have-room}
use Rattle.ccsl_relate.proofs.Ranges.{fit-on}
use Rattle.ccsl_relate.proofs.Through.{rows-taken}
use Rattle.ccsl_relate.proofs.monitor.Monitor.check_items.Goals as goal

pub first_violation-first-requires-clause-room : goal.first_violation-first-requires-clause-room
first_violation-first-requires-clause-room c =
    let n = length c.args.rows.now in
    items-have-room n n (omega arith) c.as_mut_slice-kept.ensures.value c.self.view_is (ap (λ (u : Watching). u.first) c.self.view_is ∙ c.requires.none)
    c.requires.few

pub returns : goal.returns
returns c =
    let rows = c.args.rows.now in
    let K = c.self.inside.system.now in
    let stateless = ap (λ (u : Watching). u.states) c.self.view_is ∙ c.requires.stateless in
    rows-taken c.self.inside.kept rows rows (length rows) refl c.as_mut_slice-kept.ensures.value c.self.view_is
    (ap (λ (u : Watching). u.first) c.self.view_is ∙ c.requires.none) c.rows_are_sets.ensures refl
    (λ T after few. subst (λ h. Completes K T h rows rows h) (sym stateless) (completes-itself K T rows))
    c.first_violation-first.ensures

pub invariant_of-self : goal.invariant_of-self
invariant_of-self c = (
  c.self.invariant.0,
  fit-on c.self.inside.kept c.self.inside.readers c.first_violation-first.new.kept c.as_mut_slice-kept.ensures.value c.first_violation-first.ensures.clocks
      c.self.invariant.1,
  c.self.invariant.2,
)
