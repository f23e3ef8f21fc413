use Rattle.std.proofs.Common.{map, refl, subst}
use Rattle.ccsl_triggers.specs.Held.{held}
use Rattle.ccsl_events.specs.Begun.{plan_of}
use Rattle.ccsl_events.specs.Keeping.{AreUsers, AreSole}
use Rattle.ccsl_events.specs.Links.{IsLinked}
use Rattle.ccsl_events.proofs.Beginning.{keeps-begun}
use Rattle.ccsl_events.proofs.binding.body.Goals as goal

pub returns : goal.returns
returns c =
    let codes = c.args.codes in
    let sources = c.args.sources.now in
    let watches = c.args.watches in
    let links = c.in_ok-signals.field-0 in
    c.in_ok-body.ensures (plan_of codes sources watches c.args.gaps)
    (keeps-begun codes sources (map held links.signals.items) links.entries.items watches c.args.gaps _ c.are_distinct.ensures c.requires.coded
    (subst (λ n. IsLinked n sources (map held links.signals.items) links.entries.items) c.len.ensures c.in_ok-signals.ensures)
    refl refl c.requires.few c.empty-2.ensures
    (subst (λ ws. AreUsers ws c.in_ok-users.users.items) c.as_slice.ensures.value c.in_ok-users.ensures) c.in_ok-new.ensures
    (subst (λ ws. AreSole ws c.in_ok-users.users.items c.in_ok-sole_names.field-0.items) c.as_slice-3.ensures.value
    (subst (λ us. AreSole c.as_slice-3.result.now us c.in_ok-sole_names.field-0.items) c.as_slice-2.ensures.value c.in_ok-sole_names.ensures))
    c.empty.ensures)
    refl
