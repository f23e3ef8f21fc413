use Rattle.std.proofs.Common.{sym, ◌∙◌}
use Rattle.std.proofs.lemmas.Bool.{false≢true}
use Rattle.ccsl_kernel.proofs.accepted.are_well_formed.Goals as goal

pub returns-then-not-are_bodies : goal.returns-then-not-are_bodies
returns-then-not-are_bodies c =
    let bodies = rw c.members.ensures at c.are_bodies.ensures in
    (λ h. absurd (false≢true h), λ ok. absurd (false≢true (sym c.if-not-are_bodies.true ∙ bodies.1 ok.bodies)))

pub returns : goal.returns
returns c =
    let bodies = rw c.members.ensures at c.are_bodies.ensures in
    let definitions = rw c.members-2.ensures at c.are_definitions.ensures in
    let constraints = rw (c.members-3.ensures, c.len.ensures) at c.are_constraints.ensures in (
      λ h. record {
        counted = c.are_counted.ensures.0 c.if-not-are_counted.false;
        names = c.are_named.ensures.0 c.if-not-are_named.false;
        bodies = bodies.0 c.if-not-are_bodies.false;
        definitions = definitions.0 c.if-not-are_definitions.false;
        constraints = constraints.0 h;
      },
      λ ok. constraints.1 ok.constraints,
    )
