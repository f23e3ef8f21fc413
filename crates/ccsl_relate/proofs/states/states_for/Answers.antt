-- What is followed has the clocks that the items read, and a set has these where the items read no others that are defined.
use Rattle.std.proofs.Common.{nat_lt, ◌||◌, sym, ap, ◌∙◌, rules, le-ltb}
use Rattle.std.proofs.lemmas.Bool.{or_right}
use Rattle.ccsl_base.specs.Clocks.{ticks_in}
use Rattle.ccsl_state.specs.Reach.{is_within}
use Rattle.ccsl_relate.proofs.Following.{read-each, read-from, subset-below}
use Rattle.ccsl_relate.proofs.states.states_for.Goals as goal

pub returns-then-is_subset-clause-suffice : goal.returns-then-is_subset-clause-suffice
returns-then-is_subset-clause-suffice c =
    let K = c.args.system.now in
    let clocks = c.clocks_read-clocks.result in
    read-from (λ x. nat_lt x K.declared) c.args.kept.now
    (λ x t. subset-below clocks K.declared x (search rules) (c.clocks_read-clocks.ensures x ∙ t))

pub returns-clause-suffice : goal.returns-clause-suffice
returns-clause-suffice c =
    let p = c.in_ok-part.part in
    read-from (is_within p.system p.followed) c.args.kept.now
    (λ x t. or_right (nat_lt x p.system.declared) (ticks_in x p.followed) (c.in_ok-part.ensures.has x (c.clocks_read-clocks.ensures x ∙ t)))

pub returns-clause-least : goal.returns-clause-least
returns-clause-least c = λ set closed reads.
    let K = c.args.system.now in
    c.in_ok-part.ensures.least set closed (λ x low t.
    sym (ap (λ b. b || ticks_in x set) (le-ltb x K.declared low))
    ∙ read-each (is_within K set) c.args.kept.now x reads (sym (c.clocks_read-clocks.ensures x) ∙ t))
