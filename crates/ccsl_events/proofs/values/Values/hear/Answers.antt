use Rattle.std.proofs.Common.{◌≡◌, ℕ, Some, length, map, sym, ap, subst, ◌∙◌}
use Rattle.std.specs.Prelude.{Result, Ok, Err, OnOk}
use Rattle.std.proofs.lemmas.List.{length-map}
use Rattle.ccsl_base.specs.Clocks.{ticks_in}
use Rattle.ccsl_triggers.specs.Held.{held}
use Rattle.ccsl_events.specs.declared.values.Values.{Values}
use Rattle.ccsl_events.specs.Keeping.{kept, set_chain, chain, reads, Keeps}
use Rattle.ccsl_events.proofs.Kept.{keeps-set}
use Rattle.ccsl_events.proofs.values.Values.hear.Goals as goal

where-ok : {E : Type 0} (r : Result (Unit {0}) E) (P Q R S : Type 0) → (P → Q → R → S) → OnOk r P → OnOk r Q → OnOk r R → OnOk r S
where-ok (Ok u) P Q R S f p q s = f p q s
where-ok (Err e) P Q R S f p q s = tt

pub returns-then-branch : goal.returns-then-branch
returns-then-branch c plan views code k knows = c.in_ok-record.ensures.keeps c.if-branch.true plan views code k knows

pub returns : goal.returns
returns c =
    let mid = c.record.new.self in
    let letters = c.args.letters.now in
    let first = c.args.first in
    let still = c.in_ok-record.ensures.still c.if-branch.false in
    where-ok c.set.result _ _ _ _
    (λ is names same plan views code k knows.
    keeps-set plan views mid c.set.new.self code letters c.args.is_dumped first (subst (Keeps plan views) (sym still) k) same names
    (is ∙ ap (λ n. set_chain n (Some first) letters c.args.is_dumped (kept mid)) (sym (length-map mid.signals.items held)))
    (subst (λ (v : Values). (n : ℕ) → reads plan code n ≡ ticks_in n (chain (length (map held v.signals.items)) (Some first) (map held v.signals.items)))
    (sym still) knows.1))
    c.set.ensures.kept c.set.ensures.names c.set.ensures.same
