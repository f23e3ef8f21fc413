use Rattle.std.proofs.Common.{◌∷◌, [], ◌++◌, List, ℕ, Bool, map, sym, ap, ◌∙◌, append_assoc, append-nil}
use Rattle.std.proofs.lemmas.List.{map-append}
use Rattle.ccsl_refute.specs.declared.line.Lit.{Lit}
use Rattle.ccsl_solve.specs.Conflict.{denied}
use Rattle.ccsl_solve.proofs.Denials.{denies}
use Rattle.ccsl_solve.proofs.conflict.denial.Goals as goal

pub loop-clock-init : goal.loop-clock-init
loop-clock-init c = record { split = c.into_iter-clock-iterator.ensures.into_iter_gives ∙ c.pairs-clock-items.ensures.pairs; lits = c.new-lits.ensures.items }

pub loop-clock-preserved : goal.loop-clock-preserved
loop-clock-preserved c =
    let ps = c.loop-clock.yielded in
    let p : ℕ × Bool = (c.in-Some.clock, c.in-Some.value) in
    record {
      split = append_assoc ps (p ∷ []) c.next.new.self ∙ ap (λ (qs : List (ℕ × Bool)). ps ++ qs) (sym c.in-Some.ensures.steps) ∙ c.loop-clock.invariant.split;
      lits = c.in_ok-push.ensures.items ∙ ap (λ (ls : List Lit). ls ++ denied p ∷ []) c.loop-clock.invariant.lits ∙ sym (map-append denied ps (p ∷ []));
    }

pub returns : goal.returns
returns c = λ n inside.
    let ps = c.loop-clock.yielded in
    denies n c.args.part.now c.loop-clock.lits.items c.pairs-clock-items.ensures.ascending inside
    (c.loop-clock.invariant.lits ∙ ap (map denied)
    (sym (append-nil ps) ∙ ap (λ (qs : List (ℕ × Bool)). ps ++ qs) (sym c.in-None.ensures.steps.0) ∙ c.loop-clock.invariant.split))
