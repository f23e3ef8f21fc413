use Rattle.std.proofs.Common.{◌≡◌, ◌+◌, ◌++◌, ◌∙◌, List, Bool, length, take, drop, get_or, sym, ap, subst, arith}
use Rattle.std.specs.List.{All}
use Rattle.std.proofs.lemmas.List.{take_all}
use Rattle.ccsl_refute.specs.declared.line.Line.{Line}
use Rattle.ccsl_explain.specs.Used.{Cites, IsUsed, KeepsUsed}
use Rattle.ccsl_explain.proofs.Uses.{written, more-cited, used-block}
use Rattle.ccsl_explain.proofs.used.used_items.Goals as goal

pub loop-line-preserved : goal.loop-line-preserved
loop-line-preserved c =
    let us = c.loop-line.used.items in
    let ws = c.mark.new.used in
    let i = c.loop-line.line-index in
    let lines = c.args.lines.now in
    let was : c.deref_mut.result.now ≡ us = c.deref_mut.ensures.value in
    let same : length ws ≡ length us = c.mark.auto.used ∙ ap length was in
    let now : take c.loop-line.used.len (ws ++ drop (length ws) us) ≡ ws = written c.loop-line.used.len us ws (omega arith) (omega arith) in
    let keeps : KeepsUsed us ws = subst (λ (xs : List Bool). KeepsUsed xs ws) was c.mark.ensures.keeps in
    let cites : Cites (IsUsed ws) (get_or lines i c.line-item.result) = subst (λ (e : Line). Cites (IsUsed ws) e) c.line-item.is c.mark.ensures.cites in (
      ap length now ∙ same ∙ c.loop-line.invariant.0,
      subst (λ (xs : List Bool). All (Cites (IsUsed xs)) (take (i + 1) lines)) (sym now)
          (more-cited us ws lines i c.line-item.result c.loop-line-test.true keeps c.loop-line.invariant.1 cites),
    )

pub returns-clause-block : goal.returns-clause-block
returns-clause-block c = λ scope fs h.
    let us = c.loop-line.used.items in
    let lines = c.args.lines.now in
    let cites : All (Cites (IsUsed us)) lines =
    subst (λ (es : List Line). All (Cites (IsUsed us)) es) (take_all c.loop-line.line-index lines c.loop-line-test.false) c.loop-line.invariant.1 in
    used-block scope fs us lines cites h
