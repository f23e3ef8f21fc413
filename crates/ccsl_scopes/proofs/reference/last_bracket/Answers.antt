use Rattle.std.proofs.Common.{◌∙◌, sym, subst, arith, ◌<◌, IfSome, length}
use Rattle.ccsl_scopes.proofs.BracketLaws.{last-here, last-before, last-whole, last-within}
use Rattle.ccsl_scopes.proofs.reference.last_bracket.Goals.{then-text-i-eq91, else-text-i-eq91}
use Rattle.ccsl_scopes.proofs.reference.last_bracket.Goals as goal

pub loop-i-preserved : goal.loop-i-preserved
loop-i-preserved c = elim c.if-text-i-eq91.branch [
  | then-text-i-eq91 w ↦ last-here c.args.text.now c.loop-i.i c.if-text-i-eq91.found c.loop-i-test.true w.if-text-i-eq91.true w.found-is
  | else-text-i-eq91 w ↦
      last-before c.args.text.now c.loop-i.i c.loop-i.found c.if-text-i-eq91.found c.loop-i-test.true w.if-text-i-eq91.false c.loop-i.invariant w.found-is
]

pub returns-clause-within : goal.returns-clause-within
returns-clause-within c =
    subst (λ o. IfSome o (λ at. at < length c.args.text.now))
    (sym (c.loop-i.invariant ∙ last-whole c.args.text.now c.loop-i.i (omega (arith, c.loop-i-test.false))))
    (last-within c.args.text.now)
