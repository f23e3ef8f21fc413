use Rattle.std.proofs.Common.{◌≡◌, ◌+◌, List, true, drop, take, map, sym, ap, subst, ◌∙◌, arith}
use Rattle.std.proofs.lemmas.Grind.{common_steps}
use Rattle.std.proofs.Common.{rules}
use Rattle.ccsl_base.specs.declared.limits.TheConstants.{MAX_CLOCKS}
use Rattle.ccsl_formula.specs.Plain.{plain}
use Rattle.ccsl_refute.specs.declared.line.Line.{Line}
use Rattle.ccsl_refute.specs.Validity.{is_valid, bad_from}
use Rattle.ccsl_refute.proofs.Lists.{drop-at, take-at}
use Rattle.ccsl_refute.proofs.Checking.{bad-step, bad-end}
use Rattle.ccsl_refute.proofs.Bounds.{below-snoc, valid-below}
use Rattle.ccsl_refute.proofs.Sound.{sound}
use Rattle.ccsl_formula.specs.Formula.{in_set}
use Rattle.ccsl_refute.specs.Below.{ClausesBelow}
use Rattle.ccsl_refute.proofs.checker.check.Goals as goal

pub loop-i-preserved : goal.loop-i-preserved
loop-i-preserved c =
    let lines = c.args.lines.now in
    let scope = c.args.scope.now in
    let fs = map plain c.args.formulas.now in
    let line = c.index-lines-i.result in
    let before = take-at lines c.loop-i.i (c.loop-i.i + 1) line c.loop-i-test.true (omega arith) c.index-lines-i.is in
    let after = drop-at lines c.loop-i.i (c.loop-i.i + 1) line c.loop-i-test.true (omega arith) c.index-lines-i.is in
    let valid : is_valid scope fs ((take c.loop-i.i lines)) line ≡ true = sym c.if-not-is_valid.ensures in
    record {
      within = omega arith;
      same =
          ap (λ es. bad_from scope fs es ((drop (c.loop-i.i + 1) lines))) before
          ∙ sym (bad-step scope fs ((take c.loop-i.i lines)) ((drop (c.loop-i.i + 1) lines)) line valid)
          ∙ sym (ap (bad_from scope fs ((take c.loop-i.i lines))) after)
          ∙ c.loop-i.invariant.same;
      below =
          subst (λ (es : List Line). ClausesBelow MAX_CLOCKS scope.declared es) (sym before)
          (below-snoc MAX_CLOCKS scope.declared ((take c.loop-i.i lines)) line c.loop-i.invariant.below
          (valid-below scope fs ((take c.loop-i.i lines)) line MAX_CLOCKS c.requires.declared c.requires.named valid));
    }

pub returns-then-ends_empty-clause-sound : goal.returns-then-ends_empty-clause-sound
returns-then-ends_empty-clause-sound c = λ set s.
    let scope = c.args.scope.now in
    let fs = map plain c.args.formulas.now in
    sound scope fs c.args.lines.now (in_set set)
    (bad-end scope fs c.args.lines.now c.loop-i.i c.loop-i-test.false c.loop-i.invariant.same (sym c.ends_empty.ensures ∙ c.if-ends_empty.true)) s

pub is_valid-requires-clause-below : goal.is_valid-requires-clause-below
is_valid-requires-clause-below c = search rules

pub returns-then-not-is_valid-clause-answers : goal.returns-then-not-is_valid-clause-answers
returns-then-not-is_valid-clause-answers c = grind (arith, common_steps)
