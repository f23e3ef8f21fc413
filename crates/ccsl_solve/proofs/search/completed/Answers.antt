use Rattle.std.proofs.Common.{◌≡◌, ◌<◌, ◌∙◌, false, sym, ap, subst, le_trans}
use Rattle.std.proofs.lemmas.List.{length-map}
use Rattle.ccsl_formula.specs.Known.{known}
use Rattle.ccsl_formula.specs.Plain.{plain}
use Rattle.ccsl_refute.specs.Literals.{all_false, positives}
use Rattle.ccsl_solve.specs.Posed.{asked}
use Rattle.ccsl_solve.proofs.Parts.{under-self}
use Rattle.ccsl_solve.proofs.Complete.{all-yes, some-member}
use Rattle.ccsl_solve.proofs.Best.{model-self}
use Rattle.ccsl_solve.proofs.search.completed.Goals as goal

pub returns-clause-finds : goal.returns-clause-finds
returns-clause-finds c =
    let q = c.args.problem.now in
    let posed = c.requires.sound.posed in
    let p = known c.args.part.now in
    let none : all_false p (positives q.scope.declared) ≡ false = sym (ap (all_false p) posed.nonempty) ∙ sym c.if-all_false.ensures in
    record {
      within = under-self p;
      all = all-yes (asked q) p q.scope.named posed.reads c.requires.total
          (λ k l. c.in_default.ensures k (subst (λ n. k < n) (length-map q.formulas.now plain) l));
      member = some-member p q.scope.declared (λ x l. c.requires.total x (le_trans l posed.declared)) none;
      inside = c.requires.sound.inside;
      best = λ t a s. model-self q.wishes.now q.scope.named p t posed.wishes c.requires.total a;
    }
