use Rattle.std.proofs.Common.{Some, length, sym, ap, subst, ◌<◌, ◌∙◌}
use Rattle.ccsl_scopes.proofs.Added.{declared-more, result-length}
use Rattle.ccsl_scopes.proofs.CodeLaws.{found-code, added-last}
use Rattle.ccsl_scopes.proofs.header.Header.code.Goals as goal
use Rattle.ccsl_base.proofs.Tables.{found-within}

pub invariant_of-self : goal.invariant_of-self
invariant_of-self c =
    let old = c.args.self.now.codes in
    record {
      declared =
          declared-more (length old) (length c.add.new.self) c.args.self.now.variables.items
          (result-length old c.add.new.self c.args.text.now c.add.result c.add.ensures.added c.add.ensures.memory) c.args.self.now.declared;
    }

pub returns-in-Some-clause-known : goal.returns-in-Some-clause-known
returns-in-Some-clause-known c = found-code c.args.self.now.codes c.args.text.now c.in-Some.code (sym c.find.ensures.place ∙ c.in-Some.is)

pub returns-clause-number : goal.returns-clause-number
returns-clause-number c =
    added-last c.args.self.now.codes c.add.new.self c.args.text.now c.in_ok-add.field-0 (sym c.find.ensures.place ∙ c.in_default.is)
    c.in_ok-add.ensures.added
    ∙ sym (ap (λ n. Some n) c.len-code.ensures)

pub returns-clause-declared : goal.returns-clause-declared
returns-clause-declared c =
    subst (λ n. n < length c.add.new.self) (sym c.len-code.ensures)
    (found-within c.args.text.now c.add.new.self (length c.args.self.now.codes)
    (added-last c.args.self.now.codes c.add.new.self c.args.text.now c.in_ok-add.field-0 (sym c.find.ensures.place ∙ c.in_default.is)
    c.in_ok-add.ensures.added))
