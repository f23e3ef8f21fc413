use Rattle.std.proofs.lemmas.Result.{err_from_is_err_and}
use Rattle.std.proofs.Common.{◌∙◌, ap, Err}
use Rattle.ccsl_vcd_lex.specs.Tokens.{token}
use Rattle.ccsl_scopes.proofs.AnswerLaws.{var-end-answers, var-end-refuses, scope-end-answers, scope-end-refuses}
use Rattle.ccsl_scopes.proofs.reader.HeaderReader.end.Goals as goal

pub returns-in_err-declare-in-Var : goal.returns-in_err-declare-in-Var
returns-in_err-declare-in-Var c limits h head words text s n =
    let p = err_from_is_err_and c.from_residual.result c.from_residual.ensures.1 in
    var-end-refuses limits h c.args.word head words (token c.args.at text) c.in_err-declare-in-Var.field-0.0 c.args.self.now c.declare.new.self
    c.from_residual.result c.in-Var.is (p.1 ∙ ap (λ f. Err f) p.2) (c.in_err-declare-in-Var.ensures limits h head words) s n

pub returns-in_err-end_scope-in-Scope : goal.returns-in_err-end_scope-in-Scope
returns-in_err-end_scope-in-Scope c limits h head words text s n =
    let p = err_from_is_err_and c.from_residual-in_err-end_scope-in-Scope.result c.from_residual-in_err-end_scope-in-Scope.ensures.1 in
    scope-end-refuses limits h c.args.word head words (token c.args.at text) c.in_err-end_scope-in-Scope.field-0.0 c.args.self.now c.end_scope.new.self
    c.from_residual-in_err-end_scope-in-Scope.result c.in-Scope.is (p.1 ∙ ap (λ f. Err f) p.2) c.in_err-end_scope-in-Scope.ensures.refused s

pub returns-in_ok-declare-in-Var : goal.returns-in_ok-declare-in-Var
returns-in_ok-declare-in-Var c limits h head words text s n =
    var-end-answers limits h c.args.word head words (token c.args.at text) c.close.result c.args.self.now c.declare.new.self c.close.new.self
    c.in-Var.is c.close.ensures.value c.close.ensures.closed (c.in_ok-declare-in-Var.ensures limits h head words) s n

pub returns-in_ok-end_scope-in-Scope : goal.returns-in_ok-end_scope-in-Scope
returns-in_ok-end_scope-in-Scope c limits h head words text s n =
    scope-end-answers limits h c.args.word head words (token c.args.at text) c.close-in-Scope.result c.args.self.now c.end_scope.new.self
    c.close-in-Scope.new.self
    c.in-Scope.is c.close-in-Scope.ensures.value c.in_ok-end_scope-in-Scope.ensures.ok c.in_ok-end_scope-in-Scope.ensures.name
    c.in_ok-end_scope-in-Scope.ensures.kept c.close-in-Scope.ensures.closed s
