use Rattle.std.proofs.lemmas.Result.{err_from_is_err_and}
use Rattle.std.proofs.Common.{◌≡◌, ◌∙◌, sym, ap, None, Err}
use Rattle.ccsl_vcd_lex.specs.Tokens.{token}
use Rattle.ccsl_scopes.proofs.AnswerLaws.{start-refuses, inside-answers, inside-refuses}
use Rattle.ccsl_scopes.proofs.reader.HeaderReader.hear.Goals as goal

pub returns-in_err-start : goal.returns-in_err-start
returns-in_err-start c limits h =
    let between : c.args.self.now.command ≡ None = c.in_default.is in
    let p = err_from_is_err_and c.from_residual.result c.from_residual.ensures.1 in
    start-refuses limits h (token c.args.at c.args.text.now) c.in_err-start.field-0.0 c.args.self.now c.start.new.self c.from_residual.result between
    (p.1 ∙ ap (λ f. Err f) p.2)
    (c.in_err-start.ensures limits h)

pub returns-in_err-take_word : goal.returns-in_err-take_word
returns-in_err-take_word c limits h =
    let p = err_from_is_err_and c.from_residual-in_err-take_word.result c.from_residual-in_err-take_word.ensures.1 in
    inside-refuses limits h (token c.args.at c.args.text.now) c.in-Some.word c.args.self.now c.take_word.new.self c.in-Some.is
    (sym c.is_text.ensures ∙ c.if-is_text.false) c.in_err-take_word.field-0.0 c.from_residual-in_err-take_word.result (p.1 ∙ ap (λ f. Err f) p.2)
    (c.in_err-take_word.ensures limits h)

pub returns : goal.returns
returns c limits h =
    inside-answers limits h (token c.args.at c.args.text.now) c.in-Some.word c.args.self.now c.take_word.new.self c.in-Some.is
    (sym c.is_text.ensures ∙ c.if-is_text.false) (c.in_ok-take_word.ensures limits h)
