use Rattle.std.proofs.Common.{◌≡◌, Some, Ok, Err, sym, ap, subst, ◌∙◌}
use Rattle.ccsl_vcd_lex.specs.Tokens.{token}
use Rattle.ccsl_vcd.specs.declared.fault.VcdFault.TheVariants as faults
use Rattle.ccsl_scopes.specs.declared.command.HeaderWord.TheVariants.{Var}
use Rattle.ccsl_scopes.specs.Headings.{header_word, starts}
use Rattle.ccsl_scopes.specs.Standing.{Opens}
use Rattle.ccsl_scopes.proofs.AnswerLaws.{is-full, full-opens, var-opens}
use Rattle.ccsl_scopes.proofs.reader.HeaderReader.start.Goals as goal

pub returns-then-is_full : goal.returns-then-is_full
returns-then-is_full c limits h s =
    let word : header_word c.args.text.now ≡ Var = sym c.header_word-word.ensures ∙ c.in-Var.is in
    subst (λ w. Opens limits (starts limits h (token c.args.at c.args.text.now) w) (Err (faults.TooManyVars c.args.at)) c.args.self.now) (sym word)
    (full-opens limits h (token c.args.at c.args.text.now) c.args.self.now
    (sym (is-full limits h c.args.self.now s) ∙ sym c.is_full.ensures ∙ c.if-is_full.true))

pub returns-else-is_full : goal.returns-else-is_full
returns-else-is_full c limits h s =
    let word : header_word c.args.text.now ≡ Var = sym c.header_word-word.ensures ∙ c.in-Var.is in
    subst (λ w. Opens limits (starts limits h (token c.args.at c.args.text.now) w) (Ok tt) c.enter.new.self) (sym word)
    (subst (λ r. Opens limits (starts limits h (token c.args.at c.args.text.now) Var) (Ok tt) r)
    (sym (c.enter.ensures ∙ ap (λ w. record c.args.self.now { command = Some w; head = c.args.at; words = 0 }) c.in-Var.is))
    (var-opens limits h (token c.args.at c.args.text.now) c.args.self.now
    (sym (is-full limits h c.args.self.now s) ∙ sym c.is_full.ensures ∙ c.if-is_full.false) word s))
