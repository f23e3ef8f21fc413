use Rattle.std.proofs.lemmas.Result.{err_from_is_err_and}
use Rattle.std.proofs.Common.{◌∙◌, ap, Err}
use Rattle.ccsl_vcd_lex.specs.Tokens.{token}
use Rattle.ccsl_scopes.proofs.HoldLaws.{word-kept, word-refused, scale-kept}
use Rattle.ccsl_scopes.proofs.reader.HeaderReader.take_word.Goals as goal

pub returns-in_err-take_part-in-Var : goal.returns-in_err-take_part-in-Var
returns-in_err-take_part-in-Var c limits h head words s n =
    let p = err_from_is_err_and c.from_residual.result c.from_residual.ensures.1 in
    word-refused limits h c.args.word head words (token c.args.at c.args.text.now) c.in_err-take_part-in-Var.field-0.0 c.args.self.now c.take_part.new.self
    c.from_residual.result c.in-Var.is (p.1 ∙ ap (λ f. Err f) p.2) (c.in_err-take_part-in-Var.ensures.parts limits h head words) s n

pub returns-in_ok-take_part-in-Var : goal.returns-in_ok-take_part-in-Var
returns-in_ok-take_part-in-Var c limits h head words s n =
    word-kept limits h c.args.word head words (token c.args.at c.args.text.now) c.args.self.now c.take_part.new.self c.count.new.self
    c.in-Var.is (c.in_ok-take_part-in-Var.ensures.parts limits h head words) c.in_ok-take_part-in-Var.ensures.count c.count.ensures s n

pub returns-in_ok-take_timescale-in-Timescale : goal.returns-in_ok-take_timescale-in-Timescale
returns-in_ok-take_timescale-in-Timescale c limits h head words s n =
    let was = c.in_ok-take_timescale-in-Timescale.ensures in
    scale-kept limits h c.args.word head words (token c.args.at c.args.text.now) c.args.self.now c.take_timescale.new.self c.count-in-Timescale.new.self
    c.in-Timescale.is was.text was.variables was.codes was.kept c.count-in-Timescale.ensures s n
