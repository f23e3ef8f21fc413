use Rattle.std.proofs.Common.{sym, ◌∙◌}
use Rattle.ccsl_event_file.proofs.Lexing.{letters_behind}
use Rattle.ccsl_event_file.proofs.token.sign.Goals as goal

pub returns-then-begins_with-clause-behind : goal.returns-then-begins_with-clause-behind
returns-then-begins_with-clause-behind c =
    letters_behind c.args.first c.args.rest.now c.cut.result.1.now c.letters.result.1.now c.requires c.if-first-eq34.false c.if-first-eq39.true
    (sym c.begins_with.ensures ∙ c.if-begins_with.true) c.cut.ensures.behind c.letters.ensures.behind
