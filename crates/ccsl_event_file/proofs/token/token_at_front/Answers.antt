use Rattle.std.proofs.Common.{not, drop, ap, sym, ◌∙◌, length}
use Rattle.std.specs.Option.{unwrap_or}
use Rattle.ccsl_event_file.specs.Tokens.{is_word_byte, up_to}
use Rattle.ccsl_event_file.proofs.Lexing.{front_word}
use Rattle.ccsl_event_file.proofs.token.token_at_front.Goals as goal

pub returns-clause-front : goal.returns-clause-front
returns-clause-front c =
    let cut = c.cut.ensures.behind in
    let size = c.unwrap_or-more.ensures ∙ ap (λ n. unwrap_or n (length c.cut.result.1.now)) c.end_of_word.ensures.value
    ∙ ap (up_to (λ b. not (is_word_byte b))) cut in
    front_word c.args.text.now c.cut-2.result.0.now c.cut-3.result.1.now c.unwrap_or-more.result
    (sym c.is_empty.ensures ∙ c.if-is_empty.false) (sym c.is_word_byte.ensures ∙ c.if-not-is_word_byte.false) size c.cut-2.ensures.front
    (c.cut-3.ensures.behind ∙ ap (drop c.unwrap_or-more.result) cut)
