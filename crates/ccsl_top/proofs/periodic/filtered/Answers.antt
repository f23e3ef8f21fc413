use Rattle.std.proofs.Common.{◌≤◌, ap, ◌∙◌, subst}
use Rattle.ccsl_base.specs.declared.limits.TheConstants.{MAX_LETTERS}
use Rattle.ccsl_words.specs.Word.{word_len}
use Rattle.ccsl_periodic.specs.Causes.{IsCauseOf}
use Rattle.ccsl_report.specs.Texts.{periodic_word_text}
use Rattle.ccsl_top.specs.Outcome.{outcome}
use Rattle.ccsl_top.specs.Periodic.{word, long}
use Rattle.ccsl_top.proofs.periodic.filtered.Goals as goal

pub returns-in_ok-periodic_word-in-Ok : goal.returns-in_ok-periodic_word-in-Ok
returns-in_ok-periodic_word-in-Ok c =
    word (word_len c.in-Ok.word) c.in-Ok.ensures.plain (subst (λ w. word_len w ≤ MAX_LETTERS) c.word.view_is c.word.invariant.1)
    c.in-Ok.word c.in-Ok.ensures.word c.in_ok-text-in-Ok.text.items c.in_ok-text-in-Ok.ensures
    (ap (outcome 0) (c.in_ok-periodic_word-in-Ok.ensures ∙ ap periodic_word_text c.deref.ensures.value))

pub returns-in_ok-periodic_long-in-Err-TooLong : goal.returns-in_ok-periodic_long-in-Err-TooLong
returns-in_ok-periodic_long-in-Err-TooLong c =
    let cause = subst (IsCauseOf c.args.left.now c.args.right.now) c.in-Err-TooLong.field-0-is c.in-Err-TooLong.ensures.cause in
    long c.in-Err-TooLong.letters cause.0 cause.1 (ap (outcome 1) c.in_ok-periodic_long-in-Err-TooLong.ensures)
