use Rattle.std.proofs.Common.{sym, ◌∙◌}
use Rattle.ccsl_words.proofs.Splits.{spelling_apart}
use Rattle.ccsl_periodic.proofs.text.word_of.Goals as goal

pub returns-in-Ok : goal.returns-in-Ok
returns-in-Ok c = spelling_apart _ _ (sym c.in-Ok.ensures.word.spelled ∙ c.as_slice.ensures.value ∙ c.in_ok-text.ensures)
