use Rattle.std.proofs.Common.{◌≡◌, ℕ, List, Bool, length, take, drop, arith, subst, ap, ap₂, ◌∙◌}
use Rattle.std.specs.Prelude.{IfOk}
use Rattle.ccsl_words.specs.Word.{letter, word_len}
use Rattle.ccsl_words.specs.Spelling.{spelling}
use Rattle.ccsl_periodic.proofs.Spelled.{front, front_len, prefix_read, period_read}
use Rattle.ccsl_periodic.proofs.text.write.Goals as goal
use Rattle.ccsl_periodic.proofs.text.write.Goals.{After-prefix_len}

all_letters : (c : After-prefix_len) → c.as_slice.result.now ≡ front (letter c.args.word.now) (word_len c.args.word.now)
all_letters c = c.as_slice.ensures.value ∙ c.in_ok-letters.ensures ∙ ap (front (letter c.args.word.now)) c.len.ensures.letters

pub spell-requires : goal.spell-requires
spell-requires c = omega (arith, ap length (all_letters c), front_len (letter c.args.word.now) (word_len c.args.word.now), c.prefix_len.ensures.within)

pub returns : goal.returns
returns c =
    let w = c.args.word.now in
    let read : c.as_slice.result.now ≡ front (letter w) (word_len w) =
    c.as_slice.ensures.value ∙ c.in_ok-letters.ensures ∙ ap (front (letter w)) c.len.ensures.letters in
    let prefix = ap₂ (λ (n : ℕ) (xs : List Bool). take n xs) c.prefix_len.ensures.prefix read ∙ prefix_read w in
    let period = ap₂ (λ (n : ℕ) (xs : List Bool). drop n xs) c.prefix_len.ensures.prefix read ∙ period_read w in
    subst (λ s. IfOk c.spell.result (λ text. text.items ≡ s)) (ap₂ (λ (a b : List Bool). spelling (record { prefix = a; period = b })) prefix period)
    c.spell.ensures
