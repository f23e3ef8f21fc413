use Rattle.std.proofs.Common.{◌≡◌, ◌+◌, List, Bool, length, take, drop, arith, subst, ap, ◌∙◌}
use Rattle.std.specs.Prelude.{IfOk}
use Rattle.ccsl_words.specs.Word.{word_len}
use Rattle.ccsl_periodic.specs.Filtered.{on_letter, IsOn}
use Rattle.ccsl_periodic.proofs.Spelled.{front_len, spelled, if_ok-is}
use Rattle.ccsl_periodic.proofs.Plain.{spelled_on, len-spelled}
use Rattle.ccsl_periodic.proofs.filtered.plain_word.Goals as goal
use Rattle.ccsl_periodic.proofs.filtered.plain_word.Goals.{After-as_slice, After-drop-letters}

long : (c : After-as_slice) → length c.as_slice.result.now ≡ c.args.shape.now.prefix + c.args.shape.now.period
long c = ap length (c.as_slice.ensures.value ∙ c.in_ok-letters.ensures)
    ∙ front_len (on_letter c.args.left.now c.args.right.now) (c.args.shape.now.prefix + c.args.shape.now.period)

pub word_of-requires-clause-prefix : goal.word_of-requires-clause-prefix
word_of-requires-clause-prefix c = omega (arith, long c)

pub word_of-requires-clause-few : goal.word_of-requires-clause-few
word_of-requires-clause-few c = omega (arith, long c, c.requires.few)

is_spelled : (c : After-drop-letters)
    → IfOk c.word_of.result (λ v. v ≡ spelled (on_letter c.args.left.now c.args.right.now) c.args.shape.now.prefix c.args.shape.now.period)
is_spelled c =
    subst (λ (xs : List Bool). IfOk c.word_of.result (λ v. v ≡ record { prefix = take c.args.shape.now.prefix xs; period = drop c.args.shape.now.prefix xs }))
    (c.as_slice.ensures.value ∙ c.in_ok-letters.ensures) c.word_of.ensures

pub returns-clause-word : goal.returns-clause-word
returns-clause-word c =
    let f = on_letter c.args.left.now c.args.right.now in
    let p = c.args.shape.now.prefix in
    let q = c.args.shape.now.period in
    if_ok-is c.word_of.result (spelled f p q) (IsOn c.args.left.now c.args.right.now) (is_spelled c)
    (spelled_on c.args.left.now c.args.right.now c.requires.left_infinite c.requires.right_infinite p q c.requires.some c.requires.shape)

pub returns-clause-len : goal.returns-clause-len
returns-clause-len c =
    let f = on_letter c.args.left.now c.args.right.now in
    let p = c.args.shape.now.prefix in
    let q = c.args.shape.now.period in
    if_ok-is c.word_of.result (spelled f p q) (λ v. word_len v ≡ p + q) (is_spelled c) (len-spelled f p q)
