use Rattle.std.proofs.Common.{◌≡◌, ℕ, ◌++◌, ◌∷◌, List, sym, subst, arith, vec_len}
use Rattle.std.specs.Prelude.{IfOk, IfErr, ◌≢◌, Err}
use Rattle.std.proofs.lemmas.Result.{err_from_is_err_and}
use Rattle.ccsl_words.specs.declared.fault.WordFault.TheVariants as fault
use Rattle.ccsl_words.specs.Spelling.{digits}
use Rattle.ccsl_words.specs.Reads.{Reads}
use Rattle.ccsl_words.specs.Fault.{IsFault}
use Rattle.ccsl_words.proofs.Reading.{word_computed, fault_refused, reads_read}
use Rattle.ccsl_words.proofs.Stripped.{opens, not_opened, ended_word, front_long, none_long, some_long}
use Rattle.ccsl_words.proofs.word.Word.read.Goals as goal

pub returns-in_err-prefix-clause-fault : goal.returns-in_err-prefix-clause-fault
returns-in_err-prefix-clause-fault c =
    let p = err_from_is_err_and c.from_residual.result c.from_residual.ensures.1 in
    rw (p.1, p.2) (λ ne. rw (c.in_err-prefix.ensures.cause ne) (front_long c.args.text.now (c.in_err-prefix.ensures.long ne)))

pub returns-in_err-prefix-clause-refused : goal.returns-in_err-prefix-clause-refused
returns-in_err-prefix-clause-refused c = fault_refused c.args.text.now _ (returns-in_err-prefix-clause-fault c)

pub returns-in-Some-clause-word : goal.returns-in-Some-clause-word
returns-in-Some-clause-word c =
    let opened = opens c.args.text.now c.in_ok-prefix.prefix.items c.len.result c.in_ok-prefix.ensures.letters (omega arith) c.in-Some.ensures.cases.0 in
    let whole : c.args.text.now ≡ digits c.in_ok-prefix.prefix.items ++ 40 ∷ c.in-Some.inside.now = rw c.in-Some.ensures.cases.1 opened in
    subst (λ (text : List ℕ). IfOk c.with_period.result (λ w. Reads text w)) (sym whole) c.with_period.ensures.word

pub returns-in-Some-clause-fault : goal.returns-in-Some-clause-fault
returns-in-Some-clause-fault c =
    let opened = opens c.args.text.now c.in_ok-prefix.prefix.items c.len.result c.in_ok-prefix.ensures.letters (omega arith) c.in-Some.ensures.cases.0 in
    let whole : c.args.text.now ≡ digits c.in_ok-prefix.prefix.items ++ 40 ∷ c.in-Some.inside.now = rw c.in-Some.ensures.cases.1 opened in
    subst (λ (text : List ℕ). IfErr c.with_period.result (λ e. e ≢ fault.Memory → IsFault text e)) (sym whole) c.with_period.ensures.fault

pub returns-in-Some-clause-computed : goal.returns-in-Some-clause-computed
returns-in-Some-clause-computed c = word_computed c.args.text.now c.with_period.result (returns-in-Some-clause-word c)

pub returns-in-Some-clause-refused : goal.returns-in-Some-clause-refused
returns-in-Some-clause-refused c = fault_refused c.args.text.now c.with_period.result (returns-in-Some-clause-fault c)

pub returns-then-not-is_empty-clause-fault : goal.returns-then-not-is_empty-clause-fault
returns-then-not-is_empty-clause-fault c =
    λ _. not_opened c.args.text.now c.in_ok-prefix.prefix.items c.len.result c.in_ok-prefix.ensures.letters (omega arith) c.in_default.ensures.cases
    (some_long _ c.is_empty.result c.is_empty.ensures c.if-not-is_empty.true) (omega (arith, c.in_ok-prefix.ensures.few)) c.len-then-not-is_empty.result
    (omega arith)

pub returns-then-not-is_empty-clause-refused : goal.returns-then-not-is_empty-clause-refused
returns-then-not-is_empty-clause-refused c =
    fault_refused c.args.text.now (Err (fault.BadLetter c.len-then-not-is_empty.result)) (returns-then-not-is_empty-clause-fault c)

pub returns-clause-computed : goal.returns-clause-computed
returns-clause-computed c =
    rw (c.new.ensures, c.new-3.ensures, c.new-2.ensures.items)
    (reads_read c.args.text.now _
    (ended_word c.args.text.now c.in_ok-prefix.prefix.items c.len.result c.in_ok-prefix.ensures.letters (omega arith)
    (none_long _ c.is_empty.result c.is_empty.ensures c.if-not-is_empty.false)
    (omega (arith, some_long (vec_len c.in_ok-prefix.prefix) c.is_empty-2.result c.is_empty-2.ensures c.if-is_empty.false))
    (omega (arith, c.in_ok-prefix.ensures.few))))
