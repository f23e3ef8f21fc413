use Rattle.std.proofs.Common.{◌≡◌, ◌≤◌, ◌+◌, ◌*◌, ap, ap₂, sym, ◌∙◌, arith, length, take, ℕ, List}
use Rattle.std.specs.List.{sum_by}
use Rattle.std.proofs.lemmas.List.Sums.{sum_by-take-le}
use Rattle.std.proofs.lemmas.List.{take_all, length-take-le}
use Rattle.ccsl_base.specs.Bits.{size_of_word}
use Rattle.ccsl_base.proofs.Words.{sizes-most, sizes-next, length-members, members-used}
use Rattle.ccsl_base.proofs.clock_set.ClockSet.len.Goals as goal

pub loop-word-preserved : goal.loop-word-preserved
loop-word-preserved c =
    let words : List ℕ = take c.self.inside.used c.self.inside.words in
    ap₂ (λ m n. m + n) c.loop-word.invariant c.size_of_word-count.ensures ∙ sym (sizes-next words c.loop-word.word-index c.loop-word-test.true)

pub overflow_add-count : goal.overflow_add-count
overflow_add-count c =
    let words : List ℕ = take c.self.inside.used c.self.inside.words in
    let next : c.loop-word.count + c.size_of_word-count.result ≡ sum_by size_of_word (take (c.loop-word.word-index + 1) words) = loop-word-preserved c in
    let most : sum_by size_of_word (take (c.loop-word.word-index + 1) words) ≤ sum_by size_of_word words =
    sum_by-take-le size_of_word words (c.loop-word.word-index + 1) in
    let all : sum_by size_of_word words ≤ 64 * length words = sizes-most words in
    let few : length words ≡ c.self.inside.used =
    length-take-le c.self.inside.used c.self.inside.words (omega (arith, c.self.invariant.0, c.self.invariant.1)) in
    omega (arith, next, most, all, few, c.self.invariant.1)

pub returns : goal.returns
returns c =
    let words : List ℕ = take c.self.inside.used c.self.inside.words in
    c.loop-word.invariant
    ∙ ap (sum_by size_of_word) (take_all c.loop-word.word-index words (omega (arith, c.loop-word-test.false)))
    ∙ sym (length-members words)
    ∙ ap length (members-used c.self.inside.used c.self.inside.words (omega (arith, c.self.invariant.0, c.self.invariant.1)) c.self.invariant.2
    ∙ c.self.view_is)
