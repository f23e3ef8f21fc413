use Rattle.std.proofs.Common.{◌≡◌, ◌∙◌, ℕ, List, length, ap, subst, arith, rules}
use Rattle.std.proofs.lemmas.List.Sorted.{All-permutation, Contains-permutation}
use Rattle.std.specs.List.Sorted.{IsPermutation}
use Rattle.ccsl_policy.specs.Priority.{word_of}
use Rattle.ccsl_policy.specs.Ranks.{IsRank}
use Rattle.ccsl_policy.proofs.Ranking.{ranks_to, ranks-all, ranks-each}
use Rattle.ccsl_policy.proofs.choice.ranked.Goals as goal

pub returns : goal.returns
returns c =
    let words = c.args.words.now in
    let n = length words in
    let done : c.loop-clock.clock ≡ n = omega arith in
    let all : c.loop-clock.ranked.items ≡ ranks_to words n = c.loop-clock.invariant ∙ ap (ranks_to words) done in
    let moved : IsPermutation (ranks_to words n) c.sort.new.self.items =
    subst (λ (xs : List (ℕ × ℕ)). IsPermutation xs c.sort.new.self.items) all c.in_ok-sort.ensures.permutation in
    record {
      ranks = All-permutation (IsRank words) (ranks_to words n) c.sort.new.self.items moved (ranks-all words n (omega arith));
      each = λ x l. Contains-permutation (ranks_to words n) c.sort.new.self.items (word_of words x, x) moved (ranks-each words n x l);
      sorted = c.in_ok-sort.ensures.sorted;
    }

pub loop-clock-preserved : goal.loop-clock-preserved
loop-clock-preserved c = search rules
