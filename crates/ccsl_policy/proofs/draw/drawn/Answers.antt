use Rattle.std.proofs.Common.{◌≡◌, ◌∙◌, ◌+◌, ◌++◌, ◌∷◌, [], ℕ, sym, ap, subst, arith, add-one, rules}
use Rattle.rand_pcg.specs.Lcg.{Lcg}
use Rattle.rand_pcg.specs.Pcg.{pcg32}
use Rattle.ccsl_policy.specs.Words.{words_from}
use Rattle.ccsl_policy.specs.Generator.{StandsFor}
use Rattle.ccsl_policy.proofs.Drawn.{words-more}
use Rattle.ccsl_policy.proofs.draw.drawn.Goals as goal

pub loop-i-preserved : goal.loop-i-preserved
loop-i-preserved c = record {
  words = λ seed j s.
      let g = c.loop-i.generator in
      let i = c.loop-i.i in
      let old = c.loop-i.invariant.words seed j s in
      let more = words-more g seed j i c.loop-i.list.items old.0 old.1 in
      let word : c.next_word.result ≡ (pcg32 g).0 = ap (λ (q : ℕ × Lcg). q.0) c.next_word.ensures in
      let next : c.next_word.new.self ≡ (pcg32 g).1 = ap (λ (q : ℕ × Lcg). q.1) c.next_word.ensures in (
        c.push_reserved.ensures.items ∙ ap (λ x. c.loop-i.list.items ++ x ∷ []) word ∙ more.0 ∙ ap (words_from seed j) (sym (add-one i)),
        subst (λ (h : Lcg). StandsFor h seed (j + (i + 1))) (sym next) (subst (λ k. StandsFor (pcg32 g).1 seed (j + k)) (sym (add-one i)) more.1),
      );
  size = omega (arith, c.push_reserved.ensures.len);
  room = omega (arith, c.push_reserved.ensures.capacity);
}

pub loop-i-init : goal.loop-i-init
loop-i-init c = search rules

pub returns-in_err-list-clause-kept : goal.returns-in_err-list-clause-kept
returns-in_err-list-clause-kept c = search rules
