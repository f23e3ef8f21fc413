-- The next word of a seed.
use Rattle.std.proofs.Common.{◌≡◌, ℕ, zero, suc, ◌+◌, List, [], ◌∷◌, ◌++◌, refl, sym, ap, ◌∙◌, subst, add-suc}
use Rattle.rand_pcg.specs.Lcg.{Lcg, next, advance, next_state, state_after}
use Rattle.rand_pcg.specs.Pcg.{multiplier_64, output_xsh_rr, pcg32}
use Rattle.ccsl_policy.specs.Words.{seeded, word_at, words_from}
use Rattle.ccsl_policy.specs.Generator.{StandsFor}

after-suc : (w m p n s : ℕ) → state_after w m p (suc n) s ≡ next_state w m p (state_after w m p n s)
unfolding state_after
after-suc w m p zero s = refl
after-suc w m p (suc n) s = after-suc w m p n (next_state w m p s)

advance-suc : (n : ℕ) (g : Lcg) → advance 64 multiplier_64 (suc n) g ≡ next 64 multiplier_64 (advance 64 multiplier_64 n g)
advance-suc n g = ap (λ s. let h : Lcg = record g { state = s } in h) (after-suc 64 multiplier_64 g.increment n g.state)

word-next : (g : Lcg) (seed j : ℕ) → StandsFor g seed j → (pcg32 g).0 ≡ word_at seed j
word-next g seed j s = ap (λ (h : Lcg). output_xsh_rr h.state) s

stands-next : (g : Lcg) (seed j : ℕ) → StandsFor g seed j → StandsFor (pcg32 g).1 seed (suc j)
stands-next g seed j s = ap (next 64 multiplier_64) s ∙ sym (advance-suc j (seeded seed))

-- one more word
pub words-more : (g : Lcg) (seed j i : ℕ) (list : List ℕ) → list ≡ words_from seed j i → StandsFor g seed (j + i) →
    (list ++ (pcg32 g).0 ∷ [] ≡ words_from seed j (suc i)) × StandsFor (pcg32 g).1 seed (j + suc i)
words-more g seed j i list e s = (
  ap (λ xs. xs ++ (pcg32 g).0 ∷ []) e ∙ ap (λ x. words_from seed j i ++ x ∷ []) (word-next g seed (j + i) s),
  subst (λ k. StandsFor (pcg32 g).1 seed k) (sym (add-suc j i)) (stands-next g seed (j + i) s),
)
