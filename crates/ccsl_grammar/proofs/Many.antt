-- The same reader again and again.
use Rattle.std.proofs.Common.{◌≡◌, ℕ, zero, suc, ◌<◌, ◌≤◌, Bool, true, false, List, [], ◌∷◌, ◌++◌, length, map, Option, None, refl, sym, ap, subst, ◌∙◌}
use Rattle.std.proofs.Common.{append_assoc, arith, length-append}
use Rattle.std.specs.List.{flat_map}
use Rattle.std.proofs.lemmas.List.{append-nil, map-id}
use Rattle.ccsl_grammar.specs.Terminals.{Terminal}
use Rattle.ccsl_grammar.specs.Reader.{Fault, no_syntax, too_deep, Reply, took, stopped, Reader, followed, ◌>>=◌, given, begins, picked, choose, many_within}
use Rattle.ccsl_grammar.specs.Reader.{many}
use Rattle.ccsl_grammar.specs.Deep.{all_deep}
use Rattle.ccsl_grammar.specs.Places.{Stops, Is, shallow}
use Rattle.ccsl_grammar.proofs.Good.{Took, Good, GoodAs, bind, give, either, same, weaker}
use Rattle.ccsl_grammar.proofs.Parts.{within, Reads, Self}

-- ---- the number of turns allowed does not matter, where there is enough of it

module _ {A : Type 0} (test : Terminal → Bool) (f : Reader A)
    (falls : (ts : List Terminal) (v : A) (rest : List Terminal) → f ts ≡ took v rest → length rest < length ts) where
  enough_reply : (n m : ℕ) → ((us : List Terminal) → length us ≤ n → length us ≤ m → many_within n test f us ≡ many_within m test f us)
      → (r : Reply A) (ts : List Terminal) → f ts ≡ r → length ts ≤ suc n → length ts ≤ suc m
      → followed r (λ v. many_within n test f >>= λ vs. given (v ∷ vs)) ≡ followed r (λ v. many_within m test f >>= λ vs. given (v ∷ vs))
  enough_reply n m ih (stopped k rest) ts e h i = refl
  enough_reply n m ih (took v rest) ts e h i =
      let lt : length rest < length ts = falls ts v rest e in
      ap (λ (r : Reply (List A)). followed r (λ vs. given (v ∷ vs))) (ih rest (omega arith) (omega arith))

  enough_picked : (n m : ℕ) → ((us : List Terminal) → length us ≤ n → length us ≤ m → many_within n test f us ≡ many_within m test f us)
      → (b : Bool) (ts : List Terminal) → length ts ≤ suc n → length ts ≤ suc m
      → picked b (f >>= λ v. many_within n test f >>= λ vs. given (v ∷ vs)) (given []) ts ≡ picked b (f >>= λ v. many_within m test f >>= λ vs. given (v ∷ vs))
      (given []) ts
  enough_picked n m ih false ts h i = refl
  enough_picked n m ih true ts h i = enough_reply n m ih (f ts) ts refl h i

  pub enough : (n m : ℕ) (ts : List Terminal) → length ts ≤ n → length ts ≤ m → many_within n test f ts ≡ many_within m test f ts
  enough zero zero ts h i = refl
  enough zero (suc m) [] h i = refl
  enough zero (suc m) (t ∷ ts) h i = absurd (omega arith)
  enough (suc n) zero [] h i = refl
  enough (suc n) zero (t ∷ ts) h i = absurd (omega arith)
  enough (suc n) (suc m) ts h i = enough_picked n m (λ us j k. enough n m us j k) (begins test ts) ts h i

  step_reply : (t : Terminal) (ts : List Terminal) (r : Reply A) → f (t ∷ ts) ≡ r
      → followed r (λ v. many_within (length ts) test f >>= λ vs. given (v ∷ vs)) ≡ followed r (λ v. many test f >>= λ vs. given (v ∷ vs))
  unfolding many
  step_reply t ts (stopped k rest) e = refl
  step_reply t ts (took v rest) e =
      let lt : length rest < suc (length ts) = falls (t ∷ ts) v rest e in
      ap (λ (r : Reply (List A)). followed r (λ vs. given (v ∷ vs))) (enough (length ts) (length rest) rest (omega arith) (omega arith))

  step_picked : (t : Terminal) (ts : List Terminal) (b : Bool)
      → picked b (f >>= λ v. many_within (length ts) test f >>= λ vs. given (v ∷ vs)) (given []) (t ∷ ts) ≡ picked b
      (f >>= λ v. many test f >>= λ vs. given (v ∷ vs)) (given []) (t ∷ ts)
  step_picked t ts false = refl
  step_picked t ts true = step_reply t ts (f (t ∷ ts)) refl

  -- one turn
  pub step : (ts : List Terminal) → many test f ts ≡ choose test (f >>= λ v. many test f >>= λ vs. given (v ∷ vs)) (given []) ts
  unfolding many
  step [] = refl
  step (t ∷ ts) = step_picked t ts (test t)

module _ {C T : Type 0} (spelled : C → List Terminal) (deep : C → List Terminal → Option (List Terminal)) (tree : C → T) (test : Terminal → Bool) (f : Reader T)
    (nonempty : (c : C) → 0 < length (spelled c)) (item : Reads spelled deep tree f) where
  falls_as : (ts : List Terminal) (v : T) (rest : List Terminal) → Took (Is spelled deep tree) f ts v rest → length rest < length ts
  falls_as ts v rest h =
      let n : 0 < length h.front = subst (λ (q : List Terminal). 0 < length q) h.holds.is (nonempty h.holds.whole) in
      omega (arith, ap length h.whole, length-append h.front rest)

  pub item_falls : (ts : List Terminal) (v : T) (rest : List Terminal) → f ts ≡ took v rest → length rest < length ts
  item_falls ts v rest e = falls_as ts v rest (subst (λ r. GoodAs (Stops spelled deep) (Is spelled deep tree) f ts r) e (item.at ts).is)

  one_stops : (k : Fault) (p z : List Terminal) → Stops spelled deep k p z → Stops (flat_map spelled) (all_deep spelled deep) k p z
  one_stops k p z h = within spelled deep (flat_map spelled) (all_deep spelled deep) (λ c. c ∷ []) (λ q. q) [] (λ x y. refl) (λ c. refl)
      (λ c z after e. rw e refl) k p z h

  further_stops : (v : T) (p : List Terminal) → Is spelled deep tree v p → (k : Fault) (q z : List Terminal)
      → Stops (flat_map spelled) (all_deep spelled deep) k q z → Stops (flat_map spelled) (all_deep spelled deep) k (p ++ q) z
  further_stops v p i k q z h =
      within (flat_map spelled) (all_deep spelled deep) (flat_map spelled) (all_deep spelled deep) (λ cs. i.whole ∷ cs) (λ q. p ++ q) []
      (λ x y. sym (append_assoc p x y)) (λ cs. rw (i.is, append-nil (flat_map spelled cs)) refl)
      (λ cs z after e. rw (i.deep_is (flat_map spelled cs ++ after)) e) k q z h

  further_is : (v : T) (p : List Terminal) → Is spelled deep tree v p → (vs : List T) (q : List Terminal)
      → Is (flat_map spelled) (all_deep spelled deep) (map tree) vs q → Is (flat_map spelled) (all_deep spelled deep) (map tree) (v ∷ vs) (p ++ (q ++ []))
  further_is v p i vs q j = record {
    whole = i.whole ∷ j.whole;
    is = rw (i.is, append-nil q, j.is) refl;
    tree_is = rw (i.tree_is, j.tree_is) refl;
    deep_is = λ after. rw (i.deep_is (flat_map spelled j.whole ++ after)) (j.deep_is after);
  }

  turn_good : (ts : List Terminal)
      → ((us : List Terminal) → length us < length ts
      → Good (Stops (flat_map spelled) (all_deep spelled deep)) (Is (flat_map spelled) (all_deep spelled deep) (map tree)) (many test f) us)
      → Good (Stops (flat_map spelled) (all_deep spelled deep)) (Is (flat_map spelled) (all_deep spelled deep) (map tree)) (many test f) ts
  turn_good ts ih = same _ _ (many test f) (choose test (f >>= λ v. many test f >>= λ vs. given (v ∷ vs)) (given [])) ts (step test f item_falls)
      (either _ _ test _ _ ts
      (λ b. bind (Stops spelled deep) (Is spelled deep tree) _ _ f _ ts (item.at ts) one_stops
      (λ v p z i e. bind (Stops (flat_map spelled) (all_deep spelled deep)) (Is (flat_map spelled) (all_deep spelled deep) (map tree)) _ _ (many test f) _ z
      (ih z (let n : 0 < length p = subst (λ (q : List Terminal). 0 < length q) i.is (nonempty i.whole) in omega (arith, ap length e, length-append p z)))
      (further_stops v p i)
      (λ vs q y j d. give _ _ (v ∷ vs) y (further_is v p i vs q j))))
      (λ b. give _ _ [] ts (record { whole = []; is = refl; tree_is = refl; deep_is = λ after. refl })))

  within_good : (n : ℕ) (ts : List Terminal) → length ts < n
      → Good (Stops (flat_map spelled) (all_deep spelled deep)) (Is (flat_map spelled) (all_deep spelled deep) (map tree)) (many test f) ts
  within_good zero ts h = absurd (omega arith)
  within_good (suc n) ts h = turn_good ts (λ us lt. within_good n us (omega arith))

  pub many_reads : Reads (flat_map spelled) (all_deep spelled deep) (map tree) (many test f)
  many_reads = record { at = λ ts. within_good (suc (length ts)) ts (omega arith) }

-- ---- lists of parts in which nothing stands deep

pub none_deep : {C : Type 0} (spelled : C → List Terminal) (cs : List C) (after : List Terminal) → all_deep spelled shallow cs after ≡ None
none_deep spelled [] after = refl
none_deep spelled (c ∷ cs) after = none_deep spelled cs after

lists_stop : {C : Type 0} (spelled : C → List Terminal) (k : Fault) (p z : List Terminal) → Stops (flat_map spelled) (all_deep spelled shallow) k p z
    → Stops (flat_map spelled) shallow k p z
lists_stop spelled no_syntax p z h = h
lists_stop spelled too_deep p z h = let n = none_deep spelled h.whole [] in let e = h.deep_is [] in absurd cc

pub many_self : {C : Type 0} (spelled : C → List Terminal) (test : Terminal → Bool) (f : Reader C) → ((c : C) → 0 < length (spelled c)) → Self spelled f
    → Self (flat_map spelled) (many test f)
many_self spelled test f nonempty h = record {
  at = λ ts. weaker _ _ _ _ (many test f) ts (lists_stop spelled)
      (λ v p i. record { whole = i.whole; is = i.is; tree_is = sym (map-id i.whole) ∙ i.tree_is; deep_is = λ after. refl })
      ((many_reads spelled shallow (λ c. c) test f nonempty h).at ts);
}
