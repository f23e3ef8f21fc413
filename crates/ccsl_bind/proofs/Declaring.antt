-- What a binder stands for, declaration by declaration.
use Rattle.std.proofs.Common.{◌≡◌, ℕ, zero, suc, ◌+◌, ◌≤◌, ◌<◌, List, [], ◌∷◌, ◌++◌, length, take, true, false, not, ◌||◌, Option, Some, None}
use Rattle.std.proofs.Common.{get_or, refl, sym, ap, ◌∙◌, subst, arith}
use Rattle.std.specs.Prelude.{bytes_eq}
use Rattle.std.specs.List.{slice_get}
use Rattle.std.proofs.Math.ListN.{set}
use Rattle.std.proofs.lemmas.Option.{slice_get_within}
use Rattle.std.proofs.lemmas.Bool.{and_parts, not-true}
use Rattle.ccsl_base.specs.declared.limits.TheConstants.{MAX_CLOCKS}
use Rattle.ccsl_base.specs.Names.{is_among, find_name, are_distinct}
use Rattle.ccsl_base.specs.Added.{IsAdded}
use Rattle.ccsl_base.proofs.Tables.{bytes_eq-true, find_name-there, there-among}
use Rattle.ccsl_vcd.specs.Binding.{Declaration, Wanted, is_event, qualifies}
use Rattle.ccsl_bind.specs.declared.candidate.Candidates.{Candidates}
use Rattle.ccsl_bind.specs.Codes.{put_code, codes_of, number_of}
use Rattle.ccsl_bind.specs.Candidates.{noted, AllSumUp, may_bind}
use Rattle.ccsl_bind.specs.Gathered.{Collected, StandsFor}
use Rattle.ccsl_bind.proofs.Finding.{find-last, put-grow, codes-more, not-among}
use Rattle.ccsl_bind.proofs.Gathering.{all-grow, all-pass, all-noted, same-length}

pub added-last : (old new : List (List ℕ)) (name : List ℕ) (o : Option ℕ) → find_name name old ≡ None → IsAdded old new name o
    → number_of name new ≡ Some (length old)
added-last old new name None e h = absurd (let f = not-among name old e in let g : true ≡ false = sym h.0 ∙ f in cc)
added-last old new name (Some n) e h = ap (number_of name) h.2 ∙ find-last name old h.0

module _ (v w : Collected) (wanted : Wanted) (ds : List Declaration) (d : Declaration) (s : StandsFor wanted v ds)
    (e : w ≡ record v { codes = put_code v.codes d.code }) where
  table : w.codes ≡ put_code v.codes d.code
  table = ap (λ (x : Collected). x.codes) e

  grown : AllSumUp w.codes ds w.wanted.names w.found
  grown =
      subst (λ (x : Collected). AllSumUp w.codes ds x.wanted.names x.found) (sym e)
      (all-grow v.codes w.codes (λ x i h. ap (number_of x) table ∙ put-grow x d.code v.codes i h) ds v.wanted.names v.found s.found)

  codes-then : w.codes ≡ codes_of (ds ++ d ∷ [])
  codes-then = table ∙ ap (λ t. put_code t d.code) s.codes ∙ sym (codes-more ds d)

  wanted-then : w.wanted ≡ wanted
  wanted-then = ap (λ (x : Collected). x.wanted) e ∙ s.wanted

  few-then : length w.wanted.names ≤ MAX_CLOCKS
  few-then = subst (λ (x : Collected). length x.wanted.names ≤ MAX_CLOCKS) (sym e) s.few

  pub passes : ((name : List ℕ) → is_among name w.wanted.names ≡ true → qualifies name d ≡ false) → StandsFor wanted w (ds ++ d ∷ [])
  passes h = record { wanted = wanted-then; codes = codes-then; found = all-pass w.codes ds d w.wanted.names w.found h grown; few = few-then }

  pub notes : (x : Collected) (i n : ℕ) → number_of d.code w.codes ≡ Some n → may_bind d.kind d.size ≡ true → are_distinct w.wanted.names ≡ true
      → find_name d.reference w.wanted.names ≡ Some i
      → x ≡ record w { found = set w.found i (Some (noted (get_or w.found i None) d.depth n (is_event d))) } → StandsFor wanted x (ds ++ d ∷ [])
  notes x i n c m a f g =
      subst (λ (y : Collected). StandsFor wanted y (ds ++ d ∷ [])) (sym g)
      (record { wanted = wanted-then; codes = codes-then; found = all-noted w.codes ds d w.wanted.names w.found i n c m a f grown; few = few-then })

  pub fits : (i : ℕ) → find_name d.reference w.wanted.names ≡ Some i → i < length w.found
  fits i f =
      let k = slice_get_within w.wanted.names i d.reference (find_name-there d.reference w.wanted.names i f) in
      let l = same-length w.codes ds w.wanted.names w.found grown in
      omega (arith, k, l)

-- Before the first declaration: the names, one by one.

pub record Named (names written : List (List ℕ)) (os : List (Option Candidates)) (i : ℕ) : Type 0 where
  pub names_are : names ≡ take i written
  pub found : AllSumUp [] [] names os

snoc-none : (names : List (List ℕ)) (os : List (Option Candidates)) (x : List ℕ) → AllSumUp [] [] names os → AllSumUp [] [] (names ++ x ∷ []) (os ++ None ∷ [])
snoc-none [] [] x s = (tt, tt)
snoc-none [] (o ∷ os) x s = absurd s
snoc-none (n ∷ ns) [] x s = absurd s
snoc-none (n ∷ ns) (o ∷ os) x s = (s.0, snoc-none ns os x s.1)

not-before : (names : List (List ℕ)) (i : ℕ) (x : List ℕ) → are_distinct names ≡ true → slice_get names i ≡ Some x → is_among x (take i names) ≡ false
not-before [] i x d e = absurd (cc)
not-before (n ∷ ns) zero x d e = refl
not-before (n ∷ ns) (suc i) x d e =
    let q = and_parts (not (is_among n ns)) (are_distinct ns) d in
    let away : is_among n ns ≡ false = not-true (is_among n ns) q.0 in
    let ne : bytes_eq x n ≡ false = (elim (bytes_eq x n) as (λ w. bytes_eq x n ≡ w → w ≡ false) [
      | true ↦ λ h. sym (ap (λ y. is_among y ns) (sym (bytes_eq-true x n h)) ∙ there-among ns i x e) ∙ away
      | false ↦ λ h. refl
    ]) refl in
    ap (λ w. w || is_among x (take i ns)) ne ∙ not-before ns i x q.1 e

take-next : (names : List (List ℕ)) (i : ℕ) (x : List ℕ) → slice_get names i ≡ Some x → take (i + 1) names ≡ take i names ++ x ∷ []
take-next [] i x e = absurd (cc)
take-next (n ∷ ns) zero x e = let k : n ≡ x = cc in ap (λ y. y ∷ []) k
take-next (n ∷ ns) (suc i) x e = let k : suc i + 1 ≡ suc (i + 1) = omega arith in ap (λ j. take j (n ∷ ns)) k ∙ ap (λ ys. n ∷ ys) (take-next ns i x e)

pub named-more : (names new written : List (List ℕ)) (os : List (Option Candidates)) (i : ℕ) (x : List ℕ) (o : Option ℕ) → are_distinct written ≡ true
    → slice_get written i ≡ Some x → Named names written os i → IsAdded names new x o
    → Named new written (os ++ None ∷ []) (i + 1)
named-more names new written os i x None d e q h = absurd (let g : true ≡ false = sym h.0 ∙ ap (is_among x) q.names_are ∙ not-before written i x d e in cc)
named-more names new written os i x (Some n) d e q h = record {
  names_are = h.2 ∙ ap (λ ys. ys ++ x ∷ []) q.names_are ∙ sym (take-next written i x e);
  found = subst (λ ys. AllSumUp [] [] ys (os ++ None ∷ [])) (sym h.2) (snoc-none names os x q.found);
}
