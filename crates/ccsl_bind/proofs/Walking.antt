-- The clocks that are bound, one by one.
use Rattle.std.proofs.Common.{◌≡◌, ℕ, ◌+◌, ◌≤◌, ◌<◌, List, [], ◌∷◌, ◌++◌, length, drop, Bool, true, false, nat_lt, cond, Option, Some, None, Result, Ok, Err}
use Rattle.std.proofs.Common.{get_or, refl, sym, ap, ◌∙◌, append_assoc, arith, drop-cons, add-one}
use Rattle.std.proofs.lemmas.Bool.{lt-ltb, le-ltb}
use Rattle.std.proofs.lemmas.List.{append-nil, drop_all}
use Rattle.ccsl_base.specs.Clocks.{with_clock}
use Rattle.ccsl_bind.specs.declared.candidate.Candidates.{Candidates}
use Rattle.ccsl_bind.specs.declared.fault.BindFault.{BindFault}
use Rattle.ccsl_bind.specs.declared.fault.BindFault.TheVariants.{Unbound, Ambiguous}
use Rattle.ccsl_bind.specs.Slots.{behind, clocks_from}
use Rattle.ccsl_bind.proofs.Above.{AllBelow, with_clock-last}

pub record Walked (declared : ℕ) (found : List (Option Candidates)) (bound : List ℕ) (i : ℕ) : Type 0 where
  pub so_far : clocks_from 0 declared found ≡ behind bound (clocks_from i declared (drop i found))
  pub low : AllBelow i bound

behind-none : (r : Result (List ℕ) BindFault) → behind [] r ≡ r
behind-none (Ok xs) = refl
behind-none (Err e) = refl

behind-both : (xs ys : List ℕ) (r : Result (List ℕ) BindFault) → behind xs (behind ys r) ≡ behind (xs ++ ys) r
behind-both xs ys (Ok zs) = ap (λ ws. Ok ws) (sym (append_assoc xs ys zs))
behind-both xs ys (Err e) = refl

pub walk-start : (declared : ℕ) (found : List (Option Candidates)) (bound : List ℕ) → bound ≡ [] → Walked declared found bound 0
walk-start declared found bound e = record {
  so_far = sym (behind-none (clocks_from 0 declared found)) ∙ ap (λ xs. behind xs (clocks_from 0 declared found)) (sym e);
  low = Rattle.std.proofs.Common.subst (AllBelow 0) (sym e) tt;
}

here : (declared : ℕ) (found : List (Option Candidates)) (i : ℕ) (o : Option Candidates) → i < length found → get_or found i None ≡ o
    → clocks_from i declared (drop i found) ≡ clocks_from i declared (o ∷ drop (i + 1) found)
here declared found i o h e =
    ap (clocks_from i declared) (drop-cons found i None h ∙ ap (λ p. p ∷ drop (Rattle.std.proofs.Common.suc i) found) e
    ∙ ap (λ k. o ∷ drop k found) (sym (add-one i)))

low-more : (i : ℕ) (xs : List ℕ) → AllBelow i xs → AllBelow (i + 1) xs
low-more i [] h = tt
low-more i (x ∷ xs) h = (omega (arith, h.0), low-more i xs h.1)

low-snoc : (i : ℕ) (xs : List ℕ) → AllBelow i xs → AllBelow (i + 1) (xs ++ i ∷ [])
low-snoc i [] h = (omega arith, tt)
low-snoc i (x ∷ xs) h = (omega (arith, h.0), low-snoc i xs h.1)

pub walk-none : (declared : ℕ) (found : List (Option Candidates)) (bound : List ℕ) (i : ℕ) → i < length found → get_or found i None ≡ None → declared ≤ i
    → Walked declared found bound i → Walked declared found bound (i + 1)
walk-none declared found bound i h e d w = record {
  so_far = w.so_far ∙ ap (behind bound) (here declared found i None h e
      ∙ ap (λ v. cond v (Err (Unbound i)) (clocks_from (i + 1) declared (drop (i + 1) found))) (le-ltb i declared d));
  low = low-more i bound w.low;
}

pub walk-some : (declared : ℕ) (found : List (Option Candidates)) (bound new : List ℕ) (i : ℕ) (c : Candidates) → i < length found
    → get_or found i None ≡ Some c → c.same ≡ true → new ≡ with_clock i bound → Walked declared found bound i → Walked declared found new (i + 1)
walk-some declared found bound new i c h e s n w =
    let last : new ≡ bound ++ i ∷ [] = n ∙ with_clock-last i bound w.low in
    record {
      so_far = w.so_far ∙ ap (behind bound) (here declared found i (Some c) h e
          ∙ ap (λ v. cond v (behind (i ∷ []) (clocks_from (i + 1) declared (drop (i + 1) found))) (Err (Ambiguous i))) s)
          ∙ behind-both bound (i ∷ []) (clocks_from (i + 1) declared (drop (i + 1) found))
          ∙ ap (λ xs. behind xs (clocks_from (i + 1) declared (drop (i + 1) found))) (sym last);
      low = Rattle.std.proofs.Common.subst (AllBelow (i + 1)) (sym last) (low-snoc i bound w.low);
    }

pub walk-unbound : (declared : ℕ) (found : List (Option Candidates)) (bound : List ℕ) (i : ℕ) → i < length found → get_or found i None ≡ None → i < declared
    → Walked declared found bound i → clocks_from 0 declared found ≡ Err (Unbound i)
walk-unbound declared found bound i h e d w =
    w.so_far ∙ ap (behind bound) (here declared found i None h e
    ∙ ap (λ v. cond v (Err (Unbound i)) (clocks_from (i + 1) declared (drop (i + 1) found))) (lt-ltb i declared d))

pub walk-ambiguous : (declared : ℕ) (found : List (Option Candidates)) (bound : List ℕ) (i : ℕ) (c : Candidates) → i < length found
    → get_or found i None ≡ Some c → c.same ≡ false → Walked declared found bound i → clocks_from 0 declared found ≡ Err (Ambiguous i)
walk-ambiguous declared found bound i c h e s w =
    w.so_far ∙ ap (behind bound) (here declared found i (Some c) h e
    ∙ ap (λ v. cond v (behind (i ∷ []) (clocks_from (i + 1) declared (drop (i + 1) found))) (Err (Ambiguous i))) s)

pub walk-end : (declared : ℕ) (found : List (Option Candidates)) (bound : List ℕ) (i : ℕ) → length found ≤ i → Walked declared found bound i
    → clocks_from 0 declared found ≡ Ok bound
walk-end declared found bound i h w = w.so_far ∙ ap (λ os. behind bound (clocks_from i declared os)) (drop_all i found h) ∙ ap (λ xs. Ok xs) (append-nil bound)

pub not-true : (b : Bool) → Rattle.std.proofs.Common.not b ≡ true → b ≡ false
not-true true e = absurd (cc)
not-true false e = refl

pub not-false : (b : Bool) → Rattle.std.proofs.Common.not b ≡ false → b ≡ true
not-false true e = refl
not-false false e = absurd (cc)
