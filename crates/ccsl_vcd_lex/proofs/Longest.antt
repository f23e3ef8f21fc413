-- The tokens are the longest runs, in ascending order of their places.
use Rattle.std.proofs.Common.{◌≡◌, ℕ, zero, suc, ◌+◌, ◌<◌, List, [], ◌∷◌, length, take, drop, Bool, true, false, cond, refl, sym, ap, ◌∙◌, arith, subst, inl}
use Rattle.std.proofs.Common.{inr, ◌⊎◌, ◌≤◌, map, get_or, zero-add, add-zero, add-one}
use Rattle.std.specs.List.{Contains}
use Rattle.std.specs.List.Sorted.{IsStrictlyIncreasing}
use Rattle.std.proofs.lemmas.List.{drop_all}
use Rattle.ccsl_vcd_lex.specs.Tokens.{is_white, Token, token, run, begins, tokens_from, tokens}
use Rattle.ccsl_vcd_lex.specs.Runs.{fresh_after, IsRun}

-- the token is one of these
abbrev IsIn : Token → List Token → Type 0
IsIn t [] = ⊥
IsIn t (u ∷ us) = (t ≡ u) ⊎ IsIn t us

contains : (t : Token) (ts : List Token) → IsIn t ts → Contains ts t
contains t [] h = absurd h
contains t (u ∷ us) (inl e) = (0, omega arith, sym e)
contains t (u ∷ us) (inr i) = let c = contains t us i in (suc c.0, let l : c.0 < length us = c.1 in omega arith, c.2)

is-in : (t : Token) (ts : List Token) → Contains ts t → IsIn t ts
is-in t ts c = go ts c.0 c.1 c.2
  where
    go : (ts : List Token) (k : ℕ) → k < length ts → get_or ts k t ≡ t → IsIn t ts
    go [] k l e = absurd (omega arith)
    go (u ∷ us) zero l e = inl (sym e)
    go (u ∷ us) (suc k) l e = inr (go us k (omega arith) e)

-- the run at a place behind the first
record RunAt (f : Bool) (at : ℕ) (bs : List ℕ) (t : Token) : Type 0 where
  k : ℕ
  place : t.at ≡ at + k
  fresh : fresh_after f (take k bs) ≡ true
  longest : t.text ≡ run (drop k bs)
  some : 0 < length t.text

here : (at b : ℕ) (bs : List ℕ) (t : Token) → is_white b ≡ false → t ≡ token at (run (b ∷ bs)) → RunAt true at (b ∷ bs) t
unfolding fresh_after run
here at b bs t d e =
    let n : 0 < length (run (b ∷ bs)) = rw d (omega arith) in
    record {
      k = 0;
      place = ap (λ (u : Token). u.at) e ∙ omega arith;
      fresh = refl;
      longest = ap (λ (u : Token). u.text) e;
      some = subst (λ (u : Token). 0 < length u.text) (sym e) n;
    }

further : (f : Bool) (at b : ℕ) (bs : List ℕ) (t : Token) → RunAt (is_white b) (at + 1) bs t → RunAt f at (b ∷ bs) t
unfolding fresh_after
further f at b bs t r = record { k = suc r.k; place = r.place ∙ omega arith; fresh = r.fresh; longest = r.longest; some = r.some }

-- a token is in the bytes
pick : (f : Bool) (at b : ℕ) (bs : List ℕ) (t : Token) → (IsIn t (tokens_from (is_white b) (at + 1) bs) → RunAt (is_white b) (at + 1) bs t) → (w : Bool)
    → is_white b ≡ w
    → IsIn t (begins f w (token at (run (b ∷ bs))) (tokens_from (is_white b) (at + 1) bs)) → RunAt f at (b ∷ bs) t
pick true at b bs t ih true e i = further true at b bs t (ih i)
pick true at b bs t ih false e (inl i) = here at b bs t e i
pick true at b bs t ih false e (inr i) = further true at b bs t (ih i)
pick false at b bs t ih w e i = further false at b bs t (ih i)

found : (f : Bool) (at : ℕ) (bs : List ℕ) (t : Token) → IsIn t (tokens_from f at bs) → RunAt f at bs t
unfolding tokens_from
found f at [] t h = absurd h
found f at (b ∷ bs) t h = pick f at b bs t (found (is_white b) (at + 1) bs t) (is_white b) refl h

-- each token of the bytes is such a run
pub tokens-are-runs : (bytes : List ℕ) (t : Token) → Contains (tokens bytes) t → IsRun bytes t
tokens-are-runs bytes t c =
    let r : RunAt true 0 bytes t = found true 0 bytes t (is-in t (tokens bytes) c) in
    let k : r.k ≡ t.at = sym (r.place ∙ zero-add r.k) in
    record {
      fresh = ap (λ (n : ℕ). fresh_after true (take n bytes)) (sym k) ∙ r.fresh;
      longest = r.longest ∙ ap (λ (n : ℕ). run (drop n bytes)) k;
      some = r.some;
    }

put-first : (w : Bool) (t u : Token) (us : List Token) → w ≡ false → t ≡ u → IsIn t (begins true w u us)
put-first true t u us e h = absurd (cc)
put-first false t u us e h = inl h

put-behind : (f w : Bool) (t u : Token) (us : List Token) → IsIn t us → IsIn t (begins f w u us)
put-behind true true t u us i = i
put-behind true false t u us i = inr i
put-behind false w t u us i = i

run-white : (b : ℕ) (bs : List ℕ) → 0 < length (run (b ∷ bs)) → is_white b ≡ false
unfolding run
run-white b bs h =
    (elim (is_white b) as (λ w. 0 < length (cond w [] (b ∷ run bs)) → w ≡ false) [ true ↦ λ g. absurd (omega arith) | false ↦ λ _. refl ]) h

all : (f : Bool) (at k : ℕ) (bs text : List ℕ) → fresh_after f (take k bs) ≡ true → text ≡ run (drop k bs) → 0 < length text
    → IsIn (token (at + k) text) (tokens_from f at bs)
unfolding tokens_from run fresh_after
all f at k [] text h e n = absurd (omega (arith, ap length (e ∙ ap run (drop_all k [] (omega arith))), n))
all f at zero (b ∷ bs) text h e n =
    let d : is_white b ≡ false = run-white b bs (subst (λ (xs : List ℕ). 0 < length xs) e n) in
    let t : token (at + 0) text ≡ token at (run (b ∷ bs)) = ap (λ (m : ℕ). token m text) (add-zero at) ∙ ap (token at) e in
    subst (λ (g : Bool). IsIn (token (at + 0) text) (begins g (is_white b) (token at (run (b ∷ bs))) (tokens_from (is_white b) (at + 1) bs))) (sym h)
    (put-first (is_white b) _ _ _ d t)
all f at (suc k) (b ∷ bs) text h e n =
    let i : IsIn (token (at + 1 + k) text) (tokens_from (is_white b) (at + 1) bs) = all (is_white b) (at + 1) k bs text h e n in
    let m : at + 1 + k ≡ at + suc k = omega arith in
    put-behind f (is_white b) _ _ _ (subst (λ (j : ℕ). IsIn (token j text) (tokens_from (is_white b) (at + 1) bs)) m i)

-- each such run is a token of the bytes
pub runs-are-tokens : (bytes : List ℕ) (t : Token) → IsRun bytes t → Contains (tokens bytes) t
runs-are-tokens bytes t r =
    contains t (tokens bytes) (subst (λ (n : ℕ). IsIn (token n t.text) (tokens bytes)) (zero-add t.at) (all true 0 t.at bytes t.text r.fresh r.longest r.some))

-- the places of tokens, none before a bound
abbrev pub From : ℕ → List ℕ → Type 0
From n [] = Unit {0}
From n (k ∷ ks) = (n ≤ k) × From (k + 1) ks

from-less : (n m : ℕ) (ks : List ℕ) → n ≤ m → From m ks → From n ks
from-less n m [] l f = tt
from-less n m (k ∷ ks) l f = (omega (arith, f.0), f.1)

places-from : (f : Bool) (at : ℕ) (bs : List ℕ) → From at (map (λ t. t.at) (tokens_from f at bs))
unfolding tokens_from
places-from f at [] = tt
places-from f at (b ∷ bs) = put f (is_white b) (places-from (is_white b) (at + 1) bs)
  where
    put : (f w : Bool) → From (at + 1) (map (λ t. t.at) (tokens_from (is_white b) (at + 1) bs))
        → From at (map (λ t. t.at) (begins f w (token at (run (b ∷ bs))) (tokens_from (is_white b) (at + 1) bs)))
    put true true h = from-less at (at + 1) _ (omega arith) h
    put true false h = (omega arith, h)
    put false w h = from-less at (at + 1) _ (omega arith) h

rises : (n : ℕ) (ks : List ℕ) → From n ks → IsStrictlyIncreasing ks
rises n [] f k l = absurd (omega arith)
rises n (a ∷ []) f k l = absurd (omega arith)
rises n (a ∷ b ∷ ks) f zero l = omega (arith, f.1.0)
rises n (a ∷ b ∷ ks) f (suc k) l =
    subst (λ (n : ℕ). get_or (b ∷ ks) k 0 < get_or (a ∷ b ∷ ks) n 0) (ap suc (add-one k) ∙ sym (add-one (suc k))) (rises (a + 1) (b ∷ ks) f.1 k (omega arith))

-- the places ascend
pub ascends : (bytes : List ℕ) → IsStrictlyIncreasing (map (λ t. t.at) (tokens bytes))
ascends bytes = rises 0 _ (places-from true 0 bytes)
