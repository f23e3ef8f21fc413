-- How tokens go over a cut of the bytes.
use Rattle.std.proofs.Common.{◌≡◌, ℕ, ◌+◌, ◌≤◌, ◌<◌, List, [], ◌∷◌, ◌++◌, length, Bool, true, false, Some, None, nat_lt, ◌||◌, cond, get_or, refl, ap, ◌∙◌}
use Rattle.std.proofs.Common.{arith, length-append, filter, zero-add}
use Rattle.std.specs.List.{AllByRecursion, list_all, prefix_len}
use Rattle.std.proofs.lemmas.Grind.{common_steps}
use Rattle.std.proofs.lemmas.Bool.{lt-ltb, not-false}
use Rattle.std.proofs.lemmas.List.Elements.{filter-append}
use Rattle.std.proofs.lemmas.List.Sums.{prefix_len_stops}
use Rattle.ccsl_vcd_lex.specs.Tokens.{is_white, Token, token, end_of, run, begins, tokens_from, tokens, closed, is_long}
use Rattle.ccsl_vcd_lex.specs.LongTokens.{first_long}
use Rattle.ccsl_vcd_lex.specs.Runs.{fresh_after}
use Rattle.ccsl_vcd_lex.specs.Lexing.{Dark, is_dark}

-- all of the bytes are white
abbrev pub White : List ℕ → Type 0
White ws = AllByRecursion (λ b. is_white b ≡ true) ws

white-fresh : (f : Bool) (ws : List ℕ) → White ws → 0 < length ws → fresh_after f ws ≡ true
unfolding fresh_after
white-fresh f [] h n = absurd (omega arith)
white-fresh f (w ∷ []) h n = h.0
white-fresh f (w ∷ x ∷ ws) h n = white-fresh (is_white w) (x ∷ ws) h.1 (omega arith)

-- a token may begin behind white space
pub fresh-behind : (f : Bool) (p ws : List ℕ) → White ws → 0 < length ws → fresh_after f (p ++ ws) ≡ true
unfolding fresh_after
fresh-behind f [] ws h n = white-fresh f ws h n
fresh-behind f (c ∷ p) ws h n = fresh-behind (is_white c) p ws h n

-- the run at the front ends before the cut
run-cut : (p c : List ℕ) → fresh_after false p ≡ true → run (p ++ c) ≡ run p
unfolding fresh_after run
run-cut [] c h = cc
run-cut (b ∷ p) c h =
    (elim (is_white b) as (λ w. fresh_after w p ≡ true → cond w [] (b ∷ run (p ++ c)) ≡ cond w [] (b ∷ run p)) [
      | true ↦ λ _. refl
      | false ↦ λ g. ap (λ (r : List ℕ). b ∷ r) (run-cut p c g)
    ]) h

-- a token in front of tokens, and others behind them
begins-append : (f w : Bool) (t : Token) (xs ys : List Token) → begins f w t (xs ++ ys) ≡ begins f w t xs ++ ys
begins-append true true t xs ys = refl
begins-append true false t xs ys = refl
begins-append false w t xs ys = refl

-- where a token may begin behind the cut, the tokens of the two sides are those of the whole
pub tokens-cut : (f : Bool) (at : ℕ) (p c : List ℕ) → fresh_after f p ≡ true
    → tokens_from f at (p ++ c) ≡ tokens_from f at p ++ tokens_from true (at + length p) c
unfolding fresh_after tokens_from run
tokens-cut f at [] c h = rw h (ap (λ (n : ℕ). tokens_from true n c) (omega arith))
tokens-cut f at (b ∷ p) c h =
    let ih : tokens_from (is_white b) (at + 1) (p ++ c) ≡ tokens_from (is_white b) (at + 1) p ++ tokens_from true (at + 1 + length p) c =
    tokens-cut (is_white b) (at + 1) p c h in
    let n : at + 1 + length p ≡ at + length (b ∷ p) = omega arith in
    let r : begins f (is_white b) (token at (run (b ∷ (p ++ c)))) (tokens_from (is_white b) (at + 1) (p ++ c))
    ≡ begins f (is_white b) (token at (run (b ∷ p))) (tokens_from (is_white b) (at + 1) (p ++ c))
    = (elim (is_white b) as (λ w. fresh_after w p ≡ true
    → begins f w (token at (cond w [] (b ∷ run (p ++ c)))) (tokens_from (is_white b) (at + 1) (p ++ c)) ≡ begins f w (token at (cond w [] (b ∷ run p)))
    (tokens_from (is_white b) (at + 1) (p ++ c))) [
      | true ↦ λ _. refl
      | false ↦ λ g. rw (run-cut p c g) refl
    ]) h in
    r ∙ ap (λ (ts : List Token). begins f (is_white b) (token at (run (b ∷ p))) ts) ih
    ∙ begins-append f (is_white b) (token at (run (b ∷ p))) (tokens_from (is_white b) (at + 1) p) (tokens_from true (at + 1 + length p) c)
    ∙ ap (λ (k : ℕ). begins f (is_white b) (token at (run (b ∷ p))) (tokens_from (is_white b) (at + 1) p) ++ tokens_from true k c) n

pub run-dark : (xs c : List ℕ) → Dark xs → run (xs ++ c) ≡ xs ++ run c
unfolding run
run-dark [] c d = refl
run-dark (b ∷ xs) c d = rw d.0 (ap (λ (r : List ℕ). b ∷ r) (run-dark xs c d.1))

-- no token begins inside a run
inside : (at : ℕ) (xs : List ℕ) → Dark xs → tokens_from false at xs ≡ []
unfolding tokens_from
inside at [] d = refl
inside at (b ∷ xs) d = rw d.0 (inside (at + 1) xs d.1)

run-whole : (xs : List ℕ) → Dark xs → run xs ≡ xs
unfolding run
run-whole [] d = refl
run-whole (b ∷ xs) d = rw d.0 (ap (λ (r : List ℕ). b ∷ r) (run-whole xs d.1))

-- a run is one token
pub one-token : (at b : ℕ) (xs : List ℕ) → Dark (b ∷ xs) → tokens_from true at (b ∷ xs) ≡ token at (b ∷ xs) ∷ []
unfolding tokens_from
one-token at b xs d =
    let r : run (b ∷ xs) ≡ b ∷ xs = run-whole (b ∷ xs) d in
    rw (d.0, r, inside (at + 1) xs d.1) refl

-- a token whose run is followed by more
pub one-token-more : (at b : ℕ) (xs more : List ℕ) → Dark (b ∷ xs)
    → (rest : List Token) × (tokens_from true at ((b ∷ xs) ++ more) ≡ token at ((b ∷ xs) ++ run more) ∷ rest)
unfolding tokens_from
one-token-more at b xs more d =
    let r : run ((b ∷ xs) ++ more) ≡ (b ∷ xs) ++ run more = run-dark (b ∷ xs) more d in
    (tokens_from false (at + 1) (xs ++ more), rw (d.0, r) refl)

pub dark-append : (xs ys : List ℕ) → Dark xs → Dark ys → Dark (xs ++ ys)
dark-append [] ys d h = h
dark-append (x ∷ xs) ys d h = (d.0, dark-append xs ys d.1 h)

-- the first long token stands in the first list that has one
pub long-append : (xs ys : List Token) → first_long xs ≡ None → first_long (xs ++ ys) ≡ first_long ys
unfolding first_long
long-append [] ys h = refl
long-append (t ∷ xs) ys h =
    (elim (nat_lt 65536 (length t.text)) as (λ w. cond w (Some t.at) (first_long xs) ≡ None → cond w (Some t.at) (first_long (xs ++ ys)) ≡ first_long ys) [
      | true ↦ λ g. cc
      | false ↦ λ g. long-append xs ys g
    ]) h

-- the token of a run, if it has a byte
abbrev pub one : ℕ → List ℕ → List Token
one at [] = []
one at (b ∷ xs) = token at (b ∷ xs) ∷ []

-- all of these tokens end before that place
abbrev pub EndBefore : ℕ → List Token → Type 0
EndBefore n ts = AllByRecursion (λ t. end_of t < n) ts

run-shorter : (p : List ℕ) → fresh_after false p ≡ true → length (run p) < length p
unfolding fresh_after run
run-shorter [] h = cc
run-shorter (b ∷ p) h =
    (elim (is_white b) as (λ w. fresh_after w p ≡ true → length (cond w [] (b ∷ run p)) < length (b ∷ p)) [
      | true ↦ λ _. omega arith
      | false ↦ λ g. let ih : length (run p) < length p = run-shorter p g in omega arith
    ]) h

pub ends-before : (f : Bool) (at : ℕ) (p : List ℕ) → fresh_after f p ≡ true → EndBefore (at + length p) (tokens_from f at p)
unfolding fresh_after tokens_from run
ends-before f at [] h = tt
ends-before f at (b ∷ p) h =
    let n : at + 1 + length p ≡ at + length (b ∷ p) = omega arith in
    let ih : EndBefore (at + length (b ∷ p)) (tokens_from (is_white b) (at + 1) p) = rw n at (ends-before (is_white b) (at + 1) p h) in
    (elim (is_white b) as (λ w. fresh_after w p ≡ true → EndBefore (at + length (b ∷ p)) (tokens_from w (at + 1) p)
    → EndBefore (at + length (b ∷ p)) (begins f w (token at (cond w [] (b ∷ run p))) (tokens_from w (at + 1) p))) [
      | true ↦ λ _ k. skip f _ _ _ k
      | false ↦ λ g k. add f at b p g _ k
    ]) h ih
  where
    skip : (f : Bool) (t : Token) (ts : List Token) (n : ℕ) → EndBefore n ts → EndBefore n (begins f true t ts)
    skip true t ts n k = k
    skip false t ts n k = k

    add : (f : Bool) (at b : ℕ) (p : List ℕ) → fresh_after false p ≡ true → (ts : List Token) → EndBefore (at + length (b ∷ p)) ts
        → EndBefore (at + length (b ∷ p)) (begins f false (token at (b ∷ run p)) ts)
    add true at b p g ts k = (let s : length (run p) < length p = run-shorter p g in omega arith, k)
    add false at b p g ts k = k

pub all-kept : (n : ℕ) (ts : List Token) → EndBefore n ts → filter (λ t. nat_lt (end_of t) n || is_long t) ts ≡ ts
all-kept n [] e = refl
all-kept n (t ∷ ts) e = rw (lt-ltb (end_of t) n e.0) (ap (λ (us : List Token). t ∷ us) (all-kept n ts e.1))

pub more-kept : (n m : ℕ) (ts : List Token) → n ≤ m → EndBefore n ts → EndBefore m ts
more-kept n m [] h e = tt
more-kept n m (t ∷ ts) h e = (omega (arith, e.0), more-kept n m ts h e.1)

at-end : (at : ℕ) (text : List ℕ) → Dark text → tokens_from true at text ≡ one at text
unfolding tokens_from
at-end at [] d = refl
at-end at (b ∷ xs) d = one-token at b xs d

-- the tokens of bytes before a place where a token may begin, and of a run behind it
pub tokens-parts : (p text : List ℕ) → fresh_after true p ≡ true → Dark text → tokens (p ++ text) ≡ tokens p ++ one (length p) text
tokens-parts p text h d = tokens-cut true 0 p text h ∙ ap (λ (ts : List Token). tokens p ++ ts) (rw zero-add (at-end (length p) text d))

-- the tokens before a place where one may begin are closed
pub closed-before : (p x : List ℕ) → fresh_after true p ≡ true
    → closed (p ++ x) ≡ tokens p ++ filter (λ t. nat_lt (end_of t) (length (p ++ x)) || is_long t) (tokens_from true (length p) x)
closed-before p x h =
    let n : ℕ = length (p ++ x) in
    let Q : Token → Bool = λ t. nat_lt (end_of t) n || is_long t in
    let e : EndBefore (length p) (tokens p) = rw zero-add at (ends-before true 0 p h) in
    let kept : filter Q (tokens p) ≡ tokens p = all-kept n (tokens p) (more-kept (length p) n (tokens p) (omega (arith, length-append p x)) e) in
    ap (filter Q) (tokens-cut true 0 p x h ∙ ap (λ (k : ℕ). tokens p ++ tokens_from true k x) (zero-add (length p)))
    ∙ filter-append Q (tokens p) (tokens_from true (length p) x)
    ∙ ap (λ (ts : List Token). ts ++ filter Q (tokens_from true (length p) x)) kept

-- the tokens before an open one are closed, and it is closed where it is too long
pub closed-parts : (p text : List ℕ) (rest : List Token) → fresh_after true p ≡ true → Dark text → filter is_long (one (length p) text) ≡ rest
    → closed (p ++ text) ≡ tokens p ++ rest
closed-parts p text rest h d k =
    let n : ℕ = length (p ++ text) in
    let Q : Token → Bool = λ t. nat_lt (end_of t) n || is_long t in
    let e : EndBefore (length p) (tokens p) = rw zero-add at (ends-before true 0 p h) in
    let kept : filter Q (tokens p) ≡ tokens p = all-kept n (tokens p) (more-kept (length p) n (tokens p) (omega (arith, length-append p text)) e) in
    ap (filter Q) (tokens-parts p text h d) ∙ filter-append Q (tokens p) (one (length p) text)
    ∙ ap (λ (ts : List Token). ts ++ filter Q (one (length p) text)) kept
    ∙ ap (λ (ts : List Token). tokens p ++ ts) (long p text ∙ k)
  where
    long : (p text : List ℕ) → filter (λ t. nat_lt (end_of t) (length (p ++ text)) || is_long t) (one (length p) text) ≡ filter is_long (one (length p) text)
    long p [] = refl
    long p (b ∷ xs) =
        let h : nat_lt (length p + length (b ∷ xs)) (length (p ++ (b ∷ xs))) ≡ false = grind (arith, common_steps, length-append) in
        rw h refl

run-white : (ws : List ℕ) → White ws → run ws ≡ []
unfolding run
run-white [] h = refl
run-white (w ∷ ws) h = rw h.0 refl

run-behind : (p ws : List ℕ) → White ws → run (p ++ ws) ≡ run p
unfolding run
run-behind [] ws h = run-white ws h
run-behind (c ∷ p) ws h = ap (λ (r : List ℕ). cond (is_white c) [] (c ∷ r)) (run-behind p ws h)

none-white : (f : Bool) (at : ℕ) (ws : List ℕ) → White ws → tokens_from f at ws ≡ []
unfolding tokens_from
none-white f at [] h = refl
none-white true at (w ∷ ws) h = rw h.0 (none-white true (at + 1) ws h.1)
none-white false at (w ∷ ws) h = none-white (is_white w) (at + 1) ws h.1

-- white space at the end makes no token
pub from-behind : (f : Bool) (at : ℕ) (p ws : List ℕ) → White ws → tokens_from f at (p ++ ws) ≡ tokens_from f at p
unfolding tokens_from
from-behind f at [] ws h = none-white f at ws h
from-behind f at (c ∷ p) ws h = rw (run-behind (c ∷ p) ws h, from-behind (is_white c) (at + 1) p ws h) refl

-- whether a token may begin behind two parts is said by the second, behind the first
pub fresh-append : (f : Bool) (p q : List ℕ) → fresh_after f (p ++ q) ≡ fresh_after (fresh_after f p) q
unfolding fresh_after
fresh-append f [] q = refl
fresh-append f (b ∷ p) q = fresh-append (is_white b) p q

-- behind the dark bytes at the front stands a white one
pub white-stop : (xs : List ℕ) → prefix_len is_dark xs < length xs → is_white (get_or xs (prefix_len is_dark xs) 0) ≡ true
white-stop xs l = not-false _ (prefix_len_stops is_dark xs 0 l)

pub hash-dark : (xs : List ℕ) → list_all is_dark xs ≡ true → list_all is_dark (35 ∷ xs) ≡ true
unfolding is_white
hash-dark xs h = h
