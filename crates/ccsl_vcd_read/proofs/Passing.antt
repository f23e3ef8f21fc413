-- Tokens that stand further on, and bytes that were read past a tokenizer.
use Rattle.std.proofs.Common.{◌≡◌, ℕ, zero, suc, ◌+◌, ◌<◌, List, [], ◌∷◌, ◌++◌, length, take, Bool, true, false, Some, None, nat_lt, ◌||◌, cond, refl, sym, ap}
use Rattle.std.proofs.Common.{ap₂, ◌≤◌, ◌∙◌, subst, append_assoc, arith, length-append, filter, map, zero-add, replicate, ⊎_elim}
use Rattle.std.specs.List.{AllByRecursion}
use Rattle.std.proofs.lemmas.List.{append-nil, map-append}
use Rattle.std.proofs.lemmas.Bool.{lt-ltb, le-ltb, cases_lt}
use Rattle.ccsl_vcd_lex.specs.Tokens.{is_white, Token, token, end_of, run, begins, tokens_from, tokens, closed, settled, heard, Heard, hear, word, too_long}
use Rattle.ccsl_vcd_lex.specs.Tokens.{is_long}
use Rattle.ccsl_vcd_lex.specs.LongTokens.{first_long}
use Rattle.ccsl_vcd_lex.specs.Runs.{fresh_after}
use Rattle.ccsl_vcd_lex.specs.Lexing.{Dark, Lexing, StandsFor, BreaksWithin}
use Rattle.ccsl_vcd_lex.proofs.Cuts.{White, tokens-cut, closed-before, long-append, fresh-behind, from-behind, fresh-append}
use Rattle.ccsl_vcd_lex.proofs.Further.{heard-split}
use Rattle.ccsl_vcd_lex.proofs.Steps.{parts, runs}
use Rattle.ccsl_vcd_read.specs.Passing.{Passing, Lexes}

-- A token that stands further on.

abbrev moved : ℕ → Token → Token
moved k t = token (t.at + k) t.text

abbrev pub placed : ℕ → Heard → Heard
placed k (word t) = word (moved k t)
placed k (too_long at) = too_long (at + k)

begins-moved : (f w : Bool) (k : ℕ) (t : Token) (ts : List Token) → begins f w (moved k t) (map (moved k) ts) ≡ map (moved k) (begins f w t ts)
begins-moved true false k t ts = refl
begins-moved true true k t ts = refl
begins-moved false w k t ts = refl

tokens-moved : (f : Bool) (at k : ℕ) (xs : List ℕ) → tokens_from f (at + k) xs ≡ map (moved k) (tokens_from f at xs)
unfolding tokens_from
tokens-moved f at k [] = refl
tokens-moved f at k (b ∷ bs) =
    let n : at + k + 1 ≡ at + 1 + k = omega arith in
    ap (λ m. begins f (is_white b) (token (at + k) (run (b ∷ bs))) (tokens_from (is_white b) m bs)) n
    ∙ ap (begins f (is_white b) (token (at + k) (run (b ∷ bs)))) (tokens-moved (is_white b) (at + 1) k bs)
    ∙ begins-moved f (is_white b) k (token at (run (b ∷ bs))) (tokens_from (is_white b) (at + 1) bs)

less-moved : (a n k : ℕ) → nat_lt (a + k) (n + k) ≡ nat_lt a n
less-moved a n k =
    ⊎_elim
    (λ l. lt-ltb (a + k) (n + k) (omega (arith, l)) ∙ sym (lt-ltb a n l))
    (λ l. le-ltb (a + k) (n + k) (omega (arith, l)) ∙ sym (le-ltb a n l))
    (cases_lt a n)

end-moved : (n k : ℕ) (t : Token) → (nat_lt (end_of (moved k t)) (n + k) || is_long (moved k t)) ≡ (nat_lt (end_of t) n || is_long t)
end-moved n k t =
    let e : t.at + k + length t.text ≡ end_of t + k = omega arith in
    ap (λ m. nat_lt m (n + k) || is_long t) e ∙ ap (λ w. w || is_long t) (less-moved (end_of t) n k)

-- those that end before a place, or are too long
abbrev kept : ℕ → List Token → List Token
kept n ts = filter (λ t. nat_lt (end_of t) n || is_long t) ts

kept-moved : (n k : ℕ) (ts : List Token) → kept (n + k) (map (moved k) ts) ≡ map (moved k) (kept n ts)
kept-moved n k [] = refl
kept-moved n k (t ∷ ts) =
    ap₂ (λ w us. cond w (moved k t ∷ us) us) (end-moved n k t) (kept-moved n k ts)
    ∙ elim (nat_lt (end_of t) n || is_long t) as (λ w. cond w (moved k t ∷ map (moved k) (kept n ts)) (map (moved k) (kept n ts)) ≡ map (moved k)
    (cond w (t ∷ kept n ts) (kept n ts))) [ true ↦ refl | false ↦ refl ]

hear-moved : (k : ℕ) (t : Token) → hear (moved k t) ≡ placed k (hear t)
hear-moved k t = elim (is_long t) as (λ w. cond w (too_long (t.at + k)) (word (moved k t)) ≡ placed k (cond w (too_long t.at) (word t))) [
  | true ↦ refl
  | false ↦ refl
]

hears-moved : (k : ℕ) (ts : List Token) → map hear (map (moved k) ts) ≡ map (placed k) (map hear ts)
hears-moved k [] = refl
hears-moved k (t ∷ ts) = ap₂ (λ (h : Heard) (hs : List Heard). h ∷ hs) (hear-moved k t) (hears-moved k ts)

-- What bytes settle that stand at a place where a token may begin.

abbrev pub settles_at : ℕ → List ℕ → List Heard
settles_at n x = map hear (kept (n + length x) (tokens_from true n x))

settles-moved : (n k : ℕ) (x : List ℕ) → settles_at (n + k) x ≡ map (placed k) (settles_at n x)
settles-moved n k x =
    let e : n + k + length x ≡ n + length x + k = omega arith in
    ap₂ (λ m ts. map hear (kept m ts)) e (tokens-moved true n k x) ∙ ap (map hear) (kept-moved (n + length x) k (tokens_from true n x))
    ∙ hears-moved k (kept (n + length x) (tokens_from true n x))

pub settled-at : (front x : List ℕ) → fresh_after true front ≡ true → settled (front ++ x) ≡ map hear (tokens front) ++ settles_at (length front) x
settled-at front x f =
    ap (map hear) (closed-before front x f) ∙ map-append hear (tokens front) (kept (length (front ++ x)) (tokens_from true (length front) x))
    ∙ ap (λ n. map hear (tokens front) ++ map hear (kept n (tokens_from true (length front) x))) (length-append front x)

-- Blanks settle nothing.

abbrev pub blank : ℕ → List ℕ
blank n = replicate n 32

white-blank : (n : ℕ) → White (blank n)
unfolding is_white
white-blank zero = tt
white-blank (suc n) = (refl, white-blank n)

length-blank : (n : ℕ) → length (blank n) ≡ n
length-blank zero = refl
length-blank (suc n) = ap suc (length-blank n)

tokens-blank : (n : ℕ) → tokens (blank n) ≡ []
unfolding tokens_from
tokens-blank n = from-behind true 0 [] (blank n) (white-blank n)

fresh-blank : (n : ℕ) → fresh_after true (blank n) ≡ true
unfolding fresh_after
fresh-blank zero = refl
fresh-blank (suc n) = fresh-behind true [] (blank (suc n)) (white-blank (suc n)) (omega arith)

settled-blank : (n : ℕ) (x : List ℕ) → settled (blank n ++ x) ≡ settles_at n x
settled-blank n x = settled-at (blank n) x (fresh-blank n) ∙ ap (λ ts. map hear ts ++ settles_at (length (blank n)) x) (tokens-blank n)
    ∙ ap (λ m. settles_at m x) (length-blank n)

heard-blank : (n : ℕ) (x : List ℕ) → heard (blank n ++ x) ≡ map hear (tokens_from true n x)
heard-blank n x =
    heard-split (blank n) x (fresh-blank n) ∙ ap (λ ts. map hear ts ++ map hear (tokens_from true (length (blank n)) x)) (tokens-blank n)
    ∙ ap (λ m. map hear (tokens_from true m x)) (length-blank n)

-- What bytes behind blanks settle more, they settle more behind other bytes.
module _ (v : Passing) (bytes : List ℕ) (s : Lexes v bytes) where
  at-place : length s.front ≡ s.blanks + v.passed
  at-place = let p : length s.front ≡ v.passed + s.blanks = s.place in omega (arith, p)

  front-settles : (x : List ℕ) → settled (s.front ++ x) ≡ map hear (tokens s.front) ++ map (placed v.passed) (settled (blank s.blanks ++ x))
  front-settles x =
      settled-at s.front x s.fresh
      ∙ ap (λ hs. map hear (tokens s.front) ++ hs) (ap (λ n. settles_at n x) at-place ∙ settles-moved s.blanks v.passed x
      ∙ ap (map (placed v.passed)) (sym (settled-blank s.blanks x)))

  whole-settles : (y : List ℕ) → settled (bytes ++ y) ≡ map hear (tokens s.front) ++ map (placed v.passed) (settled ((blank s.blanks ++ s.rest) ++ y))
  whole-settles y =
      ap (λ xs. settled (xs ++ y)) s.whole ∙ ap settled (append_assoc s.front s.rest y) ∙ front-settles (s.rest ++ y)
      ∙ ap (λ xs. map hear (tokens s.front) ++ map (placed v.passed) (settled xs)) (sym (append_assoc (blank s.blanks) s.rest y))

  bytes-settle : settled bytes ≡ map hear (tokens s.front) ++ map (placed v.passed) (settled (blank s.blanks ++ s.rest))
  bytes-settle = ap settled s.whole ∙ front-settles s.rest

  pub settles-more : (y : List ℕ) (hs : List Heard) → settled ((blank s.blanks ++ s.rest) ++ y) ≡ settled (blank s.blanks ++ s.rest) ++ hs
      → settled (bytes ++ y) ≡ settled bytes ++ map (placed v.passed) hs
  settles-more y hs e =
      whole-settles y ∙ ap (λ us. map hear (tokens s.front) ++ map (placed v.passed) us) e
      ∙ ap (λ us. map hear (tokens s.front) ++ us) (map-append (placed v.passed) (settled (blank s.blanks ++ s.rest)) hs)
      ∙ sym (append_assoc (map hear (tokens s.front)) (map (placed v.passed) (settled (blank s.blanks ++ s.rest))) (map (placed v.passed) hs))
      ∙ ap (λ us. us ++ map (placed v.passed) hs) (sym bytes-settle)

  pub settles-same : (y : List ℕ) → settled ((blank s.blanks ++ s.rest) ++ y) ≡ settled (blank s.blanks ++ s.rest) → settled (bytes ++ y) ≡ settled bytes
  settles-same y e = settles-more y [] (e ∙ sym (append-nil (settled (blank s.blanks ++ s.rest)))) ∙ append-nil (settled bytes)

  pub all-heard : (hs : List Heard) → heard (blank s.blanks ++ s.rest) ≡ settled (blank s.blanks ++ s.rest) ++ hs
      → heard bytes ≡ settled bytes ++ map (placed v.passed) hs
  all-heard hs e =
      ap heard s.whole ∙ heard-split s.front s.rest s.fresh
      ∙ ap (λ us. map hear (tokens s.front) ++ us)
      (ap (λ n. map hear (tokens_from true n s.rest)) at-place ∙ ap (map hear) (tokens-moved true s.blanks v.passed s.rest)
      ∙ hears-moved v.passed (tokens_from true s.blanks s.rest)
      ∙ ap (map (placed v.passed)) (sym (heard-blank s.blanks s.rest) ∙ e) ∙ map-append (placed v.passed) (settled (blank s.blanks ++ s.rest)) hs)
      ∙ sym (append_assoc (map hear (tokens s.front)) (map (placed v.passed) (settled (blank s.blanks ++ s.rest))) (map (placed v.passed) hs))
      ∙ ap (λ us. us ++ map (placed v.passed) hs) (sym bytes-settle)

-- Tokens that are too long.

long-moved : (k : ℕ) (ts : List Token) → first_long ts ≡ None → first_long (map (moved k) ts) ≡ None
unfolding first_long
long-moved k [] h = refl
long-moved k (t ∷ ts) h =
    (elim (is_long t) as (λ w. cond w (Some t.at) (first_long ts) ≡ None → cond w (Some (t.at + k)) (first_long (map (moved k) ts)) ≡ None) [
      | true ↦ λ e. absurd (cc)
      | false ↦ λ e. long-moved k ts e
    ]) h

long-back : (k : ℕ) (ts : List Token) → first_long (map (moved k) ts) ≡ None → first_long ts ≡ None
unfolding first_long
long-back k [] h = refl
long-back k (t ∷ ts) h =
    (elim (is_long t) as (λ w. cond w (Some (t.at + k)) (first_long (map (moved k) ts)) ≡ None → cond w (Some t.at) (first_long ts) ≡ None) [
      | true ↦ λ e. absurd (cc)
      | false ↦ λ e. long-back k ts e
    ]) h

long-at : (front x : List ℕ) → fresh_after true front ≡ true → first_long (tokens front) ≡ None
    → first_long (tokens (front ++ x)) ≡ first_long (tokens_from true (length front) x)
long-at front x f h =
    ap first_long (tokens-cut true 0 front x f ∙ ap (λ n. tokens front ++ tokens_from true n x) (zero-add (length front)))
    ∙ long-append (tokens front) (tokens_from true (length front) x) h

long-blank : (n : ℕ) (x : List ℕ) → first_long (tokens (blank n ++ x)) ≡ first_long (tokens_from true n x)
unfolding first_long
long-blank n x = long-at (blank n) x (fresh-blank n) (ap first_long (tokens-blank n)) ∙ ap (λ m. first_long (tokens_from true m x)) (length-blank n)

pub none-behind : (v : Passing) (bytes y : List ℕ) (s : Lexes v bytes) → first_long (tokens ((blank s.blanks ++ s.rest) ++ y)) ≡ None
    → first_long (tokens (bytes ++ y)) ≡ None
none-behind v bytes y s h =
    let x = s.rest ++ y in
    let e : first_long (tokens_from true s.blanks x) ≡ None =
    sym (long-blank s.blanks x) ∙ ap (λ xs. first_long (tokens xs)) (sym (append_assoc (blank s.blanks) s.rest y)) ∙ h in
    ap (λ xs. first_long (tokens (xs ++ y))) s.whole ∙ ap (λ xs. first_long (tokens xs)) (append_assoc s.front s.rest y) ∙ long-at s.front x s.fresh s.short
    ∙ ap (λ n. first_long (tokens_from true n x)) (at-place v bytes s) ∙ ap first_long (tokens-moved true s.blanks v.passed x)
    ∙ long-moved v.passed (tokens_from true s.blanks x) e

pub none-seen : (v : Passing) (bytes : List ℕ) (s : Lexes v bytes) → first_long (tokens bytes) ≡ None → first_long (tokens (blank s.blanks ++ s.rest)) ≡ None
none-seen v bytes s h =
    let e : first_long (map (moved v.passed) (tokens_from true s.blanks s.rest)) ≡ None =
    ap first_long (sym (tokens-moved true s.blanks v.passed s.rest)) ∙ ap (λ n. first_long (tokens_from true n s.rest)) (sym (at-place v bytes s))
    ∙ sym (long-at s.front s.rest s.fresh s.short)
    ∙ ap (λ xs. first_long (tokens xs)) (sym s.whole) ∙ h in
    long-blank s.blanks s.rest ∙ long-back v.passed (tokens_from true s.blanks s.rest) e

-- The tokenizer saw no more bytes than there were.
pub seen-length : (v : Passing) (bytes : List ℕ) (s : Lexes v bytes) → length (blank s.blanks ++ s.rest) ≤ length bytes
seen-length v bytes s =
    let p : length s.front ≡ v.passed + s.blanks = s.place in
    omega (arith, p, ap length s.whole, length-append s.front s.rest, length-append (blank s.blanks) s.rest, length-blank s.blanks)

-- More bytes were taken.
pub lexes-more : (v w : Passing) (bytes y : List ℕ) (s : Lexes v bytes) → w.passed ≡ v.passed → StandsFor w.inner ((blank s.blanks ++ s.rest) ++ y)
    → Lexes w (bytes ++ y)
lexes-more v w bytes y s e t = record {
  front = s.front;
  rest = s.rest ++ y;
  blanks = s.blanks;
  whole = ap (λ xs. xs ++ y) s.whole ∙ append_assoc s.front s.rest y;
  fresh = s.fresh;
  short = s.short;
  stands = subst (StandsFor w.inner) (append_assoc (blank s.blanks) s.rest y) t;
  place = s.place ∙ ap (λ n. n + s.blanks) (sym e);
}

pub breaks-behind : (v : Passing) (bytes piece : List ℕ) (at : ℕ) (s : Lexes v bytes) → BreaksWithin (blank s.blanks ++ s.rest) piece at
    → BreaksWithin bytes piece (at + v.passed)
breaks-behind v bytes piece at s b = record {
  taken = b.taken;
  within = b.within;
  before = settles-same v bytes s (take b.taken piece) b.before;
  broke = settles-more v bytes s (take (b.taken + 1) piece) (too_long at ∷ []) b.broke;
}

-- Bytes were passed over.

dark-after : (f : Bool) (xs : List ℕ) → Dark xs → 0 < length xs → fresh_after f xs ≡ false
unfolding fresh_after
dark-after f [] d n = absurd (omega arith)
dark-after f (b ∷ []) d n = d.0
dark-after f (b ∷ c ∷ xs) d n = dark-after (is_white b) (c ∷ xs) d.1 (omega arith)

nothing-open : (p text : List ℕ) → Dark text → fresh_after true (p ++ text) ≡ true → text ≡ []
nothing-open p [] d f = refl
nothing-open p (b ∷ xs) d f =
    absurd (let e : true ≡ false = sym f ∙ fresh-append true p (b ∷ xs) ∙ dark-after (fresh_after true p) (b ∷ xs) d (omega arith) in cc)

long-none : (n : ℕ) → first_long (tokens (blank n)) ≡ None
unfolding first_long
long-none n = ap first_long (tokens-blank n)

stands-blank : (v : Lexing) → v.open_text ≡ [] → v.failed ≡ false → StandsFor v (blank v.begin ++ [])
stands-blank v o f = record {
  before = blank v.begin;
  more = [];
  whole = ap (λ xs. blank v.begin ++ (xs ++ [])) (sym o);
  fresh = fresh-blank v.begin;
  short = long-none v.begin;
  dark = rw o tt;
  fits = rw o (omega arith);
  begin = sym (length-blank v.begin);
  running = λ _. refl;
  too_long = λ h. absurd (let e : false ≡ true = sym f ∙ h in cc);
}

-- where no token is open, one may begin
module _ (v : Passing) (bytes : List ℕ) (s : Lexes v bytes) (h : first_long (tokens bytes) ≡ None) where
  pub still-runs : v.inner.failed ≡ false
  still-runs = runs v.inner (blank s.blanks ++ s.rest) s.stands (none-seen v bytes s h)

  seen-parts : blank s.blanks ++ s.rest ≡ s.stands.before ++ v.inner.open_text
  seen-parts = parts v.inner (blank s.blanks ++ s.rest) s.stands still-runs

  same-fresh : fresh_after true bytes ≡ fresh_after true (blank s.blanks ++ s.rest)
  same-fresh =
      ap (fresh_after true) s.whole ∙ fresh-append true s.front s.rest ∙ ap (λ w. fresh_after w s.rest) (s.fresh ∙ sym (fresh-blank s.blanks))
      ∙ sym (fresh-append true (blank s.blanks) s.rest)

  pub none-open : fresh_after true bytes ≡ true → v.inner.open_text ≡ []
  none-open f = nothing-open s.stands.before v.inner.open_text s.stands.dark (ap (fresh_after true) (sym seen-parts) ∙ sym same-fresh ∙ f)

  pub fresh-open : v.inner.open_text ≡ [] → fresh_after true bytes ≡ true
  fresh-open o = same-fresh ∙ ap (fresh_after true) (seen-parts ∙ ap (λ xs. s.stands.before ++ xs) o ∙ append-nil s.stands.before) ∙ s.stands.fresh

pub passes : (v w : Passing) (bytes part : List ℕ) (count : ℕ) (s : Lexes v bytes) → w ≡ record v { passed = v.passed + count } → v.inner.open_text ≡ []
    → first_long (tokens bytes) ≡ None
    → length part ≡ count → fresh_after true (bytes ++ part) ≡ true → first_long (tokens (bytes ++ part)) ≡ None → Lexes w (bytes ++ part)
passes v w bytes part count s e none h n g k =
    let split : blank s.blanks ++ s.rest ≡ s.stands.before ++ v.inner.open_text = seen-parts v bytes s h in
    let open_len : length v.inner.open_text ≡ 0 = ap length none in
    let len : length (blank s.blanks ++ s.rest) ≡ length (s.stands.before ++ v.inner.open_text) = ap length split in
    let whole : length bytes ≡ length s.front + length s.rest = ap length s.whole ∙ length-append s.front s.rest in
    let begin : v.inner.begin ≡ length s.stands.before = s.stands.begin in
    let place : length s.front ≡ v.passed + s.blanks = s.place in
    let total : length (bytes ++ part) ≡ v.passed + count + v.inner.begin =
    omega (
      arith,
      length-append bytes part,
      n,
      whole,
      place,
      begin,
      len,
      length-append (blank s.blanks) s.rest,
      length-blank s.blanks,
      length-append s.stands.before v.inner.open_text,
      open_len,
    ) in
    subst (λ (x : Passing). Lexes x (bytes ++ part)) (sym e) (record {
      front = bytes ++ part;
      rest = [];
      blanks = v.inner.begin;
      whole = sym (append-nil (bytes ++ part));
      fresh = g;
      short = k;
      stands = stands-blank v.inner none (still-runs v bytes s h);
      place = total;
    })

-- Places are inside.

abbrev place_of : Heard → ℕ
place_of (word t) = t.at
place_of (too_long at) = at

abbrev Inside : ℕ → List Heard → Type 0
Inside n hs = AllByRecursion (λ h. place_of h < n) hs

abbrev StartBefore : ℕ → List Token → Type 0
StartBefore n ts = AllByRecursion (λ t. t.at < n) ts

starts-before : (f : Bool) (at : ℕ) (xs : List ℕ) → StartBefore (at + length xs) (tokens_from f at xs)
unfolding tokens_from
starts-before f at [] = tt
starts-before f at (b ∷ bs) =
    let n : at + 1 + length bs ≡ at + length (b ∷ bs) = omega arith in
    add f (is_white b) (token at (run (b ∷ bs))) (tokens_from (is_white b) (at + 1) bs) (omega arith)
    (subst (λ m. StartBefore m (tokens_from (is_white b) (at + 1) bs)) n (starts-before (is_white b) (at + 1) bs))
  where
    add : (f w : Bool) (t : Token) (ts : List Token) → t.at < at + length (b ∷ bs) → StartBefore (at + length (b ∷ bs)) ts
        → StartBefore (at + length (b ∷ bs)) (begins f w t ts)
    add true false t ts l k = (l, k)
    add true true t ts l k = k
    add false w t ts l k = k

inside-kept : (n m : ℕ) (ts : List Token) → StartBefore n ts → StartBefore n (kept m ts)
inside-kept n m [] k = tt
inside-kept n m (t ∷ ts) k =
    elim (nat_lt (end_of t) m || is_long t) as (λ w. StartBefore n (cond w (t ∷ kept m ts) (kept m ts))) [
      | true ↦ (k.0, inside-kept n m ts k.1)
      | false ↦ inside-kept n m ts k.1
    ]

inside-heard : (n : ℕ) (ts : List Token) → StartBefore n ts → Inside n (map hear ts)
inside-heard n [] k = tt
inside-heard n (t ∷ ts) k = (elim (is_long t) as (λ w. place_of (cond w (too_long t.at) (word t)) < n) [ true ↦ k.0 | false ↦ k.0 ], inside-heard n ts k.1)

last-inside : (n : ℕ) (hs : List Heard) (h : Heard) → Inside n (hs ++ h ∷ []) → place_of h < n
last-inside n [] h k = k.0
last-inside n (g ∷ gs) h k = last-inside n gs h k.1

all-before : (xs : List ℕ) → StartBefore (length xs) (tokens xs)
all-before xs = subst (λ n. StartBefore n (tokens xs)) (zero-add (length xs)) (starts-before true 0 xs)

pub settled-place : (xs : List ℕ) (hs : List Heard) (h : Heard) → settled xs ≡ hs ++ h ∷ [] → place_of h < length xs
settled-place xs hs h e =
    last-inside (length xs) hs h
    (subst (Inside (length xs)) e (inside-heard (length xs) (closed xs) (inside-kept (length xs) (length xs) (tokens xs) (all-before xs))))

pub heard-place : (xs : List ℕ) (hs : List Heard) (h : Heard) → heard xs ≡ hs ++ h ∷ [] → place_of h < length xs
heard-place xs hs h e = last-inside (length xs) hs h (subst (Inside (length xs)) e (inside-heard (length xs) (tokens xs) (all-before xs)))

-- A lexer as its fields make it, and one before the first byte.

pub enter : (v w : Passing) (bytes : List ℕ) → v ≡ w → Lexes w bytes → Lexes v bytes
enter v w bytes e s = subst (λ (x : Passing). Lexes x bytes) (sym e) s

pub opens : (v : Lexing) → StandsFor v [] → Lexes (record { inner = v; passed = 0 }) []
unfolding fresh_after first_long tokens_from
opens v s = record { front = []; rest = []; blanks = 0; whole = refl; fresh = refl; short = refl; stands = s; place = refl }
