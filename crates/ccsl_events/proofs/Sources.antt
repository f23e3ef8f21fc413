-- Variables that are read one after another, and their numbers.
use Rattle.std.proofs.Common.{◌≡◌, ℕ, ◌+◌, ◌<◌, List, [], ◌∷◌, ◌++◌, length, ◌||◌, ◌&&◌, not, Bool, true, false, cond, if◌then◌else◌, filter, refl, sym, ap}
use Rattle.std.proofs.Common.{ap₂, subst, ◌∙◌, arith, append_assoc, eq-eqb, eqb-true}
use Rattle.std.specs.Prelude.{◌==◌}
use Rattle.std.specs.List.{list_any, list_all}
use Rattle.std.proofs.lemmas.List.{append-nil}
use Rattle.std.proofs.lemmas.List.Folds.{list_any-append}
use Rattle.std.proofs.lemmas.Bool.{and_parts}
use Rattle.ccsl_base.proofs.Sets.{by_case}
use Rattle.ccsl_events.specs.declared.binder.Source.{Source}
use Rattle.ccsl_events.specs.Binding.{is_same, different, number_in}
use Rattle.ccsl_events.specs.Binds.{with_source, with_sources}

pub is_same-refl : (s : Source) → is_same s s ≡ true
is_same-refl s = ap₂ (λ a b. a && b) (eq-eqb s.code s.code refl) (eq-eqb s.size s.size refl)

pub is_same-true : (s t : Source) → is_same s t ≡ true → s ≡ t
is_same-true s t e =
    let both = and_parts (s.code == t.code) (s.size == t.size) e in
    ap₂ (λ (c z : ℕ). record { code = c; size = z }) (eqb-true s.code t.code both.0) (eqb-true s.size t.size both.1)

-- a variable among the first has a number among these, whatever stands behind them
pub number-among : (xs ys : List Source) (s : Source) → list_any (is_same s) xs ≡ true → number_in (xs ++ ys) s ≡ number_in xs s
number-among [] ys s e = absurd (cc)
number-among (x ∷ xs) ys s e =
    by_case (is_same s x) _
    (λ t. ap (λ b. cond (not b) (1 + number_in (xs ++ ys) s) 0) t ∙ sym (ap (λ b. cond (not b) (1 + number_in xs s) 0) t))
    (λ f.
    ap (λ b. cond (not b) (1 + number_in (xs ++ ys) s) 0) f
    ∙ ap (λ n. 1 + n) (number-among xs ys s (sym (ap (λ b. b || list_any (is_same s) xs) f) ∙ e))
    ∙ sym (ap (λ b. cond (not b) (1 + number_in xs s) 0) f))

pub number-within : (xs : List Source) (s : Source) → list_any (is_same s) xs ≡ true → number_in xs s < length xs
number-within [] s e = absurd (cc)
number-within (x ∷ xs) s e =
    by_case (is_same s x) _
    (λ t. let is : number_in (x ∷ xs) s ≡ 0 = ap (λ b. cond (not b) (1 + number_in xs s) 0) t in omega (arith, is))
    (λ f.
    let is : number_in (x ∷ xs) s ≡ 1 + number_in xs s = ap (λ b. cond (not b) (1 + number_in xs s) 0) f in
    omega (arith, is, number-within xs s (sym (ap (λ b. b || list_any (is_same s) xs) f) ∙ e)))

-- and one that is not has the next number
pub number-new : (xs ys : List Source) (s : Source) → list_any (is_same s) xs ≡ false → number_in ((xs ++ s ∷ []) ++ ys) s ≡ length xs
number-new [] ys s e = ap (λ b. cond (not b) (1 + number_in ys s) 0) (is_same-refl s)
number-new (x ∷ xs) ys s e =
    by_case (is_same s x) _ (λ t. absurd (let yes : true ≡ false = sym (ap (λ b. b || list_any (is_same s) xs) t) ∙ e in cc))
    (λ f. ap (λ b. cond (not b) (1 + number_in ((xs ++ s ∷ []) ++ ys) s) 0) f
    ∙ ap (λ n. 1 + n) (number-new xs ys s (sym (ap (λ b. b || list_any (is_same s) xs) f) ∙ e)) ∙ omega arith)

pub number-past : (xs : List Source) (s : Source) → list_any (is_same s) xs ≡ false → number_in xs s ≡ length xs
number-past [] s e = refl
number-past (x ∷ xs) s e =
    by_case (is_same s x) _ (λ t. absurd (let yes : true ≡ false = sym (ap (λ b. b || list_any (is_same s) xs) t) ∙ e in cc))
    (λ f. ap (λ b. cond (not b) (1 + number_in xs s) 0) f ∙ ap (λ n. 1 + n) (number-past xs s (sym (ap (λ b. b || list_any (is_same s) xs) f) ∙ e))
    ∙ omega arith)

-- ## One after another

pub among-last : (xs : List Source) (s : Source) → list_any (is_same s) (xs ++ s ∷ []) ≡ true
among-last [] s = ap (λ b. b || false) (is_same-refl s)
among-last (x ∷ xs) s = ap (λ b. is_same s x || b) (among-last xs s) ∙ or-true (is_same s x)
  where
    or-true : (b : Bool) → (b || true) ≡ true
    or-true true = refl
    or-true false = refl

-- what holds whatever is read later holds where more was read
later-one : (P : List Source → Type 0) (xs : List Source) (s : Source) → ((more : List Source) → P (xs ++ more)) → (more : List Source)
    → P (with_source xs s ++ more)
later-one P xs s h more = by (list_any (is_same s) xs)
  where
    by : (b : Bool) → P ((if b then xs else xs ++ s ∷ []) ++ more)
    by true = h more
    by false = subst P (sym (append_assoc xs (s ∷ []) more)) (h (s ∷ more))

pub later : (P : List Source → Type 0) (xs ss : List Source) → ((more : List Source) → P (xs ++ more)) → (more : List Source) → P (with_sources xs ss ++ more)
later P xs [] h more = h more
later P xs (s ∷ ss) h more = later P (with_source xs s) ss (later-one P xs s h) more

pub with_sources-append : (xs ss ts : List Source) → with_sources xs (ss ++ ts) ≡ with_sources (with_sources xs ss) ts
with_sources-append xs [] ts = refl
with_sources-append xs (s ∷ ss) ts = with_sources-append (with_source xs s) ss ts

-- ## Each once

fresh : List Source → List Source → List Source
fresh xs ts = filter (λ t. not (list_any (is_same t) xs)) ts

fresh-among : (xs : List Source) (s : Source) (ts : List Source) → list_any (is_same s) xs ≡ true → fresh xs (filter (λ t. not (is_same t s)) ts) ≡ fresh xs ts
unfolding fresh
fresh-among xs s [] e = refl
fresh-among xs s (t ∷ ts) e =
    by_case (is_same t s) _
    (λ y.
    let known : list_any (is_same t) xs ≡ true = ap (λ u. list_any (is_same u) xs) (is_same-true t s y) ∙ e in
    ap (λ b. fresh xs (cond (not b) (t ∷ filter (λ u. not (is_same u s)) ts) (filter (λ u. not (is_same u s)) ts))) y
    ∙ fresh-among xs s ts e
    ∙ sym (ap (λ b. cond (not b) (t ∷ fresh xs ts) (fresh xs ts)) known))
    (λ n.
    ap (λ b. fresh xs (cond (not b) (t ∷ filter (λ u. not (is_same u s)) ts) (filter (λ u. not (is_same u s)) ts))) n
    ∙ ap (λ us. cond (not (list_any (is_same t) xs)) (t ∷ us) us) (fresh-among xs s ts e))

fresh-more : (xs : List Source) (s : Source) (ts : List Source) → fresh (xs ++ s ∷ []) ts ≡ fresh xs (filter (λ t. not (is_same t s)) ts)
unfolding fresh
fresh-more xs s [] = refl
fresh-more xs s (t ∷ ts) =
    ap (λ b. cond (not b) (t ∷ fresh (xs ++ s ∷ []) ts) (fresh (xs ++ s ∷ []) ts)) (list_any-append (is_same t) xs (s ∷ []))
    ∙ ap (λ us. cond (not (list_any (is_same t) xs || (is_same t s || false))) (t ∷ us) us) (fresh-more xs s ts)
    ∙ by (list_any (is_same t) xs) refl (is_same t s) refl
  where
    rest : List Source
    rest = filter (λ u. not (is_same u s)) ts

    by : (a : Bool) → list_any (is_same t) xs ≡ a → (b : Bool) → is_same t s ≡ b →
        cond (not (a || (b || false))) (t ∷ fresh xs rest) (fresh xs rest) ≡ fresh xs (cond (not b) (t ∷ rest) rest)
    by true e true f = refl
    by false e true f = refl
    by true e false f = sym (ap (λ c. cond (not c) (t ∷ fresh xs rest) (fresh xs rest)) e)
    by false e false f = sym (ap (λ c. cond (not c) (t ∷ fresh xs rest) (fresh xs rest)) e)

with_sources-fresh : (xs ss : List Source) → with_sources xs ss ≡ xs ++ fresh xs (different ss)
unfolding fresh
with_sources-fresh xs [] = sym (append-nil xs)
with_sources-fresh xs (s ∷ ss) = by (list_any (is_same s) xs) refl (λ ys. with_sources-fresh ys ss)
  where
    rest : List Source
    rest = filter (λ t. not (is_same t s)) (different ss)

    by : (b : Bool) → list_any (is_same s) xs ≡ b → ((ys : List Source) → with_sources ys ss ≡ ys ++ fresh ys (different ss)) →
        with_sources (if b then xs else xs ++ s ∷ []) ss ≡ xs ++ cond (not b) (s ∷ fresh xs rest) (fresh xs rest)
    by true e later = later xs ∙ ap (λ us. xs ++ us) (sym (fresh-among xs s (different ss) e))
    by false e later =
        later (xs ++ s ∷ []) ∙ append_assoc xs (s ∷ []) (fresh (xs ++ s ∷ []) (different ss)) ∙ ap (λ us. xs ++ (s ∷ us)) (fresh-more xs s (different ss))

fresh-none : (ts : List Source) → fresh [] ts ≡ ts
unfolding fresh
fresh-none [] = refl
fresh-none (t ∷ ts) = ap (λ us. t ∷ us) (fresh-none ts)

pub with_sources-different : (ss : List Source) → with_sources [] ss ≡ different ss
with_sources-different ss = with_sources-fresh [] ss ∙ fresh-none (different ss)

-- ## What holds of all of them

all-append : (p : Source → Bool) (xs : List Source) (s : Source) → list_all p xs ≡ true → p s ≡ true → list_all p (xs ++ s ∷ []) ≡ true
all-append p [] s e h = ap (λ b. b && true) h
all-append p (x ∷ xs) s e h = let both = and_parts (p x) (list_all p xs) e in ap₂ (λ a b. a && b) both.0 (all-append p xs s both.1 h)

pub with_sources-all : (p : Source → Bool) (xs ss : List Source) → list_all p xs ≡ true → list_all p ss ≡ true → list_all p (with_sources xs ss) ≡ true
with_sources-all p xs [] e h = e
with_sources-all p xs (s ∷ ss) e h =
    let both = and_parts (p s) (list_all p ss) h in
    with_sources-all p (with_source xs s) ss (by (list_any (is_same s) xs) both.0) both.1
  where
    by : (b : Bool) → p s ≡ true → list_all p (if b then xs else xs ++ s ∷ []) ≡ true
    by true l = e
    by false l = all-append p xs s e l

-- one that is among some stays among them
pub among-later : (s : Source) (xs ss : List Source) → list_any (is_same s) xs ≡ true → list_any (is_same s) (with_sources xs ss) ≡ true
among-later s xs [] e = e
among-later s xs (t ∷ ss) e = among-later s (with_source xs t) ss (by (list_any (is_same t) xs))
  where
    by : (b : Bool) → list_any (is_same s) (if b then xs else xs ++ t ∷ []) ≡ true
    by true = e
    by false = list_any-append (is_same s) xs (t ∷ []) ∙ ap (λ b. b || (is_same s t || false)) e

-- and each that was read is among them
pub among-read : (xs ss : List Source) (s : Source) → list_any (is_same s) ss ≡ true → list_any (is_same s) (with_sources xs ss) ≡ true
among-read xs [] s e = absurd (cc)
among-read xs (t ∷ ss) s e =
    by_case (is_same s t) _
    (λ y. among-later s (with_source xs t) ss
    (subst (λ u. list_any (is_same u) (with_source xs t) ≡ true) (sym (is_same-true s t y)) (here (list_any (is_same t) xs) refl)))
    (λ n. among-read (with_source xs t) ss s (sym (ap (λ b. b || list_any (is_same s) ss) n) ∙ e))
  where
    here : (b : Bool) → list_any (is_same t) xs ≡ b → list_any (is_same t) (if b then xs else xs ++ t ∷ []) ≡ true
    here true k = k
    here false k = among-last xs t
