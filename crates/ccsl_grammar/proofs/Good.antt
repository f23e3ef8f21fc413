-- What is proved of each reader at each list of terminals.
--     Took        it took the terminals p in front; so it does wherever the same terminals, and the next one, stand in front
--     Stop        it stopped behind the terminals p; so it does wherever the same terminals, and the next one, stand in front
--     Good        whichever of the two it did
-- The values taken obey Q, and the places of faults obey S.
use Rattle.std.proofs.Common.{◌≡◌, Bool, true, false, List, [], ◌∷◌, ◌++◌, Option, Some, None, refl, sym, ap, subst, ◌∙◌, append_assoc}
use Rattle.ccsl_grammar.specs.Terminals.{Terminal}
use Rattle.ccsl_grammar.specs.Reader.{Fault, no_syntax, Reply, took, stopped, Reader, followed, ◌>>=◌, given, valued, accept, begins, picked, choose}

abbrev pub Places : Type 1
Places = Fault → List Terminal → List Terminal → Type 0

pub record Took {A : Type 0} (Q : A → List Terminal → Type 0) (f : Reader A) (ts : List Terminal) (v : A) (rest : List Terminal) : Type 0 where
  pub front : List Terminal
  pub whole : ts ≡ front ++ rest
  pub holds : Q v front
  pub again : (t : Terminal) (us more : List Terminal) → rest ≡ t ∷ us → f (front ++ t ∷ more) ≡ took v (t ∷ more)

pub record Stop {A : Type 0} (S : Fault → List Terminal → List Terminal → Type 0) (f : Reader A) (ts : List Terminal) (k : Fault)
    (rest : List Terminal) : Type 0 where
  pub front : List Terminal
  pub whole : ts ≡ front ++ rest
  pub holds : S k front rest
  pub again : (t : Terminal) (us more : List Terminal) → rest ≡ t ∷ us → f (front ++ t ∷ more) ≡ stopped k (t ∷ more)

abbrev pub GoodAs : {A : Type 0} (S : Fault → List Terminal → List Terminal → Type 0) (Q : A → List Terminal → Type 0) (f : Reader A) (ts : List Terminal)
    → Reply A → Type 0
GoodAs S Q f ts (took v rest) = Took Q f ts v rest
GoodAs S Q f ts (stopped k rest) = Stop S f ts k rest

-- a record, so that its arguments are found
pub record Good {A : Type 0} (S : Fault → List Terminal → List Terminal → Type 0) (Q : A → List Terminal → Type 0) (f : Reader A)
    (ts : List Terminal) : Type 0 where
  pub is : GoodAs S Q f ts (f ts)

-- ---- one reader after another

through : {A : Type 0} (f : Reader A) (v : A) (front rest : List Terminal)
    → ((t : Terminal) (us more : List Terminal) → rest ≡ t ∷ us → f (front ++ t ∷ more) ≡ took v (t ∷ more))
    → (p : List Terminal) (t : Terminal) (us more : List Terminal) → rest ≡ p ++ t ∷ us → f (front ++ (p ++ t ∷ more)) ≡ took v (p ++ t ∷ more)
through f v front rest h [] t us more e = h t us more e
through f v front rest h (u ∷ p) t us more e = h u (p ++ t ∷ us) (p ++ t ∷ more) e

module _ {A B : Type 0} (S : Fault → List Terminal → List Terminal → Type 0) (Q : A → List Terminal → Type 0)
    (S' : Fault → List Terminal → List Terminal → Type 0) (Q' : B → List Terminal → Type 0)
    (f : Reader A) (g : A → Reader B) (ts : List Terminal) where
  then_as : (v : A) (rest : List Terminal) (h : Took Q f ts v rest) (r : Reply B)
      → GoodAs (λ k q z. S' k (h.front ++ q) z) (λ w q. Q' w (h.front ++ q)) (g v) rest r → GoodAs S' Q' (f >>= g) ts r
  then_as v rest h (took w z) n = record {
    front = h.front ++ n.front;
    whole = h.whole ∙ ap (λ (q : List Terminal). h.front ++ q) n.whole ∙ sym (append_assoc h.front n.front z);
    holds = n.holds;
    again = λ t us more e. rw (
      append_assoc h.front n.front (t ∷ more),
      through f v h.front rest h.again n.front t us more (n.whole ∙ ap (λ (q : List Terminal). n.front ++ q) e),
    ) (n.again t us more e);
  }
  then_as v rest h (stopped k z) n = record {
    front = h.front ++ n.front;
    whole = h.whole ∙ ap (λ (q : List Terminal). h.front ++ q) n.whole ∙ sym (append_assoc h.front n.front z);
    holds = n.holds;
    again = λ t us more e. rw (
      append_assoc h.front n.front (t ∷ more),
      through f v h.front rest h.again n.front t us more (n.whole ∙ ap (λ (q : List Terminal). n.front ++ q) e),
    ) (n.again t us more e);
  }

  bind_as : (r : Reply A) → GoodAs S Q f ts r → ((k : Fault) (p z : List Terminal) → S k p z → S' k p z)
      → ((v : A) (p z : List Terminal) → Q v p → ts ≡ p ++ z → Good (λ k q y. S' k (p ++ q) y) (λ w q. Q' w (p ++ q)) (g v) z)
      → GoodAs S' Q' (f >>= g) ts (followed r g)
  bind_as (took v rest) h out on = then_as v rest h (g v rest) (on v h.front rest h.holds h.whole).is
  bind_as (stopped k rest) h out on = record {
    front = h.front;
    whole = h.whole;
    holds = out k h.front rest h.holds;
    again = λ t us more e. ap (λ r. followed r g) (h.again t us more e);
  }

  pub bind : Good S Q f ts → ((k : Fault) (p z : List Terminal) → S k p z → S' k p z)
      → ((v : A) (p z : List Terminal) → Q v p → ts ≡ p ++ z → Good (λ k q y. S' k (p ++ q) y) (λ w q. Q' w (p ++ q)) (g v) z)
      → Good S' Q' (f >>= g) ts
  bind h out on = record { is = bind_as (f ts) h.is out on }

-- ---- a value that takes nothing

pub give : {A : Type 0} (S : Fault → List Terminal → List Terminal → Type 0) (Q : A → List Terminal → Type 0) (v : A) (ts : List Terminal) → Q v []
    → Good S Q (given v) ts
give S Q v ts h = record { is = record { front = []; whole = refl; holds = h; again = λ t us more e. refl } }

-- ---- one terminal

accept_as : {A : Type 0} (S : Fault → List Terminal → List Terminal → Type 0) (Q : A → List Terminal → Type 0) (value : Terminal → Option A) (u : Terminal)
    (ts : List Terminal) (o : Option A) → value u ≡ o
    → ((z : List Terminal) → S no_syntax [] z) → ((v : A) → value u ≡ Some v → Q v (u ∷ []))
    → GoodAs S Q (accept value) (u ∷ ts) (valued o u ts)
accept_as S Q value u ts None e out on =
    record { front = []; whole = refl; holds = out (u ∷ ts); again = λ t us more h. let same : u ≡ t = cc in rw (← same, e) refl }
accept_as S Q value u ts (Some v) e out on = record { front = u ∷ []; whole = refl; holds = on v e; again = λ t us more h. rw e refl }

pub take_one : {A : Type 0} (S : Fault → List Terminal → List Terminal → Type 0) (Q : A → List Terminal → Type 0) (value : Terminal → Option A)
    (ts : List Terminal)
    → ((z : List Terminal) → S no_syntax [] z) → ((u : Terminal) (v : A) → value u ≡ Some v → Q v (u ∷ []))
    → Good S Q (accept value) ts
take_one S Q value [] out on = record { is = record { front = []; whole = refl; holds = out []; again = λ t us more e. absurd cc } }
take_one S Q value (u ∷ ts) out on = record { is = accept_as S Q value u ts (value u) refl out (on u) }

-- ---- a choice by the next terminal

begins_again : (test : Terminal → Bool) (p rest : List Terminal) (t : Terminal) (us more : List Terminal) → rest ≡ t ∷ us
    → begins test (p ++ t ∷ more) ≡ begins test (p ++ rest)
begins_again test [] rest t us more e = rw e refl
begins_again test (u ∷ p) rest t us more e = refl

module _ {A : Type 0} (S : Fault → List Terminal → List Terminal → Type 0) (Q : A → List Terminal → Type 0) (test : Terminal → Bool) (f g : Reader A)
    (ts : List Terminal) where
  choose_true : begins test ts ≡ true → (r : Reply A) → GoodAs S Q f ts r → GoodAs S Q (choose test f g) ts r
  choose_true b (took v rest) h = record {
    front = h.front;
    whole = h.whole;
    holds = h.holds;
    again = λ t us more e. rw (begins_again test h.front rest t us more e, ← h.whole, b) (h.again t us more e);
  }
  choose_true b (stopped k rest) h = record {
    front = h.front;
    whole = h.whole;
    holds = h.holds;
    again = λ t us more e. rw (begins_again test h.front rest t us more e, ← h.whole, b) (h.again t us more e);
  }

  choose_false : begins test ts ≡ false → (r : Reply A) → GoodAs S Q g ts r → GoodAs S Q (choose test f g) ts r
  choose_false b (took v rest) h = record {
    front = h.front;
    whole = h.whole;
    holds = h.holds;
    again = λ t us more e. rw (begins_again test h.front rest t us more e, ← h.whole, b) (h.again t us more e);
  }
  choose_false b (stopped k rest) h = record {
    front = h.front;
    whole = h.whole;
    holds = h.holds;
    again = λ t us more e. rw (begins_again test h.front rest t us more e, ← h.whole, b) (h.again t us more e);
  }

  choose_as : (b : Bool) → begins test ts ≡ b → (begins test ts ≡ true → Good S Q f ts) → (begins test ts ≡ false → Good S Q g ts)
      → GoodAs S Q (choose test f g) ts (picked b f g ts)
  choose_as true e in_true in_false = choose_true e (f ts) (in_true e).is
  choose_as false e in_true in_false = choose_false e (g ts) (in_false e).is

  pub either : (begins test ts ≡ true → Good S Q f ts) → (begins test ts ≡ false → Good S Q g ts) → Good S Q (choose test f g) ts
  either in_true in_false = record { is = choose_as (begins test ts) refl in_true in_false }

-- ---- the same reader in another form

same_as : {A : Type 0} (S : Fault → List Terminal → List Terminal → Type 0) (Q : A → List Terminal → Type 0) (f g : Reader A) (ts : List Terminal)
    → ((us : List Terminal) → f us ≡ g us) → (r : Reply A) → GoodAs S Q g ts r → GoodAs S Q f ts r
same_as S Q f g ts e (took v rest) h =
    record { front = h.front; whole = h.whole; holds = h.holds; again = λ t us more i. e (h.front ++ t ∷ more) ∙ h.again t us more i }
same_as S Q f g ts e (stopped k rest) h =
    record { front = h.front; whole = h.whole; holds = h.holds; again = λ t us more i. e (h.front ++ t ∷ more) ∙ h.again t us more i }

pub same : {A : Type 0} (S : Fault → List Terminal → List Terminal → Type 0) (Q : A → List Terminal → Type 0) (f g : Reader A) (ts : List Terminal)
    → ((us : List Terminal) → f us ≡ g us) → Good S Q g ts → Good S Q f ts
same S Q f g ts e h = record { is = subst (λ r. GoodAs S Q f ts r) (sym (e ts)) (same_as S Q f g ts e (g ts) h.is) }

-- ---- other places and other values

weaker_as : {A : Type 0} (S S' : Fault → List Terminal → List Terminal → Type 0) (Q Q' : A → List Terminal → Type 0) (f : Reader A) (ts : List Terminal)
    (r : Reply A)
    → ((k : Fault) (p z : List Terminal) → S k p z → S' k p z) → ((v : A) (p : List Terminal) → Q v p → Q' v p) → GoodAs S Q f ts r → GoodAs S' Q' f ts r
weaker_as S S' Q Q' f ts (took v rest) s q h = record { front = h.front; whole = h.whole; holds = q v h.front h.holds; again = h.again }
weaker_as S S' Q Q' f ts (stopped k rest) s q h = record { front = h.front; whole = h.whole; holds = s k h.front rest h.holds; again = h.again }

pub weaker : {A : Type 0} (S S' : Fault → List Terminal → List Terminal → Type 0) (Q Q' : A → List Terminal → Type 0) (f : Reader A) (ts : List Terminal)
    → ((k : Fault) (p z : List Terminal) → S k p z → S' k p z) → ((v : A) (p : List Terminal) → Q v p → Q' v p) → Good S Q f ts → Good S' Q' f ts
weaker S S' Q Q' f ts s q h = record { is = weaker_as S S' Q Q' f ts (f ts) s q h.is }
