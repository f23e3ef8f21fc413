-- One step of a reader: a word, a symbol, a name.
use Rattle.std.proofs.Common.{◌≡◌, ℕ, Bool, true, false, List, [], ◌∷◌, ◌++◌, Option, Some, refl, sym, ap, subst, ◌∙◌, get_or}
use Rattle.std.proofs.lemmas.Bool.{eqb-true}
use Rattle.ccsl_base.specs.declared.reserved.Reserved.{Reserved}
use Rattle.ccsl_base.specs.declared.reserved.Reserved.TheVariants as w
use Rattle.ccsl_base.specs.ReservedWords.{all_words}
use Rattle.ccsl_ast.specs.declared.spot.Spot.{Spot}
use Rattle.ccsl_grammar.specs.Terminals.{Terminal, word, symbol, name, number, quoted}
use Rattle.ccsl_grammar.specs.Kinds.{is_word, is_symbol, same_word, number_of}
use Rattle.ccsl_grammar.specs.Reader.{Fault, no_syntax, Reader, ◌>>=◌, ◌>>◌, accept}
use Rattle.ccsl_grammar.specs.Parser.{passed, word_at, symbol_at, name_of, name_at}
use Rattle.ccsl_grammar.proofs.Good.{Good, bind, take_one}

-- ---- what passed a test

-- each word stands at its number
numbered_back : (v : Reserved) → get_or all_words (number_of v) w.Ccsl ≡ v
numbered_back w.Ccsl = refl
numbered_back _ = refl

pub same_word_is : (v u : Reserved) → same_word v u ≡ true → v ≡ u
same_word_is v u e = sym (numbered_back v) ∙ ap (λ n. get_or all_words n w.Ccsl) (eqb-true (number_of v) (number_of u) e) ∙ numbered_back u

pub word_is : (w : Reserved) (t : Terminal) → is_word w t ≡ true → t ≡ word w
word_is w (word v) e = ap word (same_word_is v w e)
word_is w (symbol b) e = absurd cc
word_is w (name x) e = absurd cc
word_is w (number at n) e = absurd cc
word_is w (quoted at bytes) e = absurd cc

pub symbol_is : (b : ℕ) (t : Terminal) → is_symbol b t ≡ true → t ≡ symbol b
symbol_is b (symbol c) e = ap symbol (eqb-true c b e)
symbol_is b (word v) e = absurd cc
symbol_is b (name x) e = absurd cc
symbol_is b (number at n) e = absurd cc
symbol_is b (quoted at bytes) e = absurd cc

pub name_of_is : (t : Terminal) (x : Spot) → name_of t ≡ Some x → t ≡ name x
name_of_is (name y) x e = cc
name_of_is (word v) x e = absurd cc
name_of_is (symbol b) x e = absurd cc
name_of_is (number at n) x e = absurd cc
name_of_is (quoted at bytes) x e = absurd cc

passed_is : (b v : Bool) → passed b ≡ Some v → b ≡ true
passed_is true v e = refl
passed_is false v e = absurd cc

-- ---- the steps

abbrev pub Nowhere : Fault → List Terminal → List Terminal → Type 0
Nowhere k p z = (k ≡ no_syntax) × (p ≡ [])

module _ {A B : Type 0} (S : Fault → List Terminal → List Terminal → Type 0) (Q : B → List Terminal → Type 0) (value : Terminal → Option A) (g : A → Reader B)
    (ts : List Terminal) where
  pub one : ((z : List Terminal) → S no_syntax [] z)
      → ((u : Terminal) (v : A) (z : List Terminal) → value u ≡ Some v → Good (λ k q y. S k (u ∷ q) y) (λ w q. Q w (u ∷ q)) (g v) z)
      → Good S Q (accept value >>= g) ts
  one out on = bind Nowhere (λ v p. (u : Terminal) × (p ≡ u ∷ []) × (value u ≡ Some v)) S Q (accept value) g ts
      (take_one Nowhere (λ v p. (u : Terminal) × (p ≡ u ∷ []) × (value u ≡ Some v)) value ts (λ z. (refl, refl)) (λ u v e. (u, refl, e)))
      (λ k p z h. subst (λ (x : Fault × List Terminal). S x.0 x.1 z) (let e : ◌≡◌ {A = Fault × List Terminal} (no_syntax, []) (k, p) = cc in e) (out z))
      (λ v p z h e. subst (λ (p : List Terminal). Good (λ k q y. S k (p ++ q) y) (λ w q. Q w (p ++ q)) (g v) z) (sym h.1) (on h.0 v z h.2))

module _ {B : Type 0} (S : Fault → List Terminal → List Terminal → Type 0) (Q : B → List Terminal → Type 0) where
  pub word_then : (w : Reserved) (g : Reader B) (ts : List Terminal) → ((z : List Terminal) → S no_syntax [] z)
      → ((z : List Terminal) → Good (λ k q y. S k (word w ∷ q) y) (λ v q. Q v (word w ∷ q)) g z) → Good S Q (word_at w >> g) ts
  unfolding word_at
  word_then w g ts out on = one S Q (λ t. passed (is_word w t)) (λ _. g) ts out
      (λ u v z e. subst (λ (u : Terminal). Good (λ k q y. S k (u ∷ q) y) (λ v q. Q v (u ∷ q)) g z) (sym (word_is w u (passed_is (is_word w u) v e))) (on z))

  pub symbol_then : (b : ℕ) (g : Reader B) (ts : List Terminal) → ((z : List Terminal) → S no_syntax [] z)
      → ((z : List Terminal) → Good (λ k q y. S k (symbol b ∷ q) y) (λ v q. Q v (symbol b ∷ q)) g z) → Good S Q (symbol_at b >> g) ts
  unfolding symbol_at
  symbol_then b g ts out on = one S Q (λ t. passed (is_symbol b t)) (λ _. g) ts out
      (λ u v z e. subst (λ (u : Terminal). Good (λ k q y. S k (u ∷ q) y) (λ v q. Q v (u ∷ q)) g z) (sym (symbol_is b u (passed_is (is_symbol b u) v e))) (on z))

  pub name_then : (g : Spot → Reader B) (ts : List Terminal) → ((z : List Terminal) → S no_syntax [] z)
      → ((x : Spot) (z : List Terminal) → Good (λ k q y. S k (name x ∷ q) y) (λ v q. Q v (name x ∷ q)) (g x) z) → Good S Q (name_at >>= g) ts
  unfolding name_at
  name_then g ts out on = one S Q name_of g ts out
      (λ u x z e. subst (λ (u : Terminal). Good (λ k q y. S k (u ∷ q) y) (λ v q. Q v (u ∷ q)) (g x) z) (sym (name_of_is u x e)) (on x z))
