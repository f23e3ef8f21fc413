-- Readers that do not look at places: on terminals without places they do the same, and their values have none.
use Rattle.std.proofs.Common.{◌≡◌, ℕ, zero, suc, Bool, true, false, List, [], ◌∷◌, length, map, Option, Some, None, refl, ap, not, ◌||◌, ◌&&◌}
use Rattle.std.proofs.lemmas.List.{length-map}
use Rattle.ccsl_base.specs.declared.reserved.Reserved.{Reserved}
use Rattle.ccsl_base.specs.declared.reserved.Reserved.TheVariants as w
use Rattle.ccsl_grammar.specs.Terminals.{Terminal, word, symbol, name, quoted}
use Rattle.ccsl_grammar.specs.Kinds.{is_word, is_symbol, is_name, is_quoted}
use Rattle.ccsl_grammar.specs.Reader.{Fault, Reply, took, stopped, Reader, followed, ◌>>=◌, ◌>>◌, given, valued, accept, begins, picked, choose, many_within}
use Rattle.ccsl_grammar.specs.Reader.{many}
use Rattle.ccsl_grammar.specs.Parser.{passed, word_at, symbol_at, name_of, name_at, goes_on_by, is_sign, is_binop, is_expr, no_brace, is_definition}
use Rattle.ccsl_grammar.specs.Bare.{bare_spot, bare, bares}

-- a reply without places, where b takes them from the value
abbrev pub bared : {A : Type 0} → (A → A) → Reply A → Reply A
bared b (took v rest) = took (b v) (bares rest)
bared b (stopped k rest) = stopped k (bares rest)

-- f' does without places what f does with them
pub record Blind {A : Type 0} (b : A → A) (f' f : Reader A) : Type 0 where
  pub at : (ts : List Terminal) → f' (bares ts) ≡ bared b (f ts)

-- ---- the combinators

pub give : {A : Type 0} (b : A → A) (v : A) → Blind b (given (b v)) (given v)
give b v = record { at = λ ts. refl }

pub stop : {A : Type 0} (b : A → A) (k : Fault) → Blind b (stopped k) (stopped k)
stop b k = record { at = λ ts. refl }

module _ {A B : Type 0} (b : A → A) (c : B → B) (f' f : Reader A) (g' g : A → Reader B) where
  follow : ((v : A) → Blind c (g' (b v)) (g v)) → (r : Reply A) → followed (bared b r) g' ≡ bared c (followed r g)
  follow on (took v rest) = (on v).at rest
  follow on (stopped k rest) = refl

  pub bind : Blind b f' f → ((v : A) → Blind c (g' (b v)) (g v)) → Blind c (f' >>= g') (f >>= g)
  bind h on = record { at = λ ts. rw (h.at ts) (follow on (f ts)) }

abbrev pub option_bare : {A : Type 0} → (A → A) → Option A → Option A
option_bare b None = None
option_bare b (Some v) = Some (b v)

module _ {A : Type 0} (b : A → A) (value : Terminal → Option A) (same : (t : Terminal) → value (bare t) ≡ option_bare b (value t)) where
  valued_blind : (o : Option A) (t : Terminal) (ts : List Terminal) → valued (option_bare b o) (bare t) (bares ts) ≡ bared b (valued o t ts)
  valued_blind None t ts = refl
  valued_blind (Some v) t ts = refl

  accept_at : (ts : List Terminal) → accept value (bares ts) ≡ bared b (accept value ts)
  accept_at [] = refl
  accept_at (t ∷ ts) = rw (same t) (valued_blind (value t) t ts)

  pub one : Blind b (accept value) (accept value)
  one = record { at = accept_at }

begins_blind : (test : Terminal → Bool) → ((t : Terminal) → test (bare t) ≡ test t) → (ts : List Terminal) → begins test (bares ts) ≡ begins test ts
begins_blind test same [] = refl
begins_blind test same (t ∷ ts) = same t

module _ {A : Type 0} (b : A → A) (test : Terminal → Bool) (same : (t : Terminal) → test (bare t) ≡ test t) where
  picked_blind : (f' f g' g : Reader A) → Blind b f' f → Blind b g' g → (x : Bool) (ts : List Terminal) → picked x f' g' (bares ts) ≡ bared b (picked x f g ts)
  picked_blind f' f g' g h i true ts = h.at ts
  picked_blind f' f g' g h i false ts = i.at ts

  pub either : (f' f g' g : Reader A) → Blind b f' f → Blind b g' g → Blind b (choose test f' g') (choose test f g)
  either f' f g' g h i = record { at = λ ts. rw (begins_blind test same ts) (picked_blind f' f g' g h i (begins test ts) ts) }

module _ {A : Type 0} (b : A → A) (test : Terminal → Bool) (same : (t : Terminal) → test (bare t) ≡ test t) (f : Reader A) (h : Blind b f f) where
  turns : (n : ℕ) → Blind (map b) (many_within n test f) (many_within n test f)
  turns zero = give (map b) []
  turns (suc n) = either (map b) test same _ _ _ _
      (bind b (map b) f f _ _ h (λ v. bind (map b) (map b) _ _ _ _ (turns n) (λ vs. give (map b) (v ∷ vs))))
      (give (map b) [])

  pub again : Blind (map b) (many test f) (many test f)
  unfolding many
  again = record { at = λ ts. rw (length-map ts bare) ((turns (length ts)).at ts) }

-- ---- what a terminal is, its place aside

pub word_same : (v : Reserved) (t : Terminal) → is_word v (bare t) ≡ is_word v t
word_same v (word u) = refl
word_same v _ = refl

pub symbol_same : (b : ℕ) (t : Terminal) → is_symbol b (bare t) ≡ is_symbol b t
symbol_same b (symbol c) = refl
symbol_same b _ = refl

pub name_same : (t : Terminal) → is_name (bare t) ≡ is_name t
name_same (name x) = refl
name_same _ = refl

pub quoted_same : (t : Terminal) → is_quoted (bare t) ≡ is_quoted t
quoted_same (quoted at bytes) = refl
quoted_same _ = refl

pub goes_on_same : (two : Bool) (v : Reserved) (t : Terminal) → goes_on_by two v (bare t) ≡ goes_on_by two v t
goes_on_same two v t = ap (λ b. b && two) (word_same v t)

either_same : (p q : Terminal → Bool) → ((t : Terminal) → p (bare t) ≡ p t) → ((t : Terminal) → q (bare t) ≡ q t) → (t : Terminal)
    → (p (bare t) || q (bare t)) ≡ (p t || q t)
either_same p q h i t = rw (h t, i t) refl

pub sign_same : (t : Terminal) → is_sign (bare t) ≡ is_sign t
sign_same t = either_same (is_symbol 43) (is_symbol 45) (symbol_same 43) (symbol_same 45) t

pub binop_same : (t : Terminal) → is_binop (bare t) ≡ is_binop t
binop_same (word v) = refl
binop_same _ = refl

pub expr_same : (t : Terminal) → is_expr (bare t) ≡ is_expr t
expr_same (name x) = refl
expr_same _ = refl

pub brace_same : (t : Terminal) → no_brace (bare t) ≡ no_brace t
brace_same t = ap not (symbol_same 125 t)

pub definition_same : (t : Terminal) → is_definition (bare t) ≡ is_definition t
definition_same t = either_same (is_word w.Relation) (is_word w.Expression) (word_same w.Relation) (word_same w.Expression) t

-- ---- one terminal

-- what has no place stays as it is
abbrev pub kept : {A : Type 0} → A → A
kept v = v

pub option_kept : {A : Type 0} (o : Option A) → o ≡ option_bare kept o
option_kept None = refl
option_kept (Some v) = refl

module _ {B : Type 0} (c : B → B) (g' g : Reader B) (h : Blind c g' g) where
  pub word_then : (v : Reserved) → Blind c (word_at v >> g') (word_at v >> g)
  unfolding word_at
  word_then v = bind kept c _ _ (λ _. g') (λ _. g) (one kept (λ t. passed (is_word v t)) (λ t. rw (word_same v t) (option_kept (passed (is_word v t)))))
      (λ _. h)

  pub symbol_then : (b : ℕ) → Blind c (symbol_at b >> g') (symbol_at b >> g)
  unfolding symbol_at
  symbol_then b = bind kept c _ _ (λ _. g') (λ _. g) (one kept (λ t. passed (is_symbol b t)) (λ t. rw (symbol_same b t) (option_kept (passed (is_symbol b t)))))
      (λ _. h)

name_is : (t : Terminal) → name_of (bare t) ≡ option_bare bare_spot (name_of t)
name_is (name x) = refl
name_is _ = refl

pub name_blind : Blind bare_spot name_at name_at
unfolding name_at
name_blind = one bare_spot name_of name_is
