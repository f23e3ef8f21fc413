-- What a step of a tokenizer tells of the bytes.
use Rattle.std.proofs.Common.{◌≡◌, ℕ, ◌≤◌, ◌<◌, List, [], ◌∷◌, ◌++◌, length, map, nat_lt, Some, None, false, true, refl, sym, ap, ◌∙◌, arith, length-append}
use Rattle.std.proofs.lemmas.List.{append-nil, map-append}
use Rattle.std.proofs.lemmas.Grind.{common_steps}
use Rattle.std.proofs.lemmas.Bool.{lt-ltb}
use Rattle.ccsl_vcd_lex.specs.Tokens.{Token, token, tokens, closed, settled, heard, Heard, word, too_long, hear}
use Rattle.ccsl_vcd_lex.specs.LongTokens.{first_long}
use Rattle.ccsl_vcd_lex.specs.Lexing.{Lexing, StandsFor}
use Rattle.ccsl_vcd_lex.proofs.Cuts.{one}
use Rattle.ccsl_vcd_lex.proofs.Steps.{Grows, Ends, Breaks, grows, grows-closed, ends, ends-closed, breaks, breaks-closed, stays, short-now, long-now, all-now}

pub short-word : (at : ℕ) (text : List ℕ) → length text ≤ 65536 → hear (token at text) ≡ word (token at text)
short-word at text h =
    let n : nat_lt 65536 (length text) ≡ false = grind (arith, common_steps) in
    rw n refl

pub long-word : (at : ℕ) (text : List ℕ) → 65536 < length text → hear (token at text) ≡ too_long at
long-word at text h = rw (lt-ltb 65536 (length text) h) refl

-- more closed tokens are more said of tokens
more-said : (old new : List ℕ) (ts : List Token) (hs : List Heard) → closed new ≡ closed old ++ ts → map hear ts ≡ hs → settled new ≡ settled old ++ hs
more-said old new ts hs e h = ap (map hear) e ∙ map-append hear (closed old) ts ∙ ap (λ (xs : List Heard). settled old ++ xs) h

-- what is said of an open token that ends
one-said : (at : ℕ) (text : List ℕ) → 0 < length text → length text ≤ 65536 → map hear (one at text) ≡ word (token at text) ∷ []
one-said at [] n l = absurd (omega arith)
one-said at (b ∷ xs) n l = ap (λ (h : Heard). h ∷ []) (short-word at (b ∷ xs) l)

-- The bytes are taken and settle this, and no token is too long.
pub record Told (old new : Lexing) (xs : List ℕ) (hs : List Heard) : Type 0 where
  pub stands : (bytes : List ℕ) → StandsFor old bytes → StandsFor new (bytes ++ xs)
  pub settles : (bytes : List ℕ) → StandsFor old bytes → settled (bytes ++ xs) ≡ settled bytes ++ hs
  pub short : (bytes : List ℕ) → StandsFor old bytes → first_long (tokens (bytes ++ xs)) ≡ None

-- the open token goes on
pub goes-on : (old new : Lexing) (xs : List ℕ) → Grows old new xs → Told old new xs []
goes-on old new xs g = record {
  stands = grows old new xs g;
  settles = λ bytes s. more-said bytes (bytes ++ xs) [] [] (grows-closed old new xs g bytes s ∙ sym (append-nil (closed bytes))) refl;
  short = λ bytes s. short-now new (bytes ++ xs) (grows old new xs g bytes s) g.new_runs;
}

-- white space behind the open token
pub ends-one : (old new : Lexing) (ws : List ℕ) → Ends old new ws → 0 < length old.open_text → length old.open_text ≤ 65536
    → Told old new ws (word (token old.begin old.open_text) ∷ [])
ends-one old new ws g some fits = record {
  stands = ends old new ws g;
  settles = λ bytes s. more-said bytes (bytes ++ ws) _ _ (ends-closed old new ws g bytes s) (one-said old.begin old.open_text some fits);
  short = λ bytes s. short-now new (bytes ++ ws) (ends old new ws g bytes s) g.new_runs;
}

-- white space where no token is open
pub ends-none : (old new : Lexing) (ws : List ℕ) → Ends old new ws → old.open_text ≡ [] → Told old new ws []
ends-none old new ws g none = record {
  stands = ends old new ws g;
  settles = λ bytes s. more-said bytes (bytes ++ ws) [] [] (ends-closed old new ws g bytes s ∙ ap (λ (text : List ℕ). closed bytes ++ one old.begin text) none)
      refl;
  short = λ bytes s. short-now new (bytes ++ ws) (ends old new ws g bytes s) g.new_runs;
}

-- The bytes are taken, and the token that begins there is too long. If it was not so before, that alone is settled by them.
pub record Refused (old new : Lexing) (xs : List ℕ) (at : ℕ) : Type 0 where
  pub stands : (bytes : List ℕ) → StandsFor old bytes → StandsFor new (bytes ++ xs)
  pub long : (bytes : List ℕ) → StandsFor old bytes → first_long (tokens (bytes ++ xs)) ≡ Some at
  pub broke : (bytes : List ℕ) → StandsFor old bytes → first_long (tokens bytes) ≡ None → settled (bytes ++ xs) ≡ settled bytes ++ too_long at ∷ []

-- the open token goes on past 65,536 bytes
pub goes-past : (old new : Lexing) (xs : List ℕ) → Breaks old new xs → Refused old new xs old.begin
goes-past old new xs g =
    let n : 65536 < length (old.open_text ++ xs) = omega (arith, length-append old.open_text xs, g.long) in
    record {
      stands = breaks old new xs g;
      long = λ bytes s. long-now new (bytes ++ xs) (breaks old new xs g bytes s) g.new_failed ∙ ap (λ (k : ℕ). Some k) g.begin;
      broke = λ bytes s _. more-said bytes (bytes ++ xs) _ _ (breaks-closed old new xs g bytes s)
          (ap (λ (h : Heard). h ∷ []) (long-word old.begin (old.open_text ++ xs) n));
    }

-- a token was too long before
pub stays-refused : (v : Lexing) (xs : List ℕ) → v.failed ≡ true → Refused v v xs v.begin
stays-refused v xs f = record {
  stands = stays v xs f;
  long = λ bytes s. long-now v (bytes ++ xs) (stays v xs f bytes s) f;
  broke = λ bytes s none. absurd (let e : None ≡ Some v.begin = sym none ∙ long-now v bytes s f in cc);
}

-- the end of the file ends the open token
pub end-one : (v : Lexing) (bytes : List ℕ) → StandsFor v bytes → v.failed ≡ false → 0 < length v.open_text
    → heard bytes ≡ settled bytes ++ word (token v.begin v.open_text) ∷ []
end-one v bytes s f some =
    ap (map hear) (all-now v bytes s f) ∙ map-append hear (closed bytes) (one v.begin v.open_text)
    ∙ ap (λ (hs : List Heard). settled bytes ++ hs) (one-said v.begin v.open_text some s.fits)

pub end-none : (v : Lexing) (bytes : List ℕ) → StandsFor v bytes → v.failed ≡ false → v.open_text ≡ [] → heard bytes ≡ settled bytes ++ []
end-none v bytes s f none =
    ap (map hear) (all-now v bytes s f ∙ ap (λ (text : List ℕ). closed bytes ++ one v.begin text) none) ∙ map-append hear (closed bytes) []

-- while no token was too long, the bytes have none that is
pub none-long : (v : Lexing) → v.failed ≡ false → (bytes : List ℕ) (at : ℕ) → StandsFor v bytes → first_long (tokens bytes) ≡ Some at → ⊥
none-long v f bytes at s e = let p : None ≡ Some at = sym (short-now v bytes s f) ∙ e in cc
