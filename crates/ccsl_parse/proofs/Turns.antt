-- The exits and the turn of a loop of the code.
use Rattle.std.proofs.Common.{◌≡◌, ◌<◌, Bool, true, List, [], ◌∷◌, length, refl, arith}
use Rattle.std.proofs.lemmas.List.{length-map}
use Rattle.ccsl_lex.specs.declared.token.Token.{Token}
use Rattle.ccsl_grammar.specs.Terminals.{Terminal, terminal, terminals}
use Rattle.ccsl_grammar.specs.Reader.{Fault, followed, Reply, took, stopped, no_syntax, too_deep, Reader, begins, many}
use Rattle.ccsl_grammar.specs.Loop.{prefixed}
use Rattle.ccsl_grammar.proofs.Loop.{Falls, stops}
use Rattle.ccsl_parse.specs.declared.stop.Stop.{Stop}
use Rattle.ccsl_parse.specs.declared.stop.Stop.TheVariants.{Memory, Syntax, TooDeep}
use Rattle.ccsl_parse.specs.Reads.{Fails}

module _ {A : Type 0} (test : Terminal → Bool) (f : Reader A) (falls : Falls f) where
  -- a turn that fails
  pub fails : (front : List A) (e : Stop) (ts : List Terminal) (r : Reply (List A)) → begins test ts ≡ true → Fails e (f ts)
      → prefixed front (many test f ts) ≡ r → Fails e r
  fails front Memory ts r b h i = tt
  fails front (Syntax rest) ts r b h i = stops test f falls front no_syntax ts (terminals rest.now) r b h i
  fails front (TooDeep rest) ts r b h i = stops test f falls front too_deep ts (terminals rest.now) r b h i

  -- a turn leaves fewer tokens
  pub shorter : (ts us : List Token) (v : A) → f (terminals ts) ≡ took v (terminals us) → length us < length ts
  shorter ts us v e =
      let h : length (terminals us) < length (terminals ts) = falls.at (terminals ts) v (terminals us) e in
      omega (arith, length-map us terminal, length-map ts terminal)

-- a list that is read with its first element in front, and what is read behind it
pub led : {A B : Type 0} (first : A) (r : Reply (List A)) (vs : List A) (rest : List Terminal) (g : List A → Reader B) → prefixed (first ∷ []) r ≡ took vs rest
    → followed r (λ ts. g (first ∷ ts)) ≡ g vs rest
led first (took ts z) vs rest g e = let a : first ∷ ts ≡ vs = cc in let b : z ≡ rest = cc in rw (← a, ← b) refl
led first (stopped k z) vs rest g e = absurd cc

-- and where what was read with its first element in front stopped
pub led_stops : {A B : Type 0} (first : A) (r : Reply (List A)) (k : Fault) (rest : List Terminal) (g : List A → Reader B)
    → prefixed (first ∷ []) r ≡ stopped k rest → followed r g ≡ stopped k rest
led_stops first (took ts z) k rest g e = absurd cc
led_stops first (stopped j z) k rest g e = let a : j ≡ k = cc in let b : z ≡ rest = cc in rw (← a, ← b) refl
