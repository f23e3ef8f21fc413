-- Arguments and the kinds of their parameters, by places.
use Rattle.std.proofs.Common.{◌≡◌, ℕ, zero, suc, ◌<◌, List, [], ◌∷◌, length, get_or, refl, ap, arith}
use Rattle.ccsl_words.specs.Word.{BinaryWord}
use Rattle.ccsl_kernel.specs.declared.expr.Value.{Value}
use Rattle.ccsl_kernel.specs.declared.group.ParamKind.{ParamKind}
use Rattle.ccsl_kernel.specs.Syntax.{Body}
use Rattle.ccsl_kernel.specs.Accepted.{IsArgument, AreArguments}

module _ (groups : List (List Body)) (words : List BinaryWord) (clocks : ℕ) (params : List ParamKind) where
  pub arguments_len : (ks : List ParamKind) (vs : List Value) → AreArguments groups words clocks params ks vs → length ks ≡ length vs
  arguments_len [] [] h = refl
  arguments_len [] (v ∷ vs) h = absurd h
  arguments_len (k ∷ ks) [] h = absurd h
  arguments_len (k ∷ ks) (v ∷ vs) h = ap suc (arguments_len ks vs h.1)

  pub arguments_at : (ks : List ParamKind) (vs : List Value) (i : ℕ) (k : ParamKind) (v : Value) → i < length ks → AreArguments groups words clocks params ks vs
      → IsArgument groups words clocks params (get_or ks i k) (get_or vs i v)
  arguments_at [] vs i k v l h = absurd (omega (arith, l))
  arguments_at (k ∷ ks) [] i k' v l h = absurd h
  arguments_at (k ∷ ks) (v ∷ vs) zero k' v' l h = h.0
  arguments_at (k ∷ ks) (v ∷ vs) (suc i) k' v' l h = arguments_at ks vs i k' v' (omega (arith, l)) h.1

  pub arguments_from : (ks : List ParamKind) (vs : List Value) → length ks ≡ length vs →
      ((i : ℕ) (k : ParamKind) (v : Value) → i < length ks → IsArgument groups words clocks params (get_or ks i k) (get_or vs i v))
      → AreArguments groups words clocks params ks vs
  arguments_from [] [] same h = tt
  arguments_from [] (v ∷ vs) same h = absurd (omega (arith, same))
  arguments_from (k ∷ ks) [] same h = absurd (omega (arith, same))
  arguments_from (k ∷ ks) (v ∷ vs) same h = (
    h 0 k v (omega arith),
    arguments_from ks vs (omega (arith, same))
        (λ i k' v' l. h (suc i) k' v' (let s : suc i < suc (length ks) = omega (arith, l) in s)),
  )
