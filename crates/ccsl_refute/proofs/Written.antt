-- What was written so far, of a list of lines.
use Rattle.std.proofs.Common.{◌≡◌, ℕ, zero, suc, ◌+◌, ◌<◌, List, [], ◌∷◌, ◌++◌, length, take, get_or, sym, ap, ◌∙◌, subst, arith, append-nil, append_assoc}
use Rattle.std.specs.List.{All}
use Rattle.std.proofs.lemmas.Grind.{flat_map-append}
use Rattle.std.proofs.lemmas.List.Elements.{All-append}
use Rattle.ccsl_refute.specs.declared.line.Line.{Line}
use Rattle.ccsl_refute.specs.NumbersFit.{AllBelow}
use Rattle.ccsl_refute.specs.Writing.{line_text, lines_text}
use Rattle.ccsl_refute.proofs.Lists.{take-at}

pub all-below : (limit : ℕ) (xs : List ℕ) → ((i : ℕ) → get_or xs i 0 < limit) → AllBelow limit xs
all-below limit [] h = tt
all-below limit (x ∷ xs) h = (h 0, all-below limit xs (λ i. h (suc i)))

pub All-more : {X : Type 0} (P : X → Type 0) (xs : List X) (i : ℕ) (x : X) → All P (take i xs) → i < length xs → x ≡ get_or xs i x → P x
    → All P (take (i + 1) xs)
All-more {X} P xs i x before l e p =
    subst (λ (ys : List X). All P ys) (sym (take-at xs i (i + 1) x l (omega arith) e))
    (All-append P (take i xs) (x ∷ []) before (single x p))
  where
    single : (y : X) → P y → All P (y ∷ [])
    single y q zero d m = q
    single y q (suc k) d m = absurd (omega arith)

pub lines_text-more : (names : List (List ℕ)) (lines : List Line) (i : ℕ) (line : Line) → i < length lines → line ≡ get_or lines i line →
    lines_text names (take (i + 1) lines) ≡ lines_text names (take i lines) ++ line_text names line ++ 10 ∷ []
lines_text-more names lines i line l e =
    ap (lines_text names) (take-at lines i (i + 1) line l (omega arith) e)
    ∙ flat_map-append (λ x. line_text names x ++ 10 ∷ []) (take i lines) (line ∷ [])
    ∙ ap (λ t. lines_text names (take i lines) ++ t) (append-nil (line_text names line ++ 10 ∷ []))
    ∙ sym (append_assoc (lines_text names (take i lines)) (line_text names line) (10 ∷ []))
