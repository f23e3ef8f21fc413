-- The tokens of a line, one after another.
use Rattle.std.proofs.Common.{◌≡◌, ℕ, suc, ◌+◌, List, [], ◌∷◌, length, take, drop, map, filter, not, refl, sym, ap, ◌∙◌}
use Rattle.std.specs.List.{slice_split, prefix_len}
use Rattle.ccsl_refute.specs.Text as placed
use Rattle.ccsl_refute.specs.Text.{is_blank}
use Rattle.ccsl_refute.proofs.Tokens as placed_tokens
use Rattle.ccsl_base.specs.Empty.{is_empty}
use Rattle.ccsl_session.specs.Asked.{tokens}

abbrev texts : List placed.Piece → List (List ℕ)
texts ps = map (λ (p : placed.Piece). p.1) ps

-- the tokens are those with places, without these
without_places : (parts : List (List ℕ)) (at : ℕ) → filter (λ token. not (is_empty token)) parts ≡ texts (filter placed.has_bytes (placed.placed at parts))
without_places [] at = refl
without_places ([] ∷ parts) at = without_places parts (suc (at + length {A = ℕ} []))
without_places ((b ∷ bs) ∷ parts) at = ap (λ ts. (b ∷ bs) ∷ ts) (without_places parts (suc (at + length {A = ℕ} (b ∷ bs))))

tokens-places : (at : ℕ) (line : List ℕ) → tokens line ≡ texts (placed.tokens at line)
tokens-places at line = without_places (slice_split is_blank line) at

-- the next token of a line, after the blanks before it
pub tokens-next : (n m : ℕ) (xs w rest : List ℕ) → n ≡ prefix_len is_blank xs → w ≡ drop n xs → m ≡ prefix_len (λ b. not (is_blank b)) w → (m ≡ 0 → ⊥)
    → rest ≡ drop m w →
    tokens xs ≡ take m w ∷ tokens rest
tokens-next n m xs w rest e f g some r =
    tokens-places 0 xs
    ∙ ap texts (placed_tokens.tokens-next 0 n m xs w rest e f g some r)
    ∙ ap (λ ts. take m w ∷ ts) (sym (tokens-places (0 + (n + m)) rest))

pub tokens-end : (n m : ℕ) (xs w : List ℕ) → n ≡ prefix_len is_blank xs → w ≡ drop n xs → m ≡ prefix_len (λ b. not (is_blank b)) w → m ≡ 0 → tokens xs ≡ []
tokens-end n m xs w e f g none = tokens-places 0 xs ∙ ap texts (placed_tokens.tokens-end 0 n m xs w e f g none)
