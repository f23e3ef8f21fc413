-- The pieces of a text, cut off one by one.
use Rattle.std.proofs.Common.{◌≡◌, ℕ, zero, suc, List, [], ◌∷◌, append-nil, length, drop, Bool, true, false, not, ◌&&◌, flat_map, refl, ap, ◌∙◌, if◌then◌else◌}
use Rattle.std.specs.List.{take_while}
use Rattle.std.proofs.lemmas.Bool.{and_parts, not-true}
use Rattle.ccsl_base.specs.Letters.{is_letter, is_digit, is_inner}
use Rattle.ccsl_lex.specs.Tokens.{Piece, blank, letters, digits, mark, text_of, is_white, is_piece, goes_on, starts, AreCut}

-- what stands in front of a text without comments and quotes
abbrev first : ℕ → List ℕ → Piece
first b bytes =
    if is_white b then blank b
    else if is_letter b then letters (take_while is_inner (b ∷ bytes))
    else if is_digit b then digits (take_while is_digit (b ∷ bytes))
    else mark b

-- its pieces, at most so many
abbrev pub pieces : ℕ → List ℕ → List Piece
pieces zero text = []
pieces (suc most) [] = []
pieces (suc most) (b ∷ bytes) = let p = first b bytes in p ∷ pieces most (drop (length (text_of p)) (b ∷ bytes))

abbrev pub are_cut : List Piece → Bool
are_cut [] = true
are_cut (p ∷ ps) = (is_piece p && not (starts (goes_on p) (flat_map text_of ps))) && are_cut ps

pub cut : (ps : List Piece) → are_cut ps ≡ true → AreCut ps []
cut [] e = tt
cut (p ∷ ps) e =
    let w = and_parts (is_piece p && not (starts (goes_on p) (flat_map text_of ps))) (are_cut ps) e in
    let v = and_parts (is_piece p) (not (starts (goes_on p) (flat_map text_of ps))) w.0 in
    (record { is = v.0; longest = ap (starts (goes_on p)) (append-nil (flat_map text_of ps)) ∙ not-true _ v.1 }, cut ps w.1)
