-- The next token of a text at whose front no white space stands.
use Rattle.std.proofs.Common.{◌≡◌, ◌<◌, ℕ, ◌-◌, List, [], ◌∷◌, length, drop, false, Option, Some, sym, ap, ◌∙◌, arith}
use Rattle.std.proofs.lemmas.Bool.{or_parts}
use Rattle.ccsl_event_file.specs.Tokens.{Token, placed, tokens_in, piece_at, begins_remark, is_white}
use Rattle.ccsl_event_file.specs.Fronts.{is_blank, IsFrontOf, IsBehindBlank}
use Rattle.ccsl_event_file.specs.Parsing.{ahead, place_of, next_token, behind_next}
use Rattle.ccsl_event_file.proofs.Lexing.{at_token, behind}

-- its first token and those behind it
ahead_is : (len b : ℕ) (bs : List ℕ) → is_blank (b ∷ bs) ≡ false
    → ahead len (b ∷ bs) ≡ placed (len - length (b ∷ bs)) (piece_at b bs).token ∷ ahead len (drop (piece_at b bs).more bs)
ahead_is len b bs bare =
    let no = or_parts (begins_remark b bs) (is_white b) bare in
    at_token len b bs no.0 no.1
    ∙ ap (λ ts. placed (len - length (b ∷ bs)) (piece_at b bs).token ∷ ts) (behind len (piece_at b bs).more bs)

pub place : (len : ℕ) (rest : List ℕ) → is_blank rest ≡ false → len - length rest ≡ place_of len (ahead len rest)
unfolding tokens_in
place len [] bare = omega arith
place len (b ∷ bs) bare = sym (ap (place_of len) (ahead_is len b bs bare))

pub next : (len : ℕ) (rest behind : List ℕ) (found : Option Token) → is_blank rest ≡ false → IsFrontOf rest found behind → found ≡ next_token (ahead len rest)
unfolding tokens_in
next len [] behind found bare front = front.0
next len (b ∷ bs) behind found bare front = front.0 ∙ sym (ap next_token (ahead_is len b bs bare))

pub later : (len : ℕ) (rest behind new : List ℕ) (found : Option Token) → is_blank rest ≡ false → IsFrontOf rest found behind → IsBehindBlank behind new
    → ahead len new ≡ behind_next (ahead len rest)
unfolding tokens_in
later len [] behind new found bare front blank = blank.same len ∙ ap (ahead len) front.1
later len (b ∷ bs) behind new found bare front blank =
    blank.same len ∙ ap (ahead len) front.1 ∙ sym (ap behind_next (ahead_is len b bs bare))

pub some : (len : ℕ) (rest : List ℕ) (t : Token) → Some t ≡ next_token (ahead len rest) → 0 < length rest
unfolding tokens_in
some len [] t e = absurd (cc)
some len (b ∷ bs) t e = omega arith

cons-nil : {X : Type 0} (x : X) (xs : List X) → x ∷ xs ≡ [] → ⊥
cons-nil x xs e = cc

pub not_over : (len : ℕ) (rest : List ℕ) → is_blank rest ≡ false → 0 < length rest → ahead len rest ≡ [] → ⊥
not_over len [] bare longer e = absurd (omega (arith, longer))
not_over len (b ∷ bs) bare longer e = cons-nil _ _ (sym (ahead_is len b bs bare) ∙ e)
