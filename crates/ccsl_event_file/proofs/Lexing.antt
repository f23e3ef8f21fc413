-- What a byte at the front of a text says of its tokens.
use Rattle.std.proofs.Common.{◌≡◌, ◌<◌, ◌≤◌, ◌+◌, ◌-◌, ℕ, zero, suc, List, [], ◌∷◌, length, get_or, take, drop, Bool, true, false, not, Some, refl, sym, ap}
use Rattle.std.proofs.Common.{◌∙◌, cond, ◌==◌, arith, eq-eqb, eqb-true, add-one, length-drop}
use Rattle.std.proofs.lemmas.Bool.{false≢true, ne_eqb}
use Rattle.ccsl_event_file.specs.Tokens.{Placed, placed, Amid, remark, token, tokens_in, piece_at, begins_remark, is_white, is_word_byte, is_letter}
use Rattle.ccsl_event_file.specs.Tokens.{begins_with, up_to}
use Rattle.ccsl_event_file.specs.Tokens as tokens
use Rattle.ccsl_event_file.specs.Fronts.{is_blank, seen, IsFront, IsFrontOf, IsBehindBlank}
use Rattle.ccsl_event_file.specs.declared.token.Token as code

-- in a remark, or between two tokens
abbrev pub amid : Bool → Amid
amid true = remark
amid false = token 0

-- a text that is left has the tokens of the whole
abbrev pub AreSame : List ℕ → Amid → List ℕ → Type 0
AreSame whole amid text = (len : ℕ) → tokens_in len amid text ≡ tokens_in len (token 0) whole

some : (text : List ℕ) → (length text == 0) ≡ false → 0 < length text
some [] e = absurd (false≢true (sym e))
some (b ∷ bs) e = omega arith

of_remark : (len : ℕ) (text : List ℕ) → (length text == 0) ≡ false
    → tokens_in len remark text ≡ tokens_in len (amid (not (get_or text 0 0 == 10))) (drop 1 text)
unfolding tokens_in
of_remark len [] h = absurd (false≢true (sym h))
of_remark len (b ∷ bs) h = elim (b == 10) as (λ v. tokens_in len (cond v (token 0) remark) bs ≡ tokens_in len (amid (not v)) bs) [ true ↦ refl | false ↦ refl ]

of_slash : (len : ℕ) (text : List ℕ) → (length text == 0) ≡ false → begins_remark (get_or text 0 0) (drop 1 text) ≡ true
    → tokens_in len (token 0) text ≡ tokens_in len remark (drop 1 text)
unfolding tokens_in
of_slash len [] h e = absurd (false≢true (sym h))
of_slash len (b ∷ bs) h e = rw e refl

of_white : (len : ℕ) (text : List ℕ) → (length text == 0) ≡ false → begins_remark (get_or text 0 0) (drop 1 text) ≡ false → is_white (get_or text 0 0) ≡ true
    → tokens_in len (token 0) text ≡ tokens_in len (token 0) (drop 1 text)
unfolding tokens_in
of_white len [] h e w = absurd (false≢true (sym h))
of_white len (b ∷ bs) h e w = rw (e, w) refl

module _ (whole text tail : List ℕ) (some : (length text == 0) ≡ false) (cut : tail ≡ drop 1 text) where
  pub in_remark : (is_remark : Bool) → is_remark ≡ true → AreSame whole (amid is_remark) text → AreSame whole (amid (not (get_or text 0 0 == 10))) tail
  in_remark is_remark e same len =
      ap (tokens_in len (amid (not (get_or text 0 0 == 10)))) cut ∙ sym (of_remark len text some)
      ∙ ap (λ r. tokens_in len (amid r) text) (sym e) ∙ same len

  pub at_slash : (is_remark : Bool) → is_remark ≡ false → begins_remark (get_or text 0 0) tail ≡ true → AreSame whole (amid is_remark) text
      → AreSame whole remark tail
  at_slash is_remark e slash same len =
      ap (tokens_in len remark) cut ∙ sym (of_slash len text some (ap (begins_remark (get_or text 0 0)) (sym cut) ∙ slash))
      ∙ ap (λ r. tokens_in len (amid r) text) (sym e) ∙ same len

  pub at_white : (is_remark : Bool) → is_remark ≡ false → begins_remark (get_or text 0 0) tail ≡ false → is_white (get_or text 0 0) ≡ true
      → AreSame whole (amid is_remark) text → AreSame whole (amid is_remark) tail
  at_white is_remark e slash white same len =
      ap (λ r. tokens_in len (amid r) tail) e ∙ ap (tokens_in len (token 0)) cut
      ∙ sym (of_white len text some (ap (begins_remark (get_or text 0 0)) (sym cut) ∙ slash) white)
      ∙ ap (λ r. tokens_in len (amid r) text) (sym e) ∙ same len

pub at_token : (len b : ℕ) (bs : List ℕ) → begins_remark b bs ≡ false → is_white b ≡ false
    → tokens_in len (token 0) (b ∷ bs) ≡ placed (len - length (b ∷ bs)) (piece_at b bs).token ∷ tokens_in len (token (piece_at b bs).more) bs
unfolding tokens_in
at_token len b bs e w = rw (e, w) refl

-- the bytes of a token that are left say nothing
pub behind : (len n : ℕ) (bs : List ℕ) → tokens_in len (token n) bs ≡ tokens_in len (token 0) (drop n bs)
unfolding tokens_in
behind len zero bs = refl
behind len (suc n) [] = refl
behind len (suc n) (b ∷ bs) = behind len n bs

pub over : (len : ℕ) (amid : Amid) (text : List ℕ) → length text ≡ 0 → tokens_in len amid text ≡ []
unfolding tokens_in
over len amid [] h = refl
over len amid (b ∷ bs) h = absurd (omega arith)

bare : (text : List ℕ) → begins_remark (get_or text 0 0) (drop 1 text) ≡ false → is_white (get_or text 0 0) ≡ false → is_blank text ≡ false
bare [] e w = refl
bare (b ∷ bs) e w = rw (e, w) refl

pub stops : (whole text tail : List ℕ) (is_remark : Bool) → tail ≡ drop 1 text → is_remark ≡ false → begins_remark (get_or text 0 0) tail ≡ false
    → is_white (get_or text 0 0) ≡ false → AreSame whole (amid is_remark) text → length text ≤ length whole → IsBehindBlank whole text
stops whole text tail is_remark cut e slash white same shorter = record {
  same = λ len. ap (λ r. tokens_in len (amid r) text) (sym e) ∙ same len;
  bare = bare text (ap (begins_remark (get_or text 0 0)) (sym cut) ∙ slash) white;
  shorter = shorter;
}

pub ends : (whole text : List ℕ) (is_remark : Bool) → (length text == 0) ≡ true → AreSame whole (amid is_remark) text → length text ≤ length whole
    → IsBehindBlank whole text
unfolding tokens_in
ends whole [] is_remark over same shorter = record { same = λ len. same len; bare = refl; shorter = shorter }
ends whole (b ∷ bs) is_remark over same shorter = absurd (let none : length (b ∷ bs) ≡ 0 = eqb-true (length (b ∷ bs)) 0 over in omega (arith, none))

pub shorter : (text tail : List ℕ) → tail ≡ drop 1 text → length tail ≤ length text
shorter text tail cut = omega (arith, ap length cut, length-drop 1 text)

pub front : (text : List ℕ) (found : code.Token) (rest : List ℕ) → (length text == 0) ≡ false
    → seen found ≡ Some (piece_at (get_or text 0 0) (drop 1 text)).token
    → rest ≡ drop (piece_at (get_or text 0 0) (drop 1 text)).more (drop 1 text) → IsFront text found rest
front [] found rest h t r = absurd (false≢true (sym h))
front (b ∷ bs) found rest h t r = (t, r)

pub front_word : (text word rest : List ℕ) (n : ℕ) → (length text == 0) ≡ false → is_word_byte (get_or text 0 0) ≡ true
    → n ≡ up_to (λ c. not (is_word_byte c)) (drop 1 text) → word ≡ take (n + 1) text → rest ≡ drop n (drop 1 text)
    → IsFrontOf text (Some (tokens.word word)) rest
unfolding piece_at
front_word [] word rest n h w e t r = absurd (false≢true (sym h))
front_word (b ∷ bs) word rest n h w e t r =
    rw w (ap (λ x. Some (tokens.word x)) (t ∙ ap (λ m. take m (b ∷ bs)) (add-one n) ∙ ap (λ m. b ∷ take m bs) e), r ∙ ap (λ m. drop m bs) e)

pub letters_behind : (first : ℕ) (bs text rest : List ℕ) → is_word_byte first ≡ false → (first ≡ 34 → ⊥) → first ≡ 39 → begins_with 98 bs ≡ true
    → text ≡ drop 1 bs → rest ≡ drop (up_to (λ c. not (is_letter c)) text) text → rest ≡ drop (piece_at first bs).more bs
unfolding piece_at
letters_behind first [] text rest w q l b t r = absurd (false≢true b)
letters_behind first (c ∷ bs) text rest w q l b t r =
    let quote : (first == 34) ≡ false = ne_eqb first 34 q in
    let tick : (first == 39) ≡ true = eq-eqb first 39 l in
    rw (w, quote, tick, b) (r ∙ ap (λ x. drop (up_to (λ c. not (is_letter c)) x) x) t
    ∙ ap (λ n. drop n (c ∷ bs)) (sym (add-one (up_to (λ c. not (is_letter c)) bs))))
