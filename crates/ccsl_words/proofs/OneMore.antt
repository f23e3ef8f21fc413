-- One more letter at the front of a text.
use Rattle.std.proofs.Common.{◌≡◌, ℕ, ◌+◌, ◌<◌, List, [], ◌∷◌, ◌++◌, length, get_or, take, drop, Bool, false, sym, ap, ap₂, ◌∙◌}
use Rattle.std.proofs.lemmas.List.{take-append-drop, take_more, length_push, map_push}
use Rattle.ccsl_words.specs.Spelling.{digit, digits}
use Rattle.ccsl_words.specs.Front.{begins_with_letter, BeginsWith, HasLetters, LeadsWith}

pub begins_from_take : (text : List ℕ) (letters : List Bool) → take (length letters) text ≡ digits letters → BeginsWith text letters
begins_from_take text letters e = sym (take-append-drop (length letters) text) ∙ ap (λ (front : List ℕ). front ++ drop (length letters) text) e

-- no letter stands behind those that were read
pub leads_behind : (text : List ℕ) (letters : List Bool) (i : ℕ) → take i text ≡ digits letters → length letters ≡ i
    → begins_with_letter (drop i text) ≡ false → LeadsWith text letters
leads_behind text letters i read counted stop = record {
  begins = begins_from_take text letters (ap (λ n. take n text) counted ∙ read);
  stops = ap (λ n. begins_with_letter (drop n text)) counted ∙ stop;
}

pub front_more : (text : List ℕ) (letters : List Bool) (x : Bool) (i : ℕ) → take i text ≡ digits letters → i < length text → get_or text i 0 ≡ digit x
    → take (i + 1) text ≡ digits (letters ++ x ∷ [])
front_more text letters x i read within here =
    take_more text i 0 within
    ∙ ap₂ (λ (front : List ℕ) (b : ℕ). front ++ b ∷ []) read here
    ∙ sym (map_push digit letters x)

pub one_more : (text : List ℕ) (letters : List Bool) (x : Bool) (i : ℕ) → take i text ≡ digits letters → length letters ≡ i → i < length text
    → get_or text i 0 ≡ digit x → HasLetters text (i + 1)
one_more text letters x i read counted within here =
    let more = letters ++ x ∷ [] in
    let count : length more ≡ i + 1 = length_push letters x ∙ ap (λ n. n + 1) counted in
    let front : take (length more) text ≡ digits more = ap (λ n. take n text) count ∙ front_more text letters x i read within here in
    (more, count, begins_from_take text more front)
