-- Parts of a piece: white space at its front, and a run behind it.
use Rattle.std.proofs.Common.{◌≡◌, ℕ, ◌+◌, ◌-◌, ◌<◌, ◌≤◌, Bool, true, false, cond, List, [], ◌∷◌, ◌++◌, length, take, drop, get_or, refl, sym, ap, ◌∙◌, arith}
use Rattle.std.proofs.Common.{subst, inl, inr, one-add}
use Rattle.std.specs.List.{AllByRecursion, prefix_len, slice_range}
use Rattle.std.proofs.Math.Seq.{take-add}
use Rattle.std.proofs.lemmas.Bool.{not-true, not-false, cases_eq}
use Rattle.std.proofs.lemmas.List.{take_at, drop_at, take-append-le, take-take, length-take-le, length-drop, get_or-drop}
use Rattle.std.proofs.lemmas.List.Sums.{prefix_len-le-length, prefix_len_stops}
use Rattle.std.proofs.lemmas.Simd.{put_chunk_is, length-chunk}
use lib.Lanes.{chunk, put_chunk}
use Rattle.ccsl_vcd_lex.specs.Tokens.{is_white}
use Rattle.ccsl_vcd_lex.specs.Lexing.{Dark, is_dark}
use Rattle.ccsl_vcd_lex.proofs.Cuts.{White}

-- a vector is stored, and the first n of its bytes are looked at
pub stored : (at n start : ℕ) (to piece : List ℕ) → n ≤ 16 → start + 16 ≤ length piece → at + 16 ≤ length to
    → take (at + n) (put_chunk at to (chunk start 16 piece)) ≡ take at to ++ take n (drop start piece)
stored at n start to piece short room space =
    let v = chunk start 16 piece in
    let long : length v ≡ 16 = length-chunk start 16 piece room in
    let front : length (take at to) ≡ at = length-take-le at to (omega arith) in
    let back = v ++ drop (length v) (drop at to) in
    ap (take (at + n)) (put_chunk_is at to v (omega (arith, long)))
    ∙ take-add at n (take at to ++ back)
    ∙ ap (λ (xs : List ℕ). xs ++ take n (drop at (take at to ++ back))) (take_at (take at to) back at front)
    ∙ ap (λ (xs : List ℕ). take at to ++ take n xs) (drop_at (take at to) back at front)
    ∙ ap (λ (xs : List ℕ). take at to ++ xs) (take-append-le n v _ (omega (arith, long)) ∙ take-take n 16 (drop start piece) short)

passing : (q : ℕ → Bool) (P : ℕ → Type 0) → ((b : ℕ) → q b ≡ true → P b) → (xs : List ℕ) → AllByRecursion P (take (prefix_len q xs) xs)
passing q P each [] = tt
passing q P each (x ∷ xs) =
    (elim (q x) as (λ w. q x ≡ w → AllByRecursion P (take (cond w (1 + prefix_len q xs) 0) (x ∷ xs))) [
      | true ↦ λ e. subst (λ (k : ℕ). AllByRecursion P (take k (x ∷ xs))) (sym (one-add (prefix_len q xs))) (each x e, passing q P each xs)
      | false ↦ λ _. tt
    ]) refl

-- white space up to a place, where no token is open, and the run from there up to another place
pub record Cut (open_text piece : List ℕ) (start end : ℕ) : Type 0 where
  pub ordered : start ≤ end
  pub within : end ≤ length piece
  pub white : White (take start piece)
  pub only_blank : 0 < start → open_text ≡ []
  pub dark : Dark (slice_range piece start end)
  pub stops : end < length piece → is_white (get_or piece end 0) ≡ true
  pub some : end < length piece → 0 < length open_text + (end - start)

front-white : (open_text piece : List ℕ) (start : ℕ) → (0 < length open_text → start ≡ 0) → (open_text ≡ [] → start ≡ prefix_len is_white piece)
    → White (take start piece)
front-white [] piece start some none = subst (λ (k : ℕ). White (take k piece)) (sym (none refl)) (passing is_white (λ b. is_white b ≡ true) (λ b h. h) piece)
front-white (x ∷ xs) piece start some none = subst (λ (k : ℕ). White (take k piece)) (sym (some (omega arith))) tt

front-blank : (open_text : List ℕ) (start : ℕ) → (0 < length open_text → start ≡ 0) → 0 < start → open_text ≡ []
front-blank [] start some h = refl
front-blank (x ∷ xs) start some h = absurd (omega (arith, some (omega arith)))

run-some : (open_text piece : List ℕ) (start end : ℕ) → (open_text ≡ [] → start ≡ prefix_len is_white piece) → start ≤ end
    → is_white (get_or piece end 0) ≡ true → end < length piece → 0 < length open_text + (end - start)
run-some (x ∷ xs) piece start end none le w l = omega arith
run-some [] piece start end none le w l =
    elim (cases_eq start end) [
      | inl e ↦
          let at : prefix_len is_white piece ≡ end = sym (none refl) ∙ e in
          let dark : is_white (get_or piece end 0) ≡ false =
          ap (λ (k : ℕ). is_white (get_or piece k 0)) (sym at) ∙ prefix_len_stops is_white piece 0 (omega (arith, at)) in
          absurd (let no : true ≡ false = sym w ∙ dark in cc)
      | inr ne ↦ omega arith
    ]

pub cut : (open_text piece : List ℕ) (start end : ℕ) → start ≤ length piece → (0 < length open_text → start ≡ 0)
    → (open_text ≡ [] → start ≡ prefix_len is_white piece) → end ≡ start + prefix_len is_dark (drop start piece) → Cut open_text piece start end
cut open_text piece start end le some none e =
    let rest = drop start piece in
    let len : length rest ≡ length piece - start = length-drop start piece in
    let within : end ≤ length piece = omega (arith, prefix_len-le-length is_dark rest, len) in
    let run : prefix_len is_dark rest ≡ end - start = omega arith in
    let stops : end < length piece → is_white (get_or piece end 0) ≡ true =
    λ l. ap (λ (k : ℕ). is_white (get_or piece k 0)) e ∙ ap is_white (sym (get_or-drop start piece (prefix_len is_dark rest) 0))
    ∙ not-false _ (prefix_len_stops is_dark rest 0 (omega (arith, run, len))) in
    record {
      ordered = omega arith;
      within = within;
      white = front-white open_text piece start some none;
      only_blank = front-blank open_text start some;
      dark = subst (λ (k : ℕ). Dark (take k rest)) run (passing is_dark (λ b. is_white b ≡ false) (λ b h. not-true _ h) rest);
      stops = stops;
      some = λ l. run-some open_text piece start end none (omega arith) (stops l) l;
    }
