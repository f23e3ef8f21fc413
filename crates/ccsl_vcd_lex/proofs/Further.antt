-- What bytes settle stays settled, whatever follows.
use Rattle.std.proofs.Common.{◌≡◌, ℕ, ◌<◌, List, [], ◌∷◌, ◌++◌, length, Bool, true, false, nat_lt, ◌||◌, cond, refl, sym, ap, ◌∙◌, append_assoc, arith}
use Rattle.std.proofs.Common.{length-append, filter, map, zero-add, ◌⊎◌, inl, inr}
use Rattle.std.proofs.lemmas.List.{map-append}
use Rattle.std.proofs.lemmas.Bool.{lt-ltb, ltb-true}
use Rattle.std.proofs.Math.Bool.{or-true}
use Rattle.ccsl_vcd_lex.specs.Tokens.{is_white, Token, token, end_of, run, tokens_from, tokens, settled, heard, Heard, hear, too_long, is_long}
use Rattle.ccsl_vcd_lex.specs.Runs.{fresh_after}
use Rattle.ccsl_vcd_lex.specs.Lexing.{Dark}
use Rattle.ccsl_vcd_lex.proofs.Cuts.{one, tokens-cut, closed-parts, closed-before, one-token-more}
use Rattle.ccsl_vcd_lex.proofs.Told.{long-word}

-- bytes are those up to the last place where a token may begin, and a run
pub record Split (f : Bool) (p : List ℕ) : Type 0 where
  pub before : List ℕ
  pub text : List ℕ
  pub whole : p ≡ before ++ text
  pub fresh : fresh_after f before ≡ true
  pub dark : Dark text

split-from : (f : Bool) (p : List ℕ) → Split f p ⊎ ((f ≡ false) × Dark p)
unfolding fresh_after
split-from true [] = inl (record { before = []; text = []; whole = refl; fresh = refl; dark = tt })
split-from false [] = inr (refl, tt)
split-from f (b ∷ p) = on f (split-from (is_white b) p)
  where
    on : (g : Bool) → Split (is_white b) p ⊎ ((is_white b ≡ false) × Dark p) → Split g (b ∷ p) ⊎ ((g ≡ false) × Dark (b ∷ p))
    on g (inl s) = inl (record { before = b ∷ s.before; text = s.text; whole = ap (λ (xs : List ℕ). b ∷ xs) s.whole; fresh = s.fresh; dark = s.dark })
    on true (inr d) = inl (record { before = []; text = b ∷ p; whole = refl; fresh = refl; dark = d })
    on false (inr d) = inr (refl, d)

pub split : (p : List ℕ) → Split true p
split p = pick (split-from true p)
  where
    pick : Split true p ⊎ ((true ≡ false) × Dark p) → Split true p
    pick (inl s) = s
    pick (inr d) = absurd (let e : true ≡ false = d.0 in cc)

-- what is said of the tokens before a place where one may begin, and then of the others
pub heard-split : (before x : List ℕ) → fresh_after true before ≡ true
    → heard (before ++ x) ≡ map hear (tokens before) ++ map hear (tokens_from true (length before) x)
heard-split before x h =
    ap (map hear) (tokens-cut true 0 before x h ∙ ap (λ (k : ℕ). tokens before ++ tokens_from true k x) (zero-add (length before)))
    ∙ map-append hear (tokens before) (tokens_from true (length before) x)

settled-split : (before x : List ℕ) → fresh_after true before ≡ true
    → settled (before ++ x) ≡ map hear (tokens before)
    ++ map hear (filter (λ t. nat_lt (end_of t) (length (before ++ x)) || is_long t) (tokens_from true (length before) x))
settled-split before x h = ap (map hear) (closed-before before x h) ∙ map-append hear (tokens before) _

-- a run that goes on
run-heard : (at : ℕ) (text c : List ℕ) → Dark text
    → (rest : List Heard) × (map hear (tokens_from true at (text ++ c)) ≡ map hear (filter is_long (one at text)) ++ rest)
run-heard at [] c d = (map hear (tokens_from true at c), refl)
run-heard at (b ∷ xs) c d =
    let t = one-token-more at b xs c d in
    (elim (nat_lt 65536 (length (b ∷ xs))) as (λ w. nat_lt 65536 (length (b ∷ xs)) ≡ w
    → (rest : List Heard) × (map hear (tokens_from true at ((b ∷ xs) ++ c)) ≡ map hear (cond w (token at (b ∷ xs) ∷ []) []) ++ rest)) [
      | true ↦ λ e. (map hear t.0, ap (map hear) t.1 ∙ rw (long-more at (b ∷ xs) (run c) e, long-is at (b ∷ xs) e) refl)
      | false ↦ λ e. (map hear (tokens_from true at ((b ∷ xs) ++ c)), refl)
    ]) refl
  where
    long-is : (at : ℕ) (text : List ℕ) → nat_lt 65536 (length text) ≡ true → hear (token at text) ≡ too_long at
    long-is at text e = rw e refl

    long-more : (at : ℕ) (text more : List ℕ) → nat_lt 65536 (length text) ≡ true → hear (token at (text ++ more)) ≡ too_long at
    long-more at text more e =
        let l : 65536 < length text = ltb-true 65536 (length text) e in
        long-word at (text ++ more) (omega (arith, length-append text more, l))

-- what bytes settle comes first in what is said of a whole file that begins with them
pub heard-further : (p c : List ℕ) → (rest : List Heard) × (heard (p ++ c) ≡ settled p ++ rest)
heard-further p c =
    let s = split p in
    let r = run-heard (length s.before) s.text c s.dark in (
      r.0,
      ap (λ (xs : List ℕ). heard (xs ++ c)) s.whole ∙ ap heard (append_assoc s.before s.text c) ∙ heard-split s.before (s.text ++ c) s.fresh
          ∙ ap (λ (hs : List Heard). map hear (tokens s.before) ++ hs) r.1
          ∙ sym (append_assoc (map hear (tokens s.before)) (map hear (filter is_long (one (length s.before) s.text))) r.0)
          ∙ ap (λ (hs : List Heard). hs ++ r.0)
          (sym (ap settled s.whole ∙ ap (map hear) (closed-parts s.before s.text _ s.fresh s.dark refl) ∙ map-append hear (tokens s.before) _)),
    )

-- a token that is too long passes the test
kept-long : (n : ℕ) (t : Token) (ts : List Token) → is_long t ≡ true
    → filter (λ u. nat_lt (end_of u) n || is_long u) (t ∷ ts) ≡ t ∷ filter (λ u. nat_lt (end_of u) n || is_long u) ts
kept-long n t ts e = rw (e, or-true (nat_lt (end_of t) n)) refl

run-settled : (n at : ℕ) (text c : List ℕ) → Dark text
    → (rest : List Heard) × (map hear (filter (λ t. nat_lt (end_of t) n || is_long t) (tokens_from true at (text ++ c))) ≡ map hear
    (filter is_long (one at text)) ++ rest)
run-settled n at [] c d = (map hear (filter (λ t. nat_lt (end_of t) n || is_long t) (tokens_from true at c)), refl)
run-settled n at (b ∷ xs) c d =
    let t = one-token-more at b xs c d in
    let Q : Token → Bool = λ t. nat_lt (end_of t) n || is_long t in
    (elim (nat_lt 65536 (length (b ∷ xs))) as (λ w. nat_lt 65536 (length (b ∷ xs)) ≡ w
    → (rest : List Heard) × (map hear (filter Q (tokens_from true at ((b ∷ xs) ++ c))) ≡ map hear (cond w (token at (b ∷ xs) ∷ []) []) ++ rest)) [
      | true ↦ λ e.
          let l : 65536 < length (b ∷ xs) = ltb-true 65536 (length (b ∷ xs)) e in
          let m : 65536 < length ((b ∷ xs) ++ run c) = omega (arith, length-append (b ∷ xs) (run c), l) in (
            map hear (filter Q t.0),
            ap (λ (ts : List Token). map hear (filter Q ts)) t.1 ∙ ap (map hear) (kept-long n (token at ((b ∷ xs) ++ run c)) t.0 (lt-ltb 65536 _ m))
                ∙ ap (λ (h : Heard). h ∷ map hear (filter Q t.0)) (long-word at ((b ∷ xs) ++ run c) m ∙ sym (long-word at (b ∷ xs) l)),
          )
      | false ↦ λ e. (map hear (filter Q (tokens_from true at ((b ∷ xs) ++ c))), refl)
    ]) refl

-- what bytes settle comes first in what more bytes settle
pub settled-further : (p c : List ℕ) → (rest : List Heard) × (settled (p ++ c) ≡ settled p ++ rest)
settled-further p c =
    let s = split p in
    let n : ℕ = length (s.before ++ (s.text ++ c)) in
    let r = run-settled n (length s.before) s.text c s.dark in (
      r.0,
      ap (λ (xs : List ℕ). settled (xs ++ c)) s.whole ∙ ap settled (append_assoc s.before s.text c) ∙ settled-split s.before (s.text ++ c) s.fresh
          ∙ ap (λ (hs : List Heard). map hear (tokens s.before) ++ hs) r.1
          ∙ sym (append_assoc (map hear (tokens s.before)) (map hear (filter is_long (one (length s.before) s.text))) r.0)
          ∙ ap (λ (hs : List Heard). hs ++ r.0)
          (sym (ap settled s.whole ∙ ap (map hear) (closed-parts s.before s.text _ s.fresh s.dark refl) ∙ map-append hear (tokens s.before) _)),
    )
