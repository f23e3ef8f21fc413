-- The last opening bracket of a text.
use Rattle.std.proofs.Common.{◌≡◌, ℕ, suc, ◌+◌, ◌<◌, ◌≤◌, List, [], ◌∷◌, ◌++◌, length, take, drop, get_or, Bool, true, false, Option, Some, None, IfSome, ◌==◌}
use Rattle.std.proofs.Common.{if◌then◌else◌, nat_lt, length-append, refl, sym, ap, subst, ◌∙◌, arith}
use Rattle.std.proofs.lemmas.Bool.Decides.{nat_tests}
use Rattle.std.proofs.Math.Seq.{take-suc, length-take-le, take_all}
use Rattle.ccsl_scopes.specs.declared.select.Select.{Select}
use Rattle.ccsl_scopes.specs.References.{behind_first, last_bracket, whole, ending, is_escaped, named, selected, reference_of}

one-more : (n : ℕ) → n + 1 ≡ suc n
one-more n = omega arith

-- the last bracket of a text with one byte more, at a place
abbrev pub put_bracket : Bool → ℕ → Option ℕ → Option ℕ
put_bracket true i before = Some i
put_bracket false i before = before

behind-put : (here new : Bool) (i : ℕ) (before : Option ℕ) → behind_first here (put_bracket new i before) ≡ put_bracket new (i + 1) (behind_first here before)
behind-put here true i before = refl
behind-put here false i before = refl

last-snoc : (xs : List ℕ) (b : ℕ) → last_bracket (xs ++ b ∷ []) ≡ put_bracket (b == 91) (length xs) (last_bracket xs)
last-snoc [] b = by (b == 91)
  where
    by : (here : Bool) → behind_first here None ≡ put_bracket here 0 None
    by true = refl
    by false = refl
last-snoc (x ∷ xs) b = ap (behind_first (x == 91)) (last-snoc xs b) ∙ behind-put (x == 91) (b == 91) (length xs) (last_bracket xs)
    ∙ ap (λ n. put_bracket (b == 91) n (behind_first (x == 91) (last_bracket xs))) (one-more (length xs))

pub last-more : (text : List ℕ) (i : ℕ) → i < length text →
    last_bracket (take (i + 1) text) ≡ put_bracket (get_or text i 0 == 91) i (last_bracket (take i text))
last-more text i l =
    ap (λ n. last_bracket (take n text)) (one-more i) ∙ ap last_bracket (take-suc text i 0 l) ∙ last-snoc (take i text) (get_or text i 0)
    ∙ ap (λ n. put_bracket (get_or text i 0 == 91) n (last_bracket (take i text))) (length-take-le i text (omega (arith, l)))

pub last-here : (text : List ℕ) (i : ℕ) (found : Option ℕ) → i < length text → get_or text i 0 ≡ 91 → found ≡ Some i →
    found ≡ last_bracket (take (i + 1) text)
last-here text i found l e f = f ∙ sym (last-more text i l ∙ ap (λ b. put_bracket (b == 91) i (last_bracket (take i text))) e)

other-byte : (a b : ℕ) → (a ≡ b → ⊥) → (a == b) ≡ false
other-byte a b ne = grind (arith, nat_tests)

pub last-before : (text : List ℕ) (i : ℕ) (before found : Option ℕ) → i < length text → (get_or text i 0 ≡ 91 → ⊥) → before ≡ last_bracket (take i text) →
    found ≡ before →
    found ≡ last_bracket (take (i + 1) text)
last-before text i before found l ne b f =
    f ∙ b ∙ sym (last-more text i l ∙ ap (λ w. put_bracket w i (last_bracket (take i text))) (other-byte (get_or text i 0) 91 ne))

behind-within : (here : Bool) (o : Option ℕ) (n : ℕ) → IfSome o (λ at. at < n) → IfSome (behind_first here o) (λ at. at < n + 1)
behind-within here (Some i) n l = omega (arith, l)
behind-within true None n l = omega arith
behind-within false None n l = tt

pub last-within : (text : List ℕ) → IfSome (last_bracket text) (λ at. at < length text)
last-within [] = tt
last-within (b ∷ bs) =
    subst (λ n. IfSome (behind_first (b == 91) (last_bracket bs)) (λ at. at < n)) (one-more (length bs))
    (behind-within (b == 91) (last_bracket bs) (length bs) (last-within bs))

pub last-whole : (text : List ℕ) (i : ℕ) → length text ≤ i → last_bracket (take i text) ≡ last_bracket text
last-whole text i l = ap last_bracket (take_all i text l)

-- The name of a reference is no longer than the reference.

ending-within : (text : List ℕ) (at : ℕ) (o : Option Select) → at ≤ length text → (ending text at o).bare ≤ length text
ending-within text at None l = omega arith
ending-within text at (Some range) l = l

named-within : (text : List ℕ) (o : Option ℕ) → IfSome o (λ at. at < length text) → (named text o).bare ≤ length text
named-within text None l = omega arith
named-within text (Some at) l = by (nat_lt 0 at)
  where
    by : (b : Bool) → (if b then ending text at (selected (drop at text)) else whole text).bare ≤ length text
    by true = ending-within text at (selected (drop at text)) (omega (arith, l))
    by false = omega arith

pub bare-within : (first more : List ℕ) → (reference_of first more).bare ≤ length first + length more
bare-within first more = by (nat_lt 0 (length more))
  where
    both : length (first ++ more) ≡ length first + length more
    both = length-append first more

    single : (b : Bool) → (if b then whole first else named first (last_bracket first)).bare ≤ length first + length more
    single true = omega arith
    single false = omega (arith, named-within first (last_bracket first) (last-within first))

    by : (b : Bool) → (if b then ending (first ++ more) (length first) (selected more)
        else (if is_escaped first then whole first else named first (last_bracket first))).bare ≤ length first + length more
    by true = omega (arith, both, ending-within (first ++ more) (length first) (selected more) (omega (arith, both)))
    by false = single (is_escaped first)
