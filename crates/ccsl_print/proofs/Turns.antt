-- A turn of a loop that writes what each member of a list has.
use Rattle.std.proofs.Common.{◌≡◌, ℕ, ◌+◌, ◌<◌, List, [], ◌∷◌, ◌++◌, length, get_or, take, map, sym, ap, ◌∙◌}
use Rattle.std.specs.List.{flat_map, between}
use Rattle.std.proofs.lemmas.Slice.{first_rest}
use Rattle.std.proofs.lemmas.List.{append-nil, take_more}
use Rattle.std.proofs.lemmas.List.Folds.{flat_map-map}
use Rattle.std.proofs.lemmas.Grind.{flat_map-append}
use Rattle.ccsl_ast.specs.declared.definition.Member.{Member}
use Rattle.ccsl_ast.specs.Plain.{plain_member}
use Rattle.ccsl_grammar.specs.Terminals.{Terminal}
use Rattle.ccsl_grammar.specs.Grammar.{further_spelled, list_spelled}
use Rattle.ccsl_grammar.specs.Canonical.{TextLine, member_tokens, members_tokens, further_tokens}
use Rattle.ccsl_print.specs.Pages.{PlainPage, after, lines_after}
use Rattle.ccsl_print.proofs.Steps.{after_append, lines_append}

-- what one more has stands behind what those before it have
more : {A B : Type 0} (f : A → List B) (xs : List A) (i : ℕ) (x : A) → i < length xs → x ≡ get_or xs i x
    → flat_map f (take (i + 1) xs) ≡ flat_map f (take i xs) ++ f x
more f xs i x h e =
    ap (flat_map f) (take_more xs i x h)
    ∙ flat_map-append f (take i xs) (get_or xs i x ∷ [])
    ∙ ap (λ z. flat_map f (take i xs) ++ z) (append-nil (f (get_or xs i x)) ∙ ap f (sym e))

pub turn : {A : Type 0} (f : A → List Terminal) (p q r : PlainPage) (xs : List A) (i : ℕ) (x : A) → i < length xs → x ≡ get_or xs i x
    → q ≡ after p (flat_map f (take i xs)) → r ≡ after q (f x) → r ≡ after p (flat_map f (take (i + 1) xs))
turn f p q r xs i x h e before this =
    this ∙ ap (λ z. after z (f x)) before ∙ sym (after_append p (flat_map f (take i xs)) (f x)) ∙ ap (after p) (sym (more f xs i x h e))

pub mapped_turn : {A B : Type 0} (f : B → List Terminal) (g : A → B) (p q r : PlainPage) (xs : List A) (i : ℕ) (x : A) → i < length xs → x ≡ get_or xs i x
    → q ≡ after p (flat_map f (map g (take i xs))) → r ≡ after q (f (g x)) → r ≡ after p (flat_map f (map g (take (i + 1) xs)))
mapped_turn f g p q r xs i x h e before this =
    turn (λ y. f (g y)) p q r xs i x h e (before ∙ ap (after p) (flat_map-map f g (take i xs))) this ∙ ap (after p) (sym (flat_map-map f g (take (i + 1) xs)))

pub lines_turn : {A : Type 0} (f : A → List TextLine) (p q r : PlainPage) (xs : List A) (i : ℕ) (x : A) → i < length xs → x ≡ get_or xs i x
    → q ≡ lines_after p (flat_map f (take i xs)) → r ≡ lines_after q (f x) → r ≡ lines_after p (flat_map f (take (i + 1) xs))
lines_turn f p q r xs i x h e before this =
    this ∙ ap (λ z. lines_after z (f x)) before ∙ sym (lines_append p (flat_map f (take i xs)) (f x)) ∙ ap (lines_after p) (sym (more f xs i x h e))

-- a list, whose first member is written apart
pub led : {A : Type 0} (f : A → List Terminal) (p q : PlainPage) (xs : List A) (x : A) → 0 < length xs → x ≡ get_or xs 0 x
    → q ≡ after p (f x) → after p (list_spelled f xs) ≡ after q (flat_map (further_spelled f) (between 1 (length xs) xs))
led f p q xs x h e first =
    let rest = flat_map (further_spelled f) (between 1 (length xs) xs) in
    ap (λ z. after p (list_spelled f z)) (first_rest xs x h)
    ∙ after_append p (f (get_or xs 0 x)) rest
    ∙ ap (λ z. after z rest) (ap (λ y. after p (f y)) (sym e) ∙ sym first)

pub led_members : (p q : PlainPage) (xs : List Member) (x : Member) → 0 < length xs → x ≡ get_or xs 0 x
    → q ≡ after p (member_tokens (plain_member x))
    → after p (members_tokens (map plain_member xs)) ≡ after q (flat_map further_tokens (map plain_member (between 1 (length xs) xs)))
led_members p q xs x h e first =
    let rest = flat_map further_tokens (map plain_member (between 1 (length xs) xs)) in
    ap (λ z. after p (members_tokens (map plain_member z))) (first_rest xs x h)
    ∙ after_append p (member_tokens (plain_member (get_or xs 0 x))) rest
    ∙ ap (λ z. after z rest) (ap (λ y. after p (member_tokens (plain_member y))) (sym e) ∙ sym first)
