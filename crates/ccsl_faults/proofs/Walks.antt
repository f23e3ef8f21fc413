-- One step of a walk over a list.
use Rattle.std.proofs.Common.{◌≡◌, ℕ, suc, ◌+◌, ◌<◌, List, [], ◌∷◌, ◌++◌, Option, zip, ◌⊎◌, inl, inr, refl, arith, drop, drop-cons, length, flat_map, get_or}
use Rattle.std.proofs.Common.{add-one, sym, ap, ◌∙◌}
use Rattle.ccsl_rules.specs.Faults.{Fault, least, earlier}
use Rattle.ccsl_faults.proofs.Least.{least-step, earlier-none}

pub drop-at : {X : Type 0} (xs : List X) {i : ℕ} {x : X} → i < length xs → x ≡ get_or xs i x → drop i xs ≡ x ∷ drop (i + 1) xs
drop-at xs {i} {x} h e = drop-cons xs i x h ∙ (ap (λ y. y ∷ drop (suc i) xs) (sym e) ∙ ap (λ n. x ∷ drop n xs) (sym (add-one i)))

-- the worst so far, that of the next member, and the least of the rest; `rest i` are the faults of a list from number i on, `here i` those of its first member
pub walk-step : {X : Type 0} (rest : ℕ → List X → List Fault) (here : ℕ → X → List Fault)
    → ((i : ℕ) (x : X) (xs : List X) → rest i (x ∷ xs) ≡ here i x ++ rest (i + 1) xs) →
    (xs : List X) (worst : Option Fault) {i : ℕ} {x : X} {found next all : Option Fault} → i < length xs → x ≡ get_or xs i x →
    next ≡ earlier worst found → found ≡ least (here i x) → earlier worst (least (rest i (drop i xs))) ≡ all →
    earlier next (least (rest (i + 1) (drop (i + 1) xs))) ≡ all
walk-step rest here cons xs worst {i} {x} {found} h at n e so_far =
    ap (λ w. earlier w (least (rest (i + 1) (drop (i + 1) xs)))) n
    ∙ least-step worst found (here i x) (rest (i + 1) (drop (i + 1) xs)) e
    (sym (ap (λ l. earlier worst (least l)) (ap (rest i) (drop-at xs h at) ∙ cons i x (drop (i + 1) xs))) ∙ so_far)

-- the same over two lists member by member, as far as both go
pub zip-step : {X Y : Type 0} (g : X × Y → List Fault)
    (worst : Option Fault) {x : X} {y : Y} {xs xs' : List X} {ys ys' : List Y} {found next all : Option Fault} →
    xs ≡ x ∷ xs' → ys ≡ y ∷ ys' → next ≡ earlier worst found → found ≡ least (g (x, y)) → earlier worst (least (flat_map g (zip xs ys))) ≡ all →
    earlier next (least (flat_map g (zip xs' ys'))) ≡ all
zip-step g worst {x} {y} {xs} {xs'} {ys} {ys'} {found} a b n e so_far =
    ap (λ w. earlier w (least (flat_map g (zip xs' ys')))) n
    ∙ least-step worst found (g (x, y)) (flat_map g (zip xs' ys')) e
    (sym (ap (λ l. earlier worst (least (flat_map g (zip l ys)))) a ∙ ap (λ l. earlier worst (least (flat_map g (zip (x ∷ xs') l)))) b) ∙ so_far)

zip-none : {X Y : Type 0} (xs : List X) (ys : List Y) → (length xs ≡ 0) ⊎ (length ys ≡ 0) → zip xs ys ≡ []
zip-none [] ys h = refl
zip-none (x ∷ xs) [] h = refl
zip-none (x ∷ xs) (y ∷ ys) (inl e) = absurd (omega arith)
zip-none (x ∷ xs) (y ∷ ys) (inr e) = absurd (omega arith)

-- the end of such a walk
pub zip-end : {X Y : Type 0} (g : X × Y → List Fault) (worst : Option Fault) (xs : List X) (ys : List Y) {all : Option Fault}
    → (length xs ≡ 0) ⊎ (length ys ≡ 0) →
    earlier worst (least (flat_map g (zip xs ys))) ≡ all → worst ≡ all
zip-end g worst xs ys h so_far = sym (ap (λ l. earlier worst (least (flat_map g l))) (zip-none xs ys h) ∙ earlier-none worst) ∙ so_far
