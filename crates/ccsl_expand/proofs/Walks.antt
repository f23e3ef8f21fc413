-- One step of a walk over a list: what stands so far, and what the rest adds, stays the whole.
use Rattle.std.proofs.Common.{◌≡◌, ℕ, zero, suc, ◌+◌, ◌<◌, ◌≤◌, List, [], ◌∷◌, ◌++◌, append_assoc, append-nil, length, length-append, drop, drop-cons, get_or}
use Rattle.std.proofs.Common.{add-one, map, flat_map, slice_get, Option, Some, None, refl, sym, ap, ◌∙◌, arith}
use Rattle.std.specs.List.{cons_option}
use Rattle.std.specs.Option.{option_to_list}
use Rattle.std.proofs.lemmas.List.{map-append}
use Rattle.std.proofs.lemmas.Option.{slice_get_past}
use Rattle.std.proofs.lemmas.Grind.{common_steps}
use Rattle.ccsl_ast.specs.declared.definition.Param.{Param}
use Rattle.ccsl_ast.specs.Trees.{SLine}
use Rattle.ccsl_rules.specs.Settings.{Atom, AClock, Setting}
use Rattle.ccsl_rules.specs.Unfolded.{inside, arguments, own_clocks}
use Rattle.ccsl_rules.specs.Spaces.{declares}
use Rattle.ccsl_expand.specs.Numbered.{bound}

pub drop-at : {X : Type 0} (xs : List X) (i : ℕ) (x : X) → i < length xs → x ≡ get_or xs i x → drop i xs ≡ x ∷ drop (i + 1) xs
drop-at xs i x h e = drop-cons xs i x h ∙ (ap (λ y. y ∷ drop (suc i) xs) (sym e) ∙ ap (λ n. x ∷ drop n xs) (sym (add-one i)))

-- what the member at the place adds to a count, and the rest
pub count-at : {X Y : Type 0} (f : X → List Y) (xs : List X) (i : ℕ) (x : X) → i < length xs → x ≡ get_or xs i x →
    length (flat_map f (drop i xs)) ≡ length (f x) + length (flat_map f (drop (i + 1) xs))
count-at f xs i x h e = ap (λ l. length (flat_map f l)) (drop-at xs i x h e) ∙ length-append (f x) (flat_map f (drop (i + 1) xs))

more-then : {X : Type 0} (so_far more rest added whole : List X) → so_far ≡ more ++ added → more ++ (added ++ rest) ≡ whole → so_far ++ rest ≡ whole
more-then so_far more rest added whole e h = ap (λ l. l ++ rest) e ∙ (append_assoc more added rest ∙ h)

-- one more member, of which the walk adds its part
pub walked : {X Y : Type 0} (w : List X → List Y) (part : List Y) (xs : List X) (i : ℕ) (x : X) → i < length xs → x ≡ get_or xs i x
    → w (x ∷ drop (i + 1) xs) ≡ part ++ w (drop (i + 1) xs) → (so_far more whole : List Y) → so_far ≡ more ++ part → more ++ w (drop i xs) ≡ whole
    → so_far ++ w (drop (i + 1) xs) ≡ whole
walked w part xs i x l is step so_far more whole e h =
    more-then so_far more (w (drop (i + 1) xs)) part whole e
    (ap (λ ys. more ++ ys) (sym step) ∙ (ap (λ ys. more ++ w ys) (sym (drop-at xs i x l is)) ∙ h))

-- the part of a member that may add one
pub one-kept : {Y : Type 0} (o : Option Y) (ys : List Y) → cons_option o ys ≡ option_to_list o ++ ys
one-kept None ys = refl
one-kept (Some y) ys = refl

pub one-mapped : {Y Z : Type 0} (g : Y → Z) (o : Option Y) (ys : List Y) → map g (cons_option o ys) ≡ map g (option_to_list o) ++ map g ys
one-mapped g None ys = refl
one-mapped g (Some y) ys = refl

-- one more line of a body
pub own_clocks-step : (path : List ℕ) (l : SLine) (ls : List SLine) (σ τ whole : Setting)
    → τ ≡ σ ++ map (λ x. (x.name, AClock (inside path x.name))) (declares l) →
    σ ++ own_clocks path (l ∷ ls) ≡ whole → τ ++ own_clocks path ls ≡ whole
own_clocks-step path l ls σ τ whole e h =
    more-then τ σ (own_clocks path ls) (map (λ x. (x.name, AClock (inside path x.name))) (declares l)) whole e
    (ap (λ k. σ ++ k) (sym (map-append (λ x. (x.name, AClock (inside path x.name))) (declares l) (flat_map declares ls))) ∙ h)

-- one more argument, for the parameter of its place
bound-then : (ps : List Param) (i : ℕ) (a : Atom) (as' : List Atom)
    → arguments (drop i ps) (a ∷ as') ≡ bound (slice_get ps i) a ++ arguments (drop (suc i) ps) as'
bound-then [] zero a as' = refl
bound-then [] (suc i) a as' = refl
bound-then (p ∷ ps) zero a as' = refl
bound-then (p ∷ ps) (suc i) a as' = bound-then ps i a as'

pub arguments-step : (ps : List Param) (i : ℕ) (a : Atom) (as' : List Atom) (σ τ whole : Setting) → τ ≡ σ ++ bound (slice_get ps i) a →
    σ ++ arguments (drop i ps) (a ∷ as') ≡ whole → τ ++ arguments (drop (i + 1) ps) as' ≡ whole
arguments-step ps i a as' σ τ whole e h =
    ap (λ n. τ ++ arguments (drop n ps) as') (add-one i)
    ∙ more-then τ σ (arguments (drop (suc i) ps) as') (bound (slice_get ps i) a) whole e (ap (λ k. σ ++ k) (sym (bound-then ps i a as')) ∙ h)

no-arguments : (ps : List Param) → arguments ps [] ≡ []
no-arguments [] = refl
no-arguments (p ∷ ps) = refl

pub nothing-more : (ps : List Param) (σ whole : Setting) → σ ++ arguments ps [] ≡ whole → σ ≡ whole
nothing-more ps σ whole h = sym (append-nil σ) ∙ (ap (λ k. σ ++ k) (sym (no-arguments ps)) ∙ h)

pub drop-past : {X : Type 0} (xs : List X) (i : ℕ) → length xs ≤ i → drop i xs ≡ []
drop-past xs i h = grind (arith, common_steps)

pub past-the-last : (ps : List Param) (i : ℕ) (a : Atom) (σ : Setting) → length ps ≤ i → σ ≡ σ ++ bound (slice_get ps i) a
past-the-last ps i a σ h = sym (ap (λ b. σ ++ bound b a) (slice_get_past ps i h) ∙ append-nil σ)
