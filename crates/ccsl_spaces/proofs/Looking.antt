-- The first declaration of a name stands at the first place of its name.
use Rattle.std.proofs.Common.{◌≡◌, ℕ, suc, zero, arith, List, [], ◌∷◌, map, bytes_eq, Bool, true, false, cond, Option, Some, None, is_none, Bor, slice_get}
use Rattle.std.proofs.Common.{get_or, length, take, nat_lt, ◌||◌, ◌<◌, ◌++◌, if◌then◌else◌, refl, sym, ap, ◌∙◌}
use Rattle.std.specs.Option.{option_map}
use Rattle.std.proofs.lemmas.Bool.Decides.{nat_tests}
use Rattle.std.proofs.lemmas.List as seq
use Rattle.std.proofs.lemmas.List.{length-map, map-append}
use Rattle.std.proofs.Math.ListN.{get_or-map}
use Rattle.std.proofs.lemmas.List.Quantifiers.{position-Some}
use Rattle.std.proofs.lemmas.Option.{slice_get-get_or}
use Rattle.ccsl_base.specs.Names.{find_name}
use Rattle.ccsl_rules.specs.Spaces.{Known, look}
use Rattle.ccsl_base.specs.Names.{is_among}
use Rattle.ccsl_spaces.specs.declared.declaration.Declaration.{Declaration}
use Rattle.ccsl_spaces.specs.Knowns.{known, names, name_at}
use Rattle.ccsl_spaces.specs.Places.{place_of, HasFirsts}
use Rattle.ccsl_spaces.proofs.Places.{position-cons, first-added, first-kept}
use Rattle.ccsl_base.proofs.Tables.{bytes_eq-comm}

-- a declaration, where what it stands for is seen otherwise
abbrev pub seen_by : {A B : Type 0} → (A → B) → Known A → Known B
seen_by f k = record { name = k.name; since = k.since; what = f k.what }

-- the text of a declaration's name
abbrev pub text : {T : Type 0} → Declaration T → List ℕ
text d = d.name.now.name

-- what stands at a place, if there is one
abbrev at : {A : Type 0} → List A → Option ℕ → Option A
at xs None = None
at xs (Some i) = slice_get xs i

at-later : {A : Type 0} (x : A) (xs : List A) (o : Option ℕ) → at xs o ≡ at (x ∷ xs) (option_map suc o)
at-later x xs None = refl
at-later x xs (Some i) = refl

pub look-place : {T : Type 0} (ds : List (Declaration T)) (name : List ℕ) → look name (map known ds) ≡ at (map known ds) (find_name name (map text ds))
look-place [] name = refl
look-place (d ∷ ds) name =
    ap (λ b. cond b (Some (known d)) (look name (map known ds))) (bytes_eq-comm (text d) name)
    ∙ by (bytes_eq name (text d)) (look-place ds name) ∙ ap (at (known d ∷ map known ds)) (sym (position-cons (bytes_eq name) (text d) (map text ds)))
  where
    by : (b : Bool) → look name (map known ds) ≡ at (map known ds) (find_name name (map text ds)) →
        cond b (Some (known d)) (look name (map known ds)) ≡ at (known d ∷ map known ds) (cond b (Some 0) (option_map suc (find_name name (map text ds))))
    by true e = refl
    by false e = e ∙ at-later (known d) (map known ds) (find_name name (map text ds))

-- a name without a place is not declared
pub look-none : {T : Type 0} (ds : List (Declaration T)) (name : List ℕ) → find_name name (map text ds) ≡ None → look name (map known ds) ≡ None
look-none ds name e = look-place ds name ∙ ap (at (map known ds)) e

-- a name with a place is what is declared there
pub look-some : {T : Type 0} (ds : List (Declaration T)) (name : List ℕ) (i : ℕ) (d : Declaration T) → find_name name (map text ds) ≡ Some i → d ≡ get_or ds i d
    → look name (map known ds) ≡ Some (known d)
look-some ds name i d e is =
    let within : i < length ds = rw (← length-map ds text) (position-Some (bytes_eq name) (map text ds) i [] e).0 in
    look-place ds name ∙ ap (at (map known ds)) e ∙ slice_get-get_or (map known ds) i (known d) (rw (length-map ds known) within)
    ∙ ap (λ x. Some x) (get_or-map known ds i d) ∙ ap (λ x. Some (known x)) (sym is)

is-there : {A : Type 0} (xs : List A) (i : ℕ) → i < length xs → false ≡ is_none (slice_get xs i)
is-there [] i h = absurd (omega arith)
is-there (x ∷ xs) zero h = refl
is-there (x ∷ xs) (suc i) h = is-there xs i (omega arith)

-- a name is new where it has no place
pub look-fresh : {T : Type 0} (ds : List (Declaration T)) (name : List ℕ) → is_none (find_name name (map text ds)) ≡ is_none (look name (map known ds))
look-fresh ds name = by (find_name name (map text ds)) refl where
  by : (o : Option ℕ) → find_name name (map text ds) ≡ o → is_none o ≡ is_none (look name (map known ds))
  by None e = sym (ap is_none (look-none ds name e))
  by (Some i) e =
      let within : i < length (map known ds) = rw (length-map ds known, ← length-map ds text) (position-Some (bytes_eq name) (map text ds) i [] e).0 in
      is-there (map known ds) i within ∙ sym (ap is_none (look-place ds name ∙ ap (at (map known ds)) e))

-- the first places, after a declaration was added
pub has-added : {T : Type 0} (ds es : List (Declaration T)) (d : Declaration T) (first new : List (List ℕ × ℕ)) (fresh : Bool) (name : List ℕ) (place : ℕ) →
    name ≡ text d → place ≡ length ds → fresh ≡ is_none (place_of name first) →
    new ≡ (if fresh then first ++ (name, place) ∷ [] else first) → es ≡ ds ++ d ∷ [] → HasFirsts first (map text ds) → HasFirsts new (map text es)
has-added ds es d first new fresh name place n p f e is has =
    rw (is, map-append text ds (d ∷ []))
    (by fresh (place_of (text d) first) refl (f ∙ ap (λ x. is_none (place_of x first)) n)
    (e ∙ ap (λ x. if fresh then first ++ (x, place) ∷ [] else first) n
    ∙ ap (λ k. if fresh then first ++ (text d, k) ∷ [] else first) (p ∙ sym (length-map ds text))))
  where
    by : (b : Bool) (o : Option ℕ) → place_of (text d) first ≡ o → b ≡ is_none o →
        new ≡ (if b then first ++ (text d, length (map text ds)) ∷ [] else first) → HasFirsts new (map text ds ++ text d ∷ [])
    by true None p f e = rw e (first-added first (map text ds) (text d) has p)
    by false (Some i) p f e = rw e (first-kept first (map text ds) (text d) i has p)
    by true (Some i) p f e = absurd (cc)
    by false None p f e = absurd (cc)

-- what a list is after a push that had room
pub pushed : {A : Type 0} (old before : List A) {new : List A} (x : A) {ok : Bool} → new ≡ (if ok then before ++ x ∷ [] else before) → ok ≡ true → before ≡ old
    → new ≡ old ++ x ∷ []
pushed old before x e o is = e ∙ ap (λ b. if b then before ++ x ∷ [] else before) o ∙ ap (λ l. l ++ x ∷ []) is

-- what a name stands for, where what declarations stand for is seen otherwise
pub look-map : {A B : Type 0} (f : A → B) (name : List ℕ) (space : List (Known A)) →
    look name (map (seen_by f) space) ≡ option_map (seen_by f) (look name space)
look-map f name [] = refl
look-map f name (k ∷ ks) = by (bytes_eq k.name.name name) (look-map f name ks) where
  by : (b : Bool) → look name (map (seen_by f) ks) ≡ option_map (seen_by f) (look name ks) →
      cond b (Some (seen_by f k)) (look name (map (seen_by f) ks)) ≡ option_map (seen_by f) (cond b (Some k) (look name ks))
  by true e = refl
  by false e = e

-- whether a place, if there is one, is below another
abbrev pub is_below : ℕ → Option ℕ → Bool
is_below k None = false
is_below k (Some i) = nat_lt i k

below-zero : (o : Option ℕ) → false ≡ is_below 0 o
below-zero None = refl
below-zero (Some i) = grind (arith, nat_tests)

below-suc : (k : ℕ) (o : Option ℕ) → is_below k o ≡ is_below (suc k) (option_map suc o)
below-suc k None = refl
below-suc k (Some i) = grind (arith, nat_tests)

zero-below : (k : ℕ) → true ≡ nat_lt 0 (suc k)
zero-below k = grind (arith, nat_tests)

-- a name is among the first where its first place is below their number
pub among-take : (name : List ℕ) (all : List (List ℕ)) (k : ℕ) → is_among name (take k all) ≡ is_below k (find_name name all)
among-take name [] zero = refl
among-take name [] (suc k) = refl
among-take name (x ∷ xs) zero = below-zero (find_name name (x ∷ xs))
among-take name (x ∷ xs) (suc k) =
    by (bytes_eq name x) (among-take name xs k) ∙ ap (is_below (suc k)) (sym (position-cons (bytes_eq name) x xs))
  where
    by : (b : Bool) → is_among name (take k xs) ≡ is_below k (find_name name xs) →
        (b || is_among name (take k xs)) ≡ is_below (suc k) (cond b (Some 0) (option_map suc (find_name name xs)))
    by true e = zero-below k
    by false e = e ∙ below-suc k (find_name name xs)

names-known : {T : Type 0} (ds : List (Declaration T)) → names (map known ds) ≡ map text ds
names-known [] = refl
names-known (d ∷ ds) = ap (λ l. text d ∷ l) (names-known ds)

-- so for the declaration at a place
pub repeated-at : {T : Type 0} (ds : List (Declaration T)) (space : List (Known T)) (d : Declaration T) (place : ℕ)
    (first : List (List ℕ × ℕ)) {name : List ℕ} {found : Option ℕ} →
    map known ds ≡ space → place < length space → d ≡ get_or ds place d → name ≡ text d → found ≡ place_of name first → HasFirsts first (map text ds) →
    is_below place found ≡ is_among (name_at space place) (take place (names space))
repeated-at ds space d place first {name} view within is n f has =
    let inside : place < length ds = omega (arith, within, ap length view, length-map ds known) in
    let here : name ≡ name_at (map known ds) place =
    n ∙ ap text is ∙ sym (seq.get_or-map text ds place d [] inside) ∙ ap (λ l. get_or l place []) (sym (names-known ds)) in
    ap (is_below place) (f ∙ has name) ∙ sym (among-take name (map text ds) place)
    ∙ ap (λ x. is_among x (take place (map text ds))) here
    ∙ ap (λ l. is_among (name_at (map known ds) place) (take place l)) (sym (names-known ds))
    ∙ ap (λ s. is_among (name_at s place) (take place (names s))) view

-- what is found, where what declarations stand for is seen otherwise
pub found-seen : {T B : Type 0} (f : T → B) (name : List ℕ) (space : List (Known T)) (found : Option (Bor (Declaration T))) →
    option_map (λ d. known d.now) found ≡ look name space → option_map (λ d. seen_by f (known d.now)) found ≡ look name (map (seen_by f) space)
found-seen {T} f name space found e = by found ∙ ap (option_map (seen_by f)) e ∙ sym (look-map f name space) where
  by : (o : Option (Bor (Declaration T))) → option_map (λ d. seen_by f (known d.now)) o ≡ option_map (seen_by f) (option_map (λ d. known d.now) o)
  by None = refl
  by (Some d) = refl
