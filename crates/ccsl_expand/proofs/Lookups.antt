-- What is found by a number of a table of names is what is found by the name.
use Rattle.std.proofs.Common.{◌≡◌, ℕ, zero, suc, ◌+◌, ◌<◌, ◌≤◌, List, [], ◌∷◌, ◌++◌, Bool, true, false, not, cond, nat_lt, Option, Some, None, is_none}
use Rattle.std.proofs.Common.{if◌then◌else◌, map, length, slice_get, bytes_eq, refl, sym, ap, ◌∙◌, arith, ltb-true, ltb-false}
use Rattle.std.specs.List.{zip, position_or_len}
use Rattle.std.specs.Option.{option_map}
use Rattle.std.proofs.lemmas.Option.{slice_get_past}
use Rattle.ccsl_base.specs.Names.{find_name}
use Rattle.ccsl_rules.specs.Settings.{Atom, ANumber, snd_of, atom_of}
use Rattle.ccsl_ast.specs.declared.spot.Spot.{Spot}
use Rattle.ccsl_rules.specs.Spaces.{Known, look}
use Rattle.ccsl_spaces.specs.Places.{place_of, HasFirsts}
use Rattle.ccsl_spaces.proofs.Places.{first-added, first-kept}
use Rattle.ccsl_expand.specs.Seen.{atom_or_zero}
use Rattle.ccsl_base.proofs.Tables.{bytes_eq-comm}
use Rattle.ccsl_base.proofs.Cases.{some-same}

found-step : (b c : Bool) → b ≡ c → (n : List ℕ) (a : Atom) (as' : List Atom) (m : ℕ) (rest : Option (List ℕ × Atom))
    → snd_of rest ≡ atom_or_zero (slice_get as' m) →
    snd_of (cond b (Some (n, a)) rest) ≡ atom_or_zero (slice_get (a ∷ as') (cond (not c) (1 + m) 0))
found-step true true e n a as' m rest h = refl
found-step false false e n a as' m rest h = let more : suc m ≡ 1 + m = omega arith in h ∙ ap (λ i. atom_or_zero (slice_get (a ∷ as') i)) more
found-step true false e n a as' m rest h = absurd (cc)
found-step false true e n a as' m rest h = absurd (cc)

-- the first entry of a name, by its place
pub atom_of-zip : (ns : List (List ℕ)) (as' : List Atom) (name : List ℕ) → length ns ≡ length as'
    → atom_of (zip ns as') name ≡ atom_or_zero (slice_get as' (position_or_len (bytes_eq name) ns))
atom_of-zip [] [] name h = refl
atom_of-zip [] (a ∷ as') name h = absurd (omega arith)
atom_of-zip (n ∷ ns) [] name h = absurd (omega arith)
atom_of-zip (n ∷ ns) (a ∷ as') name h =
    found-step (bytes_eq n name) (bytes_eq name n) (bytes_eq-comm n name) n a as' (position_or_len (bytes_eq name) ns) _ (atom_of-zip ns as' name (omega arith))

place-some : (b : Bool) (n i : ℕ) → cond b (Some n) None ≡ Some i → n ≡ i
place-some true n i e = cc
place-some false n i e = absurd (cc)

place-none : (m n : ℕ) → cond (nat_lt m n) (Some m) None ≡ None → n ≤ m
place-none m n e = by (nat_lt m n) refl e where
  by : (b : Bool) → nat_lt m n ≡ b → cond b (Some m) None ≡ None → n ≤ m
  by true p q = absurd (cc)
  by false p q = ltb-false m n p

-- what stands at the number of a name
pub atom_of-there : (ns : List (List ℕ)) (as' : List Atom) (name : List ℕ) (i : ℕ) (a : Atom) → length ns ≡ length as' → find_name name ns ≡ Some i
    → slice_get as' i ≡ Some a →
    a ≡ atom_of (zip ns as') name
atom_of-there ns as' name i a h found at =
    let same : position_or_len (bytes_eq name) ns ≡ i =
    place-some (nat_lt (position_or_len (bytes_eq name) ns) (length ns)) (position_or_len (bytes_eq name) ns) i found in
    sym (atom_of-zip ns as' name h ∙ ap (λ j. atom_or_zero (slice_get as' j)) same ∙ ap atom_or_zero at)

-- what a name stands for that is not there
pub atom_of-missing : (ns : List (List ℕ)) (as' : List Atom) (name : List ℕ) → length ns ≡ length as' → find_name name ns ≡ None
    → ANumber 0 ≡ atom_of (zip ns as') name
atom_of-missing ns as' name h missing =
    let past = place-none (position_or_len (bytes_eq name) ns) (length ns) missing in
    sym (atom_of-zip ns as' name h ∙ ap atom_or_zero (slice_get_past as' (position_or_len (bytes_eq name) ns) (omega arith)))

place-turned : (ns : List (List ℕ)) (name : List ℕ) → position_or_len (bytes_eq name) ns ≡ position_or_len (λ x. bytes_eq x name) ns
place-turned [] name = refl
place-turned (n ∷ ns) name =
    ap (λ b. cond (not b) (1 + position_or_len (bytes_eq name) ns) 0) (bytes_eq-comm name n)
    ∙ ap (λ m. cond (not (bytes_eq n name)) (1 + m) 0) (place-turned ns name)

within-step : (b : Bool) (m n : ℕ) → m ≤ n → cond b (1 + m) 0 ≤ suc n
within-step true m n h = omega arith
within-step false m n h = omega arith

place-within : (ns : List (List ℕ)) (name : List ℕ) → position_or_len (bytes_eq name) ns ≤ length ns
place-within [] name = omega arith
place-within (n ∷ ns) name = within-step (not (bytes_eq name n)) (position_or_len (bytes_eq name) ns) (length ns) (place-within ns name)

pub number-missing : (ns : List (List ℕ)) (name : List ℕ) → find_name name ns ≡ None → length ns ≡ position_or_len (λ x. bytes_eq x name) ns
number-missing ns name e =
    let past = place-none (position_or_len (bytes_eq name) ns) (length ns) e in
    let short = place-within ns name in
    let same = place-turned ns name in
    omega arith

pub zip-append : {X Y : Type 0} (xs : List X) (ys : List Y) (x : X) (y : Y) → length xs ≡ length ys
    → zip (xs ++ x ∷ []) (ys ++ y ∷ []) ≡ zip xs ys ++ (x, y) ∷ []
zip-append [] [] x y h = refl
zip-append [] (b ∷ ys) x y h = absurd (omega arith)
zip-append (a ∷ xs) [] x y h = absurd (omega arith)
zip-append (a ∷ xs) (b ∷ ys) x y h = ap (λ l. (a, b) ∷ l) (zip-append xs ys x y (omega arith))

place-less : (m n : ℕ) (i : ℕ) → cond (nat_lt m n) (Some m) None ≡ Some i → i < n
place-less m n i e = by (nat_lt m n) refl e where
  by : (b : Bool) → nat_lt m n ≡ b → cond b (Some m) None ≡ Some i → i < n
  by true p q = let same : m ≡ i = cc in rw (← same) (ltb-true m n p)
  by false p q = absurd (cc)

-- a found place is one of the list
pub place-below : (ns : List (List ℕ)) (name : List ℕ) (i : ℕ) → find_name name ns ≡ Some i → i < length ns
place-below ns name i e = place-less (position_or_len (bytes_eq name) ns) (length ns) i e

pub get-map : {X Y : Type 0} (f : X → Y) (xs : List X) (i : ℕ) (x : X) → slice_get xs i ≡ Some x → slice_get (map f xs) i ≡ Some (f x)
get-map f [] i x e = absurd (cc)
get-map f (y ∷ xs) zero x e = ap (λ z. Some (f z)) (some-same y x e)
get-map f (y ∷ xs) (suc i) x e = get-map f xs i x e

look-step : {X Y : Type 0} (f : X → Y) (b : Bool) (x : X) (found : Option X) (others : Option Y) → others ≡ option_map f found
    → cond b (Some (f x)) others ≡ option_map f (cond b (Some x) found)
look-step f true x found others e = refl
look-step f false x found others e = e

-- what a name stands for in a space that is seen otherwise, with the same names
pub look-map : {A B : Type 0} (f : Known A → Known B) → ((k : Known A) → (f k).name ≡ k.name) → (name : List ℕ) (space : List (Known A))
    → look name (map f space) ≡ option_map f (look name space)
look-map f same name [] = refl
look-map f same name (k ∷ ks) =
    ap (λ (x : Spot). cond (bytes_eq x.name name) (Some (f k)) (look name (map f ks))) (same k)
    ∙ look-step f (bytes_eq k.name.name name) k (look name ks) (look name (map f ks)) (look-map f same name ks)

-- the first places, with one more name
pub firsts-more : (first new : List (List ℕ × ℕ)) (names : List (List ℕ)) (name : List ℕ) (fresh : Bool) → fresh ≡ is_none (place_of name first) →
    new ≡ (if fresh then first ++ (name, length names) ∷ [] else first) → HasFirsts first names → HasFirsts new (names ++ name ∷ [])
firsts-more first new names name fresh f e has = by fresh (place_of name first) refl f e where
  by : (b : Bool) (o : Option ℕ) → place_of name first ≡ o → b ≡ is_none o → new ≡ (if b then first ++ (name, length names) ∷ [] else first)
      → HasFirsts new (names ++ name ∷ [])
  by true None p g h = rw h (first-added first names name has p)
  by false (Some i) p g h = rw h (first-kept first names name i has p)
  by true (Some i) p g h = absurd (cc)
  by false None p g h = absurd (cc)
