-- An index has the first places, and keeps them as names are added.
use Rattle.std.proofs.Common.{◌≡◌, ℕ, ◌+◌, List, [], ◌∷◌, ◌++◌, map, length, position, bytes_eq, Bool, true, false, cond, Option, Some, None, not, suc}
use Rattle.std.proofs.Common.{refl, sym, ap, ◌∙◌, arith, nat_lt}
use Rattle.std.specs.Option.{option_or, option_map}
use Rattle.std.specs.Map.{lookup}
use Rattle.std.specs.List.{position_or_len}
use Rattle.std.proofs.lemmas.Bool.Decides.{nat_tests}
use Rattle.std.proofs.lemmas.Slice.Eq.{bytes_eq-Decides}
use Rattle.std.proofs.lemmas.List.{map-append}
use Rattle.indexmap.specs.IndexMap.{IndexMap, get, insert_entry}
use Rattle.indexmap.proofs.CallerLemmas.{insert_entry-new}
use Rattle.ccsl_base.specs.Names.{find_name}
use Rattle.ccsl_spaces.specs.Places.{place_of, HasFirsts}

-- an entry whose key is a text
abbrev seen : {K X : Type 0} → (K → List ℕ) → K × X → List ℕ × X
seen text e = (text e.0, e.1)

pub lookup-map : {K X : Type 0} (text : K → List ℕ) (name : List ℕ) (entries : List (K × X)) →
    lookup (bytes_eq name) (map (seen text) entries) ≡ lookup (λ k. bytes_eq name (text k)) entries
lookup-map text name [] = refl
lookup-map text name (e ∷ es) = ap (cond (bytes_eq name (text e.0)) (Some e.1)) (lookup-map text name es)

pub lookup-append : {K X : Type 0} (test : K → Bool) (xs ys : List (K × X)) → lookup test (xs ++ ys) ≡ option_or (lookup test xs) (lookup test ys)
lookup-append test [] ys = refl
lookup-append test (x ∷ xs) ys = by (test x.0) (lookup-append test xs ys) where
  by : (b : Bool) → lookup test (xs ++ ys) ≡ option_or (lookup test xs) (lookup test ys) →
      cond b (Some x.1) (lookup test (xs ++ ys)) ≡ option_or (cond b (Some x.1) (lookup test xs)) (lookup test ys)
  by true e = refl
  by false e = e

-- the place of the first that passes, counted from the front
pub position-cons : {X : Type 0} (p : X → Bool) (x : X) (xs : List X) → position p (x ∷ xs) ≡ cond (p x) (Some 0) (option_map suc (position p xs))
position-cons p x xs = by (p x) (nat_lt (position_or_len p xs) (length xs)) refl where
  by : (b c : Bool) → nat_lt (position_or_len p xs) (length xs) ≡ c →
      cond (nat_lt (cond (not b) (1 + position_or_len p xs) 0) (length (x ∷ xs))) (Some (cond (not b) (1 + position_or_len p xs) 0)) None
      ≡ cond b (Some 0) (option_map suc (cond c (Some (position_or_len p xs)) None))
  by true c e = grind (arith, nat_tests)
  by false true e = grind (arith, nat_tests)
  by false false e = grind (arith, nat_tests)

pub position-push : {X : Type 0} (p : X → Bool) (xs : List X) (y : X)
    → position p (xs ++ y ∷ []) ≡ option_or (position p xs) (cond (p y) (Some (length xs)) None)
position-push p [] y = by (p y) where
  by : (b : Bool) → cond (nat_lt (cond (not b) (1 + 0) 0) 1) (Some (cond (not b) (1 + 0) 0)) None ≡ cond b (Some 0) None
  by true = refl
  by false = refl
position-push p (x ∷ xs) y =
    position-cons p x (xs ++ y ∷ []) ∙ by (p x) (position-push p xs y)
    ∙ ap (λ o. option_or o (cond (p y) (Some (suc (length xs))) None)) (sym (position-cons p x xs))
  where
    later : (o : Option ℕ) (b : Bool)
        → option_map suc (option_or o (cond b (Some (length xs)) None)) ≡ option_or (option_map suc o) (cond b (Some (suc (length xs))) None)
    later None true = refl
    later None false = refl
    later (Some i) b = refl

    by : (b : Bool) → position p (xs ++ y ∷ []) ≡ option_or (position p xs) (cond (p y) (Some (length xs)) None) →
        cond b (Some 0) (option_map suc (position p (xs ++ y ∷ [])))
        ≡ option_or (cond b (Some 0) (option_map suc (position p xs))) (cond (p y) (Some (suc (length xs))) None)
    by true e = refl
    by false e = ap (option_map suc) e ∙ later (position p xs) (p y)

-- a new name takes the place at the end of the list
pub first-added : (index : List (List ℕ × ℕ)) (names : List (List ℕ)) (name : List ℕ) → HasFirsts index names → place_of name index ≡ None →
    HasFirsts (index ++ (name, length names) ∷ []) (names ++ name ∷ [])
first-added index names name has new q =
    lookup-append (bytes_eq q) index ((name, length names) ∷ []) ∙ ap (λ o. option_or o (cond (bytes_eq q name) (Some (length names)) None)) (has q)
    ∙ sym (position-push (bytes_eq q) names name)

some-stays : {A : Type 0} (a : A) (o p : Option A) → o ≡ Some a → o ≡ option_or o p
some-stays a o p e = e ∙ ap (λ x. option_or x p) (sym e)

none-adds-nothing : {A : Type 0} (o : Option A) → o ≡ option_or o None
none-adds-nothing None = refl
none-adds-nothing (Some a) = refl

-- a name that is there already keeps its place
pub first-kept : (index : List (List ℕ × ℕ)) (names : List (List ℕ)) (name : List ℕ) (i : ℕ) → HasFirsts index names → place_of name index ≡ Some i →
    HasFirsts index (names ++ name ∷ [])
first-kept index names name i has there q =
    has q ∙ by (bytes_eq q name) refl ∙ sym (position-push (bytes_eq q) names name)
  where
    by : (b : Bool) → bytes_eq q name ≡ b → find_name q names ≡ option_or (find_name q names) (cond b (Some (length names)) None)
    by true e = some-stays i (find_name q names) (Some (length names)) (sym (has q) ∙ ap (λ n. place_of n index) ((bytes_eq-Decides q name).0 e) ∙ there)
    by false e = none-adds-nothing (find_name q names)

-- a key that is not there goes last
pub inserted : {K X S : Type 0} (eq : K → K → Bool) (text : K → List ℕ) (m : IndexMap K X S) (k : K) (v : X) {name : List ℕ} {new : List (K × X)} →
    new ≡ insert_entry eq m.entries k v → get eq m k ≡ None → text k ≡ name →
    map (seen text) new ≡ map (seen text) m.entries ++ (name, v) ∷ []
inserted eq text m k v e none is =
    ap (map (seen text)) (e ∙ insert_entry-new eq m k v none) ∙ map-append (seen text) m.entries ((k, v) ∷ [])
    ∙ ap (λ n. map (seen text) m.entries ++ (n, v) ∷ []) is
