-- Lists in which nothing stands twice.
use Rattle.std.proofs.Common.{◌≡◌, ℕ, List, [], ◌∷◌, ◌++◌, map, flat_map, Bool, true, false, ◌||◌, refl, ap, ◌∙◌, subst, ◌⊎◌, inl, inr, ⊎_elim, bytes_eq}
use Rattle.std.proofs.lemmas.Bool.{and_from, false_from_ne_true, not_from_false}
use Rattle.std.proofs.lemmas.Slice.Eq.{bytes_eq-Decides}
use Rattle.ccsl_base.specs.Names as names
use Rattle.ccsl_ast.specs.declared.spot.Spot.{Spot}
use Rattle.ccsl_rules.specs.Faults.{Duplicate, where_so}
use Rattle.ccsl_rules.specs.Spaces.{repeated}
use Rattle.ccsl_base.specs.Names.{is_among}
use Rattle.ccsl_rules.proofs.Guarded.{left-empty, right-empty, no-fault}

-- x is one of the list
abbrev pub In : List ℕ → List (List ℕ) → Type 0
In x [] = ⊥
In x (y ∷ ys) = (x ≡ y) ⊎ In x ys

-- nothing stands twice
abbrev pub Distinct : List (List ℕ) → Type 0
Distinct [] = Unit {0}
Distinct (x ∷ xs) = (In x xs → ⊥) × Distinct xs

pub in-parts : (x : List ℕ) (xs ys : List (List ℕ)) → In x (xs ++ ys) → In x xs ⊎ In x ys
in-parts x [] ys i = inr i
in-parts x (z ∷ xs) ys (inl e) = inl (inl e)
in-parts x (z ∷ xs) ys (inr i) = ⊎_elim (λ j. inl (inr j)) (λ j. inr j) (in-parts x xs ys i)

pub in-left : (x : List ℕ) (xs ys : List (List ℕ)) → In x xs → In x (xs ++ ys)
in-left x [] ys i = absurd i
in-left x (z ∷ xs) ys (inl e) = inl e
in-left x (z ∷ xs) ys (inr i) = inr (in-left x xs ys i)

pub in-right : (x : List ℕ) (xs ys : List (List ℕ)) → In x ys → In x (xs ++ ys)
in-right x [] ys i = i
in-right x (z ∷ xs) ys i = inr (in-right x xs ys i)

pub distinct-join : (xs ys : List (List ℕ)) → Distinct xs → Distinct ys → ((x : List ℕ) → In x xs → In x ys → ⊥) → Distinct (xs ++ ys)
distinct-join [] ys a b f = b
distinct-join (x ∷ xs) ys a b f =
    ((λ i. ⊎_elim a.0 (f x (inl refl)) (in-parts x xs ys i)), distinct-join xs ys a.1 b (λ y i. f y (inr i)))

pub distinct-left : (xs ys : List (List ℕ)) → Distinct (xs ++ ys) → Distinct xs
distinct-left [] ys a = tt
distinct-left (x ∷ xs) ys a = ((λ i. a.0 (in-left x xs ys i)), distinct-left xs ys a.1)

pub distinct-right : (xs ys : List (List ℕ)) → Distinct (xs ++ ys) → Distinct ys
distinct-right [] ys a = a
distinct-right (x ∷ xs) ys a = distinct-right xs ys a.1

pub distinct-across : (xs ys : List (List ℕ)) → Distinct (xs ++ ys) → (x : List ℕ) → In x xs → In x ys → ⊥
distinct-across [] ys a x i j = i
distinct-across (z ∷ xs) ys a x (inl e) j = a.0 (subst (λ y. In y (xs ++ ys)) e (in-right x xs ys j))
distinct-across (z ∷ xs) ys a x (inr i) j = distinct-across xs ys a.1 x i j

-- two parts of each element, put together by parts
module _ {X : Type 0} (f g : X → List (List ℕ)) where
  abbrev both : X → List (List ℕ)
  both x = f x ++ g x

  parts-in : (n : List ℕ) (xs : List X) → In n (flat_map f xs) ⊎ In n (flat_map g xs) → In n (flat_map both xs)
  parts-in n [] (inl i) = i
  parts-in n [] (inr i) = i
  parts-in n (x ∷ xs) (inl i) =
      ⊎_elim (λ j. in-left n (both x) (flat_map both xs) (in-left n (f x) (g x) j)) (λ j. in-right n (both x) (flat_map both xs) (parts-in n xs (inl j)))
      (in-parts n (f x) (flat_map f xs) i)
  parts-in n (x ∷ xs) (inr i) =
      ⊎_elim (λ j. in-left n (both x) (flat_map both xs) (in-right n (f x) (g x) j)) (λ j. in-right n (both x) (flat_map both xs) (parts-in n xs (inr j)))
      (in-parts n (g x) (flat_map g xs) i)

  pub by-parts : (xs : List X) → Distinct (flat_map both xs) → Distinct (flat_map f xs ++ flat_map g xs)
  by-parts [] a = tt
  by-parts (x ∷ xs) a =
      let here = distinct-left (both x) (flat_map both xs) a in
      let rest = by-parts xs (distinct-right (both x) (flat_map both xs) a) in
      let away : (n : List ℕ) → In n (both x) → In n (flat_map f xs) ⊎ In n (flat_map g xs) → ⊥ =
      λ n i j. distinct-across (both x) (flat_map both xs) a n i (parts-in n xs j) in
      distinct-join (f x ++ flat_map f xs) (g x ++ flat_map g xs)
      (distinct-join (f x) (flat_map f xs) (distinct-left (f x) (g x) here) (distinct-left (flat_map f xs) (flat_map g xs) rest)
      (λ n i j. away n (in-left n (f x) (g x) i) (inl j)))
      (distinct-join (g x) (flat_map g xs) (distinct-right (f x) (g x) here) (distinct-right (flat_map f xs) (flat_map g xs) rest)
      (λ n i j. away n (in-right n (f x) (g x) i) (inr j)))
      (λ n i j. ⊎_elim
      (λ k. ⊎_elim (λ l. distinct-across (f x) (g x) here n k l) (λ l. away n (in-left n (f x) (g x) k) (inr l)) (in-parts n (g x) (flat_map g xs) j))
      (λ k. ⊎_elim (λ l. away n (in-right n (f x) (g x) l) (inl k)) (λ l. distinct-across (flat_map f xs) (flat_map g xs) rest n k l)
      (in-parts n (g x) (flat_map g xs) j))
      (in-parts n (f x) (flat_map f xs) i))

-- ## As tests

pub other : (a b : List ℕ) → (a ≡ b → ⊥) → bytes_eq a b ≡ false
other a b f = false_from_ne_true (bytes_eq a b) (λ e. f ((bytes_eq-Decides a b).0 e))

pub not-among : (x : List ℕ) (xs : List (List ℕ)) → (In x xs → ⊥) → names.is_among x xs ≡ false
not-among x [] f = refl
not-among x (y ∷ ys) f = ap (λ b. b || names.is_among x ys) (other x y (λ e. f (inl e))) ∙ not-among x ys (λ i. f (inr i))

pub tested : (xs : List (List ℕ)) → Distinct xs → names.are_distinct xs ≡ true
tested [] a = refl
tested (x ∷ xs) a = and_from _ _ (not_from_false (names.is_among x xs) (not-among x xs a.0)) (tested xs a.1)

pub new-behind : (front back : List (List ℕ)) (name : List ℕ) → Distinct (front ++ (name ∷ back)) → names.is_among name front ≡ false
new-behind front back name a = not-among name front (λ i. distinct-across front (name ∷ back) a name i (inl refl))

-- ## Names that are declared once

among-in : (x : List ℕ) (xs : List (List ℕ)) → is_among x xs ≡ false → In x xs → ⊥
among-in x [] e i = i
among-in x (y ∷ ys) e (inl same) =
    let z : bytes_eq x y ≡ true = (bytes_eq-Decides x y).1 same in
    let w : (true || is_among x ys) ≡ false = subst (λ b. (b || is_among x ys) ≡ false) z e in
    absurd (cc)
among-in x (y ∷ ys) e (inr i) = among-in x ys (right-false (bytes_eq x y) (is_among x ys) e) i where
  right-false : (a b : Bool) → (a || b) ≡ false → b ≡ false
  right-false true b e = absurd (cc)
  right-false false b e = e

abbrev pub names_of_spots : List Spot → List (List ℕ)
names_of_spots ss = map (λ s. s.name) ss

once : (seen : List (List ℕ)) (ss : List Spot) → repeated seen ss ≡ []
    → ((x : List ℕ) → In x seen → In x (names_of_spots ss) → ⊥) × Distinct (names_of_spots ss)
once seen [] e = ((λ x i j. j), tt)
once seen (s ∷ ss) e =
    let here : is_among s.name seen ≡ false = no-fault (is_among s.name seen) Duplicate s.at (left-empty _ (repeated (seen ++ s.name ∷ []) ss) e) in
    let rest = once (seen ++ s.name ∷ []) ss (right-empty (where_so (is_among s.name seen) Duplicate s.at) (repeated (seen ++ s.name ∷ []) ss) e) in (
      (λ x i j. ⊎_elim (λ (same : x ≡ s.name). among-in s.name seen here (subst (λ y. In y seen) same i)) (λ k. rest.0 x (in-left x seen (s.name ∷ []) i) k) j),
      ((λ i. rest.0 s.name (in-right s.name seen (s.name ∷ []) (inl refl)) i), rest.1),
    )

pub declared-once : (ss : List Spot) → repeated [] ss ≡ [] → Distinct (names_of_spots ss)
declared-once ss e = (once [] ss e).1
