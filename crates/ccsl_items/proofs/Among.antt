-- What stands in a list, by cases on the list: after appending, mapping and filtering, and what is found.
use Rattle.std.proofs.Common.{⊎_elim, ◌⊎◌, inl, inr, ◌≡◌, List, [], ◌∷◌, ◌++◌, map, filter, find, Bool, true, false, cond, Some, None, refl, sym, ap, ◌∙◌}
use Rattle.std.proofs.Common.{subst}
use Rattle.std.specs.List.{list_all}
use Rattle.std.proofs.lemmas.Bool.{and_parts, and_from}

module _ {X : Type 0} where
  -- x is one of the list
  abbrev pub Among : X → List X → Type 0
  Among x [] = ⊥
  Among x (y ∷ ys) = (y ≡ x) ⊎ Among x ys

  pub among-left : (x : X) (xs ys : List X) → Among x xs → Among x (xs ++ ys)
  among-left x [] ys h = absurd h
  among-left x (y ∷ xs) ys h = ⊎_elim inl (λ r. inr (among-left x xs ys r)) h

  pub among-right : (x : X) (xs ys : List X) → Among x ys → Among x (xs ++ ys)
  among-right x [] ys h = h
  among-right x (y ∷ xs) ys h = inr (among-right x xs ys h)

  pub among-parts : (x : X) (xs ys : List X) → Among x (xs ++ ys) → Among x xs ⊎ Among x ys
  among-parts x [] ys h = inr h
  among-parts x (y ∷ xs) ys h =
      ⊎_elim (λ e. inl (inl e)) (λ r. ⊎_elim (λ a. inl (inr a)) inr (among-parts x xs ys r)) h

  -- what passes the test is kept, and nothing else
  pub among-filter : (p : X → Bool) (x : X) (xs : List X) → Among x xs → p x ≡ true → Among x (filter p xs)
  among-filter p x [] h t = h
  among-filter p x (y ∷ xs) h t =
      ⊎_elim
      (λ e. subst (λ b. Among x (cond b (y ∷ filter p xs) (filter p xs))) (sym (ap p e ∙ t)) (inl e))
      (λ r.
      let rest = among-filter p x xs r t in
      elim (p y) as (λ b. Among x (cond b (y ∷ filter p xs) (filter p xs))) [ true ↦ inr rest | false ↦ rest ])
      h

  pub filter-among : (p : X → Bool) (x : X) (xs : List X) → Among x (filter p xs) → Among x xs × (p x ≡ true)
  filter-among p x [] h = absurd h
  filter-among p x (y ∷ xs) h =
      (elim (p y) as (λ b. p y ≡ b → Among x (cond b (y ∷ filter p xs) (filter p xs)) → Among x (y ∷ xs) × (p x ≡ true)) [
        | true ↦ λ e g. ⊎_elim (λ s. (inl s, sym (ap p s) ∙ e)) (λ r. let q = filter-among p x xs r in (inr q.0, q.1)) g
        | false ↦ λ e g. let q = filter-among p x xs g in (inr q.0, q.1)
      ]) refl h

  -- what is found passes the test and stands in the list
  pub found-among : (p : X → Bool) (x : X) (xs : List X) → find p xs ≡ Some x → Among x xs × (p x ≡ true)
  found-among p x [] h = absurd (cc)
  found-among p x (y ∷ xs) h =
      (elim (p y) as (λ b. p y ≡ b → cond b (Some y) (find p xs) ≡ Some x → Among x (y ∷ xs) × (p x ≡ true)) [
        | true ↦ λ e g. let s : y ≡ x = cc in (inl s, sym (ap p s) ∙ e)
        | false ↦ λ e g. let q = found-among p x xs g in (inr q.0, q.1)
      ]) refl h

  pub none-found : (p : X → Bool) (x : X) (xs : List X) → find p xs ≡ None → Among x xs → p x ≡ false
  none-found p x [] h a = absurd a
  none-found p x (y ∷ xs) h a =
      (elim (p y) as (λ b. p y ≡ b → cond b (Some y) (find p xs) ≡ None → p x ≡ false) [
        | true ↦ λ e g. absurd (cc)
        | false ↦ λ e g. ⊎_elim (λ s. sym (ap p s) ∙ e) (λ r. none-found p x xs g r) a
      ]) refl h

  -- the only one of the list that passes is found
  pub only-found : (p : X → Bool) (x : X) (xs : List X) → Among x xs → p x ≡ true → ((y : X) → Among y xs → p y ≡ true → y ≡ x) → find p xs ≡ Some x
  only-found p x [] a t h = absurd a
  only-found p x (y ∷ xs) a t h =
      (elim (p y) as (λ b. p y ≡ b → cond b (Some y) (find p xs) ≡ Some x) [
        | true ↦ λ e. ap Some (h y (inl refl) e)
        | false ↦ λ e. only-found p x xs (⊎_elim (λ s. let bad : true ≡ false = sym t ∙ sym (ap p s) ∙ e in absurd (cc)) (λ r. r) a) t (λ z b u. h z (inr b) u)
      ]) refl

  pub none-passes : (p : X → Bool) (xs : List X) → ((x : X) → Among x xs → p x ≡ false) → find p xs ≡ None
  none-passes p [] h = refl
  none-passes p (y ∷ xs) h = ap (λ b. cond b (Some y) (find p xs)) (h y (inl refl)) ∙ none-passes p xs (λ x a. h x (inr a))

  -- a test of all is a test of each
  pub each-of : (p : X → Bool) (xs : List X) → list_all p xs ≡ true → (x : X) → Among x xs → p x ≡ true
  each-of p [] h x a = absurd a
  each-of p (y ∷ xs) h x a = let w = and_parts (p y) (list_all p xs) h in ⊎_elim (λ s. sym (ap p s) ∙ w.0) (λ r. each-of p xs w.1 x r) a

  pub all-of : (p : X → Bool) (xs : List X) → ((x : X) → Among x xs → p x ≡ true) → list_all p xs ≡ true
  all-of p [] h = refl
  all-of p (y ∷ xs) h = and_from (p y) (list_all p xs) (h y (inl refl)) (all-of p xs (λ x a. h x (inr a)))

pub among-map : {X Y : Type 0} (f : X → Y) (x : X) (xs : List X) → Among x xs → Among (f x) (map f xs)
among-map f x [] h = absurd h
among-map f x (y ∷ xs) h = ⊎_elim (λ e. inl (ap f e)) (λ r. inr (among-map f x xs r)) h

pub map-among : {X Y : Type 0} (f : X → Y) (y : Y) (xs : List X) → Among y (map f xs) → (x : X) × Among x xs × (f x ≡ y)
map-among f y [] h = absurd h
map-among f y (x ∷ xs) h = ⊎_elim (λ e. (x, inl refl, e)) (λ r. let q = map-among f y xs r in (q.0, inr q.1, q.2)) h
