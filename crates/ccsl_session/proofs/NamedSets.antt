-- The set of the clocks of some names: read one by one it is what the names give together.
use Rattle.std.proofs.Common.{◌≡◌, ◌≢◌, ℕ, ◌<◌, List, [], ◌∷◌, codes, Bool, true, false, not, ◌&&◌, ◌||◌, Option, Some, None, nat_lt, nat_eq, if◌then◌else◌}
use Rattle.std.proofs.Common.{refl, sym, ap, ap₂, ◌∙◌, arith, lt-ltb, eq-eqb, length-take}
use Rattle.std.specs.List.{list_all}
use Rattle.std.specs.Option.{is_some}
use Rattle.std.specs.Str.{bytes_eq}
use Rattle.std.proofs.lemmas.Bool.{and_parts, and_from, ne_eqb, false_from_ne_true, true≢false}
use Rattle.ccsl_base.specs.Clocks.{ticks_in, with_clock, is_ascending, are_below}
use Rattle.ccsl_base.specs.Names.{is_among, find_name, are_distinct}
use Rattle.ccsl_base.proofs.Tables.{bytes_eq-true, bytes_eq-refl, found-within}
use Rattle.ccsl_kernel.specs.Syntax.{System}
use Rattle.ccsl_kernel.specs.Lives.{Step}
use Rattle.ccsl_kernel.specs.Runs.{is_declared}
use Rattle.ccsl_kernel.proofs.Sets.{ticks_in-with_clock}
use Rattle.ccsl_session.specs.Asked.{Asked, Fire, Unknown, declared_names, are_clocks, with_found, set_of, asked_with}
use Rattle.ccsl_session.specs.Reading.{read_clocks}
use Rattle.ccsl_session.proofs.Found.{if_below, position-take, found-among, found-one}
use Rattle.ccsl_session.proofs.Sets.{with_clock-swap, with_clock-some}
use Rattle.ccsl_base.proofs.Sets.{by_case}
use Rattle.ccsl_base.proofs.Ascending.{all-with, with_clock-ascends}

-- the declared clock of a name, by its number among all clocks
pub declared-found : (K : System) (name : List ℕ) (o : Option ℕ) → o ≡ find_name name K.names → find_name name (declared_names K) ≡ if_below K.declared o
declared-found K name o e = position-take (bytes_eq name) K.declared K.names ∙ ap (if_below K.declared) (sym e)

module _ (K : System) where
  abbrev clock_of : List ℕ → Option ℕ
  clock_of name = find_name name (declared_names K)

  abbrev is_clock : List ℕ → Bool
  is_clock name = is_among name (declared_names K)

  abbrev is_in : Option ℕ → Step → Bool
  is_in None s = false
  is_in (Some x) s = ticks_in x s

  -- no name is that of a member
  abbrev are_new : Step → List (List ℕ) → Bool
  are_new s names = list_all (λ name. not (is_in (clock_of name) s)) names

  -- the set with the clocks of some names, the first one first
  abbrev onto : Step → List (List ℕ) → Step
  onto s [] = s
  onto s (name ∷ names) = onto (with_found (clock_of name) s) names

  abbrev are_good : Step → List (List ℕ) → Bool
  are_good s names = (are_distinct names && list_all is_clock names) && are_new s names

  clock-is : (name : List ℕ) (x : ℕ) → clock_of name ≡ Some x → is_clock name ≡ true
  clock-is name x e = sym (found-among name (declared_names K)) ∙ ap is_some e

  no-clock : (name : List ℕ) → clock_of name ≡ None → is_clock name ≡ false
  no-clock name e = sym (found-among name (declared_names K)) ∙ ap is_some e

  -- a name is that of a member of the set with the clock of another one, where it is the other one or that of a member
  new-with : (name : List ℕ) (x : ℕ) (s : Step) (other : List ℕ) → clock_of name ≡ Some x
      → not (is_in (clock_of other) (with_clock x s)) ≡ (not (bytes_eq name other) && not (is_in (clock_of other) s))
  new-with name x s other e = on (clock_of other) refl
    where
      neither : (a b : Bool) → not (a || b) ≡ (not a && not b)
      neither true b = refl
      neither false b = refl

      differs : clock_of other ≡ None → bytes_eq name other ≡ false
      differs f =
          false_from_ne_true (bytes_eq name other)
          (λ t. let bad : Some x ≡ None = sym e ∙ ap clock_of (bytes_eq-true name other t) ∙ f in cc)

      same_number : (y : ℕ) → clock_of other ≡ Some y → nat_eq y x ≡ bytes_eq name other
      same_number y f =
          by_case (bytes_eq name other) _
          (λ t. let one : Some y ≡ Some x = sym f ∙ sym (ap clock_of (bytes_eq-true name other t)) ∙ e in let at : y ≡ x = cc in eq-eqb y x at ∙ sym t)
          (λ t. ne_eqb y x (λ at. true≢false (sym (bytes_eq-refl name other (found-one name other (declared_names K) x e (f ∙ ap (λ k. Some k) at))) ∙ t))
          ∙ sym t)

      on : (o : Option ℕ) → clock_of other ≡ o → not (is_in o (with_clock x s)) ≡ (not (bytes_eq name other) && not (is_in o s))
      on None f = sym (ap (λ b. not b && true) (differs f))
      on (Some y) f = ap not (ticks_in-with_clock y x s) ∙ neither (nat_eq y x) (ticks_in y s) ∙ ap (λ b. not b && not (ticks_in y s)) (same_number y f)

  new-more : (name : List ℕ) (x : ℕ) (s : Step) (names : List (List ℕ)) → clock_of name ≡ Some x
      → are_new (with_clock x s) names ≡ (not (is_among name names) && are_new s names)
  new-more name x s [] e = refl
  new-more name x s (other ∷ names) e =
      ap₂ (λ a b. a && b) (new-with name x s other e) (new-more name x s names e)
      ∙ regroup (bytes_eq name other) (not (is_in (clock_of other) s)) (is_among name names) (are_new s names)
    where
      regroup : (a b c d : Bool) → ((not a && b) && (not c && d)) ≡ (not (a || c) && (b && d))
      regroup true b c d = refl
      regroup false true c d = refl
      regroup false false true d = refl
      regroup false false false d = refl

  -- READING THE CLOCKS ONE BY ONE
  reads : (names : List (List ℕ)) (s : Step) → read_clocks K s names ≡ (if are_good s names then Some (onto s names) else None)
  reads [] s = refl
  reads (name ∷ names) s = on (λ t. reads names t) (clock_of name) refl
    where
      shut : (a d l f : Bool) → (((not a && d) && (false && l)) && f) ≡ false
      shut true d l f = refl
      shut false true l f = refl
      shut false false l f = refl

      member : (a d l f : Bool) → (((not a && d) && l) && (false && f)) ≡ false
      member true d l f = refl
      member false true true f = refl
      member false true false f = refl
      member false false l f = refl

      moved : (a d l f : Bool) → ((d && l) && (not a && f)) ≡ (((not a && d) && (true && l)) && (true && f))
      moved true true true f = refl
      moved true true false f = refl
      moved true false l f = refl
      moved false d l f = refl

      on : ((t : Step) → read_clocks K t names ≡ (if are_good t names then Some (onto t names) else None)) → (o : Option ℕ) → clock_of name ≡ o →
          (elim o [ None ↦ None | Some x ↦ if ticks_in x s then None else read_clocks K (with_clock x s) names ])
          ≡ (if (are_distinct (name ∷ names) && (is_clock name && list_all is_clock names))
          && (not (is_in o s) && are_new s names) then Some (onto (with_found o s) names) else None)
      on rest None e =
          sym
          (ap (λ (b : Bool). if (are_distinct (name ∷ names) && (b && list_all is_clock names)) && (true && are_new s names) then Some (onto s names) else None)
          (no-clock name e)
          ∙ ap (λ (b : Bool). if b then Some (onto s names) else None)
          (shut (is_among name names) (are_distinct names) (list_all is_clock names) (true && are_new s names)))
      on rest (Some x) e =
          by_case (ticks_in x s) _
          (λ t.
          ap (λ (b : Bool). if b then None else read_clocks K (with_clock x s) names) t
          ∙ sym
          (ap (λ (b : Bool). if (are_distinct (name ∷ names) && (is_clock name && list_all is_clock names))
          && (not b && are_new s names) then Some (onto (with_clock x s) names) else None) t
          ∙ ap (λ (b : Bool). if b then Some (onto (with_clock x s) names) else None)
          (member (is_among name names) (are_distinct names) (is_clock name && list_all is_clock names) (are_new s names))))
          (λ t.
          ap (λ (b : Bool). if b then None else read_clocks K (with_clock x s) names) t
          ∙ rest (with_clock x s)
          ∙ ap (λ (b : Bool). if (are_distinct names && list_all is_clock names) && b then Some (onto (with_clock x s) names) else None)
          (new-more name x s names e)
          ∙ ap (λ (b : Bool). if b then Some (onto (with_clock x s) names) else None)
          (moved (is_among name names) (are_distinct names) (list_all is_clock names) (are_new s names))
          ∙ sym
          (ap₂ (λ (a b : Bool). if (are_distinct (name ∷ names) && (a && list_all is_clock names))
          && (not b && are_new s names) then Some (onto (with_clock x s) names) else None) (clock-is name x e) t))

  found-swap : (o : Option ℕ) (p : Option ℕ) (s : Step) → with_found o (with_found p s) ≡ with_found p (with_found o s)
  found-swap None p s = refl
  found-swap (Some x) None s = refl
  found-swap (Some x) (Some y) s = with_clock-swap x y s

  onto-with : (names : List (List ℕ)) (o : Option ℕ) (s : Step) → onto (with_found o s) names ≡ with_found o (onto s names)
  onto-with [] o s = refl
  onto-with (name ∷ names) o s =
      ap (λ t. onto t names) (found-swap (clock_of name) o s) ∙ onto-with names o (with_found (clock_of name) s)

  onto-all : (names : List (List ℕ)) → onto [] names ≡ set_of K names
  onto-all [] = refl
  onto-all (name ∷ names) = onto-with names (clock_of name) [] ∙ ap (with_found (clock_of name)) (onto-all names)

  all-new : (names : List (List ℕ)) → are_new [] names ≡ true
  all-new [] = refl
  all-new (name ∷ names) = and_from (not (is_in (clock_of name) [])) (are_new [] names) (free (clock_of name)) (all-new names)
    where
      free : (o : Option ℕ) → not (is_in o []) ≡ true
      free None = refl
      free (Some x) = refl

  -- at least one name
  pub read-clocks : (name : List ℕ) (names : List (List ℕ))
      → read_clocks K [] (name ∷ names) ≡ (if are_clocks K (name ∷ names) then Some (set_of K (name ∷ names)) else None)
  read-clocks name names =
      reads (name ∷ names) []
      ∙ ap₂ (λ (b : Bool) s. if b then Some s else None)
      (ap (λ b. (are_distinct (name ∷ names) && list_all is_clock (name ∷ names)) && b) (all-new (name ∷ names))
      ∙ and-true (are_distinct (name ∷ names) && list_all is_clock (name ∷ names)))
      (onto-all (name ∷ names))
    where
      and-true : (b : Bool) → (b && true) ≡ b
      and-true true = refl
      and-true false = refl

  -- what is asked for some names
  abbrev fire_of : Option Step → Asked
  fire_of None = Unknown
  fire_of (Some s) = Fire s

  pub asked-with : (word name : List ℕ) (names : List (List ℕ)) (o : Option Step) → bytes_eq word (codes "fire") ≡ true → o ≡ read_clocks K [] (name ∷ names) →
      fire_of o ≡ asked_with K word (name ∷ names)
  asked-with word name names o fire e =
      ap fire_of (e ∙ read-clocks name names)
      ∙ either (are_clocks K (name ∷ names))
      ∙ sym (ap (λ (b : Bool). if b && are_clocks K (name ∷ names) then Fire (set_of K (name ∷ names)) else Unknown) fire)
    where
      either : (b : Bool) → fire_of (if b then Some (set_of K (name ∷ names)) else None) ≡ (if b then Fire (set_of K (name ∷ names)) else Unknown)
      either true = refl
      either false = refl

  -- A SET OF NAMED CLOCKS is a set of declared clocks
  found-declared : (o : Option ℕ) (s : Step) → ((x : ℕ) → o ≡ Some x → x < K.declared) → is_declared K s ≡ true → is_declared K (with_found o s) ≡ true
  found-declared None s low h = h
  found-declared (Some x) s low h =
      let w = and_parts (is_ascending s) (are_below K.declared s) h in
      and_from (is_ascending (with_clock x s)) (are_below K.declared (with_clock x s)) (with_clock-ascends x s w.0)
      (all-with (λ y. nat_lt y K.declared) x s (lt-ltb x K.declared (low x refl)) w.1)

  pub set_of-declared : (names : List (List ℕ)) → is_declared K (set_of K names) ≡ true
  set_of-declared [] = refl
  set_of-declared (name ∷ names) =
      found-declared (clock_of name) (set_of K names)
      (λ x e. let l = found-within name (declared_names K) x e in omega (arith, l, length-take K.declared K.names))
      (set_of-declared names)

  pub set_of-some : (name : List ℕ) (names : List (List ℕ)) → are_clocks K (name ∷ names) ≡ true → set_of K (name ∷ names) ≢ []
  set_of-some name names h = on (clock_of name) refl
    where
      among : is_clock name ≡ true
      among =
          let all = (and_parts (are_distinct (name ∷ names)) (list_all is_clock (name ∷ names)) h).1 in
          (and_parts (is_clock name) (list_all is_clock names) all).0

      on : (o : Option ℕ) → clock_of name ≡ o → with_found o (set_of K names) ≢ []
      on None e z = true≢false (sym among ∙ no-clock name e)
      on (Some x) e z = with_clock-some x (set_of K names) z
