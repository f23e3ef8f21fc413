-- What the parts of an accepted system obey: guarded calls, scopes, offsets that fit, and bounded depth.
use Rattle.std.proofs.Common.{◌≡◌, ℕ, zero, suc, ◌+◌, ◌-◌, ◌<◌, ◌≤◌, List, [], ◌∷◌, All, Bool, true, false, Option, Some, None}
use Rattle.std.proofs.Common.{slice_get, nat_lt, if◌then◌else◌, refl, sym, ap, subst, arith, ltb-false}
use Rattle.std.proofs.lemmas.List.Elements.{All-nil, All-cons}
use Rattle.std.proofs.lemmas.Option.{slice_get_within, get_or_from_slice_get}
use Rattle.ccsl_base.specs.declared.limits.TheConstants.{MAX_LEVELS}
use Rattle.ccsl_words.specs.Word.{BinaryWord}
use Rattle.ccsl_kernel.specs.declared.expr.Place.{Place}
use Rattle.ccsl_kernel.specs.declared.expr.Place.TheVariants as place
use Rattle.ccsl_kernel.specs.declared.expr.WordPlace.{WordPlace}
use Rattle.ccsl_kernel.specs.declared.expr.WordPlace.TheVariants as word
use Rattle.ccsl_kernel.specs.declared.expr.Value.{Value}
use Rattle.ccsl_kernel.specs.declared.expr.Value.TheVariants as value
use Rattle.ccsl_kernel.specs.declared.expr.ExprTest.{ExprTest}
use Rattle.ccsl_kernel.specs.declared.expr.ExprTest.TheVariants as test
use Rattle.ccsl_kernel.specs.declared.group.ParamKind.{ParamKind}
use Rattle.ccsl_kernel.specs.declared.group.ParamKind.TheVariants as kind
use Rattle.ccsl_kernel.specs.Syntax.{Expression, EName, ECall, ENever, EBinary, EDelay, EAwait, EFilter, EDelayed, EIf, Body, System, body_of, root_or_never}
use Rattle.ccsl_kernel.specs.Syntax.{root_of, definition_of}
use Rattle.ccsl_kernel.specs.Actuals.{word_or_empty}
use Rattle.ccsl_kernel.specs.Guarded.{Tail, Allowed}
use Rattle.ccsl_kernel.specs.Accepted.{IsOffset, IsKnown, IsClock, IsWord, IsTest, IsArgument, AreArguments, nesting, depth, IsBody, IsDefinition, Each}
use Rattle.ccsl_kernel.specs.Accepted.{IsAccepted}
use Rattle.ccsl_kernel.specs.Fit.{PlaceFits, TestFits, ValueFits}
use Rattle.ccsl_kernel.specs.Fitting.{ValuesFit, ExprFits}
use Rattle.ccsl_kernel.specs.Deep.{deep}
use Rattle.ccsl_kernel.proofs.Scoped.{NamesBelow, IsScoped}
use Rattle.ccsl_kernel.specs.Within.{PlaceWithin, ArgsWithin}
use Rattle.ccsl_kernel.proofs.GuardedCalls.{AreAllowed, IsGuarded}

Each-at : {A : Type 0} (P : ℕ → A → Type 0) (i : ℕ) (xs : List A) (j : ℕ) (x : A) → Each P i xs → slice_get xs j ≡ Some x → P (i + j) x
Each-at P i [] j x h e = let z : ⊥ = cc in absurd z
Each-at P i (y ∷ xs) zero x h e = let s : y ≡ x = cc in let at : i ≡ i + 0 = omega arith in subst (λ k. P k x) at (subst (P i) s h.0)
Each-at P i (y ∷ xs) (suc j) x h e = let at : suc i + j ≡ i + suc j = omega arith in subst (λ k. P k x) at (Each-at P (suc i) xs j x h.1 e)

All-at : {A : Type 0} (P : A → Type 0) (xs : List A) (j : ℕ) (x : A) → All P xs → slice_get xs j ≡ Some x → P x
All-at P xs j x h e = subst P (get_or_from_slice_get xs j x x e) (h j x (slice_get_within xs j x e))

-- the body of a member
pub body_is : (K : System) (g m : ℕ) (b : Body) → IsAccepted K → body_of K.groups g m ≡ Some b → IsBody K g b
body_is K g m b ok e = on (slice_get K.groups g) refl e
  where
    on : (o : Option (List Body)) → slice_get K.groups g ≡ o → elim o [ None ↦ None | Some members ↦ slice_get members m ] ≡ Some b → IsBody K g b
    on None at e = let z : ⊥ = cc in absurd z
    on (Some members) at e =
        let same : 0 + g ≡ g = omega arith in
        All-at (IsBody K g) members m b
        (subst (λ k. All (IsBody K k) members) same (Each-at (λ g members. All (IsBody K g) members) 0 K.groups g members ok.bodies at)) e

-- the definition of a clock
pub definition_is : (K : System) (x : ℕ) (e : Expression) → IsAccepted K → definition_of K x ≡ Some e → IsDefinition K x e
definition_is K x e ok is = on (nat_lt x K.declared) refl is
  where
    on : (t : Bool) → nat_lt x K.declared ≡ t → (if t then None else slice_get K.definitions (x - K.declared)) ≡ Some e → IsDefinition K x e
    on true below is = let z : ⊥ = cc in absurd z
    on false below is =
        let at : K.declared + (x - K.declared) ≡ x = let l = ltb-false x K.declared below in omega arith in
        subst (λ k. IsDefinition K k e) at (Each-at (IsDefinition K) K.declared K.definitions (x - K.declared) e ok.definitions is)

definitions_allowed : (K : System) (x : ℕ) (es : List Expression) → Each (IsDefinition K) x es → AreAllowed K es
definitions_allowed K x [] h = tt
definitions_allowed K x (e ∷ es) h = (h.0.calls, definitions_allowed K (suc x) es h.1)

-- a body that is there, or never
at_root : (K : System) (g m : ℕ) (P : Expression → Type 0) → P ENever → ((b : Body) → body_of K.groups g m ≡ Some b → P b.root) → P (root_of K g m)
at_root K g m P never body = on (body_of K.groups g m) refl
  where
    on : (o : Option Body) → body_of K.groups g m ≡ o → P (root_or_never o)
    on None e = never
    on (Some b) e = body b e

-- CALLS ARE GUARDED
pub accepted_guarded : (K : System) → IsAccepted K → IsGuarded K
accepted_guarded K ok = record {
  bodies = λ g m. at_root K g m (Allowed g Tail) tt (λ b e. (body_is K g m b ok e).calls);
  definitions = definitions_allowed K K.declared K.definitions ok.definitions;
}

module _ (groups : List (List Body)) (words : List BinaryWord) (clocks : ℕ) (params : List ParamKind) where
  place_below : (x : Place) → IsClock groups words clocks params x → PlaceWithin (λ y. y < clocks) x
  place_below (place.Clock x) h = h
  place_below (place.Param i) h = tt

  args_below : (ks : List ParamKind) (vs : List Value) → AreArguments groups words clocks params ks vs → ArgsWithin (λ y. y < clocks) vs
  args_below [] [] h = tt
  args_below [] (v ∷ vs) h = absurd h
  args_below (k ∷ ks) [] h = absurd h
  args_below (kind.Clock ∷ ks) (value.Clock x ∷ vs) h = (place_below x h.0, args_below ks vs h.1)
  args_below (kind.Number ∷ ks) (value.Clock x ∷ vs) h = absurd h.0
  args_below (kind.Word ∷ ks) (value.Clock x ∷ vs) h = absurd h.0
  args_below (k ∷ ks) (value.Number t ∷ vs) h = args_below ks vs h.1
  args_below (k ∷ ks) (value.Word w ∷ vs) h = args_below ks vs h.1

  -- what is known names clocks in scope
  names_below : (e : Expression) → IsKnown groups words clocks params e → NamesBelow clocks e
  names_below (EName x) h = place_below x h
  names_below (ECall group member args) h = args_below h.0.params args h.2
  names_below ENever h = tt
  names_below (EBinary op a d) h = (names_below a h.0, names_below d h.1)
  names_below (EDelay a m) h = names_below a h.0
  names_below (EAwait a m) h = names_below a h.0
  names_below (EFilter a w) h = names_below a h.0
  names_below (EDelayed a m d) h = (names_below a h.0, names_below d h.1)
  names_below (EIf q a d) h = (names_below a h.1, names_below d h.2)

  place_fits : (w : WordPlace) → IsWord groups words clocks params w → PlaceFits words w
  place_fits (word.Word w o) h = subst (λ v. IsOffset v o) (sym (ap word_or_empty h.1)) h.2
  place_fits (word.Param i) h = tt
  place_fits (word.Tail i) h = tt

  test_fits : (q : ExprTest) → IsTest groups words clocks params q → TestFits words q
  test_fits (test.Equal t u) h = tt
  test_fits (test.Less t u) h = tt
  test_fits (test.Head w) h = place_fits w h
  test_fits (test.Ended w) h = place_fits w h

  value_fits : (k : ParamKind) (v : Value) → IsArgument groups words clocks params k v → ValueFits words v
  value_fits k (value.Clock x) h = tt
  value_fits k (value.Number t) h = tt
  value_fits kind.Word (value.Word w) h = place_fits w h
  value_fits kind.Clock (value.Word w) h = absurd h
  value_fits kind.Number (value.Word w) h = absurd h

  values_fit : (ks : List ParamKind) (vs : List Value) → AreArguments groups words clocks params ks vs → ValuesFit words vs
  values_fit [] [] h = All-nil (ValueFits words)
  values_fit [] (v ∷ vs) h = absurd h
  values_fit (k ∷ ks) [] h = absurd h
  values_fit (k ∷ ks) (v ∷ vs) h = All-cons (ValueFits words) v vs (value_fits k v h.0) (values_fit ks vs h.1)

  -- and its words' offsets fit
  known_fits : (e : Expression) → IsKnown groups words clocks params e → ExprFits words e
  known_fits (EName x) h = tt
  known_fits (ECall group member args) h = values_fit h.0.params args h.2
  known_fits ENever h = tt
  known_fits (EBinary op a d) h = (known_fits a h.0, known_fits d h.1)
  known_fits (EDelay a m) h = known_fits a h.0
  known_fits (EAwait a m) h = known_fits a h.0
  known_fits (EFilter a w) h = (known_fits a h.0, place_fits w h.1)
  known_fits (EDelayed a m d) h = (known_fits a h.0, known_fits d h.1)
  known_fits (EIf q a d) h = (test_fits q h.0, known_fits a h.1, known_fits d h.2)

-- SCOPES
pub accepted_scoped : (K : System) → IsAccepted K → IsScoped K
accepted_scoped K ok = record {
  bodies = λ g m. at_root K g m (NamesBelow 0) tt (λ b e. let body = body_is K g m b ok e in names_below K.groups K.words 0 b.params b.root body.known);
  definitions = λ x e is. names_below K.groups K.words x [] e (definition_is K x e ok is).known;
}

-- leaves counted, it is at most one deeper
deep_nested : (e : Expression) → deep e ≤ suc (nesting e)
deep_nested (EName x) = omega arith
deep_nested (ECall group member args) = omega arith
deep_nested ENever = omega arith
deep_nested (EBinary op a d) = let p = deep_nested a in let q = deep_nested d in omega arith
deep_nested (EDelay a m) = let p = deep_nested a in omega arith
deep_nested (EAwait a m) = let p = deep_nested a in omega arith
deep_nested (EFilter a w) = let p = deep_nested a in omega arith
deep_nested (EDelayed a m d) = let p = deep_nested a in let q = deep_nested d in omega arith
deep_nested (EIf q a d) = let p = deep_nested a in let r = deep_nested d in omega arith

deep_within : (e : Expression) → deep e ≤ suc (depth e)
deep_within e = let l = deep_nested e in omega arith

-- an expression that can be opened: its words' offsets fit and it is at most MAX_LEVELS + 1 deep
pub body_ready : (K : System) (g : ℕ) (b : Body) → IsBody K g b → ExprFits K.words b.root × (deep b.root ≤ suc MAX_LEVELS)
body_ready K g b h = (known_fits K.groups K.words 0 b.params b.root h.known, let l = deep_within b.root in let m = h.shallow in omega arith)

pub definition_ready : (K : System) (x : ℕ) (e : Expression) → IsDefinition K x e → ExprFits K.words e × (deep e ≤ suc MAX_LEVELS)
definition_ready K x e h = (known_fits K.groups K.words x [] e h.known, let l = deep_within e in let m = h.shallow in omega arith)
