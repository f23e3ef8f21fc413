-- Where names stand in the list of all names, and what the items that are written and those that are hidden say of it.
use Rattle.std.proofs.Common.{◌≡◌, ℕ, suc, ◌+◌, ◌<◌, ◌≤◌, List, [], ◌∷◌, ◌++◌, append_assoc, Option, Some, None, length, length-append, map, filter_map, refl}
use Rattle.std.proofs.Common.{sym, ap, ◌∙◌, subst, arith}
use Rattle.std.specs.List.{AllByRecursion, cons_option}
use Rattle.ccsl_ast.specs.declared.definition.Kind.TheVariants as kind
use Rattle.ccsl_ast.specs.Trees.{PlainDefinition}
use Rattle.ccsl_kernel.specs.Syntax.{Body, System}
use Rattle.ccsl_kernel.specs.Syntax as kernel
use Rattle.ccsl_kernel.specs.declared.position.Position.TheVariants.{Inner}
use Rattle.ccsl_kernel.specs.Guarded.{Allowed}
use Rattle.ccsl_kernel.specs.Accepted.{Each, IsKnown, IsDefinition, IsConstraint}
use Rattle.ccsl_rules.specs.Spaces.{calls_space}
use Rattle.ccsl_rules.specs.Settings.{Atom, AClock, ANumber, AWord, AParam, atom_of}
use Rattle.ccsl_rules.specs.Resolved.{Tables, clock_number, resolve}
use Rattle.ccsl_rules.specs.Unfolded.{Item, Defines, Binds}
use Rattle.ccsl_rules.specs.Expansion.{written_item, hidden_item, item_name, item_definition, clock_in, constraint_of}
use Rattle.ccsl_rules.proofs.Ordered.{groups_in}
use Rattle.ccsl_rules.proofs.Known.{Fits}
use Rattle.ccsl_rules.proofs.Rising.{nowhere, names_in, place-front, Placed, Orderly, fits-more}
use Rattle.ccsl_accepts.proofs.Sound.{Fine, Sound, Veiled}

filter-step : {Y : Type 0} (o : Option Y) (xs ys zs : List Y) → xs ≡ ys ++ zs → cons_option o xs ≡ cons_option o ys ++ zs
filter-step None xs ys zs e = e
filter-step (Some y) xs ys zs e = ap (λ l. y ∷ l) e

pub filter-append : {X Y : Type 0} (f : X → Option Y) (xs ys : List X) → filter_map f (xs ++ ys) ≡ filter_map f xs ++ filter_map f ys
filter-append f [] ys = refl
filter-append f (x ∷ xs) ys = filter-step (f x) (filter_map f (xs ++ ys)) (filter_map f xs) (filter_map f ys) (filter-append f xs ys)

-- the names of the hidden items
abbrev pub hidden_names : List Item → List (List ℕ)
hidden_names xs = map item_name (filter_map hidden_item xs)

abbrev pub written_names : List Item → List (List ℕ)
written_names xs = map item_name (filter_map written_item xs)

pub map-append : {X Y : Type 0} (f : X → Y) (xs ys : List X) → map f (xs ++ ys) ≡ map f xs ++ map f ys
map-append f [] ys = refl
map-append f (x ∷ xs) ys = ap (λ l. f x ∷ l) (map-append f xs ys)

pub hidden-append : (xs ys : List Item) → hidden_names (xs ++ ys) ≡ hidden_names xs ++ hidden_names ys
hidden-append xs ys = ap (map item_name) (filter-append hidden_item xs ys) ∙ map-append item_name (filter_map hidden_item xs) (filter_map hidden_item ys)

module _ (K : Tables) where
  -- these names stand in the list of all names, from place X on
  pub record Stand (X : ℕ) (ns : List (List ℕ)) : Type 0 where
    pub front : List (List ℕ)
    pub back : List (List ℕ)
    pub whole : K.names ≡ front ++ (ns ++ back)
    pub long : length front ≡ X

  pub stand-left : (X : ℕ) (xs ys : List (List ℕ)) → Stand X (xs ++ ys) → Stand X xs
  stand-left X xs ys p = record { front = p.front; back = ys ++ p.back; whole = p.whole ∙ ap (λ l. p.front ++ l) (append_assoc xs ys p.back); long = p.long }

  pub stand-right : (X : ℕ) (xs ys : List (List ℕ)) → Stand X (xs ++ ys) → Stand (X + length xs) ys
  stand-right X xs ys p = record {
    front = p.front ++ xs;
    back = p.back;
    whole = p.whole ∙ (ap (λ l. p.front ++ l) (append_assoc xs ys p.back) ∙ sym (append_assoc p.front xs (ys ++ p.back)));
    long = let a = length-append p.front xs in let l = p.long in omega arith;
  }

  pub stand-first : (X : ℕ) (name : List ℕ) (ns : List (List ℕ)) → Stand X (name ∷ ns) → clock_number K.names name < suc X
  stand-first X name ns p =
      let at : clock_number (p.front ++ name ∷ (ns ++ p.back)) name ≤ length p.front = place-front p.front (ns ++ p.back) name in
      let l = p.long in
      subst (λ names. clock_number names name < suc X) (sym p.whole) (omega arith)

  pub stand-room : (X : ℕ) (ns : List (List ℕ)) → Stand X ns → X + length ns ≤ length K.names
  stand-room X ns p =
      let a = length-append p.front (ns ++ p.back) in
      let b = length-append ns p.back in
      let l = p.long in
      let w : length K.names ≡ length (p.front ++ (ns ++ p.back)) = ap length p.whole in
      omega arith

  pub placed-of : (groups : List (List Body)) (X : ℕ) (xs : List Item) → Stand X (names_in xs) → Placed groups K X xs
  placed-of groups X xs p = record { front = p.front; back = p.back; whole = p.whole; long = p.long }

  -- ## Items that are all hidden

  module _ (blocks : List PlainDefinition) (calls : K.calls ≡ calls_space 0 0 blocks) (groups : List (List Body)) where
    pub none-written : (xs : List Item) → AllByRecursion (Veiled K blocks calls) xs → filter_map written_item xs ≡ []
    none-written [] v = refl
    none-written (Defines [] name σ k e ∷ xs) v = absurd v.0
    none-written (Defines (b ∷ bs) name σ k e ∷ xs) v = none-written xs v.1
    none-written (Binds path σ a r b ∷ xs) v = none-written xs v.1

    pub names-hidden : (xs : List Item) → AllByRecursion (Veiled K blocks calls) xs → hidden_names xs ≡ names_in xs
    names-hidden [] v = refl
    names-hidden (Defines [] name σ k e ∷ xs) v = absurd v.0
    names-hidden (Defines (b ∷ bs) name σ k e ∷ xs) v = ap (λ l. name ∷ l) (names-hidden xs v.1)
    names-hidden (Binds path σ a r b ∷ xs) v = names-hidden xs v.1

    pub hidden-orderly : (X : ℕ) (xs : List Item) → AllByRecursion (Veiled K blocks calls) xs → Orderly groups K X xs
        → Orderly groups K X (filter_map hidden_item xs)
    hidden-orderly X [] v o = tt
    hidden-orderly X (Defines [] name σ k e ∷ xs) v o = absurd v.0
    hidden-orderly X (Defines (b ∷ bs) name σ k e ∷ xs) v o = (o.0, hidden-orderly (suc X) xs v.1 o.1)
    hidden-orderly X (Binds path σ a r b ∷ xs) v o = hidden-orderly X xs v.1 o.2

    -- the clocks of a constraint are named ones
    abbrev pub Bound : Item → Type 0
    Bound (Defines path name σ k e) = Unit {0}
    Bound (Binds path σ a r b) =
        Fits groups (length K.names) [] K (nowhere groups K) [] kind.Clock (atom_of σ a)
        × Fits groups (length K.names) [] K (nowhere groups K) [] kind.Clock (atom_of σ b)

    pub orderly-bound : (X : ℕ) (xs : List Item) → X + length (names_in xs) ≤ length K.names → Orderly groups K X xs → AllByRecursion Bound xs
    orderly-bound X [] l o = tt
    orderly-bound X (Defines path name σ k e ∷ xs) l o = (tt, orderly-bound (suc X) xs (omega arith) o.1)
    orderly-bound X (Binds path σ a r b ∷ xs) l o = (
      (
        fits-more groups K X (length K.names) kind.Clock (atom_of σ a) (omega arith) o.0,
        fits-more groups K X (length K.names) kind.Clock (atom_of σ b) (omega arith) o.1,
      ),
      orderly-bound X xs l o.2,
    )

    -- what is to be shown of items: X is the next written clock, H the next hidden one
    pub record Good (X H : ℕ) (xs : List Item) : Type 0 where
      pub written : Orderly groups K X (filter_map written_item xs)
      pub hidden : Orderly groups K H (filter_map hidden_item xs)
      pub bound : AllByRecursion Bound xs

    clock-below : (a : Atom) → Fits groups (length K.names) [] K (nowhere groups K) [] kind.Clock a → clock_in K.names a < length K.names
    clock-below (AClock n) f = f
    clock-below (AParam i o) f = absurd (let z = f.1 in cc)
    clock-below (ANumber n) f = absurd f
    clock-below (AWord w o) f = absurd f

    pub bound-constraints : (xs : List Item) → AllByRecursion (Sound K blocks calls) xs → AllByRecursion Bound xs
        → AllByRecursion (IsConstraint (length K.names)) (filter_map (constraint_of K.names) xs)
    bound-constraints [] s b = tt
    bound-constraints (Defines path name σ k e ∷ xs) s b = bound-constraints xs s.1 b.1
    bound-constraints (Binds path σ a r d ∷ xs) s b = ((clock-below (atom_of σ a) b.0.0, clock-below (atom_of σ d) b.0.1, s.0), bound-constraints xs s.1 b.1)

    -- ## Definitions

    module _ (system : System) (same_groups : system.groups ≡ groups) (same_words : system.words ≡ K.words)
        (many : length groups ≡ groups_in (length blocks) blocks) where
      define : (X : ℕ) (e : kernel.Expression) → Fine K blocks calls e → IsKnown groups K.words X [] e → IsDefinition system X e
      define X e f o = record {
        calls = subst (λ g. Allowed g Inner e) (sym (ap length same_groups ∙ many)) f.0;
        known = subst (λ gs. IsKnown gs system.words X [] e) (sym same_groups) (subst (λ ws. IsKnown groups ws X [] e) (sym same_words) o);
        shallow = f.1;
      }

      pub written-definitions : (X : ℕ) (xs : List Item) → AllByRecursion (Sound K blocks calls) xs → Orderly groups K X (filter_map written_item xs)
          → Each (IsDefinition system) X (map (item_definition K) (filter_map written_item xs))
      written-definitions X [] s o = tt
      written-definitions X (Defines [] name σ k e ∷ xs) s o = (define X (resolve K σ k e) s.0.0 o.0, written-definitions (suc X) xs s.1 o.1)
      written-definitions X (Defines (b ∷ bs) name σ k e ∷ xs) s o = written-definitions X xs s.1 o
      written-definitions X (Binds path σ a r b ∷ xs) s o = written-definitions X xs s.1 o

      pub hidden-definitions : (X : ℕ) (xs : List Item) → AllByRecursion (Sound K blocks calls) xs → Orderly groups K X (filter_map hidden_item xs)
          → Each (IsDefinition system) X (map (item_definition K) (filter_map hidden_item xs))
      hidden-definitions X [] s o = tt
      hidden-definitions X (Defines [] name σ k e ∷ xs) s o = hidden-definitions X xs s.1 o
      hidden-definitions X (Defines (b ∷ bs) name σ k e ∷ xs) s o = (define X (resolve K σ k e) s.0.0 o.0, hidden-definitions (suc X) xs s.1 o.1)
      hidden-definitions X (Binds path σ a r b ∷ xs) s o = hidden-definitions X xs s.1 o
