-- What is followed for some items: the clocks that they read, and all that these lead to.
use Rattle.std.proofs.lemmas.Grind.{common_steps}
use Rattle.std.proofs.Common.{◌≡◌, ℕ, ◌+◌, ◌<◌, List, [], ◌∷◌, Bool, true, ◌||◌, All, Some, nat_eq, nat_lt, filter, length, slice_get, get_or, refl}
use Rattle.std.proofs.Common.{ap, subst, arith, eq-eqb, lt-ltb}
use Rattle.std.specs.List.{list_all, list_any}
use Rattle.std.proofs.lemmas.Bool.{and_from, or_left, or_right}
use Rattle.std.proofs.lemmas.Option.{slice_get_within, get_or_from_slice_get}
use Rattle.ccsl_base.specs.declared.limits.TheConstants.{MAX_CLOCKS}
use Rattle.ccsl_base.specs.Clocks.{ticks_in, with_clock}
use Rattle.ccsl_kernel.specs.declared.constraint.Constraint.{Constraint}
use Rattle.ccsl_kernel.specs.Syntax.{System}
use Rattle.ccsl_kernel.specs.Accepted.{IsAccepted, IsConstraint, Each}
use Rattle.ccsl_kernel.specs.Lives.{Step}
use Rattle.ccsl_base.specs.Changes.{difference}
use Rattle.ccsl_base.proofs.Sets.{ticks_in-difference, ticks_in-filter}
use Rattle.ccsl_kernel.proofs.EachOne.{each_at}
use Rattle.ccsl_kernel.proofs.Sets.{ticks_in-with_clock}
use Rattle.ccsl_relate.specs.declared.watched.Related.{Related}
use Rattle.ccsl_relate.specs.declared.watched.Watched.{Watched}
use Rattle.ccsl_relate.specs.declared.watched.Watched.TheVariants.{Nothing, Definition, Relation}
use Rattle.ccsl_relate.specs.Watching.{Keeps, IsRelation, reads_only}
use Rattle.ccsl_relate.specs.Reading.{clocks_of}
use Rattle.ccsl_relate.specs.Following.{ReadsClocks}

-- whether one of some items reads clock x
abbrev pub is_read : ℕ → List Watched → Bool
is_read x kept = list_any (λ w. ticks_in x (clocks_of w)) kept

-- a member that is found, or one behind it
first-or : {P : Type 0} (x y : ℕ) (rest : Bool) → (nat_eq x y || rest) ≡ true → (x ≡ y → P) → (rest ≡ true → P) → P
first-or {P} x y rest t here there = grind (arith, common_steps)

itself : (x : ℕ) (rest : Bool) → (nat_eq x x || rest) ≡ true
itself x rest = or_left (nat_eq x x) rest (eq-eqb x x refl)

module _ (q : ℕ → Bool) where
  -- an item reads clocks of a kind alone
  reads-each : (w : Watched) (x : ℕ) → reads_only q w ≡ true → ticks_in x (clocks_of w) ≡ true → q x ≡ true
  reads-each Nothing x h t = grind (arith, common_steps)
  reads-each (Definition clock) x h t = grind (arith, common_steps, first-or)
  reads-each (Relation r) x h t = grind (arith, common_steps, first-or)

  reads-from : (w : Watched) → ((x : ℕ) → ticks_in x (clocks_of w) ≡ true → q x ≡ true) → reads_only q w ≡ true
  reads-from Nothing h = grind (arith, common_steps)
  reads-from (Definition clock) h = grind (arith, common_steps, itself)
  reads-from (Relation r) h = grind (arith, common_steps, itself)

  -- all items
  pub read-each : (kept : List Watched) (x : ℕ) → list_all (reads_only q) kept ≡ true → is_read x kept ≡ true → q x ≡ true
  read-each [] x h t = grind (arith, common_steps)
  read-each (w ∷ kept) x h t = grind (arith, common_steps, reads-each w x, read-each kept x)

  pub read-from : (kept : List Watched) → ((x : ℕ) → is_read x kept ≡ true → q x ≡ true) → list_all (reads_only q) kept ≡ true
  read-from [] h = refl
  read-from (w ∷ kept) h =
      and_from (reads_only q w) (list_all (reads_only q) kept)
      (reads-from w (λ x t. h x (or_left (ticks_in x (clocks_of w)) (is_read x kept) t)))
      (read-from kept (λ x t. h x (or_right (ticks_in x (clocks_of w)) (is_read x kept) t)))

-- clocks that are all below a number
pub subset-below : (clocks : List ℕ) (bound x : ℕ) → difference clocks (filter (λ y. nat_lt y bound) clocks) ≡ [] → ticks_in x clocks ≡ true
    → nat_lt x bound ≡ true
subset-below clocks bound x e t = grind (
  arith,
  common_steps,
  ap (ticks_in x) e,
  ticks_in-difference clocks (filter (λ y. nat_lt y bound) clocks) x,
  ticks_in-filter (λ y. nat_lt y bound) x clocks,
)

-- THE CLOCKS OF AN ITEM of an accepted system
module _ (K : System) (ok : IsAccepted K) where
  below-limit : (x : ℕ) → x < length K.names → nat_lt x MAX_CLOCKS ≡ true
  below-limit x l = let few = ok.few_clocks in lt-ltb x MAX_CLOCKS (omega (arith, l, few))

  constraint-clocks : (j : ℕ) (c : Constraint) → slice_get K.constraints j ≡ Some c → IsConstraint (length K.names) c
  constraint-clocks j c e =
      subst (IsConstraint (length K.names)) (get_or_from_slice_get K.constraints j c c e) (ok.constraints j c (slice_get_within K.constraints j c e))

  relation-clocks : (T : List Step) (i : ℕ) (r : Related) → IsRelation K T i r → ReadsClocks (Relation r)
  relation-clocks T i r f = grind (arith, common_steps, constraint-clocks, below-limit)

  item-clocks : (recorded : List ℕ) (T : List Step) (i : ℕ) (w : Watched) → Keeps K recorded T i w → ReadsClocks w
  item-clocks recorded T i Nothing f = refl
  item-clocks recorded T i (Definition clock) f =
      let defined = ok.defined in
      let d = f.definition in
      let is = f.clock_is in
      and_from (nat_lt clock MAX_CLOCKS) true (below-limit clock (omega (arith, defined, d, is))) refl
  item-clocks recorded T i (Relation r) f = relation-clocks T i r f

  pub items-clocks : (recorded : List ℕ) (T : List Step) (start : ℕ) (kept : List Watched) → Each (Keeps K recorded T) start kept → All ReadsClocks kept
  items-clocks recorded T start kept each k d l = item-clocks recorded T (start + k) (get_or kept k d) (each_at (Keeps K recorded T) start kept k d l each)

-- THE CLOCKS OF AN ITEM MORE in a set
pub with-one : (x clock : ℕ) (old new : List ℕ) (w : Watched) → new ≡ with_clock clock old → w ≡ Definition clock
    → ticks_in x new ≡ (ticks_in x old || ticks_in x (clocks_of w))
with-one x clock old new w is at = grind (arith, common_steps, ticks_in-with_clock)

pub with-two : (x : ℕ) (r : Related) (old mid new : List ℕ) (w : Watched) → mid ≡ with_clock r.left old → new ≡ with_clock r.right mid → w ≡ Relation r
    → ticks_in x new ≡ (ticks_in x old || ticks_in x (clocks_of w))
with-two x r old mid new w first second at = grind (arith, common_steps, ticks_in-with_clock)
