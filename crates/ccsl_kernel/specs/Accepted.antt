-- WHICH SYSTEMS ARE ACCEPTED, one field of IsAccepted a sentence.
use Rattle.std.specs.Prelude.{◌≡◌, ℕ, ◌+◌, ◌<◌, ◌≤◌, suc, List, [], ◌∷◌, ◌++◌, length, map, max, All, Bool, false, ◌&&◌, IsTrue, Some, slice_get, slice_index}
use Rattle.std.specs.Prelude.{nat_eq, nat_lt, nat_le, take_while, drop, if◌then◌else◌}
use Rattle.std.specs.List.{list_all, AllByRecursion}
use Rattle.ccsl_base.specs.declared.limits.TheConstants.{MAX_CLOCKS, MAX_CONSTRAINTS, MAX_CELLS, MAX_LEVELS, MAX_CALL_LEVELS, MAX_PARAMS}
use Rattle.ccsl_base.specs.Name.{is_name}
use Rattle.ccsl_base.specs.Letters.{is_inner}
use Rattle.ccsl_words.specs.Word.{BinaryWord, is_finite, word_len}
use Rattle.ccsl_kernel.specs.declared.expr.Place.TheVariants as place
use Rattle.ccsl_kernel.specs.declared.expr.NumPrim.TheVariants as prim
use Rattle.ccsl_kernel.specs.declared.expr.WordPlace.TheVariants as word
use Rattle.ccsl_kernel.specs.declared.expr.Value.TheVariants as value
use Rattle.ccsl_kernel.specs.declared.expr.ExprTest.TheVariants as test
use Rattle.ccsl_kernel.specs.declared.group.ParamKind.TheVariants as kind
use Rattle.ccsl_kernel.specs.declared.constraint.RelationKind.TheVariants.{PrecedesWithin}
use Rattle.ccsl_kernel.specs.Syntax.{Place, NumPrim, NumTerm, WordPlace, Value, ExprTest, ParamKind, RelationKind, Constraint, Expression, EName, ECall, ENever}
use Rattle.ccsl_kernel.specs.Syntax.{EBinary, EDelay, EAwait, EFilter, EDelayed, EIf, Body, System, body_of}
use Rattle.ccsl_kernel.specs.Guarded.{Tail, Inner, Allowed}
use Rattle.ccsl_kernel.specs.Cells.{cells, greatest}

-- an offset in a word: at most the length of a finite one, below the length of an infinite one
abbrev pub IsOffset : BinaryWord → ℕ → Type 0
IsOffset w o = o < word_len w + (if is_finite w then 1 else 0)

-- WHAT IS NAMED. Parameters have the kinds `params`, clocks are below `clocks`, words stand in the table `words`
module _ (groups : List (List Body)) (words : List BinaryWord) (clocks : ℕ) (params : List ParamKind) where
  abbrev pub HasKind : ℕ → ParamKind → Type 0
  HasKind i k = slice_get params i ≡ Some k

  abbrev pub IsClock : Place → Type 0
  IsClock (place.Clock x) = x < clocks
  IsClock (place.Param i) = HasKind i kind.Clock

  abbrev pub IsNumber : NumPrim → Type 0
  IsNumber (prim.Num n) = Unit {0}
  IsNumber (prim.Param i) = HasKind i kind.Number

  abbrev pub AreNumbers : NumTerm → Type 0
  AreNumbers t = IsNumber t.first × AllByRecursion (λ p. IsNumber p.1) t.rest

  abbrev pub IsWord : WordPlace → Type 0
  IsWord (word.Word w o) = (v : BinaryWord) × (slice_get words w ≡ Some v) × IsOffset v o
  IsWord (word.Param i) = HasKind i kind.Word
  IsWord (word.Tail i) = HasKind i kind.Word

  abbrev pub IsTest : ExprTest → Type 0
  IsTest (test.Equal t u) = AreNumbers t × AreNumbers u
  IsTest (test.Less t u) = AreNumbers t × AreNumbers u
  IsTest (test.Head w) = IsWord w
  IsTest (test.Ended w) = IsWord w

  -- an argument of the kind
  abbrev pub IsArgument : ParamKind → Value → Type 0
  IsArgument kind.Clock (value.Clock x) = IsClock x
  IsArgument kind.Number (value.Number t) = AreNumbers t
  IsArgument kind.Word (value.Word w) = IsWord w
  IsArgument _ _ = ⊥

  abbrev pub AreArguments : List ParamKind → List Value → Type 0
  AreArguments [] [] = Unit {0}
  AreArguments (k ∷ ks) (v ∷ vs) = IsArgument k v × AreArguments ks vs
  AreArguments _ _ = ⊥

  abbrev pub IsKnown : Expression → Type 0
  IsKnown (EName x) = IsClock x
  IsKnown (ECall group member args) = (b : Body) × (body_of groups group member ≡ Some b) × AreArguments b.params args
  IsKnown ENever = Unit {0}
  IsKnown (EBinary op a d) = IsKnown a × IsKnown d
  IsKnown (EDelay a m) = IsKnown a × AreNumbers m
  IsKnown (EAwait a m) = IsKnown a × AreNumbers m
  IsKnown (EFilter a w) = IsKnown a × IsWord w
  IsKnown (EDelayed a m d) = IsKnown a × IsKnown d
  IsKnown (EIf q a d) = IsTest q × IsKnown a × IsKnown d

-- DEPTH: how many operators and choices stand one in another, where a branch of a choice counts one at least, and the whole too
abbrev pub nesting : Expression → ℕ
nesting (EName x) = 0
nesting (ECall group member args) = 0
nesting ENever = 0
nesting (EBinary op a d) = 1 + max (nesting a) (nesting d)
nesting (EDelay a m) = 1 + nesting a
nesting (EAwait a m) = 1 + nesting a
nesting (EFilter a w) = 1 + nesting a
nesting (EDelayed a m d) = 1 + max (nesting a) (nesting d)
nesting (EIf q a d) = 1 + max (max 1 (nesting a)) (nesting d)

abbrev pub depth : Expression → ℕ
depth e = max 1 (nesting e)

-- LEVELS of groups, each from those before it
abbrev pub height : List ℕ → Expression → ℕ
height levels (EName x) = 0
height levels (ECall group member args) = slice_index levels group
height levels ENever = 0
height levels (EBinary op a d) = max (height levels a) (height levels d)
height levels (EDelay a m) = height levels a
height levels (EAwait a m) = height levels a
height levels (EFilter a w) = height levels a
height levels (EDelayed a m d) = max (height levels a) (height levels d)
height levels (EIf q a d) = max (height levels a) (height levels d)

abbrev pub group_levels : List ℕ → List (List Body) → List ℕ
group_levels levels [] = levels
group_levels levels (g ∷ gs) = group_levels (levels ++ suc (greatest (map (λ b. height levels b.root) g)) ∷ []) gs

-- NAMES of hidden clocks: a name of the grammar, then @, then bytes from 33 to 126
abbrev pub is_path_rest : List ℕ → Bool
is_path_rest [] = false
is_path_rest (b ∷ bs) = nat_eq b 64 && list_all (λ x. nat_le 33 x && nat_le x 126) bs

abbrev pub is_hidden : List ℕ → Bool
is_hidden name = is_name (take_while is_inner name) && is_path_rest (drop (length (take_while is_inner name)) name)

-- THE PIECES
-- a body of group number g
pub record IsBody (K : System) (g : ℕ) (b : Body) : Type 0 where
  pub few : length b.params ≤ MAX_PARAMS
  pub calls : Allowed g Tail b.root
  pub known : IsKnown K.groups K.words 0 b.params b.root
  pub shallow : depth b.root ≤ MAX_LEVELS

-- the definition of clock number x: it names lower clocks only
pub record IsDefinition (K : System) (x : ℕ) (e : Expression) : Type 0 where
  pub calls : Allowed (length K.groups) Inner e
  pub known : IsKnown K.groups K.words x [] e
  pub shallow : depth e ≤ MAX_LEVELS

-- a constraint between named clocks; a bound of precedence is at least 1
abbrev pub IsRelation : RelationKind → Type 0
IsRelation (PrecedesWithin m) = 1 ≤ m
IsRelation _ = Unit {0}

abbrev pub IsConstraint : ℕ → Constraint → Type 0
IsConstraint clocks c = (c.left < clocks) × (c.right < clocks) × IsRelation c.kind

abbrev pub Each : {A : Type 0} → (ℕ → A → Type 0) → ℕ → List A → Type 0
Each P i [] = Unit {0}
Each P i (x ∷ xs) = P i x × Each P (suc i) xs

pub record IsAccepted (K : System) : Type 0 where
  pub declared : K.declared ≤ K.written
  pub written : K.written ≤ length K.names
  pub few_clocks : length K.names ≤ MAX_CLOCKS
  pub defined : K.declared + length K.definitions ≡ length K.names
  pub names : Each (λ i name. IsTrue (if nat_lt i K.written then is_name name else is_hidden name)) 0 K.names
  pub bodies : Each (λ g members. All (IsBody K g) members) 0 K.groups
  pub definitions : Each (IsDefinition K) K.declared K.definitions
  pub constraints : All (IsConstraint (length K.names)) K.constraints
  pub levels : All (λ n. n ≤ MAX_CALL_LEVELS) (group_levels [] K.groups)
  pub few_constraints : length K.constraints ≤ MAX_CONSTRAINTS
  pub few_cells : cells K ≤ MAX_CELLS
