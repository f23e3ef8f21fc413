-- The state tree: what is kept of an expression between steps. It knows no past step.
--     One, Two      what a node over one operand keeps, and over two
--     Tree      a state
--     opening      the state of an expression at its birth
--     formula_of t, dead_of gone t      its formula, and its death where gone x tells whether clock x is dead
--     next s gone t      the state after the step s, where gone tells of the clocks after that step
use Rattle.std.specs.Prelude.{ℕ, zero, suc, ◌+◌, ◌-◌, ◌^◌, List, [], ◌∷◌, Bool, false, not, ◌&&◌, ◌||◌, Option, Some, None, map, length, min, slice_index_or}
use Rattle.std.specs.Prelude.{replicate, nat_eq, nat_lt, nat_le, if◌then◌else◌}
use Rattle.ccsl_formula.specs.Formula.{Formula, FFalse, FVar, FNot, FAnd, FOr, eval}
use Rattle.ccsl_words.specs.Word.{BinaryWord, letter, rest, is_finite}
use Rattle.ccsl_kernel.specs.declared.expr.ExprOp.{ExprOp}
use Rattle.ccsl_kernel.specs.declared.expr.ExprOp.TheVariants as op
use Rattle.ccsl_kernel.specs.declared.actual.Actual.{Actual}
use Rattle.ccsl_kernel.specs.declared.actual.Actual.TheVariants as actual
use Rattle.ccsl_kernel.specs.Syntax.{Expression, EName, ECall, ENever, EBinary, EDelay, EAwait, EFilter, EDelayed, EIf, System, root_of}
use Rattle.ccsl_kernel.specs.Actuals.{place_of, number_of, suffix_of, value_of, test_of, word_of}
use Rattle.ccsl_kernel.specs.Lives.{Step}

-- the last value of a counter
abbrev pub most : ℕ
most = 2 ^ 64 - 1

-- a count after a step; at the last value it stays
abbrev pub bumped : Bool → ℕ → ℕ
bumped t c = if t then min (suc c) most else c

-- over one operand: the number and the ticks so far, or a word and the offset of its next letter
pub data One : Type 0 where
  Delaying : (m ticks : ℕ) → One
  Awaiting : (m ticks : ℕ) → One
  Filtering : (w : BinaryWord) → (offset : ℕ) → One

-- over two operands: the ticks so far of each, whether k ticked, whether a tick of a waits, or for each i below m whether a
-- ticked and d then just i times
pub data Two : Type 0 where
  Uniting : Two
  Meeting : Two
  Lessening : Two
  Leading : (a d : ℕ) → Two
  Trailing : (a d : ℕ) → Two
  Ending : (seen : Bool) → Two
  EndingWeakly : (seen : Bool) → Two
  Sampling : (waiting : Bool) → Two
  SamplingWeakly : (waiting : Bool) → Two
  Lagging : (m : ℕ) → (waiting : List Bool) → Two

pub data Tree : Type 0 where
  TName : (x : ℕ) → Tree
  TNever : Tree
  TOne : (o : One) → (a : Tree) → Tree
  TTwo : (o : Two) → (a d : Tree) → Tree
  TThen : (a : Tree) → (d : Expression) → (values : List Actual) → Tree

abbrev pub one_formula : One → Formula → Formula
one_formula (Delaying m ticks) f = if nat_le m ticks then f else FFalse
one_formula (Awaiting m ticks) f = if nat_eq (ticks + 1) m then f else FFalse
one_formula (Filtering w o) f = if letter w o then f else FFalse

-- whether the node ticks, from its operand's tick
abbrev pub one_ticks : One → Bool → Bool
one_ticks (Delaying m ticks) t = nat_le m ticks && t
one_ticks (Awaiting m ticks) t = nat_eq (ticks + 1) m && t
one_ticks (Filtering w o) t = letter w o && t

abbrev pub one_dead : One → Bool → Bool
one_dead (Delaying m ticks) x = x
one_dead (Awaiting m ticks) x = x || nat_le m ticks
one_dead (Filtering w o) x = x || (is_finite w && nat_le (length w.prefix) o)

-- after a step in which the operand ticked or did not
abbrev pub one_next : One → Bool → One
one_next (Delaying m ticks) t = Delaying m (bumped t ticks)
one_next (Awaiting m ticks) t = Awaiting m (bumped t ticks)
one_next (Filtering w o) t = Filtering w (if t then rest w o else o)

abbrev pub two_formula : Two → Formula → Formula → Formula
two_formula Uniting f g = FOr f g
two_formula Meeting f g = FAnd f g
two_formula Lessening f g = FAnd f (FNot g)
two_formula (Leading a d) f g = if nat_lt d a then f else if nat_lt a d then g else FOr f g
two_formula (Trailing a d) f g = if nat_lt a d then f else if nat_lt d a then g else FAnd f g
two_formula (Ending seen) f g = if seen then FFalse else FAnd f (FNot g)
two_formula (EndingWeakly seen) f g = if seen then FFalse else f
two_formula (Sampling waiting) f g = if waiting then g else FFalse
two_formula (SamplingWeakly waiting) f g = if waiting then g else FAnd g f
two_formula (Lagging m waiting) f g = if slice_index_or waiting (m - 1) false then g else FFalse

abbrev pub two_ticks : Two → Bool → Bool → Bool
two_ticks Uniting t u = t || u
two_ticks Meeting t u = t && u
two_ticks Lessening t u = t && not u
two_ticks (Leading a d) t u = if nat_lt d a then t else if nat_lt a d then u else (t || u)
two_ticks (Trailing a d) t u = if nat_lt a d then t else if nat_lt d a then u else (t && u)
two_ticks (Ending seen) t u = if seen then false else (t && not u)
two_ticks (EndingWeakly seen) t u = if seen then false else t
two_ticks (Sampling waiting) t u = if waiting then u else false
two_ticks (SamplingWeakly waiting) t u = if waiting then u else (u && t)
two_ticks (Lagging m waiting) t u = if slice_index_or waiting (m - 1) false then u else false

-- whether some place is set
abbrev pub any_set : List Bool → Bool
any_set [] = false
any_set (x ∷ xs) = x || any_set xs

abbrev pub two_dead : Two → Bool → Bool → Bool
two_dead Uniting x y = x && y
two_dead Meeting x y = x || y
two_dead Lessening x y = x
two_dead (Leading a d) x y = x && y
two_dead (Trailing a d) x y = (x && nat_le a d) || (y && nat_le d a)
two_dead (Ending seen) x y = x || seen
two_dead (EndingWeakly seen) x y = x || seen
two_dead (Sampling waiting) x y = y || (x && not waiting)
two_dead (SamplingWeakly waiting) x y = y || (x && not waiting)
two_dead (Lagging m waiting) x y = y || (x && not (any_set waiting))

-- each place one further, and the last one lost
abbrev pub shifted : Bool → List Bool → List Bool
shifted first [] = []
shifted first (x ∷ xs) = first ∷ shifted x xs

abbrev pub set_first : Bool → List Bool → List Bool
set_first t [] = []
set_first t (x ∷ xs) = (t || x) ∷ xs

-- after a step in which a ticked or did not, and d ticked or did not
abbrev pub two_next : Two → Bool → Bool → Two
two_next (Leading a d) t u = Leading (bumped t a) (bumped u d)
two_next (Trailing a d) t u = Trailing (bumped t a) (bumped u d)
two_next (Ending seen) t u = Ending (seen || u)
two_next (EndingWeakly seen) t u = EndingWeakly (seen || u)
two_next (Sampling waiting) t u = Sampling (t || (waiting && not u))
two_next (SamplingWeakly waiting) t u = SamplingWeakly ((t || waiting) && not u)
two_next (Lagging m waiting) t u = Lagging m (set_first t (if u then shifted false waiting else waiting))
two_next Uniting t u = Uniting
two_next Meeting t u = Meeting
two_next Lessening t u = Lessening

abbrev pub formula_of : Tree → Formula
formula_of (TName x) = FVar x
formula_of TNever = FFalse
formula_of (TOne o a) = one_formula o (formula_of a)
formula_of (TTwo o a d) = two_formula o (formula_of a) (formula_of d)
formula_of (TThen a d ρ) = formula_of a

abbrev pub dead_of : (ℕ → Bool) → Tree → Bool
dead_of gone (TName x) = gone x
dead_of gone TNever = false
dead_of gone (TOne o a) = one_dead o (dead_of gone a)
dead_of gone (TTwo o a d) = two_dead o (dead_of gone a) (dead_of gone d)
dead_of gone (TThen a d ρ) = false

-- the node of an operator at its birth; a then has none
abbrev pub two_opened : ExprOp → Option Two
two_opened op.Union = Some Uniting
two_opened op.Inter = Some Meeting
two_opened op.Minus = Some Lessening
two_opened op.Inf = Some (Leading 0 0)
two_opened op.Sup = Some (Trailing 0 0)
two_opened op.Upto = Some (Ending false)
two_opened op.UptoWeakly = Some (EndingWeakly false)
two_opened op.Then = None
two_opened op.Sampled = Some (Sampling false)
two_opened op.SampledWeakly = Some (SamplingWeakly false)

-- an operator over two trees, and a then with its right operand still to be born
abbrev pub over : Option Two → Tree → Tree → Expression → List Actual → Tree
over None a t d ρ = TThen a d ρ
over (Some o) a t d ρ = TTwo o a t

-- a name: the clock itself
abbrev pub leaf : Actual → Tree
leaf (actual.Clock x) = TName x
leaf _ = TNever

module _ (K : System) where
  -- calls group member ρ: the state of a group's member at its birth
  abbrev pub open_with : (ℕ → ℕ → List Actual → Tree) → Expression → List Actual → Tree
  open_with calls (EName x) ρ = leaf (place_of x ρ)
  open_with calls (ECall group member args) ρ = calls group member (map (value_of K.words ρ) args)
  open_with calls ENever ρ = TNever
  open_with calls (EBinary o a d) ρ = over (two_opened o) (open_with calls a ρ) (open_with calls d ρ) d ρ
  open_with calls (EDelay a m) ρ = TOne (Delaying (number_of m ρ) 0) (open_with calls a ρ)
  open_with calls (EAwait a m) ρ = TOne (Awaiting (number_of m ρ) 0) (open_with calls a ρ)
  open_with calls (EFilter a w) ρ = let s = suffix_of K.words w ρ in TOne (Filtering (word_of K.words s.word) s.offset) (open_with calls a ρ)
  open_with calls (EDelayed a m d) ρ = TTwo (Lagging m (replicate m false)) (open_with calls a ρ) (open_with calls d ρ)
  open_with calls (EIf q a d) ρ = if test_of K.words q ρ then open_with calls a ρ else open_with calls d ρ

  -- members of groups, through at most so many calls one in another
  abbrev pub open_bodies : ℕ → ℕ → ℕ → List Actual → Tree
  open_bodies zero group member ρ = TNever
  open_bodies (suc level) group member ρ = open_with (open_bodies level) (root_of K group member) ρ

  -- the right operand of a then is not opened with it, so that each call is of an earlier group
  abbrev pub opening : Expression → List Actual → Tree
  opening = open_with (open_bodies (length K.groups))

  -- a then whose left operand has died is its right operand, born now
  abbrev pub then_or_right : Bool → Tree → Expression → List Actual → Tree
  then_or_right left_is_dead a d ρ = if left_is_dead then opening d ρ else TThen a d ρ

  abbrev pub next : Step → (ℕ → Bool) → Tree → Tree
  next s gone (TName x) = TName x
  next s gone TNever = TNever
  next s gone (TOne o a) = TOne (one_next o (eval (formula_of a) s)) (next s gone a)
  next s gone (TTwo o a d) = TTwo (two_next o (eval (formula_of a) s) (eval (formula_of d) s)) (next s gone a) (next s gone d)
  next s gone (TThen a d ρ) = then_or_right (dead_of gone (next s gone a)) (next s gone a) d ρ
