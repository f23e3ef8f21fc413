-- What the slow evaluation of a formula keeps of an expression from step to step: whole lists of ticks.
--     Course      the expression so far: at which steps since its birth each operand ticked
--     now_of gone c      its formula and its death, by the rows of the table
--     next K s gone later c      the course after the step s
--     opening K e ρ      the course of an expression at its birth
--     grown, life_of      the course after the steps from a birth on, and so a life
use Rattle.std.specs.Prelude.{ℕ, zero, suc, List, [], ◌∷◌, ◌++◌, Bool, false, Option, Some, None, map, length, nat_le, if◌then◌else◌}
use Rattle.ccsl_formula.specs.Formula.{FVar, eval}
use Rattle.ccsl_kernel.specs.declared.expr.ExprOp.{ExprOp}
use Rattle.ccsl_kernel.specs.declared.expr.ExprOp.TheVariants as op
use Rattle.ccsl_kernel.specs.declared.actual.Actual.{Actual}
use Rattle.ccsl_kernel.specs.declared.actual.Actual.TheVariants as actual
use Rattle.ccsl_kernel.specs.Syntax.{Expression, EName, ECall, ENever, EBinary, EDelay, EAwait, EFilter, EDelayed, EIf, System, root_of}
use Rattle.ccsl_kernel.specs.Actuals.{place_of, number_of, suffix_of, value_of, test_of, word_of}
use Rattle.ccsl_kernel.specs.Table.{Now, Operand, never_row, union_row, inter_row, minus_row, inf_row, sup_row, upto_row, upto_weakly_row, sampled_row}
use Rattle.ccsl_kernel.specs.Table.{sampled_weakly_row, delay_row, await_row, filter_row, delayed_row}
use Rattle.ccsl_kernel.specs.Lives.{Step, Life, step_at}

pub data Course : Type 0 where
  CName : (x : ℕ) → Course
  CNever : Course
  CUnary : (row : Operand → Now) → (a : Course) → (p : List Bool) → Course
  CBinary : (row : Operand → Operand → Now) → (a d : Course) → (p q : List Bool) → Course
  CThen : (a : Course) → (d : Expression) → (ρ : List Actual) → Course

-- an operand with its ticks so far
abbrev pub operand_of : Now → List Bool → Operand
operand_of now p = record { formula = now.formula; dead = now.dead; ticks = p }

-- gone x: whether clock x is dead
abbrev pub now_of : (ℕ → Bool) → Course → Now
now_of gone (CName x) = record { formula = FVar x; dead = gone x }
now_of gone CNever = never_row
now_of gone (CUnary row a p) = row (operand_of (now_of gone a) p)
now_of gone (CBinary row a d p q) = row (operand_of (now_of gone a) p) (operand_of (now_of gone d) q)
now_of gone (CThen a d ρ) = record { formula = (now_of gone a).formula; dead = false }

-- whether it ticks in a step
abbrev pub tick_of : Step → (ℕ → Bool) → Course → Bool
tick_of s gone c = eval (now_of gone c).formula s

-- the row of an operator; a then has none
abbrev pub operator_row : ExprOp → Option (Operand → Operand → Now)
operator_row op.Union = Some union_row
operator_row op.Inter = Some inter_row
operator_row op.Minus = Some minus_row
operator_row op.Inf = Some inf_row
operator_row op.Sup = Some sup_row
operator_row op.Upto = Some upto_row
operator_row op.UptoWeakly = Some upto_weakly_row
operator_row op.Then = None
operator_row op.Sampled = Some sampled_row
operator_row op.SampledWeakly = Some sampled_weakly_row

-- an operator over the courses a and c, and a then with the right operand d still to be born
abbrev pub over : Option (Operand → Operand → Now) → Course → Course → Expression → List Actual → Course
over None a c d ρ = CThen a d ρ
over (Some row) a c d ρ = CBinary row a c [] []

abbrev pub leaf : Actual → Course
leaf (actual.Clock x) = CName x
leaf _ = CNever

module _ (K : System) where
  -- calls group member ρ: the course of a group's member at its birth
  abbrev pub open_with : (ℕ → ℕ → List Actual → Course) → Expression → List Actual → Course
  open_with calls (EName x) ρ = leaf (place_of x ρ)
  open_with calls (ECall group member args) ρ = calls group member (map (value_of K.words ρ) args)
  open_with calls ENever ρ = CNever
  open_with calls (EBinary o a d) ρ = over (operator_row o) (open_with calls a ρ) (open_with calls d ρ) d ρ
  open_with calls (EDelay a m) ρ = CUnary (delay_row (number_of m ρ)) (open_with calls a ρ) []
  open_with calls (EAwait a m) ρ = CUnary (await_row (number_of m ρ)) (open_with calls a ρ) []
  open_with calls (EFilter a w) ρ = let s = suffix_of K.words w ρ in CUnary (filter_row (word_of K.words s.word) s.offset) (open_with calls a ρ) []
  open_with calls (EDelayed a m d) ρ = CBinary (delayed_row m) (open_with calls a ρ) (open_with calls d ρ) [] []
  open_with calls (EIf q a d) ρ = if test_of K.words q ρ then open_with calls a ρ else open_with calls d ρ

  -- members of groups, through at most so many calls one in another
  abbrev pub open_bodies : ℕ → ℕ → ℕ → List Actual → Course
  open_bodies zero group member ρ = CNever
  open_bodies (suc level) group member ρ = open_with (open_bodies level) (root_of K group member) ρ

  -- the right operand of a then is not opened with it, so that each call is of an earlier group
  abbrev pub opening : Expression → List Actual → Course
  opening = open_with (open_bodies (length K.groups))

  -- a then whose left operand has died is its right operand, born now
  abbrev pub then_or_right : Bool → Course → Expression → List Actual → Course
  then_or_right left_is_dead a d ρ = if left_is_dead then opening d ρ else CThen a d ρ

  -- gone: which clocks are dead at the step, and later: after it
  abbrev pub next : Step → (ℕ → Bool) → (ℕ → Bool) → Course → Course
  next s gone later (CName x) = CName x
  next s gone later CNever = CNever
  next s gone later (CUnary row a p) = CUnary row (next s gone later a) (p ++ tick_of s gone a ∷ [])
  next s gone later (CBinary row a d p q) = CBinary row (next s gone later a) (next s gone later d) (p ++ tick_of s gone a ∷ []) (q ++ tick_of s gone d ∷ [])
  next s gone later (CThen a d ρ) = then_or_right (now_of later (next s gone later a)).dead (next s gone later a) d ρ

  module _ (T : List Step) (gone : ℕ → ℕ → Bool) where
    -- the course that was c at b, at n
    abbrev pub grown : Course → ℕ → ℕ → Course
    grown c b zero = c
    grown c b (suc n) = if nat_le b n then next (step_at T n) (gone n) (gone (suc n)) (grown c b n) else c

    abbrev pub life_of : Course → Life
    life_of c b n = now_of (gone n) (grown c b n)

    -- the life of an expression by its course
    abbrev pub course_life : Expression → List Actual → Life
    course_life e ρ = life_of (opening e ρ)
