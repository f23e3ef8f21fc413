-- THE TABLE OF EXPRESSIONS: from each operand's formula, death and ticks so far, the formula of an operator at a step and whether it is dead.
-- The operators are those of CCSL (MARTE Annex C; in outline INRIA RR-6925), with `never`, `minus`, `delay`, `delayed` and the deaths of this project.
use Rattle.std.specs.Prelude.{ℕ, suc, ◌+◌, ◌-◌, List, Bool, false, not, ◌&&◌, ◌||◌, length, nat_eq, nat_lt, nat_le, if◌then◌else◌}
use Rattle.ccsl_formula.specs.Formula.{Formula, FFalse, FNot, FAnd, FOr}
use Rattle.ccsl_words.specs.Word.{BinaryWord, letter, is_finite}
use Rattle.ccsl_kernel.specs.Ticks.{count, ever, waits, waits_weakly, waits_since, waits_below}

-- the formula of an expression at a step, and whether it is dead there
pub record Now : Type 0 where
  pub formula : Formula
  pub dead : Bool

-- an operand at a step, and at which of the steps since its birth it ticked, the first one first
pub record Operand : Type 0 where
  pub formula : Formula
  pub dead : Bool
  pub ticks : List Bool

abbrev pub never_row : Now
never_row = record { formula = FFalse; dead = false }

abbrev pub union_row : Operand → Operand → Now
union_row a d = record { formula = FOr a.formula d.formula; dead = a.dead && d.dead }

abbrev pub inter_row : Operand → Operand → Now
inter_row a d = record { formula = FAnd a.formula d.formula; dead = a.dead || d.dead }

abbrev pub minus_row : Operand → Operand → Now
minus_row a d = record { formula = FAnd a.formula (FNot d.formula); dead = a.dead }

-- the operand with more ticks
abbrev pub inf_row : Operand → Operand → Now
inf_row a d = record {
  formula = if nat_lt (count d.ticks) (count a.ticks) then a.formula
      else if nat_lt (count a.ticks) (count d.ticks) then d.formula
      else FOr a.formula d.formula;
  dead = a.dead && d.dead;
}

-- the operand with fewer ticks
abbrev pub sup_row : Operand → Operand → Now
sup_row a d = record {
  formula = if nat_lt (count a.ticks) (count d.ticks) then a.formula
      else if nat_lt (count d.ticks) (count a.ticks) then d.formula
      else FAnd a.formula d.formula;
  dead = (a.dead && nat_le (count a.ticks) (count d.ticks)) || (d.dead && nat_le (count d.ticks) (count a.ticks));
}

-- as a, but no longer once k ticks, at that step either
abbrev pub upto_row : Operand → Operand → Now
upto_row a k = record {
  formula = if ever k.ticks then FFalse else FAnd a.formula (FNot k.formula);
  dead = a.dead || ever k.ticks;
}

-- as a, but no longer after k ticked
abbrev pub upto_weakly_row : Operand → Operand → Now
upto_weakly_row a k = record {
  formula = if ever k.ticks then FFalse else a.formula;
  dead = a.dead || ever k.ticks;
}

-- d, where a ticked since d's last tick
abbrev pub sampled_row : Operand → Operand → Now
sampled_row a d = record {
  formula = if waits a.ticks d.ticks then d.formula else FFalse;
  dead = d.dead || (a.dead && not (waits a.ticks d.ticks));
}

-- d, where a ticks with it or ticked after d's last tick
abbrev pub sampled_weakly_row : Operand → Operand → Now
sampled_weakly_row a d = record {
  formula = if waits_weakly a.ticks d.ticks then d.formula else FAnd d.formula a.formula;
  dead = d.dead || (a.dead && not (waits_weakly a.ticks d.ticks));
}

-- a, without its first m ticks
abbrev pub delay_row : ℕ → Operand → Now
delay_row m a = record { formula = if nat_le m (count a.ticks) then a.formula else FFalse; dead = a.dead }

-- the tick number m of a, from 1
abbrev pub await_row : ℕ → Operand → Now
await_row m a = record {
  formula = if nat_eq (suc (count a.ticks)) m then a.formula else FFalse;
  dead = a.dead || nat_le m (count a.ticks);
}

-- a, where the letter of its tick is 1, under a word from an offset on
abbrev pub filter_row : BinaryWord → ℕ → Operand → Now
filter_row w o a = record {
  formula = if letter w (o + count a.ticks) then a.formula else FFalse;
  dead = a.dead || (is_finite w && nat_le (length w.prefix) (o + count a.ticks));
}

-- each tick of a, seen at the m-th tick of d after it
abbrev pub delayed_row : ℕ → Operand → Operand → Now
delayed_row m a d = record {
  formula = if waits_since (m - 1) a.ticks d.ticks then d.formula else FFalse;
  dead = d.dead || (a.dead && not (waits_below m a.ticks d.ticks));
}
