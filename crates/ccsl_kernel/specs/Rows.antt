-- The table as equations on any meaning of expressions, one for each row.
use Rattle.std.specs.Prelude.{◌≡◌, ℕ, ◌≤◌, ◌<◌, List, map, Bool, length, if◌then◌else◌}
use Rattle.ccsl_kernel.specs.Syntax.{Place, NumTerm, WordPlace, Value, ExprTest, ExprOp, Expression, EName, ECall, ENever, EBinary, EDelay, EAwait, EFilter}
use Rattle.ccsl_kernel.specs.Syntax.{EDelayed, EIf, System, root_of}
use Rattle.ccsl_kernel.specs.Actuals.{Actual, place_of, number_of, suffix_of, value_of, test_of, word_of}
use Rattle.ccsl_kernel.specs.Table.{never_row, delay_row, await_row, filter_row, delayed_row}
use Rattle.ccsl_kernel.specs.Lives.{Step, Life, over_one, over_two, joined}
use Rattle.ccsl_kernel.specs.Meaning.{named}

-- two lives are one at each birth and each step from it on
abbrev pub SameLife : List Step → Life → Life → Type 0
SameLife T L M = (b n : ℕ) → b ≤ n → n ≤ length T → L b n ≡ M b n

-- the rows of names, never, the operators and choices
pub record IsTable (K : System) (T : List Step) (gone : ℕ → ℕ → Bool) (M : Expression → List Actual → Life) : Type 0 where
  pub name : (x : Place) (ρ : List Actual) → SameLife T (M (EName x) ρ) (named K T gone (place_of x ρ))
  pub never : (ρ : List Actual) → SameLife T (M ENever ρ) (λ b n. never_row)
  pub binary : (op : ExprOp) (a d : Expression) (ρ : List Actual) → SameLife T (M (EBinary op a d) ρ) (joined T op (M a ρ) (M d ρ))
  pub delay : (a : Expression) (m : NumTerm) (ρ : List Actual) → SameLife T (M (EDelay a m) ρ) (over_one T (delay_row (number_of m ρ)) (M a ρ))
  pub await : (a : Expression) (m : NumTerm) (ρ : List Actual) → SameLife T (M (EAwait a m) ρ) (over_one T (await_row (number_of m ρ)) (M a ρ))
  pub filter : (a : Expression) (w : WordPlace) (ρ : List Actual) → let s = suffix_of K.words w ρ in
      SameLife T (M (EFilter a w) ρ) (over_one T (filter_row (word_of K.words s.word) s.offset) (M a ρ))
  pub delayed : (a : Expression) (m : ℕ) (d : Expression) (ρ : List Actual) → 1 ≤ m →
      SameLife T (M (EDelayed a m d) ρ) (over_two T (delayed_row m) (M a ρ) (M d ρ))
  pub choice : (q : ExprTest) (a d : Expression) (ρ : List Actual) →
      SameLife T (M (EIf q a d) ρ) (λ b n. if test_of K.words q ρ then M a ρ b n else M d ρ b n)

-- the row of calls, of earlier groups and of the own one alike
abbrev pub CallsAreBodies : System → List Step → (Expression → List Actual → Life) → Type 0
CallsAreBodies K T M = (group member : ℕ) (args : List Value) (ρ : List Actual) → group < length K.groups →
    SameLife T (M (ECall group member args) ρ) (M (root_of K group member) (map (value_of K.words ρ) args))
