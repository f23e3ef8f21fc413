-- WHAT WORDS SAY OF FILTERS in every list of steps that obeys the definitions of a system.
use Rattle.std.specs.Prelude.{◌≡◌, ℕ, suc, ◌<◌, ◌≤◌, List, Bool, true, false, Option, Some, None, length, slice_get}
use Rattle.ccsl_base.specs.Clocks.{ticks_in}
use Rattle.ccsl_formula.specs.Formula.{eval}
use Rattle.ccsl_words.specs.Word.{BinaryWord}
use Rattle.ccsl_kernel.specs.declared.expr.Place.TheVariants as place
use Rattle.ccsl_kernel.specs.declared.expr.WordPlace.TheVariants as word_place
use Rattle.ccsl_kernel.specs.declared.constraint.RelationKind.TheVariants as kind
use Rattle.ccsl_kernel.specs.Syntax.{Expression, EName, EFilter, System, definition_of}
use Rattle.ccsl_kernel.specs.declared.constraint.RelationKind.{RelationKind}
use Rattle.ccsl_kernel.specs.declared.actual.Actual.{Actual}
use Rattle.ccsl_kernel.specs.Lives.{Step, step_at, ticks_at}
use Rattle.ccsl_kernel.specs.Meaning.{meaning}
use Rattle.ccsl_kernel.specs.Items.{clock_count, relation_formula}
use Rattle.ccsl_kernel.specs.Runs.{ObeysDefinitions}
use Rattle.ccsl_periodic.specs.declared.between.Between.{Between}
use Rattle.ccsl_periodic.specs.declared.between.Between.TheVariants as between

-- the relation of the text language
abbrev pub kind_of : Between → RelationKind
kind_of between.Precedes = kind.Precedes
kind_of between.Subclock = kind.Subclock
kind_of between.Excludes = kind.Excludes

-- the word w stands in the table at number i
abbrev pub IsWordAt : System → ℕ → BinaryWord → Type 0
IsWordAt K i w = slice_get K.words i ≡ Some w

-- e filter w, with the word number i from its start
abbrev pub filter_by_word : Expression → ℕ → Expression
filter_by_word e i = EFilter e (word_place.Word i 0)

-- clock x is defined as c filter w
pub record IsFilter (K : System) (x c : ℕ) (w : BinaryWord) : Type 0 where
  pub number : ℕ
  pub word : IsWordAt K number w
  pub definition : definition_of K x ≡ Some (filter_by_word (EName (place.Clock c)) number)

-- whether the formula of the relation between the clocks x and y holds at step n
abbrev pub relation_holds : List Step → Between → ℕ → ℕ → ℕ → Bool
relation_holds T relation x y n = eval (relation_formula (kind_of relation) x y (clock_count T x n) (clock_count T y n)) (step_at T n)

-- the formula holds at each step before the tick number k of clock c, from 0, and fails at that tick
pub record HoldsUntil (T : List Step) (relation : Between) (x y c k : ℕ) : Type 0 where
  pub before : (n : ℕ) → n < length T → clock_count T c (suc n) ≤ k → relation_holds T relation x y n ≡ true
  pub fails : (n : ℕ) → n < length T → clock_count T c n ≡ k → ticks_in c (step_at T n) ≡ true → relation_holds T relation x y n ≡ false

abbrev pub HoldsAlways : List Step → Between → ℕ → ℕ → Type 0
HoldsAlways T relation x y = (n : ℕ) → n < length T → relation_holds T relation x y n ≡ true

-- until the tick, or always where there is none
abbrev pub HoldsUntilThat : List Step → Between → ℕ → ℕ → ℕ → Option ℕ → Type 0
HoldsUntilThat T relation x y c None = HoldsAlways T relation x y
HoldsUntilThat T relation x y c (Some k) = HoldsUntil T relation x y c k

-- TWO FILTERS OF A CLOCK are related until their words fail
abbrev pub FiltersAreRelated : Between → BinaryWord → BinaryWord → Option ℕ → Type 0
FiltersAreRelated relation u v first = (K : System) (T : List Step) (x y c : ℕ) → ObeysDefinitions K T → IsFilter K x c u → IsFilter K y c v →
    HoldsUntilThat T relation x y c first

-- A FILTER OF A FILTER, (e filter u) filter v, ticks exactly as e filter w, whatever e is and whenever it is born
abbrev pub ExpressionsTick : BinaryWord → BinaryWord → BinaryWord → Type 0
ExpressionsTick u v w = (K : System) (T : List Step) (i j k : ℕ) → IsWordAt K i u → IsWordAt K j v → IsWordAt K k w →
    (x : ℕ) (e : Expression) (ρ : List Actual) (b n : ℕ) → b ≤ n → n < length T →
    ticks_at T (meaning K T x (filter_by_word (filter_by_word e i) j) ρ) b n ≡ ticks_at T (meaning K T x (filter_by_word e k) ρ) b n

-- and so do clocks that are defined thus
abbrev pub ClocksTick : BinaryWord → BinaryWord → BinaryWord → Type 0
ClocksTick u v w = (K : System) (T : List Step) (x y z c : ℕ) → ObeysDefinitions K T → IsFilter K x c u → IsFilter K y x v → IsFilter K z c w →
    (n : ℕ) → n < length T → ticks_in y (step_at T n) ≡ ticks_in z (step_at T n)

pub record FiltersCompose (u v w : BinaryWord) : Type 0 where
  pub expressions : ExpressionsTick u v w
  pub clocks : ClocksTick u v w
