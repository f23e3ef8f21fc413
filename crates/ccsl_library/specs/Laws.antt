-- What the library's members mean, in every system that is elaborated with the library.
use Rattle.std.specs.Prelude.{◌≡◌, ℕ, suc, ◌<◌, ◌≤◌, ◌%◌, List, map, Bool, ◌&&◌, ◌++◌, Option, Some, None, codes, length, take, nat_eq, nat_lt}
use Rattle.ccsl_base.specs.declared.limits.TheConstants.{MAX_LEVELS}
use Rattle.ccsl_ast.specs.Trees.{PlainFile}
use Rattle.ccsl_kernel.specs.declared.actual.Actual.TheVariants as actual
use Rattle.ccsl_kernel.specs.declared.actual.Actual.{Actual}
use Rattle.ccsl_kernel.specs.declared.expr.Place.{Place}
use Rattle.ccsl_kernel.specs.declared.expr.NumTerm.{NumTerm}
use Rattle.ccsl_kernel.specs.declared.expr.WordPlace.{WordPlace}
use Rattle.ccsl_kernel.specs.Syntax.{Expression, EName, EDelay, EFilter, System}
use Rattle.ccsl_kernel.specs.Actuals.{place_of, number_of}
use Rattle.ccsl_kernel.specs.Ticks.{count}
use Rattle.ccsl_kernel.specs.Lives.{Step, steps, ticks_at}
use Rattle.ccsl_kernel.specs.Meaning.{meaning}
use Rattle.ccsl_kernel.specs.Runs.{ObeysDefinitions}
use Rattle.ccsl_lex.specs.Tokens.{PlainToken, AreTokens}
use Rattle.ccsl_grammar.specs.Terminals.{seen_as}
use Rattle.ccsl_grammar.specs.File.{Parses}
use Rattle.ccsl_rules.specs.Elaborated.{refusal}
use Rattle.ccsl_rules.specs.Expansion.{expand}
use Rattle.ccsl_rules.specs.Spaces.{Role, relation, member, look, calls_space}
use Rattle.ccsl_accepts.specs.Acceptance.{IsFile}
use Rattle.ccsl_library.specs.Library.{the_library}
use Rattle.ccsl_library.specs.Members.{periodic, filter_by, library_groups}
use Rattle.ccsl_library.specs.Skip.{skip}

-- the text has tokens, and these have the tree, in which no expression stands too deep
pub record HasTree (text : List ℕ) (f : PlainFile) : Type 0 where
  pub tokens : List PlainToken
  pub are : AreTokens text tokens
  pub parses : Parses MAX_LEVELS (map (λ t. seen_as t.at t.kind) tokens) f

-- whether k is a multiple of n, and no number is one of 0
abbrev pub is_multiple : ℕ → ℕ → Bool
is_multiple n k = nat_lt 0 n && nat_eq (k % n) 0

module _ (K : System) (T : List Step) where
  -- whether an expression in the definition of clock y, born at b under actual parameters, ticks at n
  abbrev pub ticks : ℕ → Expression → List Actual → ℕ → ℕ → Bool
  ticks y e ρ = ticks_at T (meaning K T y e ρ)

  -- how often from b to n - 1
  abbrev pub tick_count : ℕ → Expression → List Actual → ℕ → ℕ → ℕ
  tick_count y e ρ b n = count (map (ticks y e ρ b) (steps b n))

  -- FILTER_BY TICKS AS FILTER DOES, under every word
  abbrev pub FiltersTick : Type 0
  FiltersTick = (y x : ℕ) (c : Place) (w : WordPlace) (ρ : List Actual) (b n : ℕ) → place_of c ρ ≡ actual.Clock x →
      b ≤ n → n < length T → ticks y (filter_by c w) ρ b n ≡ ticks y (EFilter (EName c) w) ρ b n

  -- SKIP TICKS AS DELAY DOES
  abbrev pub SkipsTick : Type 0
  SkipsTick = (y x : ℕ) (c : Place) (m : NumTerm) (ρ : List Actual) (b n : ℕ) → place_of c ρ ≡ actual.Clock x →
      b ≤ n → n < length T → ticks y (skip c m) ρ b n ≡ ticks y (EDelay (EName c) m) ρ b n

  -- PERIODIC TICKS WITH EACH TICK whose number since the birth, from 1, is a multiple
  abbrev pub PeriodsTick : Type 0
  PeriodsTick = (y x : ℕ) (c : Place) (m : NumTerm) (ρ : List Actual) (b n : ℕ) → place_of c ρ ≡ actual.Clock x →
      b ≤ n → n < length T → ticks y (periodic c m) ρ b n ≡
      (ticks y (EName c) ρ b n && is_multiple (number_of m ρ) (suc (tick_count y (EName c) ρ b n)))

  pub record MembersTick : Type 0 where
    pub filters : FiltersTick
    pub skips : SkipsTick
    pub periods : PeriodsTick

-- what a name that is called stands for, in a file behind the library
abbrev pub role_of : PlainFile → List ℕ → Option Role
role_of file name =
    elim (look name (calls_space 0 0 (the_library.definitions ++ file.definitions))) [ None ↦ None | Some k ↦ Some k.what.role ]

-- THE LIBRARY COMES FIRST, whatever the file: its groups are the first ones of the expansion, and its names stand for it
pub record ComesFirst (file : PlainFile) : Type 0 where
  pub groups : take 3 (expand the_library file).groups ≡ library_groups
  pub alternates : role_of file (codes "alternates") ≡ Some relation
  pub periodic : role_of file (codes "periodic") ≡ Some (member 0 0)
  pub skip : role_of file (codes "skip") ≡ Some (member 1 0)
  pub filter_by : role_of file (codes "filter_by") ≡ Some (member 2 0)

-- THE MEMBERS' LAWS: in a list of steps that obeys the definitions
abbrev pub LibraryTicks : Type 0
LibraryTicks = (file : PlainFile) → IsFile file → refusal the_library file ≡ None →
    (T : List Step) → ObeysDefinitions (expand the_library file) T → MembersTick (expand the_library file) T
