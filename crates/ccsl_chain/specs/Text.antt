-- The tree of a chain's text: a line of clocks, and a line for each call. Where its names stand is left open.
use Rattle.std.specs.Prelude.{ℕ, ◌+◌, ◌-◌, [], ◌∷◌, map, codes}
use Rattle.std.specs.List.{range_with_len}
use Rattle.ccsl_ast.specs.Trees.{SLine, SClocks, SLineOf, LCall, PlainFile}
use Rattle.ccsl_library.specs.Library.{name_at, passed_at}
use Rattle.ccsl_chain.specs.Chain.{clock_name}

-- the place of name j in line i
module _ (place : ℕ → ℕ → ℕ) where
  -- clock c0, c1, ..
  abbrev pub clocks_line : ℕ → SLine
  clocks_line n = SClocks (map (λ j. name_at (place 0 j) (clock_name j)) (range_with_len 0 n))

  -- alternates(cI, cJ), where J is I + 1
  abbrev pub call_line : ℕ → SLine
  call_line i =
      SLineOf (LCall (name_at (place (i + 1) 0) (codes "alternates"))
      (passed_at (place (i + 1) 1) (clock_name i) ∷ passed_at (place (i + 1) 2) (clock_name (i + 1)) ∷ []))

  abbrev pub chain_file : ℕ → PlainFile
  chain_file n = record { version = 1; definitions = []; lines = clocks_line n ∷ map call_line (range_with_len 0 (n - 1)) }
