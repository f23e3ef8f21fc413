-- The layout of a state in a row of numbers, and the tree that a row of cells holds. What lies behind the cells is not read.
--     earlier      the cells of a call to each group before that of the body; a call to a later group is one of the own group
--     read_in K earlier calls e ρ row      the tree in the region of e, where `calls group row` is that in the region of a call
--     read_call, read      the tree in the region of a call to a group; in that of an expression
use Rattle.std.specs.Prelude.{ℕ, zero, suc, ◌+◌, ◌*◌, ◌/◌, ◌%◌, ◌^◌, List, [], ◌∷◌, ◌++◌, Bool, true, false, not, Option, Some, None, length, map, min, take}
use Rattle.std.specs.Prelude.{drop}
use Rattle.std.specs.Prelude.{slice_index, nat_eq, nat_lt, if◌then◌else◌}
use Rattle.ccsl_words.specs.Word.{BinaryWord, is_finite, word_len}
use Rattle.ccsl_kernel.specs.declared.expr.ExprOp.{ExprOp}
use Rattle.ccsl_kernel.specs.declared.expr.ExprOp.TheVariants as op
use Rattle.ccsl_kernel.specs.declared.actual.Actual.{Actual}
use Rattle.ccsl_kernel.specs.declared.actual.Actual.TheVariants as actual
use Rattle.ccsl_kernel.specs.Syntax.{Expression, EName, ECall, ENever, EBinary, EDelay, EAwait, EFilter, EDelayed, EIf, Body, System, body_of}
use Rattle.ccsl_kernel.specs.Actuals.{place_of, number_of, suffix_of, test_of, word_of}
use Rattle.ccsl_kernel.specs.Cells.{cells_in}
use Rattle.ccsl_state.specs.declared.params.TheConstants.{KINDS, OFFSETS}
use Rattle.ccsl_state.specs.Tree.{most, Delaying, Awaiting, Filtering, Two, Uniting, Meeting, Lessening, Leading, Trailing, Ending, EndingWeakly, Sampling}
use Rattle.ccsl_state.specs.Tree.{SamplingWeakly, Lagging, Tree, TNever, TOne, TTwo, TThen, leaf}

-- a count, and a flag
abbrev pub count_of : ℕ → ℕ
count_of n = min n most

abbrev pub flag_of : ℕ → Bool
flag_of n = not (nat_eq n 0)

abbrev pub flag_at : List ℕ → Bool
flag_at row = flag_of (slice_index row 0)

-- an offset at which a word can stand
abbrev pub is_offset : BinaryWord → ℕ → Bool
is_offset w o = nat_lt o (word_len w + (if is_finite w then 1 else 0))

-- where it cannot, it is read as standing at the start
abbrev pub offset_of : BinaryWord → ℕ → ℕ
offset_of w n = if is_offset w n then n else 0

-- a parameter's cell: 0 and a clock, 1 and a number, or 2, an offset and a word
abbrev pub word_or_none : Bool → ℕ → ℕ → Actual
word_or_none fits w o = if fits then actual.Word w o else actual.Number 0

abbrev pub low_of : ℕ → ℕ
low_of n = n / KINDS % 2 ^ 32

abbrev pub word_at : ℕ → ℕ
word_at n = n / (KINDS * OFFSETS) % 2 ^ 32

abbrev pub offset_at : ℕ → ℕ
offset_at n = n / KINDS % OFFSETS

abbrev pub actual_of : List BinaryWord → ℕ → Actual
actual_of words n =
    if nat_eq (n % KINDS) 0 then actual.Clock (low_of n)
    else if nat_eq (n % KINDS) 1 then actual.Number (low_of n)
    else word_or_none (is_offset (word_of words (word_at n)) (offset_at n)) (word_at n) (offset_at n)

-- the cells of an operator before its operands' regions, and what they hold
abbrev pub own_cells : ExprOp → ℕ
own_cells op.Inf = 2
own_cells op.Sup = 2
own_cells _ = 1

abbrev pub two_at : ExprOp → List ℕ → Option Two
two_at op.Union row = Some Uniting
two_at op.Inter row = Some Meeting
two_at op.Minus row = Some Lessening
two_at op.Inf row = Some (Leading (count_of (slice_index row 0)) (count_of (slice_index row 1)))
two_at op.Sup row = Some (Trailing (count_of (slice_index row 0)) (count_of (slice_index row 1)))
two_at op.Upto row = Some (Ending (flag_at row))
two_at op.UptoWeakly row = Some (EndingWeakly (flag_at row))
two_at op.Then row = None
two_at op.Sampled row = Some (Sampling (flag_at row))
two_at op.SampledWeakly row = Some (SamplingWeakly (flag_at row))

-- a then is its left operand with the right one still to be born, or its right operand
abbrev pub then_at : Bool → Tree → Tree → Expression → List Actual → Tree
then_at late left right d ρ = if late then right else TThen left d ρ

-- an operator, or a then
abbrev pub binary_at : Option Two → Tree → Tree → Tree → Tree
binary_at None a d one = one
binary_at (Some o) a d one = TTwo o a d

-- the bits of a delayed: a word has 64, the lowest one first
abbrev pub bits_of_word : ℕ → ℕ → List Bool
bits_of_word zero n = []
bits_of_word (suc k) n = flag_of (n % 2) ∷ bits_of_word k (n / 2)

abbrev pub bits_of : List ℕ → List Bool
bits_of [] = []
bits_of (n ∷ ns) = bits_of_word 64 n ++ bits_of ns

-- from a place on, and round
abbrev pub rotated : ℕ → List Bool → List Bool
rotated k bits = drop k bits ++ take k bits

abbrev pub words_of : ℕ → ℕ
words_of m = (m + 63) / 64

abbrev pub lag_at : ℕ → List ℕ → Two
lag_at m row = Lagging m (rotated (slice_index row 0) (take m (bits_of (take (words_of m) (drop 2 row)))))

module _ (K : System) where
  abbrev pub read_in : List ℕ → (ℕ → List ℕ → Tree) → Expression → List Actual → List ℕ → Tree
  read_in earlier calls (EName x) ρ row = leaf (place_of x ρ)
  read_in earlier calls (ECall group member args) ρ row = if nat_lt group (length earlier) then calls group row else TNever
  read_in earlier calls ENever ρ row = TNever
  read_in earlier calls (EBinary o a d) ρ row =
      binary_at (two_at o row) (read_in earlier calls a ρ (drop (own_cells o) row)) (read_in earlier calls d ρ (drop (own_cells o + cells_in earlier a) row))
      (then_at (flag_at row) (read_in earlier calls a ρ (drop 1 row)) (read_in earlier calls d ρ (drop 1 row)) d ρ)
  read_in earlier calls (EDelay a m) ρ row = TOne (Delaying (number_of m ρ) (count_of (slice_index row 0))) (read_in earlier calls a ρ (drop 1 row))
  read_in earlier calls (EAwait a m) ρ row = TOne (Awaiting (number_of m ρ) (count_of (slice_index row 0))) (read_in earlier calls a ρ (drop 1 row))
  read_in earlier calls (EFilter a w) ρ row =
      let v = word_of K.words (suffix_of K.words w ρ).word in TOne (Filtering v (offset_of v (slice_index row 0))) (read_in earlier calls a ρ (drop 1 row))
  read_in earlier calls (EDelayed a m d) ρ row =
      TTwo (lag_at m row) (read_in earlier calls a ρ (drop (2 + words_of m) row)) (read_in earlier calls d ρ (drop (2 + words_of m + cells_in earlier a) row))
  read_in earlier calls (EIf q a d) ρ row = if test_of K.words q ρ then read_in earlier calls a ρ (drop 1 row) else read_in earlier calls d ρ (drop 1 row)

  -- the region of a body behind its parameters' cells
  abbrev pub read_body : List ℕ → (ℕ → List ℕ → Tree) → Option Body → List ℕ → Tree
  read_body earlier calls None row = TNever
  read_body earlier calls (Some b) row = read_in earlier calls b.root (map (actual_of K.words) (take (length b.params) row)) (drop (length b.params) row)

  -- the region of a call to a group before the group number g: the member, its parameters, its body
  abbrev pub read_call : List ℕ → ℕ → ℕ → List ℕ → Tree
  read_call earlier zero group row = TNever
  read_call earlier (suc g) group row =
      elim (nat_eq group g) [
        | true ↦ read_body (take g earlier) (read_call (take g earlier) g) (body_of K.groups g (slice_index row 0 % 2 ^ 32)) (drop 1 row)
        | false ↦ read_call earlier g group row
      ]

  -- the region of an expression in a body, or in a definition where earlier has all groups
  abbrev pub read : List ℕ → Expression → List Actual → List ℕ → Tree
  read earlier = read_in earlier (read_call earlier (length earlier))

  -- the region of a call to the group behind all of earlier
  abbrev pub region_of : List ℕ → List ℕ → Tree
  region_of earlier row = read_body earlier (read_call earlier (length earlier)) (body_of K.groups (length earlier) (slice_index row 0 % 2 ^ 32)) (drop 1 row)
