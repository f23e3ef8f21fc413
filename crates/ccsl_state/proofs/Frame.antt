-- The tree that a region holds depends on its own cells alone.
use Rattle.std.proofs.lemmas.Grind.{common_steps}
use Rattle.std.proofs.Common.{◌≡◌, ℕ, zero, suc, ◌+◌, ◌<◌, ◌≤◌, List, ◌++◌, length, map, take, drop, slice_index, max, false, Option, Some, None}
use Rattle.std.proofs.Common.{if◌then◌else◌, refl, sym, ap, ap₂, subst, ◌∙◌, arith, ◌%◌, ◌^◌}
use Rattle.std.proofs.lemmas.Bool.{eqb-false}
use Rattle.std.proofs.lemmas.List.{length-take-le, take-take, get_or-take}
use Rattle.ccsl_base.specs.declared.limits.TheConstants.{MAX_CELLS}
use Rattle.ccsl_kernel.specs.declared.expr.ExprOp.{ExprOp}
use Rattle.ccsl_kernel.specs.declared.expr.ExprOp.TheVariants as op
use Rattle.ccsl_kernel.specs.declared.actual.Actual.{Actual}
use Rattle.ccsl_kernel.specs.Syntax.{Expression, EName, ECall, ENever, EBinary, EDelay, EAwait, EFilter, EDelayed, EIf, Body, System, body_of}
use Rattle.ccsl_kernel.specs.Actuals.{test_of}
use Rattle.ccsl_kernel.specs.Cells.{cells_in, cells_of_two}
use Rattle.ccsl_state.specs.Tree.{Tree, TTwo, Lagging}
use Rattle.ccsl_state.specs.Layout.{binary_at, flag_of, flag_at, bits_of, rotated, own_cells, two_at, then_at, words_of, lag_at, actual_of}
use Rattle.ccsl_state.specs.Layout.{read_in, read_body, read_call, read, region_of}
use Rattle.ccsl_state.specs.Standing.{is_then, IsEnough}
use Rattle.ccsl_state.specs.Nodes.{pair_at}
use Rattle.ccsl_state.specs.Regions.{lag_node}
use Rattle.ccsl_state.proofs.Regions.{fewer, within, cell_same, take_own}

-- AN OPERATOR'S OWN CELLS, and those of both operands
pub cells_pair : (o : ExprOp) (m n : ℕ) → is_then o ≡ false → cells_of_two o m n ≡ own_cells o + m + n
cells_pair op.Then m n e = let z : ⊥ = cc in absurd z
cells_pair o m n e = refl

-- an operator that is no then: its node over its operands
pub binary_pair : (o : ExprOp) (row : List ℕ) → is_then o ≡ false → (a d t : Tree) → binary_at (two_at o row) a d t ≡ pair_at (two_at o row) a d
binary_pair op.Then row e a d t = let z : ⊥ = cc in absurd z
binary_pair o row e a d t = refl

pub two_same : (o : ExprOp) (xs ys : List ℕ) → take (own_cells o) xs ≡ take (own_cells o) ys → two_at o xs ≡ two_at o ys
two_same o xs ys e = grind (arith, common_steps, cell_same)

-- a delayed's own cells
pub lag_front : (m : ℕ) (head rest : List ℕ) → length head ≡ 2 + words_of m → lag_at m (head ++ rest) ≡ lag_at m head
lag_front m head rest l = grind (arith, common_steps, take_own, cell_same, within)

-- the nodes that they hold
pub two_front : (o : ExprOp) (head rest : List ℕ) → length head ≡ own_cells o → two_at o (head ++ rest) ≡ two_at o head
two_front o head rest l = sym (two_same o head (head ++ rest) (take_own (own_cells o) head rest l))

pub lag_node_front : (m : ℕ) (head rest : List ℕ) → length head ≡ 2 + words_of m → lag_node m (head ++ rest) ≡ lag_node m head
lag_node_front m head rest l = ap Some (lag_front m head rest l)

module _ (K : System) (earlier : List ℕ) (calls : ℕ → List ℕ → Tree)
    (calls_same : (group : ℕ) (xs ys : List ℕ) → group < length earlier → slice_index earlier group ≤ MAX_CELLS
    → take (slice_index earlier group) xs ≡ take (slice_index earlier group) ys → calls group xs ≡ calls group ys)
  where
    -- the region of an expression under some actual parameters
    abbrev Same : Expression → List Actual → Type 0
    Same e ρ = (xs ys : List ℕ) → cells_in earlier e ≤ MAX_CELLS → take (cells_in earlier e) xs ≡ take (cells_in earlier e) ys
        → read_in K earlier calls e ρ xs ≡ read_in K earlier calls e ρ ys

    then_same : (a d : Expression) (ρ : List Actual) → Same a ρ → Same d ρ → Same (EBinary op.Then a d) ρ
    then_same a d ρ same_a same_d xs ys l e =
        let m = cells_in earlier a in
        let n = cells_in earlier d in
        ap₂ (λ late t. then_at late t (read_in K earlier calls d ρ (drop 1 xs)) d ρ)
        (ap flag_of (cell_same (1 + max m n) 0 xs ys e (omega arith)))
        (same_a (drop 1 xs) (drop 1 ys) (omega arith) (within (1 + max m n) 1 m xs ys e (omega arith)))
        ∙ ap (λ t. then_at (flag_at ys) (read_in K earlier calls a ρ (drop 1 ys)) t d ρ)
        (same_d (drop 1 xs) (drop 1 ys) (omega arith) (within (1 + max m n) 1 n xs ys e (omega arith)))

    pair_same : (o : ExprOp) → is_then o ≡ false → (a d : Expression) (ρ : List Actual) → Same a ρ → Same d ρ → Same (EBinary o a d) ρ
    pair_same o is a d ρ same_a same_d xs ys l e =
        let m = cells_in earlier a in
        let n = cells_in earlier d in
        let c = cells_pair o m n is in
        let total = own_cells o + m + n in
        let e' : take total xs ≡ take total ys = subst (λ k. take k xs ≡ take k ys) c e in
        let l' : total ≤ MAX_CELLS = subst (λ k. k ≤ MAX_CELLS) c l in
        let A = λ (zs : List ℕ). read_in K earlier calls a ρ (drop (own_cells o) zs) in
        let D = λ (zs : List ℕ). read_in K earlier calls d ρ (drop (own_cells o + m) zs) in
        binary_pair o xs is (A xs) (D xs) _
        ∙ ap (λ o'. pair_at o' (A xs) (D xs)) (two_same o xs ys (fewer total (own_cells o) xs ys e' (omega arith)))
        ∙ ap₂ (pair_at (two_at o ys))
        (same_a (drop (own_cells o) xs) (drop (own_cells o) ys) (omega arith) (within total (own_cells o) m xs ys e' (omega arith)))
        (same_d (drop (own_cells o + m) xs) (drop (own_cells o + m) ys) (omega arith) (within total (own_cells o + m) n xs ys e' (omega arith)))
        ∙ sym (binary_pair o ys is (A ys) (D ys) _)

    lag_same : (a : Expression) (m : ℕ) (d : Expression) (ρ : List Actual) → Same a ρ → Same d ρ → Same (EDelayed a m d) ρ
    lag_same a m d ρ same_a same_d xs ys l e =
        let total = 2 + words_of m + cells_in earlier a + cells_in earlier d in
        let w = words_of m in
        let p = cells_in earlier a in
        let q = cells_in earlier d in
        ap₂ (λ k bits. TTwo (Lagging m (rotated k (take m (bits_of bits)))) (read_in K earlier calls a ρ (drop (2 + w) xs))
        (read_in K earlier calls d ρ (drop (2 + w + p) xs)))
        (cell_same total 0 xs ys e (omega arith)) (within total 2 w xs ys e (omega arith))
        ∙ ap₂ (TTwo (lag_at m ys))
        (same_a (drop (2 + w) xs) (drop (2 + w) ys) (omega arith) (within total (2 + w) p xs ys e (omega arith)))
        (same_d (drop (2 + w + p) xs) (drop (2 + w + p) ys) (omega arith) (within total (2 + w + p) q xs ys e (omega arith)))

    pub read_in_same : (e : Expression) (ρ : List Actual) (xs ys : List ℕ) → cells_in earlier e ≤ MAX_CELLS
        → take (cells_in earlier e) xs ≡ take (cells_in earlier e) ys →
        read_in K earlier calls e ρ xs ≡ read_in K earlier calls e ρ ys
    read_in_same (EName x) ρ xs ys l e = refl
    read_in_same (ECall group member args) ρ xs ys l e = grind (arith, common_steps, calls_same)
    read_in_same ENever ρ xs ys l e = refl
    read_in_same (EBinary op.Then a d) ρ xs ys l e = then_same a d ρ (read_in_same a ρ) (read_in_same d ρ) xs ys l e
    read_in_same (EBinary o a d) ρ xs ys l e = pair_same o refl a d ρ (read_in_same a ρ) (read_in_same d ρ) xs ys l e
    read_in_same (EDelay a m) ρ xs ys l e = grind (arith, common_steps, cell_same, within, read_in_same a ρ)
    read_in_same (EAwait a m) ρ xs ys l e = grind (arith, common_steps, cell_same, within, read_in_same a ρ)
    read_in_same (EFilter a w) ρ xs ys l e = grind (arith, common_steps, cell_same, within, read_in_same a ρ)
    read_in_same (EDelayed a m d) ρ xs ys l e = lag_same a m d ρ (read_in_same a ρ) (read_in_same d ρ) xs ys l e
    read_in_same (EIf q a d) ρ xs ys l e =
        let total = 1 + max (cells_in earlier a) (cells_in earlier d) in
        ap₂ (λ s t. if test_of K.words q ρ then s else t)
        (read_in_same a ρ (drop 1 xs) (drop 1 ys) (omega arith) (within total 1 (cells_in earlier a) xs ys e (omega arith)))
        (read_in_same d ρ (drop 1 xs) (drop 1 ys) (omega arith) (within total 1 (cells_in earlier d) xs ys e (omega arith)))

module _ (K : System) where
  pub enough_before : (earlier : List ℕ) (g : ℕ) → g ≤ length earlier → IsEnough K earlier → IsEnough K (take g earlier)
  enough_before earlier g l enough g' l' = grind (arith, common_steps, length-take-le, get_or-take, take-take)

  -- the region of a call is that of its group behind the earlier ones
  call_step : (earlier : List ℕ) (n group : ℕ) (row : List ℕ) → group < suc n → n ≤ length earlier →
      (group < n → read_call K earlier n group row ≡ region_of K (take group earlier) row)
      → read_call K earlier (suc n) group row ≡ region_of K (take group earlier) row
  call_step earlier n group row l u below = grind (arith, common_steps, length-take-le, eqb-false)

  pub read_call_is : (earlier : List ℕ) (n group : ℕ) (row : List ℕ) → group < n → n ≤ length earlier
      → read_call K earlier n group row ≡ region_of K (take group earlier) row
  read_call_is earlier zero group row l u = absurd (omega (arith, l))
  read_call_is earlier (suc n) group row l u = call_step earlier n group row l (omega (arith, u)) (λ k. read_call_is earlier n group row k (omega (arith, u)))

  -- the region of a call depends on its own cells alone
  region_step : (earlier : List ℕ) (n : ℕ) (xs ys : List ℕ) → IsEnough K earlier → 1 ≤ n →
      ((m : ℕ) (b : Body) → body_of K.groups (length earlier) m ≡ Some b → 1 + length b.params + cells_in earlier b.root ≤ n) → n ≤ MAX_CELLS
      → take n xs ≡ take n ys →
      ((b : Body) (ρ : List Actual) (xs ys : List ℕ) → cells_in earlier b.root ≤ MAX_CELLS
      → take (cells_in earlier b.root) xs ≡ take (cells_in earlier b.root) ys
      → read K earlier b.root ρ xs ≡ read K earlier b.root ρ ys) →
      region_of K earlier xs ≡ region_of K earlier ys
  region_step earlier n xs ys enough pos room few e same =
      ap (λ k. read_body K earlier (read_call K earlier (length earlier)) (body_of K.groups (length earlier) (k % 2 ^ 32)) (drop 1 xs))
      (cell_same n 0 xs ys e pos)
      ∙ on (body_of K.groups (length earlier) (slice_index ys 0 % 2 ^ 32)) refl
    where
      on : (o : Option Body) → body_of K.groups (length earlier) (slice_index ys 0 % 2 ^ 32) ≡ o →
          read_body K earlier (read_call K earlier (length earlier)) o (drop 1 xs) ≡ read_body K earlier (read_call K earlier (length earlier)) o (drop 1 ys)
      on None is = refl
      on (Some b) is =
          let r = room (slice_index ys 0 % 2 ^ 32) b is in
          let p = length b.params in
          ap (λ cells. read K earlier b.root (map (actual_of K.words) cells) (drop p (drop 1 xs))) (within n 1 p xs ys e (omega (arith, r)))
          ∙ same b (map (actual_of K.words) (take p (drop 1 ys))) (drop p (drop 1 xs)) (drop p (drop 1 ys)) (omega (arith, r, few))
          (within (p + cells_in earlier b.root) p (cells_in earlier b.root) (drop 1 xs) (drop 1 ys)
          (within n 1 (p + cells_in earlier b.root) xs ys e (omega (arith, r))) (omega arith))

  -- the tree in the region of a body, for all bodies of a group
  abbrev SameBodies : List ℕ → Type 0
  SameBodies earlier = (b : Body) (ρ : List Actual) (xs ys : List ℕ) → cells_in earlier b.root ≤ MAX_CELLS
      → take (cells_in earlier b.root) xs ≡ take (cells_in earlier b.root) ys →
      read K earlier b.root ρ xs ≡ read K earlier b.root ρ ys

  -- the cells of a call before a body, where they are no more than there are
  pub call_room : (earlier : List ℕ) (group m : ℕ) (b : Body) → IsEnough K earlier → group < length earlier → slice_index earlier group ≤ MAX_CELLS →
      body_of K.groups (length (take group earlier)) m ≡ Some b → 1 + length b.params + cells_in (take group earlier) b.root ≤ slice_index earlier group
  call_room earlier group m b enough below few is =
      let len : length (take group earlier) ≡ group = length-take-le group earlier (omega (arith, below)) in
      let h = (enough group below).1 m b (subst (λ k. body_of K.groups k m ≡ Some b) len is) in
      omega (arith, h, few)

  call_same : (earlier : List ℕ) (group : ℕ) (xs ys : List ℕ) → IsEnough K earlier → group < length earlier → slice_index earlier group ≤ MAX_CELLS →
      take (slice_index earlier group) xs ≡ take (slice_index earlier group) ys → SameBodies (take group earlier) →
      read_call K earlier (length earlier) group xs ≡ read_call K earlier (length earlier) group ys
  call_same earlier group xs ys enough below few e same =
      read_call_is earlier (length earlier) group xs below (omega arith)
      ∙ region_step (take group earlier) (slice_index earlier group) xs ys (enough_before earlier group (omega (arith, below)) enough) ((enough group below).0)
      (λ m b is. call_room earlier group m b enough below few is) few e same
      ∙ sym (read_call_is earlier (length earlier) group ys below (omega arith))

  -- for each group in turn
  pub read_same_to : (bound : ℕ) (earlier : List ℕ) (e : Expression) (ρ : List Actual) (xs ys : List ℕ) → length earlier < bound → IsEnough K earlier
      → cells_in earlier e ≤ MAX_CELLS →
      take (cells_in earlier e) xs ≡ take (cells_in earlier e) ys → read K earlier e ρ xs ≡ read K earlier e ρ ys
  read_same_to zero earlier e ρ xs ys l enough few same = absurd (omega (arith, l))
  read_same_to (suc bound) earlier e ρ xs ys l enough few same =
      read_in_same K earlier (read_call K earlier (length earlier))
      (λ group xs ys below few' e'. call_same earlier group xs ys enough below few' e'
      (λ b ρ xs ys l' e''. read_same_to bound (take group earlier) b.root ρ xs ys
      (let len : length (take group earlier) ≡ group = length-take-le group earlier (omega (arith, below)) in omega (arith, len, below, l))
      (enough_before earlier group (omega (arith, below)) enough) l' e''))
      e ρ xs ys few same

  -- THE FRAME
  pub read_same : (earlier : List ℕ) (e : Expression) (ρ : List Actual) (xs ys : List ℕ) → IsEnough K earlier → cells_in earlier e ≤ MAX_CELLS →
      take (cells_in earlier e) xs ≡ take (cells_in earlier e) ys → read K earlier e ρ xs ≡ read K earlier e ρ ys
  read_same earlier e ρ xs ys enough few same = read_same_to (suc (length earlier)) earlier e ρ xs ys (omega arith) enough few same
