-- The region of an operator behind its own cells, from those of its operands.
use Rattle.std.proofs.lemmas.Grind.{common_steps}
use Rattle.std.proofs.Common.{◌≡◌, ℕ, ◌≤◌, List, ◌++◌, length, drop, Bool, true, ◌&&◌, Option, Some, None, option_map, refl, sym, ap, ap₂, subst, ◌∙◌, arith}
use Rattle.std.proofs.Common.{zero, suc, [], ◌∷◌, false, slice_get, slice_index_or}
use Rattle.std.proofs.lemmas.Bool.{and_parts}
use Rattle.ccsl_base.specs.declared.limits.TheConstants.{MAX_CELLS}
use Rattle.ccsl_formula.specs.Formula.{eval}
use Rattle.ccsl_kernel.specs.declared.actual.Actual.{Actual}
use Rattle.ccsl_kernel.specs.declared.expr.Expr.{Expr}
use Rattle.ccsl_kernel.specs.Syntax.{System, Expression, EBinary}
use Rattle.ccsl_kernel.specs.Plain.{plain_expr}
use Rattle.ccsl_kernel.specs.Lives.{Step}
use Rattle.ccsl_state.specs.declared.layout.Layout.{Layout}
use Rattle.ccsl_state.specs.declared.moved.Born.{Born}
use Rattle.ccsl_state.specs.declared.moved.Moved.{Moved}
use Rattle.ccsl_state.specs.Tree.{Tree, Two, two_next, next, formula_of, dead_of}
use Rattle.ccsl_state.specs.Moves.{gone_in, Outcome}
use Rattle.ccsl_state.specs.Nodes.{pair_at, node_ticks, node_dead}
use Rattle.ccsl_state.specs.Quiet.{is_settled}
use Rattle.ccsl_state.specs.Regions.{tree, size, newborn, newborn_pair, pair_tree, pair_size, left_tree, right_tree}
use Rattle.ccsl_state.specs.Ready.{IsReady}
use Rattle.ccsl_state.specs.Walks.{IsOpened, IsAdvanced, IsRewritten}
use Rattle.ccsl_state.proofs.WithinLaws.{pair_eval, pair_dead}
use Rattle.ccsl_state.proofs.Frame.{read_same, binary_pair}
use Rattle.ccsl_state.proofs.Regions.{two_regions}
use Rattle.std.proofs.lemmas.List.{get_or_push}
use Rattle.std.specs.Prelude.{IfSome}
use Rattle.ccsl_base.specs.Clocks.{ticks_in}
use Rattle.ccsl_kernel.specs.declared.expr.ExprOp.{ExprOp}
use Rattle.ccsl_state.specs.declared.flat.Flat.{Flat}
use Rattle.ccsl_state.specs.declared.moved.Stepped.{Stepped}
use Rattle.ccsl_state.specs.Standing.{is_then}
use Rattle.ccsl_state.specs.Layout.{two_at}
use Rattle.ccsl_state.specs.Flats.{clock_name, IsFlatly, IsFlatAt}

-- where it came to no call of the own group
pub inside : (lay : Layout) (ρ : List Actual) (t : List ℕ → Tree) (n : ℕ) (s : Step) (gone row row' : List ℕ) (r : Moved)
    → IsAdvanced lay ρ t n s gone row row' r → r.tail ≡ None
    → IsRewritten lay t s gone row row' (record { tick = r.tick; dead = r.dead; settled = r.settled })
inside lay ρ t n s gone row row' r o none = grind (arith, common_steps)

pub pair_next : (K : System) (s : Step) (gone : ℕ → Bool) (o : Option Two) (a d : Tree) → next K s gone (pair_at o a d)
    ≡ pair_at (option_map (λ o. two_next o (eval (formula_of a) s) (eval (formula_of d) s)) o) (next K s gone a) (next K s gone d)
pair_next K s gone None a d = refl
pair_next K s gone (Some o) a d = refl

pub pair_settled : (gone : ℕ → Bool) (o : Option Two) (a d : Tree) → is_settled gone a ≡ true → is_settled gone d ≡ true
    → is_settled gone (pair_at o a d) ≡ true
pair_settled gone None a d p q = refl
pair_settled gone (Some o) a d p q = ap₂ (λ x y. x && y) p q

-- TWO REGIONS behind an operator's own cells. The region of the first operand was rewritten, and then that of the second one; the own cells too
module _ (lay : Layout) (ρ : List Actual) (at : List ℕ → Option Two) (own : ℕ) (front : (head rest : List ℕ) → length head ≡ own → at (head ++ rest) ≡ at head)
    (a d : Expr) (head head' rest middle left right right' row : List ℕ) (ready : IsReady lay true own a ρ row) (row_is : row ≡ head ++ rest)
    (len : length head ≡ own) (same : length head' ≡ length head) (middle_is : middle ≡ left ++ right) (size_is : length left ≡ size lay a) where
  row' : List ℕ
  row' = head' ++ (left ++ right')

  -- what the region of the first one became, and that of the second one
  record AreRewritten : Type 0 where
    pub old_first : left_tree lay a ρ own row ≡ tree lay a ρ rest
    pub old_second : right_tree lay a d ρ own row ≡ tree lay d ρ right
    pub first : left_tree lay a ρ own (head' ++ (left ++ right')) ≡ tree lay a ρ middle
    pub second : right_tree lay a d ρ own (head' ++ (left ++ right')) ≡ tree lay d ρ right'
    pub behind : drop (pair_size lay own a d) (head' ++ (left ++ right')) ≡ drop (pair_size lay own a d) row

  rewritten : drop (size lay a) middle ≡ drop (size lay a) rest → drop (size lay d) right' ≡ drop (size lay d) right → AreRewritten
  rewritten kept kept' =
      let parts = two_regions own (size lay a) (size lay d) head head' rest left right right' row row_is len (same ∙ len)
      (ap (drop (size lay a)) (sym middle_is) ∙ kept) size_is kept' in
      let few : size lay a ≤ MAX_CELLS = (let room = ready.room in let few = ready.few in omega arith) in
      record {
        old_first = ap (tree lay a ρ) parts.old_left;
        old_second = ap (tree lay d ρ) parts.old_right;
        first = ap (tree lay a ρ) parts.new_left
            ∙ read_same lay.system.now lay.earlier.now (plain_expr a) ρ (left ++ right') (left ++ right) ready.table few parts.kept
            ∙ ap (tree lay a ρ) (sym middle_is);
        second = ap (tree lay d ρ) parts.new_right;
        behind = parts.behind;
      }

  -- AT THE BIRTH
  pub pair_opened : (born : Option Two) (gone : List ℕ) (r one other : Born) → IsOpened (tree lay a ρ) (size lay a) (newborn lay a ρ) gone rest middle one
      → IsOpened (tree lay d ρ) (size lay d) (newborn lay d ρ) gone right right' other → at head' ≡ born → r.dead ≡ node_dead (at head') one.dead other.dead
      → r.size ≡ pair_size lay own a d →
      IsOpened (pair_tree lay at own a d ρ) (pair_size lay own a d) (newborn_pair lay born a d ρ) gone row (head' ++ (left ++ right')) r
  pair_opened born gone r one other first second begins died total =
      let parts = rewritten first.rest second.rest in
      record {
        opens = ap₂ (pair_at (at (head' ++ (left ++ right')))) (parts.first ∙ first.opens) (parts.second ∙ second.opens)
            ∙ ap (λ o. newborn_pair lay o a d ρ) (front head' (left ++ right') (same ∙ len) ∙ begins);
        rest = parts.behind;
        dead = died ∙ ap (λ o. node_dead o one.dead other.dead) begins ∙ ap₂ (node_dead born) first.dead second.dead
            ∙ pair_dead (gone_in gone) born (newborn lay a ρ) (newborn lay d ρ);
        size = total;
      }

  -- AFTER A STEP
  pub pair_advanced : (s : Step) (gone : List ℕ) (r one other : Moved) → IsAdvanced lay ρ (tree lay a ρ) (size lay a) s gone rest middle one → one.tail ≡ None
      → IsAdvanced lay ρ (tree lay d ρ) (size lay d) s gone right right' other → other.tail ≡ None → r.tick ≡ node_ticks (at head) one.tick other.tick
      → at head' ≡ option_map (λ o. two_next o one.tick other.tick) (at head) → r.dead ≡ node_dead (at head') one.dead other.dead
      → r.settled ≡ (one.settled && other.settled) → r.size ≡ pair_size lay own a d → r.tail ≡ None →
      IsAdvanced lay ρ (pair_tree lay at own a d ρ) (pair_size lay own a d) s gone row (head' ++ (left ++ right')) r
  pair_advanced s gone r one other first inner second inner' ticked moved died settles total none =
      let K = lay.system.now in
      let g = length lay.earlier.now in
      let G = gone_in gone in
      let R = head' ++ (left ++ right') in
      let parts = rewritten first.rest second.rest in
      let old : at head ≡ at row = sym (front head rest len) ∙ ap at (sym row_is) in
      let new : at R ≡ at head' = front head' (left ++ right') (same ∙ len) in
      let A = left_tree lay a ρ own row in
      let D = right_tree lay a d ρ own row in
      let a_ticks : one.tick ≡ eval (formula_of A) s = first.tick ∙ ap (λ t. eval (formula_of t) s) (sym parts.old_first) in
      let d_ticks : other.tick ≡ eval (formula_of D) s = second.tick ∙ ap (λ t. eval (formula_of t) s) (sym parts.old_second) in
      let in_a = inside lay ρ (tree lay a ρ) (size lay a) s gone rest middle one first inner in
      let in_d = inside lay ρ (tree lay d ρ) (size lay d) s gone right right' other second inner' in
      let goes : pair_tree lay at own a d ρ R ≡ next K s G (pair_tree lay at own a d ρ row) =
      ap₂ (pair_at (at R)) (parts.first ∙ in_a.goes ∙ ap (next K s G) (sym parts.old_first)) (parts.second ∙ in_d.goes ∙ ap (next K s G) (sym parts.old_second))
      ∙ ap (λ o. pair_at o (next K s G A) (next K s G D))
      (new ∙ moved ∙ ap (option_map (λ o. two_next o one.tick other.tick)) old ∙ ap₂ (λ t u. option_map (λ o. two_next o t u) (at row)) a_ticks d_ticks)
      ∙ sym (pair_next K s G (at row) A D) in
      let dead : r.dead ≡ dead_of G (pair_tree lay at own a d ρ R) =
      died ∙ ap (λ o. node_dead o one.dead other.dead) (sym new)
      ∙ ap₂ (node_dead (at R)) (in_a.dead ∙ ap (dead_of G) (sym parts.first)) (in_d.dead ∙ ap (dead_of G) (sym parts.second))
      ∙ pair_dead G (at R) (left_tree lay a ρ own R) (right_tree lay a d ρ own R) in
      record {
        tick = ticked ∙ ap (λ o. node_ticks o one.tick other.tick) old ∙ ap₂ (node_ticks (at row)) a_ticks d_ticks ∙ sym (pair_eval s (at row) A D);
        settled = λ h.
            let w = and_parts one.settled other.settled (sym settles ∙ h) in
            ap (is_settled G) (pair_next K s G (at row) A D)
            ∙ pair_settled G (option_map (λ o. two_next o (eval (formula_of A) s) (eval (formula_of D) s)) (at row)) (next K s G A) (next K s G D)
            (ap (λ t. is_settled G (next K s G t)) parts.old_first ∙ first.settled w.0)
            (ap (λ t. is_settled G (next K s G t)) parts.old_second ∙ second.settled w.1);
        next = subst (Outcome K s G g ρ (pair_tree lay at own a d ρ row) (pair_tree lay at own a d ρ R) r.dead) (sym none) (goes, dead);
        rest = parts.behind;
        size = total;
      }

-- The region of an operator over clocks, and what was found of the definitions so far.

-- an operator of two clocks goes on by its own cells
pub two_flat : (lay : Layout) (e : Expr) (o : ExprOp) (x y : ℕ) (s : Step) (gone row row' : List ℕ) (r : Stepped)
    → plain_expr e ≡ EBinary o (clock_name x) (clock_name y) → is_then o ≡ false
    → r.tick ≡ node_ticks (two_at o row) (ticks_in x s) (ticks_in y s)
    → two_at o row' ≡ option_map (λ n. two_next n (ticks_in x s) (ticks_in y s)) (two_at o row)
    → r.dead ≡ node_dead (two_at o row') (ticks_in x gone) (ticks_in y gone)
    → IsRewritten lay (tree lay e []) s gone row row' (record { tick = r.tick; dead = r.dead; settled = true })
two_flat lay e o x y s gone row row' r is other tick node dead = grind (arith, common_steps, binary_pair, pair_next, pair_eval, pair_dead, pair_settled)

-- one definition more, behind those so far
pushed_other : (xs : List (Option Flat)) (x : Option Flat) (i : ℕ) → (i ≡ length xs → ⊥) → slice_index_or (xs ++ x ∷ []) i None ≡ slice_index_or xs i None
pushed_other [] x zero other = absurd (other refl)
pushed_other [] x (suc i) other = refl
pushed_other (y ∷ xs) x zero other = refl
pushed_other (y ∷ xs) x (suc i) other = pushed_other xs x i (λ same. other (ap suc same))

pub flats_more : (K : System) (flats flats' : List (Option Flat)) (n : ℕ) (e : Expression) (o : Option Flat) → length flats ≡ n → flats' ≡ flats ++ o ∷ []
    → ((i : ℕ) → IsFlatAt K i (slice_index_or flats i None)) → slice_get K.definitions n ≡ Some e → IfSome o (IsFlatly e)
    → (i : ℕ) → IsFlatAt K i (slice_index_or flats' i None)
flats_more K flats flats' n e o count pushed before is found i = grind (arith, common_steps, get_or_push, pushed_other)
