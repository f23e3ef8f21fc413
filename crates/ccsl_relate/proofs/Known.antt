-- What items read of a step is known where they read clocks alone that are declared or followed.
use Rattle.std.proofs.lemmas.Grind.{common_steps}
use Rattle.std.proofs.Common.{arith, ◌≡◌, ℕ, ◌+◌, ◌<◌, List, [], ◌∷◌, Bool, true, false, not, ◌&&◌, ◌||◌, cond, nat_eq, nat_le, map, length, get_or, Option}
use Rattle.std.proofs.Common.{Some, None, refl, sym, ap, ap₂, ◌∙◌}
use Rattle.std.specs.List.{list_all}
use Rattle.std.proofs.lemmas.Bool.{and_parts, ltb-true}
use Rattle.std.proofs.lemmas.List.Sums.{AllPass-from_list_all}
use Rattle.ccsl_base.specs.Clocks.{ticks_in}
use Rattle.ccsl_formula.specs.Formula.{FTrue, FVar, FNot, FOr, eval, same}
use Rattle.ccsl_kernel.specs.declared.constraint.RelationKind.{RelationKind}
use Rattle.ccsl_kernel.specs.declared.constraint.RelationKind.TheVariants.{Subclock, Coincides, Excludes, Precedes, PrecedesWeakly, PrecedesWithin}
use Rattle.ccsl_kernel.specs.Syntax.{System}
use Rattle.ccsl_kernel.specs.Lives.{Step}
use Rattle.ccsl_kernel.specs.Items.{relation_formula}
use Rattle.ccsl_kernel.specs.Runs.{full_step, declared_part}
use Rattle.ccsl_state.specs.Reach.{is_within}
use Rattle.ccsl_state.specs.Part.{HeldPart}
use Rattle.ccsl_state.proofs.PartMeans.{part_keeps}
use Rattle.ccsl_relate.specs.declared.watched.Related.{Related}
use Rattle.ccsl_relate.specs.declared.watched.Watched.{Watched}
use Rattle.ccsl_relate.specs.declared.watched.Watched.TheVariants.{Nothing, Definition, Relation}
use Rattle.ccsl_relate.specs.Watching.{counted_on, related_formula, fails_in, next_in, reads_only, is_known, Suffice}
use Rattle.ccsl_relate.specs.Watching.{step_known}
use Rattle.ccsl_relate.proofs.History.{declared-ticks}

-- A RELATION READS ITS TWO CLOCKS ALONE: where two steps tell the same of them, it holds in both or in neither
module _ (s t : Step) where
  abbrev IsSame : ℕ → Type 0
  IsSame x = ticks_in x s ≡ ticks_in x t

  -- a formula that is asked under a condition alone
  not-ticking : (v : Bool) (b : ℕ) → IsSame b → eval (cond v (FNot (FVar b)) FTrue) s ≡ eval (cond v (FNot (FVar b)) FTrue) t
  not-ticking true b e = ap not e
  not-ticking false b e = refl

  ticking-with : (v : Bool) (a b : ℕ) → IsSame a → IsSame b
      → eval (cond v (FOr (FNot (FVar a)) (FVar b)) FTrue) s ≡ eval (cond v (FOr (FNot (FVar a)) (FVar b)) FTrue) t
  ticking-with true a b e d = ap₂ (λ x y. not x || y) e d
  ticking-with false a b e d = refl

  same-truth : (kind : RelationKind) (a b m n : ℕ) → IsSame a → IsSame b → eval (relation_formula kind a b m n) s ≡ eval (relation_formula kind a b m n) t
  same-truth Subclock a b m n e d = ap₂ (λ x y. not x || y) e d
  same-truth Coincides a b m n e d = ap₂ same e d
  same-truth Excludes a b m n e d = ap₂ (λ x y. not (x && y)) e d
  same-truth Precedes a b m n e d = not-ticking (nat_eq m n) b d
  same-truth PrecedesWeakly a b m n e d = ticking-with (nat_eq m n) b a d e
  same-truth (PrecedesWithin k) a b m n e d = ap₂ (λ x y. x && y) (not-ticking (nat_eq m n) b d) (ticking-with (nat_le (n + k) m) a b e d)

-- what is known of a step tells the same of the clocks whose ticks are known
same-known : (K : System) (T : List Step) (ticks : Step) (held : Option HeldPart) (x : ℕ) → is_known K held x ≡ true
    → ticks_in x (step_known K held T ticks) ≡ ticks_in x (full_step K T (declared_part K ticks))
same-known K T ticks None x l = sym (declared-ticks K T ticks x (ltb-true x K.declared l))
same-known K T ticks (Some p) x l = part_keeps (is_within p.system p.followed) (full_step K T (declared_part K ticks)) x l

-- what is asked of the step that is known is what is asked of the whole step
module _ (K : System) (T : List Step) (ticks : Step) (held : Option HeldPart) where
  abbrev whole : Step
  whole = full_step K T (declared_part K ticks)

  abbrev known : Step
  known = step_known K held T ticks

  abbrev reads : Watched → Bool
  reads = reads_only (is_known K held)

  module _ (r : Related) (h : reads (Relation r) ≡ true) where
    both : (is_known K held r.left ≡ true) × (is_known K held r.right ≡ true)
    both = and_parts (is_known K held r.left) (is_known K held r.right) h

    same-left : ticks_in r.left known ≡ ticks_in r.left whole
    same-left = same-known K T ticks held r.left both.0

    same-right : ticks_in r.right known ≡ ticks_in r.right whole
    same-right = same-known K T ticks held r.right both.1

    relation-known : related_formula r known ≡ related_formula r whole
    relation-known = grind (arith, common_steps, same-truth, same-left, same-right)

    counts-known : counted_on r known ≡ counted_on r whole
    counts-known = grind (arith, common_steps, same-left, same-right)

  fails-one : (given : List ℕ) (w : Watched) → reads w ≡ true → fails_in given known w ≡ fails_in given whole w
  fails-one given Nothing h = refl
  fails-one given (Definition clock) h = ap (λ b. not (same (ticks_in clock given) b)) (same-known K T ticks held clock h)
  fails-one given (Relation r) h = ap not (relation-known r h)

  next-one : (w : Watched) → reads w ≡ true → next_in known w ≡ next_in whole w
  next-one Nothing h = refl
  next-one (Definition clock) h = refl
  next-one (Relation r) h = ap Relation (counts-known r h)

  -- a list of items
  pub fails-known : (given : List ℕ) (kept : List Watched) (k : ℕ) (d : Watched) → Suffice K held kept → k < length kept
      → fails_in given known (get_or kept k d) ≡ fails_in given whole (get_or kept k d)
  fails-known given kept k d e l = fails-one given (get_or kept k d) (AllPass-from_list_all reads kept e k d l)

  pub next-known : (kept : List Watched) → Suffice K held kept → map (next_in known) kept ≡ map (next_in whole) kept
  next-known [] e = refl
  next-known (w ∷ kept) e = let parts = and_parts (reads w) (list_all reads kept) e in ap₂ (λ x xs. x ∷ xs) (next-one w parts.0) (next-known kept parts.1)

-- an item reads the same clocks after a step
module _ (p q : ℕ → Bool) (e : (x : ℕ) → p x ≡ q x) (s : Step) where
  reads-same : (w : Watched) → reads_only p (next_in s w) ≡ reads_only q w
  reads-same Nothing = refl
  reads-same (Definition clock) = e clock
  reads-same (Relation r) = ap₂ (λ x y. x && y) (e r.left) (e r.right)

  reads-on : (kept : List Watched) → list_all (reads_only p) (map (next_in s) kept) ≡ list_all (reads_only q) kept
  reads-on [] = refl
  reads-on (w ∷ kept) = ap₂ (λ x y. x && y) (reads-same w) (reads-on kept)

pub suffice-on : (K : System) (held held' : Option HeldPart) (s : Step) (kept : List Watched) → ((x : ℕ) → is_known K held' x ≡ is_known K held x)
    → Suffice K held kept → Suffice K held' (map (next_in s) kept)
suffice-on K held held' s kept same e = reads-on (is_known K held') (is_known K held) same s kept ∙ e
