-- The formulas of the items read named clocks alone.
use Rattle.std.proofs.Common.{◌≡◌, ℕ, zero, suc, ◌+◌, ◌-◌, ◌<◌, ◌≤◌, List, [], ◌∷◌, length, map, Bool, true, false, ◌||◌, cond, Option, Some, None, slice_get}
use Rattle.std.proofs.Common.{nat_eq, nat_le, nat_lt, All, refl, sym, ap, ◌∙◌, ⊎_elim, ◌⊎◌, inl, inr, subst, arith, le-ltb, eqb-true}
use Rattle.std.proofs.lemmas.List.Elements.{All-nil, All-push}
use Rattle.std.proofs.lemmas.Option.{slice_get_within, get_or_from_slice_get}
use Rattle.ccsl_formula.specs.Formula.{Formula, FTrue, FVar, FNot, FAnd, FOr, FIff}
use Rattle.ccsl_formula.specs.Variables.{reads, ReadsBelow}
use Rattle.ccsl_kernel.specs.declared.constraint.RelationKind.TheVariants.{Subclock, Coincides, Excludes, Precedes, PrecedesWeakly, PrecedesWithin}
use Rattle.ccsl_kernel.specs.declared.constraint.RelationKind.{RelationKind}
use Rattle.ccsl_kernel.specs.declared.constraint.Constraint.{Constraint}
use Rattle.ccsl_kernel.specs.Syntax.{Expression, System, item_count, definition_of}
use Rattle.ccsl_kernel.specs.Accepted.{IsAccepted, IsConstraint}
use Rattle.ccsl_kernel.specs.Items.{relation_formula, clock_count, constraint_or_true, item_or_constraint, item_formula}
use Rattle.ccsl_kernel.specs.Laws.{ReadsLower}
use Rattle.ccsl_kernel.specs.Lives.{Step, steps}
use Rattle.ccsl_kernel.specs.Meaning.{formula_at}
use Rattle.ccsl_kernel.proofs.Scope.{ReadsOnly, reads_only}
use Rattle.ccsl_kernel.proofs.Steps.{map-steps-suc}
use Rattle.ccsl_items.specs.Formulas.{item_formulas}

if_reads : (n : ℕ) (c : Bool) (f : Formula) → ReadsOnly n f → ReadsOnly n (cond c f FTrue)
if_reads n true f r = r
if_reads n false f r = tt

relation_reads : (n : ℕ) (kind : RelationKind) (a b i j : ℕ) → a < n → b < n → ReadsOnly n (relation_formula kind a b i j)
relation_reads n Subclock a b i j p q = (p, q)
relation_reads n Coincides a b i j p q = (p, q)
relation_reads n Excludes a b i j p q = (p, q)
relation_reads n Precedes a b i j p q = if_reads n (nat_eq i j) (FNot (FVar b)) q
relation_reads n PrecedesWeakly a b i j p q = if_reads n (nat_eq i j) (FOr (FNot (FVar b)) (FVar a)) (q, p)
relation_reads n (PrecedesWithin k) a b i j p q =
    (if_reads n (nat_eq i j) (FNot (FVar b)) q, if_reads n (nat_le (j + k) i) (FOr (FNot (FVar a)) (FVar b)) (p, q))

module _ (K : System) (ok : IsAccepted K) (lower : ReadsLower K) (T : List Step) where
  constraint_reads : (o : Option Constraint) (j : ℕ) → slice_get K.constraints j ≡ o → ReadsBelow (length K.names) (constraint_or_true T (length T) o)
  constraint_reads None j at = reads_only (length K.names) FTrue tt
  constraint_reads (Some c) j at =
      let is = ok.constraints j c (slice_get_within K.constraints j c at) in
      let known : IsConstraint (length K.names) c = subst (IsConstraint (length K.names)) (get_or_from_slice_get K.constraints j c c at) is in
      reads_only (length K.names) (relation_formula c.kind c.left c.right (clock_count T c.left (length T)) (clock_count T c.right (length T)))
      (relation_reads (length K.names) c.kind c.left c.right (clock_count T c.left (length T)) (clock_count T c.right (length T)) known.0 known.1)

  is_definition : (i : ℕ) (e : Expression) → slice_get K.definitions i ≡ Some e → definition_of K (K.declared + i) ≡ Some e
  is_definition i e at =
      let place : K.declared + i - K.declared ≡ i = omega arith in
      ap (λ b. cond b None (slice_get K.definitions (K.declared + i - K.declared))) (le-ltb (K.declared + i) K.declared (omega arith))
      ∙ ap (slice_get K.definitions) place ∙ at

  item_reads : (i : ℕ) (o : Option Expression) → slice_get K.definitions i ≡ o → ReadsBelow (length K.names) (item_or_constraint K T (length T) i o)
  item_reads i None at = constraint_reads (slice_get K.constraints (i - length K.definitions)) (i - length K.definitions) refl
  item_reads i (Some e) at = λ v r.
      let within = slice_get_within K.definitions i e at in
      let all = ok.defined in
      ⊎_elim
      (λ (s : nat_eq v (K.declared + i) ≡ true). let same = eqb-true v (K.declared + i) s in omega (arith, within, all, same))
      (λ (s : reads (formula_at K T (K.declared + i) e [] 0 (length T)) v ≡ true).
      let low = lower T (K.declared + i) (length T) e (is_definition i e at) (omega arith) v s in omega (arith, within, all, low))
      (either (nat_eq v (K.declared + i)) (reads (formula_at K T (K.declared + i) e [] 0 (length T)) v) r)
    where
      either : (a b : Bool) → (a || b) ≡ true → (a ≡ true) ⊎ (b ≡ true)
      either true b h = inl refl
      either false b h = inr h

  first_items : (n : ℕ) → All (ReadsBelow (length K.names)) (map (item_formula K T (length T)) (steps 0 n))
  first_items zero = All-nil (ReadsBelow (length K.names))
  first_items (suc n) =
      subst (λ (fs : List Formula). All (ReadsBelow (length K.names)) fs) (sym (map-steps-suc (item_formula K T (length T)) 0 n (omega arith)))
      (All-push (ReadsBelow (length K.names)) (map (item_formula K T (length T)) (steps 0 n)) (item_formula K T (length T) n) (first_items n)
      (item_reads n (slice_get K.definitions n) refl))

  pub named_alone : All (ReadsBelow (length K.names)) (item_formulas K T)
  named_alone = first_items (item_count K)
