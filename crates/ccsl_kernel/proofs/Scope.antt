-- The formula of an expression reads only the clocks that the expression and its values name.
use Rattle.std.proofs.Common.{◌≡◌, ℕ, zero, suc, ◌+◌, ◌-◌, ◌<◌, ◌≤◌, nat_le, nat_lt, nat_eq, List, [], ◌∷◌, map, length, get_or, Bool, true, false, not, ◌&&◌}
use Rattle.std.proofs.Common.{◌||◌, Option, Some, None, refl, sym, ap, ap₂, subst, arith, if◌then◌else◌, ⊎_elim, eqb-true}
use Rattle.std.proofs.lemmas.Bool.{or_cases}
use Rattle.ccsl_base.specs.Clocks.{ticks_in}
use Rattle.ccsl_formula.specs.Formula.{Formula, FTrue, FFalse, FVar, FNot, FAnd, FOr, FIff, eval, same}
use Rattle.ccsl_formula.specs.Variables.{reads}
use Rattle.ccsl_words.specs.Word.{BinaryWord, letter}
use Rattle.ccsl_kernel.specs.declared.expr.ExprOp.{ExprOp}
use Rattle.ccsl_kernel.specs.declared.expr.Place.{Place}
use Rattle.ccsl_kernel.specs.declared.expr.Value.{Value}
use Rattle.ccsl_kernel.specs.declared.actual.Actual.{Actual}
use Rattle.ccsl_kernel.specs.declared.expr.ExprOp.TheVariants as op
use Rattle.ccsl_kernel.specs.declared.expr.Place.TheVariants as place
use Rattle.ccsl_kernel.specs.declared.expr.Value.TheVariants as value
use Rattle.ccsl_kernel.specs.declared.actual.Actual.TheVariants as actual
use Rattle.ccsl_kernel.specs.Syntax.{Expression, EName, ECall, ENever, EBinary, EDelay, EAwait, EFilter, EDelayed, EIf, System, root_of}
use Rattle.ccsl_kernel.specs.Lives.{Step, Life, operand, end_of, at_end, joined}
use Rattle.ccsl_kernel.specs.Actuals.{place_of, number_of, suffix_of, value_of, test_of, word_of}
use Rattle.ccsl_kernel.specs.Table.{Now, Operand, delay_row, await_row, filter_row, delayed_row, inf_row, sup_row, upto_row, upto_weakly_row, sampled_row}
use Rattle.ccsl_kernel.specs.Table.{sampled_weakly_row}
use Rattle.ccsl_kernel.specs.Ticks.{count, ever, waits, waits_weakly, waits_since}
use Rattle.ccsl_kernel.specs.Meaning.{named, life_given}
use Rattle.ccsl_kernel.specs.Guarded.{IsAllowed}
use Rattle.ccsl_kernel.specs.Within.{ActualsWithin}
use Rattle.ccsl_kernel.proofs.Scoped.{NamesBelow}
use Rattle.ccsl_kernel.proofs.WithinLaws.{ActualWithin, names_more, place_within, args_within}
use Rattle.ccsl_kernel.proofs.GuardedCalls.{AreGuarded}
use Rattle.ccsl_kernel.proofs.Steps.{find-within}
use Rattle.ccsl_kernel.proofs.Induction.{IsClosed, induct}
use Rattle.ccsl_kernel.proofs.TableHolds.{meaning_calls}

-- each variable of a formula is below X, by cases
abbrev pub ReadsOnly : ℕ → Formula → Type 0
ReadsOnly X FTrue = Unit {0}
ReadsOnly X FFalse = Unit {0}
ReadsOnly X (FVar x) = x < X
ReadsOnly X (FNot f) = ReadsOnly X f
ReadsOnly X (FAnd f g) = ReadsOnly X f × ReadsOnly X g
ReadsOnly X (FOr f g) = ReadsOnly X f × ReadsOnly X g
ReadsOnly X (FIff f g) = ReadsOnly X f × ReadsOnly X g

-- what occurs is below X
pub reads_only : (X : ℕ) (f : Formula) → ReadsOnly X f → (v : ℕ) → reads f v ≡ true → v < X
reads_only X FTrue r v h = let z : ⊥ = cc in absurd z
reads_only X FFalse r v h = let z : ⊥ = cc in absurd z
reads_only X (FVar x) r v h = let e = eqb-true v x h in omega (arith, r)
reads_only X (FNot f) r v h = reads_only X f r v h
reads_only X (FAnd f g) r v h = ⊎_elim (reads_only X f r.0 v) (reads_only X g r.1 v) (or_cases (reads f v) (reads g v) h)
reads_only X (FOr f g) r v h = ⊎_elim (reads_only X f r.0 v) (reads_only X g r.1 v) (or_cases (reads f v) (reads g v) h)
reads_only X (FIff f g) r v h = ⊎_elim (reads_only X f r.0 v) (reads_only X g r.1 v) (or_cases (reads f v) (reads g v) h)

-- a formula has one value under steps that agree on what it reads
pub eval_same : (X : ℕ) (f : Formula) (s s' : Step) → ReadsOnly X f → ((x : ℕ) → x < X → ticks_in x s ≡ ticks_in x s') → eval f s ≡ eval f s'
eval_same X FTrue s s' r h = refl
eval_same X FFalse s s' r h = refl
eval_same X (FVar x) s s' r h = h x r
eval_same X (FNot f) s s' r h = ap not (eval_same X f s s' r h)
eval_same X (FAnd f g) s s' r h = ap₂ (λ x y. x && y) (eval_same X f s s' r.0 h) (eval_same X g s s' r.1 h)
eval_same X (FOr f g) s s' r h = ap₂ (λ x y. x || y) (eval_same X f s s' r.0 h) (eval_same X g s s' r.1 h)
eval_same X (FIff f g) s s' r h = ap₂ same (eval_same X f s s' r.0 h) (eval_same X g s s' r.1 h)

module _ (X : ℕ) where
  pub chosen : (c : Bool) (f g : Formula) → ReadsOnly X f → ReadsOnly X g → ReadsOnly X (if c then f else g)
  chosen true f g r r' = r
  chosen false f g r r' = r'

  -- each row reads what its operands read
  delay_reads : (m : ℕ) (a : Operand) → ReadsOnly X a.formula → ReadsOnly X (delay_row m a).formula
  delay_reads m a r = chosen (nat_le m (count a.ticks)) a.formula FFalse r tt

  await_reads : (m : ℕ) (a : Operand) → ReadsOnly X a.formula → ReadsOnly X (await_row m a).formula
  await_reads m a r = chosen (nat_eq (suc (count a.ticks)) m) a.formula FFalse r tt

  filter_reads : (w : BinaryWord) (o : ℕ) (a : Operand) → ReadsOnly X a.formula → ReadsOnly X (filter_row w o a).formula
  filter_reads w o a r = chosen (letter w (o + count a.ticks)) a.formula FFalse r tt

  delayed_reads : (m : ℕ) (a d : Operand) → ReadsOnly X d.formula → ReadsOnly X (delayed_row m a d).formula
  delayed_reads m a d r = chosen (waits_since (m - 1) a.ticks d.ticks) d.formula FFalse r tt

  inf_reads : (a d : Operand) → ReadsOnly X a.formula → ReadsOnly X d.formula → ReadsOnly X (inf_row a d).formula
  inf_reads a d r r' = chosen (nat_lt (count d.ticks) (count a.ticks)) a.formula
      (if nat_lt (count a.ticks) (count d.ticks) then d.formula else FOr a.formula d.formula) r
      (chosen (nat_lt (count a.ticks) (count d.ticks)) d.formula (FOr a.formula d.formula) r' (r, r'))

  sup_reads : (a d : Operand) → ReadsOnly X a.formula → ReadsOnly X d.formula → ReadsOnly X (sup_row a d).formula
  sup_reads a d r r' = chosen (nat_lt (count a.ticks) (count d.ticks)) a.formula
      (if nat_lt (count d.ticks) (count a.ticks) then d.formula else FAnd a.formula d.formula) r
      (chosen (nat_lt (count d.ticks) (count a.ticks)) d.formula (FAnd a.formula d.formula) r' (r, r'))

  upto_reads : (a d : Operand) → ReadsOnly X a.formula → ReadsOnly X d.formula → ReadsOnly X (upto_row a d).formula
  upto_reads a d r r' = chosen (ever d.ticks) FFalse (FAnd a.formula (FNot d.formula)) tt (r, r')

  upto_weakly_reads : (a d : Operand) → ReadsOnly X a.formula → ReadsOnly X (upto_weakly_row a d).formula
  upto_weakly_reads a d r = chosen (ever d.ticks) FFalse a.formula tt r

  sampled_reads : (a d : Operand) → ReadsOnly X d.formula → ReadsOnly X (sampled_row a d).formula
  sampled_reads a d r' = chosen (waits a.ticks d.ticks) d.formula FFalse r' tt

  sampled_weakly_reads : (a d : Operand) → ReadsOnly X a.formula → ReadsOnly X d.formula → ReadsOnly X (sampled_weakly_row a d).formula
  sampled_weakly_reads a d r r' = chosen (waits_weakly a.ticks d.ticks) d.formula (FAnd d.formula a.formula) r' (r', r)

  module _ (K : System) (T : List Step) (gone : ℕ → ℕ → Bool) (ok : AreGuarded K) (closed : (g m : ℕ) → NamesBelow 0 (root_of K g m)) where
    -- what is shown of an expression that is born at b
    abbrev Reads : ℕ → Expression → List Actual → Type 0
    Reads b e ρ = NamesBelow X e → ActualsWithin (λ x. x < X) ρ → (n : ℕ) → b ≤ n → n ≤ length T → ReadsOnly X (life_given K T gone e ρ b n).formula

    name_reads : (v : Actual) → ActualWithin (λ x. x < X) v → (b n : ℕ) → ReadsOnly X (named K T gone v b n).formula
    name_reads (actual.Clock x) h b n = h.0
    name_reads (actual.Number k) h b n = tt
    name_reads (actual.Word w o) h b n = tt

    joined_reads : (o : ExprOp) (L M : Life) (b n : ℕ) → ((i : ℕ) → b ≤ i → i ≤ length T → ReadsOnly X (L b i).formula) →
        ((k i : ℕ) → b ≤ k → (o ≡ op.Then → b < k) → k ≤ i → i ≤ length T → ReadsOnly X (M k i).formula) → b ≤ n → n ≤ length T
        → ReadsOnly X (joined T o L M b n).formula
    joined_reads op.Then L M b n h h' l u = on (end_of L b n) refl
      where
        on : (e : Option ℕ) → end_of L b n ≡ e → ReadsOnly X (at_end e (record { formula = (L b n).formula; dead = false }) (λ k. M k n)).formula
        on None e = h n l u
        on (Some k) e = let w = find-within _ (suc b) (suc n) k e in h' k n (omega (arith, w.0)) (λ _. w.0) (omega (arith, w.1)) u
    joined_reads op.Union L M b n h h' l u = (h n l u, h' b n (omega arith) (λ e. let z : ⊥ = cc in absurd z) l u)
    joined_reads op.Inter L M b n h h' l u = (h n l u, h' b n (omega arith) (λ e. let z : ⊥ = cc in absurd z) l u)
    joined_reads op.Minus L M b n h h' l u = (h n l u, h' b n (omega arith) (λ e. let z : ⊥ = cc in absurd z) l u)
    joined_reads op.Inf L M b n h h' l u = inf_reads (operand T L b n) (operand T M b n) (h n l u) (h' b n (omega arith) (λ e. let z : ⊥ = cc in absurd z) l u)
    joined_reads op.Sup L M b n h h' l u = sup_reads (operand T L b n) (operand T M b n) (h n l u) (h' b n (omega arith) (λ e. let z : ⊥ = cc in absurd z) l u)
    joined_reads op.Upto L M b n h h' l u =
        upto_reads (operand T L b n) (operand T M b n) (h n l u) (h' b n (omega arith) (λ e. let z : ⊥ = cc in absurd z) l u)
    joined_reads op.UptoWeakly L M b n h h' l u = upto_weakly_reads (operand T L b n) (operand T M b n) (h n l u)
    joined_reads op.Sampled L M b n h h' l u = sampled_reads (operand T L b n) (operand T M b n) (h' b n (omega arith) (λ e. let z : ⊥ = cc in absurd z) l u)
    joined_reads op.SampledWeakly L M b n h h' l u =
        sampled_weakly_reads (operand T L b n) (operand T M b n) (h n l u) (h' b n (omega arith) (λ e. let z : ⊥ = cc in absurd z) l u)

    choose : (t : Bool) (L M : Life) (b n : ℕ) → ReadsOnly X (L b n).formula → ReadsOnly X (M b n).formula → ReadsOnly X ((if t then L else M) b n).formula
    choose true L M b n r r' = r
    choose false L M b n r r' = r'

    reads_closed : IsClosed K (length T) Reads
    reads_closed = record {
      name = λ x ρ b u h v n l u'. name_reads (place_of x ρ) (place_within (λ x. x < X) x ρ h v) b n;
      never = λ ρ b u h v n l u'. tt;
      binary = λ o a d ρ b u ra rd h v n l u'. joined_reads o (life_given K T gone a ρ) (life_given K T gone d ρ) b n (λ i l u. ra h.0 v i l u)
          (λ k i l s l' u. rd k l (omega arith) s h.1 v i l' u) l u';
      delay = λ a m ρ b u ra h v n l u'. delay_reads (number_of m ρ) (operand T (life_given K T gone a ρ) b n) (ra h v n l u');
      await = λ a m ρ b u ra h v n l u'. await_reads (number_of m ρ) (operand T (life_given K T gone a ρ) b n) (ra h v n l u');
      filter = λ a w ρ b u ra h v n l u'. let s =
          suffix_of K.words w ρ in filter_reads (word_of K.words s.word) s.offset (operand T (life_given K T gone a ρ) b n) (ra h v n l u');
      delayed = λ a m d ρ b u pos ra rd h v n l u'. delayed_reads m (operand T (life_given K T gone a ρ) b n) (operand T (life_given K T gone d ρ) b n)
          (rd h.1 v n l u');
      choice = λ q a d ρ b u ra rd h v n l u'. choose (test_of K.words q ρ) (life_given K T gone a ρ) (life_given K T gone d ρ) b n (ra h.0 v n l u')
          (rd h.1 v n l u');
    }

    -- A DEFINITION READS LOWER CLOCKS ALONE
    pub reads_below : (e : Expression) (ρ : List Actual) (b : ℕ) → IsAllowed K e → b ≤ length T → Reads b e ρ
    reads_below e ρ b ok_e u =
        induct K (length T) Reads reads_closed ok
        (λ group m args v b g u h names vals n l u'.
        subst (λ (now : Now). ReadsOnly X now.formula) (sym (meaning_calls K T gone ok group m args v g b n l u'))
        (h (names_more (λ x. x < 0) (λ x. x < X) (λ y l. absurd (omega (arith, l))) (root_of K group m) (closed group m))
        (args_within (λ x. x < X) K.words args v names vals) n l u'))
        e ρ b ok_e u
