-- Clocks of clauses are below a bound.
use Rattle.std.proofs.Common.{◌≡◌, ℕ, zero, suc, ◌<◌, ◌≤◌, List, [], ◌∷◌, ◌++◌, true, not, ◌&&◌, nat_lt, sym, ⊎_elim, subst, arith, le_trans}
use Rattle.std.proofs.lemmas.Bool.{ltb-true, and_parts}
use Rattle.ccsl_refute.specs.declared.line.Lit.{Lit}
use Rattle.ccsl_refute.specs.declared.line.Line.{Line}
use Rattle.ccsl_refute.specs.Literals.{names, are_proper, positives}
use Rattle.ccsl_refute.specs.declared.line.Line.TheVariants.{Nonempty, Item, Derived}
use Rattle.std.specs.List.{All}
use Rattle.ccsl_refute.specs.LineLiterals.{literals}
use Rattle.ccsl_refute.specs.Validity.{valid_from, clause, is_valid}
use Rattle.ccsl_formula.specs.declared.scope.Scope.{Scope}
use Rattle.ccsl_refute.specs.Below.{AreBelow, ClausesBelow}
use Rattle.ccsl_formula.specs.Formula.{Formula}
use Rattle.ccsl_refute.proofs.Lists.{snoc-get}

pub proper-below : (n m : ℕ) (ls : List Lit) → n ≤ m → are_proper n ls ≡ true → AreBelow m ls
proper-below n m [] l h = tt
proper-below n m (k ∷ ls) l h =
    let first : nat_lt k.clock n ≡ true = (and_parts _ _ h).0 in
    let rest : (not (names k.clock ls) && are_proper n ls) ≡ true = (and_parts _ _ h).1 in
    let b : k.clock < n = ltb-true k.clock n first in
    (le_trans b l, proper-below n m ls l ((and_parts _ _ rest).1))

pub below-append : (m : ℕ) (ls ks : List Lit) → AreBelow m ls → AreBelow m ks → AreBelow m (ls ++ ks)
below-append m [] ks a b = b
below-append m (l ∷ ls) ks a b = (a.0, below-append m ls ks a.1 b)

pub positives-below : (n m : ℕ) → n ≤ m → AreBelow m (positives n)
positives-below zero m l = tt
positives-below (suc n) m l = below-append m (positives n) _ (positives-below n m (omega arith)) ((omega arith), tt)

pub valid-below : (scope : Scope) (fs : List Formula) (earlier : List Line) (e : Line) (m : ℕ) → scope.declared ≤ scope.named → scope.named ≤ m →
    is_valid scope fs earlier e ≡ true → AreBelow m (clause scope.declared e)
valid-below scope fs earlier Nonempty m d l h = positives-below scope.declared m (omega arith)
valid-below scope fs earlier (Item k lits) m d l h = proper-below scope.named m lits l ((and_parts _ _ h).0)
valid-below scope fs earlier (Derived lits hints) m d l h = proper-below scope.named m lits l ((and_parts _ _ h).0)

pub below-snoc : (m d : ℕ) (lines : List Line) (e : Line) → ClausesBelow m d lines → AreBelow m (clause d e) → ClausesBelow m d (lines ++ e ∷ [])
below-snoc m d lines e b a = record {
  below = λ i x g. ⊎_elim (λ h. b.below i x h) (λ q. subst (λ (z : Line). AreBelow m (clause d z)) (sym q) a) (snoc-get lines e x i g);
}

line-below : (scope : Scope) (fs : List Formula) (earlier : List Line) (line : Line) → is_valid scope fs earlier line ≡ true
    → AreBelow scope.named (literals line)
line-below scope fs earlier Nonempty h = tt
line-below scope fs earlier (Item item lits) h = proper-below scope.named scope.named lits (omega arith) (and_parts (are_proper scope.named lits) _ h).0
line-below scope fs earlier (Derived lits hints) h = proper-below scope.named scope.named lits (omega arith) (and_parts (are_proper scope.named lits) _ h).0

pub lines-below : (scope : Scope) (fs : List Formula) (earlier lines : List Line) → valid_from scope fs earlier lines ≡ true
    → All (λ line. AreBelow scope.named (literals line)) lines
lines-below scope fs earlier [] v k d l = absurd (omega arith)
lines-below scope fs earlier (line ∷ lines) v zero d l = line-below scope fs earlier line (and_parts (is_valid scope fs earlier line) _ v).0
lines-below scope fs earlier (line ∷ lines) v (suc k) d l =
    lines-below scope fs (earlier ++ line ∷ []) lines (and_parts (is_valid scope fs earlier line) _ v).1 k d (omega arith)
