-- The least fault is the least fault.
use Rattle.std.proofs.Common.{◌≡◌, ℕ, List, [], ◌∷◌, Bool, true, false, subst, Option, Some, None, nat_lt, nat_eq, ◌&&◌, ◌||◌, inl, inr, refl, sym, arith}
use Rattle.std.proofs.Common.{if◌then◌else◌}
use Rattle.std.proofs.lemmas.Bool.Decides.{nat_tests}
use Rattle.ccsl_rules.specs.Faults.{Fault, rank, comes_before, earlier, least}
use Rattle.ccsl_rules.specs.Laws.{NoneBefore, IsLeast}

pub lex-trans : (a b c r s t : ℕ) → (nat_lt a b || (nat_eq a b && nat_lt r s)) ≡ true → (nat_lt b c || (nat_eq b c && nat_lt s t)) ≡ true
    → (nat_lt a c || (nat_eq a c && nat_lt r t)) ≡ true
lex-trans a b c r s t p q = grind (arith, nat_tests)

pub lex-not : (a b c r s t : ℕ) → (nat_lt a b || (nat_eq a b && nat_lt r s)) ≡ false → (nat_lt b c || (nat_eq b c && nat_lt s t)) ≡ false
    → (nat_lt a c || (nat_eq a c && nat_lt r t)) ≡ false
lex-not a b c r s t p q = grind (arith, nat_tests)

-- some fault stands in every nonempty list
pub none-empty : (fs : List Fault) → least fs ≡ None → fs ≡ []
none-empty [] e = refl
none-empty (f ∷ fs) e = absurd (some-earlier f (least fs) e) where
  some-earlier : (f : Fault) (g : Option Fault) → earlier (Some f) g ≡ None → ⊥
  some-earlier f None e = cc
  some-earlier f (Some g) e = by_test f g (comes_before g f) e where
    by_test : (f g : Fault) (b : Bool) → (if b then Some g else Some f) ≡ None → ⊥
    by_test f g true e = cc
    by_test f g false e = cc

irreflexive : (a r : ℕ) → (nat_lt a a || (nat_eq a a && nat_lt r r)) ≡ false
irreflexive a r = grind (arith, nat_tests)

asym : (a b r s : ℕ) → (nat_lt a b || (nat_eq a b && nat_lt r s)) ≡ true → (nat_lt b a || (nat_eq b a && nat_lt s r)) ≡ false
asym a b r s h = grind (arith, nat_tests)

none-before-later : (gs : List Fault) (f g : Fault) → comes_before g f ≡ false → NoneBefore gs g → NoneBefore gs f
none-before-later [] f g h n = tt
none-before-later (x ∷ xs) f g h n =
    (lex-not x.at g.at f.at (rank x.cause) (rank g.cause) (rank f.cause) n.0 h, none-before-later xs f g h n.1)

step : (f : Fault) (fs : List Fault) (m : Option Fault) → IsLeast fs m → IsLeast (f ∷ fs) (earlier (Some f) m)
step f fs None e = (inl refl, (irreflexive f.at (rank f.cause), subst_none)) where
  subst_none : NoneBefore fs f
  subst_none = subst (λ l. NoneBefore l f) (sym e) tt
step f fs (Some g) h = by_test (comes_before g f) refl where
  by_test : (b : Bool) → comes_before g f ≡ b → IsLeast (f ∷ fs) (if b then Some g else Some f)
  by_test true e = (inr h.0, (asym g.at f.at (rank g.cause) (rank f.cause) e, h.1))
  by_test false e = (inl refl, (irreflexive f.at (rank f.cause), none-before-later fs f g e h.1))

pub least-is : (fs : List Fault) → IsLeast fs (least fs)
least-is [] = refl
least-is (f ∷ fs) = step f fs (least fs) (least-is fs)
