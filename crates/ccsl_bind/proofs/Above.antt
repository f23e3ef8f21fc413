-- A clock above all of a set.
use Rattle.std.proofs.Common.{◌≡◌, ℕ, ◌<◌, List, [], ◌∷◌, ◌++◌, refl, ap, arith}
use Rattle.std.specs.List.{AllByRecursion}
use Rattle.std.proofs.lemmas.Bool.{le-ltb}
use Rattle.ccsl_base.specs.Clocks.{with_clock}
use Rattle.ccsl_vcd.proofs.RowLaws.{not-eq'}

abbrev pub AllBelow : ℕ → List ℕ → Type 0
AllBelow n xs = AllByRecursion (λ x. x < n) xs

-- it goes to the end
pub with_clock-last : (y : ℕ) (xs : List ℕ) → AllBelow y xs → with_clock y xs ≡ xs ++ y ∷ []
with_clock-last y [] h = refl
with_clock-last y (x ∷ xs) h = rw (le-ltb y x (omega (arith, h.0)), not-eq' x y h.0) (ap (λ zs. x ∷ zs) (with_clock-last y xs h.1))
