-- Formulas over clocks: their truth under a set of clocks, and their Kleene value under a partial assignment.
use Rattle.std.specs.Prelude.{ℕ, List, Bool, true, false, not, ◌&&◌, ◌||◌}
use Rattle.ccsl_formula.specs.declared.truth3.Truth3.{Truth3}
use Rattle.ccsl_formula.specs.declared.truth3.Truth3.TheVariants.{Yes, No}
use Rattle.ccsl_formula.specs.Truth.{not3, and3, or3, iff3, Part, Assignment}
use Rattle.ccsl_base.specs.Clocks.{ticks_in}

pub data Formula : Type 0 where
  FTrue : Formula
  FFalse : Formula
  FVar : (x : ℕ) → Formula
  FNot : (f : Formula) → Formula
  FAnd : (f g : Formula) → Formula
  FOr : (f g : Formula) → Formula
  FIff : (f g : Formula) → Formula

abbrev pub same : Bool → Bool → Bool
same true b = b
same false b = not b

-- the truth value under values of all clocks
abbrev pub truth : Formula → Assignment → Bool
truth FTrue v = true
truth FFalse v = false
truth (FVar x) v = v x
truth (FNot f) v = not (truth f v)
truth (FAnd f g) v = truth f v && truth g v
truth (FOr f g) v = truth f v || truth g v
truth (FIff f g) v = same (truth f v) (truth g v)

-- a set of clocks as values: true for its members
abbrev pub in_set : List ℕ → Assignment
in_set s x = ticks_in x s

-- the truth value under a set of clocks
abbrev pub eval : Formula → List ℕ → Bool
eval f s = truth f (in_set s)

-- the strong Kleene value
abbrev pub kleene : Formula → Part → Truth3
kleene FTrue p = Yes
kleene FFalse p = No
kleene (FVar x) p = p x
kleene (FNot f) p = not3 (kleene f p)
kleene (FAnd f g) p = and3 (kleene f p) (kleene g p)
kleene (FOr f g) p = or3 (kleene f p) (kleene g p)
kleene (FIff f g) p = iff3 (kleene f p) (kleene g p)
