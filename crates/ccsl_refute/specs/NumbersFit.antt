-- The numbers of which a certificate may speak.
use Rattle.std.specs.Prelude.{ℕ, ◌<◌, ◌^◌, List, [], ◌∷◌}
use Rattle.ccsl_refute.specs.declared.line.Line.{Line}
use Rattle.ccsl_refute.specs.declared.line.Line.TheVariants.{Nonempty, Item, Derived}

abbrev pub AllBelow : ℕ → List ℕ → Type 0
AllBelow limit [] = Unit {0}
AllBelow limit (n ∷ ns) = (n < limit) × AllBelow limit ns

-- the numbers of a line are those of their types
abbrev pub NumbersFit : Line → Type 0
NumbersFit Nonempty = Unit {0}
NumbersFit (Item item lits) = item < 2 ^ 32
NumbersFit (Derived lits hints) = AllBelow (2 ^ 64) hints
