-- The literals that stand in a line.
use Rattle.std.specs.Prelude.{List, []}
use Rattle.ccsl_refute.specs.declared.line.Lit.{Lit}
use Rattle.ccsl_refute.specs.declared.line.Line.{Line}
use Rattle.ccsl_refute.specs.declared.line.Line.TheVariants.{Nonempty, Item, Derived}

-- the literals that stand in a line
abbrev pub literals : Line → List Lit
literals Nonempty = []
literals (Item item lits) = lits
literals (Derived lits hints) = lits
