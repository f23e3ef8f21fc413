-- The library's members in a system that is elaborated with it: each is a group of its own, the first three of the system.
use Rattle.std.specs.Prelude.{List, [], ◌∷◌}
use Rattle.ccsl_kernel.specs.declared.expr.Place.{Place}
use Rattle.ccsl_kernel.specs.declared.expr.Place.TheVariants as place
use Rattle.ccsl_kernel.specs.declared.expr.NumPrim.{NumPrim}
use Rattle.ccsl_kernel.specs.declared.expr.NumPrim.TheVariants as num
use Rattle.ccsl_kernel.specs.declared.expr.NumTerm.{NumTerm}
use Rattle.ccsl_kernel.specs.declared.expr.WordPlace.{WordPlace}
use Rattle.ccsl_kernel.specs.declared.expr.WordPlace.TheVariants as word
use Rattle.ccsl_kernel.specs.declared.expr.Value.TheVariants as value
use Rattle.ccsl_kernel.specs.declared.expr.ExprTest.TheVariants as test
use Rattle.ccsl_kernel.specs.declared.expr.ExprOp.TheVariants.{Then, Upto}
use Rattle.ccsl_kernel.specs.declared.group.ParamKind.TheVariants as takes
use Rattle.ccsl_kernel.specs.Syntax.{Expression, EName, ECall, ENever, EBinary, EAwait, EIf, Body}

-- calls of the members
abbrev pub periodic : Place → NumTerm → Expression
periodic c n = ECall 0 0 (value.Clock c ∷ value.Number n ∷ [])

abbrev pub filter_by : Place → WordPlace → Expression
filter_by c w = ECall 2 0 (value.Clock c ∷ value.Word w ∷ [])

abbrev pub term_of : NumPrim → NumTerm
term_of p = record { first = p; rest = [] }

-- a member's own parameters: its clock, and its number or its word
abbrev pub own_clock : Place
own_clock = place.Param 0

abbrev pub own_number : NumTerm
own_number = term_of (num.Param 1)

abbrev pub own_word : WordPlace
own_word = word.Param 1

abbrev pub own_tail : WordPlace
own_tail = word.Tail 1

-- the members themselves
abbrev pub periodic_root : Expression
periodic_root = EBinary Then (EAwait (EName own_clock) own_number) (periodic own_clock own_number)

abbrev pub skip_root : Expression
skip_root =
    EIf (test.Equal own_number (term_of (num.Num 0))) (EName own_clock)
    (EBinary Then (EBinary Upto ENever (EAwait (EName own_clock) own_number)) (EName own_clock))

abbrev pub filter_by_root : Expression
filter_by_root =
    EIf (test.Ended own_word) ENever
    (EIf (test.Head own_word)
    (EBinary Then (EAwait (EName own_clock) (term_of (num.Num 1))) (filter_by own_clock own_tail))
    (EBinary Then (EBinary Upto ENever (EName own_clock)) (filter_by own_clock own_tail)))

-- the groups with which every such system begins
abbrev pub library_groups : List (List Body)
library_groups =
    (record { params = takes.Clock ∷ takes.Number ∷ []; root = periodic_root } ∷ [])
    ∷ (record { params = takes.Clock ∷ takes.Number ∷ []; root = skip_root } ∷ [])
    ∷ (record { params = takes.Clock ∷ takes.Word ∷ []; root = filter_by_root } ∷ [])
    ∷ []
