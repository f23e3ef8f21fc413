-- The library is accepted by itself, and its groups are these, whatever the file.
use Rattle.std.specs.Fmt.{digits}
use Rattle.std.specs.Prelude.{◌≡◌, [], ◌∷◌, take, None, refl}
use Rattle.ccsl_ast.specs.Trees.{PlainFile}
use Rattle.ccsl_kernel.specs.declared.expr.Place.TheVariants as place
use Rattle.ccsl_kernel.specs.declared.expr.NumPrim.TheVariants as num
use Rattle.ccsl_kernel.specs.declared.expr.WordPlace.TheVariants as spot
use Rattle.ccsl_kernel.specs.declared.expr.Value.TheVariants as value
use Rattle.ccsl_kernel.specs.declared.expr.ExprTest.TheVariants as asks
use Rattle.ccsl_kernel.specs.declared.expr.ExprOp.TheVariants as does
use Rattle.ccsl_kernel.specs.declared.group.ParamKind.TheVariants as takes
use Rattle.ccsl_kernel.specs.Syntax as kernel
use Rattle.ccsl_rules.proofs.Making.{sheet_, number_, body_, the_library}
use Rattle.ccsl_rules.specs.Elaborated.{refusal}
use Rattle.ccsl_rules.specs.Expansion.{expand}

pub library_accepted : refusal (sheet_ [] []) the_library ≡ None
unfolding digits
library_accepted = refl

pub library_groups : (file : PlainFile)
    → take 3 (expand the_library
    file).groups ≡ (((body_ (takes.Clock ∷ takes.Number ∷ [])
    (kernel.EBinary does.Then (kernel.EAwait (kernel.EName (place.Param 0)) (number_ (num.Param 1) []))
    (kernel.ECall 0 0 ((value.Clock (place.Param 0)) ∷ (value.Number (number_ (num.Param 1) [])) ∷ [])))) ∷ []) ∷ ((body_
    (takes.Clock ∷ takes.Number ∷ [])
    (kernel.EIf (asks.Equal (number_ (num.Param 1) []) (number_ (num.Num 0) [])) (kernel.EName (place.Param 0))
    (kernel.EBinary does.Then
    (kernel.EBinary does.Upto kernel.ENever (kernel.EAwait (kernel.EName (place.Param 0)) (number_ (num.Param 1) [])))
    (kernel.EName (place.Param 0))))) ∷ []) ∷ ((body_ (takes.Clock ∷ takes.Word ∷ [])
    (kernel.EIf (asks.Ended (spot.Param 1)) kernel.ENever
    (kernel.EIf (asks.Head (spot.Param 1))
    (kernel.EBinary does.Then (kernel.EAwait (kernel.EName (place.Param 0)) (number_ (num.Num 1) []))
    (kernel.ECall 2 0 ((value.Clock (place.Param 0)) ∷ (value.Word (spot.Tail 1)) ∷ [])))
    (kernel.EBinary does.Then (kernel.EBinary does.Upto kernel.ENever (kernel.EName (place.Param 0)))
    (kernel.ECall 2 0 ((value.Clock (place.Param 0)) ∷ (value.Word (spot.Tail 1)) ∷ [])))))) ∷ []) ∷ [])
library_groups file = refl
