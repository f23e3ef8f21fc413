-- Worked examples, computed.
use Rattle.std.specs.Fmt.{digits}
use Rattle.std.specs.Prelude.{codes, ◌≡◌, [], ◌∷◌, true, false, Ok, Err, refl}
use Rattle.ccsl_ast.specs.declared.definition.Kind.TheVariants as kind
use Rattle.ccsl_ast.specs.declared.term.Sign.TheVariants as sign
use Rattle.ccsl_ast.specs.declared.term.Primary.TheVariants as prim
use Rattle.ccsl_ast.specs.declared.term.WordTerm.TheVariants as word
use Rattle.ccsl_ast.specs.declared.term.Argument.TheVariants as arg
use Rattle.ccsl_ast.specs.declared.tree.BinaryOp.TheVariants as op
use Rattle.ccsl_ast.specs.declared.line.Relation.TheVariants as rel
use Rattle.ccsl_ast.specs.Trees.{EName, ECall, EBinary, EDelay, EAwait, EFilter, EDelayed, LDefine, LConstraint, LCall, SClocks, SLineOf, DRelation, DGroup}
use Rattle.ccsl_kernel.specs.declared.expr.Place.TheVariants as place
use Rattle.ccsl_kernel.specs.declared.expr.NumSign.TheVariants as plus
use Rattle.ccsl_kernel.specs.declared.expr.NumPrim.TheVariants as num
use Rattle.ccsl_kernel.specs.declared.expr.WordPlace.TheVariants as spot
use Rattle.ccsl_kernel.specs.declared.expr.Value.TheVariants as value
use Rattle.ccsl_kernel.specs.declared.expr.ExprTest.TheVariants as asks
use Rattle.ccsl_kernel.specs.declared.expr.ExprOp.TheVariants as does
use Rattle.ccsl_kernel.specs.declared.group.ParamKind.TheVariants as takes
use Rattle.ccsl_kernel.specs.declared.constraint.RelationKind.TheVariants as does_
use Rattle.ccsl_kernel.specs.Syntax as kernel
use Rattle.ccsl_rules.specs.declared.refusal.Refusal.TheVariants as refused
use Rattle.ccsl_rules.specs.Answer.{elaborated}
use Rattle.ccsl_rules.proofs.Making.{at_, term_, param_, part_, sheet_, number_, body_, word_, constraint_, system_, the_library}

growing_period : elaborated the_library (sheet_ ((DGroup ((part_ (at_ 19 (codes "period"))
    ((param_ kind.Clock (at_ 32 (codes "c"))) ∷ (param_ kind.Number (at_ 42 (codes "n"))) ∷ [])
    (EBinary op.Then (EAwait (EName (at_ 48 (codes "c"))) (term_ (prim.Name (at_ 56 (codes "n"))) []))
    (ECall (at_ 64 (codes "period")) ((arg.Term (term_ (prim.Name (at_ 71 (codes "c"))) [])) ∷
    (arg.Term (term_ (prim.Name (at_ 74 (codes "n"))) ((sign.Plus, (prim.Num 78 1)) ∷ []))) ∷ [])))) ∷ [])) ∷ [])
    ((SClocks ((at_ 97 (codes "a")) ∷ [])) ∷ (SLineOf (LDefine (at_ 107 (codes "p"))
    (ECall (at_ 111 (codes "period")) ((arg.Term (term_ (prim.Name (at_ 118 (codes "a"))) [])) ∷
    (arg.Term (term_ (prim.Num 121 1) [])) ∷ [])))) ∷ [])) ≡ Ok
    (system_ ((codes "a") ∷ (codes "p") ∷ []) 1 2 [] (((body_ (takes.Clock ∷ takes.Number ∷ [])
    (kernel.EBinary does.Then (kernel.EAwait (kernel.EName (place.Param 0)) (number_ (num.Param 1) []))
    (kernel.ECall 0 0 ((value.Clock (place.Param 0)) ∷ (value.Number (number_ (num.Param 1) [])) ∷ [])))) ∷ []) ∷
    ((body_ (takes.Clock ∷ takes.Number ∷ []) (kernel.EIf (asks.Equal (number_ (num.Param 1) [])
    (number_ (num.Num 0) [])) (kernel.EName (place.Param 0))
    (kernel.EBinary does.Then (kernel.EBinary does.Upto kernel.ENever
    (kernel.EAwait (kernel.EName (place.Param 0)) (number_ (num.Param 1) []))) (kernel.EName (place.Param 0))))) ∷
    []) ∷ ((body_ (takes.Clock ∷ takes.Word ∷ []) (kernel.EIf (asks.Ended (spot.Param 1)) kernel.ENever
    (kernel.EIf (asks.Head (spot.Param 1)) (kernel.EBinary does.Then
    (kernel.EAwait (kernel.EName (place.Param 0)) (number_ (num.Num 1) []))
    (kernel.ECall 2 0 ((value.Clock (place.Param 0)) ∷ (value.Word (spot.Tail 1)) ∷ [])))
    (kernel.EBinary does.Then (kernel.EBinary does.Upto kernel.ENever (kernel.EName (place.Param 0)))
    (kernel.ECall 2 0 ((value.Clock (place.Param 0)) ∷ (value.Word (spot.Tail 1)) ∷ [])))))) ∷ []) ∷
    ((body_ (takes.Clock ∷ takes.Number ∷ []) (kernel.EBinary does.Then
    (kernel.EAwait (kernel.EName (place.Param 0)) (number_ (num.Param 1) []))
    (kernel.ECall 3 0 ((value.Clock (place.Param 0)) ∷ (value.Number
    (number_ (num.Param 1) ((plus.Plus, (num.Num 1)) ∷ []))) ∷ [])))) ∷ []) ∷ [])
    ((kernel.ECall 3 0 ((value.Clock (place.Clock 0)) ∷ (value.Number (number_ (num.Num 1) [])) ∷ [])) ∷ []) [])
unfolding digits
growing_period = refl

alternates_once : elaborated the_library (sheet_ [] ((SClocks ((at_ 23 (codes "a")) ∷ (at_ 26 (codes "b")) ∷ [])) ∷
    (SLineOf (LCall (at_ 29 (codes "alternates")) ((arg.Term (term_ (prim.Name (at_ 40 (codes "a"))) [])) ∷
    (arg.Term (term_ (prim.Name (at_ 43 (codes "b"))) [])) ∷ []))) ∷ [])) ≡ Ok
    (system_ ((codes "a") ∷ (codes "b") ∷ (codes "alternates@1.next") ∷ []) 2 2 []
    (((body_ (takes.Clock ∷ takes.Number ∷ []) (kernel.EBinary does.Then
    (kernel.EAwait (kernel.EName (place.Param 0)) (number_ (num.Param 1) []))
    (kernel.ECall 0 0 ((value.Clock (place.Param 0)) ∷ (value.Number (number_ (num.Param 1) [])) ∷ [])))) ∷ []) ∷
    ((body_ (takes.Clock ∷ takes.Number ∷ []) (kernel.EIf (asks.Equal (number_ (num.Param 1) [])
    (number_ (num.Num 0) [])) (kernel.EName (place.Param 0))
    (kernel.EBinary does.Then (kernel.EBinary does.Upto kernel.ENever
    (kernel.EAwait (kernel.EName (place.Param 0)) (number_ (num.Param 1) []))) (kernel.EName (place.Param 0))))) ∷
    []) ∷ ((body_ (takes.Clock ∷ takes.Word ∷ []) (kernel.EIf (asks.Ended (spot.Param 1)) kernel.ENever
    (kernel.EIf (asks.Head (spot.Param 1)) (kernel.EBinary does.Then
    (kernel.EAwait (kernel.EName (place.Param 0)) (number_ (num.Num 1) []))
    (kernel.ECall 2 0 ((value.Clock (place.Param 0)) ∷ (value.Word (spot.Tail 1)) ∷ [])))
    (kernel.EBinary does.Then (kernel.EBinary does.Upto kernel.ENever (kernel.EName (place.Param 0)))
    (kernel.ECall 2 0 ((value.Clock (place.Param 0)) ∷ (value.Word (spot.Tail 1)) ∷ [])))))) ∷ []) ∷ [])
    ((kernel.EDelay (kernel.EName (place.Clock 0)) (number_ (num.Num 1) [])) ∷ [])
    ((constraint_ does_.Precedes 0 1 (codes "alternates@1")) ∷
    (constraint_ does_.Precedes 1 2 (codes "alternates@1")) ∷ []))
unfolding digits
alternates_once = refl

unguarded_at_the_left : elaborated the_library (sheet_ ((DGroup
    ((part_ (at_ 19 (codes "f")) ((param_ kind.Clock (at_ 27 (codes "c"))) ∷ [])
    (EBinary op.Then (ECall (at_ 32 (codes "f")) ((arg.Term (term_ (prim.Name (at_ 34 (codes "c"))) [])) ∷ []))
    (EName (at_ 42 (codes "c"))))) ∷ [])) ∷ []) []) ≡ Err (refused.Unguarded 32)
unfolding digits
unguarded_at_the_left = refl

declared_twice : elaborated the_library (sheet_ [] ((SClocks ((at_ 23 (codes "a")) ∷ [])) ∷
    (SClocks ((at_ 32 (codes "a")) ∷ [])) ∷ [])) ≡ Err (refused.Duplicate 32)
unfolding digits
declared_twice = refl

names_a_later_clock : elaborated the_library (sheet_ [] ((SClocks ((at_ 23 (codes "a")) ∷ [])) ∷
    (SLineOf (LDefine (at_ 33 (codes "x")) (EName (at_ 37 (codes "y"))))) ∷
    (SLineOf (LDefine (at_ 47 (codes "y")) (EName (at_ 51 (codes "a"))))) ∷ [])) ≡ Err (refused.Later 37)
unfolding digits
names_a_later_clock = refl

unknown_clock : elaborated the_library (sheet_ [] ((SClocks ((at_ 23 (codes "a")) ∷ [])) ∷
    (SLineOf (LConstraint (at_ 26 (codes "a")) rel.Precedes (at_ 37 (codes "z")))) ∷ [])) ≡ Err (refused.Unknown 37)
unfolding digits
unknown_clock = refl

too_few_arguments : elaborated the_library (sheet_ [] ((SClocks ((at_ 23 (codes "a")) ∷ [])) ∷
    (SLineOf (LDefine (at_ 33 (codes "x")) (ECall (at_ 37 (codes "periodic"))
    ((arg.Term (term_ (prim.Name (at_ 46 (codes "a"))) [])) ∷ [])))) ∷ [])) ≡ Err (refused.Arguments 37)
unfolding digits
too_few_arguments = refl

word_that_does_not_read : elaborated the_library (sheet_ []
    ((SClocks ((at_ 23 (codes "a")) ∷ [])) ∷ (SLineOf (LDefine (at_ 33 (codes "x"))
    (EFilter (EName (at_ 37 (codes "a"))) (word.Text 46 (codes "01(2)"))))) ∷ [])) ≡ Err (refused.BadWord 46)
unfolding digits
word_that_does_not_read = refl

words : elaborated the_library (sheet_ ((DRelation (at_ 17 (codes "r"))
    ((param_ kind.Clock (at_ 25 (codes "c"))) ∷ (param_ kind.Word (at_ 33 (codes "w"))) ∷
    (param_ kind.Number (at_ 43 (codes "n"))) ∷ []) ((LDefine (at_ 55 (codes "x"))
    (EFilter (EFilter (EName (at_ 60 (codes "c"))) (word.Name (at_ 69 (codes "w"))))
    (word.Tail (at_ 84 (codes "w"))))) ∷ (LCall (at_ 87 (codes "q"))
    ((arg.Term (term_ (prim.Name (at_ 89 (codes "x"))) [])) ∷ [])) ∷
    (LDefine (at_ 100 (codes "y")) (ECall (at_ 104 (codes "filter_by"))
    ((arg.Term (term_ (prim.Name (at_ 114 (codes "c"))) [])) ∷ (arg.Text 117 (codes "1")) ∷ []))) ∷ [])) ∷
    (DRelation (at_ 134 (codes "q")) ((param_ kind.Clock (at_ 142 (codes "c"))) ∷ [])
    ((LConstraint (at_ 147 (codes "c")) rel.Precedes (at_ 158 (codes "c"))) ∷ [])) ∷ [])
    ((SClocks ((at_ 178 (codes "a")) ∷ [])) ∷ (SLineOf (LCall (at_ 181 (codes "r"))
    ((arg.Term (term_ (prim.Name (at_ 183 (codes "a"))) [])) ∷ (arg.Text 186 (codes "01(10)")) ∷
    (arg.Term (term_ (prim.Num 196 3) [])) ∷ []))) ∷ (SLineOf
    (LCall (at_ 200 (codes "r")) ((arg.Term (term_ (prim.Name (at_ 202 (codes "a"))) [])) ∷
    (arg.Text 205 (codes "1")) ∷ (arg.Term (term_ (prim.Num 210 4294967295) ((sign.Plus, (prim.Num 223 2)) ∷ []))) ∷
    []))) ∷ [])) ≡ Err (refused.Later 87)
unfolding digits
words = refl

nested : elaborated the_library (sheet_ ((DRelation (at_ 17 (codes "r"))
    ((param_ kind.Clock (at_ 25 (codes "c"))) ∷ (param_ kind.Word (at_ 33 (codes "w"))) ∷
    (param_ kind.Number (at_ 43 (codes "n"))) ∷ []) ((LDefine (at_ 55 (codes "x"))
    (EDelay (EFilter (EName (at_ 60 (codes "c"))) (word.Name (at_ 69 (codes "w"))))
    (term_ (prim.Name (at_ 78 (codes "n"))) []))) ∷ (LConstraint (at_ 81 (codes "x")) rel.Precedes
    (at_ 92 (codes "c"))) ∷ [])) ∷ (DRelation (at_ 106 (codes "q"))
    ((param_ kind.Clock (at_ 114 (codes "d"))) ∷ (param_ kind.Word (at_ 122 (codes "v"))) ∷
    (param_ kind.Number (at_ 132 (codes "m"))) ∷ []) ((LCall (at_ 137 (codes "r"))
    ((arg.Term (term_ (prim.Name (at_ 139 (codes "d"))) [])) ∷ (arg.Tail (at_ 147 (codes "v"))) ∷
    (arg.Term (term_ (prim.Name (at_ 150 (codes "m"))) ((sign.Plus, (prim.Name (at_ 154 (codes "m")))) ∷
    (sign.Minus, (prim.Num 158 1)) ∷ []))) ∷ [])) ∷ (LDefine (at_ 169 (codes "z"))
    (EFilter (EName (at_ 173 (codes "d"))) (word.Name (at_ 182 (codes "v"))))) ∷
    (LCall (at_ 185 (codes "r")) ((arg.Term (term_ (prim.Name (at_ 187 (codes "z"))) [])) ∷
    (arg.Text 190 (codes "(01)")) ∷ (arg.Term (term_ (prim.Num 198 7) [])) ∷ [])) ∷
    (LCall (at_ 202 (codes "r")) ((arg.Term (term_ (prim.Name (at_ 204 (codes "z"))) [])) ∷
    (arg.Term (term_ (prim.Name (at_ 207 (codes "v"))) [])) ∷ (arg.Term (term_ (prim.Name (at_ 210 (codes "m"))) []))
    ∷ [])) ∷ [])) ∷ []) ((SClocks ((at_ 231 (codes "a")) ∷ [])) ∷
    (SLineOf (LCall (at_ 234 (codes "q")) ((arg.Term (term_ (prim.Name (at_ 236 (codes "a"))) [])) ∷
    (arg.Text 239 (codes "01(10)")) ∷ (arg.Term (term_ (prim.Num 249 2) [])) ∷ []))) ∷
    (SLineOf (LDefine (at_ 260 (codes "e")) (EDelay (EName (at_ 264 (codes "a"))) (term_ (prim.Num 272 2) [])))) ∷
    (SLineOf (LCall (at_ 275 (codes "q")) ((arg.Term (term_ (prim.Name (at_ 277 (codes "e"))) [])) ∷
    (arg.Text 280 (codes "1(0)")) ∷ (arg.Term (term_ (prim.Num 288 1) [])) ∷ []))) ∷ [])) ≡ Ok
    (system_ ((codes "a") ∷ (codes "e") ∷ (codes "q@1.r@0.x") ∷ (codes "q@1.z") ∷ (codes "q@1.r@2.x") ∷
    (codes "q@1.r@3.x") ∷ (codes "q@3.r@0.x") ∷ (codes "q@3.z") ∷ (codes "q@3.r@2.x") ∷ (codes "q@3.r@3.x") ∷ []) 1 2
    ((word_ [] (false ∷ true ∷ [])) ∷ (word_ (false ∷ true ∷ []) (true ∷ false ∷ [])) ∷
    (word_ (true ∷ []) (false ∷ [])) ∷ []) (((body_ (takes.Clock ∷ takes.Number ∷ [])
    (kernel.EBinary does.Then (kernel.EAwait (kernel.EName (place.Param 0)) (number_ (num.Param 1) []))
    (kernel.ECall 0 0 ((value.Clock (place.Param 0)) ∷ (value.Number (number_ (num.Param 1) [])) ∷ [])))) ∷ []) ∷
    ((body_ (takes.Clock ∷ takes.Number ∷ []) (kernel.EIf (asks.Equal (number_ (num.Param 1) [])
    (number_ (num.Num 0) [])) (kernel.EName (place.Param 0))
    (kernel.EBinary does.Then (kernel.EBinary does.Upto kernel.ENever
    (kernel.EAwait (kernel.EName (place.Param 0)) (number_ (num.Param 1) []))) (kernel.EName (place.Param 0))))) ∷
    []) ∷ ((body_ (takes.Clock ∷ takes.Word ∷ []) (kernel.EIf (asks.Ended (spot.Param 1)) kernel.ENever
    (kernel.EIf (asks.Head (spot.Param 1)) (kernel.EBinary does.Then
    (kernel.EAwait (kernel.EName (place.Param 0)) (number_ (num.Num 1) []))
    (kernel.ECall 2 0 ((value.Clock (place.Param 0)) ∷ (value.Word (spot.Tail 1)) ∷ [])))
    (kernel.EBinary does.Then (kernel.EBinary does.Upto kernel.ENever (kernel.EName (place.Param 0)))
    (kernel.ECall 2 0 ((value.Clock (place.Param 0)) ∷ (value.Word (spot.Tail 1)) ∷ [])))))) ∷ []) ∷ [])
    ((kernel.EDelay (kernel.EName (place.Clock 0)) (number_ (num.Num 2) [])) ∷
    (kernel.EDelay (kernel.EFilter (kernel.EName (place.Clock 0)) (spot.Word 1 1)) (number_ (num.Num 3) [])) ∷
    (kernel.EFilter (kernel.EName (place.Clock 0)) (spot.Word 1 0)) ∷
    (kernel.EDelay (kernel.EFilter (kernel.EName (place.Clock 3)) (spot.Word 0 0)) (number_ (num.Num 7) [])) ∷
    (kernel.EDelay (kernel.EFilter (kernel.EName (place.Clock 3)) (spot.Word 1 0)) (number_ (num.Num 2) [])) ∷
    (kernel.EDelay (kernel.EFilter (kernel.EName (place.Clock 1)) (spot.Word 2 1)) (number_ (num.Num 1) [])) ∷
    (kernel.EFilter (kernel.EName (place.Clock 1)) (spot.Word 2 0)) ∷
    (kernel.EDelay (kernel.EFilter (kernel.EName (place.Clock 7)) (spot.Word 0 0)) (number_ (num.Num 7) [])) ∷
    (kernel.EDelay (kernel.EFilter (kernel.EName (place.Clock 7)) (spot.Word 2 0)) (number_ (num.Num 1) [])) ∷ [])
    ((constraint_ does_.Precedes 2 0 (codes "q@1.r@0")) ∷ (constraint_ does_.Precedes 4 3 (codes "q@1.r@2")) ∷
    (constraint_ does_.Precedes 5 3 (codes "q@1.r@3")) ∷ (constraint_ does_.Precedes 6 1 (codes "q@3.r@0")) ∷
    (constraint_ does_.Precedes 8 7 (codes "q@3.r@2")) ∷ (constraint_ does_.Precedes 9 7 (codes "q@3.r@3")) ∷ []))
unfolding digits
nested = refl
