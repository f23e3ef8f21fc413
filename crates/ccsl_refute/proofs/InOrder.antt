-- Members that are read one after another.
use Rattle.std.proofs.Common.{◌≡◌, List, [], ◌∷◌, ◌++◌, Ok, Err, refl, sym, ap, append_assoc}
use Rattle.std.specs.declared.result.Result.{Result}
use Rattle.ccsl_refute.specs.declared.fault.CertFault.{CertFault}
use Rattle.ccsl_refute.specs.declared.fault.CertFault.TheVariants.{Syntax, UnknownName, Memory}
use Rattle.ccsl_refute.specs.declared.line.Line.{Line}
use Rattle.ccsl_refute.specs.Read.{Reads}
use Rattle.ccsl_refute.specs.Reading.{read_more}

-- what was read before, in front of what is read
abbrev pub put_before : {A : Type 0} → List A → Result (List A) CertFault → Result (List A) CertFault
put_before xs (Ok ys) = Ok (xs ++ ys)
put_before xs (Err fault) = Err fault

pub put_before-more : (xs : List Line) (x : Line) (rest : Result (List Line) CertFault) → put_before xs (read_more (Ok x) rest) ≡ put_before (xs ++ x ∷ []) rest
put_before-more xs x (Ok ys) = ap Ok (sym (append_assoc xs (x ∷ []) ys))
put_before-more xs x (Err later) = refl

-- a fault that one reading has, another has too
pub Reads-fault : {A B C D : Type 0} (f : A → B) (g : C → D) (this : Result B CertFault) (that : Result D CertFault) (fault : CertFault) →
    ((e : CertFault) → this ≡ Err e → that ≡ Err e) → Reads {A = A} f this (Err fault) → Reads {A = C} g that (Err fault)
Reads-fault f g this that (Syntax at) h r = h (Syntax at) r
Reads-fault f g this that (UnknownName at) h r = h (UnknownName at) r
Reads-fault f g this that Memory h r = r
