-- That a call answers as a reading says, or for want of memory.
use Rattle.std.specs.Prelude.{◌≡◌, List, [], ◌∷◌, Option, Some, None, Ok, Err}
use Rattle.std.specs.declared.result.Result.{Result}
use Rattle.ccsl_refute.specs.declared.fault.CertFault.{CertFault}
use Rattle.ccsl_refute.specs.declared.fault.CertFault.TheVariants.{Syntax, UnknownName, Memory}

-- f of the answer is what was expected; that memory may run out is free
abbrev pub Reads : {A B : Type 0} → (A → B) → Result B CertFault → Result A CertFault → Type 0
Reads f expected (Ok x) = expected ≡ Ok (f x)
Reads f expected (Err (Syntax at)) = expected ≡ Err (Syntax at)
Reads f expected (Err (UnknownName at)) = expected ≡ Err (UnknownName at)
Reads f expected (Err Memory) = Unit {0}

abbrev pub members : {A : Type 0} → Option A → List A
members None = []
members (Some x) = x ∷ []
