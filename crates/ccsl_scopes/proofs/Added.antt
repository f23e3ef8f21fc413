-- Codes that are declared.
use Rattle.std.proofs.Common.{◌≡◌, ℕ, ◌≤◌, List, [], ◌∷◌, length, ◌&&◌, true, Option, Some, None, Result, Ok, Err, nat_lt, refl, ap, ap₂, ◌∙◌, arith, lt-ltb}
use Rattle.std.specs.Prelude.{IfOk, OnErr}
use Rattle.std.proofs.lemmas.List.{length-append}
use Rattle.std.proofs.lemmas.Bool.{and_parts, ltb-true}
use Rattle.ccsl_base.specs.Added.{IsAdded}
use Rattle.ccsl_base.specs.declared.memory.Memory.{Memory}
use Rattle.ccsl_scopes.specs.declared.variable.Variable.{Variable}
use Rattle.ccsl_scopes.specs.Codes.{are_declared}

-- variables that have some codes have them among more
pub declared-more : (m n : ℕ) (vs : List Variable) → m ≤ n → are_declared m vs ≡ true → are_declared n vs ≡ true
declared-more m n [] l e = refl
declared-more m n (v ∷ vs) l e =
    let both = and_parts (nat_lt v.code m) (are_declared m vs) e in
    let low = ltb-true v.code m both.0 in
    ap₂ (λ p q. p && q) (lt-ltb v.code n (omega (arith, low, l))) (declared-more m n vs l both.1)

pub added-length : (old new : List (List ℕ)) (name : List ℕ) (o : Option ℕ) → IsAdded old new name o → length old ≤ length new
added-length old new name None a = let same = ap length a.1 in omega (arith, same)
added-length old new name (Some number) a = let more = ap length a.2 ∙ length-append old (name ∷ []) in omega (arith, more)

pub result-length : (old new : List (List ℕ)) (name : List ℕ) (r : Result (Option ℕ) Memory) → IfOk r (λ o. IsAdded old new name o) → OnErr r (new ≡ old)
    → length old ≤ length new
result-length old new name (Ok o) added memory = added-length old new name o added
result-length old new name (Err e) added memory = let same = ap length memory in omega (arith, same)
