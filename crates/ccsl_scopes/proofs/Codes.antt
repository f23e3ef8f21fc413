-- What a path means has the code of a declared variable.
use Rattle.std.proofs.Common.{◌≡◌, ℕ, List, [], ◌∷◌, Bool, true, false, Option, Some, None, take, nat_lt, if◌then◌else◌}
use Rattle.std.proofs.lemmas.Bool.{and_parts}
use Rattle.ccsl_scopes.specs.declared.select.Select.{Select}
use Rattle.ccsl_scopes.specs.declared.select.Select.TheVariants.{Whole}
use Rattle.ccsl_scopes.specs.declared.select.Bits.{Bits}
use Rattle.ccsl_scopes.specs.declared.variable.Variable.{Variable}
use Rattle.ccsl_scopes.specs.declared.lookup.Target.{Target}
use Rattle.ccsl_scopes.specs.declared.lookup.Agreed.{Agreed}
use Rattle.ccsl_scopes.specs.declared.lookup.Agreed.TheVariants.{Nothing, One, Several}
use Rattle.ccsl_scopes.specs.Selects.{bits_of}
use Rattle.ccsl_scopes.specs.Paths.{has_letters, is_or_ends_in, with_bits, target_of, is_same, joined, only_from, only, chosen, resolved}
use Rattle.ccsl_scopes.specs.Codes.{are_declared, IsDeclared}

CodedOne : ℕ → Option Target → Type 0
CodedOne count None = Unit {0}
CodedOne count (Some u) = nat_lt u.code count ≡ true

CodedAll : ℕ → Agreed → Type 0
CodedAll count Nothing = Unit {0}
CodedAll count (One u) = nat_lt u.code count ≡ true
CodedAll count Several = Unit {0}

coded-bits : (count : ℕ) (v : Variable) (o : Option Bits) → nat_lt v.code count ≡ true → CodedOne count (with_bits v o)
unfolding CodedOne
coded-bits count v None e = tt
coded-bits count v (Some bits) e = e

coded-target : (count : ℕ) (exact : Bool) (parts : List ℕ) (select : Select) (v : Variable) → nat_lt v.code count ≡ true
    → CodedOne count (target_of exact parts select v)
unfolding CodedOne
coded-target count exact parts select v e =
    letters (has_letters v.kind) (is_or_ends_in exact (take v.bare v.path.items) parts) (is_or_ends_in exact v.path.items parts)
    (bits_of v.range v.size select) (bits_of Whole v.size select)
  where
    letters : (l p q : Bool) (o w : Option Bits) → CodedOne count (if l then (if p then with_bits v o else (if q then with_bits v w else None)) else None)
    letters true true q o w = coded-bits count v o e
    letters true false true o w = coded-bits count v w e
    letters true false false o w = tt
    letters false p q o w = tt

coded-joined : (count : ℕ) (a : Agreed) (o : Option Target) → CodedAll count a → CodedOne count o → CodedAll count (joined a o)
unfolding CodedOne CodedAll
coded-joined count a None ca co = ca
coded-joined count Nothing (Some u) ca co = co
coded-joined count (One v) (Some u) ca co = by (is_same v u)
  where
    by : (p : Bool) → CodedAll count (if p then One v else Several)
    by true = ca
    by false = tt
coded-joined count Several (Some u) ca co = tt

coded-only : (count : ℕ) (a : Agreed) (exact : Bool) (parts : List ℕ) (select : Select) (vs : List Variable) → CodedAll count a → are_declared count vs ≡ true →
    CodedAll count (only_from a exact parts select vs)
coded-only count a exact parts select [] ca e = ca
coded-only count a exact parts select (v ∷ vs) ca e =
    let both = and_parts (nat_lt v.code count) (are_declared count vs) e in
    coded-only count (joined a (target_of exact parts select v)) exact parts select vs
    (coded-joined count a (target_of exact parts select v) ca (coded-target count exact parts select v both.0)) both.1

coded-chosen : (count : ℕ) (a x : Agreed) → CodedAll count a → CodedAll count x → IsDeclared count (chosen a x)
unfolding CodedAll
coded-chosen count Nothing x ca cx = tt
coded-chosen count (One u) x ca cx = ca
coded-chosen count Several Nothing ca cx = tt
coded-chosen count Several (One u) ca cx = cx
coded-chosen count Several Several ca cx = tt

pub resolved-declared : (count : ℕ) (parts : List ℕ) (select : Select) (vs : List Variable) → are_declared count vs ≡ true
    → IsDeclared count (resolved parts select vs)
unfolding CodedAll resolved
resolved-declared count parts select vs e =
    coded-chosen count (only false parts select vs) (only true parts select vs) (coded-only count Nothing false parts select vs tt e)
    (coded-only count Nothing true parts select vs tt e)
