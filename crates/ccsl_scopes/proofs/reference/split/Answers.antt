-- At the end of a reference nothing is taken from it and nothing left.
use Rattle.std.proofs.lemmas.List.{take_all}
use Rattle.std.proofs.Math.ListN.{drop_of_length-le}
use Rattle.std.proofs.Common.{◌≡◌, ℕ, ◌≤◌, List, length, take, drop, ap₂, if◌then◌else◌, arith, rules}
use Rattle.ccsl_scopes.specs.References.{reference_of, is_escaped, whole, named, last_bracket}
use Rattle.ccsl_scopes.proofs.reference.split.Goals as goal

at-end : (text : List ℕ) (first : ℕ) → length text ≤ first →
    reference_of (take first text) (drop first text) ≡ (if is_escaped text then whole text else named text (last_bracket text))
at-end text first l = ap₂ reference_of (take_all first text l) (drop_of_length-le text l)

pub returns-then-is_escaped : goal.returns-then-is_escaped
returns-then-is_escaped c = rw (at-end c.args.reference.now c.args.first (omega arith)) (search rules)

pub returns : goal.returns
returns c = rw (at-end c.args.reference.now c.args.first (omega arith)) (search rules)
