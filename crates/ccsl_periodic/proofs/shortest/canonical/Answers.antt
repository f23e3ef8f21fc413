use Rattle.std.proofs.Common.{◌≡◌, ◌+◌, List, Bool, length, take, drop, arith, subst, ap, ◌∙◌}
use Rattle.std.specs.Prelude.{IfOk}
use Rattle.ccsl_words.specs.Word.{letter}
use Rattle.ccsl_periodic.specs.Canonical.{IsCanonical}
use Rattle.ccsl_periodic.proofs.Spelled.{front, front_len, spelled, if_ok-is}
use Rattle.ccsl_periodic.proofs.Repeating.{shortest_is_canonical}
use Rattle.ccsl_periodic.proofs.shortest.canonical.Goals as goal
use Rattle.ccsl_periodic.proofs.shortest.canonical.Goals.{After-as_slice}

long : (c : After-as_slice) → length c.as_slice.result.now ≡ c.shortest_prefix-prefix.result + c.shortest_period-period.result
long c = ap length (c.as_slice.ensures.value ∙ c.in_ok-letters.ensures)
    ∙ front_len (letter c.args.word.now) (c.shortest_prefix-prefix.result + c.shortest_period-period.result)

pub word_of-requires-clause-prefix : goal.word_of-requires-clause-prefix
word_of-requires-clause-prefix c = omega (arith, long c)

pub word_of-requires-clause-some : goal.word_of-requires-clause-some
word_of-requires-clause-some c = omega (arith, long c, c.shortest_period-period.ensures.some)

pub word_of-requires-clause-few : goal.word_of-requires-clause-few
word_of-requires-clause-few c = omega (arith, long c, c.shortest_period-period.ensures.few, c.shortest_prefix-prefix.ensures.within)

pub returns : goal.returns
returns c =
    let w = c.args.word.now in
    let p = c.shortest_prefix-prefix.result in
    let q = c.shortest_period-period.result in
    let read : c.as_slice.result.now ≡ front (letter w) (p + q) = c.as_slice.ensures.value ∙ c.in_ok-letters.ensures in
    let canonical = shortest_is_canonical w c.requires p q c.shortest_period-period.ensures.some c.shortest_prefix-prefix.ensures.repeats
    c.shortest_period-period.ensures.least c.shortest_prefix-prefix.ensures.least in
    if_ok-is c.word_of.result (spelled (letter w) p q) (λ v. IsCanonical v w)
    (subst (λ (xs : List Bool). IfOk c.word_of.result (λ v. v ≡ record { prefix = take p xs; period = drop p xs })) read c.word_of.ensures) canonical
