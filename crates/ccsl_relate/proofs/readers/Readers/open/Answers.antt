use Rattle.std.proofs.Common.{◌≡◌, map, subst, arith}
use Rattle.std.proofs.lemmas.List.{length-map}
use Rattle.ccsl_relate.specs.Reading.{clocks_of, AreReaders}
use Rattle.ccsl_relate.proofs.Told.{one-group-more}
use Rattle.ccsl_relate.proofs.readers.Readers.open.Goals as goal

pub loop-start-preserved : goal.loop-start-preserved
loop-start-preserved c = rw c.in_ok-push.ensures.items
    (one-group-more c.in_ok-open.field-0 c.loop-start.invariant c.in_ok-open.ensures
    (omega (arith, length-map c.args.kept.now clocks_of, c.loop-start-test.true)))

pub returns : goal.returns
returns c = λ x e.
    let same : c.loop-start.groups.items ≡ x = cc e in
    let f = c.loop-start.invariant in
    let all = length-map c.args.kept.now clocks_of in
    subst (λ groups. AreReaders groups (map clocks_of c.args.kept.now)) same (record {
      whole = omega (arith, all, f.start_is, c.loop-start-test.false);
      few = omega (arith, f.start_is, f.few);
      tell = f.tell;
    })
