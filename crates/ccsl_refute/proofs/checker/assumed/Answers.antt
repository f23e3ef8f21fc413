use Rattle.std.proofs.Common.{◌≡◌, ◌<◌, ◌-◌, suc, false, length, sym, ap, ◌∙◌, arith}
use Rattle.ccsl_formula.specs.Known.{known}
use Rattle.ccsl_formula.specs.Agreement.{is_open}
use Rattle.ccsl_refute.proofs.Proper.{proper-at, falsified-at, improper-large, improper-twice}
use Rattle.ccsl_refute.proofs.checker.assumed.Goals as goal

pub loop-i-preserved : goal.loop-i-preserved
loop-i-preserved c =
    let i = c.loop-i.i - 1 in
    let inside : i < length c.args.lits.now = omega arith in
    let next : c.loop-i.i ≡ suc i = omega arith in
    record {
      within = omega arith;
      proper =
          proper-at c.args.named i c.loop-i.i c.args.lits.now _ (known c.loop-i.part) inside next c.loop-i.invariant.known c.loop-i.invariant.proper
          c.if-lit-named.false
          (sym c.value.ensures.value ∙ c.in-Open.is);
      known = falsified-at i c.loop-i.i c.args.lits.now _ (known c.loop-i.part) (known c.set.new.self) inside next c.loop-i.invariant.known c.set.ensures;
    }

pub returns-then-lit-named : goal.returns-then-lit-named
returns-then-lit-named c =
    let i = c.loop-i.i - 1 in
    let inside : i < length c.args.lits.now = omega arith in
    let next : c.loop-i.i ≡ suc i = omega arith in
    improper-large c.args.named i c.loop-i.i c.args.lits.now _ inside next c.if-lit-named.true

pub returns-in-Yes : goal.returns-in-Yes
returns-in-Yes c =
    let i = c.loop-i.i - 1 in
    let inside : i < length c.args.lits.now = omega arith in
    let next : c.loop-i.i ≡ suc i = omega arith in
    improper-twice c.args.named i c.loop-i.i c.args.lits.now (record { clock = 0; positive = false }) (known c.loop-i.part) inside next c.loop-i.invariant.known
    (ap is_open (sym c.value.ensures.value ∙ c.in-Yes.is))

pub returns-in-No : goal.returns-in-No
returns-in-No c =
    let i = c.loop-i.i - 1 in
    let inside : i < length c.args.lits.now = omega arith in
    let next : c.loop-i.i ≡ suc i = omega arith in
    improper-twice c.args.named i c.loop-i.i c.args.lits.now (record { clock = 0; positive = false }) (known c.loop-i.part) inside next c.loop-i.invariant.known
    (ap is_open (sym c.value.ensures.value ∙ c.in-No.is))
