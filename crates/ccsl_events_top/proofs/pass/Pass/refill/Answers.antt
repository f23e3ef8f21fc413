use Rattle.std.proofs.Common.{◌≡◌, ◌+◌, refl, arith}
use Rattle.std.proofs.lemmas.Result.{err_from_is_err_and}
use Rattle.ccsl_events_top.specs.declared.pass.Pass.{Pass}
use Rattle.ccsl_events_top.proofs.Passing.{read-more, read-all, read-cut, none-kept, read-failed}
use Rattle.ccsl_events_top.proofs.pass.Pass.refill.Goals as goal

pub returns-then-self-gt-MAX_FILE_BYTES-clause-reads : goal.returns-then-self-gt-MAX_FILE_BYTES-clause-reads
returns-then-self-gt-MAX_FILE_BYTES-clause-reads g c sink start given written p = (
  refl,
  read-cut g.W.World.told sink start _ c.args.self.now given written p c.requires.goes_on c.requires.taken c.if-self-gt-MAX_FILE_BYTES.true,
)

pub returns-in_err-count-clause-reads : goal.returns-in_err-count-clause-reads
returns-in_err-count-clause-reads g c =
    let q = err_from_is_err_and c.from_residual.result c.from_residual.ensures.1 in
    rw (q.1, q.2) (λ sink start given written p. read-failed g.W.World.told sink start _ _ c.args.self.now given written p c.in_err-count.ensures.err)

pub returns-then-count-eq0-clause-reads : goal.returns-then-count-eq0-clause-reads
returns-then-count-eq0-clause-reads g c sink start given written p =
    let few = c.if-self-gt-MAX_FILE_BYTES.false in
    let r = c.in_ok-count.ensures.ok in
    read-all g.W.World.told sink start _ _ c.args.self.now _ given written _ c.in_ok-count.count p c.requires.goes_on c.requires.taken few refl r
    (omega (arith, c.saturating_add-self.ensures, few, r.few)) c.requires.goes_on c.if-count-eq0.true

pub returns-then-is_empty-clause-reads : goal.returns-then-is_empty-clause-reads
returns-then-is_empty-clause-reads g c sink start given written p =
    let few = c.if-self-gt-MAX_FILE_BYTES.false in
    let r = c.in_ok-count.ensures.ok in
    let none = c.is_empty.ensures.0 c.if-is_empty.true in
    let sum : c.saturating_add-self.result ≡ c.args.self.now.read + c.in_ok-count.count = omega (arith, c.saturating_add-self.ensures, few, r.few) in
    let pass : Pass = record c.args.self.now { pending = c.refill.new.self; read = c.saturating_add-self.result } in
    let past = none-kept g.W.World.told sink start _ _ _ c.in_ok-count.count c.refill.new.self r none (omega (arith, c.if-count-eq0.false)) in (
      refl,
      read-cut g.W.World.told sink start _ pass given written
          (read-more g.W.World.told sink start _ _ c.args.self.now pass given written _ c.in_ok-count.count p c.requires.goes_on c.requires.taken few refl r sum
          c.requires.goes_on) c.requires.goes_on none (omega (arith, sum, past, few)),
    )

pub returns-clause-reads : goal.returns-clause-reads
returns-clause-reads g c sink start given written p =
    let few = c.if-self-gt-MAX_FILE_BYTES.false in
    let r = c.in_ok-count.ensures.ok in
    read-more g.W.World.told sink start _ _ c.args.self.now _ given written _ c.in_ok-count.count p c.requires.goes_on c.requires.taken few refl r
    (omega (arith, c.saturating_add-self.ensures, few, r.few)) c.requires.goes_on
