use Rattle.std.proofs.Common.{List, sym, subst}
use Rattle.std.proofs.lemmas.Result.{IfOk-at_ok, IfErr-at_err, err_from_is_err_and}
use Rattle.ccsl_base.proofs.Cases.{if_ok_each, if_err_each}
use Rattle.ccsl_refute.specs.declared.line.Line.{Line}
use Rattle.ccsl_certify.specs.Certified.{Answers, IsUncertified}
use Rattle.ccsl_certify.proofs.Unread.{trace-unread, for-memory}
use Rattle.ccsl_certify.proofs.certificate.certify.Goals as goal

pub returns-in_err-replayed-clause-uncertified : goal.returns-in_err-replayed-clause-uncertified
returns-in_err-replayed-clause-uncertified g c =
    let p = err_from_is_err_and c.from_residual.result c.from_residual.ensures.1 in
    rw (p.1, p.2) (trace-unread g.W.World.told c.args.system.now c.args.limits.now _ _ _ c.in_err-replayed.ensures.unread)

pub check_replayed-requires : goal.check_replayed-requires
check_replayed-requires g c = let trace = c.in_ok-replayed.ensures.replayed in (trace.bound, trace.rows, trace.answers)

pub returns-in-Ok-clause-certified : goal.returns-in-Ok-clause-certified
returns-in-Ok-clause-certified g c =
    if_ok_each c.check_replayed.result _
    (λ verdict is.
    let trace = c.in_ok-replayed.ensures.replayed in
    let read = c.in-Ok.ensures.reads in
    record {
      bound = trace.bound;
      rows = trace.rows;
      text = read.0;
      lines = c.in-Ok.lines.items;
      read = record { between = g.W.World.state c.replay.new.world; trace = trace.trace; certificate = read.1 };
      sets = trace.sets;
      reads_as = read.2;
      answers =
          subst (λ (lines : List Line). Answers c.args.system.now trace.bound trace.rows lines verdict) c.deref.ensures.value
          (IfOk-at_ok _ is c.check_replayed.ensures.answers trace.bound trace.rows trace.answers);
    })

pub returns-in-Ok-clause-uncertified : goal.returns-in-Ok-clause-uncertified
returns-in-Ok-clause-uncertified g c =
    if_err_each c.check_replayed.result _
    (λ fault is.
    let trace = c.in_ok-replayed.ensures.replayed in
    let read = c.in-Ok.ensures.reads in
    let state = g.W.World.state in
    let K = c.args.system.now in
    let limits = c.args.limits.now in
    subst (IsUncertified g.W.World.told K limits (state c.args.world.now) (state c.read_certificate.new.world))
    (sym (IfErr-at_err _ is c.check_replayed.ensures.memory))
    (for-memory g.W.World.told K limits _ _ _ trace.bound trace.rows trace.trace read.0 read.1))

pub returns-in-Err-clause-uncertified : goal.returns-in-Err-clause-uncertified
returns-in-Err-clause-uncertified g c =
    let trace = c.in_ok-replayed.ensures.replayed in
    c.in-Err.ensures.uncertified (g.W.World.state c.args.world.now) trace.bound trace.rows trace.trace
