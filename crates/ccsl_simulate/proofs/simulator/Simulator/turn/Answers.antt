use Rattle.std.proofs.Common.{◌≡◌, ◌*◌}
use Rattle.std.proofs.lemmas.Result.{IfOk-at_ok, IfErr-at_err}
use Rattle.ccsl_simulate.specs.declared.simulator.Turn.TheVariants.{Goes, Ends}
use Rattle.ccsl_simulate.specs.Going.{run_of}
use Rattle.ccsl_base.proofs.Cases.{if_ok_each, if_err_each}
use Rattle.ccsl_simulate.proofs.Standing.{stands-next, turn-goes, step-fails, lines-named, turn-ends, lines-fail}
use Rattle.ccsl_simulate.proofs.simulator.Simulator.turn.Goals as goal

pub write_lines-requires-clause-below : goal.write_lines-requires-clause-below
write_lines-requires-clause-below g c =
    let w = c.requires.stands in
    lines-named c.in_ok-set.ensures.task c.in_ok-set.ensures.states w.1
    (rw c.in-Deadlock.is at c.in_ok-set.ensures.choice (run_of c.args.self.now w.0 c.args.n) w.0 c.args.n w.1.states w.1.draw)

pub returns-in-Step-clause-stands : goal.returns-in-Step-clause-stands
returns-in-Step-clause-stands g c =
    if_ok_each c.write_step.result _
    (λ turn is seed goes s.
    let chosen = rw c.in-Step.is at c.in_ok-set.ensures.choice (run_of c.args.self.now seed c.args.n) seed c.args.n s.states s.draw in
    stands-next c.in_ok-set.ensures.task c.in_ok-set.ensures.states s c.write_step.ensures.set chosen c.write_step.ensures.task
    (c.in_ok-set.ensures.draw seed (c.args.n * c.args.self.now.system.now.declared) s.draw) c.write_step.ensures.draw c.write_step.ensures.system
    c.write_step.ensures.stands c.requires.few)

pub returns-in-Step-clause-does : goal.returns-in-Step-clause-does
returns-in-Step-clause-does g c =
    if_ok_each c.write_step.result _
    (λ turn is seed s.
    let chosen = rw c.in-Step.is at c.in_ok-set.ensures.choice (run_of c.args.self.now seed c.args.n) seed c.args.n s.states s.draw in
    rw (IfOk-at_ok (λ x. x ≡ Goes) is c.write_step.ensures.goes)
    (turn-goes c.in_ok-set.ensures.task c.in_ok-set.ensures.states s c.write_step.ensures.set chosen (IfOk-at_ok _ is c.write_step.ensures.writes)))

pub returns-in-Step-clause-fails : goal.returns-in-Step-clause-fails
returns-in-Step-clause-fails g c =
    if_err_each c.write_step.result _
    (λ fault is seed s.
    let chosen = rw c.in-Step.is at c.in_ok-set.ensures.choice (run_of c.args.self.now seed c.args.n) seed c.args.n s.states s.draw in
    step-fails c.in_ok-set.ensures.task c.in_ok-set.ensures.states s c.write_step.ensures.set chosen g.W.World.told
    (g.W.World.state c.args.world.now) (g.W.World.state c.write_step.new.world) fault (IfErr-at_err _ is c.write_step.ensures.fails))

pub returns-in-Deadlock-clause-does : goal.returns-in-Deadlock-clause-does
returns-in-Deadlock-clause-does g c =
    if_ok_each c.write_lines.result _
    (λ turn is seed s.
    let d = rw c.in-Deadlock.is at c.in_ok-set.ensures.choice (run_of c.args.self.now seed c.args.n) seed c.args.n s.states s.draw in
    rw (IfOk-at_ok (λ x. x ≡ Ends) is c.write_lines.ensures.ends)
    (turn-ends c.in_ok-set.ensures.task c.in_ok-set.ensures.states s d (IfOk-at_ok _ is c.write_lines.ensures.writes)))

pub returns-in-Deadlock-clause-fails : goal.returns-in-Deadlock-clause-fails
returns-in-Deadlock-clause-fails g c =
    if_err_each c.write_lines.result _
    (λ fault is seed s.
    let d = rw c.in-Deadlock.is at c.in_ok-set.ensures.choice (run_of c.args.self.now seed c.args.n) seed c.args.n s.states s.draw in
    lines-fail c.in_ok-set.ensures.task c.in_ok-set.ensures.states s d g.W.World.told
    (g.W.World.state c.args.world.now) (g.W.World.state c.write_lines.new.world) fault (IfErr-at_err _ is c.write_lines.ensures.fails))
