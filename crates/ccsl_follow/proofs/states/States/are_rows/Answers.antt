use Rattle.std.proofs.Common.{◌≡◌, None, true, ap, ◌∙◌, sym, subst, arith}
use Rattle.std.proofs.lemmas.Bool.{leb-true}
use Rattle.ccsl_base.specs.Clocks.{are_below}
use Rattle.ccsl_follow.specs.Counting.{AreRows}
use Rattle.ccsl_follow.specs.Following.{held_part, Follows}
use Rattle.ccsl_follow.proofs.Declared.{row-is, stands-declared}
use Rattle.ccsl_follow.proofs.states.States.are_rows.Goals as goal

pub returns-in-None : goal.returns-in-None
returns-in-None c =
    let K = c.self.inside.system.now in
    let clocks = c.self.inside.clocks in
    let is : held_part K clocks None ≡ c.args.self.now = ap (held_part K clocks) (sym c.in-None.is) ∙ c.self.view_is in
    let all : are_below K.declared clocks ≡ true = subst (Follows K clocks) c.in-None.is c.self.invariant in
    let scope = c.scope-scope.ensures.scope in
    let declared = ap (λ s. s.declared) scope in
    let named = ap (λ s. s.named) scope in
    λ small. subst AreRows is (record {
      ticks = λ T ticks x within. row-is K clocks all T ticks x (omega (arith, within, leb-true _ _ small, declared, named));
      stands = stands-declared K clocks all;
    })
