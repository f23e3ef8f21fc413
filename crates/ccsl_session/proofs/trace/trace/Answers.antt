use Rattle.std.proofs.Common.{◌≡◌, ◌++◌, List, ℕ, take, take_all, sym, ap, ◌∙◌, subst, arith, append-nil, []}
use Rattle.ccsl_kernel.specs.Syntax.{System}
use Rattle.ccsl_kernel.specs.Accepted.{IsAccepted}
use Rattle.ccsl_kernel.specs.Runs.{full_step, completed}
use Rattle.ccsl_state.proofs.StandLaws.{stands_derived}
use Rattle.ccsl_vcd_write.specs.Text.{vcd_text, header_text, step_text}
use Rattle.ccsl_session.proofs.StackStates.{goes-on}
use Rattle.ccsl_session.proofs.Texts.{trace-more}
use Rattle.ccsl_session.proofs.trace.trace.Goals as goal

pub loop-n-preserved : goal.loop-n-preserved
loop-n-preserved c =
    let K = c.args.system.now in
    let R = c.args.sets.now in
    let n = c.loop-n.n in
    let s = c.index-sets-n.result in
    let h = c.loop-n.states in
    let new = c.advance.new.self in
    let before = c.loop-n.invariant in
    let ok : IsAccepted h.system = subst IsAccepted (sym before.system) c.is_accepted.ensures in
    let T = completed K (take n R) in
    let full : c.advance.result ≡ full_step K T s =
    c.advance.ensures.step ∙ stands_derived h ok T before.stands s ∙ ap (λ (X : System). full_step X T s) before.system in
    record {
      system = c.advance.ensures.system ∙ before.system;
      stands = goes-on K [] R n s h new c.loop-n-test.true c.index-sets-n.is before.system before.stands c.advance.ensures.stands (omega arith);
      text =
          c.in_ok-step.ensures.text
          ∙ ap (λ (bs : List ℕ). bs ++ step_text n K c.advance.result) before.text
          ∙ trace-more K R n s c.advance.result c.loop-n-test.true c.index-sets-n.is full;
    }

pub loop-n-init : goal.loop-n-init
loop-n-init c = record {
  system = c.in_ok-states.ensures.system;
  stands = c.in_ok-states.ensures.stands;
  text = c.in_ok-text.ensures ∙ sym (append-nil (header_text c.args.system.now));
}

pub returns : goal.returns
returns c =
    let K = c.args.system.now in
    let R = c.args.sets.now in
    c.loop-n.invariant.text ∙ ap (λ sets. vcd_text K (completed K sets)) (take_all c.loop-n.n R (omega arith))
