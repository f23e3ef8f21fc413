use Rattle.std.proofs.Common.{◌≡◌, ◌≤◌, ◌<◌, ◌^◌, ◌+◌, ◌-◌, ℕ, List, ◌++◌, length, true, false, refl, sym, ap, ◌∙◌, subst, arith, length-append, rules}
use Rattle.ccsl_vcd.specs.declared.fault.VcdFault.TheVariants as faults
use Rattle.ccsl_vcd.specs.Binding.{Wanted}
use Rattle.ccsl_vcd_read.specs.Staging.{ends_well, row_left}
use Rattle.ccsl_vcd_read.specs.Reading.{Reading, StandsFor}
use Rattle.ccsl_vcd_read.proofs.Wanting.{in-header, shown-none}
use Rattle.ccsl_vcd_read.proofs.HeadPictures.{weaken}
use Rattle.ccsl_vcd_read.proofs.Taking.{running-of}
use Rattle.ccsl_vcd_read.proofs.Faults.{rows-fit}
use Rattle.ccsl_vcd_read.proofs.Feeding.{ready-of}
use Rattle.ccsl_vcd_read.proofs.Ending.{truncated, end-shown, cut-pushes, accepted, end-pushes, end-counts, stopped-refuses, when-none}
use Rattle.ccsl_vcd_read.proofs.reader.Reader.finish.Goals as goal
use Rattle.ccsl_vcd_read.proofs.Calm.{calm-of}

pub returns-in-Some-clause-refuses : goal.returns-in-Some-clause-refuses
returns-in-Some-clause-refuses c = stopped-refuses c.args.self.now c.in-Some.fault (ap (λ (x : Reading). x.fault) (sym c.self.view_is) ∙ c.in-Some.is)

pub last_token-requires-clause-ready : goal.last_token-requires-clause-ready
last_token-requires-clause-ready c =
    ready-of (ap (λ (x : Reading). x.fault) (sym c.self.view_is) ∙ c.in_default.is) c.requires.room c.requires.stands

pub last_token-requires-clause-rows : goal.last_token-requires-clause-rows
last_token-requires-clause-rows c =
    let ready = ready-of {out = c.args.out.now} (ap (λ (x : Reading). x.fault) (sym c.self.view_is) ∙ c.in_default.is) c.requires.room c.requires.stands in
    let w = ready.stands in
    let fits : c.self.inside.taken < 2 ^ 64 = omega arith in
    rows-fit w.0 c.args.self.now w.1 (running-of w.0 c.args.self.now w.1 ready.runs w.2) (subst (λ (x : Reading). x.taken < 2 ^ 64) c.self.view_is fits)

pub returns-then-not-may_end-clause-refuses : goal.returns-then-not-may_end-clause-refuses
returns-then-not-may_end-clause-refuses c =
    weaken c.fail.result (λ (wanted : Wanted) (bytes : List ℕ) (t : StandsFor wanted c.args.self.now bytes).
    let e : ends_well c.last_token.new.self.stage ≡ false =
    ap (λ (x : Reading). ends_well x.stage) (sym c.self-in-Ok.view_is) ∙ sym c.may_end.ensures ∙ c.if-not-may_end.true in
    let n = ap (λ (x : Reading). x.taken) c.self.view_is ∙ (c.in-Ok.ensures.ends wanted bytes t).taken in
    truncated (c.in-Ok.ensures.ends wanted bytes t) e ∙ ap (λ k. Rattle.std.proofs.Common.Some (faults.Truncated k)) (sym n)
    ∙ ap (λ f. Rattle.std.proofs.Common.Some f) (sym c.fail.ensures.result))

pub returns-then-not-may_end-clause-completes : goal.returns-then-not-may_end-clause-completes
returns-then-not-may_end-clause-completes c =
    when-none c.args.self.now.fault (λ _. weaken c.fail.result (λ wanted bytes t. cut-pushes (c.in-Ok.ensures.ends wanted bytes t)))

pub overflow_sub-result : goal.overflow_sub-result
overflow_sub-result c =
    let e = ap (λ x. length x.rows) c.give_left.ensures ∙ length-append c.last_token.new.out.rows _ in
    omega (arith, e, c.len.ensures, c.len-before.ensures)

pub overflow_add-result : goal.overflow_add-result
overflow_add-result c =
    let e = ap (λ x. length x.rows) c.give_left.ensures ∙ length-append c.last_token.new.out.rows _ in
    let few = subst (λ (x : Reading). x.rows + length (row_left x.stage) < 2 ^ 64) (sym c.self-in-Ok.view_is) c.in-Ok.ensures.few in
    omega (arith, e, few, c.len.ensures, c.len-before.ensures)

pub returns-else-not-may_end-clause-accepts : goal.returns-else-not-may_end-clause-accepts
returns-else-not-may_end-clause-accepts c = λ wanted bytes t.
    let e : ends_well c.last_token.new.self.stage ≡ true =
    ap (λ (x : Reading). ends_well x.stage) (sym c.self-in-Ok.view_is) ∙ sym c.may_end.ensures ∙ c.if-not-may_end.false in
    accepted (c.in-Ok.ensures.ends wanted bytes t) e

pub returns-else-not-may_end-clause-pushes : goal.returns-else-not-may_end-clause-pushes
returns-else-not-may_end-clause-pushes c = λ wanted bytes t.
    end-pushes (c.in-Ok.ensures.ends wanted bytes t) c.give_left.new.out.rows
    (ap (λ x. x.rows) c.give_left.ensures ∙ ap (λ (x : Reading). c.last_token.new.out.rows ++ row_left x.stage) c.self-in-Ok.view_is)

pub returns-else-not-may_end-clause-counts : goal.returns-else-not-may_end-clause-counts
returns-else-not-may_end-clause-counts c = λ wanted bytes t.
    end-counts (c.in-Ok.ensures.ends wanted bytes t) c.give_left.new.out.rows _ _
    (ap (λ x. x.rows) c.give_left.ensures ∙ ap (λ (x : Reading). c.last_token.new.out.rows ++ row_left x.stage) c.self-in-Ok.view_is)
    (ap (λ (x : Reading). x.rows + (c.len.result - c.len-before.result)) c.self-in-Ok.view_is
    ∙ ap (λ k. c.last_token.new.self.rows + (k - c.len-before.result)) c.len.ensures
    ∙ ap (λ k. c.last_token.new.self.rows + (length c.give_left.new.out.rows - k)) c.len-before.ensures)
    (ap (λ (x : Reading). x.taken) c.self.view_is)

pub returns-in-Err-clause-calm : goal.returns-in-Err-clause-calm
returns-in-Err-clause-calm c =
    when-none c.args.self.now.fault (λ none. λ (wanted : Wanted) (bytes : List ℕ) (t : StandsFor wanted c.args.self.now bytes).
    calm-of wanted c.args.self.now bytes c.in-Err.fault none t c.in-Err.ensures.calm)

pub returns-else-not-may_end-clause-shows : goal.returns-else-not-may_end-clause-shows
returns-else-not-may_end-clause-shows c = λ wanted bytes t. end-shown (c.in-Ok.ensures.ends wanted bytes t)

pub returns-in-Err-clause-unpushed : goal.returns-in-Err-clause-unpushed
returns-in-Err-clause-unpushed c = λ e. c.in-Err.ensures.kept.0

pub returns-in-Err-clause-unbound : goal.returns-in-Err-clause-unbound
returns-in-Err-clause-unbound c = λ e.
    when-none c.args.self.now.fault (λ none.
    c.in-Err.ensures.kept.1 ∙ shown-none c.args.self.now.stage (in-header c.args.self.now.stage c.in-Err.fault c.in-Err.ensures.calm e))

pub returns-in-Err-clause-refuses : goal.returns-in-Err-clause-refuses
returns-in-Err-clause-refuses c = search rules

pub returns-in-Err-clause-completes : goal.returns-in-Err-clause-completes
returns-in-Err-clause-completes c = search rules

pub returns-in-Err-clause-faulty : goal.returns-in-Err-clause-faulty
returns-in-Err-clause-faulty c = search rules
