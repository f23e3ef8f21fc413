use Rattle.std.proofs.Common.{◌≡◌, ◌∙◌, Bool, true, false, Some, None, if◌then◌else◌, refl, ap}
use Rattle.std.specs.Bool.{then_some}
use Rattle.ccsl_session.specs.declared.answer.Ended.TheVariants.{Quit}
use Rattle.ccsl_session.proofs.world.reply.Goals as goal

if-quits : (b : Bool) → then_some b Quit ≡ (if b then Some Quit else None)
if-quits true = refl
if-quits false = refl

pub returns-clause-replies : goal.returns-clause-replies
returns-clause-replies g c =
    let done = c.in_ok-answer.ensures.answers in
    record {
      adds = rw (← done.text, ← c.deref.ensures.value) c.in_ok-write_all.ensures.ok;
      sets = done.sets;
      stands = done.stands;
      ends = c.then_some.ensures ∙ if-quits c.is_quit-quits.result ∙ ap (λ b. if b then Some Quit else None) c.is_quit-quits.ensures;
    }
