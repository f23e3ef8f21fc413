use Rattle.std.proofs.Common.{Ok, sym, ap, ◌∙◌, subst}
use Rattle.ccsl_bind.specs.Bindings.{Bindings}
use Rattle.ccsl_vcd_read.specs.Opening.{IsBeginning}
use Rattle.ccsl_vcd_read.proofs.opening.open_body.Goals as goal

pub returns-in-Ok-begin-clause-opened : goal.returns-in-Ok-begin-clause-opened
returns-in-Ok-begin-clause-opened c = λ wanted ds s.
    let b = c.in-Ok-begin.ensures.begins in
    record {
      begins = subst (λ (v : Bindings). IsBeginning v c.in-Ok-begin.body) (sym b.binding) b;
      binds = c.in-Ok.ensures.bound wanted ds s ∙ ap (λ (v : Bindings). Ok v.bound) (sym b.binding);
      codes = ap (λ (v : Bindings). v.codes) b.binding ∙ c.in-Ok.ensures.codes wanted ds s;
    }
