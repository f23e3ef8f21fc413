use Rattle.std.proofs.Common.{◌≡◌, suc, ◌-◌, ◌<◌, length, get_or, sym, ap, ◌∙◌, arith}
use Rattle.std.proofs.lemmas.List.{get_or_default}
use Rattle.ccsl_bind.specs.Bindings.{Bindings}
use Rattle.ccsl_bind.specs.Codes.{number_of}
use Rattle.ccsl_vcd_read.proofs.codes.Codes.known.Goals as goal

pub returns-else-next-eq0-clause-number : goal.returns-else-next-eq0-clause-number
returns-else-next-eq0-clause-number c code at =
    let table = c.self.inside.table.items in
    let next = c.index-next.result.now in
    let l : c.args.place < length table = omega (arith, c.if-place-len.false) in
    let e : get_or table c.args.place 0 ≡ next = sym (c.index-next.ensures ∙ get_or_default table c.args.place next 0 l) in
    let some : next ≡ suc (next - 1) = omega (arith, c.if-next-eq0.false) in
    ap (λ (v : Bindings). number_of code v.codes) (sym c.self.view_is)
    ∙ c.self.invariant.2 code (next - 1) (ap (λ i. get_or table i 0) (sym at) ∙ e ∙ some)
