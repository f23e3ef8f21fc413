use Rattle.std.proofs.Common.{List, sym, ap, ◌∙◌, subst}
use Rattle.ccsl_vcd_read.specs.declared.marks.Mark.{Mark}
use Rattle.ccsl_vcd_lex.specs.ShortCodes.{IsCode}
use Rattle.ccsl_vcd_read.proofs.ShortChanges.{none-made, bit-made}
use Rattle.ccsl_vcd_read.proofs.body.Body.bit_change.Goals as goal
use Rattle.ccsl_base.proofs.Cases.{rest-is}

pub returns : goal.returns
returns c =
    let code = c.in-Some.code in
    let is : IsCode code.len code.place _ = subst (IsCode code.len code.place) (rest-is 1 c.args.bytes.now) c.in-Some.ensures in
    bit-made c.args.self.now _ code.len code.place c.in-Some-known.number c.args.bytes.now is
    (sym c.is_changes.ensures ∙ c.if-not-is_changes.false) (sym c.is_bit.ensures ∙ c.if-not-is_bit.false) (c.in-Some-known.ensures.number _ is.at)
    (ap (λ (ms : List Mark). record c.args.self.now { marks = ms }) c.change.ensures)

pub returns-then-is_empty : goal.returns-then-is_empty
returns-then-is_empty c = none-made c.args.self.now c.args.bytes.now

pub returns-in_default : goal.returns-in_default
returns-in_default c = none-made c.args.self.now c.args.bytes.now

pub returns-in_default-known : goal.returns-in_default-known
returns-in_default-known c = none-made c.args.self.now c.args.bytes.now
