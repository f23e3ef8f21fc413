use Rattle.ccsl_spec.proofs.Faults.{elaborated-read, treeless-read}
use Rattle.ccsl_spec.proofs.specification.read.Goals as goal

pub returns-in-Read : goal.returns-in-Read
returns-in-Read c =
    elaborated-read c.args.text.now _ c.elaborated.result c.requires (rw c.in-Read.is at c.in_ok-file.ensures) c.elaborated.ensures

pub returns-in-Refused : goal.returns-in-Refused
returns-in-Refused c = treeless-read c.args.text.now c.in-Refused.line.items c.requires (rw c.in-Refused.is at c.in_ok-file.ensures)
