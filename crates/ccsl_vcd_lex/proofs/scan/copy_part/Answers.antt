use Rattle.std.proofs.Common.{◌-◌, arith}
use Rattle.ccsl_vcd_lex.proofs.Parts.{stored}
use Rattle.ccsl_vcd_lex.proofs.scan.copy_part.Goals as goal

pub returns-then-piece-start-ge-LANES : goal.returns-then-piece-start-ge-LANES
returns-then-piece-start-ge-LANES c =
    stored c.args.at (c.args.end - c.args.start) c.args.start c.args.to.now c.args.piece.now (omega arith) (omega arith) (omega arith)
