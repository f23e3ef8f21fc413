use Rattle.ccsl_report.proofs.Lengths.{within_room}
use Rattle.ccsl_report.proofs.judged.put_no_run.Goals as goal

pub put_line-requires : goal.put_line-requires
put_line-requires c =
    rw c.broken_parts.ensures.text
    (within_room c.args.system.now c.args.out.now.len c.args.out.now.cap _ c.requires.room c.args.out.now.small c.broken_parts.ensures.short)
