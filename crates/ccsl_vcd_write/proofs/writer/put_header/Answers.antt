use Rattle.ccsl_vcd_write.proofs.Growing.{header-parts}
use Rattle.ccsl_vcd_write.proofs.writer.put_header.Goals as goal

pub returns : goal.returns
returns c =
    rw (
      c.in_ok-put_line-5.ensures,
      c.in_ok-put_line-4.ensures,
      c.in_ok-put_vars.ensures,
      c.in_ok-put_line-3.ensures,
      c.in_ok-put_line-2.ensures,
      c.in_ok-put_line.ensures,
      c.written.ensures.written,
      c.names.ensures.names,
    ) (header-parts c.args.out.now.items c.args.system.now)
