use Rattle.ccsl_refute.proofs.ReadBack.{lines-back}
use Rattle.ccsl_refute.proofs.laws.written_lines_read_back.Goals as goal

pub returns : goal.returns
returns c names lines distinct proper below fit = lines-back names distinct proper lines 0 below fit
