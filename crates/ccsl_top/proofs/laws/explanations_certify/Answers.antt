use Rattle.ccsl_top.proofs.Certified.{explanations-certify}
use Rattle.ccsl_top.proofs.laws.explanations_certify.Goals as goal

pub returns : goal.returns
returns c =
    let K = c.args.system.now in
    explanations-certify c.first_bad_line_is_first.ensures.certificate c.valid_lines_name_clocks.ensures c.written_lines_read_back.ensures K
    c.names.ensures.accepted
    (rw c.names.ensures.names at c.are_distinct.ensures) (c.names_stand_in_certificates.ensures K c.names.ensures.accepted)
