use Rattle.std.proofs.Common.{take, refl}
use Rattle.std.specs.List.{prefix_len}
use Rattle.ccsl_base.specs.declared.limits.TheConstants.{MAX_NUMBER}
use Rattle.ccsl_base.specs.Letters.{is_digit}
use Rattle.ccsl_lex.proofs.Front.{found_number, are_run, large_number}
use Rattle.ccsl_lex.proofs.Values.{number_some, number_none}
use Rattle.ccsl_lex.proofs.piece.number_piece.Goals as goal

pub returns-in-Some-clause-found : goal.returns-in-Some-clause-found
returns-in-Some-clause-found c =
    let text = c.args.text.now in
    let n = number_some MAX_NUMBER c.in-Some.value (take (prefix_len is_digit text) text) (rw (c.len-len.ensures.run, c.from.ensures) at c.in-Some.ensures) in
    rw c.len-len.ensures.run (found_number text c.requires c.in-Some.value n.0 n.1)

pub returns-in-None-clause-fault : goal.returns-in-None-clause-fault
returns-in-None-clause-fault c =
    let text = c.args.text.now in (
      refl,
      large_number text c.requires
          (number_none MAX_NUMBER (take (prefix_len is_digit text) text) (rw (c.len-len.ensures.run, c.from.ensures) at c.in-None.ensures)
          (are_run text c.requires)),
    )
