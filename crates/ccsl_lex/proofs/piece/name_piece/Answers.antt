use Rattle.std.proofs.Common.{refl, sym}
use Rattle.ccsl_lex.proofs.Front.{found_name, found_word, long_name}
use Rattle.ccsl_lex.proofs.piece.name_piece.Goals as goal

pub returns-then-len-gt-MAX_NAME_BYTES-clause-fault : goal.returns-then-len-gt-MAX_NAME_BYTES-clause-fault
returns-then-len-gt-MAX_NAME_BYTES-clause-fault c = (refl, long_name c.args.text.now c.requires (rw c.len-len.ensures.run at c.if-len-gt-MAX_NAME_BYTES.true))

pub returns-in-Some-clause-found : goal.returns-in-Some-clause-found
returns-in-Some-clause-found c =
    rw c.len-len.ensures.run
    (found_word c.args.text.now c.requires c.in-Some.word (rw c.len-len.ensures.run at c.if-len-gt-MAX_NAME_BYTES.false)
    (sym (rw c.len-len.ensures.run at c.in-Some.ensures)))

pub returns-in_ok-bytes-in-None-clause-found : goal.returns-in_ok-bytes-in-None-clause-found
returns-in_ok-bytes-in-None-clause-found c = rw (c.new.ensures, c.in_ok-bytes-in-None.ensures.items, c.len-len.ensures.run)
    (found_name c.args.text.now c.requires (rw c.len-len.ensures.run at c.if-len-gt-MAX_NAME_BYTES.false) (sym (rw c.len-len.ensures.run at c.in-None.ensures)))
