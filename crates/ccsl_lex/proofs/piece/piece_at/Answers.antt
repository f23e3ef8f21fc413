use Rattle.std.proofs.Common.{sym, rules}
use Rattle.ccsl_lex.proofs.Front.{found_blank_at, found_mark_at}
use Rattle.ccsl_lex.proofs.piece.piece_at.Goals as goal

pub returns-in-len1-up-clause-found : goal.returns-in-len1-up-clause-found
returns-in-len1-up-clause-found c = found_blank_at c.args.text.now c.requires (sym c.if-is_white.ensures)

pub returns-in-len1-up-2-clause-found : goal.returns-in-len1-up-2-clause-found
returns-in-len1-up-2-clause-found c = found_mark_at c.args.text.now c.requires (sym c.if-is_mark.ensures)

pub returns-in_default-clause-fault : goal.returns-in_default-clause-fault
returns-in_default-clause-fault c = search rules
