-- What stands, and what the pieces from the present one on add, is the whole.
use Rattle.std.proofs.Common.{◌≡◌, ◌++◌, drop}
use Rattle.std.specs.List.{concat}
use Rattle.ccsl_page.specs.Pieces.{piece_texts}
use Rattle.ccsl_page.proofs.page.Page.put.Given as goal

abbrev pub invariant-loop-piece : goal.invariant-loop-piece
invariant-loop-piece l =
    l.self ++ concat (piece_texts (drop l.piece-index l.pieces)) ≡ l.initial.self ++ concat (piece_texts l.pieces)
