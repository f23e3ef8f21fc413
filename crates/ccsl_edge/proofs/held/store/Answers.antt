use Rattle.std.proofs.Common.{sym}
use Rattle.ccsl_edge.proofs.Files.{Stores-set, Stores-push}
use Rattle.ccsl_edge.proofs.held.store.Goals as goal

pub returns-in-Some-clause-ok : goal.returns-in-Some-clause-ok
returns-in-Some-clause-ok c =
    rw (c.refill.ensures, c.index_mut-file.ensures.value, c.in_ok-content.ensures.items)
    (Stores-set _ _ _ _ _ (sym (rw c.as_slice.ensures.value at c.in-Some.ensures)))

pub returns-in_ok-push-in-None-clause-ok : goal.returns-in_ok-push-in-None-clause-ok
returns-in_ok-push-in-None-clause-ok c =
    rw (c.in_ok-push-in-None.ensures.items, c.new.ensures, c.in_ok-from_str-in-None.ensures.ok, c.in_ok-content.ensures.items)
    (Stores-push _ _ _ (sym (rw c.as_slice.ensures.value at c.in-None.ensures)))
