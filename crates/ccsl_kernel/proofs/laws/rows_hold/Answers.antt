-- Each row holds by computing, and calls are enough at the depth that is taken.
use Rattle.ccsl_kernel.specs.Meaning.{dead_below}
use Rattle.ccsl_kernel.proofs.TableHolds.{meaning_rows, meaning_calls}
use Rattle.ccsl_kernel.proofs.AcceptedParts.{accepted_guarded}
use Rattle.ccsl_kernel.proofs.laws.rows_hold.Goals as goal

pub returns : goal.returns
returns c = λ K ok T x. record { rows = meaning_rows K T (dead_below K T x); calls = meaning_calls K T (dead_below K T x) (accepted_guarded K ok).bodies }
