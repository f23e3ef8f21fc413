-- Lists that are read from nothing.
use Rattle.std.proofs.Common.{◌≡◌, List, [], refl}
use Rattle.ccsl_grammar.specs.Reader.{Reply, took, stopped}
use Rattle.ccsl_grammar.specs.Loop.{prefixed}

pub unled : {A : Type 0} (r : Reply (List A)) → prefixed [] r ≡ r
unled (took vs rest) = refl
unled (stopped k rest) = refl
