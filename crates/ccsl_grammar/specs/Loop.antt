-- What a loop keeps that reads the same thing again and again.
use Rattle.std.specs.Prelude.{List, ◌++◌}
use Rattle.ccsl_grammar.specs.Reader.{Reply, took, stopped, Reader}

-- a reply, with what was taken before it in front
abbrev pub prefixed : {A : Type 0} → List A → Reply (List A) → Reply (List A)
prefixed front (took vs rest) = took (front ++ vs) rest
prefixed front (stopped k rest) = stopped k rest

-- a reader of lists, with what was taken before it in front
abbrev pub behind : {A : Type 0} → List A → Reader (List A) → Reader (List A)
behind front f ts = prefixed front (f ts)
