-- The table of commands. The words of a command line are this project's own.
use Rattle.std.specs.Prelude.{ℕ, List, [], ◌∷◌, ◌++◌, codes}
use Rattle.ccsl_command.specs.declared.table.CommandName.{CommandName}
use Rattle.ccsl_command.specs.declared.table.CommandName.TheVariants as command
use Rattle.ccsl_command.specs.declared.table.Key.{Key}
use Rattle.ccsl_command.specs.declared.table.Key.TheVariants as key
use Rattle.ccsl_command.specs.declared.table.RelationName.{RelationName}
use Rattle.ccsl_command.specs.declared.table.RelationName.TheVariants as relation

abbrev pub commands : List CommandName
commands =
    command.Check ∷ command.Simulate ∷ command.Judge ∷ command.Certify ∷ command.Trial ∷ command.Periodic
    ∷ command.Explain ∷ command.Session ∷ []

-- the word of a command
abbrev pub command_text : CommandName → List ℕ
command_text command.Check = codes "check"
command_text command.Simulate = codes "simulate"
command_text command.Judge = codes "judge"
command_text command.Certify = codes "certify"
command_text command.Trial = codes "trial"
command_text command.Periodic = codes "periodic"
command_text command.Explain = codes "explain"
command_text command.Session = codes "session"

-- the text of a key, before the = of a word
abbrev pub key_text : Key → List ℕ
key_text key.Spec = codes "spec"
key_text key.Policy = codes "policy"
key_text key.Seed = codes "seed"
key_text key.Steps = codes "steps"
key_text key.Trace = codes "trace"
key_text key.Cert = codes "cert"
key_text key.Workers = codes "workers"
key_text key.Clocks = codes "clocks"
key_text key.Left = codes "left"
key_text key.Right = codes "right"
key_text key.Relation = codes "relation"

-- the keys that a command needs, in the table's order
abbrev pub required_keys : CommandName → List Key
required_keys command.Check = key.Spec ∷ []
required_keys command.Simulate = key.Spec ∷ key.Policy ∷ key.Seed ∷ key.Steps ∷ key.Trace ∷ key.Cert ∷ []
required_keys command.Judge = key.Spec ∷ key.Trace ∷ []
required_keys command.Certify = key.Spec ∷ key.Trace ∷ key.Cert ∷ []
required_keys command.Trial = key.Clocks ∷ key.Steps ∷ key.Seed ∷ key.Workers ∷ []
required_keys command.Periodic = key.Left ∷ key.Right ∷ key.Relation ∷ []
required_keys command.Explain = key.Spec ∷ key.Trace ∷ key.Cert ∷ []
required_keys command.Session = key.Spec ∷ key.Policy ∷ key.Seed ∷ []

-- the keys that a command takes besides
abbrev pub optional_keys : CommandName → List Key
optional_keys command.Judge = key.Workers ∷ []
optional_keys _ = []

abbrev pub keys_of : CommandName → List Key
keys_of name = required_keys name ++ optional_keys name

-- what may be asked of two words
abbrev pub relations : List RelationName
relations = relation.Precedes ∷ relation.Subclock ∷ relation.Excludes ∷ relation.On ∷ []

abbrev pub relation_text : RelationName → List ℕ
relation_text relation.Precedes = codes "precedes"
relation_text relation.Subclock = codes "subclock"
relation_text relation.Excludes = codes "excludes"
relation_text relation.On = codes "on"
