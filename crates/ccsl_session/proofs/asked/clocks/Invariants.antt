use Rattle.std.proofs.Common.{◌≡◌, [], ◌∷◌, length}
use Rattle.ccsl_session.specs.Reading.{read_clocks}
use Rattle.ccsl_session.proofs.asked.clocks.Given as goal

-- the names left are to be read onto the set
abbrev pub invariant-names : goal.invariant-names
invariant-names l = read_clocks l.system l.set l.others ≡ read_clocks l.system [] (l.first ∷ l.fn.others)

abbrev pub decreases-names : goal.decreases-names
decreases-names l = length l.others
