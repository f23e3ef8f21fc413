-- All items of a system in shares.
use Rattle.std.specs.Prelude.{◌≡◌, ℕ, ◌+◌, List, [], ◌∷◌, length}
use Rattle.ccsl_base.specs.declared.rows.Row.{Row}
use Rattle.ccsl_kernel.specs.Syntax.{System, item_count}
use Rattle.ccsl_judge.specs.declared.share.Share.{Share}
use Rattle.ccsl_judge.specs.Shares.{IsAt}

-- shares stand for the rows, over the items from number i up to an end, one behind the other
abbrev pub Follow : System → List ℕ → List Row → ℕ → List Share → ℕ → Type 0
Follow K bound rows i [] end = i ≡ end
Follow K bound rows i (s ∷ shares) end = IsAt K bound rows i s.monitor × Follow K bound rows (i + length s.monitor.kept) shares end

-- they stand for the rows, over all items
abbrev pub FollowAll : System → List ℕ → List Row → List Share → Type 0
FollowAll K bound rows shares = Follow K bound rows 0 shares (item_count K)
