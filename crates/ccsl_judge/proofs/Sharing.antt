-- Shares one behind the other.
use Rattle.std.proofs.Common.{ℕ, ◌+◌, ◌<◌, ◌^◌, List, [], ◌∷◌, ◌++◌, length, sym, ap, ◌∙◌, subst}
use Rattle.ccsl_base.specs.declared.rows.Row.{Row}
use Rattle.ccsl_kernel.specs.Syntax.{System}
use Rattle.ccsl_pool.specs.Pairwise.{Pairwise, Every}
use Rattle.ccsl_judge.specs.declared.share.Share.{Share}
use Rattle.ccsl_judge.specs.Shares.{CanTake, Takes, IsAt}
use Rattle.ccsl_judge.specs.Divided.{Follow}

-- one share more
pub follow-more : (K : System) (bound : List ℕ) (rows : List Row) (i : ℕ) (shares : List Share) (end : ℕ) (s : Share) → Follow K bound rows i shares end
    → IsAt K bound rows end s.monitor
    → Follow K bound rows i (shares ++ s ∷ []) (end + length s.monitor.kept)
follow-more K bound rows i [] end s e at = (subst (λ n. IsAt K bound rows n s.monitor) (sym e) at, ap (λ n. n + length s.monitor.kept) e)
follow-more K bound rows i (x ∷ shares) end s f at = (f.0, follow-more K bound rows (i + length x.monitor.kept) shares end s f.1 at)

module _ (K : System) (bound : List ℕ) (rows block : List Row) (few : length rows + length block < 2 ^ 64) where
  -- each can take a block
  pub each-can-take : (i : ℕ) (shares : List Share) (end : ℕ) → Follow K bound rows i shares end → Every (λ (p : Share). CanTake p.monitor block) shares
  each-can-take i [] end f = tt
  each-can-take i (s ∷ shares) end f = ((bound, rows, f.0.stands, few), each-can-take (i + length s.monitor.kept) shares end f.1)

  taken-at : (i : ℕ) (s t : Share) → IsAt K bound rows i s.monitor → Takes s.monitor block t.monitor → IsAt K bound (rows ++ block) i t.monitor
  taken-at i s t at took = record {
    system = took.system ∙ at.system;
    start = took.start ∙ at.start;
    stands = took.stands bound rows at.stands few;
  }

  -- where each took it, they stand for the rows with it
  pub each-took : (i : ℕ) (old new : List Share) (end : ℕ) → Follow K bound rows i old end → Pairwise (λ (p q : Share). Takes p.monitor block q.monitor) old new
      → Follow K bound (rows ++ block) i new end
  each-took i [] [] end f p = f
  each-took i [] (t ∷ new) end f p = absurd p
  each-took i (s ∷ old) [] end f p = absurd p
  each-took i (s ∷ old) (t ∷ new) end f p = (
    taken-at i s t f.0 p.0,
    subst (λ n. Follow K bound (rows ++ block) n new end) (ap (λ c. i + c) (sym p.0.count)) (each-took (i + length s.monitor.kept) old new end f.1 p.1),
  )
