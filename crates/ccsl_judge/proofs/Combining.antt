-- The first violation of neighbouring items, from that of the lower ones and that of the higher ones.
use Rattle.std.proofs.Common.{◌≡◌, ℕ, ◌+◌, ◌<◌, ◌≤◌, List, [], ◌∷◌, length, Bool, true, false, cond, nat_lt, Option, Some, None, refl, subst, arith, ⊎_elim}
use Rattle.std.proofs.lemmas.Bool.{cases_lt, ltb-true, ltb-false}
use Rattle.ccsl_base.specs.declared.rows.Row.{Row}
use Rattle.ccsl_kernel.specs.Syntax.{System, item_count}
use Rattle.ccsl_kernel.specs.Verdict.{is_violated}
use Rattle.ccsl_relate.specs.declared.violation.Violation.{Violation}
use Rattle.ccsl_relate.specs.Violations.{AreObeyed, IsFirst, Finds}
use Rattle.ccsl_relate.specs.Watching.{StandsFor}
use Rattle.ccsl_judge.specs.declared.share.Share.{Share}
use Rattle.ccsl_judge.specs.Shares.{earlier}
use Rattle.ccsl_judge.specs.Divided.{Follow}

module _ (K : System) (bound : List ℕ) (rows : List Row) (low high : ℕ) where
  -- what holds of the lower items and of the higher ones
  each-item : (P : ℕ → Type 0) → ((j : ℕ) → j < low → P j) → ((j : ℕ) → low ≤ j → j < low + high → P j) → (j : ℕ) → j < low + high → P j
  each-item P below above j l = ⊎_elim (λ (m : j < low). below j m) (λ (m : low ≤ j). above j m l) (cases_lt j low)

  both-obeyed : AreObeyed K bound rows 0 low → AreObeyed K bound rows low high → AreObeyed K bound rows 0 (low + high)
  both-obeyed f g n j l a b =
      each-item (λ j. is_violated K bound rows n j ≡ false) (λ j m. f n j l (omega arith) (omega (arith, m))) (λ j m m'. g n j l m m') j (omega (arith, b))

  -- the lower items have the first one, at a step that is not behind that of the others
  lower-first : (v : Violation) → IsFirst K bound rows 0 low v → ((n j : ℕ) → n < v.step → low ≤ j → j < low + high → is_violated K bound rows n j ≡ false)
      → IsFirst K bound rows 0 (low + high) v
  lower-first v f g = record {
    step = f.step;
    time = f.time;
    from = f.from;
    below = omega (arith, f.below);
    violated = f.violated;
    earlier = λ n j l a b. each-item (λ j. is_violated K bound rows n j ≡ false) (λ j m. f.earlier n j l (omega arith) (omega (arith, m)))
        (λ j m m'. g n j l m m') j (omega (arith, b));
    lower = f.lower;
  }

  -- the higher items have it, at a step before that of the others
  higher-first : (w : Violation) → IsFirst K bound rows low high w → ((n j : ℕ) → n ≤ w.step → j < low → is_violated K bound rows n j ≡ false)
      → IsFirst K bound rows 0 (low + high) w
  higher-first w g f = record {
    step = g.step;
    time = g.time;
    from = omega arith;
    below = omega (arith, g.below);
    violated = g.violated;
    earlier = λ n j l a b. each-item (λ j. is_violated K bound rows n j ≡ false) (λ j m. f n j (omega (arith, l)) m) (λ j m m'. g.earlier n j l m m') j
        (omega (arith, b));
    lower = λ j a b. ⊎_elim (λ (m : j < low). f w.step j (omega arith) m) (λ (m : low ≤ j). g.lower j m b) (cases_lt j low);
  }

  -- THE EARLIER OF BOTH is the first of all
  pub finds-both : (v w : Option Violation) → Finds K bound rows 0 low v → Finds K bound rows low high w → Finds K bound rows 0 (low + high) (earlier v w)
  finds-both None None f g = both-obeyed f g
  finds-both None (Some w) f g = higher-first w g (λ n j l m. f n j (omega (arith, l, g.step)) (omega arith) (omega (arith, m)))
  finds-both (Some v) None f g = lower-first v f (λ n j l a b. g n j (omega (arith, l, f.step)) a b)
  finds-both (Some v) (Some w) f g = by-steps (nat_lt w.step v.step) refl
    where
      by-steps : (t : Bool) → nat_lt w.step v.step ≡ t → Finds K bound rows 0 (low + high) (cond t (Some w) (Some v))
      by-steps true e =
          let before : w.step < v.step = ltb-true w.step v.step e in
          higher-first w g (λ n j l m. f.earlier n j (omega (arith, l, before)) (omega arith) (omega (arith, m)))
      by-steps false e =
          let behind : v.step ≤ w.step = ltb-false w.step v.step e in
          lower-first v f (λ n j l a b. g.earlier n j (omega (arith, l, behind)) a b)

-- what the first shares found, and the others that follow
pub record Found (K : System) (bound : List ℕ) (rows : List Row) (shares : List Share) (first : Option Violation) : Type 0 where
  pub upto : ℕ
  pub finds : Finds K bound rows 0 upto first
  pub rest : Follow K bound rows upto shares (item_count K)

-- one share more
pub found-more : (K : System) (bound : List ℕ) (rows : List Row) (s : Share) (shares : List Share) (v w : Option Violation) → Found K bound rows (s ∷ shares) v
    → (StandsFor bound s.monitor rows → Finds s.monitor.system bound rows s.monitor.start (length s.monitor.kept) w) → Found K bound rows shares (earlier v w)
found-more K bound rows s shares v w f answers = record {
  upto = f.upto + length s.monitor.kept;
  finds = finds-both K bound rows f.upto (length s.monitor.kept) v w f.finds
      (subst (λ k. Finds k bound rows f.upto (length s.monitor.kept) w) f.rest.0.system
      (subst (λ i. Finds s.monitor.system bound rows i (length s.monitor.kept) w) f.rest.0.start (answers f.rest.0.stands)));
  rest = f.rest.1;
}

pub found-all : (K : System) (bound : List ℕ) (rows : List Row) (v : Option Violation) → Found K bound rows [] v → Finds K bound rows 0 (item_count K) v
found-all K bound rows v f = subst (λ n. Finds K bound rows 0 n v) f.rest f.finds
