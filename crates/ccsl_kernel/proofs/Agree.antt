-- The rows determine the meaning: two meanings that obey them agree.
use Rattle.std.proofs.Common.{if◌then◌else◌, ◌≡◌, ℕ, zero, suc, ◌+◌, ◌-◌, ◌<◌, ◌≤◌, List, map, length, Bool, true, false, Option, Some, None, refl, sym, ap}
use Rattle.std.proofs.Common.{ap₂, ◌∙◌, arith}
use Rattle.ccsl_formula.specs.Formula.{FVar, eval}
use Rattle.ccsl_kernel.specs.declared.expr.ExprOp.{ExprOp}
use Rattle.ccsl_kernel.specs.declared.actual.Actual.{Actual}
use Rattle.ccsl_kernel.specs.declared.expr.ExprOp.TheVariants as op
use Rattle.ccsl_kernel.specs.declared.actual.Actual.TheVariants as actual
use Rattle.ccsl_kernel.specs.Syntax.{Expression, System, root_of}
use Rattle.ccsl_kernel.specs.Lives.{Step, Life, step_at, ticks_at, operand, over_one, over_two, end_of, at_end, followed_by, joined}
use Rattle.ccsl_kernel.specs.Actuals.{place_of, number_of, suffix_of, value_of, test_of, word_of}
use Rattle.ccsl_kernel.specs.Table.{Now, Operand, union_row, inter_row, minus_row, inf_row, sup_row, upto_row, upto_weakly_row, sampled_row, sampled_weakly_row}
use Rattle.ccsl_kernel.specs.Table.{delay_row, await_row, filter_row, delayed_row}
use Rattle.ccsl_kernel.specs.Meaning.{named, life, bodies}
use Rattle.ccsl_kernel.specs.Guarded.{Inner, Tail, Allowed}
use Rattle.ccsl_kernel.specs.Rows.{IsTable, CallsAreBodies}
use Rattle.ccsl_kernel.proofs.GuardedCalls.{AreGuarded}
use Rattle.ccsl_kernel.proofs.Steps.{map-steps, find-steps, find-within}
use Rattle.ccsl_kernel.proofs.Induction.{IsClosed, walk, falls, induct}

-- two lives agree from b up to N
pub record Agree (N b : ℕ) (L M : Life) : Type 0 where
  pub at : (n : ℕ) → b ≤ n → n ≤ N → L b n ≡ M b n

module _ (T T' : List Step) (N : ℕ) (same : (i : ℕ) → i < N → step_at T i ≡ step_at T' i) where
  pub operand_agree : (L M : Life) (b n : ℕ) → Agree N b L M → b ≤ n → n ≤ N → operand T L b n ≡ operand T' M b n
  operand_agree L M b n h l u =
      ap₂ (λ (now : Now) (ts : List Bool). record { formula = now.formula; dead = now.dead; ticks = ts }) (h.at n l u)
      (map-steps (ticks_at T L b) (ticks_at T' M b) b n
      (λ i l' u'. ap₂ (λ (now : Now) (s : Step). eval now.formula s) (h.at i l' (omega arith)) (same i (omega arith))))

  pub one_agree : (row : Operand → Now) (L M : Life) (b n : ℕ) → Agree N b L M → b ≤ n → n ≤ N → over_one T row L b n ≡ over_one T' row M b n
  one_agree row L M b n h l u = ap row (operand_agree L M b n h l u)

  pub two_agree : (row : Operand → Operand → Now) (L M L' M' : Life) (b n : ℕ) → Agree N b L M → Agree N b L' M' → b ≤ n → n ≤ N
      → over_two T row L L' b n ≡ over_two T' row M M' b n
  two_agree row L M L' M' b n h h' l u = ap₂ row (operand_agree L M b n h l u) (operand_agree L' M' b n h' l u)

  pub end_agree : (L M : Life) (b n : ℕ) → Agree N b L M → n ≤ N → end_of L b n ≡ end_of M b n
  end_agree L M b n h u = find-steps _ _ (suc b) (suc n) (λ i l' u'. ap (λ (now : Now). now.dead) (h.at i (omega arith) (omega arith)))

  -- the right operand needs to agree at later births alone
  pub followed_agree : (L M L' M' : Life) (b n : ℕ) → Agree N b L M → ((k : ℕ) → b < k → k ≤ N → Agree N k L' M') → b ≤ n → n ≤ N
      → followed_by L L' b n ≡ followed_by M M' b n
  followed_agree L M L' M' b n h h' l u =
      ap₂ (λ o (now : Now). at_end o (record { formula = now.formula; dead = false }) (λ k. L' k n)) (end_agree L M b n h u) (h.at n l u)
      ∙ later (end_of M b n) refl
    where
      later : (o : Option ℕ) → end_of M b n ≡ o
          → at_end o (record { formula = (M b n).formula; dead = false }) (λ k. L' k n) ≡ at_end o (record { formula = (M b n).formula; dead = false })
          (λ k. M' k n)
      later None e = refl
      later (Some k) e = let w = find-within _ (suc b) (suc n) k e in (h' k w.0 (omega (arith, w.1))).at n (omega (arith, w.1)) u

  pub joined_agree : (o : ExprOp) (L M L' M' : Life) (b n : ℕ) → Agree N b L M → ((k : ℕ) → b ≤ k → k ≤ N → (o ≡ op.Then → b < k) → Agree N k L' M') → b ≤ n
      → n ≤ N → joined T o L L' b n ≡ joined T' o M M' b n
  joined_agree op.Union L M L' M' b n h h' l u = two_agree union_row L M L' M' b n h (h' b (omega arith) (omega arith) (λ e. let z : ⊥ = cc in absurd z)) l u
  joined_agree op.Inter L M L' M' b n h h' l u = two_agree inter_row L M L' M' b n h (h' b (omega arith) (omega arith) (λ e. let z : ⊥ = cc in absurd z)) l u
  joined_agree op.Minus L M L' M' b n h h' l u = two_agree minus_row L M L' M' b n h (h' b (omega arith) (omega arith) (λ e. let z : ⊥ = cc in absurd z)) l u
  joined_agree op.Inf L M L' M' b n h h' l u = two_agree inf_row L M L' M' b n h (h' b (omega arith) (omega arith) (λ e. let z : ⊥ = cc in absurd z)) l u
  joined_agree op.Sup L M L' M' b n h h' l u = two_agree sup_row L M L' M' b n h (h' b (omega arith) (omega arith) (λ e. let z : ⊥ = cc in absurd z)) l u
  joined_agree op.Upto L M L' M' b n h h' l u = two_agree upto_row L M L' M' b n h (h' b (omega arith) (omega arith) (λ e. let z : ⊥ = cc in absurd z)) l u
  joined_agree op.UptoWeakly L M L' M' b n h h' l u =
      two_agree upto_weakly_row L M L' M' b n h (h' b (omega arith) (omega arith) (λ e. let z : ⊥ = cc in absurd z)) l u
  joined_agree op.Then L M L' M' b n h h' l u = followed_agree L M L' M' b n h (λ k l u. h' k (omega arith) u (λ e. l)) l u
  joined_agree op.Sampled L M L' M' b n h h' l u =
      two_agree sampled_row L M L' M' b n h (h' b (omega arith) (omega arith) (λ e. let z : ⊥ = cc in absurd z)) l u
  joined_agree op.SampledWeakly L M L' M' b n h h' l u =
      two_agree sampled_weakly_row L M L' M' b n h (h' b (omega arith) (omega arith) (λ e. let z : ⊥ = cc in absurd z)) l u

-- the table's rows hold of the meaning that was defined by them
pub life_rows : (K : System) (T : List Step) (gone : ℕ → ℕ → Bool) (calls : ℕ → ℕ → List Actual → Life) → IsTable K T gone (life K T gone calls)
life_rows K T gone calls = record {
  name = λ x ρ b n l u. refl;
  never = λ ρ b n l u. refl;
  binary = λ op a d ρ b n l u. refl;
  delay = λ a m ρ b n l u. refl;
  await = λ a m ρ b n l u. refl;
  filter = λ a w ρ b n l u. refl;
  delayed = λ a m d ρ pos b n l u. refl;
  choice = λ q a d ρ b n l u. elim (test_of K.words q ρ) as (λ t. (if t then life K T gone calls a ρ else life K T gone calls d ρ) b
      n ≡ (if t then life K T gone calls a ρ b n else life K T gone calls d ρ b n)) [ true ↦ refl | false ↦ refl ];
}

-- Two meanings that obey the rows, over lists of steps and deaths of names that are the same up to N: that they agree is kept by
-- each row.
module _ (K : System) (T T' : List Step) (N : ℕ) (in_T : N ≤ length T) (in_T' : N ≤ length T')
    (same : (i : ℕ) → i < N → step_at T i ≡ step_at T' i)
    (gone gone' : ℕ → ℕ → Bool) (same_gone : (n x : ℕ) → n ≤ N → gone n x ≡ gone' n x) where
  module _ (M M' : Expression → List Actual → Life) (rows : IsTable K T gone M) (rows' : IsTable K T' gone' M') where
    abbrev pub AgreeOn : ℕ → Expression → List Actual → Type 0
    AgreeOn b e ρ = Agree N b (M e ρ) (M' e ρ)

    at_choice : (t : Bool) (L M L' M' : Life) (b n : ℕ) → L b n ≡ L' b n → M b n ≡ M' b n → (if t then L b n else M b n) ≡ (if t then L' b n else M' b n)
    at_choice true L M L' M' b n p q = p
    at_choice false L M L' M' b n p q = q

    name_agree : (v : Actual) (b n : ℕ) → n ≤ N → named K T gone v b n ≡ named K T' gone' v b n
    name_agree (actual.Clock x) b n u = ap (λ t. record { formula = FVar x; dead = t }) (same_gone n x u)
    name_agree _ b n u = refl

    pub agree_closed : IsClosed K N AgreeOn
    agree_closed = record {
      name = λ x ρ b u. record {
        at =
            λ n l' u'. rows.name x ρ b n l' (omega arith) ∙ name_agree (place_of x ρ) b n u' ∙ sym (rows'.name x ρ b n l' (omega arith));
      };
      never = λ ρ b u. record { at = λ n l' u'. rows.never ρ b n l' (omega arith) ∙ sym (rows'.never ρ b n l' (omega arith)) };
      binary = λ o a d ρ b u ra rd. record {
        at = λ n l' u'.
            rows.binary o a d ρ b n l' (omega arith)
            ∙ joined_agree T T' N same o (M a ρ) (M' a ρ) (M d ρ) (M' d ρ) b n ra rd l' u'
            ∙ sym (rows'.binary o a d ρ b n l' (omega arith));
      };
      delay = λ a m ρ b u ra. record {
        at = λ n l' u'.
            rows.delay a m ρ b n l' (omega arith)
            ∙ one_agree T T' N same (delay_row (number_of m ρ)) (M a ρ) (M' a ρ) b n ra l' u'
            ∙ sym (rows'.delay a m ρ b n l' (omega arith));
      };
      await = λ a m ρ b u ra. record {
        at = λ n l' u'.
            rows.await a m ρ b n l' (omega arith)
            ∙ one_agree T T' N same (await_row (number_of m ρ)) (M a ρ) (M' a ρ) b n ra l' u'
            ∙ sym (rows'.await a m ρ b n l' (omega arith));
      };
      filter = λ a w ρ b u ra. record {
        at = λ n l' u'.
            let s = suffix_of K.words w ρ in
            rows.filter a w ρ b n l' (omega arith)
            ∙ one_agree T T' N same (filter_row (word_of K.words s.word) s.offset) (M a ρ) (M' a ρ) b n ra l' u'
            ∙ sym (rows'.filter a w ρ b n l' (omega arith));
      };
      delayed = λ a m d ρ b u pos ra rd. record {
        at = λ n l' u'.
            rows.delayed a m d ρ pos b n l' (omega arith)
            ∙ two_agree T T' N same (delayed_row m) (M a ρ) (M' a ρ) (M d ρ) (M' d ρ) b n ra rd l' u'
            ∙ sym (rows'.delayed a m d ρ pos b n l' (omega arith));
      };
      choice = λ q a d ρ b u ra rd. record {
        at = λ n l' u'.
            rows.choice q a d ρ b n l' (omega arith)
            ∙ at_choice (test_of K.words q ρ) (M a ρ) (M d ρ) (M' a ρ) (M' d ρ) b n (ra.at n l' u') (rd.at n l' u')
            ∙ sym (rows'.choice q a d ρ b n l' (omega arith));
      };
    }

    -- THE ROWS DETERMINE THE MEANING
    pub unique : AreGuarded K → CallsAreBodies K T M → CallsAreBodies K T' M' → (e : Expression) (ρ : List Actual) (b : ℕ) → Allowed (length K.groups) Inner e
        → b ≤ N → Agree N b (M e ρ) (M' e ρ)
    unique ok calls calls' e ρ b ok_e u =
        induct K N AgreeOn agree_closed ok
        (λ group m args v b' g u' h. record {
          at =
              λ n l' un. calls group m args v g b' n l' (omega arith) ∙ h.at n l' un ∙ sym (calls' group m args v g b' n l' (omega arith));
        })
        e ρ b ok_e u

  -- bodies through f calls one in another, and through f', where both are enough
  pub bodies_agree : AreGuarded K → (f f' g member : ℕ) (ρ : List Actual) (b : ℕ) → g + (N - b) < f → g + (N - b) < f' → b ≤ N
      → Agree N b (bodies K T gone f g member ρ) (bodies K T' gone' f' g member ρ)
  bodies_agree ok zero f' g member ρ b h h' u = let z : ⊥ = omega arith in absurd z
  bodies_agree ok (suc f) zero g member ρ b h h' u = let z : ⊥ = omega arith in absurd z
  bodies_agree ok (suc f) (suc f') g member ρ b h h' u =
      let M = life K T gone (bodies K T gone f) in
      let M' = life K T' gone' (bodies K T' gone' f') in
      let rows = life_rows K T gone (bodies K T gone f) in
      let rows' = life_rows K T' gone' (bodies K T' gone' f') in
      walk K N (AgreeOn M M' rows rows') (agree_closed M M' rows rows') g b (Unit {0})
      (λ group m args v b' w u'.
      bodies_agree ok f f' group m (map (value_of K.words v) args) b'
      (falls K N (AgreeOn M M' rows rows') (agree_closed M M' rows rows') g b f group b' (Unit {0}) h w u')
      (falls K N (AgreeOn M M' rows rows') (agree_closed M M' rows rows') g b f' group b' (Unit {0}) h' w u') u')
      (root_of K g member) Tail ρ b (ok g member) (omega arith) tt u
