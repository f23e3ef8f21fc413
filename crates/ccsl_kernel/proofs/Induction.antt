-- Induction over expressions and births: what the rows keep holds of every expression.
--     IsClosed K N R      R, a statement on an expression under values that is born at b, is kept by each row but that of calls, up to N
--     walk      R holds of an expression of a body, if it holds of the calls that the body may make
--     induct      R holds of each expression, if it goes from bodies to calls
use Rattle.std.proofs.Common.{◌≡◌, ℕ, zero, suc, ◌+◌, ◌-◌, ◌<◌, ◌≤◌, ◌⊎◌, inl, inr, List, map, length, refl, subst, arith}
use Rattle.ccsl_kernel.specs.declared.expr.Place.{Place}
use Rattle.ccsl_kernel.specs.declared.expr.NumTerm.{NumTerm}
use Rattle.ccsl_kernel.specs.declared.expr.WordPlace.{WordPlace}
use Rattle.ccsl_kernel.specs.declared.expr.Value.{Value}
use Rattle.ccsl_kernel.specs.declared.expr.ExprTest.{ExprTest}
use Rattle.ccsl_kernel.specs.declared.expr.ExprOp.{ExprOp}
use Rattle.ccsl_kernel.specs.declared.actual.Actual.{Actual}
use Rattle.ccsl_kernel.specs.declared.expr.ExprOp.TheVariants as op
use Rattle.ccsl_kernel.specs.Syntax.{Expression, EName, ECall, ENever, EBinary, EDelay, EAwait, EFilter, EDelayed, EIf, System, root_of}
use Rattle.ccsl_kernel.specs.Actuals.{value_of}
use Rattle.ccsl_kernel.specs.Guarded.{Position, Inner, Tail, Guarded, right_of, Allowed}
use Rattle.ccsl_kernel.specs.Positions.{guarded}
use Rattle.ccsl_kernel.proofs.GuardedCalls.{AreGuarded}

pub record IsClosed (K : System) (N : ℕ) (R : ℕ → Expression → List Actual → Type 0) : Type 0 where
  pub name : (x : Place) (ρ : List Actual) (b : ℕ) → b ≤ N → R b (EName x) ρ
  pub never : (ρ : List Actual) (b : ℕ) → b ≤ N → R b ENever ρ
  -- the right operand of a then is born later
  pub binary : (o : ExprOp) (a d : Expression) (ρ : List Actual) (b : ℕ) → b ≤ N → R b a ρ → ((k : ℕ) → b ≤ k → k ≤ N → (o ≡ op.Then → b < k) → R k d ρ)
      → R b (EBinary o a d) ρ
  pub delay : (a : Expression) (m : NumTerm) (ρ : List Actual) (b : ℕ) → b ≤ N → R b a ρ → R b (EDelay a m) ρ
  pub await : (a : Expression) (m : NumTerm) (ρ : List Actual) (b : ℕ) → b ≤ N → R b a ρ → R b (EAwait a m) ρ
  pub filter : (a : Expression) (w : WordPlace) (ρ : List Actual) (b : ℕ) → b ≤ N → R b a ρ → R b (EFilter a w) ρ
  pub delayed : (a : Expression) (m : ℕ) (d : Expression) (ρ : List Actual) (b : ℕ) → b ≤ N → 1 ≤ m → R b a ρ → R b d ρ → R b (EDelayed a m d) ρ
  pub choice : (q : ExprTest) (a d : Expression) (ρ : List Actual) (b : ℕ) → b ≤ N → R b a ρ → R b d ρ → R b (EIf q a d) ρ

module _ (K : System) (N : ℕ) (R : ℕ → Expression → List Actual → Type 0) (closed : IsClosed K N R) where
  -- A body of group g that was born at b0; Own says that it is one, and no expression outside of groups.
  module _ (g b0 : ℕ) (Own : Type 0)
      (calls : (group member : ℕ) (args : List Value) (ρ : List Actual) (b : ℕ) → ((group < g) × (b0 ≤ b)) ⊎ ((group ≡ g) × (b0 < b) × Own) → b ≤ N
      → R b (ECall group member args) ρ) where
    -- what a place says of a birth there: in a guarded tail position of a body it is later than the body's
    abbrev IsBornAt : Position → ℕ → Type 0
    IsBornAt Inner b = Unit {0}
    IsBornAt Tail b = Own
    IsBornAt Guarded b = (b0 < b) × Own

    to_calls : (group : ℕ) (p : Position) (b : ℕ) → b0 ≤ b → IsBornAt p b → (group < g) ⊎ ((group ≡ g) × (p ≡ Guarded))
        → ((group < g) × (b0 ≤ b)) ⊎ ((group ≡ g) × (b0 < b) × Own)
    to_calls group p b l born (inl h) = inl (h, l)
    to_calls group p b l born (inr h) = let w = subst (λ p. IsBornAt p b) h.1 born in inr (h.0, w.0, w.1)

    after_then : (p : Position) (b k : ℕ) → b0 ≤ b → IsBornAt p b → b < k → IsBornAt (guarded p) k
    after_then Inner b k l born l' = tt
    after_then Tail b k l born l' = (omega (arith, l, l'), born)
    after_then Guarded b k l born l' = (omega (arith, l, l'), born.1)

    right_born : (o : ExprOp) (p : Position) (b k : ℕ) → b0 ≤ b → IsBornAt p b → (o ≡ op.Then → b < k) → IsBornAt (right_of o p) k
    right_born op.Then p b k l born step = after_then p b k l born (step refl)
    right_born _ p b k l born step = tt

    pub walk : (e : Expression) (p : Position) (ρ : List Actual) (b : ℕ) → Allowed g p e → b0 ≤ b → IsBornAt p b → b ≤ N → R b e ρ
    walk (EName x) p ρ b ok l born u = closed.name x ρ b u
    walk (ECall group member args) p ρ b ok l born u = calls group member args ρ b (to_calls group p b l born ok) u
    walk ENever p ρ b ok l born u = closed.never ρ b u
    walk (EBinary o a d) p ρ b ok l born u =
        closed.binary o a d ρ b u (walk a Inner ρ b ok.0 l tt u)
        (λ k l' u' step. walk d (right_of o p) ρ k ok.1 (omega arith) (right_born o p b k l born step) u')
    walk (EDelay a m) p ρ b ok l born u = closed.delay a m ρ b u (walk a Inner ρ b ok l tt u)
    walk (EAwait a m) p ρ b ok l born u = closed.await a m ρ b u (walk a Inner ρ b ok l tt u)
    walk (EFilter a w) p ρ b ok l born u = closed.filter a w ρ b u (walk a Inner ρ b ok l tt u)
    walk (EDelayed a m d) p ρ b ok l born u = closed.delayed a m d ρ b u ok.0 (walk a Inner ρ b ok.2 l tt u) (walk d Inner ρ b ok.3 l tt u)
    walk (EIf q a d) p ρ b ok l born u = closed.choice q a d ρ b u (walk a p ρ b ok.0 l born u) (walk d p ρ b ok.1 l born u)

  -- A call of an earlier group takes one off the group, and one of the own group is born later.
  pub falls : (g b f group b' : ℕ) (Own : Type 0) → g + (N - b) < suc f → ((group < g) × (b ≤ b')) ⊎ ((group ≡ g) × (b < b') × Own) → b' ≤ N
      → group + (N - b') < f
  falls g b f group b' Own h (inl w) u = omega (arith, w.0, w.1)
  falls g b f group b' Own h (inr w) u = omega (arith, w.0, w.1)

  module _ (ok : AreGuarded K)
      (call : (group member : ℕ) (args : List Value) (ρ : List Actual) (b : ℕ) → group < length K.groups → b ≤ N
      → R b (root_of K group member) (map (value_of K.words ρ) args) → R b (ECall group member args) ρ) where
    at_root : (f g member : ℕ) (ρ : List Actual) (b : ℕ) → g < length K.groups → g + (N - b) < f → b ≤ N → R b (root_of K g member) ρ
    at_root zero g member ρ b in_K h u = let z : ⊥ = omega arith in absurd z
    at_root (suc f) g member ρ b in_K h u =
        walk g b (Unit {0})
        (λ group m args v b' w u'. call group m args v b' (in_group group b' w) u'
        (at_root f group m (map (value_of K.words v) args) b' (in_group group b' w) (falls g b f group b' (Unit {0}) h w u') u'))
        (root_of K g member) Tail ρ b (ok g member) (omega arith) tt u
      where
        in_group : (group b' : ℕ) → ((group < g) × (b ≤ b')) ⊎ ((group ≡ g) × (b < b') × Unit {0}) → group < length K.groups
        in_group group b' (inl w) = omega (arith, w.0)
        in_group group b' (inr w) = omega (arith, w.0)

    pub induct : (e : Expression) (ρ : List Actual) (b : ℕ) → Allowed (length K.groups) Inner e → b ≤ N → R b e ρ
    induct e ρ b ok_e u =
        walk (length K.groups) b ⊥
        (λ group m args v b' w u'. let g =
        in_system group b' w in call group m args v b' g u'
        (at_root (suc (group + (N - b'))) group m (map (value_of K.words v) args) b' g (omega arith) u'))
        e Inner ρ b ok_e (omega arith) tt u
      where
        in_system : (group b' : ℕ) → ((group < length K.groups) × (b ≤ b')) ⊎ ((group ≡ length K.groups) × (b < b') × ⊥) → group < length K.groups
        in_system group b' (inl w) = w.0
        in_system group b' (inr w) = absurd w.2
