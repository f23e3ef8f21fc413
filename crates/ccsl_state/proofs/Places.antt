-- What accepted systems owe for regions: calls that are there, of the own group in tail positions alone.
use Rattle.std.proofs.Common.{◌≡◌, ℕ, ◌≤◌, inl, inr, List, length, Bool, true, false, Some, refl, sym, ap, subst, ◌∙◌, arith, []}
use Rattle.std.proofs.lemmas.Bool.{lt-leb, cond_both}
use Rattle.ccsl_words.specs.Word.{BinaryWord}
use Rattle.ccsl_kernel.specs.declared.expr.ExprOp.TheVariants as op
use Rattle.ccsl_kernel.specs.declared.group.ParamKind.{ParamKind}
use Rattle.ccsl_kernel.specs.declared.actual.Actual.{Actual}
use Rattle.ccsl_kernel.specs.Syntax.{Expression, EName, ECall, ENever, EBinary, EDelay, EAwait, EFilter, EDelayed, EIf, Body, System, body_of}
use Rattle.ccsl_kernel.specs.Actuals.{test_of}
use Rattle.ccsl_kernel.specs.declared.position.Position.{Position}
use Rattle.ccsl_kernel.specs.declared.position.Position.TheVariants.{Inner, Tail, Guarded}
use Rattle.ccsl_kernel.specs.Guarded.{Allowed}
use Rattle.ccsl_kernel.specs.Accepted.{IsKnown, IsBody, IsDefinition, IsAccepted}
use Rattle.ccsl_kernel.specs.declared.expr.Value.{Value}
use Rattle.ccsl_kernel.specs.Deep.{deep}
use Rattle.ccsl_kernel.specs.Fitting.{ExprFits}
use Rattle.ccsl_kernel.proofs.AcceptedParts.{body_is, body_ready}
use Rattle.ccsl_kernel.proofs.Arguments.{arguments_len}
use Rattle.ccsl_state.specs.Standing.{IsCall, MayCall, Stands, is_own}
use Rattle.ccsl_kernel.proofs.GuardedCalls.{tail_guarded, inner_guarded}

module _ (K : System) (g : ℕ) where
  -- what stands inside of an operator can stand outside too
  pub inner_stands : (e : Expression) → Stands K g true e → Stands K g false e
  inner_stands (ECall group member args) h = (let l = h.0 in omega arith, h.1)
  inner_stands (EBinary op.Then a d) h = (h.0, inner_stands d h.1)
  inner_stands (EIf q a d) h = (inner_stands a h.0, inner_stands d h.1)
  inner_stands e h = h

  -- and is no call of the own group
  pub inner_not_own : (words : List BinaryWord) (e : Expression) (ρ : List Actual) → Stands K g true e → is_own words g e ρ ≡ false
  inner_not_own words (ECall group member args) ρ h = lt-leb g group h.0
  inner_not_own words (EIf q a d) ρ h =
      cond_both (test_of words q ρ) _ _ (λ t. t ≡ false) (λ _. inner_not_own words a ρ h.0) (λ _. inner_not_own words d ρ h.1)
  inner_not_own words e ρ h = refl

  pub allowed_not_own : (words : List BinaryWord) (p : Position) (e : Expression) (ρ : List Actual) → Allowed g p e → (p ≡ Guarded → ⊥)
      → is_own words g e ρ ≡ false
  allowed_not_own words p (ECall group member args) ρ (inl l) nog = lt-leb g group l
  allowed_not_own words p (ECall group member args) ρ (inr h) nog = absurd (nog h.1)
  allowed_not_own words p (EIf q a d) ρ h nog =
      cond_both (test_of words q ρ) _ _ (λ t. t ≡ false) (λ _. allowed_not_own words p a ρ h.0 nog) (λ _. allowed_not_own words p d ρ h.1 nog)
  allowed_not_own words p e ρ h nog = refl

abbrev is_inner : Position → Bool
is_inner Inner = true
is_inner Tail = false
is_inner Guarded = false

module _ (K : System) (ok : IsAccepted K) (g clocks : ℕ) (params : List ParamKind) where
  pub stands : (p : Position) (e : Expression) → Allowed g p e → IsKnown K.groups K.words clocks params e → Stands K g (is_inner p) e
  stands p (EName x) h k = tt
  stands p (ECall group member args) h k =
      (may p h, (k.0, k.1, sym (arguments_len K.groups K.words clocks params k.0.params args k.2), (body_is K group member k.0 ok k.1).few))
    where
      may : (p : Position) → Allowed g p (ECall group member args) → MayCall g (is_inner p) group
      may Inner (inl l) = l
      may Inner (inr h) = absurd (inner_guarded h.1)
      may Tail (inl l) = omega arith
      may Tail (inr h) = absurd (tail_guarded h.1)
      may Guarded (inl l) = omega arith
      may Guarded (inr h) = let e = h.0 in omega arith
  stands p ENever h k = tt
  stands Inner (EBinary op.Then a d) h k = (stands Inner a h.0 k.0, stands Inner d h.1 k.1)
  stands Tail (EBinary op.Then a d) h k = (stands Inner a h.0 k.0, stands Guarded d h.1 k.1)
  stands Guarded (EBinary op.Then a d) h k = (stands Inner a h.0 k.0, stands Guarded d h.1 k.1)
  stands p (EBinary o a d) h k = (stands Inner a h.0 k.0, stands Inner d h.1 k.1)
  stands p (EDelay a m) h k = stands Inner a h k.0
  stands p (EAwait a m) h k = stands Inner a h k.0
  stands p (EFilter a w) h k = stands Inner a h k.0
  stands p (EDelayed a m d) h k = (h.0, h.1, stands Inner a h.2 k.0, stands Inner d h.3 k.1)
  stands p (EIf q a d) h k = (stands p a h.0 k.1, stands p d h.1 k.2)

pub body_stands : (K : System) (g : ℕ) (b : Body) → IsAccepted K → IsBody K g b → Stands K g false b.root
body_stands K g b ok h = stands K ok g 0 b.params Tail b.root h.calls h.known

pub body_not_own : (K : System) (g : ℕ) (b : Body) (ρ : List Actual) → IsBody K g b → is_own K.words g b.root ρ ≡ false
body_not_own K g b ρ h = allowed_not_own K g K.words Tail b.root ρ h.calls tail_guarded

pub definition_stands : (K : System) (x : ℕ) (e : Expression) → IsAccepted K → IsDefinition K x e → Stands K (length K.groups) true e
definition_stands K x e ok h = stands K ok (length K.groups) x [] Inner e h.calls h.known

-- a call's member has as many parameters as the call has arguments
pub call_params : (K : System) (g m : ℕ) (args : List Value) (b : Body) → IsCall K g m args → body_of K.groups g m ≡ Some b
    → (length args ≡ length b.params) × (length b.params ≤ 8)
call_params K g m args b h is = let same : h.0 ≡ b = let e =
    h.1 in cc in (h.2 ∙ ap (λ (b : Body). length b.params) same, subst (λ (b : Body). length b.params ≤ 8) same h.3)

-- what a body that is called owes, in an accepted system
pub record IsBodyReady (K : System) (g : ℕ) (b : Body) : Type 0 where
  pub shallow : deep b.root ≤ 129
  pub offsets : ExprFits K.words b.root
  pub stands : Stands K g false b.root
  pub placed : (ρ : List Actual) → is_own K.words g b.root ρ ≡ false

pub ready_body : (K : System) (g m : ℕ) (b : Body) → IsAccepted K → body_of K.groups g m ≡ Some b → IsBodyReady K g b
ready_body K g m b ok is =
    let body = body_is K g m b ok is in
    let r = body_ready K g b body in
    record { shallow = r.1; offsets = r.0; stands = body_stands K g b ok body; placed = λ ρ. body_not_own K g b ρ body }

pub few_params : (K : System) (g m : ℕ) (b : Body) → IsAccepted K → body_of K.groups g m ≡ Some b → length b.params ≤ 8
few_params K g m b ok is = (body_is K g m b ok is).few
