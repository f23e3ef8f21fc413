-- Where there is no fault, calls go to earlier groups, or to the own one in guarded tail positions.
use Rattle.std.proofs.Common.{◌≡◌, ℕ, ◌+◌, ◌<◌, ◌≤◌, List, [], ◌∷◌, ◌++◌, Bool, true, false, not, ◌&&◌, ◌||◌, Option, Some, None, nat_lt, nat_eq, length}
use Rattle.std.proofs.Common.{flat_map, ◌⊎◌, inl, inr, refl, sym, ap, ◌∙◌, subst, arith}
use Rattle.std.proofs.lemmas.Bool.Decides.{nat_tests}
use Rattle.ccsl_ast.specs.declared.spot.Spot.{Spot}
use Rattle.ccsl_ast.specs.declared.term.Argument.{Argument}
use Rattle.ccsl_ast.specs.declared.tree.BinaryOp.{BinaryOp}
use Rattle.ccsl_ast.specs.declared.tree.BinaryOp.TheVariants as op
use Rattle.ccsl_ast.specs.Trees.{Expression, EName, ECall, ENever, EBinary, EDelay, EAwait, EFilter, EDelayed, EIf}
use Rattle.ccsl_kernel.specs.declared.expr.Value.{Value}
use Rattle.ccsl_kernel.specs.declared.position.Position.{Position}
use Rattle.ccsl_kernel.specs.declared.position.Position.TheVariants.{Inner, Tail, Guarded}
use Rattle.ccsl_kernel.specs.Guarded.{Allowed, right_of as kernel_right_of}
use Rattle.ccsl_rules.specs.Faults.{Fault, Cause, where_so, Unknown, Arguments}
use Rattle.ccsl_rules.specs.Spaces.{Known, Callee, Role, relation, member, look}
use Rattle.ccsl_rules.specs.Uses.{Scene, has_role, is_own, is_guarded, callee_faults, expr_faults, argument_faults, right_of, term_faults, word_faults}
use Rattle.ccsl_rules.specs.Uses.{test_faults}
use Rattle.ccsl_rules.specs.Settings.{Setting}
use Rattle.ccsl_rules.specs.Texts.{texts}
use Rattle.ccsl_rules.specs.Resolved.{Tables, resolve, resolve_op, resolve_call, resolve_arguments, role_call}

pub left-empty : {X : Type 0} (xs ys : List X) → xs ++ ys ≡ [] → xs ≡ []
left-empty [] ys e = refl
left-empty (x ∷ xs) ys e = absurd (cc)

pub right-empty : {X : Type 0} (xs ys : List X) → xs ++ ys ≡ [] → ys ≡ []
right-empty [] ys e = e
right-empty (x ∷ xs) ys e = absurd (cc)

pub no-fault : (b : Bool) (c : Cause) (at : ℕ) → where_so b c at ≡ [] → b ≡ false
no-fault true c at e = absurd (cc)
no-fault false c at e = refl

guarded-is : (p : Position) → not (is_guarded p) ≡ false → p ≡ Guarded
guarded-is Guarded e = refl
guarded-is Inner e = absurd (cc)
guarded-is Tail e = absurd (cc)

-- in the space, members of earlier definitions are of earlier groups, and those of the own definition are of the own group
abbrev pub Ordered : Scene → ℕ → Type 0
Ordered S g = (name : List ℕ) (k : Known Callee) (group number : ℕ) → look name S.calls ≡ Some k → k.what.role ≡ member group number →
    (k.since ≤ S.home → group < g) × (k.what.block ≡ S.home → group ≡ g)

-- a call of a member that the space has
member-call : (S : Scene) (g : ℕ) (p : Position) (s : Spot) (args : List Argument) (k : Known Callee) (group number : ℕ) (values : List Value) →
    (k.since ≤ S.home → group < g) × (k.what.block ≡ S.home → group ≡ g) → k.what.role ≡ member group number → callee_faults S false p s args k ≡ [] →
    (group < g) ⊎ ((group ≡ g) × (p ≡ Guarded))
member-call S g p s args k group number values o r e =
    let later : (not (is_own S k.what) && nat_lt S.home k.since) ≡ false =
    no-fault _ _ _ (left-empty _ _ (left-empty _ _ (left-empty _ _ (left-empty _ _ (left-empty _ _ e))))) in
    let unguarded : (is_own S k.what && not (is_guarded p)) ≡ false = no-fault _ _ _ (right-empty _ _ (left-empty _ _ (left-empty _ _ (left-empty _ _ e)))) in
    let own : is_own S k.what ≡ nat_eq k.what.block S.home = ap (λ x. has_role x false && nat_eq k.what.block S.home) r in
    by_own (nat_eq k.what.block S.home) refl (sym (ap (λ x. not x && nat_lt S.home k.since) own) ∙ later)
    (sym (ap (λ x. x && not (is_guarded p)) own) ∙ unguarded)
  where
    by_own : (b : Bool) → nat_eq k.what.block S.home ≡ b → (not b && nat_lt S.home k.since) ≡ false → (b && not (is_guarded p)) ≡ false
        → (group < g) ⊎ ((group ≡ g) × (p ≡ Guarded))
    by_own true h l u = inr (o.1 (grind (arith, nat_tests)), guarded-is p u)
    by_own false h l u = inl (o.0 (grind (arith, nat_tests)))

-- a call of any name
role-call : (S : Scene) (g : ℕ) (p : Position) (s : Spot) (args : List Argument) (k : Known Callee) (values : List Value) (role : Role) →
    ((group number : ℕ) → role ≡ member group number → (k.since ≤ S.home → group < g) × (k.what.block ≡ S.home → group ≡ g)) → k.what.role ≡ role
    → callee_faults S false p s args k ≡ [] →
    Allowed g p (role_call role values)
role-call S g p s args k values relation o r e = tt
role-call S g p s args k values (member group number) o r e = member-call S g p s args k group number values (o group number refl) r e

found-call : (S : Scene) (g : ℕ) → Ordered S g → (p : Position) (s : Spot) (args : List Argument) (values : List Value) (found : Option (Known Callee))
    → look s.name S.calls ≡ found →
    elim found as (λ _. List Fault) [ None ↦ where_so true Unknown s.at | Some k ↦ callee_faults S false p s args k ] ≡ []
    → Allowed g p (resolve_call found values)
found-call S g o p s args values None l e = tt
found-call S g o p s args values (Some k) l e =
    role-call S g p s args k values k.what.role (λ group number r. o s.name k group number l r) refl e

right-position : (o : BinaryOp) (p : Position) → right_of o p ≡ kernel_right_of (resolve_op o) p
right-position op.Union p = refl
right-position op.Inter p = refl
right-position op.Minus p = refl
right-position op.Inf p = refl
right-position op.Sup p = refl
right-position op.Upto p = refl
right-position op.UptoWeakly p = refl
right-position op.Then p = refl
right-position op.Sampled p = refl
right-position op.SampledWeakly p = refl

in-range : (m : ℕ) → (nat_lt m 1 || nat_lt 4096 m) ≡ false → (1 ≤ m) × (m ≤ 4096)
in-range m e = (grind (arith, nat_tests), grind (arith, nat_tests))

-- AN EXPRESSION WITHOUT A FAULT resolves to one that is allowed at its place
pub allowed : (K : Tables) (S : Scene) (g : ℕ) → K.calls ≡ S.calls → Ordered S g → (σ : Setting) (k : ℕ) (p : Position) (e : Expression)
    → expr_faults S p e ≡ [] → Allowed g p (resolve K σ k e)
allowed K S g same o σ k p (EName s) e = tt
allowed K S g same o σ k p (ECall s args) e =
    found-call S g o p s args (resolve_arguments K σ k args) (look s.name K.calls) (ap (look s.name) (sym same))
    (ap (λ (calls : List (Known Callee)). elim (look s.name calls) as (λ _. List Fault) [
      | None ↦ where_so true Unknown s.at
      | Some x ↦ callee_faults S false p s args x
    ]) same
    ∙ left-empty _ (flat_map (argument_faults S) args) e)
allowed K S g same o σ k p ENever e = tt
allowed K S g same o σ k p (EBinary b x d) e = (
  allowed K S g same o σ k Inner x (left-empty _ (expr_faults S (right_of b p) d) e),
  subst (λ q. Allowed g q (resolve K σ (k + length (texts x)) d)) (right-position b p)
      (allowed K S g same o σ (k + length (texts x)) (right_of b p) d (right-empty (expr_faults S Inner x) _ e)),
)
allowed K S g same o σ k p (EDelay x m) e = allowed K S g same o σ k Inner x (left-empty _ (term_faults S m) e)
allowed K S g same o σ k p (EAwait x m) e = allowed K S g same o σ k Inner x (left-empty _ (term_faults S m) e)
allowed K S g same o σ k p (EFilter x w) e = allowed K S g same o σ k Inner x (left-empty _ (word_faults S w) e)
allowed K S g same o σ k p (EDelayed x at m d) e =
    let front : expr_faults S Inner x ++ where_so (nat_lt m 1 || nat_lt 4096 m) Arguments at ≡ [] = left-empty _ (expr_faults S Inner d) e in
    let range = in-range m (no-fault _ _ _ (right-empty (expr_faults S Inner x) _ front)) in (
      range.0,
      range.1,
      allowed K S g same o σ k Inner x (left-empty _ _ front),
      allowed K S g same o σ (k + length (texts x)) Inner d (right-empty _ _ e),
    )
allowed K S g same o σ k p (EIf q x d) e =
    let front : test_faults S q ++ expr_faults S p x ≡ [] = left-empty _ (expr_faults S p d) e in
    (allowed K S g same o σ k p x (right-empty (test_faults S q) _ front), allowed K S g same o σ (k + length (texts x)) p d (right-empty _ _ e))
