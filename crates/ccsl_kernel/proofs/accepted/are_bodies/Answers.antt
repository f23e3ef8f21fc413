use Rattle.std.proofs.Common.{ℕ, List, get_or, refl, sym, ap, subst, ◌∙◌, zero-add, arith}
use Rattle.std.specs.Prelude.{All}
use Rattle.std.proofs.lemmas.Bool.{false≢true}
use Rattle.std.proofs.lemmas.List.Elements.{All-map}
use Rattle.ccsl_kernel.specs.declared.group.Group.{Group}
use Rattle.ccsl_kernel.specs.Syntax.{Body, System}
use Rattle.ccsl_kernel.specs.Plain.{plain_body, plain_group, plain_system}
use Rattle.ccsl_kernel.specs.Accepted.{IsBody}
use Rattle.ccsl_kernel.proofs.EachOne.{each_made_at, each_made_from, all_made_at}
use Rattle.ccsl_kernel.proofs.accepted.are_bodies.Goals as goal

abbrev AreMembers : System → ℕ → List Body → Type 0
AreMembers K g members = All (IsBody K g) members

pub returns-then-not-are_members : goal.returns-then-not-are_members
returns-then-not-are_members c =
    let K = plain_system c.args.parts.now in
    let i = c.loop-i.i in
    let group = c.index-groups-i.result in (
      λ h. absurd (false≢true h),
      λ all. absurd
          (false≢true
          (sym c.if-not-are_members.true
          ∙ c.are_members.ensures.1
          (subst (All (λ body. IsBody K i (plain_body body))) (sym (c.members.ensures ∙ ap (λ (g : Group). g.members) c.index-groups-i.is))
          (all_made_at (IsBody K i) plain_body (get_or c.args.groups.now i group).members
          (subst (λ (k : ℕ). AreMembers K k (plain_group (get_or c.args.groups.now i group))) (zero-add i)
          (each_made_at (AreMembers K) plain_group 0 c.args.groups.now i group c.loop-i-test.true all)))))),
    )

pub returns : goal.returns
returns c =
    let K = plain_system c.args.parts.now in (
      λ _. each_made_from (AreMembers K) plain_group 0 c.args.groups.now
          (λ k d l. subst (λ (g : ℕ). AreMembers K g (plain_group (get_or c.args.groups.now k d))) (sym (zero-add k))
          (All-map (IsBody K k) plain_body (get_or c.args.groups.now k d).members (c.loop-i.invariant k d (omega (arith, l, c.loop-i-test.false))))),
      λ _. refl,
    )
