use Rattle.std.proofs.Common.{◌≡◌, ℕ, suc, ◌+◌, ◌≤◌, [], ◌∷◌, ◌++◌, List, map, drop, sym, ap, ap₂, subst, ◌∙◌, arith}
use Rattle.std.specs.Prelude.{All}
use Rattle.std.proofs.lemmas.Bool.{false≢true}
use Rattle.std.proofs.lemmas.List.Elements.{All-push}
use Rattle.ccsl_base.specs.declared.limits.TheConstants.{MAX_CALL_LEVELS}
use Rattle.ccsl_kernel.specs.declared.group.Group.{Group}
use Rattle.ccsl_kernel.specs.declared.group.Body.{Body as BoxedBody}
use Rattle.ccsl_kernel.specs.Plain.{plain_body, plain_group}
use Rattle.ccsl_kernel.specs.Accepted.{height, group_levels}
use Rattle.ccsl_kernel.specs.Cells.{greatest}
use Rattle.ccsl_kernel.proofs.GroupLevels.{level_of, levels_more, level_stays}
use Rattle.ccsl_kernel.proofs.accepted.levels.are_low.Goals as goal

pub returns-then-level-ge-MAX_CALL_LEVELS : goal.returns-then-level-ge-MAX_CALL_LEVELS
returns-then-level-ge-MAX_CALL_LEVELS c =
    let levels = c.loop-group.levels.items in
    let group = plain_group c.group-item.result in
    let level : suc c.members_height-level.result ≡ level_of levels group =
    ap suc
    (c.members_height-level.ensures
    ∙ ap₂ (λ (ls : List ℕ) (bs : List BoxedBody). greatest (map (λ b. height ls b.root) (map plain_body bs))) c.as_slice.ensures.value c.members.ensures) in
    let rest = map plain_group (drop (c.loop-group.group-index + 1) c.args.groups.now) in
    let whole : group_levels (levels ++ level_of levels group ∷ []) rest ≡ group_levels [] (map plain_group c.args.groups.now) =
    ap (λ (g : Group). group_levels (levels ++ level_of levels (plain_group g) ∷ []) rest) c.group-item.is
    ∙ sym (levels_more plain_group levels c.args.groups.now c.loop-group.group-index c.group-item.result c.loop-group-test.true)
    ∙ c.loop-group.invariant.rest in (
      λ h. absurd (false≢true h),
      λ all. absurd
          (omega (
            arith,
            c.if-level-ge-MAX_CALL_LEVELS.true,
            level,
            level_stays (λ n. n ≤ MAX_CALL_LEVELS) levels (level_of levels group) rest (subst (All (λ n. n ≤ MAX_CALL_LEVELS)) (sym whole) all),
          )),
    )

pub loop-group-preserved : goal.loop-group-preserved
loop-group-preserved c =
    let levels = c.loop-group.levels.items in
    let group = plain_group c.group-item.result in
    let level : c.members_height-level.result + 1 ≡ level_of levels group =
    (let s : c.members_height-level.result + 1 ≡ suc c.members_height-level.result = omega arith in s)
    ∙ ap suc
    (c.members_height-level.ensures
    ∙ ap₂ (λ (ls : List ℕ) (bs : List BoxedBody). greatest (map (λ b. height ls b.root) (map plain_body bs))) c.as_slice.ensures.value c.members.ensures) in
    let rest = map plain_group (drop (c.loop-group.group-index + 1) c.args.groups.now) in
    let pushed : c.push.new.self.items ≡ levels ++ level_of levels group ∷ [] = c.in_ok-push.ensures.items ∙ ap (λ (n : ℕ). levels ++ n ∷ []) level in
    record {
      rest =
          ap (λ (ls : List ℕ). group_levels ls rest) pushed
          ∙ ap (λ (g : Group). group_levels (levels ++ level_of levels (plain_group g) ∷ []) rest) c.group-item.is
          ∙ sym (levels_more plain_group levels c.args.groups.now c.loop-group.group-index c.group-item.result c.loop-group-test.true)
          ∙ c.loop-group.invariant.rest;
      low = subst (All (λ n. n ≤ MAX_CALL_LEVELS)) (sym pushed)
          (All-push (λ n. n ≤ MAX_CALL_LEVELS) levels (level_of levels group) c.loop-group.invariant.low
          (omega (arith, level, c.if-level-ge-MAX_CALL_LEVELS.false)));
    }
