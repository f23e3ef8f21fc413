use Rattle.std.proofs.Common.{◌≡◌, suc, ◌+◌, ◌∷◌, drop, sym, ap, ◌∙◌, subst, arith, drop-cons}
use Rattle.ccsl_judge.proofs.Combining.{Found, found-more}
use Rattle.ccsl_judge.proofs.shares.first_of.Goals as goal

pub loop-share-preserved : goal.loop-share-preserved
loop-share-preserved c = λ K bound rows f.
    let i = c.loop-share.share-index in
    let shares = c.args.shares.now in
    let s = c.share-item.result in
    let next : suc i ≡ i + 1 = omega arith in
    let split : drop i shares ≡ s ∷ drop (i + 1) shares =
    drop-cons shares i s c.loop-share-test.true ∙ ap (λ x. x ∷ drop (suc i) shares) (sym c.share-item.is) ∙ ap (λ n. s ∷ drop n shares) next in
    let found : Found K bound rows (s ∷ drop (i + 1) shares) c.loop-share.first =
    subst (λ xs. Found K bound rows xs c.loop-share.first) split (c.loop-share.invariant K bound rows f) in
    subst (Found K bound rows (drop (i + 1) shares)) (sym c.earlier-first.ensures)
    (found-more K bound rows s (drop (i + 1) shares) c.loop-share.first c.first.result found (λ stands. c.first.ensures.first bound rows stands))
