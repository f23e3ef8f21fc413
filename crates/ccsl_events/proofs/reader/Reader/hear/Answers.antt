use Rattle.std.proofs.Common.{ℕ, ◌-◌, refl, ap, ◌∙◌, subst}
use Rattle.std.proofs.lemmas.Result.{err_from_is_err_and}
use Rattle.ccsl_events.specs.Standing.{Stands}
use Rattle.ccsl_events.proofs.Feeding.{same-body, no-body, says-kept}
use Rattle.ccsl_events.proofs.Opening.{same-reader, no-reader, said-kept}
use Rattle.ccsl_scopes.specs.Standing as header
use Rattle.ccsl_events.proofs.reader.Reader.hear.Goals as goal
use Rattle.ccsl_events.proofs.reader.Reader.hear.Goals.{in-Some+in_ok-hear, in_default+in-Some-heading+in_ok-self, in_default+in_default-heading}

pub returns-in_err-hear-clause-says : goal.returns-in_err-hear-clause-says
returns-in_err-hear-clause-says c plan p body has s =
    let e = err_from_is_err_and c.from_residual.result c.from_residual.ensures.1 in
    rw (e.1, e.2)
    (says-kept plan p _ c.hear.new.self _ _ _ _ _ _ _ refl (c.saturating_sub-at.ensures
    ∙ ap (λ (n : ℕ). c.args.self.now.taken - n) (c.len.ensures ∙ c.args.self.now.carry.ok.0)) c.as_slice-text.ensures.value
    (c.in_err-hear.ensures plan p (subst (Stands plan p) (same-body body c.in-Some.body c.args.self.now has c.in-Some.is) s)))

pub returns-clause-says : goal.returns-clause-says
returns-clause-says c plan p body has s =
    elim c.match-self.branch [
      | in-Some+in_ok-hear w ↦
          rw (w.self-is, w.out-is)
          (says-kept plan p _ w.hear.new.self _ _ _ _ _ _ _ refl (c.saturating_sub-at.ensures
          ∙ ap (λ (n : ℕ). c.args.self.now.taken - n) (c.len.ensures ∙ c.args.self.now.carry.ok.0)) c.as_slice-text.ensures.value
          (w.in_ok-hear.ensures plan p (subst (Stands plan p) (same-body body w.in-Some.body c.args.self.now has w.in-Some.is) s)))
      | in_default+in-Some-heading+in_ok-self w ↦ absurd (no-body body c.args.self.now has w.in_default.is)
      | in_default+in_default-heading w ↦ absurd (no-body body c.args.self.now has w.in_default.is)
    ]

pub returns-in_err-hear-clause-heads : goal.returns-in_err-hear-clause-heads
returns-in_err-hear-clause-heads c limits among h reads = absurd (no-body c.in-Some.body c.args.self.now c.in-Some.is reads.bodyless)

pub returns-in_err-self-clause-heads : goal.returns-in_err-self-clause-heads
returns-in_err-self-clause-heads c limits among h reads =
    let e = err_from_is_err_and c.from_residual-in_err-self.result c.from_residual-in_err-self.ensures.1 in
    let same = same-reader reads.reader c.in-Some-heading.heading c.args.self.now reads.has c.in-Some-heading.is in
    rw (e.1, e.2) (
      record {
        reader = c.hear-in-Some-heading.new.self;
        has = refl;
        bodyless = reads.bodyless;
        answers =
            said-kept limits h among _ _ _ _ _ _ (c.saturating_sub-at.ensures
            ∙ ap (λ (n : ℕ). c.args.self.now.taken - n) (c.len.ensures ∙ c.args.self.now.carry.ok.0)) c.as_slice-text.ensures.value
            (c.in_err-self.ensures limits h among (subst (header.Stands limits h among) same reads.stands));
      },
      refl,
    )

pub returns-clause-heads : goal.returns-clause-heads
returns-clause-heads c limits among h reads =
    elim c.match-self.branch [
      | in-Some+in_ok-hear w ↦ absurd (no-body w.in-Some.body c.args.self.now w.in-Some.is reads.bodyless)
      | in_default+in-Some-heading+in_ok-self w ↦
          let same = same-reader reads.reader w.in-Some-heading.heading c.args.self.now reads.has w.in-Some-heading.is in
          rw (w.self-is, w.out-is) (
            record {
              reader = w.hear-in-Some-heading.new.self;
              has = refl;
              bodyless = reads.bodyless;
              answers =
                  said-kept limits h among _ _ _ _ _ _ (c.saturating_sub-at.ensures
                  ∙ ap (λ (n : ℕ). c.args.self.now.taken - n) (c.len.ensures ∙ c.args.self.now.carry.ok.0)) c.as_slice-text.ensures.value
                  (w.in_ok-self.ensures limits h among (subst (header.Stands limits h among) same reads.stands));
            },
            refl,
          )
      | in_default+in_default-heading w ↦ absurd (no-reader reads.reader c.args.self.now reads.has w.in_default-heading.is)
    ]
