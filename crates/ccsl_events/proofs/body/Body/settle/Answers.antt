use Rattle.std.proofs.Common.{◌≡◌, ℕ, Bool, true, false, ◌+◌, ◌-◌, ◌^◌, min, ◌++◌, if◌then◌else◌, refl, ap, ap₂, ◌∙◌}
use Rattle.std.specs.Int.{from_bool}
use Rattle.ccsl_events.specs.Dump.{row_of, has_row}
use Rattle.ccsl_events.proofs.Standing.{counted-more}
use Rattle.ccsl_events.proofs.body.Body.settle.Goals as goal

one-or-none : (b : Bool) → from_bool b ≡ (if b then 1 else 0)
one-or-none true = refl
one-or-none false = refl

pub returns : goal.returns
returns c plan p s = record {
  stands = record {
    keeps = (c.in_ok-has_row.ensures plan p.views s.keeps).keeps;
    amid = s.amid;
    dumping = s.dumping;
    recording = s.recording;
    now = s.now;
    skips = s.skips;
    times =
        c.saturating_add-self.ensures
        ∙ ap₂ (λ (n more : ℕ). min (n + more) (2 ^ 64 - 1)) s.times
        (c.from.ensures ∙ ap from_bool ((c.in_ok-has_row.ensures plan p.views s.keeps).is_one) ∙ one-or-none (has_row plan p.views))
        ∙ counted-more p.times (if has_row plan p.views then 1 else 0);
  };
  more = row_of plan p.now p.views;
  out = (c.in_ok-has_row.ensures plan p.views s.keeps).row ∙ ap (λ t. c.args.out.now.items ++ row_of plan t p.views) s.now;
  written = refl;
}
