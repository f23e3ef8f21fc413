use Rattle.std.proofs.Common.{◌≡◌, ℕ, map, not, ◌&&◌, sym, ap, ◌∙◌}
use Rattle.std.proofs.lemmas.Bool.{and_parts}
use Rattle.ccsl_base.specs.Clocks.{ticks_in}
use Rattle.ccsl_base.proofs.Sets.{ticks_in-difference}
use Rattle.ccsl_vcd_read.specs.Marks.{aged}
use Rattle.ccsl_vcd_read.proofs.Kept.{marks-age}
use Rattle.ccsl_vcd_read.proofs.marks.Marks.age.Goals as goal

pub invariant_of-self : goal.invariant_of-self
invariant_of-self c =
    let left : (x : ℕ) → ticks_in x c.copy_from.new.self ≡ (ticks_in x c.self.inside.ones && not (ticks_in x c.self.inside.events)) =
    λ x. ap (ticks_in x) (c.copy_from.ensures ∙ c.copy_difference.ensures) ∙ ticks_in-difference c.self.inside.ones c.self.inside.events x in
    record {
      ascending = c.self.invariant.ascending;
      below = c.self.invariant.below;
      marked = c.self.invariant.marked;
      inside = λ x t. c.self.invariant.inside x (and_parts (ticks_in x c.self.inside.ones) (not (ticks_in x c.self.inside.events)) (sym (left x) ∙ t)).0;
      known = c.self.invariant.known;
    }

pub returns : goal.returns
returns c =
    let left : (x : ℕ) → ticks_in x c.copy_difference.new.self ≡ (ticks_in x c.self.inside.ones && not (ticks_in x c.self.inside.events)) =
    λ x. ap (ticks_in x) c.copy_difference.ensures ∙ ticks_in-difference c.self.inside.ones c.self.inside.events x in
    marks-age c.self.inside.ones c.self.inside.earlier c.copy_from.new.self c.copy_difference.new.self c.self.inside.events c.self.inside.slots.items
    c.self.invariant.marked
    (λ x. ap (ticks_in x) c.copy_from.ensures ∙ left x) left
    ∙ ap (map aged) c.self.view_is
