use Rattle.std.proofs.Common.{◌≡◌, ℕ, ◌<◌, List, [], ◌∷◌, ◌++◌, All, Some, false, arith, rules, length-set, sym, ◌∙◌}
use Rattle.std.proofs.lemmas.List.Elements.{All-pop}
use Rattle.ccsl_refute.specs.declared.line.Lit.{Lit}
use Rattle.ccsl_guide.specs.declared.guide.Guide.{Guide}
use Rattle.ccsl_guide.specs.Fits.{item_count, clock_count}
use Rattle.ccsl_guide.proofs.guide.Guide.next.Goals as goal

-- the last of the items that wait, and of the literals that became false, with the others
item : (g : Guide) (ys : List ℕ) (x : ℕ) → g.items.items ≡ ys ++ x ∷ [] → All (λ i. i < item_count g) ys × (x < item_count g)
item g ys x e = All-pop (λ i. i < item_count g) g.items.items ys (Some x) e g.waiting

literal : (g : Guide) (ys : List Lit) (l : Lit) → g.falsified.items ≡ ys ++ l ∷ []
    → All (λ l. l.clock < clock_count g) ys × (l.clock < clock_count g)
literal g ys l e = All-pop (λ l. l.clock < clock_count g) g.falsified.items ys (Some l) e g.named

pub index_mut-requires : goal.index_mut-requires
index_mut-requires c =
    let popped = item c.loop-item.self c.pop.new.self.items c.in-Some-pop.item c.in-Some-pop.ensures.items in
    search (rules, popped.1)

pub bounds-problem-item : goal.bounds-problem-item
bounds-problem-item c =
    omega (arith, c.loop-item.invariant.items, (item c.loop-item.self c.pop.new.self.items c.in-Some-pop.item c.in-Some-pop.ensures.items).1)

pub visit-requires-clause-named : goal.visit-requires-clause-named
visit-requires-clause-named c =
    let popped = literal c.loop-lit.self c.pop-in-loop-lit.new.self.items c.in-Some-pop-2.lit c.in-Some-pop-2.ensures.items in
    omega (arith, c.loop-lit.invariant.clocks, popped.1)

pub invariant_of-self-then-branch : goal.invariant_of-self-then-branch
invariant_of-self-then-branch c =
    let popped = item c.loop-item.self c.pop.new.self.items c.in-Some-pop.item c.in-Some-pop.ensures.items in
    let same = length-set c.loop-item.self.is_waiting.items c.in-Some-pop.item false in
    record {
      clocks = c.loop-item.self.clocks;
      literals = c.loop-item.self.literals;
      read = λ k d l. omega (arith, same, c.loop-item.self.read k d l);
      waiting = λ k d l. omega (arith, same, popped.0 k d l);
      named = c.loop-item.self.named;
      given = c.loop-item.self.given ∙ sym same;
    }

pub invariant_of-self-in-Some-pop : goal.invariant_of-self-in-Some-pop
invariant_of-self-in-Some-pop c =
    let popped = item c.loop-item.self c.pop.new.self.items c.in-Some-pop.item c.in-Some-pop.ensures.items in
    let same = length-set c.loop-item.self.is_waiting.items c.in-Some-pop.item false in
    record {
      clocks = c.loop-item.self.clocks;
      literals = c.loop-item.self.literals;
      read = λ k d l. omega (arith, same, c.loop-item.self.read k d l);
      waiting = λ k d l. omega (arith, same, popped.0 k d l);
      named = c.loop-item.self.named;
      given = c.loop-item.self.given ∙ sym same;
    }

pub invariant_of-self-in-Some-pop-2 : goal.invariant_of-self-in-Some-pop-2
invariant_of-self-in-Some-pop-2 c = record {
  clocks = c.loop-lit.self.clocks;
  literals = c.visit.ensures ∙ c.loop-lit.self.literals;
  read = c.loop-lit.self.read;
  waiting = c.loop-lit.self.waiting;
  named = (literal c.loop-lit.self c.pop-in-loop-lit.new.self.items c.in-Some-pop-2.lit c.in-Some-pop-2.ensures.items).0;
  given = c.loop-lit.self.given;
}
