use Rattle.std.proofs.Common.{Ok, sym, ap, ◌∙◌, subst, arith, length, rules}
use Rattle.ccsl_bind.specs.Gathered.{Collected, StandsFor, Refuses}
use Rattle.ccsl_bind.specs.Slots.{clocks_from}
use Rattle.ccsl_vcd.specs.Binding.{bind}
use Rattle.ccsl_bind.proofs.Gathering.{same-length}
use Rattle.ccsl_bind.proofs.Binds.{numbered, all-bound, all-refused}
use Rattle.ccsl_bind.proofs.binder.Binder.close.Goals as goal

pub bound_clocks-requires : goal.bound_clocks-requires
bound_clocks-requires c =
    let s = c.requires.2 in
    let l = same-length _ _ _ _ s.found in
    omega (arith, l, s.few, ap length c.as_slice.ensures.value, ap (λ (x : Collected). length x.found) c.self.view_is)

pub new-requires-clause-clocks : goal.new-requires-clause-clocks
new-requires-clause-clocks c =
    let s = subst (λ (x : Collected). StandsFor c.requires.0 x c.requires.1) (sym c.self.view_is) c.requires.2 in
    (all-bound _ c.self.inside.codes c.requires.1 c.self.inside.found.items c.in-Ok.bound s.found
    (ap (clocks_from 0 c.self.inside.declared) (sym c.as_slice.ensures.value) ∙ c.in-Ok.ensures)).1

pub new-requires-clause-numbers : goal.new-requires-clause-numbers
new-requires-clause-numbers c =
    let s = subst (λ (x : Collected). StandsFor c.requires.0 x c.requires.1) (sym c.self.view_is) c.requires.2 in
    numbered c.self.inside.codes c.requires.1 _ c.self.inside.found.items s.found

pub returns-clause-bound : goal.returns-clause-bound
returns-clause-bound c = λ wanted ds t.
    let s = subst (λ (x : Collected). StandsFor wanted x ds) (sym c.self.view_is) t in
    ap (λ w. bind w ds) (sym s.wanted)
    ∙ (all-bound _ c.self.inside.codes ds c.self.inside.found.items c.in-Ok.bound s.found
    (ap (clocks_from 0 c.self.inside.declared) (sym c.as_slice.ensures.value) ∙ c.in-Ok.ensures)).0
    ∙ ap (λ v. Ok v.bound) (sym c.new.ensures)

pub returns-in-Err-clause-refuses : goal.returns-in-Err-clause-refuses
returns-in-Err-clause-refuses c = λ wanted ds t.
    let s = subst (λ (x : Collected). StandsFor wanted x ds) (sym c.self.view_is) t in
    subst (λ w. Refuses c.in-Err.fault (bind w ds)) s.wanted
    (all-refused _ c.self.inside.codes ds c.self.inside.found.items c.in-Err.fault s.found
    (ap (clocks_from 0 c.self.inside.declared) (sym c.as_slice.ensures.value) ∙ c.in-Err.ensures))

pub returns-clause-refuses : goal.returns-clause-refuses
returns-clause-refuses c = search rules
