-- The sets that solve the items' formulas after a run: they are full steps, and their declared members are what is admissible.
use Rattle.std.proofs.Common.{◌≡◌, ◌≢◌, ℕ, suc, ◌+◌, ◌<◌, List, [], ◌∷◌, ◌++◌, length, map, Bool, true, false, Some, slice_get, if◌then◌else◌, refl, sym, ap}
use Rattle.std.proofs.Common.{◌∙◌, subst, arith}
use Rattle.std.proofs.lemmas.Bool.{and_parts}
use Rattle.std.proofs.lemmas.Option.{slice_get_within}
use Rattle.ccsl_base.specs.Clocks.{ticks_in, with_clock, is_ascending, are_below}
use Rattle.ccsl_base.proofs.Sets.{member-below, first-ticks}
use Rattle.ccsl_formula.specs.Formula.{eval, same, in_set}
use Rattle.ccsl_refute.specs.Meaning.{Blocks}
use Rattle.ccsl_kernel.specs.Syntax.{Expression, System, item_count}
use Rattle.ccsl_kernel.specs.Lives.{Step, step_at}
use Rattle.ccsl_kernel.specs.Meaning.{formula_at}
use Rattle.ccsl_kernel.specs.Items.{item_or_constraint, item_formula}
use Rattle.ccsl_kernel.specs.Accepted.{IsAccepted}
use Rattle.ccsl_kernel.specs.Runs.{IsAdmissible, derived_from, full_step, completed, declared_part}
use Rattle.ccsl_kernel.specs.Laws.{ExtendsToStep}
use Rattle.ccsl_kernel.proofs.AcceptedParts.{accepted_guarded, accepted_scoped}
use Rattle.ccsl_kernel.proofs.Admissible.{run_completed, admissible_extends, extended_admissible}
use Rattle.ccsl_kernel.proofs.Completion.{completed-append, declared-snoc}
use Rattle.ccsl_kernel.proofs.Definitions.{step_at-last}
use Rattle.ccsl_kernel.proofs.Sets.{ticks_in-below, below-below}
use Rattle.ccsl_items.specs.Formulas.{item_formulas, scope_of}
use Rattle.ccsl_items.specs.Laws.{IsNamedRun, IsSolution, IsFullStep}
use Rattle.ccsl_items.proofs.Sets.{with_clock-member, some-member}
use Rattle.ccsl_items.proofs.Satisfied.{all_true, each_true}
use Rattle.ccsl_items.proofs.Going.{run_more, named_more}

-- a step whose defined clocks tick as their formulas say is its own full step
settled : (K : System) (T : List Step) (es : List Expression) (x : ℕ) (u : Step) → is_ascending u ≡ true
    → ((j : ℕ) (e : Expression) → slice_get es j ≡ Some e → ticks_in (x + j) u ≡ eval (formula_at K T (x + j) e [] 0 (length T)) u)
    → derived_from K T es x u ≡ u
settled K T [] x u a h = refl
settled K T (e ∷ es) x u a h =
    let here : x + 0 ≡ x = omega arith in
    let first : ticks_in x u ≡ eval (formula_at K T x e [] 0 (length T)) u =
    subst (λ y. ticks_in y u ≡ eval (formula_at K T y e [] 0 (length T)) u) here (h 0 e refl) in
    ap (derived_from K T es (suc x)) (one (eval (formula_at K T x e [] 0 (length T)) u) first)
    ∙ settled K T es (suc x) u a
    (λ j f at. let next : x + suc j ≡ suc x + j = omega arith in subst (λ y. ticks_in y u ≡ eval (formula_at K T y f [] 0 (length T)) u) next (h (suc j) f at))
  where
    one : (t : Bool) → ticks_in x u ≡ t → (if t then with_clock x u else u) ≡ u
    one true t = with_clock-member x u a t
    one false t = refl

module _ (K : System) (ok : IsAccepted K) (T : List Step) (r : IsNamedRun K T) where
  module _ (u : Step) (h : IsSolution K T u) where
    pub solution_items : (i : ℕ) → i < item_count K → eval (item_formula K T (length T) i) u ≡ true
    solution_items = each_true (item_formula K T (length T)) (item_count K) (in_set u) h.solves.all

    ascending : is_ascending u ≡ true
    ascending = (and_parts (is_ascending u) (are_below (K.declared + length K.definitions) u) h.named).0

    -- the run with it is a run
    pub solution_run : IsNamedRun K (T ++ u ∷ [])
    solution_run = record { run = run_more K ok T u r.run solution_items; named = named_more K T u r.named h.named }

    defined : (j : ℕ) (e : Expression) → slice_get K.definitions j ≡ Some e
        → ticks_in (K.declared + j) u ≡ eval (formula_at K T (K.declared + j) e [] 0 (length T)) u
    defined j e at =
        let within : j < item_count K = (let l = slice_get_within K.definitions j e at in omega arith) in
        same_values (ticks_in (K.declared + j) u) (eval (formula_at K T (K.declared + j) e [] 0 (length T)) u)
        (ap (λ f. eval f u) (sym (ap (item_or_constraint K T (length T) j) at)) ∙ solution_items j within)
      where
        same_values : (a b : Bool) → same a b ≡ true → a ≡ b
        same_values true b h = sym h
        same_values false true h = let z : ⊥ = cc in absurd z
        same_values false false h = refl

    pub solution_full : IsFullStep K T u
    solution_full =
        let whole : T ++ full_step K T (declared_part K u) ∷ [] ≡ T ++ u ∷ [] =
        sym
        (completed-append K (map (declared_part K) T) (declared_part K u ∷ []) []
        ∙ ap (λ U. U ++ full_step K U (declared_part K u) ∷ []) (run_completed K (accepted_guarded K ok) (accepted_scoped K ok) T r.run r.named))
        ∙ ap (completed K) (sym (declared-snoc K T u))
        ∙ run_completed K (accepted_guarded K ok) (accepted_scoped K ok) (T ++ u ∷ []) solution_run.run solution_run.named in
        record {
          itself = settled K T K.definitions K.declared u ascending defined;
          declared = sym (step_at-last T (full_step K T (declared_part K u))) ∙ ap (λ U. step_at U (length T)) whole ∙ step_at-last T u;
        }

    pub solution_admissible : IsAdmissible K T (declared_part K u)
    solution_admissible =
        let m = h.solves.member in
        extended_admissible K (accepted_guarded K ok) (accepted_scoped K ok) T r.run r.named (declared_part K u)
        (some-member m.0 (declared_part K u) (ticks_in-below K.declared m.0 u m.1 ∙ m.2))
        (record { step = u; named = h.named; items = solution_items; declared = refl })

  -- a declared member of a step, where its declared part has one
  member_of : (u s : Step) → declared_part K u ≡ s → s ≢ [] → (x : ℕ) × (x < K.declared) × (ticks_in x u ≡ true)
  member_of u [] e ne = absurd (ne refl)
  member_of u (y ∷ ys) e ne =
      let there : ticks_in y (declared_part K u) ≡ true = ap (ticks_in y) e ∙ first-ticks y ys in
      let low = member-below K.declared (declared_part K u) y (below-below K.declared u) there in
      (y, low, sym (ticks_in-below K.declared y u low) ∙ there)

  pub admissible_solution : (s : Step) → IsAdmissible K T s → (u : Step) × IsSolution K T u × (declared_part K u ≡ s)
  admissible_solution s a =
      let e = admissible_extends K (accepted_guarded K ok) (accepted_scoped K ok) T r.run r.named s a in
      let x : ExtendsToStep K T s = e.1 in (
        x.step,
        record {
          named = x.named;
          solves = record {
            member = member_of x.step s x.declared e.0;
            all = all_true (item_formula K T (length T)) (item_count K) (in_set x.step) x.items;
          };
        },
        x.declared,
      )

  pub blocked_ends : Blocks (scope_of K) (item_formulas K T) → (s : Step) → IsAdmissible K T s → ⊥
  blocked_ends none s a = let q = admissible_solution s a in none q.0 q.1.solves
