-- The list of the admissible sets has each of them, and no others.
use Rattle.std.proofs.Common.{◌≡◌, ◌≢◌, List, [], ◌∷◌, ◌++◌, map, length, true, not, refl}
use Rattle.std.specs.List.{list_all}
use Rattle.std.proofs.lemmas.Bool.{and_parts, and_from}
use Rattle.ccsl_base.specs.Clocks.{is_ascending, are_below}
use Rattle.ccsl_kernel.specs.Syntax.{System, item_count}
use Rattle.ccsl_kernel.specs.Lives.{Step, steps}
use Rattle.ccsl_kernel.specs.Runs.{holds_at, IsRun, IsAdmissible, completed, declared_part}
use Rattle.ccsl_items.specs.Admissible.{sets_below, is_run, is_admissible, admissible_sets}
use Rattle.ccsl_base.specs.Empty.{is_empty}
use Rattle.ccsl_items.proofs.Among.{Among, among-filter, filter-among}
use Rattle.ccsl_items.proofs.Numbers.{each_below, all_below}
use Rattle.ccsl_items.proofs.SetsBelow.{IsSetBelow, set-among, among-set}

run-is : (K : System) (T : List Step) → is_run K T ≡ true → IsRun K T
run-is K T h n i l j =
    each_below (holds_at K T n) (item_count K) (each_below (λ k. list_all (holds_at K T k) (steps 0 (item_count K))) (length T) h n l) i j

is-run : (K : System) (T : List Step) → IsRun K T → is_run K T ≡ true
is-run K T h =
    all_below (λ k. list_all (holds_at K T k) (steps 0 (item_count K))) (length T)
    (λ n l. all_below (holds_at K T n) (item_count K) (λ i j. h n i l j))

not-empty : (s : Step) → s ≢ [] → not (is_empty s) ≡ true
not-empty [] h = absurd (h refl)
not-empty (x ∷ s) h = refl

empty-not : (s : Step) → not (is_empty s) ≡ true → s ≢ []
empty-not [] h e = absurd (cc)
empty-not (x ∷ s) h e = absurd (cc)

pub is-admissible : (K : System) (T : List Step) (s : Step) → IsAdmissible K T s → Among s (admissible_sets K T)
is-admissible K T s h =
    let d = and_parts (is_ascending s) (are_below K.declared s) h.declared in
    let next = completed K (map (declared_part K) T ++ s ∷ []) in
    among-filter (is_admissible K T) s (sets_below K.declared) (set-among K.declared s (record { ascending = d.0; below = d.1 }))
    (and_from (not (is_empty s)) (is_run K next) (not-empty s h.nonempty) (is-run K next h.run))

pub admissible-set : (K : System) (T : List Step) (s : Step) → Among s (admissible_sets K T) → IsSetBelow K.declared s
admissible-set K T s a = among-set K.declared s (filter-among (is_admissible K T) s (sets_below K.declared) a).0

pub admissible-is : (K : System) (T : List Step) (s : Step) → Among s (admissible_sets K T) → IsAdmissible K T s
admissible-is K T s a =
    let q = filter-among (is_admissible K T) s (sets_below K.declared) a in
    let d = among-set K.declared s q.0 in
    let next = completed K (map (declared_part K) T ++ s ∷ []) in
    let parts = and_parts (not (is_empty s)) (is_run K next) q.1 in
    record {
      nonempty = empty-not s parts.0;
      declared = and_from (is_ascending s) (are_below K.declared s) d.ascending d.below;
      run = run-is K next parts.1;
    }
