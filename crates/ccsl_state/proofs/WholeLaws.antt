-- The whole row of an accepted system: there is room for its regions, and what the trees and the counts become in a step.
use Rattle.std.proofs.lemmas.Grind.{common_steps}
use Rattle.std.proofs.Common.{◌≡◌, ℕ, suc, ◌+◌, ◌-◌, ◌*◌, ◌<◌, ◌≤◌, List, [], ◌∷◌, ◌++◌, length, take, drop, slice_get, refl, sym, ap, ap₂, subst, ◌∙◌, arith}
use Rattle.std.proofs.Common.{length-append, zero, map, max, sum, slice_index, slice_index_or, Some, None, append_assoc}
use Rattle.std.proofs.Math.Seq.{take-length}
use Rattle.ccsl_base.specs.declared.limits.TheConstants.{MAX_CELLS}
use Rattle.ccsl_base.specs.Clocks.{ticks_in}
use Rattle.ccsl_formula.specs.Formula.{eval}
use Rattle.ccsl_kernel.specs.Syntax.{Expression, System, definition_of, Body}
use Rattle.ccsl_kernel.specs.Cells.{cells_in, cells, greatest, group_cells, groups_cells, saturated}
use Rattle.ccsl_kernel.specs.Lives.{Step}
use Rattle.ccsl_kernel.specs.Accepted.{IsAccepted}
use Rattle.ccsl_kernel.proofs.Definitions.{definitions-are}
use Rattle.ccsl_kernel.proofs.AcceptedParts.{accepted_scoped}
use Rattle.ccsl_state.proofs.StateLaws.{put_other}
use Rattle.ccsl_state.specs.Tree.{Tree, next, formula_of, dead_of}
use Rattle.ccsl_state.specs.Moves.{gone_in}
use Rattle.ccsl_state.specs.Standing.{IsEnough}
use Rattle.ccsl_state.specs.States.{put, cells_from, next_all, deaths_from, derived_in, passed_all, trees_in, opened_all}
use Rattle.ccsl_state.specs.Below.{TreesBelow}
use Rattle.ccsl_state.specs.declared.layout.Layout.{Layout}
use Rattle.ccsl_state.specs.Whole.{IsWhole}
use Rattle.ccsl_state.specs.Ready.{HasRegions}
use Rattle.ccsl_state.specs.Held.{calls_of, trees_of, deaths_of, counts_of, derived_by, CellsCount, Advances}
use Rattle.ccsl_state.proofs.WithinLaws.{opening_within, next_within, next_same}
use Rattle.ccsl_state.proofs.Frame.{read_same}
use Rattle.ccsl_state.proofs.Regions.{behind_head, front_head, within, fewer}
use Rattle.std.proofs.lemmas.List.{append-nil, get_or_at, get_or-map, length-map, take-map, take_at}
use Rattle.std.proofs.lemmas.Option.{slice_get-get_or}
use Rattle.std.proofs.lemmas.List.Sums.{sum_by-cons}
use Rattle.ccsl_kernel.proofs.CellCounts.{capped_cells_in, capped_all}

-- The table of the cells of calls is enough.

-- the greatest one is no less than any
pub greatest_at : {A : Type 0} (f : A → ℕ) (xs : List A) (i : ℕ) (x : A) → slice_get xs i ≡ Some x → f x ≤ greatest (map f xs)
greatest_at f [] i x e = let z : ⊥ = cc in absurd z
greatest_at f (y ∷ xs) zero x e = let s : y ≡ x = cc in subst (λ z. f z ≤ max (f y) (greatest (map f xs))) s (omega arith)
greatest_at f (y ∷ xs) (suc i) x e = let r = greatest_at f xs i x e in omega arith

-- the table of the first groups stays
groups_front : (earlier : List ℕ) (gs : List (List Body)) → (more : List ℕ) × (groups_cells earlier gs ≡ earlier ++ more) × (length more ≡ length gs)
groups_front earlier [] = ([], sym (append-nil earlier), refl)
groups_front earlier (g ∷ gs) =
    let r = groups_front (earlier ++ group_cells earlier g ∷ []) gs in
    (group_cells earlier g ∷ r.0, r.1 ∙ append_assoc earlier (group_cells earlier g ∷ []) r.0, ap suc r.2)

-- each entry is the count of its group, from those before it
groups_at : (earlier : List ℕ) (gs : List (List Body)) (j k : ℕ) (members : List Body) → slice_get gs j ≡ Some members → k ≡ length earlier + j →
    slice_index (groups_cells earlier gs) k ≡ group_cells (take k (groups_cells earlier gs)) members
groups_at earlier [] j k members e at = let z : ⊥ = cc in absurd z
groups_at earlier (g ∷ gs) zero k members e at =
    let same : g ≡ members = cc in
    let here = group_cells earlier g in
    let r = groups_front (earlier ++ here ∷ []) gs in
    let is : groups_cells earlier (g ∷ gs) ≡ earlier ++ here ∷ r.0 = r.1 ∙ append_assoc earlier (here ∷ []) r.0 in
    let len : length earlier ≡ k = omega (arith, at) in
    ap (λ ns. slice_index ns k) is ∙ get_or_at earlier here r.0 0 k len ∙ ap₂ group_cells (sym (take_at earlier (here ∷ r.0) k len) ∙ ap (take k) (sym is)) same
groups_at earlier (g ∷ gs) (suc j) k members e at =
    groups_at (earlier ++ group_cells earlier g ∷ []) gs j k members e (let l = length-append earlier (group_cells earlier g ∷ []) in omega (arith, l, at))

pub table_len : (gs : List (List Body)) → length (map saturated (groups_cells [] gs)) ≡ length gs
table_len gs = let r = groups_front [] gs in length-map (groups_cells [] gs) saturated ∙ ap length r.1 ∙ r.2

pub table_enough : (K : System) → IsEnough K (map saturated (groups_cells [] K.groups))
table_enough K g l =
    let full = groups_cells [] K.groups in
    let few : g < length full = omega (arith, l, length-map full saturated) in
    let members = slice_index_or K.groups g [] in
    let has = slice_get-get_or K.groups g [] (omega (arith, l, table_len K.groups)) in
    let at : slice_index full g ≡ group_cells (take g full) members = groups_at [] K.groups g g members has (omega arith) in
    let entry = get_or-map saturated full g 0 0 few in (
      omega (arith, entry, at),
      λ m b is.
          let member : slice_get members m ≡ Some b = sym (ap (λ o. elim o [ None ↦ None | Some members ↦ slice_get members m ]) has) ∙ is in
          let p = greatest_at (λ (b : Body). length b.params) members m b member in
          let q = greatest_at (λ (b : Body). cells_in (take g full) b.root) members m b member in
          let c : saturated (cells_in (take g (map saturated full)) b.root) ≡ saturated (cells_in (take g full) b.root) =
          ap (λ ns. saturated (cells_in ns b.root)) (take-map saturated g full) ∙ capped_cells_in (take g full) b.root in
          omega (arith, entry, at, p, q, c),
    )

-- and the cells of all definitions by it are no more than the system's
sum_is : (earlier : List ℕ) (es : List Expression) → cells_from earlier es ≡ sum (map (cells_in earlier) es)
sum_is earlier [] = refl
sum_is earlier (e ∷ es) =
    ap (λ n. cells_in earlier e + n) (sum_is earlier es) ∙ sym (sum_by-cons (λ (x : ℕ). x) (cells_in earlier e) (map (cells_in earlier) es))

pub table_room : (K : System) → IsAccepted K → cells_from (map saturated (groups_cells [] K.groups)) K.definitions + 2 * length K.constraints ≤ cells K
table_room K ok =
    let full = groups_cells [] K.groups in
    let c = capped_all full K.definitions in
    let s = sum_is (map saturated full) K.definitions in
    let few = ok.few_cells in
    omega (arith, c, s, few)

-- the trees don't depend on what lies behind their regions
pub trees_same : (K : System) (earlier : List ℕ) (es : List Expression) (n : ℕ) (xs ys : List ℕ) → IsEnough K earlier → cells_from earlier es ≤ n
    → n ≤ MAX_CELLS
    → take n xs ≡ take n ys →
    trees_in K earlier es xs ≡ trees_in K earlier es ys
trees_same K earlier [] n xs ys enough room few same = refl
trees_same K earlier (e ∷ es) n xs ys enough room few same =
    let m = cells_in earlier e in
    ap₂ (λ t ts. t ∷ ts)
    (read_same K earlier e [] xs ys enough (omega arith) (fewer n m xs ys same (omega arith)))
    (trees_same K earlier es (n - m) (drop m xs) (drop m ys) enough (omega arith) (omega arith) (within n m (n - m) xs ys same (omega arith)))

-- THE TREES NAME LOWER CLOCKS
module _ (K : System) (ok : IsAccepted K) where
  opened-from : (x : ℕ) (es : List Expression) → ((j : ℕ) → slice_get es j ≡ definition_of K (x + j)) → TreesBelow x (opened_all K es)
  opened-from x [] h = tt
  opened-from x (e ∷ es) h = (
    opening_within (λ y. y < x) K (accepted_scoped K ok).bodies e []
        ((accepted_scoped K ok).definitions x e (sym (h 0 ∙ ap (definition_of K) (let z : x + 0 ≡ x = omega arith in z)))) tt,
    opened-from (suc x) es (λ j. h (suc j) ∙ ap (definition_of K) (let z : x + suc j ≡ suc x + j = omega arith in z)),
  )

  pub opened_below : TreesBelow K.declared (opened_all K K.definitions)
  opened_below = opened-from K.declared K.definitions (definitions-are K)

  pub nexts_below : (s : Step) (known : List ℕ) (x : ℕ) (ts : List Tree) → TreesBelow x ts → TreesBelow x (next_all K s known x ts)
  nexts_below s known x [] h = tt
  nexts_below s known x (t ∷ ts) h = (
    next_within (λ y. y < x) K (accepted_scoped K ok).bodies s (gone_in known) t h.0,
    nexts_below s (put (dead_of (gone_in known) (next K s (gone_in known) t)) x known) (suc x) ts h.1,
  )

-- THE FULL STEP ON THE WAY. What is derived from clock x on has the same lower clocks
pub derived-keeps : (ts : List Tree) (x : ℕ) (s : Step) (y : ℕ) → y < x → ticks_in y (derived_in ts x s) ≡ ticks_in y s
derived-keeps [] x s y l = refl
derived-keeps (t ∷ ts) x s y l = derived-keeps ts (suc x) (put (eval (formula_of t) s) x s) y (omega (arith, l))
    ∙ put_other (eval (formula_of t) s) x y s (λ e. omega (arith, e, l))

pub passed_is : (K : System) → IsAccepted K → (s : Step) (known : List ℕ) (x : ℕ) (ts : List Tree) → TreesBelow x ts
    → passed_all K s known x ts ≡ next_all K (derived_in ts x s) known x ts
passed_is K ok s known x [] h = refl
passed_is K ok s known x (t ∷ ts) h =
    let s' = derived_in (t ∷ ts) x s in
    let here : next K s (gone_in known) t ≡ next K s' (gone_in known) t =
    next_same (λ y. y < x) K (accepted_scoped K ok).bodies s s' (λ y l. sym (derived-keeps (t ∷ ts) x s y l)) (gone_in known) (gone_in known) (λ y l. refl)
    t h.0 in
    ap₂ (λ t' ts'. t' ∷ ts') here
    (passed_is K ok (put (eval (formula_of t) s) x s) (put (dead_of (gone_in known) (next K s (gone_in known) t)) x known) (suc x) ts h.1
    ∙ ap (λ t'. next_all K s' (put (dead_of (gone_in known) t') x known) (suc x) ts) here)

pub counts_behind : (front counts : List ℕ) (n : ℕ) → length counts ≡ n → drop (length (front ++ counts) - n) (front ++ counts) ≡ counts
counts_behind front counts n l = behind_head (length (front ++ counts) - n) front counts (omega (arith, l, length-append front counts))

-- WHAT THE TABLE OF CALLS OWES, where it is the system's
pub record HasCells (K : System) (C : List ℕ) : Type 0 where
  pub table : IsEnough K C
  pub groups : length C ≡ length K.groups
  pub room : cells_from C K.definitions + 2 * length K.constraints ≤ cells K
  pub few : cells K ≤ MAX_CELLS

pub ready_table : (K : System) (C : List ℕ) → IsAccepted K → C ≡ calls_of K → HasCells K C
ready_table K C ok is = subst (HasCells K) (sym is) (record { table = table_enough K; groups = table_len K.groups; room = table_room K ok; few = ok.few_cells })

-- THE REGIONS lie before the constraints' cells
pub whole_regions : (lay : Layout) (row front : List ℕ) → IsAccepted lay.system.now → IsWhole lay row → length front ≤ length row
    → length row ≤ length front + 2 * length lay.system.now.constraints → HasRegions lay 0 front
whole_regions lay row front ok whole most least =
    let ready = ready_table lay.system.now lay.earlier.now ok whole.calls in
    let room = ready.room in
    let few = ready.few in
    let size = whole.size in
    record { table = ready.table; groups = ready.groups; within = omega arith; room = omega arith; few = omega arith }

-- A ROW AFTER A STEP AND AT THE OPENING, from its two parts
pub record RowAdvanced (K : System) (row : List ℕ) (declared step gone : List ℕ) (row' : List ℕ) : Type 0 where
  pub derived : step ≡ derived_by (record { system = K; row = row }) declared
  pub next : Advances (record { system = K; row = row }) step (record { system = K; row = row' })
  pub deaths : gone ≡ deaths_of (record { system = K; row = row' })
  pub below : TreesBelow K.declared (trees_of (record { system = K; row = row' }))

pub record RowOpened (K : System) (row gone row' : List ℕ) : Type 0 where
  pub trees : trees_of (record { system = K; row = row' }) ≡ opened_all K K.definitions
  pub counts : counts_of (record { system = K; row = row' }) ≡ counts_of (record { system = K; row = row })
  pub deaths : gone ≡ deaths_of (record { system = K; row = row' })
  pub below : TreesBelow K.declared (trees_of (record { system = K; row = row' }))

module _ (K : System) (ok : IsAccepted K) (C : List ℕ) (is : C ≡ calls_of K) where
  -- the trees are those of the front
  pub trees_front : (front counts : List ℕ) → length counts ≡ 2 * length K.constraints → length (front ++ counts) ≡ cells K →
      trees_in K (calls_of K) K.definitions (front ++ counts) ≡ trees_in K C K.definitions front
  trees_front front counts l whole = grind (arith, common_steps, table_room, trees_same, table_enough, length-append, front_head, take-length)

  pub row_advances : (declared step gone front counts front' counts' row : List ℕ) → row ≡ front ++ counts → length front' ≡ length front
      → length counts ≡ 2 * length K.constraints → length counts' ≡ length counts → length row ≡ cells K
      → TreesBelow K.declared (trees_in K (calls_of K) K.definitions row) →
      trees_in K C K.definitions front' ≡ passed_all K declared [] K.declared (trees_in K C K.definitions front) →
      step ≡ derived_in (trees_in K C K.definitions front) K.declared declared → gone ≡ deaths_from [] K.declared (trees_in K C K.definitions front') →
      CellsCount K.constraints step counts counts' → RowAdvanced K row declared step gone (front' ++ counts')
  row_advances declared step gone front counts front' counts' row row_is same few same' whole below trees step_is gone_is counted =
      let old : trees_in K (calls_of K) K.definitions row ≡ trees_in K C K.definitions front =
      ap (trees_in K (calls_of K) K.definitions) row_is ∙ trees_front front counts few (ap length (sym row_is) ∙ whole) in
      let new = trees_front front' counts' (same' ∙ few)
      (let r = ap length row_is in omega (arith, same, same', whole, r, length-append front counts, length-append front' counts')) in
      let derived : step ≡ derived_in (trees_in K (calls_of K) K.definitions row) K.declared declared =
      step_is ∙ ap (λ ts. derived_in ts K.declared declared) (sym old) in
      let nexts : trees_in K (calls_of K) K.definitions (front' ++ counts')
      ≡ next_all K step [] K.declared (trees_in K (calls_of K) K.definitions row) =
      new ∙ trees ∙ ap (passed_all K declared [] K.declared) (sym old)
      ∙ passed_is K ok declared [] K.declared (trees_in K (calls_of K) K.definitions row) below
      ∙ ap (λ s. next_all K s [] K.declared (trees_in K (calls_of K) K.definitions row)) (sym derived) in
      let counts_at = λ (cells : List ℕ). drop (length cells - 2 * length K.constraints) cells in
      record {
        derived = derived;
        next = record {
          system = refl;
          trees = nexts;
          counts = subst (λ xs. CellsCount K.constraints step xs (counts_at (front' ++ counts')))
              (sym (ap counts_at row_is ∙ counts_behind front counts (2 * length K.constraints) few))
              (subst (CellsCount K.constraints step counts) (sym (counts_behind front' counts' (2 * length K.constraints) (same' ∙ few))) counted);
        };
        deaths = gone_is ∙ ap (deaths_from [] K.declared) (sym new);
        below = subst (TreesBelow K.declared) (sym nexts) (nexts_below K ok step [] K.declared (trees_in K (calls_of K) K.definitions row) below);
      }

  pub row_opens : (gone front counts front' row : List ℕ) → row ≡ front ++ counts → length front' ≡ length front → length counts ≡ 2 * length K.constraints
      → length row ≡ cells K →
      trees_in K C K.definitions front' ≡ opened_all K K.definitions → gone ≡ deaths_from [] K.declared (opened_all K K.definitions)
      → RowOpened K row gone (front' ++ counts)
  row_opens gone front counts front' row row_is same few whole trees gone_is =
      grind (arith, common_steps, length-append, trees_front, counts_behind, opened_below)
