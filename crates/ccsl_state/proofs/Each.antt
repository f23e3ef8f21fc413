-- A definition's region, and those behind it.
use Rattle.std.proofs.lemmas.Grind.{common_steps}
use Rattle.std.proofs.Common.{rules, drop-cons, add-one, ◌≡◌, ℕ, zero, suc, ◌+◌, ◌<◌, ◌≤◌, List, [], ◌∷◌, ◌++◌, length, drop, true, false, Some, slice_get, sym}
use Rattle.std.proofs.Common.{ap, ap₂, subst, ◌∙◌, arith, ◌-◌, take, refl, Bool, not, slice_set}
use Rattle.std.proofs.lemmas.Option.{slice_get_within, get_or_from_slice_get}
use Rattle.ccsl_base.specs.declared.limits.TheConstants.{MAX_CELLS}
use Rattle.ccsl_formula.specs.Formula.{eval}
use Rattle.ccsl_kernel.specs.declared.actual.Actual.{Actual}
use Rattle.ccsl_kernel.specs.declared.expr.Expr.{Expr}
use Rattle.ccsl_kernel.specs.Syntax.{Expression, System}
use Rattle.ccsl_kernel.specs.Plain.{plain_expr}
use Rattle.ccsl_kernel.specs.Accepted.{IsAccepted, IsDefinition, Each}
use Rattle.ccsl_kernel.specs.Lives.{Step}
use Rattle.ccsl_kernel.proofs.AcceptedParts.{definition_ready}
use Rattle.ccsl_state.specs.declared.layout.Layout.{Layout}
use Rattle.ccsl_state.specs.Tree.{Tree, next, formula_of, dead_of, TNever}
use Rattle.ccsl_state.specs.Moves.{gone_in}
use Rattle.ccsl_state.specs.Layout.{read}
use Rattle.ccsl_state.specs.Standing.{Stands, is_own, IsEnough}
use Rattle.ccsl_state.specs.States.{put, cells_from, passed_all, trees_in, places_from}
use Rattle.ccsl_state.specs.Regions.{tree, trees_from, size, size_from, HasTable}
use Rattle.ccsl_state.specs.Ready.{IsReady, HasRegions, BeginsAt}
use Rattle.ccsl_state.proofs.Frame.{read_same}
use Rattle.ccsl_state.proofs.Places.{definition_stands, inner_stands, inner_not_own}
use Rattle.ccsl_state.proofs.Regions.{behind_head, front_kept, behind, fewer, within}
use Rattle.std.proofs.lemmas.List.{drop-drop}
use Rattle.ccsl_kernel.specs.Cells.{cells_in}
use Rattle.ccsl_base.specs.Clocks.{ticks_in}
use Rattle.ccsl_base.specs.Changes.{put_clock}
use Rattle.ccsl_state.specs.Passing.{tree_number}
use Rattle.ccsl_state.specs.Quiet.{is_settled}
use Rattle.ccsl_state.specs.Visits.{IsVisited}
use Rattle.ccsl_state.specs.Walks.{IsRewritten}

-- Where a definition's region begins, and the tree that it holds.

module _ (K : System) (earlier : List ℕ) where
  -- a definition that is there has room from its place on, and its tree is that in its region
  pub placed : (es : List Expression) (i k : ℕ) (e : Expression) (place : ℕ) (row : List ℕ) → slice_get es i ≡ Some e
      → slice_get (places_from earlier k es) i ≡ Some place →
      (place + cells_in earlier e ≤ k + cells_from earlier es)
      × ((d : ℕ) → place ≡ k + d → slice_get (trees_in K earlier es row) i ≡ Some (read K earlier e [] (drop d row))) × (k ≤ place)
  placed [] i k e place row is at = let z : ⊥ = cc in absurd z
  placed (e' ∷ es) zero k e place row is at = grind (arith, common_steps)
  placed (e' ∷ es) (suc i) k e place row is at =
      let r = placed es i (k + cells_in earlier e') e place (drop (cells_in earlier e') row) is at in (
        (let a = r.0 in omega arith),
        (λ d l.
            let n = cells_in earlier e' in
            let b = r.2 in
            let more : d ≡ n + (d - n) = omega (arith, b, l) in
            r.1 (d - n) (omega (arith, b, l)) ∙ ap (λ xs. Some (read K earlier e [] xs)) (drop-drop (d - n) n row ∙ ap (λ j. drop j row) (sym more))),
        (let b = r.2 in omega arith),
      )

module _ (earlier : List ℕ) where
  pub places_len : (k : ℕ) (es : List Expression) → length (places_from earlier k es) ≡ length es
  places_len k [] = refl
  places_len k (e ∷ es) = ap suc (places_len (k + cells_in earlier e) es)

  -- the places of the first definitions, and where the next one begins
  pub record PlacesSoFar (es : List Expression) (i : ℕ) (places : List ℕ) (place : ℕ) : Type 0 where
    pub first : places ≡ places_from earlier 0 (take i es)
    pub next : place ≡ cells_from earlier (take i es)

  -- one more
  pub next_place : (es : List Expression) (i : ℕ) (e : Expression) → slice_get es i ≡ Some e →
      (cells_from earlier (take (i + 1) es) ≡ cells_from earlier (take i es) + cells_in earlier e)
      × (cells_from earlier (take i es) + cells_in earlier e ≤ cells_from earlier es)
  next_place [] i e is = let z : ⊥ = cc in absurd z
  next_place (e' ∷ es) zero e is = grind (arith, common_steps)
  next_place (e' ∷ es) (suc i) e is = grind (arith, common_steps, next_place es i e is)

  pub places_more : (es : List Expression) (i k : ℕ) (e : Expression) → slice_get es i ≡ Some e →
      places_from earlier k (take (i + 1) es) ≡ places_from earlier k (take i es) ++ (k + cells_from earlier (take i es)) ∷ []
  places_more [] i k e is = let z : ⊥ = cc in absurd z
  places_more (e' ∷ es) zero k e is = ap (λ n. n ∷ []) (omega arith)
  places_more (e' ∷ es) (suc i) k e is = grind (arith, common_steps, places_more es i (k + cells_in earlier e') e is)

  pub more_places : (es : List Expression) (i : ℕ) (e : Expression) (places : List ℕ) (place size : ℕ) → slice_get es i ≡ Some e → PlacesSoFar es i places place
      → size ≡ cells_in earlier e →
      PlacesSoFar es (i + 1) (places ++ place ∷ []) (place + size)
  more_places es i e places place size is before at = grind (arith, common_steps, places_more, next_place)

at_place : (es : List Expression) (i : ℕ) (e : Expression) → slice_get es i ≡ Some e → drop i es ≡ e ∷ drop (i + 1) es
at_place es i e h = rw (add-one, drop-cons es i e (slice_get_within es i e h), get_or_from_slice_get es i e e h)

-- a definition's tree is passed, and then those behind it
pub passes : (K : System) (s : Step) (known : List ℕ) (x : ℕ) (t t' : Tree) (ts ts' : List Tree) (s' known' : List ℕ) → t' ≡ next K s (gone_in known) t →
    s' ≡ put (eval (formula_of t) s) x s → known' ≡ put (dead_of (gone_in known) t') x known → ts' ≡ passed_all K s' known' (suc x) ts
    → t' ∷ ts' ≡ passed_all K s known x (t ∷ ts)
passes K s known x t t' ts ts' s' known' here ticks dies there =
    ap₂ (λ t ts. t ∷ ts) here (there ∙ ap₂ (λ s known. passed_all K s known (suc x) ts) ticks (dies ∙ ap (λ t. put (dead_of (gone_in known) t) x known) here))

each_at : (K : System) (x : ℕ) (es : List Expression) (i : ℕ) (e : Expression) → Each (IsDefinition K) x es → slice_get es i ≡ Some e
    → IsDefinition K (x + i) e
each_at K x [] i e h is = let z : ⊥ = cc in absurd z
each_at K x (e' ∷ es) zero e h is = let s : e' ≡ e = cc in let n : x ≡ x + 0 = omega arith in subst (λ k. IsDefinition K k e) n (subst (IsDefinition K x) s h.0)
each_at K x (e' ∷ es) (suc i) e h is = let n : suc x + i ≡ x + suc i = omega arith in subst (λ k. IsDefinition K k e) n (each_at K (suc x) es i e h.1 is)

-- THE REGION OF A DEFINITION, and those behind it
pub outside : (lay : Layout) (own : ℕ) (e : Expr) (ρ : List Actual) (row : List ℕ) → IsReady lay true own e ρ row → IsReady lay false own e ρ row
outside lay own e ρ row r = grind (arith, common_steps, inner_stands)

definition_region : (lay : Layout) (i : ℕ) (e : Expr) (row : List ℕ) → HasTable lay → length lay.earlier.now ≡ length lay.system.now.groups
    → IsAccepted lay.system.now → slice_get lay.system.now.definitions i ≡ Some (plain_expr e) → size lay e ≤ length row → length row ≤ MAX_CELLS
    → IsReady lay true 0 e [] row
definition_region lay i e row table groups ok is room few =
    let K = lay.system.now in
    let d = each_at K K.declared K.definitions i (plain_expr e) ok.definitions is in
    let r = definition_ready K (K.declared + i) (plain_expr e) d in
    record {
      table = table;
      groups = omega arith;
      shallow = r.1;
      offsets = r.0;
      stands = subst (λ k. Stands K k true (plain_expr e)) (sym groups) (definition_stands K (K.declared + i) (plain_expr e) ok d);
      actuals = search rules;
      room = omega arith;
      few = few;
    }

pub record IsFirst (lay : Layout) (i : ℕ) (e : Expr) (row : List ℕ) : Type 0 where
  pub ready : IsReady lay true 0 e [] row
  pub outside : IsReady lay false 0 e [] row
  pub placed : is_own lay.system.now.words (length lay.earlier.now) (plain_expr e) [] ≡ false
  pub below : i < length lay.system.now.definitions
  pub split : drop i lay.system.now.definitions ≡ plain_expr e ∷ drop (i + 1) lay.system.now.definitions
  pub behind : (n : ℕ) (rest : List ℕ) → n ≡ size lay e → n + length rest ≡ length row → HasRegions lay (i + 1) rest

pub first_region : (lay : Layout) (i : ℕ) (e : Expr) (row : List ℕ) → HasRegions lay i row → IsAccepted lay.system.now
    → slice_get lay.system.now.definitions i ≡ Some (plain_expr e) → IsFirst lay i e row
first_region lay i e row has ok is =
    let K = lay.system.now in
    let split = at_place K.definitions i (plain_expr e) is in
    let few = has.few in
    let room : size lay e + size_from lay (i + 1) ≤ length row = subst (λ es. cells_from lay.earlier.now es ≤ length row) split has.room in
    let below = slice_get_within K.definitions i (plain_expr e) is in
    let ready = definition_region lay i e row has.table has.groups ok is (omega (arith, room)) few in
    record {
      ready = ready;
      outside = outside lay 0 e [] row ready;
      placed = inner_not_own K (length lay.earlier.now) K.words (plain_expr e) [] ready.stands;
      below = below;
      split = split;
      behind = λ n rest size_is len. record {
        table = has.table;
        groups = has.groups;
        within = omega (arith, below);
        room = omega (arith, room, size_is, len);
        few = omega (arith, few, len);
      };
    }

-- where its region has been rewritten, and those behind it then: the trees
pub record AreTrees (lay : Layout) (i : ℕ) (e : Expr) (row row' left rest : List ℕ) : Type 0 where
  pub old : trees_from lay i row ≡ tree lay e [] row ∷ trees_from lay (i + 1) rest
  pub new : (rest' : List ℕ) → trees_from lay i (left ++ rest') ≡ tree lay e [] row' ∷ trees_from lay (i + 1) rest'

pub first_trees : (lay : Layout) (i : ℕ) (e : Expr) (row row' left rest : List ℕ) → IsFirst lay i e row → row' ≡ left ++ rest → length left ≡ size lay e
    → drop (size lay e) row' ≡ drop (size lay e) row → AreTrees lay i e row row' left rest
first_trees lay i e row row' left rest first is len kept =
    let K = lay.system.now in
    let E = lay.earlier.now in
    let x = plain_expr e in
    let es = drop (i + 1) K.definitions in
    let few : size lay e ≤ MAX_CELLS = (let room = first.ready.room in let few = first.ready.few in omega arith) in
    record {
      old = ap (λ es. trees_in K E es row) first.split
          ∙ ap (λ r. read K E x [] row ∷ trees_in K E es r) (sym kept ∙ ap (drop (size lay e)) is ∙ behind_head (size lay e) left rest len);
      new = λ rest'.
          ap (λ es. trees_in K E es (left ++ rest')) first.split
          ∙ ap₂ (λ t row. t ∷ trees_in K E es row)
          (read_same K E x [] (left ++ rest') (left ++ rest) first.ready.table few (front_kept (size lay e) left rest' rest len) ∙ ap (read K E x []) (sym is))
          (behind_head (size lay e) left rest' len);
    }

-- THE REGION OF A DEFINITION AT ITS PLACE
pub record IsPlaced (lay : Layout) (i : ℕ) (e : Expr) (place : ℕ) (row : List ℕ) : Type 0 where
  pub room : place + size lay e ≤ length row
  pub ready : (region : List ℕ) → place + length region ≡ length row → IsReady lay true 0 e [] region
  pub tree_is : slice_get (trees_from lay 0 row) i ≡ Some (tree lay e [] (drop place row))

pub placed_region : (lay : Layout) (i : ℕ) (e : Expr) (place : ℕ) (row : List ℕ) → HasRegions lay 0 row → IsAccepted lay.system.now
    → slice_get lay.system.now.definitions i ≡ Some (plain_expr e) → BeginsAt lay i place → IsPlaced lay i e place row
placed_region lay i e place row has ok is at =
    let few = has.few in
    let all = has.room in
    let p = placed lay.system.now lay.earlier.now lay.system.now.definitions i 0 (plain_expr e) place row is at in
    let room : place + size lay e ≤ length row = (let r = p.0 in omega arith) in
    record {
      room = room;
      ready = λ region len. definition_region lay i e region has.table has.groups ok is (omega (arith, room, len)) (omega (arith, few, len));
      tree_is = p.1 place (omega arith);
    }

-- One definition's region rewritten at its place.

module _ (K : System) (earlier : List ℕ) (enough : IsEnough K earlier) where
  -- where a row changes in the region of one definition only, only its tree does
  pub trees_set : (es : List Expression) (i k d : ℕ) (e : Expression) (place : ℕ) (row row' : List ℕ) → cells_from earlier es ≤ MAX_CELLS
      → slice_get es i ≡ Some e
      → slice_get (places_from earlier k es) i ≡ Some place → place ≡ k + d → take d row' ≡ take d row
      → drop (d + cells_in earlier e) row' ≡ drop (d + cells_in earlier e) row →
      trees_in K earlier es row' ≡ slice_set (trees_in K earlier es row) i (read K earlier e [] (drop d row'))
  trees_set [] i k d e place row row' few is at far before after = let z : ⊥ = cc in absurd z
  trees_set (e' ∷ es) zero k d e place row row' few is at far before after =
      let same : e' ≡ e = cc in
      let here : k ≡ place = cc in
      let none : 0 ≡ d = omega (arith, here, far) in
      let size : cells_in earlier e' ≡ d + cells_in earlier e = (let s = ap (cells_in earlier) same in omega (arith, s, none)) in
      ap₂ (λ t ts. t ∷ ts)
      (ap₂ (λ x r. read K earlier x [] r) same (ap (λ n. drop n row') none))
      (ap (trees_in K earlier es) (ap (λ n. drop n row') size ∙ after ∙ ap (λ n. drop n row) (sym size)))
  trees_set (e' ∷ es) (suc i) k d e place row row' few is at far before after =
      let n = cells_in earlier e' in
      let m = cells_in earlier e in
      let low : k + n ≤ place = (placed K earlier es i (k + n) e place row is at).2 in
      let more : n + (d - n) ≡ d = omega (arith, low, far) in
      let past : n + (d - n + m) ≡ d + m = omega (arith, more) in
      ap₂ (λ t ts. t ∷ ts)
      (read_same K earlier e' [] row' row enough (omega (arith, few)) (fewer d n row' row before (omega (arith, more))))
      (trees_set es i (k + n) (d - n) e place (drop n row) (drop n row') (omega (arith, few)) is at (omega (arith, far, more))
      (within d n (d - n) row' row before (omega (arith, more)))
      (drop-drop (d - n + m) n row' ∙ ap (λ j. drop j row') past ∙ after ∙ sym (drop-drop (d - n + m) n row ∙ ap (λ j. drop j row) past))
      ∙ ap (λ r. slice_set (trees_in K earlier es (drop n row)) i (read K earlier e [] r)) (drop-drop (d - n) n row' ∙ ap (λ j. drop j row') more))

  -- A DEFINITION IS VISITED where its region is rewritten by the step
  module _ (i : ℕ) (e : Expression) (place : ℕ) (row left region region' : List ℕ) (s : Step) (known : List ℕ)
      (few : cells_from earlier K.definitions ≤ MAX_CELLS)
      (is : slice_get K.definitions i ≡ Some e)
      (at : slice_get (places_from earlier 0 K.definitions) i ≡ Some place) (split : row ≡ left ++ region) (len : length left ≡ place)
    where
      behind_left : drop place row ≡ region
      behind_left = ap (drop place) split ∙ behind_head place left region len

      pub visited_tree : tree_number (trees_in K earlier K.definitions row) i ≡ read K earlier e [] region
      visited_tree =
          get_or_from_slice_get (trees_in K earlier K.definitions row) i (read K earlier e [] (drop place row)) TNever
          ((placed K earlier K.definitions i 0 e place row is at).1 place (omega arith))
          ∙ ap (read K earlier e []) behind_left

      pub visited_trees : drop (cells_in earlier e) region' ≡ drop (cells_in earlier e) region
          → read K earlier e [] region' ≡ next K s (gone_in known) (read K earlier e [] region) →
          trees_in K earlier K.definitions (left ++ region') ≡ slice_set (trees_in K earlier K.definitions row) i
          (next K s (gone_in known) (tree_number (trees_in K earlier K.definitions row) i))
      visited_trees rest goes =
          trees_set K.definitions i 0 place e place row (left ++ region') few is at (omega arith)
          (front_kept place left region' region len ∙ ap (take place) (sym split))
          (behind place (cells_in earlier e) left region' len ∙ rest ∙ sym (behind place (cells_in earlier e) left region len)
          ∙ ap (drop (place + cells_in earlier e)) (sym split))
          ∙ ap (slice_set (trees_in K earlier K.definitions row) i)
          (ap (read K earlier e []) (behind_head place left region' len) ∙ goes ∙ ap (next K s (gone_in known)) (sym visited_tree))

-- what a visit answers, from what comes of the region at its place
pub visited_is : (lay : Layout) (enough : IsEnough lay.system.now lay.earlier.now) (i : ℕ) (e : Expr) (place : ℕ) (row left region region' : List ℕ) (s : Step)
    (known unsettled unsettled' : List ℕ) (tick dead settled : Bool) → cells_from lay.earlier.now lay.system.now.definitions ≤ MAX_CELLS
    → slice_get lay.system.now.definitions i ≡ Some (plain_expr e) → BeginsAt lay i place → row ≡ left ++ region → length left ≡ place
    → IsRewritten lay (tree lay e []) s known region region' (record { tick = tick; dead = dead; settled = settled })
    → drop (size lay e) region' ≡ drop (size lay e) region
    → ((p : ℕ) → ticks_in p unsettled' ≡ ticks_in p (put_clock i (not settled) unsettled))
    → IsVisited lay i row (left ++ region') s known unsettled unsettled' (record { tick = tick; dead = dead })
visited_is lay enough i e place row left region region' s known unsettled unsettled' tick dead settled few is at split len m rest entered =
    let K = lay.system.now in
    let same = visited_tree K lay.earlier.now enough i (plain_expr e) place row left region region' s known few is at split len in
    record {
      known = settled;
      tick = m.tick ∙ ap (λ t. eval (formula_of t) s) (sym same);
      dead = m.dead ∙ ap (dead_of (gone_in known)) (m.goes ∙ ap (next K s (gone_in known)) (sym same));
      settled = λ h. ap (λ t. is_settled (gone_in known) (next K s (gone_in known) t)) same ∙ m.settled h;
      entered = entered;
      trees = visited_trees K lay.earlier.now enough i (plain_expr e) place row left region region' s known few is at split len rest m.goes;
    }
