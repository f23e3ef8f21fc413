-- The region of a call in its parts: the member, the parameters' cells, and the body's region.
use Rattle.std.proofs.lemmas.Grind.{common_steps}
use Rattle.std.proofs.Common.{◌≡◌, ℕ, ◌<◌, ◌%◌, ◌^◌, List, ◌++◌, length, map, slice_index, Some, sym, ap₂, ◌∙◌, arith, ◌+◌, ◌≤◌, drop, take, false, None, refl}
use Rattle.std.proofs.Common.{ap, subst}
use Rattle.std.proofs.lemmas.List.{get_or_append_left, drop-drop, length-take-le}
use Rattle.ccsl_kernel.specs.declared.actual.Actual.{Actual}
use Rattle.ccsl_kernel.specs.declared.expr.Value.{Value}
use Rattle.ccsl_kernel.specs.Syntax.{Body, ECall, System, body_of, root_or_never}
use Rattle.ccsl_kernel.specs.Actuals.{value_of}
use Rattle.ccsl_kernel.proofs.GuardedCalls.{AreGuarded}
use Rattle.ccsl_state.specs.Tree.{opening, formula_of, dead_of}
use Rattle.ccsl_state.specs.Layout.{actual_of, read, region_of, read_body, read_call}
use Rattle.ccsl_state.proofs.TreeFollows.{opening_call}
use Rattle.ccsl_state.proofs.Regions.{behind_head, front_head, cell_same, front_kept, rest_one, within}
use Rattle.ccsl_base.specs.declared.limits.TheConstants.{MAX_CELLS}
use Rattle.ccsl_formula.specs.Formula.{eval}
use Rattle.ccsl_kernel.specs.declared.expr.Expr.{Expr}
use Rattle.ccsl_kernel.specs.Plain.{plain_expr}
use Rattle.ccsl_kernel.specs.Accepted.{IsAccepted}
use Rattle.ccsl_kernel.specs.Cells.{cells_in}
use Rattle.ccsl_kernel.specs.Deep.{deep}
use Rattle.ccsl_kernel.specs.Fit.{ActualsFit}
use Rattle.ccsl_kernel.specs.Fitting.{ExprFits, ValuesFit}
use Rattle.ccsl_kernel.specs.Lives.{Step}
use Rattle.ccsl_state.specs.declared.layout.Layout.{Layout}
use Rattle.ccsl_state.specs.declared.moved.Moved.{Moved}
use Rattle.ccsl_state.specs.Moves.{gone_in}
use Rattle.ccsl_state.specs.Quiet.{is_settled}
use Rattle.ccsl_state.specs.Standing.{Stands, IsCall, IsEnough}
use Rattle.ccsl_state.specs.Regions.{tree, call_tree, size, after, HasTable, HasRoom, newborn, IsBefore}
use Rattle.ccsl_state.specs.Ready.{IsReady, IsCallReady, IsCallBody, IsBirthReady}
use Rattle.ccsl_state.specs.Walks.{IsAdvanced, IsRewritten}
use Rattle.ccsl_state.proofs.Operands.{inside}
use Rattle.ccsl_state.proofs.Places.{ready_body, few_params}
use Rattle.ccsl_state.proofs.Frame.{enough_before, read_call_is, call_room}

pub first_cell : (head rest : List ℕ) → length head ≡ 1 → slice_index (head ++ rest) 0 ≡ slice_index head 0
first_cell head rest l = get_or_append_left head rest 0 0 (omega (arith, l))

pub small_mod : (n : ℕ) → n < 2 ^ 32 → n % 2 ^ 32 ≡ n
small_mod n l = omega (arith, l)

-- a call opens its member's body
pub call_opens : (K : System) → AreGuarded K → (b : Body) (member g : ℕ) (args : List Value) (ρ vals : List Actual) → g < length K.groups
    → body_of K.groups g member ≡ Some b → vals ≡ map (value_of K.words ρ) args →
    opening K b.root vals ≡ opening K (ECall g member args) ρ
call_opens K guarded b member g args ρ vals below is values =
    ap₂ (λ o vs. opening K (root_or_never o) vs) (sym is) values ∙ sym (opening_call K guarded g member args ρ below)

module _ (K : System) (earlier : List ℕ) where
  -- the tree of a call, where its member is there
  pub call_at : (head cells region row : List ℕ) (member g : ℕ) (b : Body) → row ≡ head ++ (cells ++ region) → length head ≡ 1
      → slice_index head 0 % 2 ^ 32 ≡ member → length earlier ≡ g →
      body_of K.groups g member ≡ Some b → length cells ≡ length b.params
      → region_of K earlier row ≡ read K earlier b.root (map (actual_of K.words) cells) region
  call_at head cells region row member g b row_is l at is_g is few = grind (arith, common_steps, first_cell, behind_head, front_head)

-- The body of a call in a region: behind the member's number lie the cells of its parameters, and then its own region.

-- what is owed for the region of the body of a member
pub body_ready : (lay : Layout) (g m own : ℕ) (b : Body) (e : Expr) (ρ : List Actual) (row : List ℕ) → HasTable lay → length lay.earlier.now ≡ g
    → g < length lay.system.now.groups → IsAccepted lay.system.now → body_of lay.system.now.groups g m ≡ Some b → b.root ≡ plain_expr e
    → ActualsFit lay.system.now.words ρ → own + cells_in lay.earlier.now b.root ≤ length row → length row ≤ MAX_CELLS → IsReady lay false own e ρ row
body_ready lay g m own b e ρ row table at below ok is root fit room few =
    let K = lay.system.now in
    let ready = ready_body K g m b ok is in
    let cells : size lay e ≡ cells_in lay.earlier.now b.root = ap (cells_in lay.earlier.now) (sym root) in
    record {
      table = table;
      groups = omega (arith, at, below);
      shallow = subst (λ x. deep x ≤ 129) root ready.shallow;
      offsets = subst (ExprFits K.words) root ready.offsets;
      stands = subst (λ k. Stands K k false (plain_expr e)) (sym at) (subst (Stands K g false) root ready.stands);
      actuals = fit;
      room = omega (arith, room, cells);
      few = few;
    }

-- THE BODY in the region of a call
pub call_body_is : (lay : Layout) (g m count : ℕ) (b : Body) (e : Expr) (ρ : List Actual) (row : List ℕ) → IsCallReady lay g row → IsAccepted lay.system.now
    → body_of lay.system.now.groups g m ≡ Some b → b.root ≡ plain_expr e → count ≡ length b.params → m ≡ slice_index row 0 % 2 ^ 32
    → ρ ≡ map (actual_of lay.system.now.words) (take count (drop 1 row)) → ActualsFit lay.system.now.words ρ → IsCallBody lay g e count ρ row
call_body_is lay g m count b e ρ row call ok is root params member stand fit =
    let K = lay.system.now in
    let E = lay.earlier.now in
    let few = few_params K g m b ok is in
    let cells : size lay e ≡ cells_in E b.root = ap (cells_in E) (sym root) in
    let room = call.room m b is in
    let all = call.few in
    let same : (row' : List ℕ) → take (1 + count) row' ≡ take (1 + count) row → call_tree lay row' ≡ tree lay e ρ (drop (1 + count) row') = λ row' kept.
    let first = cell_same (1 + count) 0 row' row kept (omega arith) in
    let params' = within (1 + count) 1 count row' row kept (omega arith) in
    ap (λ o. read_body K E (read_call K E (length E)) o (drop 1 row'))
    (ap₂ (body_of K.groups) call.group (ap (λ n. n % 2 ^ 32) first ∙ sym member) ∙ is)
    ∙ ap (λ n. read K E b.root (map (actual_of K.words) (take n (drop 1 row'))) (drop n (drop 1 row'))) (sym params)
    ∙ ap₂ (λ x vs. read K E x vs (drop count (drop 1 row'))) root (ap (map (actual_of K.words)) params' ∙ sym stand)
    ∙ ap (read K E (plain_expr e) ρ) (drop-drop count 1 row') in
    record {
      few = omega (arith, few, params);
      ready = body_ready lay g m (1 + count) b e ρ row call.table call.group call.groups ok is root fit (omega (arith, room, params)) call.few;
      tree_is = same row refl;
      same = same;
      room = λ n fits. let u = fits m b is in omega (arith, u, params, cells);
    }

-- ITS REGION REWRITTEN
module _ (lay : Layout) (g : ℕ) (root : Expr) (count : ℕ) (ρ : List Actual) (row left region region' : List ℕ) (body : IsCallBody lay g root count ρ row)
    (row_is : row ≡ left ++ region) (len : length left ≡ 1 + count) where
  pub body_moved : (s : Step) (gone : List ℕ) (r : Moved) → IsAdvanced lay ρ (tree lay root ρ) (size lay root) s gone region region' r → r.tail ≡ None
      → IsRewritten lay (call_tree lay) s gone row (left ++ region') (record { tick = r.tick; dead = r.dead; settled = r.settled })
  body_moved s gone r moved none =
      let own = 1 + count in
      let old : call_tree lay row ≡ tree lay root ρ region =
      body.tree_is ∙ ap (tree lay root ρ) (ap (drop own) row_is ∙ behind_head own left region len) in
      let new : call_tree lay (left ++ region') ≡ tree lay root ρ region' =
      body.same (left ++ region') (front_kept own left region' region len ∙ ap (take own) (sym row_is))
      ∙ ap (tree lay root ρ) (behind_head own left region' len) in
      let o = inside lay ρ (tree lay root ρ) (size lay root) s gone region region' r moved none in
      record {
        tick = o.tick ∙ ap (λ t. eval (formula_of t) s) (sym old);
        goes = new ∙ o.goes ∙ ap (after lay s gone) (sym old);
        dead = o.dead ∙ ap (dead_of (gone_in gone)) (sym new);
        settled = λ h. ap (λ t. is_settled (gone_in gone) (after lay s gone t)) old ∙ o.settled h;
      }

  pub body_rest : drop (size lay root) region' ≡ drop (size lay root) region → (n : ℕ) → HasRoom lay g n → drop n (left ++ region') ≡ drop n row
  body_rest kept n room = rest_one (1 + count) n (size lay root) left left region region' row row_is len len kept (body.room n room)

-- A call of an earlier group, seen from outside of its region.

module _ (K : System) (earlier : List ℕ) (group : ℕ) where
  call_read : (member : ℕ) (args : List Value) (ρ : List Actual) (row : List ℕ) → group < length earlier
      → read K earlier (ECall group member args) ρ row ≡ region_of K (take group earlier) row
  call_read member args ρ row below = grind (arith, common_steps, read_call_is)

  -- seen from its region
  region_read : (K' : System) (earlier' : List ℕ) (member : ℕ) (args : List Value) (ρ : List Actual) (row : List ℕ) → K' ≡ K → earlier' ≡ take group earlier
      → group < length earlier →
      region_of K' earlier' row ≡ read K earlier (ECall group member args) ρ row
  region_read K' earlier' member args ρ row k ns below = ap₂ (λ K ns. region_of K ns row) k ns ∙ sym (call_read member args ρ row below)

  -- its cells are enough
  site_room : IsEnough K earlier → group < length earlier → slice_index earlier group ≤ MAX_CELLS →
      (1 ≤ slice_index earlier group) × ((m : ℕ) (b : Body) → body_of K.groups group m ≡ Some b
      → 1 + length b.params + cells_in (take group earlier) b.root ≤ slice_index earlier group)
  site_room enough below few = grind (arith, common_steps, call_room, length-take-le)

-- THE REGION OF A CALL, seen from the expression and from the place of its group
pub record IsSite (lay before : Layout) (e : Expr) (ρ : List Actual) (group : ℕ) (row : List ℕ) : Type 0 where
  pub ready : IsCallReady before group row
  pub same : (row : List ℕ) → call_tree before row ≡ tree lay e ρ row
  pub room : HasRoom before group (size lay e)

pub site : {lay before : Layout} {e : Expr} {group member : ℕ} {args : List Value} {ρ : List Actual} {row : List ℕ} → IsReady lay false 0 e ρ row
    → plain_expr e ≡ ECall group member args → group < length lay.earlier.now → IsBefore lay group before → IsSite lay before e ρ group row
site {lay} {before} {e} {group} {member} {args} {ρ} {row} ready is below at =
    let K = lay.system.now in
    let E = lay.earlier.now in
    let few = ready.few in
    let room = ready.room in
    let groups = ready.groups in
    let size_is : size lay e ≡ slice_index E group = ap (cells_in E) is in
    let r = site_room K E group ready.table below (omega (arith, size_is, room, few)) in
    let fits : HasRoom before group (size lay e) = λ m b is.
    subst (λ ns. 1 + length b.params + cells_in ns b.root ≤ size lay e) (sym at.earlier)
    (let p = r.1 m b (subst (λ K. body_of K.groups group m ≡ Some b) at.system is) in omega (arith, p, size_is)) in
    record {
      ready = record {
        table = subst (IsEnough before.system.now) (sym at.earlier)
            (subst (λ K. IsEnough K (take group E)) (sym at.system) (enough_before K E group (omega (arith, below)) ready.table));
        group = ap length at.earlier ∙ length-take-le group E (omega (arith, below));
        groups = subst (λ K. group < length K.groups) (sym at.system) (omega (arith, groups, below));
        some = (let p = r.0 in omega (arith, p, size_is, room));
        room = λ m b is. let p = fits m b is in omega (arith, p, room);
        few = few;
      };
      same = λ row. region_read K E group before.system.now before.earlier.now member args ρ row at.system at.earlier below
          ∙ ap (λ x. read K E x ρ row) (sym is);
      room = fits;
    }

-- at its birth, with the values of its arguments
pub record IsBirthSite (lay before : Layout) (e : Expr) (ρ : List Actual) (group member : ℕ) (args : List Value) (row : List ℕ) : Type 0 where
  pub ready : IsBirthReady before group member args ρ row
  pub born : opening before.system.now (ECall group member args) ρ ≡ newborn lay e ρ

pub birth_site : {lay before : Layout} {e : Expr} {group member : ℕ} {args values : List Value} {ρ : List Actual} {row : List ℕ}
    → IsReady lay false 0 e ρ row → plain_expr e ≡ ECall group member args → group < length lay.earlier.now → IsBefore lay group before → values ≡ args
    → IsBirthSite lay before e ρ group member values row
birth_site {lay} {before} {e} {group} {member} {args} {values} {ρ} {row} ready is below at same =
    let K = lay.system.now in
    let s = site ready is below at in
    let call = subst (Stands K (length lay.earlier.now) false) is ready.stands in
    let fits = subst (ExprFits K.words) is ready.offsets in
    record {
      ready = record {
        table = s.ready.table;
        group = s.ready.group;
        groups = s.ready.groups;
        is = subst (IsCall before.system.now group member) (sym same) (subst (λ K. IsCall K group member args) (sym at.system) call.1);
        fits = subst (ValuesFit before.system.now.words) (sym same) (subst (λ (K : System). ValuesFit K.words args) (sym at.system) fits);
        actuals = subst (λ (K : System). ActualsFit K.words ρ) (sym at.system) ready.actuals;
        room = s.ready.room member;
        few = s.ready.few;
      };
      born = ap₂ (λ K vs. opening K (ECall group member vs) ρ) at.system same ∙ ap (λ x. opening K x ρ) (sym is);
    }
