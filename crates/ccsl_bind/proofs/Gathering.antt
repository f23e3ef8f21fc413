-- What is kept of the candidates of each name, declaration by declaration.
use Rattle.std.proofs.Common.{◌≡◌, ℕ, suc, ◌≤◌, ◌<◌, List, [], ◌∷◌, ◌++◌, length, Bool, true, false, not, nat_lt, nat_eq, ◌&&◌, ◌||◌, cond, Option, Some, None}
use Rattle.std.proofs.Common.{min, filter, get_or, refl, sym, ap, ◌∙◌, subst, arith}
use Rattle.std.specs.Prelude.{bytes_eq}
use Rattle.std.specs.Option.{option_map}
use Rattle.std.specs.List.{list_all, AllByRecursion}
use Rattle.std.proofs.Math.ListN.{set}
use Rattle.std.proofs.lemmas.Bool.{ltb-true, ltb-false, eq-eqb, and_right, not-true, and_parts}
use Rattle.std.proofs.lemmas.List.{append-nil}
use Rattle.std.proofs.lemmas.List.Elements.{filter-append}
use Rattle.std.proofs.lemmas.Grind.{common_steps}
use Rattle.ccsl_base.specs.Names.{is_among, find_name, are_distinct}
use Rattle.ccsl_base.proofs.Tables.{bytes_eq-true, bytes_eq-refl, bytes_eq-comm}
use Rattle.ccsl_vcd.specs.Binding.{Declaration, is_event, qualifies, least_depth, outermost, candidates}
use Rattle.ccsl_bind.specs.declared.candidate.Candidates.{Candidates}
use Rattle.ccsl_bind.specs.Codes.{number_of}
use Rattle.ccsl_bind.specs.Candidates.{with_one, noted, Sums, SumsUp, AllSumUp, may_bind}
use Rattle.ccsl_bind.proofs.Codes.{same-number}
use Rattle.ccsl_bind.proofs.Finding.{position-cons, not-among}
use Rattle.ccsl_vcd.proofs.RowLaws.{not-eq'}

abbrev Deep : ℕ → List Declaration → Type 0
Deep n ds = AllByRecursion (λ e. n ≤ e.depth) ds

deep-more : (n m : ℕ) (ds : List Declaration) → n ≤ m → Deep m ds → Deep n ds
deep-more n m [] h a = tt
deep-more n m (d ∷ ds) h a = (omega (arith, a.0), deep-more n m ds h a.1)

least-below : (x : Declaration) (xs : List Declaration) → Deep (least_depth x xs) (x ∷ xs)
least-below x [] = (omega arith, tt)
least-below x (y ∷ ys) =
    let m : min x.depth (least_depth y ys) ≤ x.depth = omega arith in
    let k : min x.depth (least_depth y ys) ≤ least_depth y ys = omega arith in
    (m, deep-more (min x.depth (least_depth y ys)) (least_depth y ys) (y ∷ ys) k (least-below y ys))

least-more : (x : Declaration) (xs : List Declaration) (d : Declaration) → least_depth x (xs ++ d ∷ []) ≡ min (least_depth x xs) d.depth
least-more x [] d = refl
least-more x (y ∷ ys) d = ap (min x.depth) (least-more y ys d) ∙ assoc x.depth (least_depth y ys) d.depth
  where
    assoc : (a b c : ℕ) → min a (min b c) ≡ min (min a b) c
    assoc a b c = omega arith

none-at : (m n : ℕ) (ds : List Declaration) → m < n → Deep n ds → filter (λ e. nat_eq e.depth m) ds ≡ []
none-at m n [] h a = refl
none-at m n (d ∷ ds) h a = rw (not-eq' m d.depth (omega (arith, a.0))) (none-at m n ds h a.1)

-- the outermost declarations begin with one of the least depth
pub record First (m : ℕ) (ds : List Declaration) : Type 0 where
  pub one : Declaration
  pub rest : List Declaration
  pub is : filter (λ e. nat_eq e.depth m) ds ≡ one ∷ rest
  pub depth : one.depth ≡ m

first : (x : Declaration) (xs : List Declaration) → First (least_depth x xs) (x ∷ xs)
first x [] = record { one = x; rest = []; is = rw (eq-eqb x.depth x.depth refl) refl; depth = refl }
first x (y ∷ ys) = go (nat_eq x.depth (min x.depth (least_depth y ys))) refl (first y ys)
  where
    go : (w : Bool) → nat_eq x.depth (min x.depth (least_depth y ys)) ≡ w → First (least_depth y ys) (y ∷ ys)
        → First (min x.depth (least_depth y ys)) (x ∷ y ∷ ys)
    go true e f = record {
      one = x;
      rest = filter (λ z. nat_eq z.depth (min x.depth (least_depth y ys))) (y ∷ ys);
      is = ap (λ w. cond w (x ∷ filter (λ z. nat_eq z.depth (min x.depth (least_depth y ys))) (y ∷ ys))
          (filter (λ z. nat_eq z.depth (min x.depth (least_depth y ys))) (y ∷ ys))) e;
      depth = grind (arith, common_steps);
    }
    go false e f =
        let same : min x.depth (least_depth y ys) ≡ least_depth y ys = grind (arith, common_steps) in
        record {
          one = f.one;
          rest = f.rest;
          is = ap (λ w. cond w (x ∷ filter (λ z. nat_eq z.depth (min x.depth (least_depth y ys))) (y ∷ ys))
              (filter (λ z. nat_eq z.depth (min x.depth (least_depth y ys))) (y ∷ ys))) e
              ∙ ap (λ m. filter (λ z. nat_eq z.depth m) (y ∷ ys)) same ∙ f.is;
          depth = f.depth ∙ sym same;
        }

list_all-snoc : (p : Declaration → Bool) (xs : List Declaration) (d : Declaration) → list_all p (xs ++ d ∷ []) ≡ (list_all p xs && p d)
list_all-snoc p [] d = elim (p d) as (λ w. (w && true) ≡ (true && w)) [ true ↦ refl | false ↦ refl ]
list_all-snoc p (x ∷ xs) d =
    elim (p x) as (λ w. (w && list_all p (xs ++ d ∷ [])) ≡ ((w && list_all p xs) && p d)) [ true ↦ list_all-snoc p xs d | false ↦ refl ]

-- One more declaration behind candidates of which the first is known.
module _ (table : List (List ℕ)) (x : Declaration) (xs : List Declaration) (d : Declaration) (n : ℕ) (e : number_of d.code table ≡ Some n)
    (g : First (least_depth x xs) (x ∷ xs)) (k : Candidates) (q : Sums table g.one g.rest k) where
  low : least_depth x xs ≡ k.depth
  low = sym (q.depth ∙ g.depth)

  whole : (m : ℕ) → min (least_depth x xs) d.depth ≡ m
      → outermost ((x ∷ xs) ++ d ∷ []) ≡ filter (λ z. nat_eq z.depth m) (x ∷ xs) ++ cond (nat_eq d.depth m) (d ∷ []) []
  whole m h = ap (λ i. filter (λ z. nat_eq z.depth i) ((x ∷ xs) ++ d ∷ [])) (least-more x xs d ∙ h) ∙ filter-append (λ z. nat_eq z.depth m) (x ∷ xs) (d ∷ [])

  abbrev Goal : Candidates → Type 0
  Goal c = SumsUp table (outermost ((x ∷ xs) ++ d ∷ [])) (Some c)

  deeper : k.depth < d.depth → Goal k
  deeper l =
      let e1 : least_depth x xs ≡ k.depth = low in
      let m : min (least_depth x xs) d.depth ≡ least_depth x xs = omega arith in
      let ne : nat_eq d.depth (least_depth x xs) ≡ false = not-eq' (least_depth x xs) d.depth (omega arith) in
      let all : outermost ((x ∷ xs) ++ d ∷ []) ≡ g.one ∷ g.rest =
      whole (least_depth x xs) m ∙ ap (λ zs. zs ++ cond (nat_eq d.depth (least_depth x xs)) (d ∷ []) []) g.is
      ∙ ap (λ w. (g.one ∷ g.rest) ++ cond w (d ∷ []) []) ne ∙ append-nil (g.one ∷ g.rest) in
      subst (λ ds. SumsUp table ds (Some k)) (sym all) q

  shallower : d.depth < k.depth → Goal (record { depth = d.depth; code = n; event = is_event d; same = true })
  shallower l =
      let e1 : least_depth x xs ≡ k.depth = low in
      let m : min (least_depth x xs) d.depth ≡ d.depth = omega arith in
      let none : filter (λ z. nat_eq z.depth d.depth) (x ∷ xs) ≡ [] = none-at d.depth (least_depth x xs) (x ∷ xs) (omega arith) (least-below x xs) in
      let all : outermost ((x ∷ xs) ++ d ∷ []) ≡ d ∷ [] =
      whole d.depth m ∙ ap (λ zs. zs ++ cond (nat_eq d.depth d.depth) (d ∷ []) []) none ∙ ap (λ w. cond w (d ∷ []) []) (eq-eqb d.depth d.depth refl) in
      subst (λ ds. SumsUp table ds (Some (record { depth = d.depth; code = n; event = is_event d; same = true }))) (sym all)
      (record { depth = refl; code = e; event = refl; same = refl })

  level : d.depth ≡ k.depth → Goal (record { depth = k.depth; code = k.code; event = k.event; same = k.same && nat_eq n k.code })
  level l =
      let e1 : least_depth x xs ≡ k.depth = low in
      let m : min (least_depth x xs) d.depth ≡ least_depth x xs = omega arith in
      let eq : nat_eq d.depth (least_depth x xs) ≡ true = eq-eqb d.depth (least_depth x xs) (omega arith) in
      let all : outermost ((x ∷ xs) ++ d ∷ []) ≡ g.one ∷ (g.rest ++ d ∷ []) =
      whole (least_depth x xs) m ∙ ap (λ zs. zs ++ cond (nat_eq d.depth (least_depth x xs)) (d ∷ []) []) g.is
      ∙ ap (λ w. (g.one ∷ g.rest) ++ cond w (d ∷ []) []) eq in
      let p : Declaration → Bool = λ z. bytes_eq z.code g.one.code in
      let codes_same : nat_eq n k.code ≡ bytes_eq d.code g.one.code = same-number table g.one.code d.code k.code n q.code e ∙ bytes_eq-comm g.one.code d.code in
      subst (λ ds. SumsUp table ds (Some (record { depth = k.depth; code = k.code; event = k.event; same = k.same && nat_eq n k.code }))) (sym all) (record {
        depth = q.depth;
        code = q.code;
        event = q.event;
        same = ap (λ w. w && nat_eq n k.code) q.same ∙ ap (λ w. list_all p g.rest && w) codes_same ∙ sym (list_all-snoc p g.rest d);
      })

  pub joined-by : Goal (with_one k d.depth n (is_event d))
  joined-by =
      (elim (nat_lt k.depth d.depth) as (λ w. nat_lt k.depth d.depth ≡ w
      → Goal (cond w k (cond (nat_lt d.depth k.depth) (record { depth = d.depth; code = n; event = is_event d; same = true })
      (record { depth = k.depth; code = k.code; event = k.event; same = k.same && nat_eq n k.code })))) [
        | true ↦ λ h. deeper (ltb-true k.depth d.depth h)
        | false ↦ λ h. (elim (nat_lt d.depth k.depth) as (λ w. nat_lt d.depth k.depth ≡ w
            → Goal (cond w (record { depth = d.depth; code = n; event = is_event d; same = true })
            (record { depth = k.depth; code = k.code; event = k.event; same = k.same && nat_eq n k.code }))) [
              | true ↦ λ i. shallower (ltb-true d.depth k.depth i)
              | false ↦ λ i. let a : d.depth ≤ k.depth = ltb-false k.depth d.depth h in let b : k.depth ≤ d.depth =
                  ltb-false d.depth k.depth i in level (omega arith)
            ]) refl
      ]) refl

-- One more declaration that qualifies.
one-more : (table : List (List ℕ)) (f : List Declaration) (d : Declaration) (o : Option Candidates) (n : ℕ) → number_of d.code table ≡ Some n
    → SumsUp table (outermost f) o
    → SumsUp table (outermost (f ++ d ∷ [])) (Some (noted o d.depth n (is_event d)))
one-more table [] d None n e s =
    subst (λ ds. SumsUp table ds (Some (noted None d.depth n (is_event d)))) (sym (ap (λ w. cond w (d ∷ []) []) (eq-eqb d.depth d.depth refl)))
    (record { depth = refl; code = e; event = refl; same = refl })
one-more table [] d (Some k) n e s = absurd s
one-more table (x ∷ xs) d o n e s = behind o (subst (λ ds. SumsUp table ds o) ((first x xs).is) s)
  where
    behind : (p : Option Candidates) → SumsUp table ((first x xs).one ∷ (first x xs).rest) p
        → SumsUp table (outermost ((x ∷ xs) ++ d ∷ [])) (Some (noted p d.depth n (is_event d)))
    behind None q = absurd q
    behind (Some k) q = joined-by table x xs d n e (first x xs) k q

-- Codes are added, and numbers stay.

sums-grow : (t u : List (List ℕ)) → ((x : List ℕ) (i : ℕ) → number_of x t ≡ Some i → number_of x u ≡ Some i) → (ds : List Declaration) (o : Option Candidates)
    → SumsUp t ds o → SumsUp u ds o
sums-grow t u g [] None s = tt
sums-grow t u g [] (Some c) s = absurd s
sums-grow t u g (d ∷ ds) None s = absurd s
sums-grow t u g (d ∷ ds) (Some c) s = record { depth = s.depth; code = g d.code c.code s.code; event = s.event; same = s.same }

pub all-grow : (t u : List (List ℕ)) → ((x : List ℕ) (i : ℕ) → number_of x t ≡ Some i → number_of x u ≡ Some i)
    → (ds : List Declaration) (names : List (List ℕ)) (os : List (Option Candidates)) → AllSumUp t ds names os → AllSumUp u ds names os
all-grow t u g ds [] [] s = tt
all-grow t u g ds [] (o ∷ os) s = absurd s
all-grow t u g ds (name ∷ names) [] s = absurd s
all-grow t u g ds (name ∷ names) (o ∷ os) s = (sums-grow t u g (candidates name ds) o s.0, all-grow t u g ds names os s.1)

-- A declaration that qualifies for a name or does not.

candidates-more : (name : List ℕ) (ds : List Declaration) (d : Declaration) (w : Bool) → qualifies name d ≡ w
    → candidates name (ds ++ d ∷ []) ≡ outermost (filter (qualifies name) ds ++ cond w (d ∷ []) [])
candidates-more name ds d w e = ap outermost (filter-append (qualifies name) ds (d ∷ []) ∙ ap (λ v. filter (qualifies name) ds ++ cond v (d ∷ []) []) e)

passes-by : (name : List ℕ) (ds : List Declaration) (d : Declaration) → qualifies name d ≡ false → candidates name (ds ++ d ∷ []) ≡ candidates name ds
passes-by name ds d e = candidates-more name ds d false e ∙ ap outermost (append-nil (filter (qualifies name) ds))

-- that qualifies for no name
pub all-pass : (table : List (List ℕ)) (ds : List Declaration) (d : Declaration) (names : List (List ℕ)) (os : List (Option Candidates))
    → ((name : List ℕ) → is_among name names ≡ true → qualifies name d ≡ false) → AllSumUp table ds names os → AllSumUp table (ds ++ d ∷ []) names os
all-pass table ds d [] [] h s = tt
all-pass table ds d [] (o ∷ os) h s = absurd s
all-pass table ds d (name ∷ names) [] h s = absurd s
all-pass table ds d (name ∷ names) (o ∷ os) h s = (
  subst (λ cs. SumsUp table cs o) (sym (passes-by name ds d (h name (ap (λ w. w || is_among name names) (bytes_eq-refl name name refl))))) s.0,
  all-pass table ds d names os (λ m g. h m (ap (λ w. bytes_eq m name || w) g ∙ or-true (bytes_eq m name))) s.1,
)
  where
    or-true : (b : Bool) → (b || true) ≡ true
    or-true true = refl
    or-true false = refl

pub never-binds : (d : Declaration) → may_bind d.kind d.size ≡ false → (name : List ℕ) → qualifies name d ≡ false
never-binds d e name = and_right (bytes_eq d.reference name) (may_bind d.kind d.size) e

other-name : (d : Declaration) (name : List ℕ) → bytes_eq d.reference name ≡ false → qualifies name d ≡ false
other-name d name e = ap (λ w. w && may_bind d.kind d.size) e

differs : (d : Declaration) (name : List ℕ) (names : List (List ℕ)) → bytes_eq d.reference name ≡ true → is_among name names ≡ false → (m : List ℕ)
    → is_among m names ≡ true → bytes_eq d.reference m ≡ false
differs d name names r away m g =
    (elim (bytes_eq d.reference m) as (λ w. bytes_eq d.reference m ≡ w → w ≡ false) [
      | true ↦ λ h.
          let there : is_among name names ≡ true = ap (λ x. is_among x names) (sym (bytes_eq-true d.reference name r) ∙ bytes_eq-true d.reference m h) ∙ g in
          sym there ∙ away
      | false ↦ λ h. refl
    ]) refl

pub all-noted : (table : List (List ℕ)) (ds : List Declaration) (d : Declaration) (names : List (List ℕ)) (os : List (Option Candidates)) (i n : ℕ)
    → number_of d.code table ≡ Some n → may_bind d.kind d.size ≡ true → are_distinct names ≡ true → find_name d.reference names ≡ Some i
    → AllSumUp table ds names os → AllSumUp table (ds ++ d ∷ []) names (set os i (Some (noted (get_or os i None) d.depth n (is_event d))))
all-noted table ds d [] os i n e b a f s = absurd (cc)
all-noted table ds d (name ∷ names) [] i n e b a f s = absurd s
all-noted table ds d (name ∷ names) (o ∷ os) i n e b a f s =
    let q = and_parts (not (is_among name names)) (are_distinct names) a in
    (elim (bytes_eq d.reference name) as (λ w. bytes_eq d.reference name ≡ w → cond w (Some 0) (option_map (λ j. suc j) (find_name d.reference names)) ≡ Some i
    → AllSumUp table (ds ++ d ∷ []) (name ∷ names) (set (o ∷ os) i (Some (noted (get_or (o ∷ os) i None) d.depth n (is_event d))))) [
      | true ↦ λ r h. here r (not-true (is_among name names) q.0) (let z : 0 ≡ i = cc in z)
      | false ↦ λ r h. later r (find_name d.reference names) refl (λ j g. all-noted table ds d names os j n e b q.1 g s.1) h
    ]) refl (sym (position-cons (bytes_eq d.reference) name names) ∙ f)
  where
    here : bytes_eq d.reference name ≡ true → is_among name names ≡ false → 0 ≡ i
        → AllSumUp table (ds ++ d ∷ []) (name ∷ names) (set (o ∷ os) i (Some (noted (get_or (o ∷ os) i None) d.depth n (is_event d))))
    here r away z =
        subst (λ j. AllSumUp table (ds ++ d ∷ []) (name ∷ names) (set (o ∷ os) j (Some (noted (get_or (o ∷ os) j None) d.depth n (is_event d))))) z (
          subst (λ cs. SumsUp table cs (Some (noted o d.depth n (is_event d))))
              (sym (candidates-more name ds d true (ap (λ w. w && may_bind d.kind d.size) r ∙ b))) (one-more table (filter (qualifies name) ds) d o n e s.0),
          all-pass table ds d names os (λ m g. other-name d m (differs d name names r away m g)) s.1,
        )

    later : bytes_eq d.reference name ≡ false → (p : Option ℕ) → find_name d.reference names ≡ p
        → ((j : ℕ) → find_name d.reference names ≡ Some j
        → AllSumUp table (ds ++ d ∷ []) names (set os j (Some (noted (get_or os j None) d.depth n (is_event d)))))
        → option_map (λ j. suc j) (find_name d.reference names) ≡ Some i
        → AllSumUp table (ds ++ d ∷ []) (name ∷ names) (set (o ∷ os) i (Some (noted (get_or (o ∷ os) i None) d.depth n (is_event d))))
    later r None g ih h = absurd (let k : None ≡ Some i = sym (ap (option_map (λ j. suc j)) g) ∙ h in cc)
    later r (Some j) g ih h =
        let k : Some (suc j) ≡ Some i = sym (ap (option_map (λ y. suc y)) g) ∙ h in
        let z : suc j ≡ i = cc in
        subst (λ y. AllSumUp table (ds ++ d ∷ []) (name ∷ names) (set (o ∷ os) y (Some (noted (get_or (o ∷ os) y None) d.depth n (is_event d))))) z
        (subst (λ cs. SumsUp table cs o) (sym (passes-by name ds d (other-name d name r))) s.0, ih j g)

pub none-found : (d : Declaration) (names : List (List ℕ)) → find_name d.reference names ≡ None → (name : List ℕ) → is_among name names ≡ true
    → qualifies name d ≡ false
none-found d names e name g =
    other-name d name ((elim (bytes_eq d.reference name) as (λ w. bytes_eq d.reference name ≡ w → w ≡ false) [
      | true ↦ λ r.
          let there : is_among d.reference names ≡ true = ap (λ x. is_among x names) (bytes_eq-true d.reference name r) ∙ g in
          let away : is_among d.reference names ≡ false = not-among d.reference names e in
          sym there ∙ away
      | false ↦ λ r. refl
    ]) refl)

pub same-length : (table : List (List ℕ)) (ds : List Declaration) (names : List (List ℕ)) (os : List (Option Candidates)) → AllSumUp table ds names os
    → length os ≡ length names
same-length table ds [] [] s = refl
same-length table ds [] (o ∷ os) s = absurd s
same-length table ds (name ∷ names) [] s = absurd s
same-length table ds (name ∷ names) (o ∷ os) s = ap (λ n. suc n) (same-length table ds names os s.1)
