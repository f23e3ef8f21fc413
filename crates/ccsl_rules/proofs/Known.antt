-- Where there is no fault, an expression names lower clocks, parameters of the right kinds, and words of the table.
use Rattle.std.proofs.Common.{◌≡◌, ℕ, suc, ◌+◌, ◌<◌, ◌≤◌, List, [], ◌∷◌, ◌++◌, Bool, true, false, not, ◌||◌, Option, Some, None, is_none, nat_lt, nat_le}
use Rattle.std.proofs.Common.{nat_eq, length, map, flat_map, zip, slice_get, refl, sym, ap, subst, arith, if◌then◌else◌}
use Rattle.std.specs.List.{AllByRecursion}
use Rattle.std.proofs.lemmas.Bool.Decides.{nat_tests}
use Rattle.ccsl_ast.specs.declared.spot.Spot.{Spot}
use Rattle.ccsl_ast.specs.declared.definition.Param.{Param}
use Rattle.ccsl_ast.specs.declared.definition.Kind.{Kind}
use Rattle.ccsl_ast.specs.declared.definition.Kind.TheVariants as kind
use Rattle.ccsl_ast.specs.declared.term.Sign.{Sign}
use Rattle.ccsl_ast.specs.declared.term.Primary.{Primary}
use Rattle.ccsl_ast.specs.declared.term.Primary.TheVariants as prim
use Rattle.ccsl_ast.specs.declared.term.Term.{Term}
use Rattle.ccsl_ast.specs.declared.term.WordTerm.{WordTerm}
use Rattle.ccsl_ast.specs.declared.term.WordTerm.TheVariants as word
use Rattle.ccsl_ast.specs.declared.term.Test.{Test}
use Rattle.ccsl_ast.specs.declared.term.Test.TheVariants as test
use Rattle.ccsl_ast.specs.declared.term.Argument.{Argument}
use Rattle.ccsl_ast.specs.declared.term.Argument.TheVariants as arg
use Rattle.ccsl_ast.specs.Trees.{Expression, EName, ECall, ENever, EBinary, EDelay, EAwait, EFilter, EDelayed, EIf}
use Rattle.ccsl_kernel.specs.declared.group.ParamKind.{ParamKind}
use Rattle.ccsl_kernel.specs.declared.expr.NumSign.{NumSign}
use Rattle.ccsl_kernel.specs.declared.expr.NumPrim.{NumPrim}
use Rattle.ccsl_kernel.specs.declared.expr.Value.{Value}
use Rattle.ccsl_kernel.specs.declared.expr.Value.TheVariants as value
use Rattle.ccsl_kernel.specs.Syntax.{Body, body_of}
use Rattle.ccsl_words.specs.Spelling.{read_word}
use Rattle.ccsl_words.specs.Word.{BinaryWord, rest}
use Rattle.ccsl_kernel.specs.Actuals.{word_of, word_or_empty}
use Rattle.ccsl_kernel.specs.declared.position.Position.{Position}
use Rattle.ccsl_kernel.specs.declared.position.Position.TheVariants.{Inner}
use Rattle.ccsl_kernel.specs.Accepted.{HasKind, IsClock, IsNumber, AreNumbers, IsOffset, IsWord, IsTest, IsArgument, AreArguments, IsKnown}
use Rattle.ccsl_rules.specs.Faults.{Fault, where_so, Unknown, Later, WrongKind, BadWord, Arguments}
use Rattle.ccsl_rules.specs.Spaces.{Known, Callee, Role, relation, member, look}
use Rattle.ccsl_rules.specs.Uses.{Scene, same_kind, has_role, used, kind_of, has_other_kind, used_as, prim_faults, term_faults, text_faults, word_faults}
use Rattle.ccsl_rules.specs.Uses.{test_faults, single, argument_faults, argument_kind, argument_at, mismatch, callee_faults, call_faults, expr_faults, right_of}
use Rattle.ccsl_rules.specs.Settings.{Atom, AClock, ANumber, AWord, AParam, Setting, atom_of, tail_of, prim_number, sum_from, argument_atom, argument_atoms}
use Rattle.ccsl_rules.specs.Settings.{resolve_sign}
use Rattle.ccsl_rules.specs.Texts.{texts, argument_texts, word_texts}
use Rattle.ccsl_rules.specs.Resolved.{Tables, clock_number, atom_place, atom_prim, atom_word, atom_tail, atom_value, param_value, resolve_prim, resolve_term}
use Rattle.ccsl_rules.specs.Resolved.{resolve_word, resolve_test, resolve_argument, resolve_arguments, resolve, resolve_call, role_call}
use Rattle.ccsl_rules.specs.Expansion.{kind_in}
use Rattle.ccsl_rules.proofs.Guarded.{left-empty, right-empty, no-fault}

pub kinds-same : (a b : Kind) → not (same_kind a b) ≡ false → a ≡ b
kinds-same kind.Clock kind.Clock e = refl
kinds-same kind.Number kind.Number e = refl
kinds-same kind.Word kind.Word e = refl
kinds-same kind.Clock kind.Number e = absurd (cc)
kinds-same kind.Clock kind.Word e = absurd (cc)
kinds-same kind.Number kind.Clock e = absurd (cc)
kinds-same kind.Number kind.Word e = absurd (cc)
kinds-same kind.Word kind.Clock e = absurd (cc)
kinds-same kind.Word kind.Number e = absurd (cc)

equal-lengths : (a b : ℕ) → not (nat_eq a b) ≡ false → a ≡ b
equal-lengths a b h = grind (arith, nat_tests)

rest-finite : (n o : ℕ) → o < n + 0 + 1 → (if nat_le n o then n else o + 1) < n + 0 + 1
rest-finite n o h = by_test (nat_le n o) refl where
  by_test : (b : Bool) → nat_le n o ≡ b → (if b then n else o + 1) < n + 0 + 1
  by_test true e = omega arith
  by_test false e = grind (arith, nat_tests)

rest-infinite : (n m o : ℕ) → o < n + suc m + 0 → (if nat_eq (o + 1) (n + suc m) then n else o + 1) < n + suc m + 0
rest-infinite n m o h = by_test (nat_eq (o + 1) (n + suc m)) refl where
  by_test : (b : Bool) → nat_eq (o + 1) (n + suc m) ≡ b → (if b then n else o + 1) < n + suc m + 0
  by_test true e = omega arith
  by_test false e = grind (arith, nat_tests)

module _ (groups : List (List Body)) (X : ℕ) (params : List ParamKind) (K : Tables) (S : Scene) (σ : Setting) where
  -- an atom that may stand for a name of the kind
  abbrev pub Fits : Kind → Atom → Type 0
  Fits kind.Clock (AClock n) = clock_number K.names n < X
  Fits kind.Number (ANumber n) = Unit {0}
  Fits kind.Word (AWord w o) = (v : BinaryWord) × (slice_get K.words w ≡ Some v) × IsOffset v o
  Fits k (AParam i own) = (own ≡ k) × HasKind groups K.words X params i (kind_in k)
  Fits _ _ = ⊥

  -- the names of the body stand for fit atoms, as far as they may be used; what is called has its body
  pub record Standing : Type 0 where
    pub same : K.calls ≡ S.calls
    pub atoms : (name : List ℕ) (k : Known Kind) → look name S.locals ≡ Some k → k.since ≤ S.line → Fits k.what (atom_of σ name)
    pub bodies : (name : List ℕ) (k : Known Callee) (g m : ℕ) → look name S.calls ≡ Some k → k.what.role ≡ member g m →
        (b : Body) × (body_of groups g m ≡ Some b) × (b.params ≡ map (λ p. kind_in p.kind) k.what.params)

  pub found-fits : Standing → (s : Spot) (wanted : Kind) (found : Option (Known Kind)) → look s.name S.locals ≡ found →
      elim found as (λ _. List Fault) [ None ↦ where_so true Unknown s.at | Some k ↦ where_so (nat_lt S.line k.since) Later s.at ] ≡ [] →
      has_other_kind (elim found as (λ _. Option Kind) [ None ↦ None | Some k ↦ Some k.what ]) wanted ≡ false → Fits wanted (atom_of σ s.name)
  found-fits st s wanted None l e o = absurd (cc)
  found-fits st s wanted (Some k) l e o =
      let since : k.since ≤ S.line = in-time k.since S.line (no-fault (nat_lt S.line k.since) Later s.at e) in
      subst (λ w. Fits w (atom_of σ s.name)) (kinds-same k.what wanted o) (st.atoms s.name k l since)
    where
      in-time : (a b : ℕ) → nat_lt b a ≡ false → a ≤ b
      in-time a b h = grind (arith, nat_tests)

  pub used-fits : Standing → (s : Spot) (wanted : Kind) → used S s ≡ [] → has_other_kind (kind_of S s) wanted ≡ false → Fits wanted (atom_of σ s.name)
  used-fits st s wanted e o = found-fits st s wanted (look s.name S.locals) refl e o

  pub used_as-fits : Standing → (s : Spot) (wanted : Kind) → used_as S wanted s ≡ [] → Fits wanted (atom_of σ s.name)
  used_as-fits st s wanted e =
      used-fits st s wanted (left-empty (used S s) (where_so (has_other_kind (kind_of S s) wanted) WrongKind s.at) e)
      (no-fault (has_other_kind (kind_of S s) wanted) WrongKind s.at (right-empty (used S s) (where_so (has_other_kind (kind_of S s) wanted) WrongKind s.at) e))

  place-known : (a : Atom) → Fits kind.Clock a → IsClock groups K.words X params (atom_place K a)
  place-known (AClock n) f = f
  place-known (AParam i k) f = f.1
  place-known (ANumber n) f = absurd f
  place-known (AWord w o) f = absurd f

  prim-known : (a : Atom) → Fits kind.Number a → IsNumber groups K.words X params (atom_prim a)
  prim-known (ANumber n) f = tt
  prim-known (AParam i k) f = f.1
  prim-known (AClock n) f = absurd f
  prim-known (AWord w o) f = absurd f

  word-known : (a : Atom) → Fits kind.Word a → IsWord groups K.words X params (atom_word a)
  word-known (AWord w o) f = f
  word-known (AParam i k) f = f.1
  word-known (AClock n) f = absurd f
  word-known (ANumber n) f = absurd f

  rest-parts : (a p : List Bool) (o : ℕ) → IsOffset (record { prefix = a; period = p }) o →
      IsOffset (record { prefix = a; period = p }) (rest (record { prefix = a; period = p }) o)
  rest-parts a [] o h = rest-finite (length a) o h
  rest-parts a (x ∷ xs) o h = rest-infinite (length a) (length xs) o h

  pub rest-fits : (v : BinaryWord) (o : ℕ) → IsOffset v o → IsOffset v (rest v o)
  rest-fits v o h = rest-parts v.prefix v.period o h

  first-parts : (a p : List Bool) → IsOffset (record { prefix = a; period = p }) 0
  first-parts a [] = omega arith
  first-parts a (x ∷ xs) = omega arith

  first-fits : (v : BinaryWord) → IsOffset v 0
  first-fits v = first-parts v.prefix v.period

  tail-known : (a : Atom) → Fits kind.Word a → IsWord groups K.words X params (atom_tail K a)
  tail-known (AWord w o) f =
      let v : word_of K.words w ≡ f.0 = ap word_or_empty f.1 in
      (f.0, f.1, subst (λ x. IsOffset f.0 (rest x o)) (sym v) (rest-fits f.0 o f.2))
  tail-known (AParam i k) f = f.1
  tail-known (AClock n) f = absurd f
  tail-known (ANumber n) f = absurd f

  param-known : (k own : Kind) (i : ℕ) → own ≡ k → HasKind groups K.words X params i (kind_in k)
      → IsArgument groups K.words X params (kind_in k) (param_value i own)
  param-known k own i e h = subst (λ x. IsArgument groups K.words X params (kind_in k) (param_value i x)) (sym e) (own-known k i h) where
    own-known : (k : Kind) (i : ℕ) → HasKind groups K.words X params i (kind_in k) → IsArgument groups K.words X params (kind_in k) (param_value i k)
    own-known kind.Clock i h = h
    own-known kind.Number i h = (h, tt)
    own-known kind.Word i h = h

  value-known : (k : Kind) (a : Atom) → Fits k a → IsArgument groups K.words X params (kind_in k) (atom_value K a)
  value-known kind.Clock (AClock n) f = f
  value-known kind.Number (ANumber n) f = (tt, tt)
  value-known kind.Word (AWord w o) f = f
  value-known kind.Clock (AParam i own) f = param-known kind.Clock own i f.0 f.1
  value-known kind.Number (AParam i own) f = param-known kind.Number own i f.0 f.1
  value-known kind.Word (AParam i own) f = param-known kind.Word own i f.0 f.1
  value-known kind.Clock (ANumber n) f = absurd f
  value-known kind.Clock (AWord w o) f = absurd f
  value-known kind.Number (AClock n) f = absurd f
  value-known kind.Number (AWord w o) f = absurd f
  value-known kind.Word (AClock n) f = absurd f
  value-known kind.Word (ANumber n) f = absurd f

  prim-ok : Standing → (p : Primary) → prim_faults S p ≡ [] → IsNumber groups K.words X params (resolve_prim σ p)
  prim-ok st (prim.Num at n) e = tt
  prim-ok st (prim.Name s) e = prim-known (atom_of σ s.name) (used_as-fits st s kind.Number e)

  prims-ok : Standing → (ps : List (Sign × Primary)) → flat_map (λ p. prim_faults S p.1) ps ≡ [] →
      AllByRecursion (λ (p : NumSign × NumPrim). IsNumber groups K.words X params p.1) (map (λ p. (resolve_sign p.0, resolve_prim σ p.1)) ps)
  prims-ok st [] e = tt
  prims-ok st (p ∷ ps) e = (
    prim-ok st p.1 (left-empty (prim_faults S p.1) (flat_map (λ p. prim_faults S p.1) ps) e),
    prims-ok st ps (right-empty (prim_faults S p.1) (flat_map (λ p. prim_faults S p.1) ps) e),
  )

  term-ok : Standing → (t : Term) → term_faults S t ≡ [] → AreNumbers groups K.words X params (resolve_term σ t)
  term-ok st t e = (
    prim-ok st t.first (left-empty (prim_faults S t.first) (flat_map (λ p. prim_faults S p.1) t.rest) e),
    prims-ok st t.rest (right-empty (prim_faults S t.first) (flat_map (λ p. prim_faults S p.1) t.rest) e),
  )

  -- the texts from number k on stand in the table, as far as they read
  abbrev pub AreAt : ℕ → List (List ℕ) → Type 0
  AreAt k [] = Unit {0}
  AreAt k (t ∷ ts) = ((v : BinaryWord) → read_word t ≡ Some v → slice_get K.words k ≡ Some v) × AreAt (suc k) ts

  pub at-left : (k : ℕ) (xs ys : List (List ℕ)) → AreAt k (xs ++ ys) → AreAt k xs
  at-left k [] ys h = tt
  at-left k (x ∷ xs) ys h = (h.0, at-left (suc k) xs ys h.1)

  pub at-right : (k : ℕ) (xs ys : List (List ℕ)) → AreAt k (xs ++ ys) → AreAt (k + length xs) ys
  at-right k [] ys h = let e : k ≡ k + 0 = omega arith in subst (λ n. AreAt n ys) e h
  at-right k (x ∷ xs) ys h = let e : suc k + length xs ≡ k + suc (length xs) = omega arith in subst (λ n. AreAt n ys) e (at-right (suc k) xs ys h.1)

  -- a text that reads
  text-word : (text : List ℕ) (found : Option BinaryWord) → read_word text ≡ found → where_so (is_none found) BadWord 0 ≡ []
      → (v : BinaryWord) × (read_word text ≡ Some v)
  text-word text None e h = absurd (cc)
  text-word text (Some v) e h = (v, e)

  pub text-ok : (k at : ℕ) (text : List ℕ) → AreAt k (text ∷ []) → text_faults at text ≡ []
      → IsWord groups K.words X params (resolve_word K σ k (word.Text at text))
  text-ok k at text h e =
      let none : is_none (read_word text) ≡ false = no-fault (is_none (read_word text)) BadWord at e in
      let found = text-word text (read_word text) refl (ap (λ b. where_so b BadWord 0) none) in
      (found.0, h.0 found.0 found.1, first-fits found.0)

  word-ok : Standing → (k : ℕ) (w : WordTerm) → AreAt k (word_texts w) → word_faults S w ≡ [] → IsWord groups K.words X params (resolve_word K σ k w)
  word-ok st k (word.Text at text) h e = text-ok k at text h e
  word-ok st k (word.Name s) h e = word-known (atom_of σ s.name) (used_as-fits st s kind.Word e)
  word-ok st k (word.Tail s) h e = tail-known (atom_of σ s.name) (used_as-fits st s kind.Word e)

  test-ok : Standing → (q : Test) → test_faults S q ≡ [] → IsTest groups K.words X params (resolve_test σ q)
  test-ok st (test.Equal t u) e =
      (term-ok st t (left-empty (term_faults S t) (term_faults S u) e), term-ok st u (right-empty (term_faults S t) (term_faults S u) e))
  test-ok st (test.Less t u) e =
      (term-ok st t (left-empty (term_faults S t) (term_faults S u) e), term-ok st u (right-empty (term_faults S t) (term_faults S u) e))
  test-ok st (test.Head s) e = word-known (atom_of σ s.name) (used_as-fits st s kind.Word e)
  test-ok st (test.Ended s) e = word-known (atom_of σ s.name) (used_as-fits st s kind.Word e)

  -- one argument, of the parameter's kind
  term-argument : Standing → (k : ℕ) (p : Param) (t : Term) (one : Option Spot) → single t ≡ one →
      elim one as (λ _. List Fault) [ None ↦ term_faults S t | Some s ↦ used S s ] ≡ [] →
      has_other_kind (elim one as (λ _. Option Kind) [ None ↦ Some kind.Number | Some s ↦ kind_of S s ]) p.kind ≡ false →
      IsArgument groups K.words X params (kind_in p.kind)
      (elim one as (λ _. Value) [ None ↦ value.Number (resolve_term σ t) | Some s ↦ atom_value K (atom_of σ s.name) ])
  term-argument st k p t None l e o =
      subst (λ w. IsArgument groups K.words X params (kind_in w) (value.Number (resolve_term σ t))) (kinds-same kind.Number p.kind o) (term-ok st t e)
  term-argument st k p t (Some s) l e o = value-known p.kind (atom_of σ s.name) (used-fits st s p.kind e o)

  argument-ok : Standing → (k : ℕ) (p : Param) (a : Argument) → AreAt k (argument_texts a) → argument_faults S a ≡ []
      → has_other_kind (argument_kind S a) p.kind ≡ false →
      IsArgument groups K.words X params (kind_in p.kind) (resolve_argument K σ k a)
  argument-ok st k p (arg.Term t) h e o = term-argument st k p t (single t) refl e o
  argument-ok st k p (arg.Text at text) h e o =
      subst (λ w. IsArgument groups K.words X params (kind_in w) (value.Word (resolve_word K σ k (word.Text at text)))) (kinds-same kind.Word p.kind o)
      (text-ok k at text h e)
  argument-ok st k p (arg.Tail s) h e o =
      subst (λ w. IsArgument groups K.words X params (kind_in w) (value.Word (atom_tail K (atom_of σ s.name)))) (kinds-same kind.Word p.kind o)
      (tail-known (atom_of σ s.name) (used_as-fits st s kind.Word e))

  arguments-ok : Standing → (k : ℕ) (ps : List Param) (args : List Argument) → length args ≡ length ps → AreAt k (flat_map argument_texts args)
      → flat_map (argument_faults S) args ≡ [] →
      flat_map (λ a. mismatch S a.0 a.1) (zip ps args) ≡ [] → AreArguments groups K.words X params (map (λ p. kind_in p.kind) ps) (resolve_arguments K σ k args)
  arguments-ok st k [] [] l h e o = tt
  arguments-ok st k (p ∷ ps) (a ∷ args) l h e o = (
    argument-ok st k p a (at-left k (argument_texts a) (flat_map argument_texts args) h)
        (left-empty (argument_faults S a) (flat_map (argument_faults S) args) e)
        (no-fault (has_other_kind (argument_kind S a) p.kind) WrongKind (argument_at a)
        (left-empty (mismatch S p a) (flat_map (λ a. mismatch S a.0 a.1) (zip ps args)) o)),
    arguments-ok st (k + length (argument_texts a)) ps args (omega arith) (at-right k (argument_texts a) (flat_map argument_texts args) h)
        (right-empty (argument_faults S a) (flat_map (argument_faults S) args) e)
        (right-empty (mismatch S p a) (flat_map (λ a. mismatch S a.0 a.1) (zip ps args)) o),
  )
  arguments-ok st k [] (a ∷ args) l h e o = absurd (omega arith)
  arguments-ok st k (p ∷ ps) [] l h e o = absurd (omega arith)

  -- a call
  known-call : Standing → (k : ℕ) (p : Position) (s : Spot) (args : List Argument) (c : Known Callee) (role : Role) → look s.name S.calls ≡ Some c
      → c.what.role ≡ role →
      AreAt k (flat_map argument_texts args) → callee_faults S false p s args c ≡ [] → flat_map (argument_faults S) args ≡ [] →
      IsKnown groups K.words X params (role_call role (resolve_arguments K σ k args))
  known-call st k p s args c relation l r h e o = tt
  known-call st k p s args c (member g m) l r h e o =
      let body = st.bodies s.name c g m l r in
      let many : not (nat_eq (length args) (length c.what.params)) ≡ false = no-fault _ Arguments s.at (right-empty _ _ (left-empty _ _ e)) in
      let same : length args ≡ length c.what.params = equal-lengths (length args) (length c.what.params) many in (
        body.0,
        body.1,
        subst (λ ks. AreArguments groups K.words X params ks (resolve_arguments K σ k args)) (sym body.2)
            (arguments-ok st k c.what.params args same h o (right-empty _ (flat_map (λ a. mismatch S a.0 a.1) (zip c.what.params args)) e)),
      )

  found-call : Standing → (k : ℕ) (p : Position) (s : Spot) (args : List Argument) (found : Option (Known Callee)) → look s.name S.calls ≡ found
      → AreAt k (flat_map argument_texts args) →
      elim found as (λ _. List Fault) [ None ↦ where_so true Unknown s.at | Some c ↦ callee_faults S false p s args c ] ≡ []
      → flat_map (argument_faults S) args ≡ [] →
      IsKnown groups K.words X params (resolve_call found (resolve_arguments K σ k args))
  found-call st k p s args None l h e o = tt
  found-call st k p s args (Some c) l h e o = known-call st k p s args c c.what.role l refl h e o

  -- AN EXPRESSION WITHOUT A FAULT names lower clocks, parameters of their kinds, words of the table, and bodies that are there
  pub known : Standing → (k : ℕ) (p : Position) (e : Expression) → AreAt k (texts e) → expr_faults S p e ≡ []
      → IsKnown groups K.words X params (resolve K σ k e)
  known st k p (EName s) h e = place-known (atom_of σ s.name) (used_as-fits st s kind.Clock e)
  known st k p (ECall s args) h e =
      subst (λ calls. IsKnown groups K.words X params (resolve_call (look s.name calls) (resolve_arguments K σ k args))) (sym st.same)
      (found-call st k p s args (look s.name S.calls) refl h (left-empty _ (flat_map (argument_faults S) args) e)
      (right-empty _ (flat_map (argument_faults S) args) e))
  known st k p ENever h e = tt
  known st k p (EBinary b a d) h e = (
    known st k Inner a (at-left k (texts a) (texts d) h) (left-empty (expr_faults S Inner a) (expr_faults S (right_of b p) d) e),
    known st (k + length (texts a)) (right_of b p) d (at-right k (texts a) (texts d) h)
        (right-empty (expr_faults S Inner a) (expr_faults S (right_of b p) d) e),
  )
  known st k p (EDelay a m) h e =
      (known st k Inner a h (left-empty (expr_faults S Inner a) (term_faults S m) e), term-ok st m (right-empty (expr_faults S Inner a) (term_faults S m) e))
  known st k p (EAwait a m) h e =
      (known st k Inner a h (left-empty (expr_faults S Inner a) (term_faults S m) e), term-ok st m (right-empty (expr_faults S Inner a) (term_faults S m) e))
  known st k p (EFilter a w) h e = (
    known st k Inner a (at-left k (texts a) (word_texts w) h) (left-empty (expr_faults S Inner a) (word_faults S w) e),
    word-ok st (k + length (texts a)) w (at-right k (texts a) (word_texts w) h) (right-empty (expr_faults S Inner a) (word_faults S w) e),
  )
  known st k p (EDelayed a at m d) h e =
      let front : expr_faults S Inner a ++ where_so (nat_lt m 1 || nat_lt 4096 m) Arguments at ≡ [] = left-empty _ (expr_faults S Inner d) e in (
        known st k Inner a (at-left k (texts a) (texts d) h) (left-empty (expr_faults S Inner a) (where_so (nat_lt m 1 || nat_lt 4096 m) Arguments at) front),
        known st (k + length (texts a)) Inner d (at-right k (texts a) (texts d) h) (right-empty _ (expr_faults S Inner d) e),
      )
  known st k p (EIf q a d) h e =
      let front : test_faults S q ++ expr_faults S p a ≡ [] = left-empty _ (expr_faults S p d) e in (
        test-ok st q (left-empty (test_faults S q) (expr_faults S p a) front),
        known st k p a (at-left k (texts a) (texts d) h) (right-empty (test_faults S q) (expr_faults S p a) front),
        known st (k + length (texts a)) p d (at-right k (texts a) (texts d) h) (right-empty _ (expr_faults S p d) e),
      )

  -- THE VALUE of an argument of a relation's call fits the parameter
  tail-fits : (a : Atom) → Fits kind.Word a → Fits kind.Word (tail_of K.words a)
  tail-fits (AWord w o) f =
      let v : word_of K.words w ≡ f.0 = ap word_or_empty f.1 in
      (f.0, f.1, subst (λ x. IsOffset f.0 (rest x o)) (sym v) (rest-fits f.0 o f.2))
  tail-fits (AParam i k) f = f
  tail-fits (AClock n) f = absurd f
  tail-fits (ANumber n) f = absurd f

  term-atom : Standing → (p : Param) (t : Term) (one : Option Spot) →
      elim one as (λ _. List Fault) [ None ↦ term_faults S t | Some s ↦ used S s ] ≡ [] →
      has_other_kind (elim one as (λ _. Option Kind) [ None ↦ Some kind.Number | Some s ↦ kind_of S s ]) p.kind ≡ false →
      Fits p.kind (elim one as (λ _. Atom) [ None ↦ ANumber (sum_from σ (prim_number σ t.first) t.rest) | Some s ↦ atom_of σ s.name ])
  term-atom st p t None e o = subst (λ w. Fits w (ANumber (sum_from σ (prim_number σ t.first) t.rest))) (kinds-same kind.Number p.kind o) tt
  term-atom st p t (Some s) e o = used-fits st s p.kind e o

  atom-ok : Standing → (k : ℕ) (p : Param) (a : Argument) → AreAt k (argument_texts a) → argument_faults S a ≡ []
      → has_other_kind (argument_kind S a) p.kind ≡ false → Fits p.kind (argument_atom K.words σ k a)
  atom-ok st k p (arg.Term t) h e o = term-atom st p t (single t) e o
  atom-ok st k p (arg.Text at text) h e o = subst (λ w. Fits w (AWord k 0)) (kinds-same kind.Word p.kind o) (text-ok k at text h e)
  atom-ok st k p (arg.Tail s) h e o =
      subst (λ w. Fits w (tail_of K.words (atom_of σ s.name))) (kinds-same kind.Word p.kind o) (tail-fits (atom_of σ s.name) (used_as-fits st s kind.Word e))

  -- as many as the parameters, each of its parameter's kind
  abbrev pub AtomsFit : List Param → List Atom → Type 0
  AtomsFit [] [] = Unit {0}
  AtomsFit (p ∷ ps) (a ∷ as') = Fits p.kind a × AtomsFit ps as'
  AtomsFit _ _ = ⊥

  pub atoms-ok : Standing → (k : ℕ) (ps : List Param) (args : List Argument) → length args ≡ length ps → AreAt k (flat_map argument_texts args)
      → flat_map (argument_faults S) args ≡ [] →
      flat_map (λ a. mismatch S a.0 a.1) (zip ps args) ≡ [] → AtomsFit ps (argument_atoms K.words σ k args)
  atoms-ok st k [] [] l h e o = tt
  atoms-ok st k (p ∷ ps) (a ∷ args) l h e o = (
    atom-ok st k p a (at-left k (argument_texts a) (flat_map argument_texts args) h) (left-empty (argument_faults S a) (flat_map (argument_faults S) args) e)
        (no-fault (has_other_kind (argument_kind S a) p.kind) WrongKind (argument_at a)
        (left-empty (mismatch S p a) (flat_map (λ a. mismatch S a.0 a.1) (zip ps args)) o)),
    atoms-ok st (k + length (argument_texts a)) ps args (omega arith) (at-right k (argument_texts a) (flat_map argument_texts args) h)
        (right-empty (argument_faults S a) (flat_map (argument_faults S) args) e)
        (right-empty (mismatch S p a) (flat_map (λ a. mismatch S a.0 a.1) (zip ps args)) o),
  )
  atoms-ok st k [] (a ∷ args) l h e o = absurd (omega arith)
  atoms-ok st k (p ∷ ps) [] l h e o = absurd (omega arith)

  not-member : (g m : ℕ) → not (has_role (member g m) true) ≡ false → ⊥
  not-member g m e = cc

  -- a relation's call without a fault: the relation, and arguments that fit
  call-of : Standing → (k : ℕ) (s : Spot) (args : List Argument) (c : Known Callee) (role : Role) → c.what.role ≡ role → AreAt k (flat_map argument_texts args)
      → callee_faults S true Inner s args c ≡ [] →
      flat_map (argument_faults S) args ≡ [] → (c.what.role ≡ relation) × AtomsFit c.what.params (argument_atoms K.words σ k args)
  call-of st k s args c relation r h e o =
      let many : not (nat_eq (length args) (length c.what.params)) ≡ false = no-fault _ Arguments s.at (right-empty _ _ (left-empty _ _ e)) in (
        r,
        atoms-ok st k c.what.params args (equal-lengths (length args) (length c.what.params) many) h o
            (right-empty _ (flat_map (λ a. mismatch S a.0 a.1) (zip c.what.params args)) e),
      )
  call-of st k s args c (member g m) r h e o =
      let wrong : not (has_role c.what.role true) ≡ false =
      no-fault _ WrongKind s.at (right-empty _ _ (left-empty _ _ (left-empty _ _ (left-empty _ _ (left-empty _ _ e))))) in
      let is : not (has_role (member g m) true) ≡ false = subst (λ x. not (has_role x true) ≡ false) r wrong in
      absurd (not-member g m is)

  found-use : Standing → (k : ℕ) (s : Spot) (args : List Argument) (found : Option (Known Callee)) → look s.name S.calls ≡ found
      → AreAt k (flat_map argument_texts args) →
      elim found as (λ _. List Fault) [ None ↦ where_so true Unknown s.at | Some c ↦ callee_faults S true Inner s args c ] ≡ []
      → flat_map (argument_faults S) args ≡ [] →
      (c : Known Callee) × (look s.name S.calls ≡ Some c) × (c.what.role ≡ relation) × AtomsFit c.what.params (argument_atoms K.words σ k args)
  found-use st k s args None l h e o = absurd (cc)
  found-use st k s args (Some c) l h e o = let r = call-of st k s args c c.what.role refl h e o in (c, l, r.0, r.1)

  pub use-ok : Standing → (k : ℕ) (s : Spot) (args : List Argument) → AreAt k (flat_map argument_texts args) → call_faults S true Inner s args ≡ [] →
      (c : Known Callee) × (look s.name S.calls ≡ Some c) × (c.what.role ≡ relation) × AtomsFit c.what.params (argument_atoms K.words σ k args)
  use-ok st k s args h e =
      found-use st k s args (look s.name S.calls) refl h (left-empty _ (flat_map (argument_faults S) args) e)
      (right-empty _ (flat_map (argument_faults S) args) e)
