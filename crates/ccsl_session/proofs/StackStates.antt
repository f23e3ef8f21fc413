-- The states behind the sets of a stack, and their copies, behind one set more and behind one set less.
use Rattle.std.proofs.Common.{◌≡◌, ℕ, ◌+◌, ◌-◌, ◌*◌, ◌/◌, ◌%◌, ◌^◌, ◌<◌, ◌≤◌, List, [], ◌∷◌, ◌++◌, length, take, drop, get_or, slice_get, Some, sym, ap, ◌∙◌}
use Rattle.std.proofs.Common.{refl, subst, ⊎_elim, arith, length-append, length-take}
use Rattle.std.proofs.lemmas.Bool.{cases_lt}
use Rattle.std.proofs.lemmas.List.{take_all, take-append-le, take-append-drop, take-take, take_more, get_or-take, get_or_append_left, get_or_push}
use Rattle.std.proofs.lemmas.Option.{slice_get_within, slice_get-get_or, get_or_from_slice_get}
use Rattle.ccsl_kernel.specs.Syntax.{System}
use Rattle.ccsl_kernel.specs.Lives.{Step}
use Rattle.ccsl_kernel.specs.Accepted.{IsAccepted}
use Rattle.ccsl_kernel.specs.Runs.{full_step, completed_after, completed}
use Rattle.ccsl_kernel.proofs.Completion.{completed-append, length-completed}
use Rattle.ccsl_state.specs.Held.{Held, StandsFor}
use Rattle.ccsl_session.specs.declared.stack.Stack.{Stack}
use Rattle.ccsl_session.specs.Stack.{AreBehind, AreCopies, Stands}
use Rattle.ccsl_session.proofs.Stacks.{completed-snoc}

-- what a call of `advance` says of the states
abbrev pub Advances : Held → Step → Held → Type 0
Advances h s h' = (U : List Step) → StandsFor h U → length U + 1 < 2 ^ 64 → StandsFor h' (U ++ full_step h.system U s ∷ [])

-- states that go on by a set, where K is their system
one-more : (K : System) (T : List Step) (s : Step) (h h' : Held) → h.system ≡ K → StandsFor h T → Advances h s h' → length T + 1 < 2 ^ 64
    → StandsFor h' (T ++ full_step K T s ∷ [])
one-more K T s h h' same stands advances few = subst (λ (X : System). StandsFor h' (T ++ full_step X T s ∷ [])) same (advances T stands few)

-- SETS ONE AFTER ANOTHER
pub goes-on : (K : System) (T R : List Step) (i : ℕ) (s : Step) (h h' : Held) → i < length R → s ≡ get_or R i s → h.system ≡ K
    → StandsFor h (completed_after K T (take i R)) → Advances h s h' →
    length T + length R < 2 ^ 64 → StandsFor h' (completed_after K T (take (i + 1) R))
goes-on K T R i s h h' l at same stands advances few =
    let U = completed_after K T (take i R) in
    let long : length U + 1 < 2 ^ 64 = omega (arith, length-completed K (take i R) T, length-take i R) in
    subst (StandsFor h')
    (sym
    (ap (completed_after K T) (take_more R i s l ∙ ap (λ x. take i R ++ x ∷ []) (sym at))
    ∙ completed-append K (take i R) (s ∷ []) T))
    (one-more K U s h h' same stands advances long)

-- the states behind a front of the sets, gone on by the others
pub replayed : (K : System) (R rest : List Step) (n : ℕ) (h h' : Held) → AreBehind K (take n R) h → rest ≡ drop n R → h'.system ≡ h.system →
    ((T : List Step) → StandsFor h T → length T + length rest < 2 ^ 64 → StandsFor h' (completed_after h.system T rest)) → length R < 2 ^ 64 → AreBehind K R h'
replayed K R rest n h h' b is same goes few =
    let T = completed K (take n R) in
    let long : length T + length rest < 2 ^ 64 =
    omega (arith, length-completed K (take n R) [], ap length is, ap length (take-append-drop n R), length-append (take n R) (drop n R)) in
    let whole : completed_after h.system T rest ≡ completed K R =
    ap (λ (X : System). completed_after X T rest) b.system
    ∙ ap (completed_after K T) is
    ∙ sym (completed-append K (take n R) (drop n R) [])
    ∙ ap (completed K) (take-append-drop n R) in
    record { system = same ∙ b.system; stands = subst (StandsFor h') whole (goes T b.stands long) }

-- ONE SET MORE
pub behind-more : (K : System) (R : List Step) (s : Step) (h h' : Held) → AreBehind K R h → h'.system ≡ h.system → Advances h s h' → length R + 1 < 2 ^ 64
    → AreBehind K (R ++ s ∷ []) h'
behind-more K R s h h' b same advances few = record {
  system = same ∙ b.system;
  stands =
      subst (StandsFor h') (sym (completed-snoc K R s))
      (one-more K (completed K R) s h h' b.system b.stands advances (omega (arith, length-completed K R [])));
}

-- a copy that stands in a list stands there with one more behind it, or is that one
at_end : {X : Type 0} (xs : List X) (y : X) (k : ℕ) (x : X) (P : Type 0) → slice_get (xs ++ y ∷ []) k ≡ Some x → (k < length xs → slice_get xs k ≡ Some x → P)
    → (k ≡ length xs → y ≡ x → P) → P
at_end xs y k x P e before here =
    let within = slice_get_within (xs ++ y ∷ []) k x e in
    let there = get_or_from_slice_get (xs ++ y ∷ []) k x x e in
    ⊎_elim
    (λ (l : k < length xs). before l (slice_get-get_or xs k x l ∙ ap (λ z. Some z) (sym (get_or_append_left xs (y ∷ []) x k l) ∙ there)))
    (λ (l : length xs ≤ k).
    let last : k ≡ length xs = omega (arith, within, length-append xs (y ∷ [])) in
    here last (sym (get_or_push xs y x k (sym last)) ∙ there))
    (cases_lt k (length xs))

copies-first : (K : System) (h : Held) → AreBehind K [] h → AreCopies K [] (h ∷ [])
copies-first K h behind = record {
  count = refl;
  each = λ k g at. at_end [] h k g (AreBehind K (take (k * 256) []) g) at
      (λ l there. absurd (omega arith))
      (λ last one. subst (λ S. AreBehind K S g) (sym (take_all (k * 256) [] (omega arith))) (subst (AreBehind K []) one behind));
}

pub stands-none : (stack : Stack) → IsAccepted stack.system.now → stack.sets.items ≡ [] → AreBehind stack.system.now [] stack.states
    → stack.copies.items ≡ stack.states ∷ [] → Stands stack
stands-none stack ok none behind one =
    let K = stack.system.now in
    record {
      accepted = ok;
      few = rw none (omega arith);
      states = subst (λ R. AreBehind K R stack.states) (sym none) behind;
      copies =
          subst (λ R. AreCopies K R stack.copies.items) (sym none)
          (subst (λ (copies : List Held). AreCopies K [] copies) (sym one) (copies-first K stack.states behind));
    }

-- behind a further stride of sets there is a copy more
pub copies-more : (K : System) (R : List Step) (s : Step) (copies : List Held) (h : Held) → AreCopies K R copies → AreBehind K (R ++ s ∷ []) h
    → (length R + 1) % 256 ≡ 0 →
    AreCopies K (R ++ s ∷ []) (copies ++ h ∷ [])
copies-more K R s copies h c b full =
    let n = length R in
    let longer : length (R ++ s ∷ []) ≡ n + 1 = length-append R (s ∷ []) in
    let places : (n + 1) / 256 ≡ n / 256 + 1 = omega arith in
    record {
      count = length-append copies (h ∷ []) ∙ (let e : length copies + 1 ≡ (n + 1) / 256 + 1 = omega (arith, c.count) in e)
          ∙ ap (λ m. m / 256 + 1) (sym longer);
      each = λ k g at. at_end copies h k g (AreBehind K (take (k * 256) (R ++ s ∷ [])) g) at
          (λ l there. let low : k * 256 ≤ n =
          omega (arith, c.count) in subst (λ S. AreBehind K S g) (sym (take-append-le (k * 256) R (s ∷ []) low)) (c.each k g there))
          (λ last one.
          let all : length (R ++ s ∷ []) ≤ k * 256 = omega (arith, c.count, longer) in
          subst (λ S. AreBehind K S g) (sym (take_all (k * 256) (R ++ s ∷ []) all)) (subst (AreBehind K (R ++ s ∷ [])) one b));
    }

pub copies-same : (K : System) (R : List Step) (s : Step) (copies : List Held) → AreCopies K R copies → ((length R + 1) % 256 ≡ 0 → ⊥)
    → AreCopies K (R ++ s ∷ []) copies
copies-same K R s copies c not_full =
    let n = length R in
    let longer : length (R ++ s ∷ []) ≡ n + 1 = length-append R (s ∷ []) in
    record {
      count = (let e : length copies ≡ (n + 1) / 256 + 1 = omega (arith, c.count, not_full) in e) ∙ ap (λ m. m / 256 + 1) (sym longer);
      each = λ k g at.
          let within = slice_get_within copies k g at in
          let low : k * 256 ≤ n = omega (arith, c.count) in
          subst (λ S. AreBehind K S g) (sym (take-append-le (k * 256) R (s ∷ []) low)) (c.each k g at);
    }

-- ONE SET LESS
in_front : {X : Type 0} (xs : List X) (m k : ℕ) (x : X) → slice_get (take m xs) k ≡ Some x → (k < m) × (slice_get xs k ≡ Some x)
in_front xs m k x e =
    let within = slice_get_within (take m xs) k x e in
    let low : k < m = omega (arith, within, length-take m xs) in
    let inside : k < length xs = omega (arith, within, length-take m xs) in
    (low, slice_get-get_or xs k x inside ∙ ap (λ z. Some z) (sym (get_or-take m xs k x low) ∙ get_or_from_slice_get (take m xs) k x x e))

pub copies-less : (K : System) (R S : List Step) (copies copies' : List Held) (m : ℕ) → AreCopies K R copies → S ≡ take (length R - 1) R → 0 < length R
    → copies' ≡ take m copies →
    m ≡ (length R - 1) / 256 + 1 → m ≤ length copies → AreCopies K S copies'
copies-less K R S copies copies' m c less some front is fits =
    let n = length R in
    let shorter : length S ≡ n - 1 = omega (arith, ap length less, length-take (n - 1) R) in
    record {
      count = ap length front ∙ (let e : length (take m copies) ≡ (n - 1) / 256 + 1 = omega (arith, length-take m copies) in e)
          ∙ ap (λ k. k / 256 + 1) (sym shorter);
      each = λ k g at.
          let q = in_front copies m k g (ap (λ cs. slice_get cs k) (sym front) ∙ at) in
          let low : k * 256 ≤ n - 1 = omega (arith, q.0) in
          subst (λ T. AreBehind K T g) (sym (ap (take (k * 256)) less ∙ take-take (k * 256) (n - 1) R low)) (c.each k g q.1);
    }
