-- What is bound, one after another.
use Rattle.std.proofs.Common.{◌≡◌, ◌⊎◌, inl, inr, ℕ, suc, ◌+◌, ◌<◌, List, [], ◌∷◌, ◌++◌, length, map, take, drop, get_or, Bool, true, false, Result, Ok, Err}
use Rattle.std.proofs.Common.{if◌then◌else◌, refl, sym, ap, ap₂, subst, ◌∙◌, arith}
use Rattle.std.specs.List.{list_any, flat_map}
use Rattle.std.proofs.lemmas.List.{append-nil, map-append, take_more, take-append-drop}
use Rattle.std.proofs.Math.Seq.{drop-cons}
use Rattle.std.proofs.lemmas.List.Concat.{flat_map-append, flat_map_single}
use Rattle.std.specs.declared.vec.Vec.{Vec}
use Rattle.std.specs.declared.alloc.Global.{Global}
use Rattle.ccsl_triggers.specs.declared.watch.Goal as goals
use Rattle.ccsl_triggers.specs.declared.watch.Trigger as made
use Rattle.ccsl_events.specs.Binding as meaning
use Rattle.ccsl_event_file.specs.declared.fault.EventFault.{EventFault}
use Rattle.ccsl_event_file.specs.declared.fault.EventFault.TheVariants as faults
use Rattle.ccsl_events.specs.declared.binder.Source.{Source}
use Rattle.ccsl_events.specs.Binding.{is_same, number_in, each, in_front}
use Rattle.ccsl_events.specs.Binds.{seen_trigger, with_sources, Binds, IsBound, BindsTrigger, BindsGoals, BindsWatch}
use Rattle.ccsl_events.proofs.Sources.{number-among, number-within, number-new, number-past, later, with_sources-append}

-- ## One variable

pub binds-known : (old new : List Source) (s : Source) (n : ℕ) → n ≡ number_in old s → (n ≡ length old → ⊥) → new ≡ old
    → Binds n (λ name t. name t) s (s ∷ []) old new
binds-known old new s n e ne same = by (list_any (is_same s) old) refl
  where
    by : (b : Bool) → list_any (is_same s) old ≡ b → Binds n (λ name t. name t) s (s ∷ []) old new
    by false k = absurd (ne (e ∙ number-past old s k))
    by true k = record {
      reads = same ∙ sym (ap (λ b. if b then old else old ++ s ∷ []) k);
      means = λ more. e ∙ sym (number-among old more s k) ∙ sym (ap (λ xs. number_in (xs ++ more) s) same);
    }

pub binds-new : (old new : List Source) (s : Source) (n : ℕ) → n ≡ number_in old s → n ≡ length old → new ≡ old ++ s ∷ []
    → Binds n (λ name t. name t) s (s ∷ []) old new
binds-new old new s n e past more = by (list_any (is_same s) old) refl
  where
    by : (b : Bool) → list_any (is_same s) old ≡ b → Binds n (λ name t. name t) s (s ∷ []) old new
    by true k = absurd (omega (arith, number-within old s k, e, past))
    by false k = record {
      reads = more ∙ sym (ap (λ b. if b then old else old ++ s ∷ []) k);
      means = λ rest. past ∙ sym (number-new old rest s k) ∙ sym (ap (λ xs. number_in (xs ++ rest) s) more);
    }

-- ## Results

module _ {X M P : Type 0} (seen : X → P) (with_numbers : (Source → ℕ) → M → P) (read : M → List Source) (old new : List Source) where
  pub bound-memory : (r : Result M EventFault) → IsBound seen with_numbers read (Err faults.Memory) r old new
  bound-memory (Ok m) = refl
  bound-memory (Err f) = inr refl

  pub bound-fault : (f : EventFault) (r : Result M EventFault) → r ≡ Err f → IsBound seen with_numbers read (Err f) r old new
  bound-fault f r e = subst (λ q. IsBound seen with_numbers read (Err f) q old new) (sym e) (inl refl)

  pub bound-ok : (x : X) (m : M) (r : Result M EventFault) → r ≡ Ok m → Binds (seen x) with_numbers m (read m) old new
      → IsBound seen with_numbers read (Ok x) r old new
  bound-ok x m r e b = subst (λ q. IsBound seen with_numbers read (Ok x) q old new) (sym e) b

-- ## One after another

each-more : {A M : Type 0} (meaning : A → Result M EventFault) (xs : List A) (a : A) (ms : List M) (m : M) →
    each meaning xs ≡ Ok ms → meaning a ≡ Ok m → each meaning (xs ++ a ∷ []) ≡ Ok (ms ++ m ∷ [])
each-more {M = M} meaning [] a ms m e f = let none : [] ≡ ms = cc in ap (λ r. in_front r (Ok [])) f ∙ ap (λ (ns : List M). Ok (ns ++ m ∷ [])) none
each-more {M = M} meaning (b ∷ xs) a ms m e f = by (meaning b) (each meaning xs) refl refl e (λ ns k. each-more meaning xs a ns m k f)
  where
    by : (q : Result M EventFault) (r : Result (List M) EventFault) → meaning b ≡ q → each meaning xs ≡ r → in_front q r ≡ Ok ms →
        ((ns : List M) → each meaning xs ≡ Ok ns → each meaning (xs ++ a ∷ []) ≡ Ok (ns ++ m ∷ [])) →
        in_front (meaning b) (each meaning (xs ++ a ∷ [])) ≡ Ok (ms ++ m ∷ [])
    by (Ok n) (Ok ns) eq er k more =
        let all : n ∷ ns ≡ ms = cc in
        ap₂ in_front eq (more ns er) ∙ ap (λ (ks : List M). Ok (ks ++ m ∷ [])) all
    by (Ok n) (Err g) eq er k more = absurd (cc)
    by (Err g) r eq er k more = absurd (cc)

each-fault : {A M : Type 0} (meaning : A → Result M EventFault) (xs : List A) (a : A) (rest : List A) (ms : List M) (g : EventFault) →
    each meaning xs ≡ Ok ms → meaning a ≡ Err g → each meaning (xs ++ a ∷ rest) ≡ Err g
each-fault meaning [] a rest ms g e f = ap (λ r. in_front r (each meaning rest)) f
each-fault {M = M} meaning (b ∷ xs) a rest ms g e f = by (meaning b) (each meaning xs) refl refl e (λ ns k. each-fault meaning xs a rest ns g k f)
  where
    by : (q : Result M EventFault) (r : Result (List M) EventFault) → meaning b ≡ q → each meaning xs ≡ r → in_front q r ≡ Ok ms →
        ((ns : List M) → each meaning xs ≡ Ok ns → each meaning (xs ++ a ∷ rest) ≡ Err g) →
        in_front (meaning b) (each meaning (xs ++ a ∷ rest)) ≡ Err g
    by (Ok n) (Ok ns) eq er k more = ap₂ in_front eq (more ns er)
    by (Ok n) (Err h) eq er k more = absurd (cc)
    by (Err h) r eq er k more = absurd (cc)

pub each-map : {A B M : Type 0} (meaning : B → Result M EventFault) (of : A → B) (xs : List A) → each meaning (map of xs) ≡ each (λ a. meaning (of a)) xs
each-map meaning of [] = refl
each-map meaning of (a ∷ xs) = ap (in_front (meaning (of a))) (each-map meaning of xs)

-- the first of some were bound
pub record BoundSoFar {A X M P : Type 0} (meaning : A → Result M EventFault) (seen : X → P) (with_numbers : (Source → ℕ) → M → P) (read : M → List Source)
    (done : List A) (made : List X) (old now : List Source) : Type 0 where
  pub meanings : List M
  pub means : each meaning done ≡ Ok meanings
  pub binds : Binds (map seen made) (λ name. map (with_numbers name)) meanings (flat_map read meanings) old now

module _ {A X M P : Type 0} (meaning : A → Result M EventFault) (seen : X → P) (with_numbers : (Source → ℕ) → M → P) (read : M → List Source) where
  pub so-far-none : (old : List Source) → BoundSoFar meaning seen with_numbers read [] [] old old
  so-far-none old = record { meanings = []; means = refl; binds = record { reads = refl; means = λ more. refl } }

  pub so-far-more : (done : List A) (made : List X) (old now new : List Source) (a : A) (x : X) → BoundSoFar meaning seen with_numbers read done made old now →
      IsBound seen with_numbers read (Ok x) (meaning a) now new → BoundSoFar meaning seen with_numbers read (done ++ a ∷ []) (made ++ x ∷ []) old new
  so-far-more done made old now new a x s b = by (meaning a) refl b
    where
      by : (r : Result M EventFault) → meaning a ≡ r → IsBound seen with_numbers read (Ok x) r now new →
          BoundSoFar meaning seen with_numbers read (done ++ a ∷ []) (made ++ x ∷ []) old new
      by (Err g) e never = absurd never
      by (Ok m) e one = record {
        meanings = s.meanings ++ m ∷ [];
        means = each-more meaning done a s.meanings m s.means e;
        binds = record {
          reads =
              one.reads ∙ ap (λ xs. with_sources xs (read m)) s.binds.reads
              ∙ sym (with_sources-append old (flat_map read s.meanings) (read m))
              ∙ ap (with_sources old) (sym (flat_map-append read s.meanings (m ∷ []) ∙ ap (λ xs. flat_map read s.meanings ++ xs) (append-nil (read m))));
          means = λ more.
              map-append seen made (x ∷ [])
              ∙ ap₂ (λ ps p. ps ++ p ∷ [])
              (subst (λ xs. map seen made ≡ map (with_numbers (number_in (xs ++ more))) s.meanings) (sym one.reads)
              (later (λ xs. map seen made ≡ map (with_numbers (number_in xs)) s.meanings) now (read m) s.binds.means more))
              (one.means more)
              ∙ sym (map-append (with_numbers (number_in (new ++ more))) s.meanings (m ∷ []));
        };
      }

  pub so-far-fault : (done : List A) (made : List X) (old now new : List Source) (a : A) (rest : List A) (f : EventFault)
      → BoundSoFar meaning seen with_numbers read done made old now →
      IsBound seen with_numbers read (Err f) (meaning a) now new → (f ≡ faults.Memory) ⊎ (each meaning (done ++ a ∷ rest) ≡ Err f)
  so-far-fault done made old now new a rest f s b = by (meaning a) refl b
    where
      by : (r : Result M EventFault) → meaning a ≡ r → IsBound seen with_numbers read (Err f) r now new
          → (f ≡ faults.Memory) ⊎ (each meaning (done ++ a ∷ rest) ≡ Err f)
      by (Ok m) e memory = inl memory
      by (Err g) e (inl same) = inr (each-fault meaning done a rest s.meanings g s.means e ∙ ap (λ h. Err h) (sym same))
      by (Err g) e (inr memory) = inl memory

-- ## A loop over all of some

split-at : {A : Type 0} (xs : List A) (i : ℕ) (a : A) → i < length xs → a ≡ get_or xs i a → xs ≡ take i xs ++ a ∷ drop (suc i) xs
split-at xs i a l e =
    sym (take-append-drop i xs) ∙ ap (λ ys. take i xs ++ ys) (drop-cons xs i a l ∙ ap (λ b. b ∷ drop (suc i) xs) (sym e))

module _ {A B X M P V : Type 0} (meaning : B → Result M EventFault) (of : A → B) (items : V → List X) (seen : X → P)
    (with_numbers : (Source → ℕ) → M → P) (read : M → List Source) where
  pub loop-next : (xs : List A) (i : ℕ) (a : A) (made made' : List X) (x : X) (old now new : List Source) → i < length xs → a ≡ get_or xs i a
      → made' ≡ made ++ x ∷ [] →
      BoundSoFar (λ b. meaning (of b)) seen with_numbers read (take i xs) made old now → IsBound seen with_numbers read (Ok x) (meaning (of a)) now new →
      BoundSoFar (λ b. meaning (of b)) seen with_numbers read (take (i + 1) xs) made' old new
  loop-next xs i a made made' x old now new l at more s b =
      subst (λ ys. BoundSoFar (λ c. meaning (of c)) seen with_numbers read (take (i + 1) xs) ys old new) (sym more)
      (subst (λ ys. BoundSoFar (λ c. meaning (of c)) seen with_numbers read ys (made ++ x ∷ []) old new)
      (sym (take_more xs i a l ∙ ap (λ c. take i xs ++ c ∷ []) (sym at)))
      (so-far-more (λ c. meaning (of c)) seen with_numbers read (take i xs) made old now new a x s b))

  pub loop-fault : (xs : List A) (i : ℕ) (a : A) (made : List X) (f g : EventFault) (result : Result V EventFault) (old now new : List Source) → i < length xs
      → a ≡ get_or xs i a →
      result ≡ Err g → g ≡ f → BoundSoFar (λ b. meaning (of b)) seen with_numbers read (take i xs) made old now
      → IsBound seen with_numbers read (Err f) (meaning (of a)) now new →
      IsBound (λ v. map seen (items v)) (λ name. map (with_numbers name)) (flat_map read) result (each meaning (map of xs)) old new
  loop-fault xs i a made f g result old now new l at is same s b =
      subst (λ r. IsBound (λ v. map seen (items v)) (λ name. map (with_numbers name)) (flat_map read) r (each meaning (map of xs)) old new)
      (sym (is ∙ ap (λ h. Err h) same))
      (by (so-far-fault (λ c. meaning (of c)) seen with_numbers read (take i xs) made old now new a (drop (suc i) xs) f s b))
    where
      by : (f ≡ faults.Memory) ⊎ (each (λ c. meaning (of c)) (take i xs ++ a ∷ drop (suc i) xs) ≡ Err f) →
          IsBound (λ v. map seen (items v)) (λ name. map (with_numbers name)) (flat_map read) (Err f) (each meaning (map of xs)) old new
      by (inl memory) =
          subst (λ h. IsBound (λ v. map seen (items v)) (λ name. map (with_numbers name)) (flat_map read) (Err h) (each meaning (map of xs)) old new)
          (sym memory)
          (bound-memory (λ v. map seen (items v)) (λ name. map (with_numbers name)) (flat_map read) old new (each meaning (map of xs)))
      by (inr first) =
          bound-fault (λ v. map seen (items v)) (λ name. map (with_numbers name)) (flat_map read) old new f (each meaning (map of xs))
          (each-map meaning of xs ∙ ap (each (λ c. meaning (of c))) (split-at xs i a l at) ∙ first)

  pub loop-done : (xs done : List A) (v : V) (old new : List Source) → done ≡ xs
      → BoundSoFar (λ b. meaning (of b)) seen with_numbers read done (items v) old new →
      IsBound (λ w. map seen (items w)) (λ name. map (with_numbers name)) (flat_map read) (Ok v) (each meaning (map of xs)) old new
  loop-done xs done v old new all s =
      bound-ok (λ w. map seen (items w)) (λ name. map (with_numbers name)) (flat_map read) old new v s.meanings (each meaning (map of xs))
      (each-map meaning of xs ∙ ap (each (λ c. meaning (of c))) (sym all) ∙ s.means) s.binds

-- an event: its trigger, and then its conditions
pub watch-bound : (rt : Result (meaning.Trigger Source) EventFault) (rg : Result (List (meaning.Goal Source)) EventFault) (t : made.Trigger)
    (gs : Vec goals.Goal Global)
    (old mid new : List Source) → BindsTrigger (Ok t) rt old mid → BindsGoals (Ok gs) rg mid new →
    BindsWatch (Ok (record { trigger = t; conditions = gs })) (meaning.watch_on rt rg) old new
watch-bound (Err f) rg t gs old mid new bt bg = absurd bt
watch-bound (Ok mt) (Err f) t gs old mid new bt bg = absurd bg
watch-bound (Ok mt) (Ok ms) t gs old mid new bt bg = record {
  reads =
      bg.reads ∙ ap (λ xs. with_sources xs (flat_map (λ g. meaning.read_by_goal g ∷ []) ms)) bt.reads
      ∙ ap (with_sources (with_sources old (meaning.read_by_trigger mt ∷ []))) (flat_map_single meaning.read_by_goal ms);
  means = λ more.
      ap₂ (λ (a : meaning.Trigger ℕ) (b : List (meaning.Goal ℕ)). record { trigger = a; conditions = b })
      (subst (λ xs. seen_trigger t ≡ meaning.trigger_with (number_in (xs ++ more)) mt) (sym bg.reads)
      (later (λ xs. seen_trigger t ≡ meaning.trigger_with (number_in xs) mt) mid (flat_map (λ g. meaning.read_by_goal g ∷ []) ms) bt.means more))
      (bg.means more);
}
