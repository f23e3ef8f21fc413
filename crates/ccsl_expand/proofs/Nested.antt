-- What a call of an earlier definition becomes.
use Rattle.std.proofs.Common.{◌≡◌, ℕ, zero, suc, ◌+◌, ◌<◌, ◌≤◌, List, [], ◌∷◌, ◌++◌, take, length, length-append, Option, Some, None, slice_get, refl, ap, ◌∙◌}
use Rattle.std.proofs.Common.{arith}
use Rattle.std.specs.Option.{option_map}
use Rattle.std.proofs.lemmas.Grind.{common_steps}
use Rattle.std.proofs.lemmas.Option.{slice_get_past}
use Rattle.ccsl_words.specs.Word.{BinaryWord}
use Rattle.ccsl_rules.specs.Spaces.{Known, Callee, look}
use Rattle.ccsl_rules.specs.Settings.{Atom}
use Rattle.ccsl_rules.specs.Unfolded.{Item, Unfolding, Unfoldings, unfolding_at, unfolding_of, unfold_block}
use Rattle.ccsl_rules.proofs.Lookups.{get-front}
use Rattle.ccsl_expand.specs.Numbered.{NumberedDefinition, unfold_all}
use Rattle.ccsl_base.proofs.Cases.{get-last}

get-take : {X : Type 0} (xs : List X) (n i : ℕ) (x : X) → i < n → slice_get xs i ≡ Some x → slice_get (take n xs) i ≡ Some x
get-take [] n i x h e = absurd (cc)
get-take (y ∷ xs) zero i x h e = absurd (omega arith)
get-take (y ∷ xs) (suc n) zero x h e = e
get-take (y ∷ xs) (suc n) (suc i) x h e = get-take xs n i x (omega arith) e

take-take' : {X : Type 0} (xs : List X) (m n : ℕ) → m < n → take m (take n xs) ≡ take m xs
take-take' [] zero n h = grind (arith, common_steps)
take-take' [] (suc m) zero h = absurd (omega arith)
take-take' [] (suc m) (suc n) h = refl
take-take' (x ∷ xs) zero n h = refl
take-take' (x ∷ xs) (suc m) zero h = absurd (omega arith)
take-take' (x ∷ xs) (suc m) (suc n) h = ap (λ l. x ∷ l) (take-take' xs m n (omega arith))

module _ (words : List BinaryWord) (calls : List (Known Callee)) where
  abbrev this : Unfoldings → NumberedDefinition → Unfolding
  this R b = unfold_block words calls R b.start b.definition

  -- later definitions leave the earlier ones
  kept : (R : Unfoldings) (bs : List NumberedDefinition) (i : ℕ) → i < length R → slice_get (unfold_all words calls R bs) i ≡ slice_get R i
  unfolding unfold_all
  kept R [] i h = refl
  kept R (b ∷ bs) i h =
      let more : i < length (R ++ this R b ∷ []) = omega (arith, length-append R (this R b ∷ [])) in
      kept (R ++ this R b ∷ []) bs i more ∙ get-front R (this R b ∷ []) i h

  -- the one at place i, from those before it
  unfoldings-at : (R : Unfoldings) (bs : List NumberedDefinition) (i : ℕ) (b : NumberedDefinition) → slice_get bs i ≡ Some b →
      slice_get (unfold_all words calls R bs) (length R + i) ≡ Some (this (unfold_all words calls R (take i bs)) b)
  unfolding unfold_all
  unfoldings-at R [] i b e = absurd (cc)
  unfoldings-at R (c ∷ bs) zero b e =
      let here : length R + 0 ≡ length R = omega arith in
      let more : length R < length (R ++ this R c ∷ []) = omega (arith, length-append R (this R c ∷ [])) in
      let same : c ≡ b = cc in
      ap (slice_get (unfold_all words calls (R ++ this R c ∷ []) bs)) here
      ∙ (kept (R ++ this R c ∷ []) bs (length R) more ∙ (get-last R (this R c) ∙ ap (λ x. Some (this R x)) same))
  unfoldings-at R (c ∷ bs) (suc i) b e =
      let there : length R + suc i ≡ length (R ++ this R c ∷ []) + i = omega (arith, length-append R (this R c ∷ [])) in
      ap (slice_get (unfold_all words calls (R ++ this R c ∷ []) bs)) there ∙ unfoldings-at (R ++ this R c ∷ []) bs i b e

  -- as many as definitions
  many : (R : Unfoldings) (bs : List NumberedDefinition) → length (unfold_all words calls R bs) ≡ length R + length bs
  unfolding unfold_all
  many R [] = omega arith
  many R (b ∷ bs) = omega (arith, many (R ++ this R b ∷ []) bs, length-append R (this R b ∷ []))

  -- a call of an earlier definition, in a body of definition number `home`
  pub call-earlier : (blocks : List NumberedDefinition) (home b : ℕ) (block : NumberedDefinition) (path : List ℕ) (args : List Atom) → b < home
      → slice_get blocks b ≡ Some block →
      unfolding_at (slice_get (unfold_all words calls [] (take home blocks)) b) path args ≡ unfold_block words calls (unfold_all words calls [] (take b blocks))
      block.start block.definition path args
  call-earlier blocks home b block path args h e =
      let zero_b : b ≡ 0 + b = omega arith in
      ap (λ i. unfolding_at (slice_get (unfold_all words calls [] (take home blocks)) i) path args) zero_b
      ∙ (ap (λ u. unfolding_at u path args) (unfoldings-at [] (take home blocks) b block (get-take blocks home b block h e))
      ∙ ap (λ bs. unfold_block words calls (unfold_all words calls [] bs) block.start block.definition path args) (take-take' blocks b home h))

  -- any other call becomes nothing
  pub call-later : (blocks : List NumberedDefinition) (home b : ℕ) (path : List ℕ) (args : List Atom) → home ≤ b →
      unfolding_at (slice_get (unfold_all words calls [] (take home blocks)) b) path args ≡ []
  call-later blocks home b path args h =
      let short : length (take home blocks) ≤ home = grind (arith, common_steps) in
      ap (λ u. unfolding_at u path args) (slice_get_past (unfold_all words calls [] (take home blocks)) b (omega (arith, many [] (take home blocks))))

-- the unfolding of what a name stands for
abbrev pub unfolding_found : Unfoldings → Option Callee → List ℕ → List Atom → List Item
unfolding_found R None path args = []
unfolding_found R (Some c) path args = unfolding_at (slice_get R c.block) path args

found-step : (R : Unfoldings) (looked : Option (Known Callee)) (path : List ℕ) (args : List Atom) →
    unfolding_found R (option_map (λ k. k.what) looked) path args
    ≡ elim looked as (λ _. Unfolding) [ None ↦ λ path args. [] | Some k ↦ unfolding_at (slice_get R k.what.block) ] path args
found-step R None path args = refl
found-step R (Some k) path args = refl

pub unfolding-found : (R : Unfoldings) (calls : List (Known Callee)) (name : List ℕ) (found : Option Callee)
    → found ≡ option_map (λ k. k.what) (look name calls) →
    (path : List ℕ) (args : List Atom) → unfolding_found R found path args ≡ unfolding_of calls R name path args
unfolding-found R calls name found e path args = ap (λ f. unfolding_found R f path args) e ∙ found-step R (look name calls) path args
