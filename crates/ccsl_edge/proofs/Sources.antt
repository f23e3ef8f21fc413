-- A world in memory that never fails, in which one slot's source has changed.
use Rattle.std.proofs.Common.{◌≡◌, ℕ, ◌<◌, ◌≤◌, min, List, [], ◌∷◌, true, false, cond, map, length, take, drop, set, get_or, Option, Some, None, IsTrue, refl}
use Rattle.std.proofs.Common.{sym, ap, ◌∙◌, subst, nat_lt, slice_get, slice_index_or, unwrap_or, zero, suc}
use Rattle.std.specs.List.{position, position_or_len}
use Rattle.std.specs.Option.{option_map}
use Rattle.std.specs.Str.{bytes_eq}
use Rattle.std.proofs.lemmas.List.{map-set, length-map}
use Rattle.std.proofs.lemmas.List.Folds.{find_at}
use Rattle.std.proofs.Math.ListN.{get_or-map}
use Rattle.ccsl_edge.specs.declared.slot.Slot.{Slot}
use Rattle.ccsl_edge.specs.declared.steady.Source.{Source}
use Rattle.ccsl_edge.specs.Order.{index_of}
use Rattle.ccsl_edge.specs.World.{SlotState, held}
use Rattle.ccsl_edge.specs.Calls.{ChangesOnly, OpensIn, Takes, OpensOut, Closes}
use Rattle.ccsl_edge.specs.SlotTable.{slot_in, unused, file_state}
use Rattle.ccsl_edge.specs.Steady.{tells_left, content_at, slot_of_source}
use Rattle.ccsl_edge.proofs.Files.{position-None}
use Rattle.ccsl_edge.proofs.OneSlot.{SetsSlot, SetsSlot-at, Takes-at}

abbrev closed : Source
closed = record { file = None; taken = 0; is_open = false }

-- what is not told says nothing
untold : {P : Type 0} → IsTrue false → P
untold tells = absurd (cc)

module _ (files : List (List ℕ × List ℕ)) (sources : List Source) (slot : Slot) (i j : ℕ) (now : Source)
    (at : i ≡ index_of slot) (at' : j ≡ index_of slot) (long : length sources ≡ 7) where
  pub was-there : get_or (map (slot_of_source files) sources) j (slot_of_source files closed) ≡ slot_of_source files (get_or sources i closed)
  was-there = get_or-map (slot_of_source files) sources j closed ∙ ap (λ k. slot_of_source files (get_or sources k closed)) (at' ∙ sym at)

  pub moved-there : map (slot_of_source files) (set sources j now) ≡ set (map (slot_of_source files) sources) j (slot_of_source files now)
  moved-there = map-set (slot_of_source files) sources j now

  pub sets : SetsSlot slot (slot_of_source files (get_or sources i closed)) (slot_of_source files now)
      (file_state (map (slot_of_source files) sources)) (file_state (map (slot_of_source files) (set sources j now)))
  sets =
      let s = SetsSlot-at [] (map (slot_of_source files) sources) slot j (slot_of_source files closed) (slot_of_source files now) at'
      (length-map sources (slot_of_source files) ∙ long) in
      record {
        only = subst (λ xs. ChangesOnly slot (file_state (map (slot_of_source files) sources)) (file_state xs)) (sym moved-there) s.only;
        was_is = s.was_is ∙ was-there;
        now_is = ap (λ xs. slot_in xs slot) moved-there ∙ s.now_is;
      }

pub Closes-source : (files : List (List ℕ × List ℕ)) (sources : List Source) (slot : Slot) (i j : ℕ)
    → i ≡ index_of slot → j ≡ index_of slot → length sources ≡ 7
    → Closes tells_left slot (file_state (map (slot_of_source files) sources))
    (file_state (map (slot_of_source files) (set sources j (record (get_or sources i closed) { is_open = false }))))
Closes-source files sources slot i j at at' long =
    let s = sets files sources slot i j (record (get_or sources i closed) { is_open = false }) at at' long in
    record { others = s.only.others; here = rw (s.now_is, s.was_is) refl; file = λ tells _. untold tells }

pub OpensOut-source : (files : List (List ℕ × List ℕ)) (sources : List Source) (slot : Slot) (i j : ℕ) (name : List ℕ)
    → i ≡ index_of slot → j ≡ index_of slot → length sources ≡ 7
    → OpensOut tells_left slot name (file_state (map (slot_of_source files) sources))
    (file_state (map (slot_of_source files) (set sources j (record (get_or sources i closed) { is_open = true }))))
OpensOut-source files sources slot i j name at at' long =
    let s = sets files sources slot i j (record (get_or sources i closed) { is_open = true }) at at' long in
    record { only = s.only; here = rw (s.now_is, s.was_is) refl; empty = λ tells. untold tells; named = λ tells. untold tells }

module _ (files : List (List ℕ × List ℕ)) (sources : List Source) (slot : Slot) (i j : ℕ) (name : List ℕ) (file : Option ℕ)
    (at : i ≡ index_of slot) (at' : j ≡ index_of slot) (long : length sources ≡ 7) where
  pub OpensIn-source : OpensIn tells_left slot name (file_state (map (slot_of_source files) sources))
      (file_state (map (slot_of_source files) (set sources j (record (get_or sources i closed) { file = file; taken = 0 }))))
  OpensIn-source =
      let s = sets files sources slot i j (record (get_or sources i closed) { file = file; taken = 0 }) at at' long in
      record { only = s.only; here = rw (s.now_is, s.was_is) refl; bytes = λ tells _. untold tells }

  place-of : (n : ℕ) → position (λ f. bytes_eq f.0 name) files ≡ Some n → position_or_len (λ f. bytes_eq f.0 name) files ≡ n
  place-of n found =
      (elim (nat_lt (position_or_len (λ f. bytes_eq f.0 name) files) (length files))
      as (λ b. cond b (Some (position_or_len (λ f. bytes_eq f.0 name) files)) None ≡ Some n → position_or_len (λ f. bytes_eq f.0 name) files ≡ n)
      [ true ↦ λ h. cc | false ↦ λ h. absurd (cc) ]) found

  held-found : (r : Option ℕ) → r ≡ position (λ f. bytes_eq f.0 name) files → content_at files r ≡ held files name
  held-found None found = sym (ap (λ o. unwrap_or (option_map (λ (f : List ℕ × List ℕ). f.1) o) []) (position-None (λ f. bytes_eq f.0 name) files (sym found)))
  held-found (Some n) found =
      ap (λ k. unwrap_or (option_map (λ (f : List ℕ × List ℕ). f.1) (slice_get files k)) []) (sym (place-of n (sym found)))
      ∙ sym (ap (λ o. unwrap_or (option_map (λ (f : List ℕ × List ℕ). f.1) o) []) (find_at (λ f. bytes_eq f.0 name) files))

  pub left-held : file ≡ position (λ f. bytes_eq f.0 name) files →
      (slot_in (map (slot_of_source files) (set sources j (record (get_or sources i closed) { file = file; taken = 0 }))) slot).left ≡ held files name
  left-held found =
      let s = sets files sources slot i j (record (get_or sources i closed) { file = file; taken = 0 }) at at' long in
      ap (λ (x : SlotState). x.left) s.now_is ∙ held-found file found

pub Takes-source : (files : List (List ℕ × List ℕ)) (sources : List Source) (slot : Slot) (i j : ℕ) (now : Source) (count most room : ℕ) (buf : List ℕ)
    → i ≡ index_of slot → j ≡ index_of slot → length sources ≡ 7
    → slot_of_source files now
    ≡ record (slot_of_source files (get_or sources i closed)) { left = drop count (slot_of_source files (get_or sources i closed)).left }
    → take count buf ≡ take count (slot_of_source files (get_or sources i closed)).left
    → 1 ≤ most → 0 < room → length buf ≡ room → count ≡ min most (min room (length (slot_of_source files (get_or sources i closed)).left))
    → Takes tells_left slot count (file_state (map (slot_of_source files) sources)) (file_state (map (slot_of_source files) (set sources j now))) buf
Takes-source files sources slot i j now count most room buf at at' long after moved some more has counted =
    let was : get_or (map (slot_of_source files) sources) j (slot_of_source files closed) ≡ slot_of_source files (get_or sources i closed) =
    was-there files sources slot i j now at at' long in
    subst (λ xs. Takes tells_left slot count (file_state (map (slot_of_source files) sources)) (file_state xs) buf)
    (sym (moved-there files sources slot i j now at at' long))
    (Takes-at tells_left [] (map (slot_of_source files) sources) slot j (slot_of_source files closed) (slot_of_source files now) count most room buf at'
    (length-map sources (slot_of_source files) ∙ long)
    (subst (λ (x : SlotState). slot_of_source files now ≡ record x { left = drop count x.left }) (sym was) after)
    (subst (λ (x : SlotState). take count buf ≡ take count x.left) (sym was) moved)
    some more has
    (subst (λ (x : SlotState). count ≡ min most (min room (length x.left))) (sym was) counted))

-- no slot has counted a fault
pub faultless : (files : List (List ℕ × List ℕ)) (sources : List Source) (i : ℕ) →
    (slice_index_or (map (slot_of_source files) sources) i (unused false)).faults ≡ 0
faultless files [] zero = refl
faultless files [] (suc i) = refl
faultless files (s ∷ sources) zero = refl
faultless files (s ∷ sources) (suc i) = faultless files sources i
