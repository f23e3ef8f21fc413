-- What a read leaves in the buffer.
use Rattle.std.proofs.Common.{◌≡◌, ℕ, ◌+◌, ◌≤◌, List, ◌++◌, length, take, min, sym, ap, ◌∙◌, ⊎_elim, arith, length-take-le}
use Rattle.std.proofs.lemmas.Bool.{cases_lt}
use Rattle.std.proofs.lemmas.List.{take_all, take-take, take-append-le}
use Rattle.ccsl_base.specs.declared.limits.TheConstants.{PIECE}
use Rattle.ccsl_edge.specs.declared.slot.Slot.{Slot}
use Rattle.ccsl_edge.specs.World.{State, Told}
use Rattle.ccsl_edge.specs.Calls.{Takes, Refills}

-- of the bytes that were read those within what is left
within : (left count m : ℕ) (read : List ℕ) → count ≤ length read → m ≡ min count left → take m read ≡ take left (take count read)
within left count m read l e =
    ⊎_elim
    (λ less.
    let same : m ≡ left = omega arith in
    ap (λ k. take k read) same ∙ sym (take-take left count read (omega arith)))
    (λ more.
    let same : m ≡ count = omega arith in
    let few : length (take count read) ≤ left = omega (arith, length-take-le count read l) in
    ap (λ k. take k read) same ∙ sym (take_all left (take count read) few))
    (cases_lt left count)

pub refilled : (told : Told) (slot : Slot) (old new : State) (left count m n : ℕ) (buf rest : List ℕ) → Takes told slot count old new buf
    → count ≤ left + 1 → count ≤ PIECE → m ≡ min count left → m ≤ n
    → Refills told slot left count old new (take m (take n (buf ++ rest)))
refilled told slot old new left count m n buf rest t few small e l =
    let inside : m ≤ length buf = omega (arith, t.within) in
    record {
      bytes = take count buf;
      count_is = length-take-le count buf t.within;
      within = few;
      few = small;
      reads = t.reads;
      piece_is = take-take m n (buf ++ rest) l ∙ take-append-le m buf rest inside ∙ within left count m buf t.within e;
      ended = λ tells none.
          ap (λ k. take k buf ++ (new.slot_of slot).left) (sym none) ∙ sym (t.reads.taken tells) ∙ t.ended tells none;
    }
