-- Letters of the values 0 and 1, by the bits that they have beside the last.
use Rattle.std.proofs.Common.{◌≡◌, ℕ, ◌+◌, ◌<◌, List, take, length, get_or, true, not, ◌||◌, nat_eq, bit_and, bit_or, bit_xor, refl, sym, ap, ◌∙◌, arith}
use Rattle.std.specs.List.{list_all}
use Rattle.std.proofs.lemmas.Bool.{agree_below_at, eq-eqb, and_from}
use Rattle.std.proofs.lemmas.Nat.{le_or_l, le_or_r}
use Rattle.std.proofs.lemmas.List.Folds.{list_all_more}
use Rattle.ccsl_vcd.specs.Words.{is_scalar}

pub both-zero : (a b : ℕ) → bit_or a b ≡ 0 → (a ≡ 0) × (b ≡ 0)
both-zero a b e = (omega (arith, e, le_or_l a b), omega (arith, e, le_or_r a b))

pub bit-scalar : (b : ℕ) → b < 256 → bit_xor (bit_and b 254) 48 ≡ 0 → is_scalar b ≡ true
bit-scalar b h e =
    let t : (not (nat_eq (bit_xor (bit_and b 254) 48) 0) || is_scalar b) ≡ true =
    agree_below_at (λ x. not (nat_eq (bit_xor (bit_and x 254) 48) 0) || is_scalar x) (λ x. true) 256 b refl h in
    sym (ap (λ z. not z || is_scalar b) (eq-eqb (bit_xor (bit_and b 254) 48) 0 e)) ∙ t

pub bits-more : (xs : List ℕ) (i b others : ℕ) → i < length xs → b ≡ get_or xs i 0 → b < 256 → (others ≡ 0 → list_all is_scalar (take i xs) ≡ true) →
    bit_or others (bit_xor (bit_and b 254) 48) ≡ 0 → list_all is_scalar (take (i + 1) xs) ≡ true
bits-more xs i b others l e h so none =
    let z = both-zero others (bit_xor (bit_and b 254) 48) none in
    list_all_more is_scalar xs i 0 l ∙ and_from (list_all is_scalar (take i xs)) (is_scalar (get_or xs i 0)) (so z.0)
    (ap is_scalar (sym e) ∙ bit-scalar b h z.1)
