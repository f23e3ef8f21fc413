-- What some bytes of a file decide is the fault of every file that begins with them.
use Rattle.std.proofs.Common.{◌≡◌, ℕ, ◌+◌, ◌-◌, ◌≤◌, ◌<◌, List, [], ◌∷◌, ◌++◌, length, take, Bool, true, false, Option, Some, cond, refl, sym, ap, ◌∙◌, arith}
use Rattle.std.proofs.Common.{length-append}
use Rattle.std.specs.Prelude.{fold}
use Rattle.std.proofs.lemmas.Bool.{lt-ltb, ltb-true, ltb-false, le-ltb}
use Rattle.std.proofs.lemmas.List.{take-append-le}
use Rattle.std.proofs.lemmas.Grind.{fold-append}
use Rattle.std.proofs.Math.Seq.{take-append-add}
use Rattle.std.specs.Option.{option_or}
use Rattle.ccsl_vcd_lex.specs.Tokens.{Heard, settled, heard}
use Rattle.ccsl_vcd_lex.proofs.Further.{settled-further, heard-further}
use Rattle.ccsl_vcd.specs.declared.fault.VcdFault.{VcdFault}
use Rattle.ccsl_vcd.specs.declared.fault.VcdFault.TheVariants as faults
use Rattle.ccsl_vcd.specs.Binding.{Wanted}
use Rattle.ccsl_vcd.specs.declared.limits.Limits.{Limits}
use Rattle.ccsl_vcd.specs.Places.{Change, Where}
use Rattle.ccsl_vcd.specs.Reading.{Story, next, story, begin, decides, is_over, so_far, reading}

-- after a fault nothing changes
stuck : (w : Wanted) (l : Limits) (cs : List Change) (p : Where) (f : VcdFault) (hs : List Heard)
    → fold (next w l) (record { changes = cs; place = p; fault = Some f }) hs ≡ record { changes = cs; place = p; fault = Some f }
stuck w l cs p f [] = refl
stuck w l cs p f (h ∷ hs) = stuck w l cs p f hs

pub sticks : (w : Wanted) (l : Limits) (s : Story) (f : VcdFault) (hs : List Heard) → s.fault ≡ Some f → fold (next w l) s hs ≡ s
sticks w l s f hs e =
    let at : Option VcdFault → Story = λ o. record { changes = s.changes; place = s.place; fault = o } in
    ap (λ (o : Option VcdFault). fold (next w l) (at o) hs) e ∙ stuck w l s.changes s.place f hs ∙ ap at (sym e)

pub story-more : (w : Wanted) (l : Limits) (xs ys : List Heard) → story w l (xs ++ ys) ≡ fold (next w l) (story w l xs) ys
story-more w l xs ys = fold-append (next w l) begin xs ys

pub story-sticks : (w : Wanted) (l : Limits) (xs ys : List Heard) (f : VcdFault) → (story w l xs).fault ≡ Some f → story w l (xs ++ ys) ≡ story w l xs
story-sticks w l xs ys f e = story-more w l xs ys ∙ sticks w l (story w l xs) f ys e

or-kept : (o g : Option VcdFault) (f : VcdFault) → o ≡ Some f → option_or o g ≡ Some f
or-kept o g f e = rw e refl

take-past : (n : ℕ) (b c : List ℕ) → length b ≤ n → take n (b ++ c) ≡ b ++ take (n - length b) c
take-past n b c h =
    let k : n ≡ length b + (n - length b) = omega arith in
    ap (λ (m : ℕ). take m (b ++ c)) k ∙ take-append-add b c (n - length b)

-- what is said of the tokens of b is said first in what b and more bytes settle, and a fault of theirs stays the fault
over-still : (w : Wanted) (l : Limits) (b c : List ℕ) → is_over l b ≡ true → is_over l (b ++ c) ≡ true
over-still w l b c e =
    let n : l.bytes < length b = ltb-true _ _ e in
    lt-ltb _ _ (omega (arith, length-append b c, n))

cut-same : (l : Limits) (b c : List ℕ) → is_over l b ≡ true → take l.bytes (b ++ c) ≡ take l.bytes b
cut-same l b c e = let n : l.bytes < length b = ltb-true _ _ e in take-append-le l.bytes b c (omega arith)

settled-sticks : (w : Wanted) (l : Limits) (b c : List ℕ) (f : VcdFault) → (story w l (settled b)).fault ≡ Some f
    → story w l (settled (b ++ c)) ≡ story w l (settled b)
settled-sticks w l b c f e = let r = settled-further b c in ap (story w l) r.1 ∙ story-sticks w l (settled b) r.0 f e

-- Bytes that decide a fault decide it with any bytes behind them.
pub so_far-further : (w : Wanted) (l : Limits) (b c : List ℕ) (f : VcdFault) → (so_far w l b).fault ≡ Some f → (so_far w l (b ++ c)).fault ≡ Some f
unfolding so_far
so_far-further w l b c f h =
    (elim (is_over l b) as (λ o. is_over l b ≡ o
    → (cond o (decides (story w l (settled (take l.bytes b))) (Some (faults.TooLong l.bytes))) (story w l (settled b))).fault ≡ Some f
    → (so_far w l (b ++ c)).fault ≡ Some f) [
      | true ↦ λ e g. rw (over-still w l b c e, cut-same l b c e) g
      | false ↦ λ e g. not_over e g (is_over l (b ++ c)) refl
    ]) refl h
  where
    not_over : is_over l b ≡ false → (story w l (settled b)).fault ≡ Some f → (o : Bool) → is_over l (b ++ c) ≡ o
        → (cond (is_over l (b ++ c)) (decides (story w l (settled (take l.bytes (b ++ c)))) (Some (faults.TooLong l.bytes)))
        (story w l (settled (b ++ c)))).fault ≡ Some f
    not_over e g true o =
        let le : length b ≤ l.bytes = ltb-false _ _ e in
        rw (o, take-past l.bytes b c le) (or-kept _ _ f (ap (λ (s : Story). s.fault) (settled-sticks w l b (take (l.bytes - length b) c) f g) ∙ g))
    not_over e g false o = rw o (ap (λ (s : Story). s.fault) (settled-sticks w l b c f g) ∙ g)

under : (l : Limits) (b c : List ℕ) → is_over l (b ++ c) ≡ false → is_over l b ≡ false
under l b c o =
    let n : length (b ++ c) ≤ l.bytes = ltb-false _ _ o in
    le-ltb _ _ (omega (arith, length-append b c, n))

inside : (w : Wanted) (l : Limits) (b c : List ℕ) (f : VcdFault) → is_over l b ≡ false → (so_far w l b).fault ≡ Some f
    → (story w l (heard (b ++ c))).fault ≡ Some f
unfolding so_far
inside w l b c f o h =
    let g : (story w l (settled b)).fault ≡ Some f = rw o at h in
    let r = heard-further b c in
    ap (λ (hs : List Heard). (story w l hs).fault) r.1 ∙ ap (λ (s : Story). s.fault) (story-sticks w l (settled b) r.0 f g) ∙ g

-- A fault that is decided is the fault of every file that begins with these bytes.
pub decided-first : (w : Wanted) (l : Limits) (b c : List ℕ) (f : VcdFault) → (so_far w l b).fault ≡ Some f → (reading w l (b ++ c)).fault ≡ Some f
unfolding reading
decided-first w l b c f h = go (is_over l (b ++ c)) refl
  where
    go : (o : Bool) → is_over l (b ++ c) ≡ o → (reading w l (b ++ c)).fault ≡ Some f
    go true o = rw o (so_far-further w l b c f h)
    go false o = rw o (or-kept _ _ f (inside w l b c f (under l b c o) h))

-- a story with a fault takes no other
decides-same : (s : Story) (f g : VcdFault) → s.fault ≡ Some f → decides s (Some g) ≡ s
decides-same s f g e =
    let at : Option VcdFault → Story = λ o. record { changes = s.changes; place = s.place; fault = o } in
    ap at (or-kept s.fault (Some g) f e ∙ sym e)

-- Bytes that decide a fault decide all of the story, with any bytes behind them.
pub so_far-stays : (w : Wanted) (l : Limits) (b c : List ℕ) (f : VcdFault) → (so_far w l b).fault ≡ Some f → so_far w l (b ++ c) ≡ so_far w l b
unfolding so_far
so_far-stays w l b c f h =
    (elim (is_over l b) as (λ o. is_over l b ≡ o
    → (cond o (decides (story w l (settled (take l.bytes b))) (Some (faults.TooLong l.bytes))) (story w l (settled b))).fault ≡ Some f
    → so_far w l (b ++ c) ≡ cond o (decides (story w l (settled (take l.bytes b))) (Some (faults.TooLong l.bytes))) (story w l (settled b))) [
      | true ↦ λ e g. rw (over-still w l b c e, cut-same l b c e) refl
      | false ↦ λ e g. not_over e g (is_over l (b ++ c)) refl
    ]) refl h
  where
    not_over : is_over l b ≡ false → (story w l (settled b)).fault ≡ Some f → (o : Bool) → is_over l (b ++ c) ≡ o
        → cond (is_over l (b ++ c)) (decides (story w l (settled (take l.bytes (b ++ c)))) (Some (faults.TooLong l.bytes)))
        (story w l (settled (b ++ c))) ≡ story w l (settled b)
    not_over e g true o =
        let le : length b ≤ l.bytes = ltb-false _ _ e in
        let same : story w l (settled (b ++ take (l.bytes - length b) c)) ≡ story w l (settled b) = settled-sticks w l b (take (l.bytes - length b) c) f g in
        rw (o, take-past l.bytes b c le) (ap (λ (s : Story). decides s (Some (faults.TooLong l.bytes))) same
        ∙ decides-same (story w l (settled b)) f (faults.TooLong l.bytes) g)
    not_over e g false o = rw o (settled-sticks w l b c f g)
