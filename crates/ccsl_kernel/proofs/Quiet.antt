-- Each row keeps it that what is dead does not tick and stays dead.
use Rattle.std.proofs.Common.{◌≡◌, ℕ, suc, ◌+◌, ◌-◌, ◌≤◌, ◌⊎◌, inl, inr, ⊎_elim, List, [], ◌∷◌, ◌++◌, length, Bool, true, false, not, ◌&&◌, ◌||◌, refl, sym, ap}
use Rattle.std.proofs.Common.{ap₂, ◌∙◌, arith, nat_le, nat_lt, nat_eq, if◌then◌else◌, leb-true, le-leb, ltb-true, ltb-false, lt-ltb, eqb-true}
use Rattle.std.proofs.lemmas.Bool.{and_parts, or_cases, and_from, or_left, or_right, not-true, not_from_false, cond-false, false_from_ne_true, both_ways}
use Rattle.ccsl_formula.specs.Formula.{Formula, FFalse, eval}
use Rattle.ccsl_words.specs.Word.{BinaryWord, letter, is_finite}
use Rattle.ccsl_kernel.specs.Lives.{Step}
use Rattle.ccsl_kernel.specs.Table.{Now, Operand, union_row, inter_row, minus_row, inf_row, sup_row, upto_row, upto_weakly_row, sampled_row, sampled_weakly_row}
use Rattle.ccsl_kernel.specs.Table.{delay_row, await_row, filter_row, delayed_row}
use Rattle.ccsl_kernel.specs.Ticks.{count, ever, waits, waits_weakly, waits_since, waits_below}
use Rattle.ccsl_kernel.proofs.Words.{past}
use Rattle.ccsl_words.proofs.Letters.{past_finite}

-- an operand at a step s, and at the next one
pub record Passes (s : Step) (a a' : Operand) : Type 0 where
  pub ticks : a'.ticks ≡ a.ticks ++ eval a.formula s ∷ []
  pub quiet : a.dead ≡ true → eval a.formula s ≡ false
  pub stays : a.dead ≡ true → a'.dead ≡ true

-- what is dead does not tick in the step s, and is dead after it
pub record IsQuiet (s : Step) (now now' : Now) : Type 0 where
  pub quiet : now.dead ≡ true → eval now.formula s ≡ false
  pub stays : now.dead ≡ true → now'.dead ≡ true

pub eval_cond : (c : Bool) (f g : Formula) (s : Step) → eval (if c then f else g) s ≡ (if c then eval f s else eval g s)
eval_cond true f g s = refl
eval_cond false f g s = refl

pub count-snoc : (ts : List Bool) (t : Bool) → count (ts ++ t ∷ []) ≡ (if t then suc (count ts) else count ts)
count-snoc [] t = elim t as (λ t. count (t ∷ []) ≡ (if t then 1 else 0)) [ true ↦ refl | false ↦ refl ]
count-snoc (true ∷ ts) t =
    ap suc (count-snoc ts t)
    ∙ elim t as (λ t. suc (if t then suc (count ts) else count ts) ≡ (if t then suc (suc (count ts)) else suc (count ts))) [ true ↦ refl | false ↦ refl ]
count-snoc (false ∷ ts) t = count-snoc ts t

pub ever-snoc : (ts : List Bool) (t : Bool) → ever (ts ++ t ∷ []) ≡ (ever ts || t)
ever-snoc [] t = elim t as (λ t. (t || false) ≡ t) [ true ↦ refl | false ↦ refl ]
ever-snoc (true ∷ ts) t = refl
ever-snoc (false ∷ ts) t = ever-snoc ts t

waits_bits : (x e t u w : Bool) → ((x && not (e || u)) || (t || (w && not u))) ≡ (t || (((x && not e) || w) && not u))
waits_bits x e t u w = grind arith

waits-snoc : (ts ds : List Bool) (t u : Bool) → length ts ≡ length ds → waits (ts ++ t ∷ []) (ds ++ u ∷ []) ≡ (t || (waits ts ds && not u))
waits-snoc [] [] t u e = grind arith
waits-snoc [] (y ∷ ds) t u e = let z : ⊥ = omega arith in absurd z
waits-snoc (x ∷ ts) [] t u e = let z : ⊥ = omega arith in absurd z
waits-snoc (x ∷ ts) (y ∷ ds) t u e =
    ap₂ (λ v w. (x && not v) || w) (ever-snoc ds u) (waits-snoc ts ds t u (omega arith))
    ∙ waits_bits x (ever ds) t u (waits ts ds)

weak_bits : (x y e t u w : Bool) → ((x && not (y || (e || u))) || ((t || w) && not u)) ≡ ((t || ((x && not (y || e)) || w)) && not u)
weak_bits x y e t u w = grind arith

waits_weakly-snoc : (ts ds : List Bool) (t u : Bool) → length ts ≡ length ds → waits_weakly (ts ++ t ∷ []) (ds ++ u ∷ []) ≡ ((t || waits_weakly ts ds) && not u)
waits_weakly-snoc [] [] t u e = grind arith
waits_weakly-snoc [] (y ∷ ds) t u e = let z : ⊥ = omega arith in absurd z
waits_weakly-snoc (x ∷ ts) [] t u e = let z : ⊥ = omega arith in absurd z
waits_weakly-snoc (x ∷ ts) (y ∷ ds) t u e =
    ap₂ (λ v w. (x && not (y || v)) || w) (ever-snoc ds u) (waits_weakly-snoc ts ds t u (omega arith))
    ∙ weak_bits x y (ever ds) t u (waits_weakly ts ds)

-- no new tick waits where a does not tick
waits_below-snoc : (m : ℕ) (ts ds : List Bool) (u : Bool) → length ts ≡ length ds → waits_below m (ts ++ false ∷ []) (ds ++ u ∷ []) ≡ true
    → waits_below m ts ds ≡ true
waits_below-snoc m [] [] u e h = let z : ⊥ = cc in absurd z
waits_below-snoc m [] (y ∷ ds) u e h = let z : ⊥ = omega arith in absurd z
waits_below-snoc m (x ∷ ts) [] u e h = let z : ⊥ = omega arith in absurd z
waits_below-snoc m (x ∷ ts) (y ∷ ds) u e h =
    ⊎_elim
    (λ w. let v = and_parts x (nat_lt (count (ds ++ u ∷ [])) m) w in
    or_left (x && nat_lt (count ds) m) (waits_below m ts ds)
    (and_from x (nat_lt (count ds) m) v.0 (lt-ltb (count ds) m (let l = ltb-true (count (ds ++ u ∷ [])) m v.1 in omega (arith, l, grows ds u)))))
    (λ w. or_right (x && nat_lt (count ds) m) (waits_below m ts ds) (waits_below-snoc m ts ds u (omega arith) w))
    (or_cases (x && nat_lt (count (ds ++ u ∷ [])) m) (waits_below m (ts ++ false ∷ []) (ds ++ u ∷ [])) h)
  where
    grows : (ds : List Bool) (u : Bool) → count ds ≤ count (ds ++ u ∷ [])
    grows ds true = let e = count-snoc ds true in omega arith
    grows ds false = let e = count-snoc ds false in omega arith

since_below : (m : ℕ) → 1 ≤ m → (ts ds : List Bool) → waits_since (m - 1) ts ds ≡ true → waits_below m ts ds ≡ true
since_below m pos [] ds h = let z : ⊥ = cc in absurd z
since_below m pos (x ∷ ts) [] h = let z : ⊥ = cc in absurd z
since_below m pos (x ∷ ts) (y ∷ ds) h =
    ⊎_elim
    (λ w. let v = and_parts x (nat_eq (count ds) (m - 1)) w in
    or_left (x && nat_lt (count ds) m) (waits_below m ts ds)
    (and_from x (nat_lt (count ds) m) v.0 (lt-ltb (count ds) m (let e = eqb-true (count ds) (m - 1) v.1 in omega arith))))
    (λ w. or_right (x && nat_lt (count ds) m) (waits_below m ts ds) (since_below m pos ts ds w))
    (or_cases (x && nat_eq (count ds) (m - 1)) (waits_since (m - 1) ts ds) h)

-- the ticks of an operand after one more step
module _ (s : Step) (a a' : Operand) (p : Passes s a a') where
  counts : count a'.ticks ≡ (if eval a.formula s then suc (count a.ticks) else count a.ticks)
  counts = ap count p.ticks ∙ count-snoc a.ticks (eval a.formula s)

  pub more : count a.ticks ≤ count a'.ticks
  more = on (eval a.formula s) counts
    where
      on : (t : Bool) → count a'.ticks ≡ (if t then suc (count a.ticks) else count a.ticks) → count a.ticks ≤ count a'.ticks
      on true e = omega arith
      on false e = omega arith

  pub still : a.dead ≡ true → count a'.ticks ≡ count a.ticks
  still h = counts ∙ cond-false (eval a.formula s) (suc (count a.ticks)) (count a.ticks) (p.quiet h)

  pub ever_more : ever a.ticks ≡ true → ever a'.ticks ≡ true
  ever_more h = ap ever p.ticks ∙ ever-snoc a.ticks (eval a.formula s) ∙ or_left (ever a.ticks) (eval a.formula s) h

  pub delay_quiet : (m : ℕ) → IsQuiet s (delay_row m a) (delay_row m a')
  delay_quiet m = record {
    quiet = λ h. eval_cond (nat_le m (count a.ticks)) a.formula FFalse s ∙ cond_same (nat_le m (count a.ticks)) (eval a.formula s) (p.quiet h);
    stays = p.stays;
  }
    where
      cond_same : (c x : Bool) → x ≡ false → (if c then x else false) ≡ false
      cond_same true x e = e
      cond_same false x e = refl

  pub await_quiet : (m : ℕ) → IsQuiet s (await_row m a) (await_row m a')
  await_quiet m = record {
    quiet = λ h. eval_cond (nat_eq (suc (count a.ticks)) m) a.formula FFalse s
        ∙ at (nat_eq (suc (count a.ticks)) m) refl (or_cases a.dead (nat_le m (count a.ticks)) h);
    stays = λ h. ⊎_elim (λ x. or_left a'.dead (nat_le m (count a'.ticks)) (p.stays x))
        (λ l. or_right a'.dead (nat_le m (count a'.ticks)) (le-leb m (count a'.ticks) (let l' = leb-true m (count a.ticks) l in omega (arith, more, l'))))
        (or_cases a.dead (nat_le m (count a.ticks)) h);
  }
    where
      at : (c : Bool) → nat_eq (suc (count a.ticks)) m ≡ c → (a.dead ≡ true) ⊎ (nat_le m (count a.ticks) ≡ true)
          → (if c then eval a.formula s else false) ≡ false
      at false e h = refl
      at true e (inl x) = p.quiet x
      at true e (inr l) = let e' = eqb-true (suc (count a.ticks)) m e in let l' = leb-true m (count a.ticks) l in let z : ⊥ = omega arith in absurd z

  pub filter_quiet : (w : BinaryWord) (o : ℕ) → IsQuiet s (filter_row w o a) (filter_row w o a')
  filter_quiet w o = record {
    quiet = λ h. eval_cond (letter w (o + count a.ticks)) a.formula FFalse s
        ∙ at (letter w (o + count a.ticks)) refl (or_cases a.dead (past w (o + count a.ticks)) h);
    stays = λ h. ⊎_elim (λ x. or_left a'.dead (past w (o + count a'.ticks)) (p.stays x))
        (λ e. let v = and_parts (is_finite w) (nat_le (length w.prefix) (o + count a.ticks)) e in
        or_right a'.dead (past w (o + count a'.ticks))
        (and_from (is_finite w) (nat_le (length w.prefix) (o + count a'.ticks)) v.0
        (le-leb (length w.prefix) (o + count a'.ticks) (let l = leb-true (length w.prefix) (o + count a.ticks) v.1 in omega (arith, l, more)))))
        (or_cases a.dead (past w (o + count a.ticks)) h);
  }
    where
      at : (c : Bool) → letter w (o + count a.ticks) ≡ c → (a.dead ≡ true) ⊎ (past w (o + count a.ticks) ≡ true)
          → (if c then eval a.formula s else false) ≡ false
      at false e h = refl
      at true e (inl x) = p.quiet x
      at true e (inr l) = let v = and_parts (is_finite w) (nat_le (length w.prefix) (o + count a.ticks)) l in
          let e' = past_finite w (o + count a.ticks) v.0 (leb-true (length w.prefix) (o + count a.ticks) v.1) in let z : ⊥ = cc in absurd z

module _ (s : Step) (a a' d d' : Operand) (p : Passes s a a') (q : Passes s d d') where
  pub union_quiet : IsQuiet s (union_row a d) (union_row a' d')
  union_quiet = record {
    quiet = λ h. grind (arith, p.quiet, q.quiet);
    stays = λ h. grind (arith, p.stays, q.stays);
  }

  pub inter_quiet : IsQuiet s (inter_row a d) (inter_row a' d')
  inter_quiet = record {
    quiet = λ h. grind (arith, p.quiet, q.quiet);
    stays = λ h. grind (arith, p.stays, q.stays);
  }

  pub minus_quiet : IsQuiet s (minus_row a d) (minus_row a' d')
  minus_quiet = record {
    quiet = λ h. grind (arith, p.quiet, q.quiet);
    stays = λ h. grind (arith, p.stays, q.stays);
  }

  pub inf_quiet : IsQuiet s (inf_row a d) (inf_row a' d')
  inf_quiet = record {
    quiet = λ h. let w = and_parts a.dead d.dead h in grind (arith, p.quiet, q.quiet, eval_cond);
    stays = λ h. grind (arith, p.stays, q.stays);
  }

  pub sup_quiet : IsQuiet s (sup_row a d) (sup_row a' d')
  sup_quiet = record {
    quiet = λ h. ⊎_elim
        (λ l. let w = and_parts a.dead (nat_le (count a.ticks) (count d.ticks)) l in let l' = leb-true (count a.ticks) (count d.ticks) w.1 in let n =
        p.quiet w.0 in grind (arith, eval_cond, ltb-true, ltb-false))
        (λ l. let w = and_parts d.dead (nat_le (count d.ticks) (count a.ticks)) l in let l' = leb-true (count d.ticks) (count a.ticks) w.1 in let n =
        q.quiet w.0 in grind (arith, eval_cond, ltb-true, ltb-false))
        (or_cases (a.dead && nat_le (count a.ticks) (count d.ticks)) (d.dead && nat_le (count d.ticks) (count a.ticks)) h);
    stays = λ h. ⊎_elim
        (λ l. let w = and_parts a.dead (nat_le (count a.ticks) (count d.ticks)) l in
        let l' : count a'.ticks ≤ count d'.ticks = let l'' =
        leb-true (count a.ticks) (count d.ticks) w.1 in omega (arith, still s a a' p w.0, more s d d' q, l'') in
        or_left (a'.dead && nat_le (count a'.ticks) (count d'.ticks)) (d'.dead && nat_le (count d'.ticks) (count a'.ticks))
        (and_from a'.dead (nat_le (count a'.ticks) (count d'.ticks)) (p.stays w.0) (le-leb (count a'.ticks) (count d'.ticks) l')))
        (λ l. let w = and_parts d.dead (nat_le (count d.ticks) (count a.ticks)) l in
        let l' : count d'.ticks ≤ count a'.ticks = let l'' =
        leb-true (count d.ticks) (count a.ticks) w.1 in omega (arith, still s d d' q w.0, more s a a' p, l'') in
        or_right (a'.dead && nat_le (count a'.ticks) (count d'.ticks)) (d'.dead && nat_le (count d'.ticks) (count a'.ticks))
        (and_from d'.dead (nat_le (count d'.ticks) (count a'.ticks)) (q.stays w.0) (le-leb (count d'.ticks) (count a'.ticks) l')))
        (or_cases (a.dead && nat_le (count a.ticks) (count d.ticks)) (d.dead && nat_le (count d.ticks) (count a.ticks)) h);
  }

  pub upto_quiet : IsQuiet s (upto_row a d) (upto_row a' d')
  upto_quiet = record {
    quiet = λ h. grind (arith, p.quiet, eval_cond);
    stays = λ h. grind (arith, p.stays, ever_more s d d' q);
  }

  pub upto_weakly_quiet : IsQuiet s (upto_weakly_row a d) (upto_weakly_row a' d')
  upto_weakly_quiet = record {
    quiet = λ h. grind (arith, p.quiet, eval_cond);
    stays = λ h. grind (arith, p.stays, ever_more s d d' q);
  }

  -- from here on the operands were born together
  module _ (len : length a.ticks ≡ length d.ticks) where
    waits_next : waits a'.ticks d'.ticks ≡ (eval a.formula s || (waits a.ticks d.ticks && not (eval d.formula s)))
    waits_next = ap₂ waits p.ticks q.ticks ∙ waits-snoc a.ticks d.ticks (eval a.formula s) (eval d.formula s) len

    pub sampled_quiet : IsQuiet s (sampled_row a d) (sampled_row a' d')
    sampled_quiet = record {
      quiet = λ h. grind (arith, p.quiet, q.quiet, eval_cond);
      stays = λ h. let w = waits_next in grind (arith, p.quiet, p.stays, q.stays);
    }

    waits_weakly_next : waits_weakly a'.ticks d'.ticks ≡ ((eval a.formula s || waits_weakly a.ticks d.ticks) && not (eval d.formula s))
    waits_weakly_next = ap₂ waits_weakly p.ticks q.ticks ∙ waits_weakly-snoc a.ticks d.ticks (eval a.formula s) (eval d.formula s) len

    pub sampled_weakly_quiet : IsQuiet s (sampled_weakly_row a d) (sampled_weakly_row a' d')
    sampled_weakly_quiet = record {
      quiet = λ h. grind (arith, p.quiet, q.quiet, eval_cond);
      stays = λ h. let w = waits_weakly_next in grind (arith, p.quiet, p.stays, q.stays);
    }

    pub delayed_quiet : (m : ℕ) → 1 ≤ m → IsQuiet s (delayed_row m a d) (delayed_row m a' d')
    delayed_quiet m pos = record {
      quiet = λ h. let w = since_below m pos a.ticks d.ticks in grind (arith, q.quiet, eval_cond);
      stays = λ h. ⊎_elim
          (λ y. or_left d'.dead (a'.dead && not (waits_below m a'.ticks d'.ticks)) (q.stays y))
          (λ w. let v = and_parts a.dead (not (waits_below m a.ticks d.ticks)) w in
          or_right d'.dead (a'.dead && not (waits_below m a'.ticks d'.ticks))
          (and_from a'.dead (not (waits_below m a'.ticks d'.ticks)) (p.stays v.0)
          (not_from_false (waits_below m a'.ticks d'.ticks)
          (false_from_ne_true (waits_below m a'.ticks d'.ticks)
          (λ b. both_ways (waits_below m a.ticks d.ticks) (not-true (waits_below m a.ticks d.ticks) v.1) (below_before m v.0 b))))))
          (or_cases d.dead (a.dead && not (waits_below m a.ticks d.ticks)) h);
    }
      where
        below_before : (m : ℕ) → a.dead ≡ true → waits_below m a'.ticks d'.ticks ≡ true → waits_below m a.ticks d.ticks ≡ true
        below_before m x h = waits_below-snoc m a.ticks d.ticks (eval d.formula s) len
            (sym (ap₂ (waits_below m) (p.ticks ∙ ap (λ t. a.ticks ++ t ∷ []) (p.quiet x)) q.ticks) ∙ h)
