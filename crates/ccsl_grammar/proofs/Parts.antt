-- A part of a derivation that can be continued lets the whole be continued.
use Rattle.std.proofs.Common.{◌≡◌, List, ◌∷◌, ◌++◌, Option, Some, None, refl, sym, ap, subst, ◌∙◌, append_assoc}
use Rattle.ccsl_grammar.specs.Terminals.{Terminal}
use Rattle.ccsl_grammar.specs.Reader.{Fault, no_syntax, too_deep, Reader, ◌>>=◌}
use Rattle.ccsl_grammar.specs.Places.{Begins, Stops, Is, shallow}
use Rattle.ccsl_grammar.proofs.Good.{Good, bind, weaker}

-- whole c is the derivation with c in its place; front q the terminals up to c and then q; behind the terminals after c
module _ {C D : Type 0} (spelled : C → List Terminal) (deep : C → List Terminal → Option (List Terminal)) (spelled' : D → List Terminal)
    (deep' : D → List Terminal → Option (List Terminal))
    (whole : C → D) (front : List Terminal → List Terminal) (behind : List Terminal)
    (front_is : (x y : List Terminal) → front (x ++ y) ≡ front x ++ y)
    (whole_is : (c : C) → spelled' (whole c) ≡ front (spelled c ++ behind))
    (deep_is : (c : C) (z after : List Terminal) → deep c (behind ++ after) ≡ Some z → deep' (whole c) after ≡ Some z) where
  pub within : (k : Fault) (p z : List Terminal) → Stops spelled deep k p z → Stops spelled' deep' k (front p) z
  within no_syntax p z h = record {
    whole = whole h.whole;
    more = h.more ++ behind;
    is = whole_is h.whole ∙ ap (λ q. front (q ++ behind)) h.is ∙ ap front (append_assoc p h.more behind) ∙ front_is p (h.more ++ behind);
  }
  within too_deep p z h = record {
    whole = whole h.whole;
    first = h.first;
    behind = h.behind;
    more = h.more ++ behind;
    rest_is = h.rest_is;
    is = whole_is h.whole ∙ ap (λ q. front (q ++ behind)) h.is ∙ ap front (append_assoc p (h.first ∷ h.more) behind)
        ∙ front_is p (h.first ∷ (h.more ++ behind));
    deep_is = λ after. deep_is h.whole (h.first ∷ ((h.more ++ behind) ++ after)) after
        (h.deep_is (behind ++ after) ∙ ap (λ q. Some (h.first ∷ q)) (sym (append_assoc h.more behind after)));
  }

-- ---- what is proved of the reader of a nonterminal

-- at each list: what it takes is a derivation in which nothing stands too deep, and where it stops a derivation can be continued
pub record Reads {C T : Type 0} (spelled : C → List Terminal) (deep : C → List Terminal → Option (List Terminal)) (tree : C → T) (f : Reader T) : Type 0 where
  pub at : (ts : List Terminal) → Good (Stops spelled deep) (Is spelled deep tree) f ts

-- a part in which nothing stands deep, and which is its own tree
abbrev pub Self : {C : Type 0} (spelled : C → List Terminal) (f : Reader C) → Type 0
Self spelled f = Reads spelled shallow (λ c. c) f

-- one such part
pub itself : {C : Type 0} {spelled : C → List Terminal} {v : C} {p : List Terminal} → spelled v ≡ p → Is spelled shallow (λ c. c) v p
itself {v = v} e = record { whole = v; is = e; tree_is = refl; deep_is = λ after. refl }

-- a part that takes all that is read
pub built : {C T : Type 0} {spelled : C → List Terminal} {deep : C → List Terminal → Option (List Terminal)} {tree : C → T} {p : List Terminal}
    → (c : C) → spelled c ≡ p → ((after : List Terminal) → deep c after ≡ None) → Is spelled deep tree (tree c) p
built c e d = record { whole = c; is = e; tree_is = refl; deep_is = d }

-- front begins this derivation
pub begun : {C : Type 0} {spelled : C → List Terminal} {front : List Terminal} → (c : C) (more : List Terminal) → spelled c ≡ front ++ more
    → Begins spelled front
begun c more e = record { whole = c; more = more; is = e }

-- a shallow part in a whole
module _ {C D : Type 0} (spelled : C → List Terminal) (spelled' : D → List Terminal) (deep' : D → List Terminal → Option (List Terminal))
    (whole : C → D) (front : List Terminal → List Terminal) (behind : List Terminal)
    (front_is : (x y : List Terminal) → front (x ++ y) ≡ front x ++ y)
    (whole_is : (c : C) → spelled' (whole c) ≡ front (spelled c ++ behind)) where
  pub inside : (k : Fault) (p z : List Terminal) → Stops spelled shallow k p z → Stops spelled' deep' k (front p) z
  inside k p z h = within spelled shallow spelled' deep' whole front behind front_is whole_is (λ c z after e. absurd cc) k p z h

module _ {C T B : Type 0} {spelled : C → List Terminal} {deep : C → List Terminal → Option (List Terminal)} {tree : C → T} {f : Reader T}
    (reads : Reads spelled deep tree f)
    (S : Fault → List Terminal → List Terminal → Type 0) (Q : B → List Terminal → Type 0) where
  -- a part, and what is read behind it
  pub part_then : (g : T → Reader B) (ts : List Terminal) → ((k : Fault) (p z : List Terminal) → Stops spelled deep k p z → S k p z)
      → ((c : C) → ((after : List Terminal) → deep c after ≡ None) → (z : List Terminal)
      → Good (λ k q y. S k (spelled c ++ q) y) (λ v q. Q v (spelled c ++ q)) (g (tree c)) z)
      → Good S Q (f >>= g) ts
  part_then g ts out on = bind (Stops spelled deep) (Is spelled deep tree) S Q f g ts (reads.at ts) out
      (λ v p z i e. subst (λ (p : List Terminal). Good (λ k q y. S k (p ++ q) y) (λ w q. Q w (p ++ q)) (g v) z) i.is
      (subst (λ (v : T). Good (λ k q y. S k (spelled i.whole ++ q) y) (λ w q. Q w (spelled i.whole ++ q)) (g v) z) i.tree_is (on i.whole i.deep_is z)))

module _ {C T : Type 0} {spelled : C → List Terminal} {deep : C → List Terminal → Option (List Terminal)} {tree : C → T} {f : Reader T}
    (reads : Reads spelled deep tree f)
    (S : Fault → List Terminal → List Terminal → Type 0) (Q : T → List Terminal → Type 0) where
  -- a part behind which nothing is read
  pub part_last : (ts : List Terminal) → ((k : Fault) (p z : List Terminal) → Stops spelled deep k p z → S k p z)
      → ((c : C) → ((after : List Terminal) → deep c after ≡ None) → Q (tree c) (spelled c)) → Good S Q f ts
  part_last ts out on = weaker (Stops spelled deep) S (Is spelled deep tree) Q f ts out
      (λ v p i. subst (λ (p : List Terminal). Q v p) i.is (subst (λ (v : T). Q v (spelled i.whole)) i.tree_is (on i.whole i.deep_is))) (reads.at ts)
