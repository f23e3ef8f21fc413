-- The reply of the reader is what the grammar says, and the grammar says one reply alone.
use Rattle.std.proofs.Common.{◌≡◌, ℕ, max, List, [], ◌∷◌, ◌++◌, length, length-append, Option, Some, None, refl, sym, ap, subst, ◌∙◌, arith, append_assoc}
use Rattle.std.proofs.lemmas.List.{append-nil}
use Rattle.ccsl_grammar.specs.Terminals.{Terminal}
use Rattle.ccsl_ast.specs.Trees.{PlainFile}
use Rattle.ccsl_grammar.specs.Reader.{no_syntax, too_deep, Reply, took, stopped, Reader, followed, many}
use Rattle.ccsl_grammar.specs.Grammar.{Derivation, version, file_spelled, file_tree}
use Rattle.ccsl_grammar.specs.Deep.{file_deep}
use Rattle.ccsl_grammar.specs.Places.{Stops, Is, Begins}
use Rattle.ccsl_grammar.specs.Parser.{is_definition, definition_at, version_at, system_at, ends, file_at}
use Rattle.ccsl_grammar.specs.File.{IsFile, CanGoOn, DeepAt, FailsAt}
use Rattle.ccsl_grammar.specs.Verdict.{Verdict}
use Rattle.ccsl_grammar.specs.Laws.{OneTree, ReaderIsRight, OneVerdict}
use Rattle.ccsl_grammar.proofs.Good.{GoodAs}
use Rattle.ccsl_grammar.proofs.Files.{file_reads}
use Rattle.ccsl_grammar.proofs.Outcome.{outcome}
use Rattle.ccsl_grammar.proofs.CompleteLines.{file_complete}
use Rattle.ccsl_grammar.proofs.Depth.{derivation_depth, file_shallow}

-- ---- what the code needs: a reply that takes leaves nothing

reply_ends : {A B : Type 0} (r : Reply A) (g : A → Reader B) → ((v : A) (ts : List Terminal) (w : B) (z : List Terminal) → g v ts ≡ took w z → z ≡ [])
    → (w : B) (z : List Terminal) → followed r g ≡ took w z → z ≡ []
reply_ends (took v ts) g h w z e = h v ts w z e
reply_ends (stopped k ts) g h w z e = absurd cc

ends_ends : {A : Type 0} (v : A) (ts : List Terminal) (w : A) (z : List Terminal) → ends v ts ≡ took w z → z ≡ []
ends_ends v [] w z e = cc
ends_ends v (t ∷ ts) w z e = absurd cc

file_ends : (room : ℕ) (ts : List Terminal) (v : PlainFile) (z : List Terminal) → file_at room ts ≡ took v z → z ≡ []
unfolding file_at
file_ends room ts v z e =
    reply_ends (version_at ts) _
    (λ two ts1. reply_ends (many is_definition (definition_at two room) ts1) _
    (λ ds ts2. reply_ends (system_at two room ts2) _ (λ ls ts3. ends_ends (record { version = version two; definitions = ds; lines = ls }) ts3))) v z e

-- ---- no file gives a fault of syntax

never_syntax : {A : Type 0} (o : Option (List Terminal)) (v : A) (z y : List Terminal) → outcome o v z ≡ stopped no_syntax y → ⊥
never_syntax None v z y e = cc
never_syntax (Some x) v z y e = cc

-- what is spelled from a derivation is answered so
spelled_reply : (room : ℕ) (d : Derivation) (ts : List Terminal) → file_spelled d ≡ ts → file_at room ts ≡ outcome (file_deep room d []) (file_tree d) []
spelled_reply room d ts e = ap (file_at room) (sym e) ∙ file_complete room d

-- ---- lists that are cut at two places

-- x ++ y and p ++ q are one list: x is p, or one of the two goes on with an element that the other has behind the cut
data Cuts (x y p q : List Terminal) : Type 0 where
  same_cut : x ≡ p → y ≡ q → Cuts x y p q
  later : (t : Terminal) (us vs : List Terminal) → p ≡ x ++ t ∷ us → y ≡ t ∷ vs → Cuts x y p q
  sooner : (t : Terminal) (us vs : List Terminal) → x ≡ p ++ t ∷ us → q ≡ t ∷ vs → Cuts x y p q

cuts_cons : (a b : Terminal) (x y p q : List Terminal) → a ≡ b → Cuts x y p q → Cuts (a ∷ x) y (b ∷ p) q
cuts_cons a b x y p q e (same_cut h i) = same_cut (cc) i
cuts_cons a b x y p q e (later t us vs h i) = later t us vs (cc) i
cuts_cons a b x y p q e (sooner t us vs h i) = sooner t us vs (cc) i

cuts : (x y p q : List Terminal) → x ++ y ≡ p ++ q → Cuts x y p q
cuts [] y [] q e = same_cut refl e
cuts [] y (b ∷ p) q e = later b p (p ++ q) refl e
cuts (a ∷ x) y [] q e = sooner a x (x ++ y) refl (sym e)
cuts (a ∷ x) y (b ∷ p) q e = cuts_cons a b x y p q (cc) (cuts x y p q (cc))

-- two cuts before the same rest are one
cut_again : (x y z : List Terminal) → x ++ z ≡ y ++ z → x ≡ y
cut_again x y z e = cut_as (cuts x z y z e)
  where
    cut_as : Cuts x z y z → x ≡ y
    cut_as (same_cut h i) = h
    cut_as (later t us vs h i) = absurd (omega (arith, ap length e, length-append x z, length-append y z, ap length h, length-append x (t ∷ us)))
    cut_as (sooner t us vs h i) = absurd (omega (arith, ap length e, length-append x z, length-append y z, ap length h, length-append y (t ∷ us)))

-- ---- an expression that stands too deep is answered

deep_as : (room : ℕ) (front behind more : List Terminal) (first : Terminal) (r : Reply PlainFile) → r ≡ stopped too_deep (first ∷ more)
    → GoodAs (Stops file_spelled (file_deep room)) (Is file_spelled (file_deep room) file_tree) (file_at room) (front ++ first ∷ more) r
    → file_at room (front ++ first ∷ behind) ≡ stopped too_deep (first ∷ behind)
deep_as room front behind more first (took v z) e h = absurd cc
deep_as room front behind more first (stopped k z) e h =
    let k-is : k ≡ too_deep = cc in
    let z-is : z ≡ first ∷ more = cc in
    let w : front ++ first ∷ more ≡ h.front ++ first ∷ more = h.whole ∙ ap (λ q. h.front ++ q) z-is in
    let f : front ≡ h.front = cut_again front h.front (first ∷ more) w in
    rw (f, h.again first more behind z-is, k-is) refl

pub deep_replies : (room : ℕ) (front rest : List Terminal) → DeepAt room front rest → file_at room (front ++ rest) ≡ stopped too_deep rest
deep_replies room front rest d =
    let e : file_at room (front ++ d.first ∷ d.more) ≡ stopped too_deep (d.first ∷ d.more) =
    spelled_reply room d.derivation (front ++ d.first ∷ d.more) d.spelled ∙ rw d.deep refl in
    rw d.rest_is (deep_as room front d.behind d.more d.first (file_at room (front ++ d.first ∷ d.more)) e ((file_reads room).at (front ++ d.first ∷ d.more)).is)

-- ---- THE READER IS RIGHT

can_go_on : (front : List Terminal) → Begins file_spelled front → CanGoOn front
can_go_on front b = record { more = b.more; tree = file_tree b.whole; is = record { derivation = b.whole; spelled = b.is; tree = refl } }

verdict_as : (room : ℕ) (ts : List Terminal) (r : Reply PlainFile) → file_at room ts ≡ r
    → GoodAs (Stops file_spelled (file_deep room)) (Is file_spelled (file_deep room) file_tree) (file_at room) ts r → Verdict room ts r
verdict_as room ts (took f rest) e h =
    let z : rest ≡ [] = file_ends room ts f rest e in (
      record {
        is = record {
          derivation = h.holds.whole;
          spelled = h.holds.is ∙ sym (append-nil h.front) ∙ ap (λ q. h.front ++ q) (sym z) ∙ sym h.whole;
          tree =
              h.holds.tree_is;
        };
        none_deep = h.holds.deep_is [];
      },
      z,
    )
verdict_as room ts (stopped too_deep rest) e h = (
  h.front,
  h.whole,
  record {
    derivation = h.holds.whole;
    first = h.holds.first;
    behind = h.holds.behind;
    more = h.holds.more;
    rest_is = h.holds.rest_is;
    spelled = h.holds.is;
    deep = h.holds.deep_is [] ∙ ap (λ q. Some (h.holds.first ∷ q)) (append-nil h.holds.more);
  },
)
verdict_as room ts (stopped no_syntax rest) e h = (
  h.front,
  h.whole,
  record {
    before = can_go_on h.front h.holds;
    no_more = λ t us i c.
        let w : file_spelled c.is.derivation ≡ h.front ++ t ∷ c.more = c.is.spelled ∙ append_assoc h.front (t ∷ []) c.more in
        never_syntax (file_deep room c.is.derivation []) (file_tree c.is.derivation) [] (t ∷ c.more)
        (sym (spelled_reply room c.is.derivation (h.front ++ t ∷ c.more) w) ∙ h.again t us c.more i);
    no_end = λ f i c.
        let w : file_spelled c.derivation ≡ ts = c.spelled ∙ sym (append-nil h.front) ∙ ap (λ q. h.front ++ q) (sym i) ∙ sym h.whole in
        never_syntax (file_deep room c.derivation []) (file_tree c.derivation) [] rest (sym (spelled_reply room c.derivation ts w) ∙ e);
    none_deep = λ x y i d.
        let r : stopped too_deep y ≡ stopped no_syntax rest = sym (deep_replies room x y d) ∙ ap (file_at room) (sym i ∙ sym h.whole) ∙ e in
        cc;
  },
)

pub reader_is_right : ReaderIsRight
reader_is_right room ts = verdict_as room ts (file_at room ts) refl ((file_reads room).at ts).is

-- ---- ONE TREE

pub one_tree : OneTree
one_tree ts f g h i =
    let room : ℕ = max (derivation_depth h.derivation) (derivation_depth i.derivation) in
    let hd : file_deep room h.derivation [] ≡ None = file_shallow room h.derivation [] (omega arith) in
    let id : file_deep room i.derivation [] ≡ None = file_shallow room i.derivation [] (omega arith) in
    let a : file_at room ts ≡ took (file_tree h.derivation) [] = spelled_reply room h.derivation ts h.spelled ∙ rw hd refl in
    let b : file_at room ts ≡ took (file_tree i.derivation) [] = spelled_reply room i.derivation ts i.spelled ∙ rw id refl in
    let e : file_tree h.derivation ≡ file_tree i.derivation = cc in
    sym h.tree ∙ e ∙ i.tree

-- ---- ONE VERDICT

goes_on : (front : List Terminal) (t : Terminal) (us : List Terminal) → CanGoOn (front ++ t ∷ us) → CanGoOn (front ++ t ∷ [])
goes_on front t us c = record {
  more = us ++ c.more;
  tree = c.tree;
  is = record {
    derivation = c.is.derivation;
    tree = c.is.tree;
    spelled = c.is.spelled ∙ append_assoc front (t ∷ us) c.more ∙ sym (append_assoc front (t ∷ []) (us ++ c.more));
  };
}

-- two places of a fault of syntax are one
fails_once : (room : ℕ) (x y p q : List Terminal) → FailsAt room x y → FailsAt room p q → Cuts x y p q → y ≡ q
fails_once room x y p q f g (same_cut h i) = i
fails_once room x y p q f g (later t us vs h i) = absurd (f.no_more t vs i (goes_on x t us (subst (λ (p : List Terminal). CanGoOn p) h g.before)))
fails_once room x y p q f g (sooner t us vs h i) = absurd (g.no_more t vs i (goes_on p t us (subst (λ (x : List Terminal). CanGoOn x) h f.before)))

-- a list that is a file, or fails, does not do both
not_both : (room : ℕ) (ts front rest : List Terminal) (f : PlainFile) → ts ≡ front ++ rest → FailsAt room front rest → IsFile ts f → ⊥
not_both room ts front [] f e h i = h.no_end f refl (record { derivation = i.derivation; spelled = i.spelled ∙ e ∙ append-nil front; tree = i.tree })
not_both room ts front (t ∷ us) f e h i =
    h.no_more t us refl (record {
      more = us;
      tree = f;
      is =
          record { derivation = i.derivation; spelled = i.spelled ∙ e ∙ sym (append_assoc front (t ∷ []) us); tree = i.tree };
    })

syntax_as : (room : ℕ) (ts front rest : List Terminal) → ts ≡ front ++ rest → FailsAt room front rest → (r : Reply PlainFile) → Verdict room ts r
    → r ≡ stopped no_syntax rest
syntax_as room ts front rest e h (took f z) v = absurd (not_both room ts front rest f e h v.0.is)
syntax_as room ts front rest e h (stopped too_deep z) v = absurd (h.none_deep v.0 z (sym e ∙ v.1) v.2)
syntax_as room ts front rest e h (stopped no_syntax z) v =
    ap (stopped no_syntax) (sym (fails_once room front rest v.0 z h v.2 (cuts front rest v.0 z (sym e ∙ v.1))))

pub one_verdict : OneVerdict
one_verdict room ts (took f rest) v =
    spelled_reply room v.0.is.derivation ts v.0.is.spelled ∙ rw (v.0.none_deep, v.0.is.tree, v.1) refl
one_verdict room ts (stopped too_deep rest) v = ap (file_at room) v.1 ∙ deep_replies room v.0 rest v.2
one_verdict room ts (stopped no_syntax rest) v = syntax_as room ts v.0 rest v.1 v.2 (file_at room ts) (reader_is_right room ts)
