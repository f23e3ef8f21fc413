-- The least of joined lists.
use Rattle.std.proofs.Common.{◌≡◌, ℕ, List, [], ◌∷◌, ◌++◌, Bool, true, false, Option, Some, None, nat_lt, nat_eq, ◌&&◌, ◌||◌, refl, sym, ap, ◌∙◌, arith}
use Rattle.std.proofs.Common.{if◌then◌else◌}
use Rattle.std.proofs.lemmas.Bool.Decides.{nat_tests}
use Rattle.ccsl_rules.specs.Faults.{Fault, rank, comes_before, earlier, least}
use Rattle.ccsl_rules.proofs.Least.{lex-not, lex-trans}

before-trans : (f g h : Fault) → comes_before g f ≡ true → comes_before h g ≡ true → comes_before h f ≡ true
before-trans f g h p q = lex-trans h.at g.at f.at (rank h.cause) (rank g.cause) (rank f.cause) q p

before-not : (f g h : Fault) → comes_before g f ≡ false → comes_before h g ≡ false → comes_before h f ≡ false
before-not f g h p q = lex-not h.at g.at f.at (rank h.cause) (rank g.cause) (rank f.cause) q p

-- the choice of two, by the test
abbrev choice : Bool → Fault → Fault → Option Fault
choice b f g = if b then Some g else Some f

choices : (f g h : Fault) (a b c : Bool) → comes_before g f ≡ a → comes_before h g ≡ b → comes_before h f ≡ c →
    (a ≡ true → b ≡ true → c ≡ true) → (a ≡ false → b ≡ false → c ≡ false) →
    earlier (choice a f g) (Some h) ≡ earlier (Some f) (choice b g h)
choices f g h true true true p q r t u = rw q (rw r refl)
choices f g h true true false p q r t u = cc (t refl refl)
choices f g h true false c p q r t u = rw q (rw p refl)
choices f g h false true c p q r t u = refl
choices f g h false false false p q r t u = rw r (rw p refl)
choices f g h false false true p q r t u = cc (u refl refl)

pub earlier-assoc : (a b c : Option Fault) → earlier (earlier a b) c ≡ earlier a (earlier b c)
earlier-assoc None b c = refl
earlier-assoc (Some f) None c = refl
earlier-assoc (Some f) (Some g) None = elim (comes_before g f) as (λ b. earlier (choice b f g) None ≡ choice b f g) [ true ↦ refl | false ↦ refl ]
earlier-assoc (Some f) (Some g) (Some h) =
    choices f g h (comes_before g f) (comes_before h g) (comes_before h f) refl refl refl (before-trans f g h) (before-not f g h)

pub earlier-none : (a : Option Fault) → earlier a None ≡ a
earlier-none None = refl
earlier-none (Some f) = refl

-- the least of a joined list
pub least-append : (xs ys : List Fault) → least (xs ++ ys) ≡ earlier (least xs) (least ys)
least-append [] ys = refl
least-append (x ∷ xs) ys = ap (earlier (Some x)) (least-append xs ys) ∙ sym (earlier-assoc (Some x) (least xs) (least ys))

-- one step of a walk: the worst so far, the least of this, and the least of the rest
pub least-step : (w f : Option Fault) (xs ys : List Fault) {all : Option Fault} → f ≡ least xs → earlier w (least (xs ++ ys)) ≡ all
    → earlier (earlier w f) (least ys) ≡ all
least-step w f xs ys e h =
    ap (λ x. earlier (earlier w x) (least ys)) e ∙ (earlier-assoc w (least xs) (least ys) ∙ (sym (ap (earlier w) (least-append xs ys)) ∙ h))

pub ruleset the_least = (least-append, earlier-assoc, earlier-none)
