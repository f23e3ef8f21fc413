-- Readers: functions from a list of terminals to a value and the terminals behind it, or to a fault and the terminals from it on.
use Rattle.std.specs.Prelude.{ℕ, zero, suc, Bool, true, false, List, [], ◌∷◌, length, Option, Some, None}
use Rattle.ccsl_grammar.specs.Terminals.{Terminal}

pub data Fault : Type 0 where
  no_syntax : Fault
  too_deep : Fault

pub data Reply (A : Type 0) : Type 0 where
  took : A → List Terminal → Reply A
  stopped : Fault → List Terminal → Reply A

abbrev pub Reader : Type 0 → Type 0
Reader A = List Terminal → Reply A

abbrev pub followed : {A B : Type 0} → Reply A → (A → Reader B) → Reply B
followed (took v rest) g = g v rest
followed (stopped f rest) g = stopped f rest

infixr 10 ◌>>=◌
abbrev pub ◌>>=◌ : {A B : Type 0} → Reader A → (A → Reader B) → Reader B
(f >>= g) ts = followed (f ts) g

infixr 10 ◌>>◌
abbrev pub ◌>>◌ : {A B : Type 0} → Reader A → Reader B → Reader B
(f >> g) ts = followed (f ts) (λ _. g)

abbrev pub given : {A : Type 0} → A → Reader A
given v ts = took v ts

-- one terminal that has a value
abbrev pub valued : {A : Type 0} → Option A → Terminal → List Terminal → Reply A
valued (Some v) t ts = took v ts
valued None t ts = stopped no_syntax (t ∷ ts)

abbrev pub accept : {A : Type 0} → (Terminal → Option A) → Reader A
accept value [] = stopped no_syntax []
accept value (t ∷ ts) = valued (value t) t ts

abbrev pub begins : (Terminal → Bool) → List Terminal → Bool
begins test [] = false
begins test (t ∷ ts) = test t

abbrev pub picked : {A : Type 0} → Bool → Reader A → Reader A → Reader A
picked true f g ts = f ts
picked false f g ts = g ts

-- the first reader where the next terminal passes the test, else the second
abbrev pub choose : {A : Type 0} → (Terminal → Bool) → Reader A → Reader A → Reader A
choose test f g ts = picked (begins test ts) f g ts

-- the same reader again and again, while the next terminal passes the test, at most n times
abbrev pub many_within : {A : Type 0} → ℕ → (Terminal → Bool) → Reader A → Reader (List A)
many_within zero test f = given []
many_within (suc n) test f = choose test (f >>= λ v. many_within n test f >>= λ vs. given (v ∷ vs)) (given [])

unfoldable pub many : {A : Type 0} → (Terminal → Bool) → Reader A → Reader (List A)
many test f ts = many_within (length ts) test f ts
