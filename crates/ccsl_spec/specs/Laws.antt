-- What is true of the texts of specifications.
use Rattle.std.specs.Prelude.{◌≡◌, ◌⊎◌, ℕ, List}
use Rattle.ccsl_kernel.specs.Syntax.{System}
use Rattle.ccsl_kernel.specs.Accepted.{IsAccepted}
use Rattle.ccsl_spec.specs.Specifications.{IsSystemOf, IsRefusedWith}

-- a text is at most one system
abbrev pub OneSystem : Type 0
OneSystem = (text : List ℕ) (K L : System) → IsSystemOf text K → IsSystemOf text L → K ≡ L

-- it is refused with at most one line
abbrev pub OneRefusal : Type 0
OneRefusal = (text line other : List ℕ) → IsRefusedWith text line → IsRefusedWith text other → line ≡ other

-- and not both
abbrev pub NotBoth : Type 0
NotBoth = (text line : List ℕ) (K : System) → IsSystemOf text K → IsRefusedWith text line → ⊥

-- EACH TEXT IS A SYSTEM OR IS REFUSED
abbrev pub SystemOrRefusal : Type 0
SystemOrRefusal = (text : List ℕ) → ((K : System) × IsSystemOf text K) ⊎ ((line : List ℕ) × IsRefusedWith text line)

-- THE SYSTEM OF A TEXT IS ACCEPTED
abbrev pub SystemsAreAccepted : Type 0
SystemsAreAccepted = (text : List ℕ) (K : System) → IsSystemOf text K → IsAccepted K
