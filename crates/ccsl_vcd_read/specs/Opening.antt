-- What is kept where a body begins.
use Rattle.std.specs.Prelude.{◌≡◌, List, [], true, false, Ok, map}
use Rattle.ccsl_vcd.specs.Binding.{Declaration, Wanted, bind}
use Rattle.ccsl_bind.specs.Codes.{codes_of}
use Rattle.ccsl_bind.specs.Bindings.{Bindings, are_declared}
use Rattle.ccsl_vcd_read.specs.declared.amid.Amid.TheVariants.{Changes}
use Rattle.ccsl_vcd_read.specs.declared.body.Body.{Body}
use Rattle.ccsl_vcd_read.specs.Marks.{mark_of}

-- a body before its first token
pub record IsBeginning (v : Bindings) (b : Body) : Type 0 where
  pub binding : b.binding ≡ v
  pub declared : are_declared b.binding ≡ true
  pub marks : b.marks ≡ map (mark_of b.binding.codes [] []) b.binding.bound
  pub present : b.present ≡ 0
  pub amid : b.amid ≡ Changes
  pub dumping : b.dumping ≡ false

-- the same, of clocks that are bound by declarations
pub record IsOpened (wanted : Wanted) (ds : List Declaration) (b : Body) : Type 0 where
  pub begins : IsBeginning b.binding b
  pub binds : bind wanted ds ≡ Ok b.binding.bound
  pub codes : b.binding.codes ≡ codes_of ds
