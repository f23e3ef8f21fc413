-- What is kept of a body, and the story of which it is kept.
use Rattle.std.specs.Prelude.{◌≡◌, ◌<◌, List, ◌++◌, true, None, map}
use Rattle.std.specs.List.{AllByRecursion}
use Rattle.ccsl_vcd.specs.Binding.{Declaration}
use Rattle.ccsl_vcd.specs.Places as p
use Rattle.ccsl_vcd.specs.Reading.{Story}
use Rattle.ccsl_bind.specs.Codes.{codes_of}
use Rattle.ccsl_bind.specs.Bindings.{are_declared}
use Rattle.ccsl_vcd_read.specs.declared.body.Body.{Body}
use Rattle.ccsl_vcd_read.specs.Meant.{amid_of}
use Rattle.ccsl_vcd_read.specs.Marks.{mark_of}

abbrev pub place_of : Body → List Declaration → p.Body
place_of b ds = record {
  amid = amid_of b.amid;
  dumping = b.dumping;
  now = b.present;
  declared = ds;
  bound = b.binding.bound;
}

-- The changes are those before the present time, and those at it; the marks are theirs.
pub record Shows (b : Body) (st : Story) : Type 0 where
  pub declared : List Declaration
  pub old : List p.Change
  pub cur : List p.Change
  pub told : st ≡ record { changes = old ++ cur; place = p.body (place_of b declared); fault = None }
  pub earlier : AllByRecursion (λ c. c.time < b.present) old
  pub current : AllByRecursion (λ c. c.time ≡ b.present) cur
  pub codes : b.binding.codes ≡ codes_of declared
  pub bound : are_declared b.binding ≡ true
  pub marks : b.marks ≡ map (mark_of b.binding.codes old cur) b.binding.bound
