-- Where there is no want of memory: in a body.
use Rattle.std.proofs.Common.{◌≡◌, ℕ, ◌++◌, List, take, true, false, None, sym, ◌∙◌}
use Rattle.ccsl_base.specs.Rows.{RowList}
use Rattle.ccsl_vcd.specs.declared.fault.VcdFault.{VcdFault}
use Rattle.ccsl_vcd.specs.Binding.{Wanted}
use Rattle.ccsl_vcd_read.specs.Heading.{NotMemory}
use Rattle.ccsl_vcd_read.specs.Staging.{is_body}
use Rattle.ccsl_vcd_read.specs.Reading.{Reading, StandsFor, IsCalm, Takes}
use Rattle.ccsl_vcd_read.proofs.Taking.{running-of, runs-past}

-- a reader that is past the header, and a part of a piece further
pub calm-of : (wanted : Wanted) (v : Reading) (bytes : List ℕ) (f : VcdFault) → v.fault ≡ None → StandsFor wanted v bytes
    → (is_body v.stage ≡ true → NotMemory f) → IsCalm wanted v.limits bytes f
calm-of wanted v bytes f e s h p = h (sym (runs-past wanted v bytes (running-of wanted v bytes e s)) ∙ p)

pub piece-calm : {start now : Reading} {before mid : RowList} {piece : List ℕ} {i : ℕ} (f : VcdFault) → Takes start now piece i false before mid →
    (is_body now.stage ≡ true → NotMemory f) → (wanted : Wanted) (bytes : List ℕ) → StandsFor wanted start bytes → IsCalm wanted start.limits bytes f
piece-calm {now} {piece} {i} f q h wanted bytes s p =
    let t = q.took wanted bytes s in
    calm-of wanted now (bytes ++ take i piece) f q.runs t.stands h (rw q.limits (t.header ∙ p))
