use Rattle.std.proofs.Common.{◌≡◌, Bool, true, bytes_eq, if◌then◌else◌, codes, sym, ap, ◌∙◌}
use Rattle.ccsl_events.proofs.Standing.{stands-on}
use Rattle.ccsl_events.proofs.body.Body.block.Goals as goal
use Rattle.ccsl_events.proofs.body.Body.block.Goals.{then-is_text, else-is_text}

pub returns : goal.returns
returns c plan p s =
    let b = c.args.self.now in
    let on = bytes_eq c.args.text.now (codes "$dumpon") in
    let is : c.if-is_text.self ≡ record b { is_on = if on then true else b.is_on } =
    elim c.if-is_text.branch [
      | then-is_text w ↦ w.self-is ∙ ap (λ (t : Bool). record b { is_on = if t then true else b.is_on }) (sym w.if-is_text.true ∙ c.is_text.ensures)
      | else-is_text w ↦ w.self-is ∙ ap (λ (t : Bool). record b { is_on = if t then true else b.is_on }) (sym w.if-is_text.false ∙ c.is_text.ensures)
    ] in
    c.begin_block.ensures plan _ (stands-on plan p b c.if-is_text.self on s is)
