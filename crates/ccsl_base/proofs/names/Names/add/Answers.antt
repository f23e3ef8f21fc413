use Rattle.std.proofs.Common.{◌≡◌, map, length, ◌++◌, ◌∷◌, [], false, true, ap, sym, ◌∙◌, refl, arith, ◌+◌, length-append}
use Rattle.std.specs.List.{list_any}
use Rattle.std.proofs.lemmas.List.{length-map}
use Rattle.std.specs.Str.{bytes_eq}
use Rattle.ccsl_base.specs.Names.{is_among, are_distinct}
use Rattle.ccsl_base.proofs.Tables.{list_any-map, distinct-snoc, inserted}
use Rattle.ccsl_base.proofs.names.Names.add.Goals as goal
use Rattle.ccsl_base.proofs.names.Names.add.Given.{Over}

pub returns-then-contains-clause-added : goal.returns-then-contains-clause-added
returns-then-contains-clause-added g c = (
  ap (is_among c.args.name.now) (sym c.self.view_is) ∙ list_any-map (λ t. t.items) (bytes_eq c.args.name.now) c.self.inside.texts.keys
      ∙ sym c.contains.ensures ∙ c.if-contains.true,
  refl,
)

-- the name is not there, and the new table ends with it
fresh : (g : Over) (c : goal.In_ok-insert g) → is_among c.args.name.now c.args.self.now ≡ false
fresh g c =
    ap (is_among c.args.name.now) (sym c.self.view_is) ∙ list_any-map (λ t. t.items) (bytes_eq c.args.name.now) c.self.inside.texts.keys
    ∙ sym c.contains.ensures ∙ c.if-contains.false

names : (g : Over) (c : goal.In_ok-insert g) → map (λ t. t.items) c.insert.new.self.keys ≡ c.args.self.now ++ c.args.name.now ∷ []
names g c =
    let absent : list_any (λ t. bytes_eq c.args.name.now t.items) c.self.inside.texts.keys ≡ false = sym c.contains.ensures ∙ c.if-contains.false in
    inserted (λ s t. bytes_eq s.items t.items) (λ t. t.items) c.self.inside.texts.keys _ c.in_ok-from_slice.field-0 c.args.name.now c.in_ok-insert.ensures.keys
    (ap (λ n. list_any (λ t. bytes_eq n t.items) c.self.inside.texts.keys) c.in_ok-from_slice.ensures.items ∙ absent)
    c.in_ok-from_slice.ensures.items
    ∙ ap (λ ns. ns ++ c.args.name.now ∷ []) c.self.view_is

before : (g : Over) (c : goal.In_ok-insert g) → length c.self.inside.texts.keys ≡ length c.args.self.now
before g c = sym (length-map c.self.inside.texts.keys (λ t. t.items)) ∙ ap length c.self.view_is

pub invariant_of-self-2 : goal.invariant_of-self-2
invariant_of-self-2 g c =
    let distinct : are_distinct c.args.self.now ≡ true = ap are_distinct (sym c.self.view_is) ∙ c.self.invariant.1 in
    let size : length c.insert.new.self.keys ≡ length c.args.self.now + 1 =
    sym (length-map c.insert.new.self.keys (λ t. t.items)) ∙ ap length (names g c) ∙ length-append c.args.self.now (c.args.name.now ∷ []) in (
      omega (arith, size, c.requires.room),
      ap are_distinct (names g c) ∙ distinct-snoc c.args.self.now c.args.name.now distinct (fresh g c),
    )

pub returns-clause-added : goal.returns-clause-added
returns-clause-added g c = (fresh g c, c.len-number.ensures.len ∙ before g c, names g c)
