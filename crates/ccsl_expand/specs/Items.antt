-- What the items of the program stand for, and where they come from.
use Rattle.std.specs.Prelude.{ℕ, [], take, map, Option, Some, None}
use Rattle.ccsl_ast.specs.Trees.{SLineOf}
use Rattle.ccsl_ast.specs.Plain.{plain, plain_line}
use Rattle.ccsl_expand.specs.declared.item.Item.{Item as ProgramItem}
use Rattle.ccsl_expand.specs.declared.item.Item.TheVariants as item
use Rattle.ccsl_rules.specs.Unfolded.{Item, Defines, Binds, Unfolding, Unfoldings, unfold_relation}
use Rattle.ccsl_expand.specs.declared.unfold.Sources.{Sources}
use Rattle.ccsl_expand.specs.declared.unfold.Body.{Body}
use Rattle.ccsl_spaces.specs.Callees.{seen_call}
use Rattle.ccsl_expand.specs.Numbered.{unfold_all}
use Rattle.ccsl_expand.specs.Seen.{seen_block}

abbrev pub seen_item : ProgramItem → Item
seen_item (item.Defines path name setting start tree) = Defines path name setting.value start (plain tree.now)
seen_item (item.Binds path setting left relation right) = Binds path setting.value left.now.name relation right.now.name

-- what the relations before number `home` become
abbrev pub earlier : Sources → ℕ → Unfoldings
earlier s home = unfold_all s.words.now (map seen_call s.calls.now) [] (take home (map seen_block s.blocks.now))

-- what all relations become
abbrev pub all_unfolded : Sources → Unfoldings
all_unfolded s = unfold_all s.words.now (map seen_call s.calls.now) [] (map seen_block s.blocks.now)

-- what a call of a relation becomes, and nothing where there is none
abbrev pub items_within : Sources → Option Body → Unfolding
items_within s None path args = []
items_within s (Some b) path args =
    unfold_relation s.words.now (map seen_call s.calls.now) (earlier s b.home) b.start b.params.now (map SLineOf (map plain_line b.lines.now)) path args
