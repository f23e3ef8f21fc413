-- A file in the grammar, worked out by hand, and commands that are none.
use Rattle.std.proofs.Common.{◌≡◌, ℕ, List, [], ◌∷◌, true, false, refl}
use Rattle.std.specs.Prelude.{codes}
use Rattle.std.proofs.lemmas.Bool.{leb-true}
use Rattle.ccsl_vcd_lex.specs.Tokens.{Token, token, tokens_from, run, is_white}
use Rattle.ccsl_vcd.specs.Words.{word_of, number}
use Rattle.ccsl_vcd.specs.Binding.{Declaration, Bound, bind}
use Rattle.ccsl_vcd.specs.Grammar.{Item, instant, change, plain}
use Rattle.ccsl_vcd.specs.Commands.{Command, IsVariable, AreCommands, declarations, IsTrace}
use Rattle.ccsl_vcd.proofs.Examples.{clk, limits}

abbrev text : List ℕ
text = codes "$date now $end $scope module t $end $var wire 1 ! clk [0:0] $end $upscope $end $enddefinitions $end #5 1! "

abbrev date : Command
date = record { keyword = token 0 (codes "$date"); text = token 6 (codes "now") ∷ []; close = token 10 (codes "$end") }

abbrev scope : Command
scope = record { keyword = token 15 (codes "$scope"); text = token 22 (codes "module") ∷ token 29 (codes "t") ∷ []; close = token 31 (codes "$end") }

abbrev words : List Token
words = token 41 (codes "wire") ∷ token 46 (codes "1") ∷ token 48 (codes "!") ∷ token 50 (codes "clk") ∷ token 54 (codes "[0:0]") ∷ []

abbrev variable : Command
variable = record { keyword = token 36 (codes "$var"); text = words; close = token 60 (codes "$end") }

abbrev upscope : Command
upscope = record { keyword = token 65 (codes "$upscope"); text = []; close = token 74 (codes "$end") }

abbrev last : Command
last = record { keyword = token 79 (codes "$enddefinitions"); text = []; close = token 95 (codes "$end") }

abbrev commands : List Command
commands = date ∷ scope ∷ variable ∷ upscope ∷ []

abbrev net : Declaration
net = record { depth = 1; kind = codes "wire"; size = 1; code = codes "!"; reference = codes "clk" }

-- the net stands in one scope, and the range of its single bit is no part of its name
declared : declarations 0 commands ≡ net ∷ []
unfolding number
declared = refl

abbrev items : List Item
items = plain (instant (token 100 (codes "#5")) 5) ∷ plain (change (token 103 (codes "1!")) true (codes "!")) ∷ []

abbrev bound : List Bound
bound = record { clock = 0; code = codes "!"; event = false } ∷ []

are-commands : AreCommands limits 0 [] commands
unfolding number
are-commands = (
  record { inside = (refl, tt); close = refl },
  tt,
  (
    record { inside = (refl, (refl, tt)); close = refl },
    leb-true 1 256 refl,
    (
      record { inside = (refl, (refl, (refl, (refl, (refl, tt))))); close = refl },
      ((refl, refl), leb-true 1 1048576 refl),
      (record { inside = tt; close = refl }, tt, tt),
    ),
  ),
)

trace : IsTrace clk limits text
unfolding tokens_from run is_white word_of number bind
trace = record {
  commands = commands;
  last = last;
  bound = bound;
  items = items;
  spelled = refl;
  is_header = record { are_commands = are-commands; closed = record { inside = tt; close = refl }; ends = refl };
  binds = refl;
  is_body = ((refl, leb-true 0 5 refl), ((refl, refl), tt));
  short =
      (refl, (refl, (refl, (refl, (refl, (refl, (refl, (refl, (refl, (refl, (refl, (refl, (refl, (refl, (refl, (refl, (refl, (refl, (refl, (refl, tt))))))))))))))))))));
  within = leb-true 106 68719476736 refl;
}

-- a $var without a reference, and one whose size is no number
no-reference : IsVariable (token 5 (codes "wire") ∷ token 10 (codes "1") ∷ token 12 (codes "!") ∷ []) → ⊥
no-reference h = h

no-size : IsVariable (token 5 (codes "wire") ∷ token 10 (codes "x") ∷ token 12 (codes "!") ∷ token 14 (codes "a") ∷ []) → ⊥
unfolding number
no-size h = absurd (let e = h.0 in cc)
