-- For `the_first_break_stands_at_the_least_place` and `demands_stand_at_tokens_in_order`: the laws.
use Rattle.std.specs.Prelude.{◌≡◌, ℕ, List, Some}
use Rattle.ir_syntax.specs.Answers.{HasItems}
use Rattle.ir_syntax.specs.Tree.{ItemTree}
use Rattle.ir_terminals.specs.Position.{text_tokens}
use Rattle.name_rules.specs.declared.fault.ResolveFault.{ResolveFault}
use Rattle.name_rules.specs.Breaks.{demands, first_break}
use Rattle.name_rules.specs.Places.Places.{place_of_refusal, NoneBefore, InOrder}

-- all that the items of a text ask for is refused at tokens of the text, in their order
abbrev pub DemandsInOrder : Type 0
DemandsInOrder = (text : List ℕ) (items : List ItemTree) → HasItems text items → InOrder (text_tokens text) (demands items)

-- no demand that does not hold stands before the first break
abbrev pub BreaksAtTheLeastPlace : Type 0
BreaksAtTheLeastPlace = (text : List ℕ) (items : List ItemTree) (fault : ResolveFault)
    → HasItems text items
    → first_break items ≡ Some fault
    → NoneBefore (place_of_refusal fault) (demands items)
