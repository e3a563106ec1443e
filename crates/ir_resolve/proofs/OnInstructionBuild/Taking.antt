-- What an arena can take it can still take when it has grown.
use Rattle.std.proofs.Common.{◌≡◌, ℕ, ◌<◌, List, map, length, get_or, All, sym, subst}
use Rattle.std.proofs.lemmas.List.Elements.{All-weaker}
use Rattle.ir_phrases.specs.Constants.Tree.{ValueTree, TypedValueTree}
use Rattle.ir_phrases.specs.Instructions.Tree.{IncomingTree, CaseTree}
use Rattle.type_table.specs.Tree.{Structs}
use Rattle.type_table.specs.Types.{structs}
use Rattle.module_arena.specs.Lists.{Lists}
use Rattle.name_rules.specs.Written.{type_in}
use Rattle.item_build.specs.Types.Fitting.{CanBe}
use Rattle.item_build.specs.Types.Holding.{entries}
use Rattle.item_build.specs.Types.Stands.{Grows}
use Rattle.item_build.proofs.OnTypes.Staying.{structs_stay, entries_stay, at_item}
use Rattle.item_build.proofs.OnTypes.Declaring.{all_mapped}
use Rattle.item_build.specs.Buildable.Bodies.{CanValue, CanOperand, CanIncoming, CanCase}
use Rattle.ir_resolve.specs.declared.instruction_build.locals.Locals.{Locals}
use Rattle.ir_resolve.specs.InstructionBuild.Parts.{value_names, block_names, TakesValue, TakesOperand, TakesIncoming, TakesCase}

-- the item of a list, all of whose items are so as they are seen
pub at_mapped : {X Y : Type 0} (f : X → Y) (P : Y → Type 0) (xs : List X) (i : ℕ) (x : X) → i < length xs → x ≡ get_or xs i x → All P (map f xs) → P (f x)
at_mapped f P xs i x lt is all = at_item (λ y. P (f y)) xs i x lt is (all_mapped f P xs all)

module _ (a b : Lists) (grows : Grows a b) where
  -- what depends on the structs and the entries alone
  pub can_stay : (P : Structs → Lists → Type 0) → P (structs a.table) (entries a) → P (structs b.table) (entries b)
  can_stay P h = subst (λ ss. P ss (entries b)) (sym (structs_stay a b grows)) (subst (λ es. P (structs a.table) es) (sym (entries_stay a b grows)) h)

  module _ (locals : Locals) where
    pub takes_value : (w : ValueTree) → TakesValue a locals w → TakesValue b locals w
    takes_value w h = can_stay (λ ss es. CanValue ss es (value_names locals) (block_names locals) w) h

    pub takes_operand : (w : TypedValueTree) → TakesOperand a locals w → TakesOperand b locals w
    takes_operand w h = can_stay (λ ss es. CanOperand ss es (value_names locals) (block_names locals) w) h

    pub takes_operands : (ws : List TypedValueTree) → All (TakesOperand a locals) ws → All (TakesOperand b locals) ws
    takes_operands ws h = can_stay (λ ss es. All (CanOperand ss es (value_names locals) (block_names locals)) ws) h

    pub takes_incoming : (w : IncomingTree) → TakesIncoming a locals w → TakesIncoming b locals w
    takes_incoming w h = can_stay (λ ss es. CanIncoming ss es (value_names locals) (block_names locals) w) h

    pub takes_incoming_list : (ws : List IncomingTree) → All (TakesIncoming a locals) ws → All (TakesIncoming b locals) ws
    takes_incoming_list ws h = can_stay (λ ss es. All (CanIncoming ss es (value_names locals) (block_names locals)) ws) h

    pub takes_case : (w : CaseTree) → TakesCase a locals w → TakesCase b locals w
    takes_case w h = can_stay (λ ss es. CanCase ss es (value_names locals) (block_names locals) w) h

    pub takes_cases : (ws : List CaseTree) → All (TakesCase a locals) ws → All (TakesCase b locals) ws
    takes_cases ws h = can_stay (λ ss es. All (CanCase ss es (value_names locals) (block_names locals)) ws) h

-- the types of the operands that an arena takes
pub types_taken : (a : Lists) (locals : Locals) (ws : List TypedValueTree) → All (TakesOperand a locals) ws → All (λ w. CanBe (structs a.table) (type_in w.0)) ws
types_taken a locals ws h = All-weaker (TakesOperand a locals) (λ w. CanBe (structs a.table) (type_in w.0)) (λ w can. can.0) ws h
