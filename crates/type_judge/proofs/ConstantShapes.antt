-- The plain trees of constants that hold constants, and the answers to what they ask for.
use Rattle.std.specs.Prelude.{◌≡◌, refl, ℕ, List, [], ◌∷◌, ◌++◌, map, flat_map}
use Rattle.std.proofs.Common.{ap, ◌∙◌, append_assoc}
use Rattle.std.specs.Global.{Box, Vec}
use Rattle.ir_base.specs.declared.place.Place.{Place}
use Rattle.ir_tables.specs.declared.opcode.Opcode.{Opcode}
use Rattle.ir_phrases.specs.declared.constants.constant.Brackets.{Brackets}
use Rattle.ir_phrases.specs.declared.constants.ty.Type as the_type
use Rattle.ir_phrases.specs.declared.constants.constant.Constant as the_constant
use Rattle.ir_phrases.specs.declared.constants.constant.TypedConstant as the_typed
use Rattle.ir_phrases.specs.declared.constants.constant.Constant.TheOpen as open_constant
use Rattle.ir_phrases.specs.declared.constants.constant.Constant.TheFolds.{fold-TypedConstant, fold-roll-Constant, fold_out-TypedConstant}
use Rattle.ir_phrases.specs.Constants.Tree.{ConstantTree, ListConstant, ElementAddress, Conversion, Arithmetic, TypedConstantTree, constants}
use Rattle.ir_phrases.specs.Constants.View.{constant_step, typed_step, constant_view, type_view, typed_constant_view}
use Rattle.name_rules.specs.TypeDemands.{Known, type_demands, constant_demands, constants_demands}
use Rattle.name_rules.specs.Written.{type_in}
use Rattle.type_judge.specs.Judging.{typed_demands}

typed_same : (x : the_typed.TypedConstant) → fold-TypedConstant ConstantTree TypedConstantTree constant_step typed_step x ≡ typed_constant_view x
typed_same x = fold_out-TypedConstant ConstantTree TypedConstantTree constant_step typed_step x

pub list_shape : (place : Place) (round : Brackets) (elements : Box (Vec the_typed.TypedConstant)) → constant_view (the_constant.List place round elements) ≡ ListConstant place round (constants (map typed_constant_view elements.value.items))
unfolding the_constant.roll-Constant denote.Hole.Carrier.roll
list_shape place round elements =
    fold-roll-Constant ConstantTree TypedConstantTree constant_step typed_step (open_constant.List place round elements)
    ∙ (λ j. ListConstant place round (constants (map (λ x. typed_same x j) elements.value.items)))

pub address_shape : (place : Place) (flags : ℕ) (source : Box the_type.Type) (operands : Box (Vec the_typed.TypedConstant)) → constant_view (the_constant.GetElementPtr place flags source operands) ≡ ElementAddress place flags (type_view source.value) (constants (map typed_constant_view operands.value.items))
unfolding the_constant.roll-Constant denote.Hole.Carrier.roll
address_shape place flags source operands =
    fold-roll-Constant ConstantTree TypedConstantTree constant_step typed_step (open_constant.GetElementPtr place flags source operands)
    ∙ (λ j. ElementAddress place flags (type_view source.value) (constants (map (λ x. typed_same x j) operands.value.items)))

pub cast_shape : (place : Place) (opcode : Opcode) (operand : Box the_typed.TypedConstant) (to : Box the_type.Type) → constant_view (the_constant.Cast place opcode operand to) ≡ Conversion place opcode (type_view operand.value.ty) (constant_view operand.value.value) (type_view to.value)
unfolding the_constant.roll-Constant denote.Hole.Carrier.roll
cast_shape place opcode operand to =
    fold-roll-Constant ConstantTree TypedConstantTree constant_step typed_step (open_constant.Cast place opcode operand to)
    ∙ ap (λ (p : TypedConstantTree). Conversion place opcode p.0 p.1 (type_view to.value)) (typed_same operand.value)

pub binary_shape : (place : Place) (opcode : Opcode) (flags : ℕ) (left right : Box the_typed.TypedConstant) → constant_view (the_constant.Binary place opcode flags left right) ≡ Arithmetic place opcode flags (type_view left.value.ty) (constant_view left.value.value) (type_view right.value.ty) (constant_view right.value.value)
unfolding the_constant.roll-Constant denote.Hole.Carrier.roll
binary_shape place opcode flags left right =
    fold-roll-Constant ConstantTree TypedConstantTree constant_step typed_step (open_constant.Binary place opcode flags left right)
    ∙ (λ j. (λ (p q : TypedConstantTree). Arithmetic place opcode flags p.0 p.1 q.0 q.1) (typed_same left.value j) (typed_same right.value j))

-- constants as a list
pub constants_are : (known : Known) (cs : List TypedConstantTree) → flat_map (typed_demands known) cs ≡ constants_demands known (constants cs)
constants_are known [] = refl
constants_are known (c ∷ cs) =
    append_assoc (type_demands known c.0) (constant_demands known (type_in c.0) c.1) (flat_map (typed_demands known) cs)
    ∙ ap (λ ds. type_demands known c.0 ++ (constant_demands known (type_in c.0) c.1 ++ ds)) (constants_are known cs)
