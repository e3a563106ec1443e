-- The plain trees of types that hold types.
use Rattle.std.specs.Prelude.{◌≡◌, Bool, map}
use Rattle.std.proofs.Common.{ap, ◌∙◌}
use Rattle.std.specs.Global.{Box, Vec}
use Rattle.ir_base.specs.declared.place.Place.{Place}
use Rattle.ir_phrases.specs.declared.constants.ty.Type as the_type
use Rattle.ir_phrases.specs.declared.constants.ty.ArrayType as the_array
use Rattle.ir_phrases.specs.declared.constants.ty.Type.TheOpen as open_type
use Rattle.ir_phrases.specs.declared.constants.ty.Type.TheFolds.{fold-roll-Type, fold_out-ArrayType}
use Rattle.ir_phrases.specs.Constants.Tree.{TypeTree, ArrayType, StructType, types}
use Rattle.ir_phrases.specs.Constants.View.{ArrayParts, type_step, array_step, type_view}

pub array_shape : (place : Place) (array : Box the_array.ArrayType) → type_view (the_type.Array place array) ≡ ArrayType place array.value.count (type_view array.value.element)
unfolding the_type.roll-Type denote.Hole.Carrier.roll
array_shape place array = fold-roll-Type TypeTree ArrayParts type_step array_step (open_type.Array place array) ∙ ap (λ (p : ArrayParts). ArrayType place p.0 p.1) (fold_out-ArrayType TypeTree ArrayParts type_step array_step array.value)

pub struct_shape : (place : Place) (packed : Bool) (fields : Box (Vec the_type.Type)) → type_view (the_type.Struct place packed fields) ≡ StructType place packed (types (map type_view fields.value.items))
unfolding the_type.roll-Type denote.Hole.Carrier.roll
struct_shape place packed fields = fold-roll-Type TypeTree ArrayParts type_step array_step (open_type.Struct place packed fields)
