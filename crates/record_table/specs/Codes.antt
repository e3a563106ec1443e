-- For `code` and `of_code` of `ConstantForm` and of `TypeKind`: the forms and kinds of the record table that are meant.
use Rattle.record_table.specs.declared.form.ConstantForm as the_form
use Rattle.record_table.specs.declared.form.ConstantForm.TheVariants as form
use Rattle.record_table.specs.declared.kind.TypeKind as the_kind
use Rattle.record_table.specs.declared.kind.TypeKind.TheVariants as kind
use Rattle.record_table.specs.Constants.{ConstantForm, Number, NullPointer, Undefined, Poisoned, Zero, Global, Listed, Bytewise, Element, Converted, Computed}
use Rattle.record_table.specs.TypeRecords.{TypeKind, OfInt, OfPtr, OfVoid, OfArray, OfStruct, OfName}

-- the form that is meant
abbrev pub form_view : the_form.ConstantForm → ConstantForm
form_view form.Number = Number
form_view form.Null = NullPointer
form_view form.Undef = Undefined
form_view form.Poison = Poisoned
form_view form.Zero = Zero
form_view form.Global = Global
form_view form.Listed = Listed
form_view form.Bytewise = Bytewise
form_view form.Element = Element
form_view form.Converted = Converted
form_view form.Computed = Computed

-- the kind of type that is meant
abbrev pub kind_view : the_kind.TypeKind → TypeKind
kind_view kind.Int = OfInt
kind_view kind.Ptr = OfPtr
kind_view kind.Void = OfVoid
kind_view kind.Array = OfArray
kind_view kind.Struct = OfStruct
kind_view kind.Named = OfName
