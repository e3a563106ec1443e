-- For `read` of bitcode: the block of types, first the types by their codes, and then the structs.
use Rattle.std.specs.Prelude.{ℕ, zero, suc, ◌+◌, ◌/◌, ◌%◌, ◌^◌, ◌==◌, ◌&&◌, ◌||◌, nat_eq, nat_lt, nat_le, not, Bool, true, false, List, [], ◌∷◌, ◌++◌, length, map, Option, Some, None, Ok, Err, bytes_eq, if◌then◌else◌}
use Rattle.std.specs.List.{list_all, list_any}
use Rattle.ir_tables.specs.declared.width.TheConstants.{WIDEST}
use Rattle.type_table.specs.declared.ir_type.IrType.{IrType}
use Rattle.type_table.specs.declared.ir_type.IrType.TheVariants.{Int, Ptr, Void, Array, Struct, Named}
use Rattle.type_table.specs.declared.ir_type.StructBody.{StructBody}
use Rattle.type_table.specs.declared.ir_type.StructBody.TheVariants.{Opaque, Plain, Packed}
use Rattle.type_table.specs.Types.{Types, with_type, with_body}
use Rattle.type_table.specs.Limits.{all_shapes}
use Rattle.module_arena.specs.declared.arena.TheConstants.{COUNT_LIMIT}
use Rattle.module_arena.specs.Module.{Bytes}
use Rattle.module_arena.specs.WellFormed.{is_within_limits}
use Rattle.record_table.specs.Layout.{Layout, number, nothing, mapped, asking, ◌&◌, counted, to_end, judged}
use Rattle.record_table.specs.Fields.{Texts, below, truth, is_name}
use Rattle.record_table.specs.Faults.{UnknownRecord, Answer, ◌>>=◌, Records, no_more, a_block, a_record, types_id, misplaced, unless_broken, also}

-- one of so many
abbrev pub earlier : ℕ → Layout ℕ
earlier count = asking 2 (λ n. nat_lt n count) number

-- the width of an integer type
abbrev pub width : Layout ℕ
width = asking 3 (λ n. nat_le 1 n && nat_le n WIDEST) number

-- the width, where it is one
abbrev pub width_of : IrType → ℕ
width_of (Int w) = w
width_of _ = 1

-- the length and the part, where it is an array
abbrev pub array_parts : IrType → ℕ × ℕ
array_parts (Array n t) = (n, t)
array_parts _ = (0, 0)

-- whether it is packed, and the parts, where it is a struct without a name
abbrev pub struct_parts : IrType → Bool × List ℕ
struct_parts (Struct packed ts) = (packed, ts)
struct_parts _ = (false, [])

-- the number of the struct, where it is one by name
abbrev pub struct_id : IrType → ℕ
struct_id (Named id) = id
struct_id _ = 0

-- the kinds of types
pub data TypeKind : Type 0 where
  OfInt : TypeKind
  OfPtr : TypeKind
  OfVoid : TypeKind
  OfArray : TypeKind
  OfStruct : TypeKind
  OfName : TypeKind

-- their codes
abbrev pub kind_code : TypeKind → ℕ
kind_code OfInt = 1
kind_code OfPtr = 2
kind_code OfVoid = 3
kind_code OfArray = 4
kind_code OfStruct = 5
kind_code OfName = 6

-- the kind of a type
abbrev pub kind_of : IrType → TypeKind
kind_of (Int w) = OfInt
kind_of Ptr = OfPtr
kind_of Void = OfVoid
kind_of (Array n t) = OfArray
kind_of (Struct packed ts) = OfStruct
kind_of (Named id) = OfName

-- all of them
abbrev pub kinds : List TypeKind
kinds = OfInt ∷ OfPtr ∷ OfVoid ∷ OfArray ∷ OfStruct ∷ OfName ∷ []

-- a type of that kind behind so many types, where there are so many structs
abbrev pub ir_type : ℕ → ℕ → TypeKind → Layout IrType
ir_type count known OfInt = mapped (λ w. Int w) width_of width
ir_type count known OfPtr = mapped (λ u. Ptr) (λ t. tt) nothing
ir_type count known OfVoid = mapped (λ u. Void) (λ t. tt) nothing
ir_type count known OfArray = mapped (λ (n, t). Array n t) array_parts (number & earlier count)
ir_type count known OfStruct = mapped (λ (packed, ts). Struct packed ts) struct_parts (truth & to_end (earlier count))
ir_type count known OfName = mapped (λ id. Named id) struct_id (earlier known)

-- the code of a body
abbrev pub body_code : StructBody → ℕ
body_code (Plain ts) = 0
body_code (Packed ts) = 1
body_code Opaque = 2

-- the fields of a body
abbrev pub body_fields : StructBody → List ℕ
body_fields (Plain ts) = ts
body_fields (Packed ts) = ts
body_fields Opaque = []

-- the body of that code
abbrev pub body_by : ℕ → List ℕ → StructBody
body_by zero ts = Plain ts
body_by (suc zero) ts = Packed ts
body_by (suc (suc n)) ts = Opaque

-- an opaque struct has no fields
abbrev pub may_have : ℕ × List ℕ → Bool
may_have x = nat_lt x.0 2 || (length x.1 == 0)

-- what a struct is, and its fields
abbrev pub struct_body : ℕ → Layout StructBody
struct_body count = mapped (λ (code, ts). body_by code ts) (λ body. (body_code body, body_fields body)) (asking 3 may_have (below 3 & counted (earlier count)))

-- DEFINE: what a struct is, its fields and its name
abbrev pub definition : Texts → ℕ → Layout (StructBody × Bytes)
definition t count = struct_body count & asking 4 is_name t.last

-- each type and struct is within the limits, and so none contains itself
abbrev pub all_fit : Types → Bool
all_fit t = list_all is_within_limits (all_shapes t)

-- what a definition calls its struct
abbrev pub name_defined : (StructBody × Bytes) × Option ℕ → Bytes
name_defined ((body, name), broken) = name

-- the names that records give to structs, in order
abbrev pub names_in : Texts → Records → List Bytes
names_in t no_more = []
names_in t (a_block id inside behind) = names_in t behind
names_in t (a_record code operands behind) = if nat_eq code 7 then name_defined (judged (definition t 0) operands) ∷ names_in t behind else names_in t behind

-- no two are the same
abbrev pub are_distinct : List Bytes → Bool
are_distinct [] = true
are_distinct (n ∷ ns) = not (list_any (bytes_eq n) ns) && are_distinct ns

-- a number as four bytes that are not zero
abbrev pub stand_in : ℕ → Bytes
stand_in number = map (λ power. 1 + number / power % 255) (255 ^ 3 ∷ 255 ^ 2 ∷ 255 ∷ 1 ∷ [])

-- so many, the first of that number
abbrev pub stand_ins : ℕ → List Bytes → List Bytes
stand_ins first [] = []
stand_ins first (n ∷ ns) = stand_in first ∷ stand_ins (suc first) ns

-- What structs are called from the first type on: by their names, or by their numbers where a name will be refused. No
-- limit depends on that.
abbrev pub called : List Bytes → List Bytes
called names = if list_all is_name names && are_distinct names then names else stand_ins 0 names

-- what is read so far: how texts stand, how many records of the stream came, the types and structs, and the structs' names
pub record Listed : Type 0 where
  pub texts : Texts
  pub at : ℕ
  pub types : Types
  pub names : List Bytes

-- nothing is read yet
abbrev pub at_first : Texts → ℕ → Records → Listed
at_first t at inside = record { texts = t; at = at; types = record { types = []; structs = map (λ name. (name, None)) (called (names_in t inside)) }; names = [] }

-- a type. None stands behind a struct
abbrev pub type_record : Listed → IrType × Option ℕ → Answer Listed
type_record s (ty, broken) = let after = with_type s.types ty in
    unless_broken types_id s.at (also 7 (all_fit after) (also 5 (length s.names == 0) broken)) (record s { at = suc s.at; types = after })

-- a struct
abbrev pub struct_record : Listed → (StructBody × Bytes) × Option ℕ → Answer Listed
struct_record s ((body, name), broken) = let after = with_body s.types (length s.names) body in
    unless_broken types_id s.at (also 7 (all_fit after && nat_lt (length s.names) COUNT_LIMIT) (also 4 (not (list_any (bytes_eq name) s.names)) broken))
    (record s { at = suc s.at; types = after; names = s.names ++ name ∷ [] })

-- the kind that has this code
abbrev pub kind_of_code : ℕ → List TypeKind → Option TypeKind
kind_of_code code [] = None
kind_of_code code (k ∷ ks) = if nat_eq (kind_code k) code then Some k else kind_of_code code ks

-- a record of a type of that kind
abbrev pub of_kind : Listed → List ℕ → TypeKind → Answer Listed
of_kind s operands kind = type_record s (judged (ir_type (length s.types.types) (length s.types.structs) kind) operands)

-- a record by its kind, or of a struct
abbrev pub listed_by : Listed → ℕ → List ℕ → Option TypeKind → Answer Listed
listed_by s code operands (Some kind) = of_kind s operands kind
listed_by s code operands None =
    if nat_eq code 7 then struct_record s (judged (definition s.texts (length s.types.types)) operands) else Err (UnknownRecord types_id code)

-- the records of a block, one by one
abbrev pub listed_from : Listed → Records → Answer Listed
listed_from s no_more = Ok s
listed_from s (a_block id inside behind) = misplaced id s.at
listed_from s (a_record code operands behind) = listed_by s code operands (kind_of_code code kinds) >>= λ t. listed_from t behind

-- the types of a block, which stands behind so many records
abbrev pub listed : Texts → ℕ → Records → Answer Listed
listed t at inside = listed_from (at_first t at inside) inside
