-- For `write` and `read` of bitcode: constants as operands. Their types are known: a record writes a type only where the
-- constants around do not give it.
use Rattle.std.specs.Prelude.{ℕ, zero, suc, ◌+◌, ◌-◌, ◌*◌, ◌/◌, ◌%◌, ◌^◌, nat_eq, nat_le, nat_lt, Bool, true, false, List, [], ◌∷◌, ◌++◌, length, find, Option, Some, None, if◌then◌else◌}
use Rattle.ir_tables.specs.declared.opcode.Opcode.{Opcode}
use Rattle.ir_tables.specs.declared.opcode.Opcode.TheVariants.{Add, Sub, Xor, Trunc, PtrToInt, IntToPtr, GetElementPtr}
use Rattle.ir_tables.specs.Opcode.{opcode_code}
use Rattle.type_table.specs.declared.measure.TheConstants.{NESTING_LIMIT}
use Rattle.type_table.specs.Tree.{Tree, int, ptr, void, array, struct, named, Trees, no_trees, more_trees, TreeBody, opaque_body, fields, Structs, body_of}
use Rattle.module_arena.specs.Module.{Brackets, Square, Braces, Packed, Constant, Integer, Truth, Null, Undef, Poison, ZeroInitializer, Address, ByteString, Aggregate, ElementAddress, Cast, Binary, Constants, no_constants, more_constants, Value, Local, Known}
use Rattle.module_arena.specs.TypeTests.{is_pointer}
use Rattle.module_arena.specs.Constants.{is_bytes_of}
use Rattle.record_table.specs.Walk.{Walk, going, stopped, ask, stop, next}
use Rattle.record_table.specs.Layout.{Layout, coded}
use Rattle.record_table.specs.Fields.{Numbering, ty, global, local, text, flags}

-- the forms of constants
pub data ConstantForm : Type 0 where
  Number : ConstantForm
  NullPointer : ConstantForm
  Undefined : ConstantForm
  Poisoned : ConstantForm
  Zero : ConstantForm
  Global : ConstantForm
  Listed : ConstantForm
  Bytewise : ConstantForm
  Element : ConstantForm
  Converted : ConstantForm
  Computed : ConstantForm

-- their codes
abbrev pub form_code : ConstantForm → ℕ
form_code Number = 1
form_code NullPointer = 2
form_code Undefined = 3
form_code Poisoned = 4
form_code Zero = 5
form_code Global = 6
form_code Listed = 7
form_code Bytewise = 8
form_code Element = 9
form_code Converted = 10
form_code Computed = 11

-- all of them
abbrev pub forms : List ConstantForm
forms = Number ∷ NullPointer ∷ Undefined ∷ Poisoned ∷ Zero ∷ Global ∷ Listed ∷ Bytewise ∷ Element ∷ Converted ∷ Computed ∷ []

-- the form that has this code
abbrev pub form_of_code : ℕ → Option ConstantForm
form_of_code code = find (λ form. nat_eq (form_code form) code) forms

-- what a list is made of at a type: so many of one type, these, or nothing, since no list is of that type
pub data Parts : Type 0 where
  alike : ℕ → Tree → Parts
  these : Bool → Trees → Parts
  no_parts : Parts

-- what a struct is made of
abbrev pub body_parts : TreeBody → Parts
body_parts opaque_body = no_parts
body_parts (fields packed ts) = these packed ts

-- what a list is made of at a type
abbrev pub parts_of : Structs → Tree → Parts
parts_of structs (int w) = no_parts
parts_of structs ptr = no_parts
parts_of structs void = no_parts
parts_of structs (array n t) = alike n t
parts_of structs (struct packed ts) = these packed ts
parts_of structs (named name) = body_parts (body_of structs name)

-- how many types these are
abbrev pub how_many : Trees → ℕ
how_many no_trees = 0
how_many (more_trees t ts) = suc (how_many ts)

-- so many are all
abbrev pub has_parts : Parts → ℕ → Bool
has_parts (alike n t) count = nat_eq n count
has_parts (these packed ts) count = nat_eq (how_many ts) count
has_parts no_parts count = false

-- the brackets that such a list is written in
abbrev pub brackets_of : Parts → Brackets
brackets_of (alike n t) = Square
brackets_of (these false ts) = Braces
brackets_of (these true ts) = Packed
brackets_of no_parts = Square

-- The type of the first part, and the parts behind it. Of a part too many no type is known: `void` stands for it, as for
-- a type out of range. Another rule is broken by then.
abbrev pub first_part : Parts → Tree
first_part (alike n t) = t
first_part (these packed no_trees) = void
first_part (these packed (more_trees t ts)) = t
first_part no_parts = void

-- what a list is made of behind its first part
abbrev pub later_parts : Parts → Parts
later_parts (alike n t) = alike n t
later_parts (these packed no_trees) = these packed no_trees
later_parts (these packed (more_trees t ts)) = these packed ts
later_parts no_parts = no_parts

-- one of these opcodes
abbrev pub one_of : List Opcode → Opcode → Layout Opcode
one_of allowed other = coded opcode_code (λ code. find (λ o. nat_eq (opcode_code o) code) allowed) other

-- of a cast
abbrev pub cast_opcode : Layout Opcode
cast_opcode = one_of (Trunc ∷ PtrToInt ∷ IntToPtr ∷ []) Trunc

-- of an operation
abbrev pub binary_opcode : Layout Opcode
binary_opcode = one_of (Add ∷ Sub ∷ Xor ∷ []) Xor

-- an integer: its low and, above 64 bits, its high half. Only the type says how many operands it has
abbrev pub integer_at : ℕ → ℕ → Walk → Constant × Walk
integer_at width n w = (Integer n, ask 3 (nat_lt n (2 ^ width)) w)

-- an integer at its type
unfoldable pub integer : Tree → Walk → Constant × Walk
integer (int width) w = let low = next w in
    if nat_le width 64 then integer_at width low.0 low.1
    else (let high = next low.1 in integer_at width (low.0 + 2 ^ 64 * high.0) high.1)
integer _ w = (Undef, stop 6 w)

-- how a constant of a type is read
abbrev pub Reads : Type 0
Reads = Tree → Walk → Constant × Walk

-- so many constants, each of the type of its part
unfoldable pub parts : Reads → ℕ → Parts → Walk → Constants × Walk
parts one zero ps w = (no_constants, w)
parts one (suc n) ps (stopped broken) = (no_constants, stopped broken)
parts one (suc n) ps (going rest broken) =
    let c = one (first_part ps) (going rest broken) in let cs = parts one n (later_parts ps) c.1 in
    (more_constants (first_part ps) c.0 cs.0, cs.1)

-- so many constants, each behind its type
unfoldable pub typed : Layout Tree → Reads → ℕ → Walk → Constants × Walk
typed t one zero w = (no_constants, w)
typed t one (suc n) (stopped broken) = (no_constants, stopped broken)
typed t one (suc n) (going rest broken) =
    let type_of = t.read (going rest broken) in let c = one type_of.0 type_of.1 in let cs = typed t one n c.1 in
    (more_constants type_of.0 c.0 cs.0, cs.1)

-- how an integer is spelled at its type
abbrev pub integer_spell : Tree → ℕ → List ℕ
integer_spell (int width) n = if nat_le width 64 then n ∷ [] else n % 2 ^ 64 ∷ n / 2 ^ 64 ∷ []
integer_spell _ n = n ∷ []

-- how many constants these are
abbrev pub count_constants : Constants → ℕ
count_constants no_constants = 0
count_constants (more_constants t c cs) = suc (count_constants cs)

module _ (k : Numbering) where
  -- a list: its count, and the constants of its parts
  abbrev pub listed : Reads → Reads
  listed inner t w = let n = next w in let all = parts inner n.0 (parts_of k.structs t) (ask 6 (has_parts (parts_of k.structs t) n.0) n.1) in
      (Aggregate (brackets_of (parts_of k.structs t)) all.0, all.1)

  -- an address: its flags, the type, the base and the indices
  abbrev pub element : Reads → Reads
  element inner t w =
      let f = (flags GetElementPtr).read (ask 6 (is_pointer t) w) in let source = (ty k).read f.1 in let base = inner ptr source.1 in
      let n = next base.1 in let indices = typed (ty k) inner n.0 n.1 in
      (ElementAddress f.0 source.0 (more_constants ptr base.0 indices.0), indices.1)

  -- a cast: its opcode, the type that it is from, and the constant
  abbrev pub converted : Reads → Reads
  converted inner t w = let o = cast_opcode.read w in let from = (ty k).read o.1 in let c = inner from.0 from.1 in (Cast o.0 from.0 c.0 t, c.1)

  -- an operation: its opcode, its flags and both constants
  abbrev pub computed : Reads → Reads
  computed inner t w =
      let o = binary_opcode.read w in let f = (flags o.0).read o.1 in let a = inner t f.1 in let b = inner t a.1 in
      (Binary o.0 f.0 t a.0 t b.0, b.1)

  -- bytes
  abbrev pub bytewise : Reads
  bytewise t w = let bytes = text.read w in (ByteString bytes.0, ask 6 (is_bytes_of (length bytes.0) t) bytes.1)

  -- a list or expression, where constants may nest so deep
  abbrev pub nested : (Reads → Reads) → Option Reads → Reads
  nested of_inner None t w = (Undef, stop 7 w)
  nested of_inner (Some inner) t w = of_inner inner t w

  -- a constant of that form, behind its code; the constants in it are read by `inner`, where it may hold any
  unfoldable pub of_form : Option Reads → Option ConstantForm → Reads
  of_form inner None t w = (Undef, stop 3 w)
  of_form inner (Some Number) t w = integer t w
  of_form inner (Some NullPointer) t w = (Null, ask 6 (is_pointer t) w)
  of_form inner (Some Undefined) t w = (Undef, w)
  of_form inner (Some Poisoned) t w = (Poison, w)
  of_form inner (Some Zero) t w = (ZeroInitializer, w)
  of_form inner (Some Global) t w = let g = (global k).read (ask 6 (is_pointer t) w) in (Address g.0, g.1)
  of_form inner (Some Listed) t w = nested listed inner t w
  of_form inner (Some Bytewise) t w = bytewise t w
  of_form inner (Some Element) t w = nested element inner t w
  of_form inner (Some Converted) t w = nested converted inner t w
  of_form inner (Some Computed) t w = nested computed inner t w

  -- a constant of the form with that code
  abbrev pub by_code : Option Reads → ℕ → Reads
  by_code inner code t w = of_form inner (form_of_code code) t w

  -- a constant in which lists and expressions may nest so deep
  unfoldable pub read_nested : ℕ → Reads
  read_nested zero t w = let code = next w in by_code None code.0 t code.1
  read_nested (suc deep) t w = let code = next w in by_code (Some (read_nested deep)) code.0 t code.1

  -- Constants nest as deep as types do.
  abbrev pub read_constant : Reads
  read_constant t w = read_nested NESTING_LIMIT t w

  abbrev mutual
    -- how a constant of a type is spelled
    pub spell_constant : Tree → Constant → List ℕ
    spell_constant t (Integer n) = form_code Number ∷ integer_spell t n
    -- no valid module has one
    spell_constant t (Truth b) = form_code Undefined ∷ []
    spell_constant t Null = form_code NullPointer ∷ []
    spell_constant t Undef = form_code Undefined ∷ []
    spell_constant t Poison = form_code Poisoned ∷ []
    spell_constant t ZeroInitializer = form_code Zero ∷ []
    spell_constant t (Address g) = form_code Global ∷ (global k).spell g
    spell_constant t (ByteString bytes) = form_code Bytewise ∷ text.spell bytes
    spell_constant t (Aggregate round cs) = form_code Listed ∷ count_constants cs ∷ spell_parts cs
    spell_constant t (ElementAddress f source cs) = form_code Element ∷ f ∷ (ty k).spell source ++ spell_operands cs
    spell_constant t (Cast o from c to) = form_code Converted ∷ opcode_code o ∷ (ty k).spell from ++ spell_constant from c
    spell_constant t (Binary o f s a u b) = form_code Computed ∷ opcode_code o ∷ f ∷ spell_constant s a ++ spell_constant u b

    -- constants whose types are known
    pub spell_parts : Constants → List ℕ
    spell_parts no_constants = []
    spell_parts (more_constants t c cs) = spell_constant t c ++ spell_parts cs

    -- a base, and a count of indices with their types
    pub spell_operands : Constants → List ℕ
    spell_operands no_constants = []
    spell_operands (more_constants t c cs) = spell_constant t c ++ count_constants cs ∷ spell_typed cs

    -- constants behind their types
    pub spell_typed : Constants → List ℕ
    spell_typed no_constants = []
    spell_typed (more_constants t c cs) = (ty k).spell t ++ spell_constant t c ++ spell_typed cs

  -- a constant of that type
  abbrev pub constant : Tree → Layout Constant
  constant t = record { spell = spell_constant t; read = read_constant t }

  -- a value: 0 and the index of a local, or a constant
  unfoldable pub value_by : Tree → ℕ → Walk → Value × Walk
  value_by t zero w = let x = (local k).read w in (Local x.0, x.1)
  value_by t (suc code) w = let c = by_code (Some (read_nested (NESTING_LIMIT - 1))) (suc code) t w in (Known c.0, c.1)

  -- how a value of a type is spelled
  abbrev pub value_spell : Tree → Value → List ℕ
  value_spell t (Local name) = 0 ∷ (local k).spell name
  value_spell t (Known c) = spell_constant t c

  -- a value of that type
  abbrev pub value : Tree → Layout Value
  value t = record { spell = value_spell t; read = λ w. let n = next w in value_by t n.0 n.1 }
