-- For `constants_are_read_back` and `values_are_read_back`: what a constant must be so that its operands are read back. It is what validity
-- says of constants, and what every module keeps of the names, indices and limits in them.
use Rattle.std.specs.Prelude.{◌≡◌, ℕ, zero, suc, ◌^◌, nat_lt, true, length, [], bytes_eq, ⊤}
use Rattle.ir_tables.specs.declared.opcode.Opcode.TheVariants.{GetElementPtr}
use Rattle.type_table.specs.declared.measure.TheConstants.{NESTING_LIMIT}
use Rattle.type_table.specs.Tree.{Tree, int, ptr, void, array, struct, named}
use Rattle.module_arena.specs.Module.{Value, Local, Known, Operand, Constant, Integer, Truth, Null, Undef, Poison, ZeroInitializer, Address, ByteString, Aggregate, ElementAddress, Cast, Binary, Constants, no_constants, more_constants}
use Rattle.module_arena.specs.TypeTests.{is_pointer}
use Rattle.module_arena.specs.Constants.{is_bytes_of}
use Rattle.module_arena.specs.Forms.{is_constant_cast, is_constant_binary}
use Rattle.record_table.specs.Fields.{Numbering}
use Rattle.record_table.specs.Listed.{IsListed, AreBytes, AreFlagsOf, IsType, IsLocal}
use Rattle.record_table.specs.Constants.{Parts, parts_of, has_parts, brackets_of, first_part, later_parts, count_constants}

-- a number of that many bits
abbrev pub IsIntegerOf : Tree → ℕ → Type 0
IsIntegerOf (int width) n = nat_lt n (2 ^ width) ≡ true
IsIntegerOf ptr n = ⊥
IsIntegerOf void n = ⊥
IsIntegerOf (array m t) n = ⊥
IsIntegerOf (struct packed ts) n = ⊥
IsIntegerOf (named name) n = ⊥

-- there is room for one level more, and the rest holds below it
abbrev pub Below : ℕ → (ℕ → Type 0) → Type 0
Below zero holds = ⊥
Below (suc deep) holds = holds deep

module _ (k : Numbering) where
  abbrev mutual
    -- a constant of that type in which lists and expressions nest at most so deep
    pub Fits : Constant → ℕ → Tree → Type 0
    Fits (Integer n) deep t = IsIntegerOf t n
    Fits (Truth b) deep t = ⊥
    Fits Null deep t = is_pointer t ≡ true
    Fits Undef deep t = ⊤
    Fits Poison deep t = ⊤
    Fits ZeroInitializer deep t = ⊤
    Fits (Address g) deep t = (is_pointer t ≡ true) × IsListed bytes_eq k.globals [] g
    Fits (ByteString bytes) deep t = (is_bytes_of (length bytes) t ≡ true) × AreBytes bytes
    Fits (Aggregate round cs) deep t =
        (has_parts (parts_of k.structs t) (count_constants cs) ≡ true)
        × (brackets_of (parts_of k.structs t) ≡ round)
        × Below deep (λ d. AreParts cs d (parts_of k.structs t))
    Fits (ElementAddress f source cs) deep t = (is_pointer t ≡ true) × AreFlagsOf GetElementPtr f × IsType k source × Below deep (λ d. AreOperands cs d)
    Fits (Cast o from c to) deep t = (is_constant_cast o ≡ true) × IsType k from × (to ≡ t) × Below deep (λ d. Fits c d from)
    Fits (Binary o f s a u b) deep t = (is_constant_binary o ≡ true) × AreFlagsOf o f × (s ≡ t) × (u ≡ t) × Below deep (λ d. Fits a d t × Fits b d t)

    -- each is of the type of its part
    pub AreParts : Constants → ℕ → Parts → Type 0
    AreParts no_constants deep ps = ⊤
    AreParts (more_constants t c cs) deep ps = (first_part ps ≡ t) × Fits c deep t × AreParts cs deep (later_parts ps)

    -- a pointer, and indices
    pub AreOperands : Constants → ℕ → Type 0
    AreOperands no_constants deep = ⊥
    AreOperands (more_constants t c cs) deep = (t ≡ ptr) × Fits c deep ptr × AreTyped cs deep

    -- constants behind their types
    pub AreTyped : Constants → ℕ → Type 0
    AreTyped no_constants deep = ⊤
    AreTyped (more_constants t c cs) deep = IsType k t × Fits c deep t × AreTyped cs deep

  -- a value of that type. Of a local no record says its type
  abbrev pub ValueFits : Tree → Value → Type 0
  ValueFits t (Local name) = IsLocal k name
  ValueFits t (Known c) = Fits c NESTING_LIMIT t

  -- a type of the module, and a value of it
  abbrev pub OperandFits : Operand → Type 0
  OperandFits o = IsType k o.ty × ValueFits o.ty o.value
