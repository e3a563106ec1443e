-- For `may_have` of `Opcode`: the flags that an opcode may have.
use Rattle.std.specs.Prelude.{Bool, true, false}
use Rattle.ir_tables.specs.declared.opcode.Opcode.{Opcode}
use Rattle.ir_tables.specs.declared.opcode.Opcode.TheVariants as op
use Rattle.ir_tables.specs.declared.flag.Flag.{Flag}
use Rattle.ir_tables.specs.declared.flag.Flag.TheVariants as flag

-- of results that wrap
abbrev pub wraps : Flag → Bool
wraps flag.Nuw = true
wraps flag.Nsw = true
wraps _ = false

-- `exact`
abbrev pub is_exact : Flag → Bool
is_exact flag.Exact = true
is_exact _ = false

-- `disjoint`
abbrev pub is_disjoint : Flag → Bool
is_disjoint flag.Disjoint = true
is_disjoint _ = false

-- `samesign`
abbrev pub is_samesign : Flag → Bool
is_samesign flag.Samesign = true
is_samesign _ = false

-- `nneg`
abbrev pub is_nneg : Flag → Bool
is_nneg flag.Nneg = true
is_nneg _ = false

-- `volatile`
abbrev pub is_volatile : Flag → Bool
is_volatile flag.Volatile = true
is_volatile _ = false

-- of addresses
abbrev pub is_of_address : Flag → Bool
is_of_address flag.Inbounds = true
is_of_address flag.Nusw = true
is_of_address flag.Nuw = true
is_of_address _ = false

-- the flags that an instruction, or a constant expression, with this opcode may have
unfoldable pub may_have : Opcode → Flag → Bool
may_have op.Add f = wraps f
may_have op.Sub f = wraps f
may_have op.Mul f = wraps f
may_have op.Shl f = wraps f
may_have op.Trunc f = wraps f
may_have op.UDiv f = is_exact f
may_have op.SDiv f = is_exact f
may_have op.LShr f = is_exact f
may_have op.AShr f = is_exact f
may_have op.Or f = is_disjoint f
may_have op.ICmp f = is_samesign f
may_have op.ZExt f = is_nneg f
may_have op.Load f = is_volatile f
may_have op.Store f = is_volatile f
may_have op.GetElementPtr f = is_of_address f
may_have _ f = false
