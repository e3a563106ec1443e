-- What is read of a record in a table does not depend on where texts are written.
use Rattle.std.proofs.Common.{◌≡◌, ℕ, Bool, true, false, Option, refl}
use Rattle.ir_tables.specs.declared.opcode.Opcode.{Opcode}
use Rattle.ir_tables.specs.declared.opcode.Opcode.TheVariants as op
use Rattle.module_arena.specs.Module.{Bytes, LocalName}
use Rattle.type_table.specs.Tree.{ptr}
use Rattle.record_table.specs.Layout.{Layout, mapped, ◌&◌, ◌&>◌, counted}
use Rattle.record_table.specs.Constants.{value}
use Rattle.record_table.specs.Fields.{Texts, Numbering, ty, truth}
use Rattle.record_table.specs.StringTable.{version_2, read_only}
use Rattle.record_table.specs.Lines.{call_of, call_parts, return_type, arguments, result_by, instruction}
use Rattle.module_arena.specs.TypeTests.{is_void}
use Rattle.record_table.specs.TypeRecords.{definition}
use Rattle.record_table.specs.Records.{variable, function, alias}

module _ (table : Bytes) (offset_of : Bytes → ℕ) where
  abbrev written : Texts
  written = version_2 table offset_of

  pub definition_read : (count : ℕ) → (definition written count).read ≡ (definition (read_only table) count).read
  definition_read count = refl

  module _ (k : Numbering) where
    pub variable_read : (variable written k).read ≡ (variable (read_only table) k).read
    variable_read = refl

    pub function_read : (function written k).read ≡ (function (read_only table) k).read
    function_read = refl

    pub alias_read : (alias written k).read ≡ (alias (read_only table) k).read
    alias_read = refl

    result_read : (own : ℕ) (without : Bool) → (result_by written own without).read ≡ (result_by (read_only table) own without).read
    result_read own true = refl
    result_read own false = refl

    result_between : (own : ℕ) (without : Bool) → Path (Layout (Option LocalName)) (result_by written own without) (record { spell = (result_by written own without).spell; read = (result_by (read_only table) own without).read })
    result_between own without = λ i. record { spell = (result_by written own without).spell; read = result_read own without i }

    pub instruction_read : (own : ℕ) (o : Opcode) → (instruction written k own o).read ≡ (instruction (read_only table) k own o).read
    instruction_read own op.ICmp = refl
    instruction_read own op.Trunc = refl
    instruction_read own op.ZExt = refl
    instruction_read own op.SExt = refl
    instruction_read own op.PtrToInt = refl
    instruction_read own op.IntToPtr = refl
    instruction_read own op.Select = refl
    instruction_read own op.Freeze = refl
    instruction_read own op.Phi = refl
    instruction_read own op.Load = refl
    instruction_read own op.Store = refl
    instruction_read own op.Alloca = refl
    instruction_read own op.GetElementPtr = refl
    instruction_read own op.ExtractValue = refl
    instruction_read own op.InsertValue = refl
    instruction_read own op.Add = refl
    instruction_read own op.Sub = refl
    instruction_read own op.Mul = refl
    instruction_read own op.UDiv = refl
    instruction_read own op.SDiv = refl
    instruction_read own op.URem = refl
    instruction_read own op.SRem = refl
    instruction_read own op.Shl = refl
    instruction_read own op.LShr = refl
    instruction_read own op.AShr = refl
    instruction_read own op.And = refl
    instruction_read own op.Or = refl
    instruction_read own op.Xor = refl
    instruction_read own op.Call = λ i. (mapped call_of call_parts (return_type k &> λ t. result_between own (is_void t) i & truth & counted (ty k) &> λ ts. value k ptr & arguments k ts)).read
    instruction_read own op.Ret = refl
    instruction_read own op.Br = refl
    instruction_read own op.Switch = refl
    instruction_read own op.Unreachable = refl
