-- What is found stands for what is written, and goes on to do so while the arena grows.
use Rattle.std.proofs.Common.{◌≡◌, ℕ, List, length, slice_get, Some, refl, ap, ◌∙◌}
use Rattle.std.proofs.lemmas.Option.{get_or_from_slice_get, slice_get_within}
use Rattle.type_table.specs.Types.{trees}
use Rattle.module_arena.specs.declared.instruction.Case as the_case
use Rattle.module_arena.specs.declared.instruction.Incoming as the_incoming
use Rattle.module_arena.specs.declared.instruction.Operand as the_operand
use Rattle.module_arena.specs.declared.instruction.Signature as the_signature
use Rattle.module_arena.specs.declared.instruction.Value as the_value
use Rattle.module_arena.specs.declared.instruction.Value.TheVariants as value
use Rattle.module_arena.specs.Known.{HasOperand}
use Rattle.module_arena.specs.Lists.{Lists}
use Rattle.module_arena.specs.Module.{LocalName, Constant, Value, Operand, Incoming, Case, Signature}
use Rattle.module_arena.specs.View.{constant_at, constants_of, operand_view}
use Rattle.item_build.specs.Types.Stands.{IsConstant, Grows}
use Rattle.item_build.proofs.OnTypes.Growing.{types_stay}
use Rattle.ir_resolve.specs.InstructionBuild.Meant.{IsValue, IsOperand}
use Rattle.ir_resolve.specs.InstructionBuild.Parts.{IsTarget, IsIncoming, IsCase, IsSignature}

-- the block that is found
pub target_found : (blocks : List LocalName) (id : ℕ) (name : LocalName) → slice_get blocks id ≡ Some name → IsTarget blocks id name
target_found blocks id name e = record { known = slice_get_within blocks id name e; name = get_or_from_slice_get blocks id name (LocalName.Numbered 0) e }

module _ (values blocks : List LocalName) where
  -- the value that is found
  pub local_found : (a : Lists) (id : ℕ) (name : LocalName) → slice_get values id ≡ Some name → IsValue values blocks a (value.Local id) (Value.Local name)
  local_found a id name e = record { known = slice_get_within values id name e; value = ap Value.Local (get_or_from_slice_get values id name (LocalName.Numbered 0) e) }

  -- the constant that is there
  pub constant_stands : (a : Lists) (id : ℕ) (c : Constant) → IsConstant a id c → IsValue values blocks a (value.Known id) (Value.Known c)
  constant_stands a id c h = record { known = h.known; value = ap Value.Known h.constant }

  -- an operand is known, and seen as what it stands for
  pub operand_known : (a : Lists) (o : the_operand.Operand) (e : Operand) → IsOperand values blocks a o e → HasOperand (length a.table.types) (length a.constants) (length values) o
  operand_known a o e h = (h.ty.known, h.value.known)

  pub operand_seen : (a : Lists) (o : the_operand.Operand) (e : Operand) → IsOperand values blocks a o e → operand_view (trees a.table) (constants_of a) values blocks o ≡ e
  operand_seen a o e h = λ j. record { ty = h.ty.tree j; value = h.value.value j }

  module _ (a b : Lists) (grows : Grows a b) where
    pub value_stays : (v : the_value.Value) (e : Value) → IsValue values blocks a v e → IsValue values blocks b v e
    value_stays (value.Local id) e h = record { known = h.known; value = h.value }
    value_stays (value.Known id) e h =
        let still = grows.constants id (constant_at (constants_of a) id) (record { known = h.known; constant = refl }) in
        record { known = still.known; value = ap Value.Known still.constant ∙ h.value }

    pub operand_stays : (o : the_operand.Operand) (e : Operand) → IsOperand values blocks a o e → IsOperand values blocks b o e
    operand_stays o e h = record { ty = grows.types o.ty e.ty h.ty; value = value_stays o.value e.value h.value }

    pub incoming_stays : (i : the_incoming.Incoming) (e : Incoming) → IsIncoming values blocks a i e → IsIncoming values blocks b i e
    incoming_stays i e h = record { value = value_stays i.value e.value h.value; block = h.block }

pub case_stays : (blocks : List LocalName) (a b : Lists) → Grows a b → (c : the_case.Case) (e : Case) → IsCase blocks a c e → IsCase blocks b c e
case_stays blocks a b grows c e h = record { ty = grows.types c.ty e.ty h.ty; value = grows.constants c.value e.value h.value; target = h.target }

pub signature_stays : (a b : Lists) → Grows a b → (s : the_signature.Signature) (e : Signature) → IsSignature a s e → IsSignature b s e
signature_stays a b grows s e h = record {
  returns = grows.types s.returns e.returns h.returns;
  parameters = types_stay a b grows s.parameters e.parameters h.parameters;
  variadic = h.variadic;
}
