-- An instruction is what its parts are.
use Rattle.std.proofs.Common.{◌≡◌, ℕ, ◌<◌, List, [], ◌∷◌, map, length, All, Option, Some, None, refl}
use Rattle.std.specs.Option.{option_map}
use Rattle.std.proofs.lemmas.List.Elements.{All-cons, All-map, All-nil}
use Rattle.ir_tables.specs.declared.opcode.Opcode.{Opcode}
use Rattle.ir_tables.specs.declared.predicate.Predicate.{Predicate}
use Rattle.type_table.specs.Tree.{Tree}
use Rattle.type_table.specs.Types.{trees}
use Rattle.module_arena.specs.declared.instruction.Call as the_call
use Rattle.module_arena.specs.declared.instruction.Choice as the_choice
use Rattle.module_arena.specs.declared.instruction.Incoming as the_incoming
use Rattle.module_arena.specs.declared.instruction.Insertion as the_insertion
use Rattle.module_arena.specs.declared.instruction.Inst.TheVariants as inst
use Rattle.module_arena.specs.declared.instruction.Operand as the_operand
use Rattle.module_arena.specs.declared.instruction.Value as the_value
use Rattle.module_arena.specs.Known.{HasValue, HasOperand}
use Rattle.module_arena.specs.Lists.{Lists}
use Rattle.module_arena.specs.Module as m
use Rattle.module_arena.specs.View.{constants_of, value_name, operand_view, incoming_view}
use Rattle.module_arena.proofs.Replaced.{one_all as one}
use Rattle.item_build.specs.Types.Stands.{IsType}
use Rattle.ir_resolve.specs.InstructionBuild.Meant.{IsValue, IsOperand}
use Rattle.ir_resolve.specs.InstructionBuild.Parts.{Each, IsIncoming, IsSignature}
use Rattle.ir_resolve.proofs.OnInstructionBuild.Lists.{each_known, each_seen}
use Rattle.ir_resolve.proofs.OnInstructionBuild.Standing.{operand_known, operand_seen}
use Rattle.ir_resolve.specs.InstructionBuild.Made.{Makes}

pub two : {X : Type 0} (P : X → Type 0) (x y : X) → P x → P y → All P (x ∷ y ∷ [])
two P x y p q = All-cons P x (y ∷ []) p (one P y q)

three : {X : Type 0} (P : X → Type 0) (x y z : X) → P x → P y → P z → All P (x ∷ y ∷ z ∷ [])
three P x y z p q r = All-cons P x (y ∷ z ∷ []) p (two P y z q r)

module _ (values blocks : List m.LocalName) (a : Lists) where
  abbrev O : the_operand.Operand → Type 0
  O = HasOperand (length a.table.types) (length a.constants) (length values)

  abbrev V : the_value.Value → Type 0
  V = HasValue (length a.constants) (length values)

  abbrev T : ℕ → Type 0
  T = λ ty. ty < length a.table.types

  abbrev B : ℕ → Type 0
  B = λ id. id < length blocks

  -- the value with that number, as it is called
  abbrev called : ℕ → m.LocalName
  called = value_name [] [] values []

  known : (o : the_operand.Operand) (e : m.Operand) → IsOperand values blocks a o e → O o
  known o e h = operand_known values blocks a o e h

  seen : (o : the_operand.Operand) (e : m.Operand) → IsOperand values blocks a o e → operand_view (trees a.table) (constants_of a) values blocks o ≡ e
  seen o e h = operand_seen values blocks a o e h

  all_known : (os : List the_operand.Operand) (es : List m.Operand) → Each (IsOperand values blocks a) os es → All O os
  all_known os es h = each_known (IsOperand values blocks a) O known os es h

  all_seen : (os : List the_operand.Operand) (es : List m.Operand) → Each (IsOperand values blocks a) os es → map (operand_view (trees a.table) (constants_of a) values blocks) os ≡ es
  all_seen os es h = each_seen (IsOperand values blocks a) (operand_view (trees a.table) (constants_of a) values blocks) seen os es h

  module _ (next : ℕ) where
    pub makes_binary : (opcode : Opcode) (flags : ℕ) (left : the_operand.Operand) (l : m.Operand) (right : the_value.Value) (r : m.Value) → IsOperand values blocks a left l → IsValue values blocks a right r
        → Makes values blocks a (Some next) (inst.Binary opcode flags next left right) (m.BinaryOperation opcode flags l r)
    makes_binary opcode flags left l right r h k =
        let view = seen left l h in
        record {
          is = record {
            known = record { operands_known = one O left (known left l h); values_known = one V right k.known; types_known = All-nil T; blocks_known = All-nil B };
            instruction = λ j. record { result = Some (called next); operation = m.BinaryOperation opcode flags (view j) (k.value j) };
          };
          gives = refl;
        }

    pub makes_compare : (flags : ℕ) (predicate : Predicate) (left : the_operand.Operand) (l : m.Operand) (right : the_value.Value) (r : m.Value) → IsOperand values blocks a left l → IsValue values blocks a right r
        → Makes values blocks a (Some next) (inst.Compare flags predicate next left right) (m.Compare flags predicate l r)
    makes_compare flags predicate left l right r h k =
        let view = seen left l h in
        record {
          is = record {
            known = record { operands_known = one O left (known left l h); values_known = one V right k.known; types_known = All-nil T; blocks_known = All-nil B };
            instruction = λ j. record { result = Some (called next); operation = m.Compare flags predicate (view j) (k.value j) };
          };
          gives = refl;
        }

    pub makes_convert : (opcode : Opcode) (flags : ℕ) (operand : the_operand.Operand) (e : m.Operand) (to : ℕ) (t : Tree) → IsOperand values blocks a operand e → IsType a to t
        → Makes values blocks a (Some next) (inst.Convert opcode flags next operand to) (m.Convert opcode flags e t)
    makes_convert opcode flags operand e to t h k =
        let view = seen operand e h in
        record {
          is = record {
            known = record { operands_known = one O operand (known operand e h); values_known = All-nil V; types_known = one T to k.known; blocks_known = All-nil B };
            instruction = λ j. record { result = Some (called next); operation = m.Convert opcode flags (view j) (k.tree j) };
          };
          gives = refl;
        }

    pub makes_select : (choice : the_choice.Choice) (x y z : m.Operand) → IsOperand values blocks a choice.condition x → IsOperand values blocks a choice.first y → IsOperand values blocks a choice.second z
        → Makes values blocks a (Some next) (inst.Select next choice) (m.Select x y z)
    makes_select choice x y z h k l =
        let condition = seen choice.condition x h in
        let first = seen choice.first y k in
        let second = seen choice.second z l in
        record {
          is = record {
            known = record {
              operands_known = three O choice.condition choice.first choice.second (known choice.condition x h) (known choice.first y k) (known choice.second z l);
              values_known = All-nil V;
              types_known = All-nil T;
              blocks_known = All-nil B;
            };
            instruction = λ j. record { result = Some (called next); operation = m.Select (condition j) (first j) (second j) };
          };
          gives = refl;
        }

    pub makes_freeze : (operand : the_operand.Operand) (e : m.Operand) → IsOperand values blocks a operand e → Makes values blocks a (Some next) (inst.Freeze next operand) (m.Freeze e)
    makes_freeze operand e h =
        let view = seen operand e h in
        record {
          is = record {
            known = record { operands_known = one O operand (known operand e h); values_known = All-nil V; types_known = All-nil T; blocks_known = All-nil B };
            instruction = λ j. record { result = Some (called next); operation = m.Freeze (view j) };
          };
          gives = refl;
        }

    pub makes_phi : (ty : ℕ) (t : Tree) (incoming : List the_incoming.Incoming) (es : List m.Incoming) → IsType a ty t → Each (IsIncoming values blocks a) incoming es
        → Makes values blocks a (Some next) (inst.Phi next ty incoming) (m.Phi t es)
    makes_phi ty t incoming es h k =
        let I = IsIncoming values blocks a in
        let view = each_seen I (incoming_view (trees a.table) (constants_of a) values blocks) (λ i e is. λ j. record { value = is.value.value j; block = is.block.name j }) incoming es k in
        record {
          is = record {
            known = record {
              operands_known = All-nil O;
              values_known = All-map V (λ (i : the_incoming.Incoming). i.value) incoming (each_known I (λ i. V i.value) (λ i e is. is.value.known) incoming es k);
              types_known = one T ty h.known;
              blocks_known = All-map B (λ (i : the_incoming.Incoming). i.block) incoming (each_known I (λ i. B i.block) (λ i e is. is.block.known) incoming es k);
            };
            instruction = λ j. record { result = Some (called next); operation = m.Phi (h.tree j) (view j) };
          };
          gives = refl;
        }

    pub makes_load : (flags ty : ℕ) (t : Tree) (address : the_operand.Operand) (e : m.Operand) (alignment : Option ℕ) → IsType a ty t → IsOperand values blocks a address e
        → Makes values blocks a (Some next) (inst.Load flags next ty address alignment) (m.Load flags t e alignment)
    makes_load flags ty t address e alignment h k =
        let view = seen address e k in
        record {
          is = record {
            known = record { operands_known = one O address (known address e k); values_known = All-nil V; types_known = one T ty h.known; blocks_known = All-nil B };
            instruction = λ j. record { result = Some (called next); operation = m.Load flags (h.tree j) (view j) alignment };
          };
          gives = refl;
        }

    pub makes_alloca : (ty : ℕ) (t : Tree) (alignment : Option ℕ) → IsType a ty t → Makes values blocks a (Some next) (inst.Alloca next ty None alignment) (m.Alloca t None alignment)
    makes_alloca ty t alignment h = record {
      is = record {
        known = record { operands_known = All-nil O; values_known = All-nil V; types_known = one T ty h.known; blocks_known = All-nil B };
        instruction = λ j. record { result = Some (called next); operation = m.Alloca (h.tree j) None alignment };
      };
      gives = refl;
    }

    pub makes_counted_alloca : (ty : ℕ) (t : Tree) (count : the_operand.Operand) (e : m.Operand) (alignment : Option ℕ) → IsType a ty t → IsOperand values blocks a count e
        → Makes values blocks a (Some next) (inst.Alloca next ty (Some count) alignment) (m.Alloca t (Some e) alignment)
    makes_counted_alloca ty t count e alignment h k =
        let view = seen count e k in
        record {
          is = record {
            known = record { operands_known = one O count (known count e k); values_known = All-nil V; types_known = one T ty h.known; blocks_known = All-nil B };
            instruction = λ j. record { result = Some (called next); operation = m.Alloca (h.tree j) (Some (view j)) alignment };
          };
          gives = refl;
        }

    pub makes_element_address : (flags source : ℕ) (t : Tree) (base : the_operand.Operand) (b : m.Operand) (indices : List the_operand.Operand) (es : List m.Operand)
        → IsType a source t → IsOperand values blocks a base b → Each (IsOperand values blocks a) indices es
        → Makes values blocks a (Some next) (inst.GetElementPtr flags next source base indices) (m.GetElementPtr flags t b es)
    makes_element_address flags source t base b indices es h k l =
        let first = seen base b k in
        let rest = all_seen indices es l in
        record {
          is = record {
            known = record { operands_known = All-cons O base indices (known base b k) (all_known indices es l); values_known = All-nil V; types_known = one T source h.known; blocks_known = All-nil B };
            instruction = λ j. record { result = Some (called next); operation = m.GetElementPtr flags (h.tree j) (first j) (rest j) };
          };
          gives = refl;
        }

    pub makes_extraction : (aggregate : the_operand.Operand) (e : m.Operand) (indices : List ℕ) → IsOperand values blocks a aggregate e
        → Makes values blocks a (Some next) (inst.ExtractValue next aggregate indices) (m.ExtractValue e indices)
    makes_extraction aggregate e indices h =
        let view = seen aggregate e h in
        record {
          is = record {
            known = record { operands_known = one O aggregate (known aggregate e h); values_known = All-nil V; types_known = All-nil T; blocks_known = All-nil B };
            instruction = λ j. record { result = Some (called next); operation = m.ExtractValue (view j) indices };
          };
          gives = refl;
        }

    pub makes_insertion : (insertion : the_insertion.Insertion) (x y : m.Operand) → IsOperand values blocks a insertion.aggregate x → IsOperand values blocks a insertion.part y
        → Makes values blocks a (Some next) (inst.InsertValue next insertion) (m.InsertValue x y insertion.indices)
    makes_insertion insertion x y h k =
        let whole = seen insertion.aggregate x h in
        let part = seen insertion.part y k in
        record {
          is = record {
            known = record { operands_known = two O insertion.aggregate insertion.part (known insertion.aggregate x h) (known insertion.part y k); values_known = All-nil V; types_known = All-nil T; blocks_known = All-nil B };
            instruction = λ j. record { result = Some (called next); operation = m.InsertValue (whole j) (part j) insertion.indices };
          };
          gives = refl;
        }

  pub makes_store : (flags : ℕ) (stored : the_operand.Operand) (x : m.Operand) (address : the_operand.Operand) (y : m.Operand) (alignment : Option ℕ) → IsOperand values blocks a stored x → IsOperand values blocks a address y
      → Makes values blocks a None (inst.Store flags stored address alignment) (m.Store flags x y alignment)
  makes_store flags stored x address y alignment h k =
      let value = seen stored x h in
      let place = seen address y k in
      record {
        is = record {
          known = record { operands_known = two O stored address (known stored x h) (known address y k); values_known = All-nil V; types_known = All-nil T; blocks_known = All-nil B };
          instruction = λ j. record { result = None; operation = m.Store flags (value j) (place j) alignment };
        };
        gives = refl;
      }

  pub makes_call : (call : the_call.Call) (s : m.Signature) (v : m.Value) (es : List m.Operand) → IsSignature a call.signature s → IsValue values blocks a call.callee v → Each (IsOperand values blocks a) call.arguments es
      → Makes values blocks a call.result (inst.Call call) (m.Call s v es)
  makes_call call s v es h k l =
      let arguments = all_seen call.arguments es l in
      record {
        is = record {
          known = record {
            operands_known = all_known call.arguments es l;
            values_known = one V call.callee k.known;
            types_known = All-cons T call.signature.returns call.signature.parameters h.returns.known h.parameters.known;
            blocks_known = All-nil B;
          };
          instruction = λ j. record {
            result = option_map called call.result;
            operation = m.Call (record { returns = h.returns.tree j; parameters = h.parameters.trees j; variadic = h.variadic j }) (k.value j) (arguments j);
          };
        };
        gives = refl;
      }
