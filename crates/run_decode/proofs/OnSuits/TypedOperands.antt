-- The operands of an instruction and of an end by their ids, each with the type that its place writes.
use Rattle.std.proofs.Common.{◌≡◌, ℕ, ◌<◌, All, List, [], ◌∷◌, length, map, true, ◌&&◌, Option, Some, None, option_to_list, refl, ap, arith}
use Rattle.std.specs.List.{AllByRecursion}
use Rattle.std.specs.Option.{option_map}
use Rattle.std.proofs.lemmas.Bool.{and_parts}
use Rattle.std.proofs.lemmas.List.Elements.{recursion_from_All}
use Rattle.type_table.specs.Tree.{Tree}
use Rattle.type_table.specs.Types.{structs, tree}
use Rattle.module_arena.specs.declared.entry.Function.{Function}
use Rattle.module_arena.specs.declared.instruction.Case as the_case
use Rattle.module_arena.specs.declared.instruction.Ending.{Ending}
use Rattle.module_arena.specs.declared.instruction.Ending.TheVariants as ending
use Rattle.module_arena.specs.declared.instruction.Incoming as the_incoming
use Rattle.module_arena.specs.declared.instruction.Inst.{Inst}
use Rattle.module_arena.specs.declared.instruction.Inst.TheVariants as inst
use Rattle.module_arena.specs.declared.instruction.Operand as the_operand
use Rattle.module_arena.specs.declared.instruction.Value as the_value
use Rattle.module_arena.specs.declared.instruction.Value.TheVariants as value
use Rattle.module_arena.specs.InstructionRules.{operands_suit, value_types_suit}
use Rattle.module_arena.specs.Known.{KnowsInst}
use Rattle.module_arena.specs.Known as arena
use Rattle.module_arena.specs.Lists.{Lists, value_names}
use Rattle.module_arena.specs.Mentions.{end_operands_of}
use Rattle.module_arena.specs.Module.{Incoming, Operand}
use Rattle.module_arena.specs.Module as m
use Rattle.module_arena.specs.Operations.{case_operand, ending_operands, incoming_operand, operands}
use Rattle.module_arena.specs.TypeTests.{is_passable}
use Rattle.module_arena.specs.View.{constants_of, module_of}
use Rattle.module_arena.specs.View as view
use Rattle.module_arena.specs.WellFormed.{known_in, known_of_operands}
use Rattle.run_initial.specs.Constants.Laws.{CanStand}
use Rattle.run_decode.specs.Scopes.Scopes.{Framed, HasOperand, HasValue, StandsAt, incoming_of, instruction_of, labels_in, operand_of, value_of, values_in}
use Rattle.type_table.specs.Types.{trees}
use Rattle.run_decode.proofs.OnSuits.Listed.{back_of, front_of}

-- a value of a phi, with the phi's type
abbrev pub entry_operand : ℕ → the_incoming.Incoming → the_operand.Operand
entry_operand ty i = record { ty = ty; value = i.value }

-- the operands of an instruction, those that are written without a type too
abbrev pub typed_operands : Inst → List the_operand.Operand
typed_operands (inst.Binary opcode flags result left right) = left ∷ record { ty = left.ty; value = right } ∷ []
typed_operands (inst.Compare flags predicate result left right) = left ∷ record { ty = left.ty; value = right } ∷ []
typed_operands (inst.Convert opcode flags result operand to) = operand ∷ []
typed_operands (inst.Select result choice) = choice.condition ∷ choice.first ∷ choice.second ∷ []
typed_operands (inst.Freeze result operand) = operand ∷ []
typed_operands (inst.Phi result ty incoming) = map (entry_operand ty) incoming
typed_operands (inst.Load flags result ty address alignment) = address ∷ []
typed_operands (inst.Store flags stored address alignment) = stored ∷ address ∷ []
typed_operands (inst.Alloca result ty count alignment) = option_to_list count
typed_operands (inst.GetElementPtr flags result source base indices) = base ∷ indices
typed_operands (inst.Call call) = call.arguments
typed_operands (inst.ExtractValue result aggregate indices) = aggregate ∷ []
typed_operands (inst.InsertValue result insertion) = insertion.aggregate ∷ insertion.part ∷ []

-- the operand that the number of a case is
abbrev pub number_operand : the_case.Case → the_operand.Operand
number_operand c = record { ty = c.ty; value = value.Known c.value }

-- ---- the ids are those of the arena

module _ (types constants values blocks : ℕ) where
  -- so each operand
  abbrev pub AllKnown : List the_operand.Operand → Type 0
  AllKnown os = AllByRecursion (arena.HasOperand types constants values) os

  entries_known : (ty : ℕ) → ty < types → (is : List the_incoming.Incoming) → AllByRecursion (arena.HasValue constants values) (map (λ (i : the_incoming.Incoming). i.value) is) → AllKnown (map (entry_operand ty) is)
  entries_known ty lt [] h = tt
  entries_known ty lt (i ∷ is) h = ((lt, h.0), entries_known ty lt is h.1)

  pair_known : (left : the_operand.Operand) (right : the_value.Value) → All (arena.HasOperand types constants values) (left ∷ []) → All (arena.HasValue constants values) (right ∷ []) → AllKnown (left ∷ record { ty = left.ty; value = right } ∷ [])
  pair_known left right h k =
      let first = h 0 left (omega arith) in
      (first, ((first.0, k 0 right (omega arith)), tt))

  others_known : (os : List the_operand.Operand) → All (arena.HasOperand types constants values) os → AllKnown os
  others_known os h = recursion_from_All (arena.HasOperand types constants values) os h

  pub operands_known : (i : Inst) → KnowsInst types constants values blocks i → AllKnown (typed_operands i)
  operands_known (inst.Binary opcode flags result left right) h = pair_known left right h.operands_known h.values_known
  operands_known (inst.Compare flags predicate result left right) h = pair_known left right h.operands_known h.values_known
  operands_known (inst.Convert opcode flags result operand to) h = others_known (operand ∷ []) h.operands_known
  operands_known (inst.Select result choice) h = others_known (choice.condition ∷ choice.first ∷ choice.second ∷ []) h.operands_known
  operands_known (inst.Freeze result operand) h = others_known (operand ∷ []) h.operands_known
  operands_known (inst.Phi result ty incoming) h =
      entries_known ty (h.types_known 0 ty (omega arith)) incoming (recursion_from_All (arena.HasValue constants values) (map (λ (i : the_incoming.Incoming). i.value) incoming) h.values_known)
  operands_known (inst.Load flags result ty address alignment) h = others_known (address ∷ []) h.operands_known
  operands_known (inst.Store flags stored address alignment) h = others_known (stored ∷ address ∷ []) h.operands_known
  operands_known (inst.Alloca result ty count alignment) h = others_known (option_to_list count) h.operands_known
  operands_known (inst.GetElementPtr flags result source base indices) h = others_known (base ∷ indices) h.operands_known
  operands_known (inst.Call call) h = others_known call.arguments h.operands_known
  operands_known (inst.ExtractValue result aggregate indices) h = others_known (aggregate ∷ []) h.operands_known
  operands_known (inst.InsertValue result insertion) h = others_known (insertion.aggregate ∷ insertion.part ∷ []) h.operands_known

module _ (a : Lists) (f : Function) where
  -- ---- they are the operands that are meant

  entries_seen : (ty : ℕ) (is : List the_incoming.Incoming) → map (incoming_operand (tree a.table ty)) (map (incoming_of a f) is) ≡ map (operand_of a f) (map (entry_operand ty) is)
  entries_seen ty [] = refl
  entries_seen ty (i ∷ is) = ap (λ (os : List Operand). operand_of a f (entry_operand ty i) ∷ os) (entries_seen ty is)

  count_seen : (o : Option the_operand.Operand) → option_to_list (option_map (operand_of a f) o) ≡ map (operand_of a f) (option_to_list o)
  count_seen None = refl
  count_seen (Some o) = refl

  pub operands_seen : (i : Inst) → operands (instruction_of a f i).operation ≡ map (operand_of a f) (typed_operands i)
  operands_seen (inst.Binary opcode flags result left right) = refl
  operands_seen (inst.Compare flags predicate result left right) = refl
  operands_seen (inst.Convert opcode flags result operand to) = refl
  operands_seen (inst.Select result choice) = refl
  operands_seen (inst.Freeze result operand) = refl
  operands_seen (inst.Phi result ty incoming) = entries_seen ty incoming
  operands_seen (inst.Load flags result ty address alignment) = refl
  operands_seen (inst.Store flags stored address alignment) = refl
  operands_seen (inst.Alloca result ty count alignment) = count_seen count
  operands_seen (inst.GetElementPtr flags result source base indices) = refl
  operands_seen (inst.Call call) = refl
  operands_seen (inst.ExtractValue result aggregate indices) = refl
  operands_seen (inst.InsertValue result insertion) = refl

  -- the end that is meant
  abbrev pub ending_of : Ending → m.Ending
  ending_of e = view.ending_view (trees a.table) (constants_of a) (values_in a f) (labels_in a f) e

  -- the case that is meant
  abbrev pub case_of : the_case.Case → m.Case
  case_of c = view.case_view (trees a.table) (constants_of a) (values_in a f) (labels_in a f) c

  cases_seen : (cs : List the_case.Case) → map case_operand (map case_of cs) ≡ map (operand_of a f) (map number_operand cs)
  cases_seen [] = refl
  cases_seen (c ∷ cs) = ap (λ (os : List Operand). operand_of a f (number_operand c) ∷ os) (cases_seen cs)

  pub ending_operands_seen : (e : Ending) → ending_operands (ending_of e) ≡ map (operand_of a f) (end_operands_of e)
  ending_operands_seen ending.ReturnVoid = refl
  ending_operands_seen (ending.Return operand) = refl
  ending_operands_seen (ending.Jump target) = refl
  ending_operands_seen (ending.Branch condition then_to else_to) = refl
  ending_operands_seen (ending.Switch operand otherwise cases) = ap (λ (os : List Operand). operand_of a f operand ∷ os) (cases_seen cases)
  ending_operands_seen ending.Unreachable = refl

  module _ (places : List ℕ) where
    abbrev pub framed : Framed
    framed = record { lists = a; function = f; places = places }

    -- an operand is of the function and can stand there, and its type is one of values that are handed on
    pub record IsHad (o : the_operand.Operand) : Type 0 where
      pub has : HasOperand framed o
      pub passes : is_passable (structs a.table) (tree a.table o.ty) ≡ true

    pub value_there : (v : the_value.Value) → arena.HasValue (length a.constants) (length (value_names f)) v → HasValue framed v
    value_there (value.Local id) h = h
    value_there (value.Known id) h = h

    pub value_stands : (t : Tree) (v : the_value.Value) → AllByRecursion (CanStand (module_of a)) (known_in t (value_of a f v)) → StandsAt framed t v
    value_stands t (value.Local id) h = tt
    value_stands t (value.Known id) h = h.0

    pub all_had : (os : List the_operand.Operand) → AllByRecursion (arena.HasOperand (length a.table.types) (length a.constants) (length (value_names f))) os
        → operands_suit (structs a.table) (map (operand_of a f) os) ≡ true → AllByRecursion (CanStand (module_of a)) (known_of_operands (map (operand_of a f) os)) → AllByRecursion IsHad os
    all_had [] h s c = tt
    all_had (o ∷ os) h s c =
        let t = tree a.table o.ty in
        let first = known_in t (value_of a f o.value) in
        let others = known_of_operands (map (operand_of a f) os) in
        let p = and_parts (is_passable (structs a.table) t && value_types_suit (structs a.table) t (value_of a f o.value)) (operands_suit (structs a.table) (map (operand_of a f) os)) s in
        let q = and_parts (is_passable (structs a.table) t) (value_types_suit (structs a.table) t (value_of a f o.value)) p.0 in (
          record {
            has = record { known = h.0.0; there = value_there o.value h.0.1; stands = value_stands t o.value (front_of (CanStand (module_of a)) first others c) };
            passes = q.0;
          },
          all_had os h.1 p.1 (back_of (CanStand (module_of a)) first others c),
        )
