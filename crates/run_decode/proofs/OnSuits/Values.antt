-- What an instruction of a checked module gives is a value, and a phi is of its function.
use Rattle.std.proofs.Common.{◌≡◌, ℕ, ◌<◌, All, List, [], ◌∷◌, length, map, true, Bool, Option, Some, None, is_some, inr, true≢false, refl, sym, arith}
use Rattle.std.specs.List.{AllByRecursion, list_all}
use Rattle.std.specs.Option.{option_map_or}
use Rattle.std.proofs.lemmas.Bool.{and_parts, or_cases}
use Rattle.std.proofs.lemmas.List.Elements.{All-from_recursion, recursion_from_All}
use Rattle.type_table.specs.Tree.{Tree, ptr}
use Rattle.type_table.specs.Types.{structs, tree}
use Rattle.module_arena.specs.declared.entry.Function.{Function}
use Rattle.module_arena.specs.declared.instruction.Incoming.{Incoming}
use Rattle.module_arena.specs.declared.instruction.Inst.{Inst}
use Rattle.module_arena.specs.declared.instruction.Inst.TheVariants as inst
use Rattle.module_arena.specs.declared.instruction.Operand.{Operand}
use Rattle.module_arena.specs.EntryRules.{return_suits}
use Rattle.module_arena.specs.Known.{KnowsInst}
use Rattle.module_arena.specs.Lists.{Lists, function_blocks, value_names}
use Rattle.module_arena.specs.Mentions.{result_of}
use Rattle.module_arena.specs.Operations.{callee}
use Rattle.module_arena.specs.TypeTests.{is_passable, is_type, is_void, part_at}
use Rattle.module_arena.specs.View.{module_of}
use Rattle.module_arena.specs.WellFormed.{known_in}
use Rattle.run_initial.specs.Constants.Laws.{CanStand}
use Rattle.run_decode.specs.Scopes.Places.{GivesValue, HasPart, Returns}
use Rattle.run_decode.specs.Scopes.Scopes.{instruction_of}
use Rattle.run_decode.specs.Scopes.Ways.{HasEntry, PhiSuits}
use Rattle.run_decode.proofs.OnSuits.Asked.{InstructionAsked}
use Rattle.run_decode.proofs.OnSuits.TypedOperands.{IsHad, entry_operand, framed, typed_operands}
use Rattle.run_decode.proofs.OnSuits.Paths.{has_path}

pub some_type : (p : Tree → Bool) (o : Option Tree) → is_type p o ≡ true → is_some o ≡ true
some_type p None h = absurd (true≢false (sym h))
some_type p (Some t) h = refl

module _ (a : Lists) (f : Function) (places : List ℕ) where
  -- what is known of an instruction of a checked module: its ids are those of its function, its types suit, and its operands are there
  pub record IsChecked (i : Inst) : Type 0 where
    pub ids : KnowsInst (length a.table.types) (length a.constants) (length (value_names f)) (length (function_blocks f)) i
    pub results : AllByRecursion (λ id. id < length (value_names f)) (result_of i)
    pub asked : InstructionAsked (structs a.table) (instruction_of a f i)
    pub had : AllByRecursion (IsHad a f places) (typed_operands i)
    pub called : AllByRecursion (CanStand (module_of a)) (option_map_or (known_in ptr) (callee (instruction_of a f i).operation) [])

  -- the type of an operand
  passed : (o : Operand) → IsHad a f places o → Returns a o.ty
  passed o h = record { known = h.has.known; returned = inr h.passes }

  -- a type that is written elsewhere
  given : (ty : ℕ) → ty < length a.table.types → is_passable (structs a.table) (tree a.table ty) ≡ true → Returns a ty
  given ty lt h = record { known = lt; returned = inr h }

  -- indices in an operand
  pub part_there : (o : Operand) (indices : List ℕ) → IsHad a f places o → is_some (part_at (structs a.table) (tree a.table o.ty) indices) ≡ true → HasPart a o.ty indices
  part_there o indices h some = record { known = h.has.known; passable = h.passes; part = has_path (structs a.table) (tree a.table o.ty) indices h.passes some }

  pub gives_value : (i : Inst) → IsChecked i → GivesValue a i
  gives_value (inst.Binary opcode flags result left right) h = passed left h.had.0
  gives_value (inst.Compare flags predicate result left right) h = tt
  gives_value (inst.Convert opcode flags result operand to) h = given to (h.ids.types_known 0 to (omega arith)) h.asked.given_type
  gives_value (inst.Select result choice) h = passed choice.first h.had.1.0
  gives_value (inst.Freeze result operand) h = passed operand h.had.0
  gives_value (inst.Phi result ty incoming) h = given ty (h.ids.types_known 0 ty (omega arith)) h.asked.given_type
  gives_value (inst.Load flags result ty address alignment) h = given ty (h.ids.types_known 0 ty (omega arith)) h.asked.given_type
  gives_value (inst.Store flags stored address alignment) h = tt
  gives_value (inst.Alloca result ty count alignment) h = tt
  gives_value (inst.GetElementPtr flags result source base indices) h = tt
  gives_value (inst.Call call) h =
      let t = tree a.table call.signature.returns in
      let suits = and_parts (return_suits (structs a.table) t) (list_all (is_passable (structs a.table)) (map (tree a.table) call.signature.parameters)) h.asked.other_types in
      record { known = h.ids.types_known 0 call.signature.returns (omega arith); returned = or_cases (is_void t) (is_passable (structs a.table) t) suits.0 }
  gives_value (inst.ExtractValue result aggregate indices) h = part_there aggregate indices h.had.0 h.asked.part
  gives_value (inst.InsertValue result insertion) h = passed insertion.aggregate h.had.0

  -- entries of a phi
  entries_there : (ty : ℕ) (is : List Incoming) → AllByRecursion (IsHad a f places) (map (entry_operand ty) is) → AllByRecursion (λ id. id < length (function_blocks f)) (map (λ (i : Incoming). i.block) is)
      → AllByRecursion (HasEntry (framed a f places) ty) is
  entries_there ty [] h k = tt
  entries_there ty (i ∷ is) h k = (record { value = h.0.has; block = k.0 }, entries_there ty is h.1 k.1)

  phi_there : (ty : ℕ) (is : List Incoming) → AllByRecursion (IsHad a f places) (map (entry_operand ty) is) → All (λ id. id < length (function_blocks f)) (map (λ (i : Incoming). i.block) is) → All (HasEntry (framed a f places) ty) is
  phi_there ty is h k =
      All-from_recursion (HasEntry (framed a f places) ty) is
      (entries_there ty is h (recursion_from_All (λ (id : ℕ). id < length (function_blocks f)) (map (λ (i : Incoming). i.block) is) k))

  pub phi_suits : (i : Inst) → IsChecked i → PhiSuits (framed a f places) i
  phi_suits (inst.Phi result ty incoming) h = record { known = h.results.0; entries = phi_there ty incoming h.had h.ids.blocks_known }
  phi_suits _ h = tt
