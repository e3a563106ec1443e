-- An instruction behind its result.
use Rattle.std.proofs.Common.{◌≡◌, ℕ, [], ◌++◌, codes, Option, Some, None, append_assoc, refl, ap}
use Rattle.std.specs.Prelude.{option_to_list}
use Rattle.std.specs.Option.{option_map}
use Rattle.ir_printer.specs.Gathered.Told.{GatherState}
use Rattle.ir_lexer.specs.Pieces.{Separator, Space}
use Rattle.module_arena.specs.declared.entry.Function.{Function}
use Rattle.module_arena.specs.declared.instruction.Inst.{Inst}
use Rattle.module_arena.specs.declared.instruction.Inst.TheVariants as inst
use Rattle.module_arena.specs.Lists.{Lists}
use Rattle.module_arena.specs.Mentions.{result_of}
use Rattle.module_arena.specs.Module.{LocalName}
use Rattle.canonical.specs.Instructions.{assigned, instruction_phrase}
use Rattle.canonical.specs.Names.{local}
use Rattle.canonical.specs.Operations.{operation_phrase}
use Rattle.canonical.specs.Phrase.{Phrase, mark}
use Rattle.ir_printer.specs.Phrases.Printing.{Prints}
use Rattle.ir_printer.proofs.OnPhrases.Printing.{prints_then, prints_same}
use Rattle.ir_printer.specs.Instructions.Parts.{operation_of}
use Rattle.ir_printer.specs.Instructions.Lines.{instruction_of, called_at, result_pieces}

only : (r s : Option ℕ) → option_to_list r ≡ option_to_list s → r ≡ s
only None None e = refl
only (Some x) (Some y) e = cc
only None (Some y) e = absurd cc
only (Some x) None e = absurd cc

module _ (a : Lists) (f : Function) where
  -- what a result is called
  abbrev name_of : Option ℕ → Option LocalName
  name_of r = option_map (called_at a f) r

  result_is : (i : Inst) (r : Option ℕ) → option_to_list r ≡ result_of i → name_of r ≡ (instruction_of a f i).result
  result_is (inst.Binary opcode flags result left right) r e = ap name_of (only r (Some result) e)
  result_is (inst.Compare flags predicate result left right) r e = ap name_of (only r (Some result) e)
  result_is (inst.Convert opcode flags result operand to) r e = ap name_of (only r (Some result) e)
  result_is (inst.Select result choice) r e = ap name_of (only r (Some result) e)
  result_is (inst.Freeze result operand) r e = ap name_of (only r (Some result) e)
  result_is (inst.Phi result ty incoming) r e = ap name_of (only r (Some result) e)
  result_is (inst.Load flags result ty address alignment) r e = ap name_of (only r (Some result) e)
  result_is (inst.Store flags stored address alignment) r e = ap name_of (only r None e)
  result_is (inst.Alloca result ty count alignment) r e = ap name_of (only r (Some result) e)
  result_is (inst.GetElementPtr flags result source base indices) r e = ap name_of (only r (Some result) e)
  result_is (inst.Call call) r e = ap name_of (only r call.result e)
  result_is (inst.ExtractValue result aggregate indices) r e = ap name_of (only r (Some result) e)
  result_is (inst.InsertValue result insertion) r e = ap name_of (only r (Some result) e)

  assigned_put : (p : Phrase) (behind : Separator) (r : Option ℕ) {x y z : GatherState} → Prints x y (result_pieces a f r) → Prints y z (p behind) → Prints x z (assigned (name_of r) p behind)
  assigned_put p behind None h k = prints_then [] (p behind) h k
  assigned_put p behind (Some id) h k =
      let name = local (called_at a f id) Space in
      prints_same (append_assoc name (mark (codes "=") Space) (p behind)) (prints_then (name ++ mark (codes "=") Space) (p behind) h k)

  -- a result and what stands behind it are the instruction
  pub instruction_put : (behind : Separator) (i : Inst) (r : Option ℕ) → option_to_list r ≡ result_of i → {x y z : GatherState} → Prints x y (result_pieces a f r) → Prints y z (operation_phrase (operation_of a f i) behind) → Prints x z (instruction_phrase (instruction_of a f i) behind)
  instruction_put behind i r e h k =
      let p = operation_phrase (operation_of a f i) in
      prints_same (ap (λ (n : Option LocalName). assigned n p behind) (result_is i r e)) (assigned_put p behind r h k)
