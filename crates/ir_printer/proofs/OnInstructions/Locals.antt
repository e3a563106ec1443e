-- What a local is called, by the names of its function.
use Rattle.std.proofs.Common.{◌≡◌, ℕ, List, map, Some, slice_get, slice_index_or, sym, ap, ◌∙◌}
use Rattle.std.specs.Option.{option_map}
use Rattle.std.proofs.lemmas.Option.{get_or_from_slice_get, slice_get-map}
use Rattle.module_arena.specs.declared.entry.Function.{Function}
use Rattle.module_arena.specs.declared.instruction.Operand as the_operand
use Rattle.module_arena.specs.Lists.{Lists}
use Rattle.canonical.specs.Phrase.{Phrase}
use Rattle.canonical.specs.Constants.{operand}
use Rattle.ir_printer.specs.Instructions.Named.{operand_of}

-- what stands at a place of a mapped list
pub mapped_at : {X Y : Type 0} (f : X → Y) (xs : List X) (id : ℕ) (x : X) (d : Y) → slice_get xs id ≡ Some x → f x ≡ slice_index_or (map f xs) id d
mapped_at f xs id x d e = sym (get_or_from_slice_get (map f xs) id (f x) d (slice_get-map f xs id ∙ ap (option_map f) e))

-- the phrases of operands
abbrev pub operands_phrases : Lists → Function → List the_operand.Operand → List Phrase
operands_phrases a f parts = map operand (map (operand_of a f) parts)
