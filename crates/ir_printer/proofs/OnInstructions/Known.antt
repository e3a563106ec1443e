-- What is known of an instruction is known of its parts.
use Rattle.std.proofs.Common.{ℕ, ◌<◌, All, List, map, length, subst, arith}
use Rattle.std.proofs.lemmas.List.{length-map, get_or-map}
use Rattle.module_arena.specs.declared.entry.Function.{Function}
use Rattle.module_arena.specs.declared.instruction.Incoming.{Incoming}
use Rattle.module_arena.specs.declared.instruction.Inst.{Inst}
use Rattle.module_arena.specs.Known.{KnowsInst}
use Rattle.module_arena.specs.Lists.{Lists, value_names, function_blocks}
use Rattle.ir_printer.specs.Instructions.Parts.{HasThisValue, HasIncoming}

-- the ids of an instruction are those of the arena and the function
abbrev pub Is : Lists → Function → Inst → Type 0
Is a f i = KnowsInst (length a.table.types) (length a.constants) (length (value_names f)) (length (function_blocks f)) i

-- the values of a phi and their blocks
pub incoming_known : (a : Lists) (f : Function) (xs : List Incoming) → All (HasThisValue a f) (map (λ (i : Incoming). i.value) xs) → All (λ id. id < length (function_blocks f)) (map (λ (i : Incoming). i.block) xs) → All (HasIncoming a f) xs
incoming_known a f xs values blocks k d lt =
    let many = length-map xs (λ (i : Incoming). i.value) in
    let many_blocks = length-map xs (λ (i : Incoming). i.block) in (
      subst (HasThisValue a f) (get_or-map (λ (i : Incoming). i.value) xs k d d.value lt) (values k d.value (omega (arith, lt, many))),
      subst (λ (id : ℕ). id < length (function_blocks f)) (get_or-map (λ (i : Incoming). i.block) xs k d d.block lt) (blocks k d.block (omega (arith, lt, many_blocks))),
    )
