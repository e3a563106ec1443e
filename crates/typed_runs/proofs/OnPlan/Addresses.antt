-- The address of a global is a pointer: into a variable's block, or none.
use Rattle.std.proofs.Common.{◌≡◌, ℕ, List, length, refl, Bool, true, false, cond, nat_lt, Some, None, ltb-true}
use Rattle.std.specs.Prelude.{position}
use Rattle.std.specs.List.{position_or_len}
use Rattle.ir_memory.specs.declared.leaf.Leaf.TheVariants as leaf
use Rattle.ir_memory.specs.Given.{IsBlock}
use Rattle.module_arena.specs.Module.{Bytes, Module}
use Rattle.linkage_rules.specs.Bind.{Bound, meaning, behind}
use Rattle.linkage_rules.specs.Bind as bound
use Rattle.linkage_rules.specs.Entries.{symbol_in, same_symbol}
use Rattle.linkage_rules.specs.declared.symbol.Symbol.{Symbol}
use Rattle.linkage_rules.specs.Addresses.{Room, rooms}
use Rattle.run_rules.specs.Look.{leaf_of, address_in}
use Rattle.typed_runs.specs.Kinds.{IsOf}

place_within : {X : Type 0} (test : X → Bool) (xs : List X) → IsBlock (length xs) (position test xs)
place_within test xs = go (nat_lt (position_or_len test xs) (length xs)) refl
  where
    go : (b : Bool) → nat_lt (position_or_len test xs) (length xs) ≡ b → IsBlock (length xs) (cond b (Some (position_or_len test xs)) None)
    go true e = ltb-true (position_or_len test xs) (length xs) e
    go false e = tt

module _ (parts : List Module) where
  symbol_within : (s : Symbol) → IsBlock (length (rooms parts)) (position (λ (row : Symbol × Room). same_symbol (behind parts s) row.0) (rooms parts))
  symbol_within s = place_within (λ (row : Symbol × Room). same_symbol (behind parts s) row.0) (rooms parts)

  meant_typed : (s : Symbol) (b : Bound) → IsOf (length (rooms parts)) leaf.Ptr (leaf_of parts s b)
  meant_typed s (bound.Definition e) = symbol_within s
  meant_typed s (bound.Appended symbol) = symbol_within s
  meant_typed s (bound.Host name) = symbol_within s
  meant_typed s bound.Null = tt
  meant_typed s bound.Unresolved = tt

  pub address_typed : (i : ℕ) (name : Bytes) → IsOf (length (rooms parts)) leaf.Ptr (address_in parts i name)
  address_typed i name = meant_typed (symbol_in parts i name) (meaning parts (symbol_in parts i name))
