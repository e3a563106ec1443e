-- For `FunctionScope::new`: that types are those of values, and where the leaves of parameters and results are placed.
use Rattle.std.specs.Prelude.{◌≡◌, ℕ, ◌+◌, ◌<◌, true, ◌⊎◌, List, [], ◌∷◌, ◌++◌, All, length}
use Rattle.module_arena.specs.declared.entry.Block.{Block}
use Rattle.module_arena.specs.declared.entry.Function.{Function}
use Rattle.module_arena.specs.declared.instruction.Inst.{Inst}
use Rattle.module_arena.specs.declared.instruction.Inst.TheVariants as inst
use Rattle.module_arena.specs.Lists.{Lists, function_blocks}
use Rattle.module_arena.specs.TypeTests.{is_passable, is_void}
use Rattle.run_rules.specs.Scope.{Typed}
use Rattle.run_names.specs.Shapes.Shapes.{HasPath, shape_in}
use Rattle.type_table.specs.Layout.{leaves}
use Rattle.type_table.specs.Types.{structs, tree}

-- a type of a value that an instruction may give: `void` or one of values
pub record Returns (a : Lists) (ty : ℕ) : Type 0 where
  pub known : ty < length a.table.types
  pub returned : (is_void (tree a.table ty) ≡ true) ⊎ (is_passable (structs a.table) (tree a.table ty) ≡ true)

-- indices lead to a part of a type of values
pub record HasPart (a : Lists) (ty : ℕ) (indices : List ℕ) : Type 0 where
  pub known : ty < length a.table.types
  pub passable : is_passable (structs a.table) (tree a.table ty) ≡ true
  pub part : HasPath (shape_in a.table ty) indices

-- what is asked of the type of what an instruction gives
abbrev pub GivesValue : Lists → Inst → Type 0
GivesValue a (inst.Binary opcode flags result left right) = Returns a left.ty
GivesValue a (inst.Compare flags predicate result left right) = Unit {0}
GivesValue a (inst.Convert opcode flags result operand to) = Returns a to
GivesValue a (inst.Select result choice) = Returns a choice.first.ty
GivesValue a (inst.Freeze result operand) = Returns a operand.ty
GivesValue a (inst.Phi result ty incoming) = Returns a ty
GivesValue a (inst.Load flags result ty address alignment) = Returns a ty
GivesValue a (inst.Store flags stored address alignment) = Unit {0}
GivesValue a (inst.Alloca result ty count alignment) = Unit {0}
GivesValue a (inst.GetElementPtr flags result source base indices) = Unit {0}
GivesValue a (inst.Call call) = Returns a call.signature.returns
GivesValue a (inst.ExtractValue result aggregate indices) = HasPart a aggregate.ty indices
GivesValue a (inst.InsertValue result insertion) = Returns a insertion.aggregate.ty

-- the parameters and results of a function are values
pub record HasValues (a : Lists) (f : Function) : Type 0 where
  pub parameters : All (λ p. Returns a p.ty) f.parameters
  pub results : All (λ (b : Block). All (GivesValue a) b.instructions) (function_blocks f)

-- where the leaves of each begin that follow those up to a place
abbrev pub begins_from : ℕ → List Typed → List ℕ
begins_from place [] = []
begins_from place (x ∷ xs) = place ∷ begins_from (place + leaves x.1) xs

-- where the last ones end
abbrev pub end_from : ℕ → List Typed → ℕ
end_from place [] = place
end_from place (x ∷ xs) = end_from (place + leaves x.1) xs

-- to places the beginnings of some parameters or results were added that follow those up to a place, and these end there
pub record AreAdded (first : ℕ) (xs : List Typed) (old new : List ℕ) (end : ℕ) : Type 0 where
  pub places : new ≡ old ++ begins_from first xs
  pub ends : end ≡ end_from first xs
