-- Says how the code of `decode` reads: a call by its ids.
use Rattle.std.specs.Prelude.{◌≡◌, ℕ, map, flat_map}
use Rattle.module_arena.specs.declared.instruction.Call.{Call}
use Rattle.run_rules.specs.Scope.{operand_in}
use Rattle.run_names.specs.Shapes.Shapes.{shape_in}
use Rattle.run_decode.specs.declared.flat.pools.Pools.{Pools}
use Rattle.run_decode.specs.Flat.Flat.{IsCallIn, origins_of, signature_of}
use Rattle.run_decode.specs.Flat.Spans.{spanned}
use Rattle.run_decode.specs.Scopes.Scopes.{Framed, operand_of, scope_in}
use Rattle.run_decode.specs.Signatures.Met.{written_as}

-- the call at a place has the function type, the types of arguments and the leaves of arguments of this one
pub record IsCallOf (s : Framed) (p : Pools) (place : ℕ) (c : Call) : Type 0 where
  pub within : IsCallIn p place
  pub signature : signature_of p s.lists within.call ≡ written_as s.lists c.signature.returns c.signature.parameters c.signature.variadic
  pub shapes : map (shape_in s.lists.table) (spanned p.types within.call.shapes) ≡ map (λ o. shape_in s.lists.table o.ty) c.arguments
  pub arguments : origins_of p within.call.arguments ≡ flat_map (operand_in (scope_in s.lists s.function)) (map (operand_of s.lists s.function) c.arguments)
