-- Says how the code of `decode` reads: the actions of blocks, and where they stand.
use Rattle.std.specs.Prelude.{◌≡◌, ◌∷◌, [], ◌++◌, All, List, map}
use Rattle.std.specs.List.{AllZip}
use Rattle.module_arena.specs.declared.entry.Block.{Block}
use Rattle.module_arena.specs.Lists.{function_blocks}
use Rattle.run_rules.specs.Action as actions
use Rattle.run_rules.specs.Resolve.{ending_in, instruction_in}
use Rattle.run_decode.specs.declared.flat.action.Action.{Action}
use Rattle.run_decode.specs.declared.flat.leaf.Span.{Span}
use Rattle.run_decode.specs.declared.flat.pools.Pools.{Pools}
use Rattle.run_decode.specs.Flat.Flat.{IsWithin}
use Rattle.run_decode.specs.Flat.Grown.{Stands}
use Rattle.run_decode.specs.Flat.Spans.{IsSpanIn, spanned}
use Rattle.run_decode.specs.Scopes.Scopes.{Framed, block_of, scope_in}

-- the actions of a block: those of its instructions, and of its end
abbrev pub actions_in : Framed → Block → List actions.Action
actions_in s b =
    map (instruction_in (scope_in s.lists s.function)) (block_of s.lists s.function b).instructions
    ++ ending_in (scope_in s.lists s.function) (block_of s.lists s.function b).name (block_of s.lists s.function b).ending ∷ []

-- behind the actions that were there stand flat ones that are these
pub record AddsActions (s : Framed) (p : Pools) (old new : List Action) (meant : List actions.Action) : Type 0 where
  pub more : List Action
  pub actions : new ≡ old ++ more
  pub stands : AllZip (Stands s.lists p) more meant

-- the actions of a block stand there
pub record IsRow (s : Framed) (p : Pools) (done : List Action) (row : Span) (b : Block) : Type 0 where
  pub within : IsSpanIn done row
  pub stands : AllZip (Stands s.lists p) (spanned done row) (actions_in s b)

-- so those of each block of the function, in order, and what all actions point to is there
pub record AreRows (s : Framed) (p : Pools) (done : List Action) (spans : List Span) : Type 0 where
  pub rows : AllZip (IsRow s p done) spans (function_blocks s.function)
  pub within : All (IsWithin p) done
