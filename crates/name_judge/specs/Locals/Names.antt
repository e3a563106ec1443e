-- Says how the code reads: what a function's values and blocks are called, as it is gathered.
use Rattle.std.specs.Prelude.{◌≡◌, ℕ, ◌<◌, ◌≤◌, ◌^◌, Bool, true, false, not, cond, nat_eq, List, [], ◌∷◌, ◌++◌, map, bytes_eq, is_some, slice_index_or}
use Rattle.indexmap.specs.IndexSet.{contains}
use Rattle.ir_terminals.specs.Digits.{IsWritten}
use Rattle.ir_phrases.specs.Instructions.View.{block_view}
use Rattle.ir_syntax.specs.View.{parameter_view}
use Rattle.module_arena.specs.Module.{Bytes, LocalName, Named, Numbered}
use Rattle.type_table.specs.Names.Entries.{value_of}
use Rattle.name_rules.specs.Locals.{Locals, Announced, announced, is_alike, is_there, locals_from, next_after}
use Rattle.name_judge.specs.declared.locals.kind_names.KindNames.{KindNames}
use Rattle.name_judge.specs.declared.locals.local_names.LocalNames.{LocalNames}
use Rattle.name_judge.specs.declared.locals.gathered.FunctionLocals.{FunctionLocals}

-- whether a number came in turn, as that of a block or of a value: its mark says which, and behind the marks is none
abbrev pub is_marked : List Bool → Bool → ℕ → Bool
is_marked marks block number = is_alike (slice_index_or marks number (not block)) block

-- none is there
pub record AreNone (names : KindNames) : Type 0 where
  pub named : names.named ≡ []
  pub small : (number : ℕ) → contains nat_eq names.small number ≡ false
  pub large : (digits : Bytes) → contains bytes_eq names.large digits ≡ false

-- with the marks these are what the blocks, or the values, among all are called
pub record HoldsKind (marks : List Bool) (names : KindNames) (block : Bool) (all : Locals) : Type 0 where
  pub named : (name : Bytes) → is_some (value_of names.named name) ≡ is_there all block (Named name)
  pub small : (number : ℕ) → number < 2 ^ 64 → cond (is_marked marks block number) true (contains nat_eq names.small number) ≡ is_there all block (Numbered number)
  pub large : (number : ℕ) (digits : Bytes) → 2 ^ 64 ≤ number → IsWritten number digits → contains bytes_eq names.large digits ≡ is_there all block (Numbered number)

-- these are what all are called
pub record HoldsNames (names : LocalNames) (all : Locals) : Type 0 where
  pub values : HoldsKind names.marks.items names.values false all
  pub labels : HoldsKind names.marks.items names.labels true all

-- with this further one of their kind
pub record KindBrings (old new : KindNames) (name : LocalName) : Type 0 where
  pub on_ : (marks : List Bool) (block : Bool) (all : Locals) → HoldsKind marks old block all → HoldsKind marks new block (all ++ (name, block) ∷ [])

-- with these further ones
pub record Brings (old new : LocalNames) (more : Locals) : Type 0 where
  pub on_ : (all : Locals) → HoldsNames old all → HoldsNames new (all ++ more)

-- the next number: so many came in turn
abbrev pub next_of : LocalNames → ℕ
next_of names = names.marks.len

-- with what these are called, the first of which has the next number
pub record Announces (old new : LocalNames) (more : List Announced) : Type 0 where
  pub brings : Brings old new (locals_from (next_of old) more)
  pub behind : next_of new ≡ next_after (next_of old) more

-- what a function's values and blocks are called
abbrev pub locals_of : FunctionLocals → Locals
locals_of locals = locals_from 0 (announced (map parameter_view locals.parameters.now) (map block_view locals.blocks.now))

-- they are gathered, in which no search looks
unfoldable pub AreGathered : FunctionLocals → Type 0
AreGathered locals = HoldsNames locals.names (locals_of locals)
