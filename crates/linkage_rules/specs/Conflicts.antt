-- For `resolve_symbols` and `link`: why parts cannot be linked: two entries of one name that do not go together.
use Rattle.std.specs.Prelude.{◌≡◌, ℕ, ◌<◌, Bool, true, not, ◌&&◌, List, [], ◌∷◌, map, filter, flat_map, Contains, Option}
use Rattle.module_arena.specs.Module.{Bytes, Module}
pub use Rattle.linkage_rules.specs.declared.conflict.ConflictKind.{ConflictKind}
pub use Rattle.linkage_rules.specs.declared.conflict.ConflictKind.TheVariants.{TwoStrong, FunctionAndVariable, AppendingAndPlain, ElementShape, Constness}
use Rattle.linkage_rules.specs.Globals.{linkage_of, is_variable, type_of, is_constant, element_of}
use Rattle.linkage_rules.specs.Linkages.{is_external, is_appending}
use Rattle.linkage_rules.specs.Lists.{pairs, first}
use Rattle.linkage_rules.specs.SameShape.{agree, alike}
use Rattle.linkage_rules.specs.Entries.{Entry, Symbol, Shared, Local, mentions}
use Rattle.linkage_rules.specs.Symbols.{symbols}
use Rattle.linkage_rules.specs.Winner.{is_definition, shape_in}

-- all kinds, in the order in which they are told
abbrev pub conflict_kinds : List ConflictKind
conflict_kinds = TwoStrong ∷ FunctionAndVariable ∷ AppendingAndPlain ∷ ElementShape ∷ Constness ∷ []

-- a definition that suffers no other
abbrev pub is_strong : Entry → Bool
is_strong e = is_definition e && is_external (linkage_of e.global)

-- its elements are to stand behind those of other parts
abbrev pub appends : Entry → Bool
appends e = is_appending (linkage_of e.global)

-- whether two elements have types of one shape
abbrev pub elements_alike : List Module → Entry → Entry → Bool
elements_alike parts a b = alike (shape_in parts a.part (element_of (type_of a.global))) (shape_in parts b.part (element_of (type_of b.global)))

-- whether two entries of one name are in conflict, and this is the kind
abbrev pub clash : List Module → ConflictKind → Entry → Entry → Bool
clash parts TwoStrong a b = is_strong a && is_strong b
clash parts FunctionAndVariable a b = not (agree (is_variable a.global) (is_variable b.global))
clash parts AppendingAndPlain a b = not (agree (appends a) (appends b))
clash parts ElementShape a b = appends a && appends b && not (elements_alike parts a b)
clash parts Constness a b = appends a && appends b && not (agree (is_constant a.global) (is_constant b.global))

-- an earlier and a later part have entries of the name that are in conflict
pub record Conflict (parts : List Module) (kind : ConflictKind) (name : Bytes) (i j : ℕ) : Type 0 where
  pub one : Entry
  pub other : Entry
  pub one_is : Contains (mentions parts name) one
  pub other_is : Contains (mentions parts name) other
  pub one_part : one.part ≡ i
  pub other_part : other.part ≡ j
  pub in_order : i < j
  pub clashes : clash parts kind one other ≡ true

-- a conflict: its kind, its name, and an earlier and a later part
pub record FoundConflict : Type 0 where
  pub kind : ConflictKind
  pub name : Bytes
  pub one : ℕ
  pub other : ℕ

-- the conflict of two entries
abbrev pub found_conflict : ConflictKind → Bytes → Entry × Entry → FoundConflict
found_conflict kind name pair = record { kind = kind; name = name; one = pair.0.part; other = pair.1.part }

-- the conflicts of a kind under a name, the least pair of parts first
abbrev pub conflicts_of_kind : List Module → Bytes → ConflictKind → List FoundConflict
conflicts_of_kind parts name kind = map (found_conflict kind name) (filter (λ pair. clash parts kind pair.0 pair.1) (pairs (mentions parts name)))

-- the conflicts of a symbol, the least kind first; a local symbol has none
abbrev pub conflicts_of : List Module → Symbol → List FoundConflict
conflicts_of parts (Shared name) = flat_map (conflicts_of_kind parts name) conflict_kinds
conflicts_of parts (Local i name) = []

-- all conflicts: by symbol, then by kind, then by pair of parts
abbrev pub conflicts : List Module → List FoundConflict
conflicts parts = flat_map (conflicts_of parts) (symbols parts)

-- the one that is told
abbrev pub first_conflict : List Module → Option FoundConflict
first_conflict parts = first (conflicts parts)
