-- What is asked of parts that are linked: each type and each name that is written in a part is one of that part. All of it
-- holds of parts that are well formed and valid, and have no conflict.
use Rattle.std.specs.Prelude.{◌≡◌, ℕ, true, false, List, flat_map, Option, Some, None, is_some, ⊤}
use Rattle.std.specs.List.{AllByRecursion}
use Rattle.type_table.specs.Tree.{Tree, array}
use Rattle.module_arena.specs.Module.{Bytes, Constant, Module}
use Rattle.module_arena.specs.UsedNames.{names_in_constant}
use Rattle.linkage_rules.specs.Contents.Contents.{ContentPiece, elements_of}
use Rattle.linkage_rules.specs.Entries.{Entry, symbol_in, symbol_of, same_symbol, entries}
use Rattle.linkage_rules.specs.Globals.{Global, OfVariable, OfFunction, OfAlias, linkage_of, element_of, length_of}
use Rattle.linkage_rules.specs.Linkages.{is_appending}
use Rattle.linkage_rules.specs.Winner.{home}
use Rattle.link_rules.proofs.Symbols.{GoTogether}
use Rattle.link_rules.specs.Known.{KnownTree, KnownName}
use Rattle.link_rules.proofs.SameShapes.{StructsFine}
use Rattle.run_rules.specs.Plan.{names_used}
use Rattle.run_rules.specs.Scope.{blocks_of}
use Rattle.run_rules.proofs.OnLaws.SameConstants.{ConstantIn}
use Rattle.run_rules.proofs.OnLaws.SameBlocks.{BlocksIn}
use Rattle.run_rules.proofs.OnLaws.SameLook.{ParametersIn}

module _ (parts : List Module) (i : ℕ) where
  -- an initialiser has known types and names
  abbrev pub InitialiserIn : Tree → Option Constant → Type 0
  InitialiserIn t None = ⊤
  InitialiserIn t (Some c) = ConstantIn (KnownTree parts i) (KnownName parts i) t c

  -- So has all that is written of an entry of part i. An alias's target is defined
  abbrev pub IsKnown : Global → Type 0
  IsKnown (OfVariable v) = KnownTree parts i v.ty × InitialiserIn v.ty v.initialiser
  IsKnown (OfFunction f) = KnownTree parts i f.returns × ParametersIn (KnownTree parts i) f.parameters × BlocksIn (KnownTree parts i) (KnownName parts i) (blocks_of f)
  IsKnown (OfAlias a) = KnownName parts i a.target × (is_some (home parts (symbol_in parts i a.target)) ≡ true)

-- the names in pieces
abbrev pub names_in_pieces : List ContentPiece → List Bytes
names_in_pieces ps = flat_map (λ p. names_in_constant p.value) ps

-- all that an initialiser in part i names stands in its elements
abbrev pub IsList : ℕ → Option Constant → Type 0
IsList i None = ⊤
IsList i (Some c) = names_in_pieces (elements_of i c) ≡ names_in_constant c

-- an appended symbol is of arrays, whose initialisers are lists
abbrev pub AppendsLists : ℕ → Global → Type 0
AppendsLists i (OfVariable v) = is_appending v.linkage ≡ true → (array (length_of v.ty) (element_of v.ty) ≡ v.ty) × IsList i v.initialiser
AppendsLists i (OfFunction f) = is_appending f.linkage ≡ false
AppendsLists i (OfAlias a) = is_appending a.linkage ≡ false

-- of the entries of a symbol all are appended, or none
abbrev pub AppendAlike : List Module → Entry → Type 0
AppendAlike parts d = AllByRecursion (λ e. same_symbol (symbol_of d) (symbol_of e) ≡ true → is_appending (linkage_of e.global) ≡ is_appending (linkage_of d.global)) (entries parts)

-- parts that can be linked
pub record Fit (parts : List Module) : Type 0 where
  pub together : GoTogether parts
  pub structs : StructsFine parts
  pub known : AllByRecursion (λ e. IsKnown parts e.part e.global) (entries parts)
  pub names : AllByRecursion (λ e. AllByRecursion (KnownName parts e.part) (names_used e.global)) (entries parts)
  pub appended : AllByRecursion (λ e. AppendsLists e.part e.global) (entries parts)
  pub alike : AllByRecursion (AppendAlike parts) (entries parts)
