-- Linked modules with aliases, on examples.
use Rattle.std.specs.Prelude.{◌≡◌, ℕ, ◌^◌, [], ◌∷◌, codes, Some, None, refl}
use Rattle.ir_tables.specs.declared.linkage.Linkage.TheVariants.{External, Internal, Private}
use Rattle.type_table.specs.Tree.{int, named}
use Rattle.type_table.specs.Shape.{name_shape}
use Rattle.module_arena.specs.Module.{Integer, ZeroInitializer, PlainType, Module}
use Rattle.module_arena.specs.Write.{i32, variable, function, just, alias, module_of, struct_with}
use Rattle.linkage_rules.proofs.RowParts.{returns_call, only, only_function}
use Rattle.linkage_rules.proofs.AliasParts.{two_names, other_name, returns_i32, weak_g, alias_g, holds, hides_x, knows_y}
use Rattle.link_rules.specs.Linked.{link_result}
use Rattle.module_arena.specs.declared.fault.CountKind.{CountKind}
use Rattle.module_arena.specs.declared.fault.CountKind.TheVariants.{Structs, Variables, Functions, Aliases, AppendedBytes}
use Rattle.link_rules.specs.Counts.{counts, first_past}

pub alone : link_result (two_names ∷ []) ≡ two_names
alone = refl

pub alone_hidden : link_result (hides_x ∷ []) ≡ hides_x
alone_hidden = refl

-- the weak function is gone, and its call is one of the alias
pub alias_wins : link_result (weak_g ∷ alias_g ∷ []) ≡ record (module_of [] [] (returns_call "main" "g" ∷ function External i32 "f" [] (just 2) ∷ [])) { aliases = alias External "g" returns_i32 "f" ∷ [] }
alias_wins = refl

-- local aliases and their targets get names of their own, and each name is written as that of its symbol
pub locals : link_result (knows_y ∷ hides_x ∷ []) ≡ record (module_of [] (
    variable Private "z" i32 (Some (Integer 4)) ∷ variable Internal "x" i32 (Some (Integer 5)) ∷ holds "q" "z"
    ∷ variable Internal "x.1" i32 (Some (Integer 3)) ∷ holds "p" "z.1" ∷ []) [])
    { aliases = alias Private "w" (PlainType i32) "x" ∷ alias External "y" (PlainType i32) "x.1" ∷ alias Internal "z.1" (PlainType i32) "x.1" ∷ [] }
locals = refl

-- a local alias whose dotted name would be an intrinsic's
pub intrinsic : (link_result (only_function Internal "llvm" 1 ∷ other_name Internal "llvm" External "f" 2 ∷ [])).aliases ≡ alias Internal "llvm_.1" returns_i32 "f" ∷ []
intrinsic = refl

-- the structs in an alias's type are named as in the result
abbrev struct_a : Module
struct_a = module_of (struct_with "T" (i32 ∷ []) ∷ []) [] []

-- an alias of a variable of another struct of that name
abbrev struct_b : Module
struct_b = record (module_of (struct_with "T" (int 64 ∷ []) ∷ []) (variable External "v" (named (codes "T")) (Some ZeroInitializer) ∷ []) []) {
  aliases = alias External "a" (PlainType (named (codes "T"))) "v" ∷ [];
}

pub structs : (link_result (struct_a ∷ struct_b ∷ [])).aliases ≡ alias External "a" (PlainType (named (codes "T.1"))) "v" ∷ []
unfolding name_shape
structs = refl

-- COUNTS: of aliases, with the greater of the counts of variables and functions

-- at most two of each, and three for aliases
abbrev small : CountKind → ℕ
small Structs = 2
small Variables = 2
small Functions = 2
small Aliases = 3
small AppendedBytes = 2 ^ 40

pub few_aliases : first_past small (counts (two_names ∷ [])) ≡ None
few_aliases = refl

pub too_many_aliases : first_past small (counts (alias_g ∷ two_names ∷ [])) ≡ Some (record { kind = Aliases; number = 4 })
too_many_aliases = refl

-- where there is no alias, there are none too many
pub no_aliases : first_past (λ kind. 1) (counts (only External "a" i32 None ∷ [])) ≡ None
no_aliases = refl
