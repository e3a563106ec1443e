-- What stays of an arena in the making while constants are added.
use Rattle.std.proofs.Common.{◌≡◌, ◌+◌, List, [], get_or, take, refl, sym, ap, subst, ◌∙◌}
use Rattle.type_table.specs.Types.{Types, structs, trees}
use Rattle.module_arena.specs.declared.constant.Const.{Const}
use Rattle.module_arena.specs.declared.entry.GlobalId.{GlobalId}
use Rattle.module_arena.specs.declared.entry.GlobalId.TheVariants as global
use Rattle.module_arena.specs.Lists.{Lists, global_name, name_at}
use Rattle.module_arena.specs.Module.{Bytes}
use Rattle.record_table.specs.Fields.{Numbering}
use Rattle.type_read.specs.declared.arena.module_reader.ModuleReader.{ModuleReader}
use Rattle.type_read.specs.Arena.Growing.{Growing, Grows, IsOver}
use Rattle.type_read.specs.Arena.Numbered.{IsDeclared, IsGlobal, Numbers, global_of}
use Rattle.type_read.proofs.OnArena.Kept.{grows_self, grows_two, same_table}
use Rattle.body_read.specs.Operands.Found.{Always}
use Rattle.bitcode_read.specs.Sofar.{AreDeclared}

-- what goes on to hold does so later
pub always_later : (g h : Growing) (P : Lists → Type 0) → Grows g h → Always g P → Always h P
always_later g h P grows all = λ later on. all later (grows_two g h later grows on)

pub always_now : (g : Growing) (P : Lists → Type 0) → Always g P → P g.arena
always_now g P all = all g (grows_self g)

-- ---- entries do not depend on types and constants

global_on : (a : Lists) (t : Types) (cs : List Const) (id : GlobalId) → global_name (record a { table = t; constants = cs }) id ≡ global_name a id
global_on a t cs (global.Variable id) = refl
global_on a t cs (global.Function id) = refl
global_on a t cs (global.Alias id) = refl

name_on : (a : Lists) (t : Types) (cs : List Const) (id : GlobalId) → name_at (record a { table = t; constants = cs }) id ≡ name_at a id
name_on a t cs (global.Variable id) = refl
name_on a t cs (global.Function id) = refl
name_on a t cs (global.Alias id) = refl

is_global_on : (a : Lists) (t : Types) (cs : List Const) (id : GlobalId) (name : Bytes) → IsGlobal a id name → IsGlobal (record a { table = t; constants = cs }) id name
is_global_on a t cs (global.Variable id) name h = record { known = h.known; named = h.named }
is_global_on a t cs (global.Function id) name h = record { known = h.known; named = h.named }
is_global_on a t cs (global.Alias id) name h = record { known = h.known; named = h.named }

module _ (base : Lists) (begun g : Growing) (over : IsOver base begun) (grows : Grows begun g) where
  -- the arena has the entries that were declared
  pub arena_is : g.arena ≡ record base { table = begun.arena.table; constants = g.arena.constants }
  arena_is =
      ap (λ (x : Growing). x.arena) grows.rest
      ∙ (λ j. record (over.arena j) { table = begun.arena.table; constants = g.arena.constants })

  pub global_same : (id : GlobalId) → global_name g.arena id ≡ global_name base id
  global_same id = ap (λ (x : Lists). global_name x id) arena_is ∙ global_on base begun.arena.table g.arena.constants id

  pub name_same : (id : GlobalId) → name_at g.arena id ≡ name_at base id
  name_same id = ap (λ (x : Lists). name_at x id) arena_is ∙ name_on base begun.arena.table g.arena.constants id

-- where all entries are declared they are in the arena
pub declared_now : (m : ModuleReader) (k : Numbering) (base : Lists) (begun : Growing) → IsOver base begun → Grows begun m.growing → AreDeclared base m.globals k → IsDeclared m k
declared_now m k base begun over grows all = λ index lt.
    let id = global_of m.globals index in
    let name = get_or k.globals index [] in
    subst (λ (x : Lists). IsGlobal x id name) (sym (arena_is base begun m.growing over grows)) (is_global_on base begun.arena.table m.growing.arena.constants id name (all index lt))

-- indices stand for the same
pub numbers_kept : (m n : ModuleReader) (k : Numbering) → m.globals ≡ n.globals → m.locals ≡ n.locals → Grows m.growing n.growing → Numbers m k → Numbers n k
numbers_kept m n k globals locals grows h =
    let table = sym (same_table m.growing n.growing grows) in
    let listed : m.growing.types ≡ n.growing.types = sym (ap (λ (x : Growing). x.types) grows.rest) in
    record {
      types = h.types ∙ (λ j. take (listed j) (trees (table j)));
      structs_are = h.structs_are ∙ ap structs table;
      targets = h.targets ∙ ap (λ c. take (c.variables + c.functions) k.globals) globals;
      globals = h.globals ∙ ap (λ c. c.variables + c.functions + c.aliases) globals;
      values = h.values ∙ ap (λ c. c.values) locals;
      blocks = h.blocks ∙ ap (λ c. c.blocks) locals;
    }

pub numbers_later : (m n : ModuleReader) (k : Numbering) → n ≡ record m { growing = n.growing; reader = n.reader } → Grows m.growing n.growing → Numbers m k → Numbers n k
numbers_later m n k rest grows h = numbers_kept m n k (sym (ap (λ (x : ModuleReader). x.globals) rest)) (sym (ap (λ (x : ModuleReader). x.locals) rest)) grows h
