-- Says how the code of `write` reads: the entries of a module by the ids of an arena, and what must hold of bodies to be spelled as they are.
use Rattle.std.specs.Prelude.{◌≡◌, true, ℕ, List, [], map, All, Option, option_to_list, slice_index_or, bytes_eq, is_some}
use Rattle.std.specs.List.{list_any}
use Rattle.type_table.specs.declared.ir_type.IrType.{IrType}
use Rattle.type_table.specs.declared.ir_type.StructBody.{StructBody}
use Rattle.type_table.specs.Tree.{Tree, TreeBody, opaque_body}
use Rattle.type_table.specs.Types.{trees, tree, structs, names, tree_of, tree_body}
use Rattle.module_arena.specs.declared.entry.Alias as the_alias
use Rattle.module_arena.specs.declared.entry.AliasType as the_alias_type
use Rattle.module_arena.specs.declared.entry.Block as the_block
use Rattle.module_arena.specs.declared.entry.Function as the_function
use Rattle.module_arena.specs.declared.entry.Variable as the_variable
pub use Rattle.module_arena.specs.FunctionView.{block_of}
use Rattle.module_arena.specs.Lists.{Lists, name_at, function_blocks}
use Rattle.module_arena.specs.Module as m
use Rattle.module_arena.specs.View.{module_of, constants_of, variable_view, alias_type_view, alias_view, function_view}
use Rattle.record_table.specs.Fields.{ty, truth, target}
use Rattle.record_table.specs.Layout.{◌&◌, either, counted, option}
use Rattle.record_table.specs.Constants.{constant}
use Rattle.record_table.specs.Mentions.{mentioned}
use Rattle.record_table.specs.Records.{alias_type_parts}
use Rattle.record_table.specs.Spelling.{Line, by_ids, body_by_ids, type_line}
use Rattle.record_table.specs.Standing.{Stands, HasCode}
use Rattle.record_table.specs.TypeRecords.{definition, struct_body}
use Rattle.record_write.specs.Operands.Numbered.{indices, texts, constant_of}
use Rattle.bitcode_write.specs.Lines.Ids.{KnowsLine, KnowsEnd}
use Rattle.bitcode_write.specs.Lines.Lines.{IsLine, IsEnd}

module _ (a : Lists) where
  -- a type by the places of its parts among the types that the module mentions
  abbrev pub type_in : Tree → IrType
  type_in t = by_ids (mentioned (module_of a)) (map (λ s. s.0) (module_of a).structs) t

  -- what a type of the table is made of, as operands
  abbrev pub type_operands : IrType → List ℕ
  type_operands x = (type_line (type_in (tree_of (names a.table) (trees a.table) x))).1

  -- and what a struct is
  abbrev pub body_operands : Option StructBody → List ℕ
  body_operands b = (struct_body 0).spell (body_by_ids (mentioned (module_of a)) (tree_body (trees a.table) b))

  -- the record of a struct
  abbrev pub define_in : List ℕ × TreeBody → Line
  define_in s = (7, (definition (texts a) 0).spell (body_by_ids (mentioned (module_of a)) s.1, s.0))

  -- the record of the struct with that id
  abbrev pub struct_in : ℕ → Line
  struct_in id = define_in (slice_index_or (structs a.table) id ([], opaque_body))

  -- the variable that is meant
  abbrev pub variable_of : the_variable.Variable → m.Variable
  variable_of v = variable_view (trees a.table) (constants_of a) v

  -- the alias that is meant
  abbrev pub alias_of : the_alias.Alias → m.Alias
  alias_of x = alias_view (trees a.table) (name_at a) x

  -- the function that is meant
  abbrev pub function_of : the_function.Function → m.Function
  function_of f = function_view (trees a.table) (constants_of a) f

  -- what an alias says of its target, as operands
  abbrev pub alias_type_operands : the_alias_type.AliasType → List ℕ
  alias_type_operands t = (either (ty (indices a)) (ty (indices a) & truth & counted (ty (indices a)))).spell (alias_type_parts (alias_type_view (trees a.table) t))

  -- whether a variable has an initialiser, and the initialiser, as operands
  abbrev pub initialiser_operands : the_variable.Variable → List ℕ
  initialiser_operands v = (option (constant (indices a) (tree a.table v.ty))).spell (variable_of v).initialiser

  -- a variable has an alignment that has a code, and an initialiser whose integers have room
  pub record IsVariable (v : the_variable.Variable) : Type 0 where
    pub alignment : HasCode v.alignment
    pub initialiser : All (λ id. Stands (tree a.table v.ty) (constant_of a id)) (option_to_list v.initialiser)

  -- an alias is of a variable or a function
  pub record IsAlias (x : the_alias.Alias) : Type 0 where
    pub some : is_some x.target ≡ true
    pub among : list_any (λ name. bytes_eq name (alias_of x).target) (indices a).targets ≡ true

  module _ (f : the_function.Function) where
    -- the ids of a block are those of the arena and the function, and its lines can be spelled as they are
    pub record IsBlock (b : the_block.Block) : Type 0 where
      pub known : All (KnowsLine a f) b.instructions
      pub lines : All (IsLine a f) b.instructions
      pub end_known : KnowsEnd a b.end
      pub ending : IsEnd a f b.end

  -- the same of each entry of a module
  pub record AreEntries : Type 0 where
    pub variables : All IsVariable a.variables
    pub aliases : All IsAlias a.aliases
    pub functions : All (λ f. All (IsBlock f) (function_blocks f)) a.functions
