-- How large the elements of an appended array are.
use Rattle.std.proofs.Common.{◌≡◌, ℕ, true, List, Option, Some, None, refl, ap, ◌∙◌}
use Rattle.std.specs.Prelude.{slice_get, is_some, option_and_then}
use Rattle.std.specs.Option.{option_map_or}
use Rattle.std.proofs.lemmas.Bool.{both_ways}
use Rattle.type_table.specs.declared.layout.Layout.{Layout}
use Rattle.type_table.specs.Layout.{layout, size}
use Rattle.type_table.specs.Shape.{Shape}
use Rattle.type_table.specs.Types.{shape, tree, structs}
use Rattle.type_table.specs.Shape as shapes
use Rattle.module_arena.specs.declared.entry.Variable.{Variable}
use Rattle.module_arena.specs.Lists.{Lists}
use Rattle.module_arena.specs.Valid.{IsValid}
use Rattle.module_arena.specs.View.{module_of}
use Rattle.linkage_rules.specs.declared.entry.EntryId.{EntryId}
use Rattle.linkage_rules.specs.declared.symbol.SymbolKind.TheVariants as kind
use Rattle.linkage_rules.specs.Globals.{element_of, type_of}
use Rattle.linkage_rules.specs.Ids.{modules, seen}
use Rattle.linkage_rules.specs.Winner.{is_definition, size_in}
use Rattle.linkage_rules.proofs.ValidParts.{element_shape, variable_lies, layout_size}
use Rattle.linkage_rules.proofs.OnResolving.VariableExtents.{element_laid}

some_unless : (o : Option Layout) → (o ≡ None → ⊥) → is_some o ≡ true
some_unless None h = absurd (h refl)
some_unless (Some l) h = refl

module _ (parts : List Lists) (id : EntryId) (a : Lists) (there : slice_get parts id.part ≡ Some a) (v : Variable) (ty : ℕ) (is : id.kind ≡ kind.Variable) (at : slice_get a.variables id.number ≡ Some v)
    (element : tree a.table ty ≡ element_of (tree a.table v.ty)) where
  pub element_bytes : (l : Layout) → option_and_then layout (shape a.table ty) ≡ Some l → l.size ≡ size_in (modules parts) (seen (modules parts) id).part (element_of (type_of (seen (modules parts) id).global))
  element_bytes l h = layout_size (shape a.table ty) l h ∙ ap (λ (o : Option Shape). option_map_or size o 0) (element_shape parts id a there v ty is at element)

  -- each element of what is defined lies in memory
  pub element_lies : IsValid (module_of a) → is_definition (seen (modules parts) id) ≡ true → option_and_then layout (shape a.table ty) ≡ None → ⊥
  element_lies valid d none =
      let whole : is_some (option_and_then layout (shape a.table v.ty)) ≡ true = some_unless _ (variable_lies parts id a there valid v is at d) in
      let part = element_laid (structs a.table) (tree a.table v.ty) whole in
      both_ways (is_some (option_and_then layout (shape a.table ty))) (ap is_some none) (ap (λ t. is_some (option_and_then layout (shapes.shape (structs a.table) t))) element ∙ part)
