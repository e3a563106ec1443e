-- Where nothing fails that an item asks for, it can be declared and completed.
use Rattle.std.proofs.Common.{◌≡◌, ◌+◌, ◌<◌, ◌≤◌, ◌^◌, ◌-◌, List, [], ◌∷◌, ◌++◌, length, false, Option, Some, None, All, arith}
use Rattle.std.specs.List.{flat_map, filter_map, sum_by}
use Rattle.std.proofs.lemmas.List.Elements.{All-nil, All-cons, All-head, All-tail}
use Rattle.std.proofs.lemmas.List.Sums.{sum_by-cons}
use Rattle.ir_phrases.specs.Constants.Tree.{TypeTree, ConstantTree}
use Rattle.ir_phrases.specs.Constants.Forms.{AllAre}
use Rattle.ir_phrases.specs.Instructions.Tree.{BlockTree}
use Rattle.ir_phrases.specs.Instructions.Forms.{IsBlockFormed}
use Rattle.ir_syntax.specs.Counts.{block_count, item_count, counted, most_counted}
use Rattle.ir_syntax.specs.Forms.{IsItemFormed}
use Rattle.ir_syntax.specs.Tree.{AliasTypeTree, PlainAlias, FunctionAlias, ParameterTree, HeadTree, ItemTree, SourceFilename, DataLayout, TargetTriple, Struct, Variable, Alias, Declaration, Definition, Attributes, Metadata}
use Rattle.module_arena.specs.Lists.{Lists}
use Rattle.name_rules.specs.declared.fault.ResolveFault.TheVariants as faults
use Rattle.name_rules.specs.Spelled.{spelled_global}
use Rattle.name_rules.specs.Locals.{Locals, announced, locals_from}
use Rattle.name_rules.specs.Written.{type_in}
use Rattle.name_rules.specs.ModuleOf.{structs_in}
use Rattle.name_rules.specs.Demand.{first_refusal, is_new, is_small, is_large, nests}
use Rattle.name_rules.specs.TypeDemands.{Known, has_name, is_global, struct_measured, have_past, type_demands, types_demands, body_types, ends, struct_type_demands}
use Rattle.name_rules.specs.FunctionDemands.{Called, none_called, called_with, called_after, call_demands, alignment_demands, blocks_demands, parameters_demands, definition_demands}
use Rattle.name_rules.specs.Breaks.{struct_name, global_name, known_in, initialiser_demands, content_demands, alias_type_demands, head_demands, item_demands, demands_behind, demands}
use Rattle.name_rules.proofs.Judging.{held, both_hold}
use Rattle.item_build.specs.Types.Fitting.{CanBe}
use Rattle.item_build.specs.Types.Declarations.{CanAlias}
use Rattle.item_build.specs.Buildable.Narrow.{IsNarrow, IsNarrowBlock, IsNarrowInitialiser, IsNarrowAlias, IsNarrowParameter, IsNarrowItem}
use Rattle.item_build.specs.Buildable.Bodies.{CanBody, values_of, labels_of}
use Rattle.item_build.specs.Buildable.Entries.{CanDeclare, CanInitialise, CanComplete}
use Rattle.ir_resolve.proofs.OnBuildsWell.Given.{IsGiven}
use Rattle.ir_resolve.proofs.OnBuildsWell.Types.{bits_narrow, can_type, can_types, can_struct}
use Rattle.ir_resolve.proofs.OnBuildsWell.Constants.{can_name, can_hold}
use Rattle.ir_resolve.proofs.OnBuildsWell.Operations.{short_alignment}
use Rattle.ir_resolve.proofs.OnBuildsWell.Blocks.{can_blocks}
use Rattle.ir_resolve.proofs.OnBuildsWell.Locals.{are_locals}

-- what holds of each item of which nothing is asked in vain, and that has not too many parts
module _ (known : Known) (P : ItemTree → Type 0) (each : (before : List ItemTree) (i : ItemTree) → IsNarrowItem i → IsItemFormed i → item_count i ≤ most_counted → first_refusal (item_demands known before i) ≡ None → P i) where
  pub all_items : (before xs : List ItemTree) → All IsNarrowItem xs → AllAre IsItemFormed xs → counted xs ≤ most_counted → first_refusal (demands_behind known before xs) ≡ None → All P xs
  all_items before [] n f c e = All-nil P
  all_items before (i ∷ more) n f c e =
      let parts = both_hold (item_demands known before i) (demands_behind known (before ++ i ∷ []) more) e in
      let sum = sum_by-cons item_count i more in
      All-cons P i more (each before i (All-head IsNarrowItem i more n) f.0 (omega (arith, sum, c)) parts.0)
      (all_items (before ++ i ∷ []) more (All-tail IsNarrowItem i more n) f.1 (omega (arith, sum, c)) parts.1)

module _ (items : List ItemTree) (unbroken : first_refusal (demands items) ≡ None) where
  can_alias : (ty : AliasTypeTree) → IsNarrowAlias ty → first_refusal (alias_type_demands (known_in items) ty) ≡ None → CanAlias (structs_in items) ty
  can_alias (PlainAlias t) n e = can_type items unbroken t n e
  can_alias (FunctionAlias returns parameters variadic) n e =
      let parts = both_hold (type_demands (known_in items) returns) (flat_map (type_demands (known_in items)) parameters) e in
      (can_type items unbroken returns n.0 parts.0, can_types items unbroken parameters n.1 parts.1)

  can_parameters : (all : Locals) (before : Called) (ps : List ParameterTree) → All IsNarrowParameter ps → first_refusal (parameters_demands (known_in items) all before ps) ≡ None
      → All (λ (p : ParameterTree). CanBe (structs_in items) (type_in p.0)) ps
  can_parameters all before [] n e = All-nil (λ (p : ParameterTree). CanBe (structs_in items) (type_in p.0))
  can_parameters all before (p ∷ ps) n e =
      let behind = parameters_demands (known_in items) all (called_with before (false, p.1)) ps in
      let first = both_hold (type_demands (known_in items) p.0) (call_demands before p.1 ++ behind) e in
      let second = both_hold (call_demands before p.1) behind first.1 in
      All-cons (λ (p : ParameterTree). CanBe (structs_in items) (type_in p.0)) p ps (can_type items unbroken p.0 (All-head IsNarrowParameter p ps n) first.0)
      (can_parameters all (called_with before (false, p.1)) ps (All-tail IsNarrowParameter p ps n) second.1)

  -- an item of which nothing is asked in vain
  pub can_declare : (before : List ItemTree) (i : ItemTree) → IsNarrowItem i → first_refusal (item_demands (known_in items) before i) ≡ None → CanDeclare (structs_in items) i
  can_declare before (Struct name body) n e =
      let known = known_in items in
      let measure = struct_measured known name.name in
      let inside = body_types known body in
      let all = both_hold (is_new (filter_map struct_name before) name) (struct_type_demands known name body) e in
      let parts = both_hold (nests name.place measure ∷ ends known name ∷ is_small name.place (is_large measure) (have_past known inside) ∷ []) (types_demands known inside) all.1 in
      can_struct items unbroken body n parts.1
  can_declare before (Variable variable) n e =
      let known = known_in items in
      let initialiser = initialiser_demands known variable.ty variable.initialiser in
      let all = both_hold (is_new (filter_map global_name before) variable.name) (content_demands known variable) e in
      let first = both_hold (type_demands known variable.ty) (initialiser ++ alignment_demands variable.alignment) all.1 in
      let second = both_hold initialiser (alignment_demands variable.alignment) first.1 in
      (can_type items unbroken variable.ty n.0 first.0, short_alignment variable.alignment second.1)
  can_declare before (Alias alias) n e =
      let known = known_in items in
      let all = both_hold (is_new (filter_map global_name before) alias.name) (alias_type_demands known alias.ty ++ is_global known alias.target ∷ []) e in
      can_alias alias.ty n (both_hold (alias_type_demands known alias.ty) (is_global known alias.target ∷ []) all.1).0
  can_declare before (Declaration place head parameters variadic) n e =
      let known = known_in items in
      let all = both_hold (head_demands known (filter_map global_name before) head) (flat_map (type_demands known) parameters) e in
      let first = both_hold (type_demands known head.returns) (is_new (filter_map global_name before) head.name) all.0 in
      (can_type items unbroken head.returns n.0 first.0, can_types items unbroken parameters n.1 all.1)
  can_declare before (Definition place head parameters blocks) n e =
      let known = known_in items in
      let locals = locals_from 0 (announced parameters blocks) in
      let all = both_hold (head_demands known (filter_map global_name before) head) (definition_demands known parameters blocks) e in
      let first = both_hold (type_demands known head.returns) (is_new (filter_map global_name before) head.name) all.0 in
      let body = both_hold (parameters_demands known locals none_called parameters) (blocks_demands known locals (called_after none_called (announced parameters [])) blocks) all.1 in
      (can_type items unbroken head.returns n.0 first.0, can_parameters locals none_called parameters n.1 body.0)
  can_declare before (SourceFilename place text) n e = tt
  can_declare before (DataLayout place text) n e = tt
  can_declare before (TargetTriple place text) n e = tt
  can_declare before (Attributes place) n e = tt
  can_declare before (Metadata place) n e = tt

module _ (items : List ItemTree) (entries : Lists) (given : IsGiven items entries) where
  can_initialise : (ty : TypeTree) (initialiser : Option ConstantTree) → IsNarrow ty → IsNarrowInitialiser initialiser → first_refusal (initialiser_demands (known_in items) ty initialiser) ≡ None
      → CanInitialise (structs_in items) entries initialiser
  can_initialise ty None n m e = tt
  can_initialise ty (Some constant) n m e = can_hold items entries given (type_in ty) constant (bits_narrow ty n) m e

  can_body : (head : HeadTree) (parameters : List ParameterTree) (blocks : List BlockTree) → All IsNarrowBlock blocks → AllAre IsBlockFormed blocks → length parameters + sum_by block_count blocks < 2 ^ 32 - 2
      → first_refusal (definition_demands (known_in items) parameters blocks) ≡ None → CanBody (structs_in items) entries parameters blocks
  can_body head parameters blocks n f few e =
      let locals = locals_from 0 (announced parameters blocks) in
      let before = called_after none_called (announced parameters []) in
      let parts = both_hold (parameters_demands (known_in items) locals none_called parameters) (blocks_demands (known_in items) locals before blocks) e in
      record {
        each = can_blocks items entries given locals (values_of parameters blocks) (labels_of parameters blocks) (are_locals items head parameters blocks e) before blocks n f parts.1;
        few = few;
      }

  -- what completes an item of which nothing is asked in vain
  pub can_complete : (before : List ItemTree) (i : ItemTree) → IsNarrowItem i → IsItemFormed i → item_count i ≤ most_counted → first_refusal (item_demands (known_in items) before i) ≡ None
      → CanComplete (structs_in items) entries i
  can_complete before (Variable variable) n f c e =
      let known = known_in items in
      let initialiser = initialiser_demands known variable.ty variable.initialiser in
      let all = both_hold (is_new (filter_map global_name before) variable.name) (content_demands known variable) e in
      let first = both_hold (type_demands known variable.ty) (initialiser ++ alignment_demands variable.alignment) all.1 in
      let second = both_hold initialiser (alignment_demands variable.alignment) first.1 in
      can_initialise variable.ty variable.initialiser n.0 n.1 second.0
  can_complete before (Alias alias) n f c e =
      let known = known_in items in
      let target = alias.target in
      let all = both_hold (is_new (filter_map global_name before) alias.name) (alias_type_demands known alias.ty ++ is_global known target ∷ []) e in
      let parts = both_hold (alias_type_demands known alias.ty) (is_global known target ∷ []) all.1 in
      can_name items entries given target.name (held (has_name known.globals target.name) (faults.UnknownName target.place (spelled_global target.name)) [] parts.1).0
  can_complete before (Definition place head parameters blocks) n f c e =
      let all = both_hold (head_demands (known_in items) (filter_map global_name before) head) (definition_demands (known_in items) parameters blocks) e in
      can_body head parameters blocks n.2 f.1 (omega (arith, c)) all.1
  can_complete before (Declaration place head parameters variadic) n f c e = tt
  can_complete before (Struct name body) n f c e = tt
  can_complete before (SourceFilename place text) n f c e = tt
  can_complete before (DataLayout place text) n f c e = tt
  can_complete before (TargetTriple place text) n f c e = tt
  can_complete before (Attributes place) n f c e = tt
  can_complete before (Metadata place) n f c e = tt
