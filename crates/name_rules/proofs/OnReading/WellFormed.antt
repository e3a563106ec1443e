-- What bytes read to is well formed.
use Rattle.std.proofs.Common.{◌≡◌, ℕ, ◌&&◌, nat_le, List, [], ◌∷◌, ◌++◌, map, length, Bool, true, false, Option, Some, None, option_map, refl, sym, ap, subst, ◌∙◌, bytes_eq}
use Rattle.std.specs.List.{list_all, list_any, cons_option, flat_map}
use Rattle.std.specs.Prelude.{filter_map, option_to_list}
use Rattle.std.proofs.lemmas.Bool.{and_from, or_left, or_right}
use Rattle.std.proofs.lemmas.Slice.Eq.{bytes_eq-Decides}
use Rattle.std.proofs.lemmas.Option.{same_Some}
use Rattle.ir_tables.specs.Table.{is_distinct}
use Rattle.ir_terminals.specs.declared.values.PlacedText.{PlacedText}
use Rattle.ir_phrases.specs.Constants.Tree.{TypeTree, ConstantTree}
use Rattle.ir_phrases.specs.Constants.Forms.{AllAre}
use Rattle.ir_phrases.proofs.OnConstants.Gives.{IfThere}
use Rattle.ir_syntax.specs.Tree.{ItemTree, BodyTree, OpaqueBody, PlainBody, PackedBody, AliasTypeTree, PlainAlias, FunctionAlias, SourceFilename, DataLayout, TargetTriple, Struct, Variable, Alias, Declaration, Definition}
use Rattle.ir_syntax.specs.Forms.{IsInitialiserFormed, IsItemFormed}
use Rattle.ir_syntax.proofs.Formed.{items_formed}
use Rattle.type_table.specs.Shape.{shape}
use Rattle.type_table.specs.Tree.{TreeBody, named, Structs}
use Rattle.module_arena.specs.declared.fault.CountKind.{CountKind}
use Rattle.module_arena.specs.declared.fault.CountKind.TheVariants as kinds
use Rattle.module_arena.specs.Known.{counted_aliases}
use Rattle.module_arena.specs.Module.{Bytes, Module}
use Rattle.module_arena.specs.Module as m
use Rattle.module_arena.specs.Functions.{blocks, variable_names, alias_names, function_names}
use Rattle.module_arena.specs.Names.{are_bytes, is_name}
use Rattle.module_arena.specs.Forms.{is_small_alignment}
use Rattle.module_arena.specs.WellFormed.{struct_names, global_names, are_good_names, is_within_limits, is_good_type, is_good_body, are_good_structs, known_of_block, known_of_variable, module_constants, has_entry, is_good_constant, is_good_variable, types_of_alias, is_good_alias, is_good_function, is_good_text, count_for_aliases, has_few_entries, IsWellFormed}
use Rattle.module_arena.proofs.WithinLimits.{within_limits_decides}
use Rattle.name_rules.specs.declared.fault.ResolveFault.{ResolveFault}
use Rattle.name_rules.specs.declared.fault.ResolveFault.TheVariants as faults
use Rattle.name_rules.specs.Spelled.{spelled_global}
use Rattle.name_rules.specs.Written.{type_in, body_in, constant_in, alignment_in}
use Rattle.name_rules.specs.ModuleOf.{first_of, source_in, layout_in, triple_in, text_in, struct_in, structs_in, variable_of, variable_in, alias_type_in, alias_of, alias_in, declared, defined, function_in, module_of_items}
use Rattle.name_rules.specs.Demand.{first_refusal, is_new, is_small, is_large, nests}
use Rattle.name_rules.specs.TypeDemands.{Known, has_name, is_global, struct_measured, have_past, type_demands, types_demands, body_types, ends, struct_type_demands}
use Rattle.name_rules.specs.FunctionDemands.{alignment_demands, definition_demands}
use Rattle.name_rules.specs.Breaks.{struct_name, global_name, known_in, initialiser_demands, content_demands, alias_type_demands, head_demands, item_demands, demands_behind, demands, most, no_more, too_many, first_break}
use Rattle.name_rules.specs.Laws.{ReadsWell}
use Rattle.name_rules.proofs.Judging.{held, both_hold}
use Rattle.name_rules.proofs.NewNames.{structs_distinct, globals_distinct}
use Rattle.name_rules.proofs.Fine.{EachStruct, StructWithin, structs_fine, unbroken}
use Rattle.name_rules.proofs.OnReading.Types.{HasWidths, HaveWidths, all_widths}
use Rattle.name_rules.proofs.OnReading.Constants.{IsWell}
use Rattle.name_rules.proofs.OnReading.Items.{IsBodyWell, IsAliasTypeWell, IsItemWell, items_well}
use Rattle.name_rules.proofs.OnReading.GoodTypes.{good_type, good_body}
use Rattle.name_rules.proofs.OnReading.GoodConstants.{good_constant}
use Rattle.name_rules.proofs.OnReading.GoodOperations.{small_alignment}
use Rattle.name_rules.proofs.OnReading.GoodFunctions.{good_declaration, good_definition, definition_constants}
use Rattle.name_rules.proofs.OnReading.Entries.{entries_distinct, entry_there, struct_names_same}
use Rattle.name_rules.proofs.OnReading.Tests.{all_append, all_there, all_flat_there, all_mapped_there, all_both}

-- ---- counts

count_fits : (kind : CountKind) (count : ℕ) (further : Option ResolveFault) → no_more kind count further ≡ None → (nat_le count most ≡ true) × (further ≡ None)
count_fits kind count further e = by (nat_le count most) refl e
  where
    by : (b : Bool) → nat_le count most ≡ b → elim b as (λ _. Option ResolveFault) [ true ↦ further | false ↦ Some (faults.TooMany kind count) ] ≡ None → (nat_le count most ≡ true) × (further ≡ None)
    by true q e = (q, e)
    by false q e = absurd cc

same_count : (as_ : List m.Alias) (vs : List m.Variable) (fs : List m.Function) → counted_aliases (length as_) (length vs) (length fs) ≡ count_for_aliases as_ vs fs
same_count [] vs fs = refl
same_count (a ∷ as_) vs fs = refl

few_entries : (items : List ItemTree) → too_many items ≡ None → has_few_entries (module_of_items items) ≡ true
few_entries items e =
    let vs = filter_map variable_in items in
    let as_ = filter_map alias_in items in
    let fs = filter_map function_in items in
    let aliases = no_more kinds.Aliases (counted_aliases (length as_) (length vs) (length fs)) None in
    let first = count_fits kinds.Structs (length (structs_in items)) (no_more kinds.Variables (length vs) (no_more kinds.Functions (length fs) aliases)) e in
    let second = count_fits kinds.Variables (length vs) (no_more kinds.Functions (length fs) aliases) first.1 in
    let third = count_fits kinds.Functions (length fs) aliases second.1 in
    let fourth = count_fits kinds.Aliases (counted_aliases (length as_) (length vs) (length fs)) None third.1 in
    let last : nat_le (count_for_aliases as_ vs fs) 262144 ≡ true = ap (λ n. nat_le n 262144) (sym (same_count as_ vs fs)) ∙ fourth.0 in
    and_from (nat_le (length (structs_in items)) 262144) _ first.0
    (and_from (nat_le (length vs) 262144) _ second.0 (and_from (nat_le (length fs) 262144) _ third.0 last))

-- ---- texts

text_good : (kind : ItemTree → Option PlacedText) → ((i : ItemTree) → IsItemWell i → (t : PlacedText) → kind i ≡ Some t → are_bytes t.text ≡ true) → (items : List ItemTree) → AllAre IsItemWell items → is_good_text (text_in kind items) ≡ true
text_good kind each [] h = refl
text_good kind each (i ∷ more) h = by (kind i) refl (text_good kind each more h.1)
  where
    by : (o : Option PlacedText) → kind i ≡ o → is_good_text (text_in kind more) ≡ true → is_good_text (option_map (λ t. t.text) (first_of (cons_option o (filter_map kind more)))) ≡ true
    by None e rest = rest
    by (Some t) e rest = each i h.0 t e

source_good : (i : ItemTree) → IsItemWell i → (t : PlacedText) → source_in i ≡ Some t → are_bytes t.text ≡ true
source_good (SourceFilename place text) w t e = subst (λ (x : PlacedText). are_bytes x.text ≡ true) (same_Some text t e) w
source_good _ w t e = absurd cc

layout_good : (i : ItemTree) → IsItemWell i → (t : PlacedText) → layout_in i ≡ Some t → are_bytes t.text ≡ true
layout_good (DataLayout place text) w t e = subst (λ (x : PlacedText). are_bytes x.text ≡ true) (same_Some text t e) w
layout_good _ w t e = absurd cc

triple_good : (i : ItemTree) → IsItemWell i → (t : PlacedText) → triple_in i ≡ Some t → are_bytes t.text ≡ true
triple_good (TargetTriple place text) w t e = subst (λ (x : PlacedText). are_bytes x.text ≡ true) (same_Some text t e) w
triple_good _ w t e = absurd cc

-- ---- names

struct_named : (i : ItemTree) → IsItemWell i → (s : Bytes × TreeBody) → struct_in i ≡ Some s → is_name s.0 ≡ true
struct_named (Struct name body) w s e = subst (λ (x : Bytes × TreeBody). is_name x.0 ≡ true) (same_Some (name.name, body_in body) s e) w.0
struct_named _ w s e = absurd cc

variable_named : (i : ItemTree) → IsItemWell i → (v : m.Variable) → variable_in i ≡ Some v → is_name v.name ≡ true
variable_named (Variable written) w v e = subst (λ (x : m.Variable). is_name x.name ≡ true) (same_Some (variable_of written) v e) w.0
variable_named _ w v e = absurd cc

alias_named : (i : ItemTree) → IsItemWell i → (a : m.Alias) → alias_in i ≡ Some a → is_name a.name ≡ true
alias_named (Alias written) w a e = subst (λ (x : m.Alias). is_name x.name ≡ true) (same_Some (alias_of written) a e) w.0
alias_named _ w a e = absurd cc

function_named : (i : ItemTree) → IsItemWell i → (f : m.Function) → function_in i ≡ Some f → is_name f.name ≡ true
function_named (Declaration place head parameters variadic) w f e = subst (λ (x : m.Function). is_name x.name ≡ true) (same_Some (declared head parameters variadic) f e) w.0.1
function_named (Definition place head parameters bs) w f e = subst (λ (x : m.Function). is_name x.name ≡ true) (same_Some (defined head parameters bs) f e) w.0.1
function_named _ w f e = absurd cc

-- ---- what is known of each item

-- by its phrase, and since nothing fails that it asks for
abbrev IsFine : Known → ItemTree → Type 0
IsFine known i = IsItemWell i × IsItemFormed i × ((before : List ItemTree) × (first_refusal (item_demands known before i) ≡ None))

all_fine : (known : Known) (before items : List ItemTree) → AllAre IsItemWell items → AllAre IsItemFormed items → first_refusal (demands_behind known before items) ≡ None → AllAre (IsFine known) items
all_fine known before [] w f e = tt
all_fine known before (i ∷ more) w f e =
    let parts = both_hold (item_demands known before i) (demands_behind known (before ++ i ∷ []) more) e in
    ((w.0, f.0, (before, parts.0)), all_fine known (before ++ i ∷ []) more w.1 f.1 parts.1)

-- ---- structs

body_widths : (known : Known) (body : BodyTree) → IsBodyWell body → HaveWidths (body_types known body)
body_widths known OpaqueBody w = tt
body_widths known (PlainBody parts) w = all_widths parts w
body_widths known (PackedBody parts) w = all_widths parts w

-- each name of a list is in it
names_inside : (all xs : Structs) → ((x : Bytes) → list_any (λ s. bytes_eq s.0 x) xs ≡ true → list_any (λ s. bytes_eq s.0 x) all ≡ true) → list_all (λ t. list_any (λ s. bytes_eq s.0 t.0) all) xs ≡ true
names_inside all [] k = refl
names_inside all (s ∷ xs) k =
    and_from (list_any (λ x. bytes_eq x.0 s.0) all) _ (k s.0 (or_left (bytes_eq s.0 s.0) _ ((bytes_eq-Decides s.0 s.0).1 refl)))
    (names_inside all xs (λ x h. k x (or_right (bytes_eq s.0 x) _ h)))

limits_hold : (all xs : Structs) → EachStruct (StructWithin all) xs → list_all (λ s. is_within_limits (shape all (named s.0))) xs ≡ true
limits_hold all [] h = refl
limits_hold all (s ∷ xs) h = and_from (is_within_limits (shape all (named s.0))) _ ((within_limits_decides (shape all (named s.0))).1 h.0.0) (limits_hold all xs h.1)

module _ (items : List ItemTree) (well : AllAre IsItemWell items) (formed : AllAre IsItemFormed items) (holds : first_refusal (demands items) ≡ None) where
  abbrev the_module : Module
  the_module = module_of_items items

  entries : (name : Bytes) → has_name (known_in items).globals name ≡ true → has_entry (module_of_items items) name ≡ true
  entries name h = entry_there items name h

  fine : AllAre (IsFine (known_in items)) items
  fine = all_fine (known_in items) [] items well formed holds

  struct_body_good : (i : ItemTree) → IsFine (known_in items) i → (s : Bytes × TreeBody) → struct_in i ≡ Some s → is_good_body (structs_in items) s.1 ≡ true
  struct_body_good (Struct name body) (w, f, (before, e)) s q =
      let known = known_in items in
      let all = both_hold (is_new (filter_map struct_name before) name) (struct_type_demands known name body) e in
      let types = types_demands known (body_types known body) in
      let large = both_hold (nests name.place (struct_measured known name.name) ∷ ends known name ∷ is_small name.place (is_large (struct_measured known name.name)) (have_past known (body_types known body)) ∷ []) types all.1 in
      subst (λ (x : Bytes × TreeBody). is_good_body (structs_in items) x.1 ≡ true) (same_Some (name.name, body_in body) s q)
      (good_body items holds body (body_widths known body w.1) large.1)
  struct_body_good _ h s q = absurd cc

  structs_good : are_good_structs (structs_in items) ≡ true
  structs_good =
      let structs = structs_in items in
      all_both (λ s. is_good_body structs s.1) (λ s. is_good_type structs (named s.0)) structs
      (all_there (λ s. is_good_body structs s.1) struct_in (IsFine (known_in items)) struct_body_good items fine)
      (all_both (λ s. list_any (λ x. bytes_eq x.0 s.0) structs) (λ s. is_within_limits (shape structs (named s.0))) structs
      (names_inside structs structs (λ x h. h)) (limits_hold structs structs (structs_fine items holds)))

  -- ---- variables

  variable_good : (i : ItemTree) → IsFine (known_in items) i → (v : m.Variable) → variable_in i ≡ Some v → is_good_variable (module_of_items items) v ≡ true
  variable_good (Variable written) (w, f, (before, e)) v q =
      let known = known_in items in
      let all = both_hold (is_new (filter_map global_name before) written.name) (content_demands known written) e in
      let first = both_hold (type_demands known written.ty) (initialiser_demands known written.ty written.initialiser ++ alignment_demands written.alignment) all.1 in
      let second = both_hold (initialiser_demands known written.ty written.initialiser) (alignment_demands written.alignment) first.1 in
      subst (λ (x : m.Variable). is_good_variable (module_of_items items) x ≡ true) (same_Some (variable_of written) v q)
      (and_from (is_good_type (structs_in items) (type_in written.ty)) (is_small_alignment (alignment_in written.alignment)) (good_type items holds written.ty w.1 first.0) (small_alignment written.alignment second.1))
  variable_good _ h v q = absurd cc

  initialiser_good : (ty : TypeTree) (written : Option ConstantTree) → is_good_type (structs_in items) (type_in ty) ≡ true → IfThere (IsWell 64) written → IsInitialiserFormed written → first_refusal (initialiser_demands (known_in items) ty written) ≡ None
      → list_all (is_good_constant (module_of_items items)) (map (λ c. (type_in ty, c)) (option_to_list (option_map (constant_in (type_in ty)) written))) ≡ true
  initialiser_good ty None h w f e = refl
  initialiser_good ty (Some c) h w f e = and_from (is_good_constant (module_of_items items) (type_in ty, constant_in (type_in ty) c)) true (good_constant items holds entries (type_in ty) c h w f e) refl

  variable_constants : (i : ItemTree) → IsFine (known_in items) i → (v : m.Variable) → variable_in i ≡ Some v → list_all (is_good_constant (module_of_items items)) (known_of_variable v) ≡ true
  variable_constants (Variable written) (w, f, (before, e)) v q =
      let known = known_in items in
      let all = both_hold (is_new (filter_map global_name before) written.name) (content_demands known written) e in
      let first = both_hold (type_demands known written.ty) (initialiser_demands known written.ty written.initialiser ++ alignment_demands written.alignment) all.1 in
      let second = both_hold (initialiser_demands known written.ty written.initialiser) (alignment_demands written.alignment) first.1 in
      subst (λ (x : m.Variable). list_all (is_good_constant (module_of_items items)) (known_of_variable x) ≡ true) (same_Some (variable_of written) v q)
      (initialiser_good written.ty written.initialiser (good_type items holds written.ty w.1 first.0) w.2 f.1 second.0)
  variable_constants _ h v q = absurd cc

  -- ---- aliases

  types_are : (ts : List TypeTree) → AllAre HasWidths ts → first_refusal (flat_map (type_demands (known_in items)) ts) ≡ None → list_all (is_good_type (structs_in items)) (map type_in ts) ≡ true
  types_are [] w e = refl
  types_are (t ∷ ts) w e =
      let parts = both_hold (type_demands (known_in items) t) (flat_map (type_demands (known_in items)) ts) e in
      and_from (is_good_type (structs_in items) (type_in t)) _ (good_type items holds t w.0 parts.0) (types_are ts w.1 parts.1)

  alias_types_good : (ty : AliasTypeTree) → IsAliasTypeWell ty → first_refusal (alias_type_demands (known_in items) ty) ≡ None → list_all (is_good_type (structs_in items)) (types_of_alias (alias_type_in ty)) ≡ true
  alias_types_good (PlainAlias t) w e = and_from (is_good_type (structs_in items) (type_in t)) true (good_type items holds t w e) refl
  alias_types_good (FunctionAlias returns parameters variadic) w e =
      let parts = both_hold (type_demands (known_in items) returns) (flat_map (type_demands (known_in items)) parameters) e in
      and_from (is_good_type (structs_in items) (type_in returns)) _ (good_type items holds returns w.0 parts.0) (types_are parameters w.1 parts.1)

  alias_good : (i : ItemTree) → IsFine (known_in items) i → (a : m.Alias) → alias_in i ≡ Some a → is_good_alias (module_of_items items) a ≡ true
  alias_good (Alias written) (w, f, (before, e)) a q =
      let known = known_in items in
      let all = both_hold (is_new (filter_map global_name before) written.name) (alias_type_demands known written.ty ++ is_global known written.target ∷ []) e in
      let parts = both_hold (alias_type_demands known written.ty) (is_global known written.target ∷ []) all.1 in
      let there = held (has_name known.globals written.target.name) (faults.UnknownName written.target.place (spelled_global written.target.name)) [] parts.1 in
      subst (λ (x : m.Alias). is_good_alias (module_of_items items) x ≡ true) (same_Some (alias_of written) a q)
      (and_from (list_all (is_good_type (structs_in items)) (types_of_alias (alias_type_in written.ty))) (has_entry (module_of_items items) written.target.name)
      (alias_types_good written.ty w.1 parts.0) (entries written.target.name there.0))
  alias_good _ h a q = absurd cc

  -- ---- functions

  function_good : (i : ItemTree) → IsFine (known_in items) i → (f : m.Function) → function_in i ≡ Some f → is_good_function (module_of_items items) f ≡ true
  function_good (Declaration place head parameters variadic) (w, g, (before, e)) f q =
      let known = known_in items in
      let all = both_hold (head_demands known (filter_map global_name before) head) (flat_map (type_demands known) parameters) e in
      let first = both_hold (type_demands known head.returns) (is_new (filter_map global_name before) head.name) all.0 in
      subst (λ x. is_good_function (module_of_items items) x ≡ true) (same_Some (declared head parameters variadic) f q)
      (good_declaration items holds entries head parameters variadic w.0.0 w.1 first.0 all.1)
  function_good (Definition place head parameters bs) (w, g, (before, e)) f q =
      let known = known_in items in
      let all = both_hold (head_demands known (filter_map global_name before) head) (definition_demands known parameters bs) e in
      let first = both_hold (type_demands known head.returns) (is_new (filter_map global_name before) head.name) all.0 in
      subst (λ x. is_good_function (module_of_items items) x ≡ true) (same_Some (defined head parameters bs) f q)
      (good_definition items holds entries head parameters bs all.1 w.1 w.2 g.1 w.0.0 g.0 first.0)
  function_good _ h f q = absurd cc

  function_constants : (i : ItemTree) → IsFine (known_in items) i → (f : m.Function) → function_in i ≡ Some f → list_all (is_good_constant (module_of_items items)) (flat_map known_of_block (blocks f)) ≡ true
  function_constants (Declaration place head parameters variadic) (w, g, (before, e)) f q =
      subst (λ x. list_all (is_good_constant (module_of_items items)) (flat_map known_of_block (blocks x)) ≡ true) (same_Some (declared head parameters variadic) f q) refl
  function_constants (Definition place head parameters bs) (w, g, (before, e)) f q =
      let known = known_in items in
      let all = both_hold (head_demands known (filter_map global_name before) head) (definition_demands known parameters bs) e in
      subst (λ x. list_all (is_good_constant (module_of_items items)) (flat_map known_of_block (blocks x)) ≡ true) (same_Some (defined head parameters bs) f q)
      (definition_constants items holds entries head parameters bs all.1 w.1 w.2 g.1)
  function_constants _ h f q = absurd cc

  constants_good : list_all (is_good_constant (module_of_items items)) (module_constants (module_of_items items)) ≡ true
  constants_good =
      all_append (is_good_constant (module_of_items items)) (flat_map known_of_variable (filter_map variable_in items)) (flat_map (λ f. flat_map known_of_block (blocks f)) (filter_map function_in items))
      (all_flat_there (is_good_constant (module_of_items items)) variable_in known_of_variable (IsFine (known_in items)) variable_constants items fine)
      (all_flat_there (is_good_constant (module_of_items items)) function_in (λ f. flat_map known_of_block (blocks f)) (IsFine (known_in items)) function_constants items fine)

  -- ---- names of entries

  structs_named : are_good_names (struct_names (module_of_items items)) ≡ true
  structs_named =
      and_from (list_all is_name (map (λ s. s.0) (structs_in items))) (is_distinct bytes_eq (map (λ s. s.0) (structs_in items)))
      (all_mapped_there is_name struct_in (λ s. s.0) IsItemWell struct_named items well)
      (ap (is_distinct bytes_eq) (struct_names_same items) ∙ structs_distinct (known_in items) items holds)

  globals_named : are_good_names (global_names (module_of_items items)) ≡ true
  globals_named =
      let vs = variable_names (module_of_items items) in
      let as_ = alias_names (module_of_items items) in
      let fs = function_names (module_of_items items) in
      and_from (list_all is_name (vs ++ (as_ ++ fs))) (is_distinct bytes_eq (global_names (module_of_items items)))
      (all_append is_name vs (as_ ++ fs) (all_mapped_there is_name variable_in (λ v. v.name) IsItemWell variable_named items well)
      (all_append is_name as_ fs (all_mapped_there is_name alias_in (λ a. a.name) IsItemWell alias_named items well)
      (all_mapped_there is_name function_in (λ f. f.name) IsItemWell function_named items well)))
      (entries_distinct items (globals_distinct (known_in items) items holds))

  texts_good : (is_good_text (text_in source_in items) && (is_good_text (text_in layout_in items) && is_good_text (text_in triple_in items))) ≡ true
  texts_good =
      and_from (is_good_text (text_in source_in items)) _ (text_good source_in source_good items well)
      (and_from (is_good_text (text_in layout_in items)) (is_good_text (text_in triple_in items)) (text_good layout_in layout_good items well) (text_good triple_in triple_good items well))

-- items of a text of bytes that break nowhere are a well formed module
items_well_formed : (items : List ItemTree) → AllAre IsItemWell items → AllAre IsItemFormed items → first_break items ≡ None → IsWellFormed (module_of_items items)
items_well_formed items well formed e =
    let parts = unbroken items e in
    record {
      texts = texts_good items well formed parts.1;
      few = few_entries items parts.0;
      struct_names = structs_named items well formed parts.1;
      global_names = globals_named items well formed parts.1;
      structs = structs_good items well formed parts.1;
      variables = all_there (is_good_variable (module_of_items items)) variable_in (IsFine (known_in items)) (variable_good items well formed parts.1) items (fine items well formed parts.1);
      aliases = all_there (is_good_alias (module_of_items items)) alias_in (IsFine (known_in items)) (alias_good items well formed parts.1) items (fine items well formed parts.1);
      functions = all_there (is_good_function (module_of_items items)) function_in (IsFine (known_in items)) (function_good items well formed parts.1) items (fine items well formed parts.1);
      constants = constants_good items well formed parts.1;
    }

pub reads_well : ReadsWell
reads_well text the_one bytes h =
    subst IsWellFormed (sym h.resolves.joined)
    (items_well_formed h.items (items_well text h.items bytes h.has_items) (items_formed text h.items h.has_items).each h.resolves.unbroken)
