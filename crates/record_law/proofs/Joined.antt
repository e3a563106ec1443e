-- A module that fits is read of its records.
use Rattle.std.proofs.Common.{◌≡◌, ℕ, true, List, [], ◌++◌, Option, Some, None, Ok, refl, sym, ap, ◌∙◌}
use Rattle.std.specs.Prelude.{map, filter_map}
use Rattle.bit_stream.specs.Writer.{begun}
use Rattle.bit_tree.specs.Written.{Written, no_more, tree_of}
use Rattle.type_table.specs.Tree.{Tree, Structs}
use Rattle.type_table.specs.Types.{structs}
use Rattle.module_arena.specs.Module.{Bytes, Module}
use Rattle.record_table.specs.Fields.{Texts, Numbering}
use Rattle.record_table.specs.StringTable.{once_each, offset_in, read_only}
use Rattle.record_table.proofs.TextsBack as back
use Rattle.record_table.specs.Faults.{Answer, ◌>>=◌, Records, module_id, types_id, no_more as nothing_more}
use Rattle.record_table.specs.TypeRecords.{Listed}
use Rattle.record_table.specs.Mentions.{mentioned}
use Rattle.record_table.specs.Records.{Sofar, at_first, known_at_first, may_follow, module_from, module_block, nothing_behind, read, StandFor, names_of}
use Rattle.record_table.specs.Spelling.{put, put_block, put_bodies, put_module, written_module, records_put, type_lines, global_lines, body_of, string_table, texts_of, texts_in, numbering}
use Rattle.record_law.specs.FittingModules.{IsRead, behind_types, at_types, ModuleFits}
use Rattle.record_law.proofs.Gathered.{variables_gathered, functions_gathered, aliases_gathered}
use Rattle.record_law.proofs.HeadBack.{last_text, head_back}
use Rattle.record_law.proofs.TypesStep.{after_types, types_step}
use Rattle.record_law.proofs.TailBack.{tail_back}
use Rattle.record_law.proofs.OneModule.{openings_back}
use Rattle.record_law.proofs.RecordsPut.{all_put}
use Rattle.record_law.proofs.RereadModules.{with_texts, nowhere, known_same, read_without}

types_may : (source layout triple : Option Bytes) → may_follow (last_text (last_text (last_text 1 2 source) 3 layout) 4 triple) 5 ≡ true
types_may None None None = refl
types_may None None (Some t) = refl
types_may None (Some t) None = refl
types_may None (Some t) (Some u) = refl
types_may (Some t) None None = refl
types_may (Some t) None (Some u) = refl
types_may (Some t) (Some u) None = refl
types_may (Some t) (Some u) (Some v) = refl

-- what is read, by another way
read_by : (m : Module) (one other : Answer Sofar) → one ≡ other → IsRead m other → IsRead m one
read_by m one other same read = record { sofar = read.sofar; is = same ∙ read.is; same = read.same }

module _ (m : Module) (fit : ModuleFits m) where
  abbrev texts : Texts
  texts = texts_in m

  abbrev table : Bytes
  table = string_table m

  abbrev offset_of : Bytes → ℕ
  offset_of = offset_in (once_each (texts_of m))

  abbrev inside : Records
  inside = records_put (put_module texts m)

  abbrev types_inside : Records
  types_inside = records_put (put (type_lines texts (mentioned m) m) no_more)

  abbrev bodies : Written
  bodies = put_bodies (filter_map (body_of texts (numbering m)) m.functions) no_more

  abbrev tail : Written
  tail = put (global_lines texts m) bodies

  -- what indices stand for, with these types and structs
  abbrev known_with : List Bytes → List Bytes → List Bytes → Numbering
  known_with variables functions aliases =
      record { types = []; structs = []; targets = variables ++ functions; globals = variables ++ functions ++ aliases; values = []; blocks = [] }

  abbrev unknown_types : Numbering
  unknown_types = record (numbering m) { types = []; structs = [] }

  known : known_at_first texts inside ≡ unknown_types
  known =
      ap (λ names. known_with names (names_of texts 6 inside) (names_of texts 7 inside)) (variables_gathered texts (back.lays_name table offset_of) m fit.variables_are_named)
      ∙ ap (λ names. known_with (map (λ v. v.name) m.variables) names (names_of texts 7 inside)) (functions_gathered texts (back.lays_name table offset_of) m fit.functions_are_named)
      ∙ ap (known_with (map (λ v. v.name) m.variables) (map (λ f. f.name) m.functions)) (aliases_gathered texts (back.lays_name table offset_of) m fit.aliases_are_named)

  -- before VERSION, and behind the texts
  abbrev state : ℕ → ℕ → Option Bytes → Option Bytes → Option Bytes → Numbering → Sofar
  state at last source layout triple k =
      record { texts = texts; at = at; last = last; source = source; layout = layout; triple = triple; variables = []; functions = []; aliases = []; k = k }

  abbrev last_before : ℕ
  last_before = last_text (last_text (last_text 1 2 m.source) 3 m.layout) 4 m.triple

  head_read : module_from (state 2 0 None None None unknown_types) inside
      ≡ module_from (state (at_types m) last_before m.source m.layout m.triple unknown_types) (records_put (put_block types_id (put (type_lines texts (mentioned m) m) no_more) tail))
  head_read = head_back (state 2 0 None None None unknown_types) (back.lays_sized table offset_of) 2 m (put_block types_id (put (type_lines texts (mentioned m) m) no_more) tail) refl fit.source_is_held fit.layout_is_held fit.triple_is_held

  abbrev all : Listed
  all = fit.types_are_read.all

  -- what is read of the block of types
  unfoldable with_types : List Tree → Structs → Sofar
  with_types types bodies_of = state all.at 5 m.source m.layout m.triple (record unknown_types { types = types; structs = bodies_of })

  types_are : after_types (state (at_types m) last_before m.source m.layout m.triple unknown_types) all ≡ behind_types m all.at
  unfolding with_types
  types_are = ap (λ types. with_types types (structs all.types)) fit.types_are_read.types_are ∙ ap (with_types (mentioned m)) fit.types_are_read.structs_are

  up_to_tail : module_from (at_first texts 2 inside) inside ≡ module_from (behind_types m all.at) (records_put tail)
  up_to_tail =
      ap (λ k. module_from (state 2 0 None None None k) inside) known ∙ head_read
      ∙ types_step (state (at_types m) last_before m.source m.layout m.triple unknown_types) types_inside (records_put tail) all fit.types_are_read.is (types_may m.source m.layout m.triple)
      ∙ ap (λ s. module_from s (records_put tail)) types_are

  pub module_read : IsRead m (module_from (at_first texts 2 inside) inside)
  module_read = read_by m (module_from (at_first texts 2 inside) inside) (module_from (behind_types m all.at) (records_put tail)) up_to_tail
      (tail_back (behind_types m all.at) (back.lays_label table offset_of) (back.lays_name table offset_of) m.variables m.functions m.aliases all.at fit.tail_fits)

  -- and so with the table alone
  read_of_table : IsRead m (module_from (at_first (read_only table) 2 inside) inside)
  read_of_table = read_by m (module_from (at_first (read_only table) 2 inside) inside) (module_from (with_texts table (nowhere table) (at_first texts 2 inside)) inside)
      (ap (λ k. module_from (record (at_first (read_only table) 2 inside) { k = k }) inside) (sym (known_same table offset_of inside)))
      (read_without table offset_of m (at_first texts 2 inside) inside module_read)

  block_read : module_block (read_only table) 2 (records_put (put_block module_id (put_module texts m) no_more)) ≡ Ok m
  block_read =
      ap (λ (answer : Answer Sofar). answer >>= λ s. nothing_behind s nothing_more) read_of_table.is ∙ ap (λ (n : Module). Ok n) read_of_table.same

  pub stands : StandFor (tree_of begun (written_module m)) m
  stands = ap read (all_put m) ∙ openings_back m fit.texts_are_bytes ∙ block_read
