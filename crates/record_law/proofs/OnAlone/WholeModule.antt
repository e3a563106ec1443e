-- The records of a module that fits may be written, where its spelling is small.
use Rattle.std.proofs.Common.{◌≡◌, ℕ, suc, ◌+◌, ◌^◌, ◌<◌, ◌≤◌, ◌==◌, true, false, List, [], ◌∷◌, ◌++◌, length, map, flat_map, filter_map, Option, Some, None, refl, sym, ap, ◌∙◌, subst, arith, inl, inr}
use Rattle.std.specs.Prelude.{nat_lt, nat_le}
use Rattle.std.specs.List.{list_all, AllByRecursion}
use Rattle.std.proofs.lemmas.Bool.{and_parts, ltb-true, leb-true}
use Rattle.std.proofs.lemmas.List.{length-append, length-map}
use Rattle.bit_stream.specs.Writer.{begun}
use Rattle.bit_tree.specs.Written.{Written, no_more, a_definition, a_short_record, written, Allowed}
use Rattle.type_table.specs.Tree.{TreeBody}
use Rattle.module_arena.specs.Functions.{blocks, body}
use Rattle.module_arena.specs.Module.{Bytes, Block, Variable, Alias, Function, Module}
use Rattle.module_arena.specs.WellFormed.{IsWellFormed, is_good_constant, known_of_variable, known_of_block, alias_count, count_for_aliases}
use Rattle.record_table.specs.Fields.{Texts, Numbering, label}
use Rattle.record_table.specs.Listed.{AreBytes, IsLabel}
use Rattle.record_table.specs.Lays.{Lays}
use Rattle.record_table.specs.Mentions.{mentioned}
use Rattle.record_table.specs.Records.{producer}
use Rattle.record_table.specs.StringTable.{has_text, once_each, offset_in}
use Rattle.record_table.specs.Spelling.{Line, put, put_block, put_bytes, put_bodies, put_module, written_module, head_lines, type_lines, global_lines, body_of, body_lines, within, numbering, string_table, texts_of, texts_in}
use Rattle.record_table.proofs.TextsBack as back
use Rattle.record_law.specs.FittingEntries.{VariableFits, AliasFits}
use Rattle.record_law.specs.FittingModules.{PartsFit, FunctionFits, after_variable, after_function, after_alias, VariableFollows, FunctionFollows, AliasFollows, none_yet, behind_variables, behind_functions, behind_types, ModuleFits}
use Rattle.record_law.proofs.OpeningBack.{table_of_bytes}
use Rattle.record_law.proofs.OnTypes.Tests.{all_front, all_rest, each_passes}
use Rattle.record_law.proofs.OnTypes.TextsHeld.{struct_held}
use Rattle.record_law.proofs.OnTypes.TypesFit.{has_each}
use Rattle.record_law.proofs.OnFits.EntriesFit.{RecordFits}
use Rattle.bit_tree.specs.Sizes.Plain.{MayBlock, IsPlain, IsOfBytes, IsWhole, of_bytes, AreShort, weight}
use Rattle.bit_tree.proofs.OnSizes.Grows.{total, size, around_kept, grows}
use Rattle.bit_tree.proofs.OnSizes.Wholes.{wholes_allowed, wholes_short, records_few}
use Rattle.record_law.proofs.OnAlone.Numbers.{AreFew}
use Rattle.record_law.proofs.OnAlone.BodiesLow.{IsLowLine, body_low}
use Rattle.record_law.proofs.OnAlone.EntriesLow.{labels_low, head_low, globals_low, each_of}
use Rattle.record_law.proofs.OnAlone.TypesLow.{block_of_types_low}
use Rattle.record_law.proofs.OnAlone.Counted.{types_counted, parts_weight, body_counted, label_some}
use Rattle.record_law.proofs.OnAlone.Counted as counts

-- ---- bytes
below : (bytes : List ℕ) → AreBytes bytes → AllByRecursion (λ (n : ℕ). n < 256) bytes
below [] fit = tt
below (b ∷ bytes) fit = (ltb-true b 256 fit.0, below bytes fit.1)

producer_bytes : AreBytes producer
producer_bytes = each_passes (λ b. nat_lt b 256) producer refl

bytes_block : (bytes : List ℕ) → AreBytes bytes → IsOfBytes 3 (a_definition of_bytes (a_short_record 4 1 bytes no_more))
bytes_block bytes fit = record { bytes = bytes; is = refl; small = below bytes fit; wide = omega arith }

may_block : (id : ℕ) → id < 2 ^ 32 → (id == 0) ≡ false → MayBlock id 3
may_block id less ordinary = record { id_small = less; ordinary = ordinary; low = omega arith; high = omega arith }

-- ---- records
lines_plain : (room : ℕ) (lines : List Line) (behind : Written) → AllByRecursion IsLowLine lines → IsPlain room behind → IsPlain room (put lines behind)
unfolding IsPlain
lines_plain room [] behind low plain = plain
lines_plain room (line ∷ lines) behind low plain = (record { code_small = low.0.code; numbers = low.0.operands.all }, lines_plain room lines behind low.1 plain)

none_plain : (room : ℕ) → IsPlain room no_more
unfolding IsPlain
none_plain room = tt

block_plain : (room id : ℕ) (inside behind : Written) → id < 2 ^ 32 → (id == 0) ≡ false → IsPlain room inside → IsPlain (suc room) behind → IsPlain (suc room) (put_block id inside behind)
unfolding IsPlain
block_plain room id inside behind less ordinary here later = (may_block id less ordinary, here, later)

total_nothing : total [] ≡ 0
unfolding total
total_nothing = refl

module _ (m : Module) (well : IsWellFormed m) (fit : ModuleFits m) (small : length (written begun (written_module m)).bits < 2 ^ 37) where
  abbrev texts : Texts
  texts = texts_in m

  abbrev k : Numbering
  k = numbering m

  abbrev inside : Written
  inside = put_module (texts_in m) m

  table_bytes : AreBytes (string_table m)
  table_bytes = table_of_bytes m fit.texts_are_bytes

  -- the producer and the table, in front of the module
  abbrev opening : Written
  opening = put_bytes 13 producer (put_bytes 23 (string_table m) no_more)

  opening_whole : IsWhole opening
  unfolding IsWhole
  opening_whole = (may_block 13 (omega arith) refl, inl (bytes_block producer producer_bytes), (may_block 23 (omega arith) refl, inl (bytes_block (string_table m) table_bytes), tt))

  in_parts : written begun (written_module m) ≡ written (written begun opening) (put_block 8 inside no_more)
  unfolding written
  in_parts = refl

  none_around : total (written begun (written_module m)).around ≡ 0
  none_around = ap total (around_kept (written_module m) begun) ∙ total_nothing

  opening_small : length (written begun opening).bits < 2 ^ 37
  opening_small =
      let more = grows (put_block 8 inside no_more) (written begun opening) in
      let same = ap size in_parts in
      let nothing = none_around in
      omega (arith, more, same, nothing, small)

  table_short : length (string_table m) < 2 ^ 37
  unfolding AreShort bytes_block
  table_short = (wholes_short opening opening_whole opening_small).1.0 (bytes_block (string_table m) table_bytes)

  -- ---- counts
  light : weight (written_module m) < 2 ^ 37
  light = let all = records_few (written_module m) in omega (arith, all, small)

  few_types : length (mentioned m) < 2 ^ 37
  few_types = let all = types_counted m in let most = light in omega (arith, all, most)

  few_structs : length (map (λ s. s.0) m.structs) < 2 ^ 37
  few_structs =
      let few = leb-true (length m.structs) 262144 (and_parts (nat_le (length m.structs) 262144) _ well.few).0 in
      omega (arith, few, length-map m.structs (λ (s : Bytes × TreeBody). s.0))

  at_most : (all : List Alias) → count_for_aliases all m.variables m.functions ≤ 262144 → length all ≤ 262144
  at_most [] few = omega arith
  at_most (a ∷ all) few = omega (arith, few)

  few_entries : AreFew (numbering m)
  few_entries =
      let a = and_parts (nat_le (length m.structs) 262144) _ well.few in
      let b = and_parts (nat_le (length m.variables) 262144) _ a.1 in
      let c = and_parts (nat_le (length m.functions) 262144) (nat_le (alias_count m) 262144) b.1 in
      let vs = leb-true (length m.variables) 262144 b.0 in
      let fs = leb-true (length m.functions) 262144 c.0 in
      let as_ = at_most m.aliases (leb-true (alias_count m) 262144 c.1) in
      let of_variables = map (λ (v : Variable). v.name) m.variables in
      let of_functions = map (λ (f : Function). f.name) m.functions in
      let names = of_variables ++ of_functions in
      let targets : length names ≤ 524288 = omega (arith, vs, fs, length-append of_variables of_functions, length-map m.variables (λ (v : Variable). v.name), length-map m.functions (λ (f : Function). f.name)) in
      let types = few_types in
      record {
        types = omega (arith, types);
        globals = omega (arith, targets, as_, length-append names (map (λ (a : Alias). a.name) m.aliases), length-map m.aliases (λ (a : Alias). a.name));
        targets = omega (arith, targets);
        values = omega arith;
        blocks = omega arith;
      }

  placed_some : (text : Option (List ℕ)) → 0 < length (texts.label.spell text)
  placed_some None = omega arith
  placed_some (Some text) = omega arith

  few_locals : (f : Function) (bs : List Block) → counts.total (body_lines texts k f bs) ≤ weight (written_module m) → AreFew (within k f bs)
  few_locals f bs most =
      let entries = few_entries in
      let counted = body_counted texts (label_some texts placed_some) k f bs in
      let all = light in
      record {
        types = entries.types;
        globals = entries.globals;
        targets = entries.targets;
        values = omega (arith, counted.0, most, all);
        blocks = omega (arith, counted.1, most, all);
      }

  -- ---- bodies
  unfoldable bodies_put : List Function → Written
  bodies_put fs = put_bodies (filter_map (body_of texts k) fs) no_more

  passed : (f : Function) (rest : List Function) → f.body ≡ None → bodies_put (f ∷ rest) ≡ bodies_put rest
  unfolding bodies_put
  passed f rest is = rw is refl

  begins : (f : Function) (bs : List Block) (rest : List Function) → f.body ≡ Some bs → bodies_put (f ∷ rest) ≡ put_block 12 (put (body_lines texts k f bs) no_more) (bodies_put rest)
  unfolding bodies_put
  begins f bs rest is = rw is refl

  abbrev Good : List Block → Type 0
  Good bs = list_all (is_good_constant m) (flat_map known_of_block bs) ≡ true

  lays : (own : ℕ) → Lays (IsLabel texts own) (label texts own)
  lays = back.lays_label (string_table m) (offset_in (once_each (texts_of m)))

  front_weight : (bs : List Block) (f : Function) (rest : List Function) → weight (put_block 12 (put (body_lines texts k f bs) no_more) (bodies_put rest)) ≡ counts.total (body_lines texts k f bs) + weight (bodies_put rest)
  unfolding weight
  front_weight bs f rest = let all = counts.none_weight (body_lines texts k f bs) in omega (arith, all)

  nothing_put : IsPlain 15 (bodies_put [])
  unfolding bodies_put
  nothing_put = none_plain 15

  by_body : (o : Option (List Block)) (f : Function) (rest : List Function) → f.body ≡ o → PartsFit texts k f o → Good (body o) → weight (bodies_put (f ∷ rest)) ≤ weight (written_module m)
      → (weight (bodies_put rest) ≤ weight (written_module m) → IsPlain 15 (bodies_put rest)) → IsPlain 15 (bodies_put (f ∷ rest))
  by_body None f rest is parts good most later =
      let same = passed f rest is in
      subst (IsPlain 15) (sym same) (later (omega (arith, most, ap weight same)))
  by_body (Some bs) f rest is parts good most later =
      let same = begins f bs rest is in
      let sum = ap weight same ∙ front_weight bs f rest in
      let lines = body_low m texts lays (labels_low m table_short) k f bs parts (few_locals f bs (omega (arith, most, sum))) good in
      subst (IsPlain 15) (sym same) (block_plain 14 12 (put (body_lines texts k f bs) no_more) (bodies_put rest) (omega arith) refl (lines_plain 14 (body_lines texts k f bs) no_more lines (none_plain 14)) (later (omega (arith, most, sum))))

  bodies_plain : (fs : List Function) → AllByRecursion (FunctionFits texts k) fs → list_all (is_good_constant m) (flat_map (λ f. flat_map known_of_block (blocks f)) fs) ≡ true → weight (bodies_put fs) ≤ weight (written_module m) → IsPlain 15 (bodies_put fs)
  bodies_plain [] parts good most = nothing_put
  bodies_plain (f ∷ fs) parts good most =
      let here = flat_map known_of_block (blocks f) in
      let others = flat_map (λ (g : Function). flat_map known_of_block (blocks g)) fs in
      by_body f.body f fs refl parts.0 (all_front (is_good_constant m) here others good) most (λ less. bodies_plain fs parts.1 (all_rest (is_good_constant m) here others good) less)

  -- ---- the module
  bodies_light : weight (bodies_put m.functions) ≤ weight (written_module m)
  unfolding bodies_put
  bodies_light = let all = parts_weight m in omega (arith, all)

  all_bodies : IsPlain 15 (put_bodies (filter_map (body_of texts k) m.functions) no_more)
  unfolding bodies_put
  all_bodies =
      let in_variables = flat_map known_of_variable m.variables in
      let in_functions = flat_map (λ (f : Function). flat_map known_of_block (blocks f)) m.functions in
      bodies_plain m.functions fit.tail_fits.bodies_fit (all_rest (is_good_constant m) in_variables in_functions well.constants) bodies_light

  abbrev at : ℕ
  at = fit.types_are_read.all.at

  variables_fit : AllByRecursion (VariableFits texts k) m.variables
  variables_fit = each_of after_variable (VariableFollows (behind_types m at)) (VariableFits texts k) (λ g v fits. fits.0) m.variables (none_yet at) fit.tail_fits.variables_fit

  records_fit : AllByRecursion (RecordFits m) m.functions
  records_fit = each_of after_function (FunctionFollows (behind_types m at)) (RecordFits m) (λ g f fits. fits.0) m.functions (behind_variables m.variables at) fit.tail_fits.functions_fit

  aliases_fit : AllByRecursion (AliasFits texts k) m.aliases
  aliases_fit = each_of after_alias (AliasFollows (behind_types m at)) (AliasFits texts k) (λ g a fits. fits.0) m.aliases (behind_functions m.variables m.functions at) fit.tail_fits.aliases_fit

  structs_held : (names : List Bytes) → AllByRecursion (λ x. has_text (map (λ s. s.0) m.structs) x ≡ true) names → AllByRecursion (λ name. (texts_in m).holds name ≡ true) names
  structs_held [] there = tt
  structs_held (n ∷ names) there = (struct_held m n there.0, structs_held names there.1)

  module_plain : IsPlain 15 (put_module (texts_in m) m)
  module_plain =
      let names = map (λ (s : Bytes × TreeBody). s.0) m.structs in
      let in_variables = flat_map known_of_variable m.variables in
      let in_functions = flat_map (λ (f : Function). flat_map known_of_block (blocks f)) m.functions in
      let tail = put (global_lines texts m) (put_bodies (filter_map (body_of texts k) m.functions) no_more) in
      let types = put (type_lines texts (mentioned m) m) no_more in
      let head = head_low m table_short fit.source_is_held fit.layout_is_held fit.triple_is_held in
      let block = block_of_types_low m well few_types few_structs table_short (structs_held names (has_each names)) in
      let globals = globals_low m table_short few_entries variables_fit (all_front (is_good_constant m) in_variables in_functions well.constants) records_fit aliases_fit in
      lines_plain 15 (head_lines texts m) (put_block 17 types tail) head
      (block_plain 14 17 types tail (omega arith) refl (lines_plain 14 (type_lines texts (mentioned m) m) no_more block (none_plain 14))
      (lines_plain 15 (global_lines texts m) (put_bodies (filter_map (body_of texts k) m.functions) no_more) globals all_bodies))

  all_whole : IsWhole (written_module m)
  unfolding IsWhole
  all_whole = (
    may_block 13 (omega arith) refl,
    inl (bytes_block producer producer_bytes),
    (may_block 23 (omega arith) refl, inl (bytes_block (string_table m) table_bytes), (may_block 8 (omega arith) refl, inr module_plain, tt)),
  )

  -- each call of the writer may be made
  pub all_allowed : Allowed begun (written_module m)
  all_allowed = wholes_allowed (written_module m) all_whole small
