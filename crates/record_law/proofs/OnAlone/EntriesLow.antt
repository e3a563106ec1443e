-- The records of texts, variables, functions and aliases that fit have operands of 64 bits.
use Rattle.std.proofs.Common.{◌≡◌, ℕ, suc, ◌+◌, ◌^◌, ◌<◌, ◌≤◌, true, List, [], ◌∷◌, ◌++◌, length, map, flat_map, Option, Some, None, is_some, arith}
use Rattle.std.specs.Prelude.{bytes_eq}
use Rattle.std.specs.List.{list_all, AllByRecursion}
use Rattle.std.specs.Option.{option_to_list}
use Rattle.std.proofs.lemmas.Bool.{and_parts, leb-true}
use Rattle.ir_tables.specs.declared.linkage.Linkage.{Linkage}
use Rattle.ir_tables.specs.declared.linkage.Linkage.TheVariants.{External}
use Rattle.ir_tables.specs.Linkage.{linkage_code}
use Rattle.type_table.specs.Tree.{Tree}
use Rattle.module_arena.specs.Module.{Bytes, Named, Numbered, Constant, Variable, AliasType, PlainType, FunctionType, Alias, Function, Module}
use Rattle.module_arena.specs.Same.{same_type}
use Rattle.module_arena.specs.WellFormed.{is_good_constant, known_of_variable}
use Rattle.record_table.specs.Fields.{Numbering, bool_code, ty, same_option, coded_alignments}
use Rattle.record_table.specs.Layout.{place, option_spell}
use Rattle.record_table.specs.Listed.{IsName}
use Rattle.record_table.specs.Constants.{constant}
use Rattle.record_table.specs.FittingConstants.{Fits}
use Rattle.record_table.specs.FittingLines.{IfSome}
use Rattle.record_table.specs.Records.{variable, function, alias, types_of}
use Rattle.record_table.specs.StringTable.{once_each, offset_in, is_within}
use Rattle.record_table.specs.Spelling.{string_table, texts_of, texts_in, text_line, head_lines, global_lines, numbering}
use Rattle.record_law.specs.FittingEntries.{VariableFits, AliasFits}
use Rattle.record_law.specs.FittingModules.{Globals, EachFits}
use Rattle.record_law.proofs.OnTypes.Tests.{all_front, all_rest, both_of}
use Rattle.record_law.proofs.OnFits.EntriesFit.{RecordFits}
use Rattle.record_law.proofs.OnAlone.Numbers.{IsSmall, next, one, join, counted, indexed, AreFew}
use Rattle.record_law.proofs.OnAlone.ConstantsLow.{type_low, known_low}
use Rattle.record_law.proofs.OnAlone.LinesLow.{LowLabels, bool_low, alignment_low, types_low, type_some}
use Rattle.record_law.proofs.OnAlone.BodiesLow.{IsLowLine}

linkage_low : (l : Linkage) → linkage_code l < 2 ^ 64
linkage_low External = omega arith
linkage_low _ = omega arith

module _ (m : Module) (short : length (string_table m) < 2 ^ 37) where
  abbrev pub offset : Bytes → ℕ
  offset text = offset_in (once_each (texts_of m)) text

  -- where a text stands, and how long it is
  sized : (text : Bytes) → (texts_in m).holds text ≡ true → offset text + length text ≤ length (string_table m)
  sized text held = leb-true (offset text + length text) (length (string_table m)) (and_parts (is_within (string_table m) (offset text) (length text)) _ held).0

  pub offset_low : (text : Bytes) → (texts_in m).holds text ≡ true → offset text < 2 ^ 64
  offset_low text held = let all = sized text held in omega (arith, all, short)

  pub length_low : (text : Bytes) → (texts_in m).holds text ≡ true → length text < 2 ^ 37
  length_low text held = let all = sized text held in omega (arith, all, short)

  text_low : (text : Bytes) → (texts_in m).holds text ≡ true → IsSmall (offset text ∷ length text ∷ [])
  text_low text held = let less = length_low text held in next (offset text) _ (offset_low text held) (one (length text) (omega (arith, less)))

  pub labels_low : LowLabels (texts_in m)
  labels_low own (Named text) fit =
      let less = length_low text fit.0 in
      next (suc (length text)) _ (omega (arith, less)) (one (offset text) (offset_low text fit.0))
  labels_low own (Numbered n) fit = one 0 (omega arith)

  text_line_low : (code : ℕ) (text : Option Bytes) → code < 2 ^ 32 → IfSome (λ t. (texts_in m).holds t ≡ true) text → AllByRecursion IsLowLine (text_line (texts_in m) code text)
  text_line_low code None less held = tt
  text_line_low code (Some text) less held = (record { code = less; operands = text_low text held }, tt)

  pub head_low : IfSome (λ t. (texts_in m).holds t ≡ true) m.source → IfSome (λ t. (texts_in m).holds t ≡ true) m.layout → IfSome (λ t. (texts_in m).holds t ≡ true) m.triple → AllByRecursion IsLowLine (head_lines (texts_in m) m)
  head_low source layout triple =
      let a = text_line (texts_in m) 2 m.source in
      let b = text_line (texts_in m) 3 m.layout in
      let c = text_line (texts_in m) 4 m.triple in
      let others = both_of IsLowLine (a ++ b) c (both_of IsLowLine a b (text_line_low 2 m.source (omega arith) source) (text_line_low 3 m.layout (omega arith) layout)) (text_line_low 4 m.triple (omega arith) triple) in
      (record { code = omega arith; operands = one 2 (omega arith) }, others)

  module _ (few : AreFew (numbering m)) where
    abbrev k : Numbering
    k = numbering m

    -- a name in front of other operands
    named : (name : Bytes) (others : List ℕ) → IsName (texts_in m) name → IsSmall others → IsSmall (offset name ∷ length name ∷ others)
    named name others fit rest = let less = length_low name fit.0 in next (offset name) _ (offset_low name fit.0) (next (length name) others (omega (arith, less)) rest)

    initial_low : (t : Tree) (o : Option Constant) → IfSome (λ c. Fits k c 64 t) o → list_all (is_good_constant m) (map (λ c. (t, c)) (option_to_list o)) ≡ true → IsSmall (option_spell (constant k t) o)
    initial_low t None fit good = one 0 (omega arith)
    initial_low t (Some c) fit good = next 1 _ (omega arith) (known_low m k few t c fit (and_parts (is_good_constant m (t, c)) true good).0)

    variables_low : (vs : List Variable) → AllByRecursion (VariableFits (texts_in m) k) vs → list_all (is_good_constant m) (flat_map known_of_variable vs) ≡ true → AllByRecursion IsLowLine (map (λ v. (5, (variable (texts_in m) k).spell v)) vs)
    variables_low [] fit good = tt
    variables_low (v ∷ vs) fit good =
        let initial = initial_low v.ty v.initialiser fit.0.3 (all_front (is_good_constant m) (known_of_variable v) (flat_map known_of_variable vs) good) in
        let behind = next (linkage_code v.linkage) _ (linkage_low v.linkage) (next (bool_code v.constant) _ (bool_low v.constant) (next (place same_type k.types v.ty) _ (type_low m k few v.ty fit.0.1)
        (next (place same_option coded_alignments v.alignment) _ (alignment_low v.alignment fit.0.2) initial))) in
        (record { code = omega arith; operands = named v.name _ fit.0.0 behind }, variables_low vs fit.1 (all_rest (is_good_constant m) (known_of_variable v) (flat_map known_of_variable vs) good))

    functions_low : (fs : List Function) → AllByRecursion (RecordFits m) fs → AllByRecursion IsLowLine (map (λ f. (6, (function (texts_in m) k).spell (is_some f.body, f))) fs)
    functions_low [] fit = tt
    functions_low (f ∷ fs) fit =
        let types = counted (ty k).spell (types_of f) (type_some m k few) (types_low m k few (types_of f) fit.0.2) in
        let behind = next (linkage_code f.linkage) _ (linkage_low f.linkage) (next (bool_code (is_some f.body)) _ (bool_low (is_some f.body)) (next (place same_type k.types f.returns) _ (type_low m k few f.returns fit.0.1)
        (next (bool_code f.variadic) _ (bool_low f.variadic) types))) in
        (record { code = omega arith; operands = named f.name _ fit.0.0 behind }, functions_low fs fit.1)

    alias_low : (name : Bytes) (l : Linkage) (t : AliasType) (target : Bytes) → AliasFits (texts_in m) k (record { name = name; linkage = l; ty = t; target = target })
        → IsSmall ((alias (texts_in m) k).spell (record { name = name; linkage = l; ty = t; target = target }))
    alias_low name l (PlainType t) target fit =
        named name _ fit.0 (next (linkage_code l) _ (linkage_low l) (next 0 _ (omega arith) (next (place same_type k.types t) _ (type_low m k few t fit.1)
        (one (place bytes_eq k.targets target) (indexed bytes_eq k.targets [] target fit.2 few.targets)))))
    alias_low name l (FunctionType s) target fit =
        let types = counted (ty k).spell s.parameters (type_some m k few) (types_low m k few s.parameters fit.1.1) in
        named name _ fit.0 (next (linkage_code l) _ (linkage_low l) (next 1 _ (omega arith) (next (place same_type k.types s.returns) _ (type_low m k few s.returns fit.1.0)
        (next (bool_code s.variadic) _ (bool_low s.variadic)
        (join (length s.parameters ∷ flat_map (ty k).spell s.parameters) (place bytes_eq k.targets target ∷ []) types (one (place bytes_eq k.targets target) (indexed bytes_eq k.targets [] target fit.2 few.targets)))))))

    aliases_low : (all : List Alias) → AllByRecursion (AliasFits (texts_in m) k) all → AllByRecursion IsLowLine (map (λ a. (7, (alias (texts_in m) k).spell a)) all)
    aliases_low [] fit = tt
    aliases_low (a ∷ all) fit = (record { code = omega arith; operands = alias_low a.name a.linkage a.ty a.target fit.0 }, aliases_low all fit.1)

    pub globals_low : AllByRecursion (VariableFits (texts_in m) k) m.variables → list_all (is_good_constant m) (flat_map known_of_variable m.variables) ≡ true → AllByRecursion (RecordFits m) m.functions → AllByRecursion (AliasFits (texts_in m) k) m.aliases
        → AllByRecursion IsLowLine (global_lines (texts_in m) m)
    globals_low vs good fs as_ =
        let a = map (λ (v : Variable). (5, (variable (texts_in m) k).spell v)) m.variables in
        let b = map (λ (f : Function). (6, (function (texts_in m) k).spell (is_some f.body, f))) m.functions in
        let c = map (λ (x : Alias). (7, (alias (texts_in m) k).spell x)) m.aliases in
        both_of IsLowLine (a ++ b) c (both_of IsLowLine a b (variables_low m.variables vs good) (functions_low m.functions fs)) (aliases_low m.aliases as_)

-- what is said of each, one behind the other
pub each_of : {A : Type 0} (next : Globals → A → Globals) (fits : Globals → A → Type 0) (P : A → Type 0) → ((g : Globals) (x : A) → fits g x → P x) → (xs : List A) (g : Globals) → EachFits next fits g xs → AllByRecursion P xs
each_of next fits P from [] g all = tt
each_of next fits P from (x ∷ xs) g all = (from g x all.0, each_of next fits P from xs (next g x) all.1)
