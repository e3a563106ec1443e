-- The string table of a well-formed module is bytes.
use Rattle.std.proofs.Common.{◌≡◌, ℕ, ◌+◌, ◌<◌, Bool, true, false, ◌&&◌, nat_lt, cond, List, [], ◌∷◌, ◌++◌, flat_map, filter_map, Option, Some, None, All, refl}
use Rattle.std.specs.List.{list_all, AllByRecursion, fold}
use Rattle.std.specs.Option.{option_to_list}
use Rattle.std.proofs.lemmas.Bool.{and_parts, ltb-true}
use Rattle.std.proofs.lemmas.List.Elements.{All-from_recursion}
use Rattle.module_arena.specs.Functions.{body}
use Rattle.module_arena.specs.Module.{Bytes, LocalName, Named, Numbered, Block, Function, Module}
use Rattle.module_arena.specs.Names.{are_bytes, is_name, is_local_name, local_names, parameter_names, block_results, has_good_names}
use Rattle.module_arena.specs.WellFormed.{IsWellFormed, is_good_text, is_good_function, is_good_type, struct_names, global_names}
use Rattle.module_arena.specs.Functions.{variable_names, alias_names, function_names}
use Rattle.record_table.specs.Fields.{name_in}
use Rattle.record_table.specs.Records.{producer}
use Rattle.record_table.specs.StringTable.{has_text, with_text, once_each, joined}
use Rattle.record_table.specs.Spelling.{names_of_body, texts_of_body, texts_of, string_table}
use Rattle.bitcode_write.proofs.Fitting.{all_front, all_rest}

-- a text of bytes
abbrev IsBytes : Bytes → Type 0
IsBytes text = AllByRecursion (λ (b : ℕ). b < 256) text

abbrev AreTexts : List Bytes → Type 0
AreTexts texts = AllByRecursion IsBytes texts

both : {A : Type 0} (P : A → Type 0) (xs ys : List A) → AllByRecursion P xs → AllByRecursion P ys → AllByRecursion P (xs ++ ys)
both P [] ys h k = k
both P (x ∷ xs) ys h k = (h.0, both P xs ys h.1 k)

of_bytes : (text : Bytes) → are_bytes text ≡ true → IsBytes text
of_bytes [] h = tt
of_bytes (b ∷ bs) h = let p = and_parts (nat_lt b 256) (are_bytes bs) h in (ltb-true b 256 p.0, of_bytes bs p.1)

of_name_bytes : (bs : Bytes) → list_all (λ c. nat_lt 0 c && nat_lt c 256) bs ≡ true → IsBytes bs
of_name_bytes [] h = tt
of_name_bytes (b ∷ bs) h =
    let p = and_parts (nat_lt 0 b && nat_lt b 256) (list_all (λ c. nat_lt 0 c && nat_lt c 256) bs) h in
    (ltb-true b 256 (and_parts (nat_lt 0 b) (nat_lt b 256) p.0).1, of_name_bytes bs p.1)

of_name : (name : Bytes) → is_name name ≡ true → IsBytes name
of_name [] h = tt
of_name (b ∷ bs) h = of_name_bytes (b ∷ bs) h

of_names : (names : List Bytes) → list_all is_name names ≡ true → AreTexts names
of_names [] h = tt
of_names (n ∷ ns) h = let p = and_parts (is_name n) (list_all is_name ns) h in (of_name n p.0, of_names ns p.1)

of_text : (text : Option Bytes) → is_good_text text ≡ true → AreTexts (option_to_list text)
of_text None h = tt
of_text (Some text) h = (of_bytes text h, tt)

of_locals : (names : List LocalName) → list_all is_local_name names ≡ true → AreTexts (filter_map name_in names)
of_locals [] h = tt
of_locals (Named n ∷ ns) h = let p = and_parts (is_name n) (list_all is_local_name ns) h in (of_name n p.0, of_locals ns p.1)
of_locals (Numbered n ∷ ns) h = of_locals ns h

of_blocks : (f : Function) (o : Option (List Block)) → list_all is_local_name (parameter_names f ++ flat_map (λ (b : Block). b.name ∷ block_results b) (body o)) ≡ true
    → AreTexts (flat_map (λ (bs : List Block). filter_map name_in (names_of_body f bs)) (option_to_list o))
of_blocks f None h = tt
of_blocks f (Some bs) h = both IsBytes (filter_map name_in (names_of_body f bs)) [] (of_locals (names_of_body f bs) h) tt

module _ (m : Module) where
  of_bodies : (fs : List Function) → list_all (is_good_function m) fs ≡ true → AreTexts (flat_map texts_of_body fs)
  of_bodies [] h = tt
  of_bodies (f ∷ fs) h =
      let p = and_parts (is_good_function m f) (list_all (is_good_function m) fs) h in
      let q = and_parts _ _ (and_parts _ _ (and_parts (is_good_type m.structs f.returns) _ p.0).1).1 in
      let named = (and_parts (has_good_names f) _ q.1).0 in
      let locals = (and_parts (list_all is_local_name (local_names f)) _ named).0 in
      both IsBytes (texts_of_body f) (flat_map texts_of_body fs) (of_blocks f f.body locals) (of_bodies fs p.1)

  of_all : IsWellFormed m → AreTexts (texts_of m)
  of_all well =
      let texts = and_parts (is_good_text m.source) (is_good_text m.layout && is_good_text m.triple) well.texts in
      let others = and_parts (is_good_text m.layout) (is_good_text m.triple) texts.1 in
      let globals = (and_parts (list_all is_name (global_names m)) _ well.global_names).0 in
      let behind = all_rest is_name (variable_names m) (alias_names m ++ function_names m) globals in
      let ss = (and_parts (list_all is_name (struct_names m)) _ well.struct_names).0 in
      both IsBytes _ _
      (both IsBytes _ _
      (both IsBytes _ _
      (both IsBytes _ _
      (both IsBytes _ _
      (both IsBytes _ _ (both IsBytes (option_to_list m.source) (option_to_list m.layout) (of_text m.source texts.0) (of_text m.layout others.0)) (of_text m.triple others.1))
      (of_names (struct_names m) ss))
      (of_names (variable_names m) (all_front is_name (variable_names m) (alias_names m ++ function_names m) globals)))
      (of_names (function_names m) (all_rest is_name (alias_names m) (function_names m) behind)))
      (of_names (alias_names m) (all_front is_name (alias_names m) (function_names m) behind)))
      (of_bodies m.functions well.functions)

more : (all : List Bytes) (text : Bytes) → AreTexts all → IsBytes text → AreTexts (with_text all text)
more all [] h k = h
more all (b ∷ bs) h k = by_test (has_text all (b ∷ bs)) where
  by_test : (there : Bool) → AreTexts (cond there all (all ++ (b ∷ bs) ∷ []))
  by_test true = h
  by_test false = both IsBytes all ((b ∷ bs) ∷ []) h (k, tt)

each_once : (texts all : List Bytes) → AreTexts all → AreTexts texts → AreTexts (fold with_text all texts)
each_once [] all h k = h
each_once (t ∷ ts) all h k = each_once ts (with_text all t) (more all t h k.0) k.1

as_one : (texts : List Bytes) → AreTexts texts → IsBytes (joined texts)
as_one [] h = tt
as_one (t ∷ ts) h = both (λ (b : ℕ). b < 256) t (joined ts) h.0 (as_one ts h.1)

pub table_bytes : (m : Module) → IsWellFormed m → All (λ (b : ℕ). b < 256) (string_table m)
table_bytes m well = All-from_recursion (λ (b : ℕ). b < 256) (string_table m) (as_one (once_each (texts_of m)) (each_once (texts_of m) [] tt (of_all m well)))

-- and so is the producer's name
pub producer_bytes : All (λ (b : ℕ). b < 256) producer
producer_bytes = All-from_recursion (λ (b : ℕ). b < 256) producer (of_bytes producer refl)
