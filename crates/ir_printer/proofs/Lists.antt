-- The parameters of functions, one behind the other.
use Rattle.std.proofs.Common.{◌≡◌, ℕ, zero, suc, ◌+◌, ◌-◌, ◌<◌, ◌≤◌, Bool, true, false, List, [], ◌∷◌, codes, map, length, drop, get_or, slice_get, Option, Some, None, refl, sym, ap, ◌∙◌, arith}
use Rattle.std.proofs.lemmas.List.{at_drop_more, at_drop_all, length-drop, length_push}
use Rattle.std.proofs.lemmas.List.{length-map, get_or-map}
use Rattle.std.proofs.lemmas.Option.{get_or_from_slice_get, slice_get_within}
use Rattle.ir_printer.specs.Gathered.Told.{GatherState}
use Rattle.ir_lexer.specs.Pieces.{Nothing}
use Rattle.type_table.specs.Tree.{opaque_body}
use Rattle.type_table.specs.declared.ir_type.StructBody.{StructBody}
use Rattle.type_table.specs.Types.{Types, trees, tree, trees_at, tree_struct, tree_body, structs, names, bodies}
use Rattle.module_arena.specs.declared.entry.Parameter.{Parameter}
use Rattle.module_arena.specs.Module.{Bytes}
use Rattle.module_arena.specs.View.{type_at}
use Rattle.canonical.specs.Operations.{dotted}
use Rattle.canonical.specs.Phrase.{Phrase, mark, listed}
use Rattle.canonical.specs.Types.{type_phrase, type_phrases}
use Rattle.ir_printer.specs.Phrases.Printing.{Prints, separator_before, comma_before}
use Rattle.ir_printer.proofs.OnPhrases.Printing.{prints_same, prints_part}
use Rattle.ir_printer.specs.Listed.{declared_list}

-- types one by one
pub types_mapped : (t : Types) (parts : List ℕ) → type_phrases (trees_at (trees t) parts) ≡ map type_phrase (map (type_at (trees t)) parts)
types_mapped t [] = refl
types_mapped t (x ∷ xs) = ap (λ (ps : List Phrase). type_phrase (tree t x) ∷ ps) (types_mapped t xs)

-- how many dots there are
abbrev pub dots : Bool → ℕ
dots false = 0
dots true = 1

-- before a comma, or before what closes the list, there is no space
nothing_before : (n : ℕ) → separator_before n Nothing ≡ Nothing
nothing_before zero = refl
nothing_before (suc n) = refl

many : (ps : List Phrase) (variadic : Bool) → length (dotted ps variadic) ≡ length ps + dots variadic
many ps false = omega arith
many ps true = length_push ps (mark (codes "..."))

dotted_first : (p : Phrase) (ps : List Phrase) (variadic : Bool) → dotted (p ∷ ps) variadic ≡ p ∷ dotted ps variadic
dotted_first p ps false = refl
dotted_first p ps true = refl

mapped : (t : Types) (xs : List Parameter) → length (map (λ (p : Parameter). type_phrase (tree t p.ty)) xs) ≡ length xs
mapped t [] = refl
mapped t (x ∷ xs) = ap suc (mapped t xs)

module _ (t : Types) (variadic : Bool) where
  -- one type more is put
  pub declared_more : (parts : List Parameter) (place others : ℕ) (d : Parameter) {w x y z : GatherState} → place < length parts → others ≡ length parts - 1 - place + dots variadic
      → Prints w x (type_phrase (tree t (get_or parts place d).ty) Nothing) → Prints x y (comma_before others)
      → Prints y z (declared_list t (drop (place + 1) parts) variadic) → Prints w z (declared_list t (drop place parts) variadic)
  declared_more parts place others d lt is h j k =
      let rest = drop (place + 1) parts in
      let p = type_phrase (tree t (get_or parts place d).ty) in
      let ps = map (λ (q : Parameter). type_phrase (tree t q.ty)) rest in
      let count : others ≡ length (dotted ps variadic) = omega (arith, is, lt, many ps variadic, mapped t rest, length-drop (place + 1) parts) in
      prints_same (ap (λ (qs : List Phrase). listed qs Nothing) (sym (dotted_first p ps variadic)) ∙ sym (at_drop_more (λ (qs : List Parameter). declared_list t qs variadic) parts place d lt))
      (prints_part p (dotted ps variadic) Nothing (prints_same (ap p (sym (nothing_before (length (dotted ps variadic))))) h) (prints_same (ap comma_before count) j) k)

  -- at the end the dots are left, where there are any
  pub declared_end : (parts : List Parameter) (place : ℕ) {y z : GatherState} → length parts ≤ place → Prints y z (listed (dotted [] variadic) Nothing) → Prints y z (declared_list t (drop place parts) variadic)
  declared_end parts place le h = prints_same (sym (at_drop_all (λ (qs : List Parameter). declared_list t qs variadic) parts place le)) h

-- a struct by its name and its body
pub struct_at : (t : Types) (id : ℕ) (name : Bytes) (body : Option StructBody) → slice_get (names t) id ≡ Some name → slice_get (bodies t) id ≡ Some body
    → get_or (structs t) id ([], opaque_body) ≡ (name, tree_body (trees t) body)
struct_at t id name body named bodied =
    let here : List ℕ × Option StructBody = ([], None) in
    let lt : id < length t.structs = omega (arith, slice_get_within (names t) id name named, length-map t.structs (λ (s : List ℕ × Option StructBody). s.0)) in
    let one = sym (get_or-map (λ (s : List ℕ × Option StructBody). s.0) t.structs id here [] lt) ∙ get_or_from_slice_get (names t) id name [] named in
    let two = sym (get_or-map (λ (s : List ℕ × Option StructBody). s.1) t.structs id here None lt) ∙ get_or_from_slice_get (bodies t) id body None bodied in
    get_or-map (tree_struct (trees t)) t.structs id here ([], opaque_body) lt ∙ (λ j. (one j, tree_body (trees t) (two j)))
